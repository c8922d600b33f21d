-- What the numbers of an answer are, for every card.
use mathlib.Core.Path.{◌≡◌, refl}
use mathlib.Core.List.{List, [], ◌∷◌}
use mathlib.Core.Logic.{◌≢◌}
use Prim.Native.Nat.{ℕ, zero, suc, ◌+◌, ◌≤◌, ◌<◌}
use native.Mathlib.Omega.{arith}
use lib.ListN.{length, get_or}
use Rattle.grammar.specs.Grammar.{Grammar, Formed}
use Rattle.grammar.specs.Card.{terminals, nonterminals, form_fault, grammar_of}
use Rattle.grammar.proofs.CardLaws.{well_formed, formed, fault_most}
use Rattle.lr.specs.States.{States}
use Rattle.lr.specs.Cells.{Action, shifts, reduces, accepts}
use Rattle.lr.proofs.ItemLaws.{AllProductive, all_productive}
use Rattle.lr.proofs.Paths.{state_automaton}
use Rattle.lalr.specs.Answer.{Answer, made, refused, useless_at, conflict, numbers_of}
use Rattle.lalr.specs.ComputedAnswer.{card_answer}
use Rattle.lalr.specs.Meaning.{Judged}
use Rattle.lalr.proofs.Main.{card_answer_is}
use Rattle.listing.proofs.Room.{Small}

pub data Words : List ℕ → Type 0 where
  nil : Words []
  cons : (n : ℕ) {ns : List ℕ} → n < 65536 → Words ns → Words (n ∷ ns)

pub small : {ns : List ℕ} → Words ns → Small ns
small nil i = omega arith
small (cons n h w) zero = h
small (cons n h w) (suc i) = small w i

-- the numbers of a refusal: the first is not 0, they are at most five, and of 16 bits
pub record Refusal (a : Answer) : Type 0 where
  pub some : 0 < get_or (numbers_of a) 0 0
  pub few : length (numbers_of a) ≤ 5
  pub words : Words (numbers_of a)

-- a table, or a refusal
pub data Printed : Answer → Type 0 where
  table : Printed made
  line : (a : Answer) → Refusal a → Printed a

alone : (n : ℕ) → 0 < n → n < 65536 → Printed (refused n)
alone n k h = line (refused n) (record { some = k; few = omega arith; words = cons n h nil })

action_small : (g : Grammar) → Formed g → AllProductive g → g.productions ≤ 128 → (count : ℕ) (next : ℕ → ℕ → ℕ) → States g count next → count ≤ 256
    → {q m v : ℕ} → q < count → Action g next q m v → v < 65536
action_small g f pr few count next st most {q} {m} h (shifts k nz) = let b : next q m < count = (state_automaton g f pr count next st).next_below h in omega arith
action_small g f pr few count next st most h (reduces r k l) = omega arith
action_small g f pr few count next st most h (accepts l) = omega arith

module _ (c : List ℕ) (h : form_fault c ≡ 0) where
  judged : {a : Answer} → Judged (grammar_of c) a → Printed a
  judged (Judged.useless {x} n u l) =
      let b : x < terminals c + nonterminals c = n.below in
      let w = (well_formed c h).limits in
      line (useless_at x) (record { some = omega arith; few = omega arith; words = cons 10 (omega arith) (cons x (omega (arith, w.terminals_to, w.nonterminals_to)) nil) })
  judged (Judged.many u m) = alone 11 (omega arith) (omega arith)
  judged (Judged.wide count next u s f w) = alone 12 (omega arith) (omega arith)
  judged (Judged.clash count next {q} {m} {v} {w} s k) =
      let l = (well_formed c h).limits in
      let t : m < terminals c = k.terminal in
      let a : (u : ℕ) → Action (grammar_of c) next q m u → u < 65536 = λ u b. action_small (grammar_of c) (formed c (well_formed c h)) (all_productive (grammar_of c) (λ x n. (s.useful.each_nonterminal x n).productive)) l.productions_to count next s.states s.few k.state b in
      line (conflict q m v w)
      (record {
        some = omega arith;
        few = omega arith;
        words = cons 13 (omega arith) (cons q (omega (arith, s.few, k.state)) (cons m (omega (arith, l.terminals_to)) (cons v (a v k.numbers.first) (cons w (a w k.numbers.second) nil))));
      })
  judged (Judged.fine count next s f) = table

pub answer_printed : (c : List ℕ) → Printed (card_answer c)
answer_printed c = go (form_fault c) refl
  where
    go : (n : ℕ) → form_fault c ≡ n → Printed (card_answer c)
    go zero e = judged c e ((card_answer_is c e (card_answer c)).0 refl)
    go (suc n) e = rw (e, card_answer) (alone (suc n) (omega arith) (omega (arith, fault_most c)))

-- an answer without a table is a refusal
pub not_made : (c : List ℕ) → card_answer c ≢ made → Refusal (card_answer c)
not_made c n = go (answer_printed c) n
  where
    go : {a : Answer} → Printed a → a ≢ made → Refusal a
    go table n = absurd (n refl)
    go (line a r) n = r
