-- The lowest nonterminal that is not in both sets.
use mathlib.Core.Path.{◌≡◌, sym, ap, ◌∙◌}
use mathlib.Core.Bool.{Bool, true, false, not, ◌&&◌, false≢true}
use mathlib.Core.List.{List}
use mathlib.Core.Logic.{⊎_elim}
use Prim.Native.Nat.{ℕ, ◌+◌, ◌-◌, ◌^◌, ◌≤◌, ◌<◌}
use native.Mathlib.Omega.{arith}
use lib.Bits.{bit_and}
use lib.Count.{trailing_le}
use borrow.Author.Tests.{not-true, not-false}
use Rattle.sets.specs.Bit.{bit, Lowest}
use Rattle.sets.proofs.BitLaws.{bit_of_and, bit_not, bit_zero, bit_bound}
use Rattle.sets.proofs.HasLaws.{lt_or_ge}
use Rattle.sets.proofs.TestLaws.{and_true, and_both, and_false}
use Rattle.grammar.specs.Card.{terminals, nonterminals, grammar_of, form_fault}
use Rattle.grammar.specs.Useful.{Productive, Reachable, Useful, LowestUseless}
use Rattle.grammar.proofs.CardLaws.{well_formed}
use Rattle.nonterminals.specs.Sets.{NonterminalSet}

pub lowest_le : {w s r : ℕ} → Lowest w s r → r ≤ w
lowest_le {w} {s} l = rw l.value (trailing_le w s)

module _ (c : List ℕ) (fault : form_fault c ≡ 0) (p r : ℕ) (made : NonterminalSet (grammar_of c) (Productive (grammar_of c)) p)
    (reached : NonterminalSet (grammar_of c) (Reachable (grammar_of c)) r) (low : ℕ) (is : Lowest 64 ((2 ^ 64 - 1) - bit_and p r) low) where
  abbrev both : ℕ
  both = bit_and p r

  abbrev lacking : ℕ
  lacking = (2 ^ 64 - 1) - both

  few : nonterminals c ≤ 60
  few = (well_formed c fault).limits.nonterminals_to

  above : (m : ℕ) → nonterminals c ≤ m → bit both m ≡ false
  above m h = bit_of_and p r m ∙ ap (λ (x : Bool). bit p m && x) (reached.above m h) ∙ and_false (bit p m)

  lacks : (m : ℕ) → m < 64 → bit lacking m ≡ not (bit both m)
  lacks m h = bit_not 64 both m (bit_bound 64 both (λ k l. above k (omega (arith, few)))) h

  -- N is lacking
  end : bit lacking (nonterminals c) ≡ true
  end = lacks (nonterminals c) (omega (arith, few)) ∙ ap not (above (nonterminals c) (omega arith))

  low_to : low ≤ nonterminals c
  low_to = ⊎_elim (λ (h : nonterminals c < low). absurd (false≢true (sym (is.least (nonterminals c) h) ∙ end))) (λ (h : low ≤ nonterminals c). h) (lt_or_ge (nonterminals c) low)

  useful_at : (m : ℕ) → m < low → Useful (grammar_of c) (terminals c + m)
  useful_at m h =
      let b = and_both (bit p m) (bit r m) (sym (bit_of_and p r m) ∙ not-false (bit both m) (sym (lacks m (omega (arith, low_to, few))) ∙ is.least m h)) in
      record { reachable = (reached.tells m (omega (arith, low_to))).yes b.1; productive = (made.tells m (omega (arith, low_to))).yes b.0 }

  some : 0 < lacking
  some = ⊎_elim (λ (h : 0 < lacking). h) (λ (h : lacking ≤ 0). absurd (false≢true (sym (bit_zero (nonterminals c)) ∙ ap (λ (x : ℕ). bit x (nonterminals c)) (let e : 0 ≡ lacking = omega arith in e) ∙ end))) (lt_or_ge 0 lacking)

  useless_at_is : low < nonterminals c → Useful (grammar_of c) (terminals c + low) → ⊥
  useless_at_is h u =
      false≢true
      (sym (not-true (bit both low) (sym (lacks low (omega (arith, few))) ∙ is.found some))
      ∙ (bit_of_and p r low ∙ and_true ((made.tells low h).so u.productive) ((reached.tells low h).so u.reachable)))

  pub lowest_useless : LowestUseless (grammar_of c) (terminals c + low)
  lowest_useless =
      record {
        from = omega arith;
        to = omega (arith, low_to);
        before = λ x h k. let e : terminals c + (x - terminals c) ≡ x = omega arith in rw e at (useful_at (x - terminals c) (omega arith));
        here = λ h u. useless_at_is (omega arith) u;
      }
