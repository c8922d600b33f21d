-- Demand 3 over cards: for every accepted card, what the maker leaves in its area, every input, the three areas and the step limit.
use Prim.Native.Nat.{ℕ, ◌<◌}
use mathlib.Core.Path.{◌≡◌}
use mathlib.Core.List.{List, ◌++◌}
use lib.ListN.{length}
use Rattle.grammar.specs.Grammar.{Symbols}
use Rattle.grammar.specs.Card.{grammar_of}
use Rattle.grammar.proofs.CardLaws.{right_short}
use Rattle.machine.specs.Exploration.{Explored}
use Rattle.machine.specs.ComputedRun.{reading, restricted_reading}
use Rattle.claim.specs.Claim.{Demand3}
use Rattle.claim.specs.RestrictedClaim.{RestrictedDemand3}
use Rattle.claim.proofs.Means.{Limits}
use Rattle.claim.proofs.Delivered as delivered
use Rattle.claim.proofs.Delivered.{claim, restricted_claim}
use Rattle.lalr.specs.Answer.{made}
use Rattle.lalr.specs.ComputedAnswer.{card_answer, table_of}
use Rattle.lalr.specs.ComputedGenerator.{answer_of, generated}
use Rattle.lalr.proofs.AreaLaws.{made_area}
use Rattle.lalr.proofs.TableLaws.{Made, made_of, table_is, the_form, the_formed, the_productive}
use Rattle.lalr.proofs.OrderLaws.{card_made}

module _ (c : List ℕ) (m : card_answer c ≡ made) where
  mk : Made c
  mk = made_of c m

  limits : Limits (grammar_of c)
  limits =
      let l = (the_form c mk).limits in
      record { terminals_most = l.terminals_to; nonterminals_most = l.nonterminals_to; productions_least = l.productions_from; productions_most = l.productions_to; length_most = λ r h. right_short c (the_form c mk) r h }

  -- the table, and whatever stands behind it
  pub demand_3 : (behind input stack list second : List ℕ) (limit : ℕ) → Demand3 (grammar_of c) input (reading (table_of c ++ behind) input stack list second limit)
  demand_3 behind = claim (grammar_of c) (the_formed c mk) (the_productive c mk) limits _ _ (table_of c) (table_is c mk) mk.few behind

  -- and for a choir's reading
  pub restricted_demand_3 : (behind : List ℕ) (closed : ℕ) (input stack list second : List ℕ) (limit : ℕ) → RestrictedDemand3 (grammar_of c) closed input (restricted_reading (table_of c ++ behind) closed input stack list second limit)
  restricted_demand_3 behind = restricted_claim (grammar_of c) (the_formed c mk) (the_productive c mk) limits _ _ (table_of c) (table_is c mk) mk.few behind

  pub fresh_unbroken : (behind line : List ℕ) → Symbols (grammar_of c).terminals line → (limit second m : ℕ) → m < (grammar_of c).terminals → Explored (table_of c ++ behind) limit second line m 35 → ⊥
  fresh_unbroken behind = delivered.fresh_unbroken (grammar_of c) (the_formed c mk) (the_productive c mk) limits _ _ (table_of c) (table_is c mk) mk.few behind

-- across both calls: the table area as the maker leaves it, whatever the three areas were
answer_of_is : (t z w c : List ℕ) → (generated t z w c).answer ≡ made → answer_of (length t) (length z) (length w) c ≡ made
unfolding generated
answer_of_is t z w c h = h

pub across : (t z w c : List ℕ) → (generated t z w c).answer ≡ made → (input stack list second : List ℕ) (limit : ℕ) → Demand3 (grammar_of c) input (reading (generated t z w c).table input stack list second limit)
across t z w c e input stack list second limit =
    let a : answer_of (length t) (length z) (length w) c ≡ made = answer_of_is t z w c e in
    rw (made_area t z w c a) (demand_3 c (card_made t z w c a) _ input stack list second limit)

pub restricted_across : (t z w c : List ℕ) → (generated t z w c).answer ≡ made → (closed : ℕ) (input stack list second : List ℕ) (limit : ℕ)
    → RestrictedDemand3 (grammar_of c) closed input (restricted_reading (generated t z w c).table closed input stack list second limit)
restricted_across t z w c e closed input stack list second limit =
    let a : answer_of (length t) (length z) (length w) c ≡ made = answer_of_is t z w c e in
    rw (made_area t z w c a) (restricted_demand_3 c (card_made t z w c a) _ closed input stack list second limit)

pub fresh_across : (t z w c : List ℕ) → (generated t z w c).answer ≡ made → (line : List ℕ) → Symbols (grammar_of c).terminals line → (limit second m : ℕ) → m < (grammar_of c).terminals
    → Explored (generated t z w c).table limit second line m 35 → ⊥
fresh_across t z w c e line s limit second m h =
    let a : answer_of (length t) (length z) (length w) c ≡ made = answer_of_is t z w c e in
    rw (made_area t z w c a) (fresh_unbroken c (card_made t z w c a) _ line s limit second m h)
