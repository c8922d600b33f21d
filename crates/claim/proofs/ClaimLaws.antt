-- Demand 3 for the publisher's reading, proved for every table that means the grammar: it is a choir's reading with no terminal closed.
use Prim.Native.Nat.{ℕ}
use mathlib.Core.Path.{refl, ◌∙◌}
use mathlib.Core.Logic.{◌≢◌}
use mathlib.Core.List.{List}
use lib.ListN.{length}
use native.Mathlib.Omega.{arith}
use Rattle.grammar.specs.Grammar.{Grammar, Formed}
use Rattle.lr.proofs.ItemLaws.{AllProductive}
use Rattle.lr.proofs.ErrorPosition.{ErrorPosition}
use Rattle.sets.proofs.HasLaws.{has_none}
use Rattle.machine.specs.Checks.{of_table, RestrictedRefusal, as_ever, closed_wrong}
use Rattle.machine.specs.Reads.{Reads, refuses, reads}
use Rattle.machine.specs.ComputedRun.{reading}
use Rattle.machine.proofs.ReportLaws.{Reading, number_of, shown_is, number_is}
use Rattle.machine.proofs.RefusalLaws.{refusal_number_is}
use Rattle.machine.proofs.ReadsLaws.{reads_some}
use Rattle.machine.proofs.RestrictedLaws.{restricted_none}
pub use Rattle.claim.specs.Claim.{Settled, Demand3}
use Rattle.claim.specs.TrueOffer.{TrueOffer}
use Rattle.claim.specs.RestrictedClaim.{RestrictedSettled, RestrictedPosition, at_closed, elsewhere, RestrictedOffer, RestrictedDemand3}
use Rattle.claim.proofs.Means.{Limits, TableMeans}
use Rattle.claim.proofs.RestrictedClaims.{restricted_demand_3}

-- ---- the word 0 closes nothing

none_place : {g : Grammar} {l : List ℕ} {i : ℕ} → RestrictedPosition g 0 l i → ErrorPosition g l i
none_place (at_closed f _) = absurd (has_none _ f.there)
none_place (elsewhere _ p) = p

none_offer : {g : Grammar} {line : List ℕ} {word : ℕ} → RestrictedOffer g 0 line word → TrueOffer g line word
none_offer o = record { followers = λ m z. (λ h. ((o.followers m z).0 h).1, λ b. (o.followers m z).1 (has_none m, b)); end = o.end }

none_settled : {n : ℕ} → n ≢ 50 → Settled n → RestrictedSettled n
none_settled {n} ne s = record { taken = λ h. taken h refl; steps_left = s.steps_left; stack_left = s.stack_left; list_left = s.list_left }
  where
    taken : {i : ℕ} → RestrictedRefusal i → n ≢ i
    taken (as_ever h) e = s.taken (rw e h)
    taken closed_wrong e = ne e

none_demand : {g : Grammar} {l : List ℕ} {r : Reading} → number_of r ≢ 50 → RestrictedDemand3 g 0 l r → Demand3 g l r
none_demand ne d =
    record {
      table_taken = d.table_taken;
      never_breaks = d.never_breaks;
      accepts = λ s. let z = d.accepts (none_settled ne s) in (λ e. (z.0 e).0, λ h. z.1 (h, λ i _. has_none _));
      derivation = d.derivation;
      only = d.only;
      names_position = λ s e. let z = d.names_position (none_settled ne s) e in (z.0, none_place z.1);
      names_end = λ s e. let z = d.names_end (none_settled ne s) e in (λ h. let w = z.0 h in (w.1, w.2), λ h. z.1 (λ i _. has_none _, h.0, h.1));
      offers = λ e. none_offer (d.offers e);
      offers_many = d.offers_many;
    }

-- ---- the publisher's reading never answers 50

not_50 : {t l st la se : List ℕ} {a : ℕ} {r : Reading} → Reads t l st la se a r → number_of r ≢ 50
not_50 {t} {l} {st} {la} {se} (refuses e ne) z = elim (rw (e ∙ z) at (refusal_number_is t l (length st) (length se) (rw e ne))) [ of_table k ↦ elim k [ ] ]
not_50 (reads _ f) z = elim (rw (shown_is (number_is f) z (λ e. omega arith)) at f.why) [ ]

module _ (g : Grammar) (f : Formed g) (pr : AllProductive g) (li : Limits g) (t : List ℕ) (tm : TableMeans g t) where
  -- the claim
  pub demand_3 : (l st la se : List ℕ) (a : ℕ) → Demand3 g l (reading t l st la se a)
  demand_3 l st la se a = none_demand (not_50 (reads_some t l st la se a)) (rw restricted_none at (restricted_demand_3 g f pr li t tm 0 l st la se a))
