-- Demand 3 for a choir's reading, by what is answered: a refusal, the end of a run, the offer.
use Prim.Native.Nat.{ℕ, suc, ◌<◌, ◌≤◌}
use mathlib.Core.Path.{◌≡◌, refl, sym, ◌∙◌}
use mathlib.Core.Logic.{◌≢◌, ◌↔◌, ◌⊎◌, inl, inr}
use mathlib.Core.List.{List}
use lib.ListN.{length, take}
use lib.Seq.{take_all}
use native.Mathlib.Omega.{arith}
use Rattle.sets.specs.Bit.{bit, count}
use Rattle.grammar.specs.Grammar.{Grammar, Formed, Symbols, Sentence}
use Rattle.lr.proofs.ItemLaws.{AllProductive}
use Rattle.lr.proofs.ErrorPosition.{Begins}
use Rattle.machine.specs.Checks.{TableRefusal, Refusal, input_long, terminal_wrong, no_stack, second_short, RestrictedRefusal}
use Rattle.machine.specs.Restricted.{OpenLine}
use Rattle.machine.proofs.ReportLaws.{Reading, number_of, position_of, productions_of, expected_of, size_of, Shown, as_is, in_place}
use Rattle.claim.specs.RestrictedClaim.{RestrictedSettled, RestrictedPosition, at_closed, elsewhere, RestrictedOffer, RestrictedDemand3}
use Rattle.claim.proofs.Means.{Limits, TableMeans}
use Rattle.claim.proofs.Refusals.{Due, long_input, no_terminal, empty_stack, short_second, takes}
use Rattle.claim.proofs.Endings.{end_is, Ended, sentence, no_sentence, out_32, out_33, out_34}

-- the end is named just where the input is open, begins a sentence and is none
restricted_end : (closed : ℕ) (g : Grammar) (l : List ℕ) (i : ℕ) → RestrictedPosition g closed l i → (i ≡ length l) ↔ (OpenLine closed l × Begins g l × (Sentence g l → ⊥))
restricted_end closed g l i (at_closed f n) = (λ e. absurd (omega (arith, f.inside)), λ z. absurd (z.0 _ f.inside f.there))
restricted_end closed g l i (elsewhere o p) = (λ e. let z = (end_is g l i p).0 e in (rw (take_all (suc i) l (omega arith)) at o, z.0, z.1), λ z. (end_is g l i p).1 (z.1, z.2))

-- 31 and 46 refuse no table
not_table : {n : ℕ} → (n ≡ 31) ⊎ (n ≡ 46) → TableRefusal n → ⊥
not_table (inl e) h = elim (rw e at h) [ ]
not_table (inr e) h = elim (rw e at h) [ ]

not_broken : {n : ℕ} → (n ≡ 31) ⊎ (n ≡ 46) → n ≢ 35
not_broken (inl e) z = omega arith
not_broken (inr e) z = omega arith

not_accepted : {n : ℕ} → (n ≡ 31) ⊎ (n ≡ 46) → n ≢ 0
not_accepted (inl e) z = omega arith
not_accepted (inr e) z = omega arith

shown_wrong : {k : ℕ} → Shown 31 k → (k ≡ 31) ⊎ (k ≡ 46)
shown_wrong as_is = inl refl
shown_wrong in_place = inr refl

-- a number that says nothing of the input, and is no refusal of a table
pub record Plain (n : ℕ) : Type 0 where
  pub no_table : TableRefusal n → ⊥
  pub no_break : n ≢ 35
  pub no_accept : n ≢ 0
  pub no_wrong : n ≢ 31

pub plain : {n : ℕ} → (TableRefusal n → ⊥) → n ≢ 35 → n ≢ 0 → n ≢ 31 → Plain n
plain h b a w = record { no_table = h; no_break = b; no_accept = a; no_wrong = w }

module _ (g : Grammar) (closed : ℕ) (l : List ℕ) (r : Reading) where
  -- what the expected set says, where there is one
  pub record Offers : Type 0 where
    pub offers : number_of r ≡ 31 → RestrictedOffer g closed (take (position_of r) l) (expected_of r)
    pub many : number_of r ≡ 31 → size_of r ≡ count (bit (expected_of r)) g.terminals

  -- what a reading that ends in neither 0, 31 nor 46 is said of
  unsettled : {n : ℕ} → number_of r ≡ n → Plain n → (RestrictedSettled n → ⊥) → RestrictedDemand3 g closed l r
  unsettled en p h =
      record {
        table_taken = λ z. p.no_table (rw en at z);
        never_breaks = λ e. p.no_break (sym en ∙ e);
        accepts = λ s. absurd (h (rw en at s));
        derivation = λ z. absurd (p.no_accept (sym en ∙ z));
        only = λ z _ _. absurd (p.no_accept (sym en ∙ z));
        names_position = λ s _. absurd (h (rw en at s));
        names_end = λ s _. absurd (h (rw en at s));
        offers = λ z. absurd (p.no_wrong (sym en ∙ z));
        offers_many = λ z. absurd (p.no_wrong (sym en ∙ z));
      }

  -- a refusal
  pub refusal : {n : ℕ} → number_of r ≡ n → Plain n → RestrictedRefusal n → RestrictedDemand3 g closed l r
  refusal en p h = unsettled en p (λ s. s.taken h)

  -- an input that is not to be accepted
  pub wrong : Shown 31 (number_of r) → (Sentence g l × OpenLine closed l → ⊥) → RestrictedPosition g closed l (position_of r) → Offers → RestrictedDemand3 g closed l r
  wrong w s p o =
      let e = shown_wrong w in
      record {
        table_taken = not_table e;
        never_breaks = not_broken e;
        accepts = λ _. (λ z. absurd (not_accepted e z), λ z. absurd (s z));
        derivation = λ z. absurd (not_accepted e z);
        only = λ z _ _. absurd (not_accepted e z);
        names_position = λ _ z. (e, p);
        names_end = λ _ z. restricted_end closed g l (position_of r) p;
        offers = o.offers;
        offers_many = o.many;
      }

  -- an end that is the publisher's, all being open that was read
  pub as_publisher : {p : List ℕ} {n k : ℕ} → Shown n k → number_of r ≡ k → productions_of r ≡ p → Ended g l (position_of r) p n
      → (n ≡ 0 → OpenLine closed l) → (n ≡ 31 → OpenLine closed (take (suc (position_of r)) l)) → Offers → RestrictedDemand3 g closed l r
  as_publisher as_is en ep (sentence s d only) ol op o =
      record {
        table_taken = λ h. elim (rw en at h) [ ];
        never_breaks = λ e. omega (arith, en, e);
        accepts = λ _. (λ _. (s, ol refl), λ _. en);
        derivation = λ _. rw ep d;
        only = λ _ q z. rw ep (only q z);
        names_position = λ _ z. absurd (z en);
        names_end = λ _ z. absurd (z en);
        offers = λ z. absurd (omega (arith, en, z));
        offers_many = λ z. absurd (omega (arith, en, z));
      }
  as_publisher w en ep (no_sentence s p) ol op o = wrong (rw en w) (λ z. s z.0) (elsewhere (op refl) p) o
  as_publisher as_is en ep out_32 ol op o = unsettled en (plain (λ h. elim h [ ]) (λ e. omega arith) (λ e. omega arith) (λ e. omega arith)) (λ s. s.steps_left refl)
  as_publisher as_is en ep out_33 ol op o = unsettled en (plain (λ h. elim h [ ]) (λ e. omega arith) (λ e. omega arith) (λ e. omega arith)) (λ s. s.stack_left refl)
  as_publisher as_is en ep out_34 ol op o = unsettled en (plain (λ h. elim h [ ]) (λ e. omega arith) (λ e. omega arith) (λ e. omega arith)) (λ s. s.list_left refl)

module _ (g : Grammar) (f : Formed g) (pr : AllProductive g) (li : Limits g) (t : List ℕ) (tm : TableMeans g t) where
  -- what the publisher's checks answer: a refusal of anything but the table, or nothing
  pub data Asked (l : List ℕ) (n k : ℕ) : ℕ → Type 0 where
    stopped : {i : ℕ} → Refusal i → Plain i → Asked l n k i
    passed : Symbols g.terminals l → 0 < n → n ≤ k → Asked l n k 0

  pub asked : {l : List ℕ} {n k i : ℕ} → Due g f pr li t tm l n k i → Asked l n k i
  asked (long_input h) = stopped input_long (plain (λ h. elim h [ ]) (λ e. omega arith) (λ e. omega arith) (λ e. omega arith))
  asked (no_terminal h k) = stopped terminal_wrong (plain (λ h. elim h [ ]) (λ e. omega arith) (λ e. omega arith) (λ e. omega arith))
  asked (empty_stack h k z) = stopped no_stack (plain (λ h. elim h [ ]) (λ e. omega arith) (λ e. omega arith) (λ e. omega arith))
  asked (short_second h k z s) = stopped second_short (plain (λ h. elim h [ ]) (λ e. omega arith) (λ e. omega arith) (λ e. omega arith))
  asked (takes h m k s) = passed m k s
