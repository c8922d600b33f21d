-- Rounds: what one after the other lessens, and the tables at the beginning.
use mathlib.Core.Path.{◌≡◌, refl, sym, subst, ◌∙◌}
use mathlib.Core.Bool.{Bool, true, false, ◌||◌}
use mathlib.Core.List.{List, []}
use mathlib.Core.Logic.{⊎_elim}
use Prim.Native.Nat.{ℕ, ◌+◌}
use native.Mathlib.Omega.{arith}
use lib.ListN.{replicate, length-replicate, get_or-replicate}
use Rattle.sets.proofs.HasLaws.{eq_or}
use Rattle.grammar.specs.Card.{productions}
use Rattle.nonterminals.proofs.LengthLaws.{at_most}
use Rattle.sample_words.specs.Words.{key_of, Words, Still, Lower, same, lower}
use Rattle.sample_words.proofs.SumLaws.{key_below}
use Rattle.sample.specs.Search.{StillFrom}

-- one after the other
pub lower_both : {e₀ e₁ e₂ : List ℕ} {a b : Bool} (P Q R : List ℕ → Type 0) → ((l : List ℕ) → P l → Q l → R l) → Lower e₀ e₁ P a → Lower e₁ e₂ Q b → Lower e₀ e₂ R (a || b)
lower_both {e₂ = e₂} P Q R f (same i p) (same j q) = same (j ∙ i) (f e₂ (subst P (sym j) p) q)
lower_both P Q R f (same i p) (lower l) = lower (rw i at l)
lower_both P Q R f (lower k) (same j q) = lower (rw j k)
lower_both P Q R f (lower k) (lower l) = lower (omega arith)

module _ (c : List ℕ) (m : ℕ) where
  both_still : (r : ℕ) (l : List ℕ) → Still c m l true r → Still c m l false r → (u : Bool) → Still c m l u r
  both_still r l a b true = a
  both_still r l a b false = b

  -- with the production used and without
  pub lessen_both : {e₀ e₁ e₂ : List ℕ} {a b : Bool} (r : ℕ) → Lower e₀ e₁ (λ l. Still c m l true r) a → Lower e₁ e₂ (λ l. Still c m l false r) b → Lower e₀ e₂ (λ l. (u : Bool) → Still c m l u r) (a || b)
  lessen_both r x y = lower_both _ _ _ (λ l a b. both_still r l a b) x y

  -- one production more
  pub still_more : {e₀ e₁ e₂ : List ℕ} {a b : Bool} (r : ℕ) → Lower e₀ e₁ (StillFrom c m (r + 1)) a → Lower e₁ e₂ (λ l. (u : Bool) → Still c m l u r) b → Lower e₀ e₂ (StillFrom c m r) (a || b)
  still_more r x y = lower_both _ _ _ (λ l p q i h k u. ⊎_elim (λ (s : i ≡ r). rw s (q u)) (λ s. p i (omega (arith, s)) k u) (eq_or i r)) x y

  pub still_none : (e : List ℕ) → Lower e e (StillFrom c m (productions c)) false
  still_none e = same refl (λ r h k u. absurd (omega arith))

  -- no word is known
  pub no_words : Words c m (replicate {A = ℕ} 120 256) (replicate {A = List ℕ} 120 (replicate {A = ℕ} 255 0))
  no_words =
      record {
        lengths = record { long = length-replicate {A = ℕ} 120 256; most = λ k. at_most 120 k 256 };
        rows = length-replicate {A = List ℕ} 120 (replicate {A = ℕ} 255 0);
        wide = λ k h. rw (get_or-replicate {A = List ℕ} 120 k (replicate {A = ℕ} 255 0) [] h) (length-replicate {A = ℕ} 255 0);
        known = λ u j h k. absurd (omega (arith, get_or-replicate {A = ℕ} 120 (key_of u j) 256 0 (key_below u h)));
      }
