-- What the search for the first closed terminal keeps.
use Prim.Native.Nat.{ℕ, ◌^◌, ◌<◌}
use mathlib.Core.Path.{◌≡◌, sym, ◌∙◌}
use mathlib.Core.Bool.{Bool, true, false, false≢true}
use mathlib.Core.Logic.{◌⊎◌, inl, inr}
use mathlib.Core.List.{List}
use native.Mathlib.Omega.{arith}
use lib.ListN.{length, get_or}
use lib.Seq.{length-take-le, get_or-take, take-length}
use Rattle.sets.specs.Bit.{bit}
use lib.Dec.{ltb, leb}
use borrow.Author.Tests.{ltb-true, leb-true}
use Rattle.sets.specs.Tests.{all_below}
use Rattle.sets.proofs.HasLaws.{or_cases}
use Rattle.sets.proofs.TestLaws.{all_at}
use Rattle.sets.proofs.BitLaws.{bit_above}
use Rattle.machine.specs.Restricted.{Open, OpenLine}
use Rattle.scans.specs.OpenFront.{OpenFront, outside}

module _ (closed : ℕ) (l : List ℕ) where
  -- the search stops at the first closed terminal
  pub search_found : (i : ℕ) {b : Bool} → ((j : ℕ) → j < i → Open closed (get_or l j 0)) → i < length l → b ≡ bit closed (get_or l i 0) → b ≡ true → OpenFront closed l i
  search_found i g h e y =
      record {
        within = omega arith;
        before = λ j k. let n = length-take-le i l (omega arith) in rw (get_or-take i l j 0 (omega (arith, n))) (g j (omega (arith, n)));
        there = λ _. sym e ∙ y;
      }

  -- a line without closed terminals
  pub all_open : OpenLine closed l → OpenFront closed l (length l)
  all_open f = record { within = omega arith; before = rw take-length f; there = λ k. absurd (omega arith) }

-- the word 0 closes nothing
pub none_closed : (closed : ℕ) (l : List ℕ) → closed ≡ 0 → OpenFront closed l (length l)
none_closed closed l e = all_open closed l (λ i h b. false≢true (sym (bit_above 0 closed (get_or l i 0) (omega arith) (omega arith)) ∙ b))

-- no terminal lies between the lowest and the highest closed one
pub outside_open : (closed lo hi : ℕ) (l : List ℕ) → ((m : ℕ) → m < lo → bit closed m ≡ false) → closed < 2 ^ hi → all_below (length l) (outside lo hi l) ≡ true → OpenFront closed l (length l)
outside_open closed lo hi l low high e = all_open closed l (λ i h b. false≢true (sym (closed_not (get_or l i 0) (or_cases _ _ (all_at (outside lo hi l) (length l) e i h))) ∙ b))
  where
    closed_not : (m : ℕ) → (ltb m lo ≡ true) ⊎ (leb hi m ≡ true) → bit closed m ≡ false
    closed_not m (inl h) = low m (ltb-true m lo h)
    closed_not m (inr h) = bit_above hi closed m high (leb-true hi m h)
