-- The parts of a faithful reading's report, and that no two reports have the same numbers.
use Prim.Native.Nat.{ℕ, ◌+◌}
use mathlib.Core.Path.{◌≡◌, refl, sym, ap}
use mathlib.Core.Logic.{◌≢◌}
use mathlib.Core.List.{List, reverse}
use lib.ListN.{length, get_or, length-reverse, length-replicate}
use lib.Seq.{take_at}
use native.Mathlib.Omega.{arith}
use Rattle.sets.proofs.CoveredLaws.{covered_length, covered_exact}
pub use Rattle.machine.specs.Report.{Report, refused, ended, wrong_at_is, unknown_at_is, numbers_of, Reading, number_of, steps_of, depth_of, productions_of, position_of, expected_of, size_of}
pub use Rattle.machine.specs.Faithful.{Stops, accepted_here, wrong_here, no_steps, list_full, broken_here, stack_full, Reports, counts, expects, unknown, Faithful}
use Rattle.machine.proofs.LrMachineLaws.{Config, depth, listed, own_steps, path_last}

place : {u v : List ℕ} (i : ℕ) → u ≡ v → get_or u i 0 ≡ get_or v i 0
place i e = ap (λ (l : List ℕ). get_or l i 0) e

-- the numbers tell the report: they are 1, 4 or 7 in number, and the first is 31 or 46 where they are 7
pub numbers_tell : (a b : Report) → numbers_of a ≡ numbers_of b → a ≡ b
numbers_tell (refused n) (refused m) e = ap refused (place 0 e)
numbers_tell (ended n k d i) (ended n' k' d' i') e = let e₁ : n ≡ n' = place 0 e in let e₂ : k ≡ k' = place 1 e in let e₃ : d ≡ d' = place 2 e in let e₄ : i ≡ i' = place 3 e in rw (e₁, e₂, e₃, e₄)
numbers_tell (wrong_at_is k d i p s z) (wrong_at_is k' d' i' p' s' z') e =
    let e₁ : k ≡ k' = place 1 e in let e₂ : d ≡ d' = place 2 e in let e₃ : i ≡ i' = place 3 e in let e₄ : p ≡ p' = place 4 e in let e₅ : s ≡ s' = place 5 e in let e₆ : z ≡ z' = place 6 e in rw (e₁, e₂, e₃, e₄, e₅, e₆)
numbers_tell (unknown_at_is k d i p) (unknown_at_is k' d' i' p') e = let e₁ : k ≡ k' = place 1 e in let e₂ : d ≡ d' = place 2 e in let e₃ : i ≡ i' = place 3 e in let e₄ : p ≡ p' = place 4 e in rw (e₁, e₂, e₃, e₄)
numbers_tell (refused _) (ended _ _ _ _) e = let z : ◌≡◌ {A = ℕ} 1 4 = ap length e in absurd (omega arith)
numbers_tell (refused _) (wrong_at_is _ _ _ _ _ _) e = let z : ◌≡◌ {A = ℕ} 1 7 = ap length e in absurd (omega arith)
numbers_tell (refused _) (unknown_at_is _ _ _ _) e = let z : ◌≡◌ {A = ℕ} 1 7 = ap length e in absurd (omega arith)
numbers_tell (ended _ _ _ _) (refused _) e = let z : ◌≡◌ {A = ℕ} 4 1 = ap length e in absurd (omega arith)
numbers_tell (ended _ _ _ _) (wrong_at_is _ _ _ _ _ _) e = let z : ◌≡◌ {A = ℕ} 4 7 = ap length e in absurd (omega arith)
numbers_tell (ended _ _ _ _) (unknown_at_is _ _ _ _) e = let z : ◌≡◌ {A = ℕ} 4 7 = ap length e in absurd (omega arith)
numbers_tell (wrong_at_is _ _ _ _ _ _) (refused _) e = let z : ◌≡◌ {A = ℕ} 7 1 = ap length e in absurd (omega arith)
numbers_tell (wrong_at_is _ _ _ _ _ _) (ended _ _ _ _) e = let z : ◌≡◌ {A = ℕ} 7 4 = ap length e in absurd (omega arith)
numbers_tell (wrong_at_is _ _ _ _ _ _) (unknown_at_is _ _ _ _) e = let z : ◌≡◌ {A = ℕ} 31 46 = place 0 e in absurd (omega arith)
numbers_tell (unknown_at_is _ _ _ _) (refused _) e = let z : ◌≡◌ {A = ℕ} 7 1 = ap length e in absurd (omega arith)
numbers_tell (unknown_at_is _ _ _ _) (ended _ _ _ _) e = let z : ◌≡◌ {A = ℕ} 7 4 = ap length e in absurd (omega arith)
numbers_tell (unknown_at_is _ _ _ _) (wrong_at_is _ _ _ _ _ _) e = let z : ◌≡◌ {A = ℕ} 46 31 = place 0 e in absurd (omega arith)

abbrev pub part : Report → ℕ → ℕ
part r i = get_or (numbers_of r) i 0

-- the number of the report of an end: 31 can be reported as 46
pub data Shown : ℕ → ℕ → Type 0 where
  as_is : {n : ℕ} → Shown n n
  in_place : Shown 31 46

pub shown_is : {n i k : ℕ} → Shown n i → i ≡ k → k ≢ 46 → n ≡ k
shown_is as_is e ne = e
shown_is in_place e ne = absurd (ne (sym e))

module _ {t l : List ℕ} {a k steps : ℕ} where
  part_0 : {c : Config} {n : ℕ} {r : Report} → Reports t l a k steps c n r → Shown n (part r 0)
  part_0 (counts n ne) = as_is
  part_0 (expects u w e o) = as_is
  part_0 (unknown u e s) = in_place

  part_1 : {c : Config} {n : ℕ} {r : Report} → Reports t l a k steps c n r → part r 1 ≡ steps + own_steps n
  part_1 (counts n ne) = refl
  part_1 (expects u w e o) = omega arith
  part_1 (unknown u e s) = omega arith

  part_2 : {c : Config} {n : ℕ} {r : Report} → Reports t l a k steps c n r → part r 2 ≡ depth c
  part_2 (counts n ne) = refl
  part_2 (expects u w e o) = refl
  part_2 (unknown u e s) = refl

  part_3 : {c : Config} {n : ℕ} {r : Report} → Reports t l a k steps c n r → part r 3 ≡ listed c
  part_3 (counts n ne) = refl
  part_3 (expects u w e o) = refl
  part_3 (unknown u e s) = refl

module _ {t l st li se : List ℕ} {a : ℕ} {r : Reading} (f : Faithful t l st li se a r) where
  pub number_is : Shown f.number (number_of r)
  number_is = part_0 f.reported

  pub count_is : steps_of r ≡ f.steps + own_steps f.number
  count_is = part_1 f.reported

  pub depth_is : depth_of r ≡ length f.states
  depth_is = part_2 f.reported

  pub listed_is : part r.report 3 ≡ length f.productions
  listed_is = part_3 f.reported

  pub productions_are : productions_of r ≡ f.productions
  productions_are = rw (listed_is, f.listing) (take_at f.productions _ _ refl)

  -- the areas keep their lengths
  pub stack_long : length r.stack ≡ length st
  stack_long =
      let d = path_last t f.path in
      rw f.stacked (covered_length f.most (reverse f.states) st (rw length-reverse d) f.within)

  pub list_long : length r.list ≡ length li
  list_long = rw (f.listing, ← covered_exact f.productions li) (covered_length (length f.productions) f.productions li (omega arith) f.room)

  pub second_long : length r.second ≡ length se
  second_long = rw f.cleared (length-replicate (length se) 0)
