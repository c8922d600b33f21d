-- The shortest length: one number, 0 exactly for what can be empty, and the cap exactly where no shorter line is derived.
use Prim.Native.Nat.{ℕ, ◌≤◌, ◌<◌}
use mathlib.Core.Path.{◌≡◌, refl}
use mathlib.Core.Logic.{◌↔◌, ⊎_elim}
use mathlib.Core.List.{List, [], ◌∷◌}
use native.Mathlib.Omega.{arith}
use lib.ListN.{length}
use Rattle.sets.proofs.HasLaws.{lt_or_ge}
use Rattle.grammar.specs.Grammar.{Grammar, Symbols, Derives}
use Rattle.grammar.specs.Useful.{Productive}
use Rattle.grammar.specs.Shortest.{length_cap, ShortestLength}

no_longer : (l : List ℕ) → length l ≡ 0 → l ≡ []
no_longer [] e = refl
no_longer (a ∷ l) e = absurd (omega arith)

module _ (g : Grammar) {x : ℕ} where
  -- two answers are one
  pub one_shortest : {n m : ℕ} → ShortestLength g x n → ShortestLength g x m → n ≡ m
  one_shortest {n} {m} s t = omega (arith, half s t, half t s)
    where
      half : {n m : ℕ} → ShortestLength g x n → ShortestLength g x m → n ≤ m
      half {n} {m} s t =
          ⊎_elim (λ (h : m < length_cap). let l = t.some h in omega (arith, s.least l.0, l.1)) (λ (h : length_cap ≤ m). omega (arith, s.most)) (lt_or_ge m length_cap)

  -- "A name can be empty exactly when the length is 0."
  pub empty_exactly : {n : ℕ} → ShortestLength g x n → (n ≡ 0) ↔ Derives g (x ∷ []) []
  empty_exactly {n} s = (
    λ e. let l = s.some (omega arith) in rw (no_longer l.0.made (omega (arith, l.1))) at l.0.derived,
    λ d. let h = s.least (record { made = []; terminals = Symbols.none; derived = d }) in omega arith,
  )

  -- "65,535 for that much or more and for a name that derives no line"
  pub cap_exactly : {n : ℕ} → ShortestLength g x n → (n ≡ length_cap) ↔ ((line : Productive g x) → length_cap ≤ length line.made)
  cap_exactly {n} s = (
    λ e line. omega (arith, s.least line),
    λ all. ⊎_elim (λ (h : n < length_cap). let l = s.some h in absurd (omega (arith, all l.0, l.1))) (λ (h : length_cap ≤ n). omega (arith, s.most)) (lt_or_ge n length_cap),
  )
