-- FIRST by big-step derivation, which the proofs use.
use Prim.Native.Nat.{ℕ}
use mathlib.Core.Path.{◌≡◌}
use mathlib.Core.List.{List, [], ◌∷◌}
use Rattle.grammar.specs.Grammar.{Grammar, Symbols}
use Rattle.grammar.proofs.Yield.{Yields, yield_terminals}
use Rattle.grammar.proofs.Derive.{derives_yields, yields_derives}
use Rattle.lr.specs.Sets.{First, begins, follows}

pub data FirstYields (g : Grammar) (β : List ℕ) (a : ℕ) : ℕ → Type 0 where
  yields : {p w : List ℕ} {b : ℕ} → Yields g β p (b ∷ w) → FirstYields g β a b
  empty : {p : List ℕ} {b : ℕ} → Yields g β p [] → b ≡ a → FirstYields g β a b

module _ (g : Grammar) where
  pub first_begins : {β p w : List ℕ} {a b : ℕ} → Yields g β p (b ∷ w) → First g β a b
  first_begins y = begins (yield_terminals g y) (yields_derives g y)

  pub first_follows : {β p : List ℕ} {a b : ℕ} → Yields g β p [] → b ≡ a → First g β a b
  first_follows y e = follows (yields_derives g y) e

  pub first_yields : {β : List ℕ} {a b : ℕ} → First g β a b → FirstYields g β a b
  first_yields (begins m d) = yields (derives_yields g d m).1
  first_yields (follows d e) = empty (derives_yields g d Symbols.none).1 e
