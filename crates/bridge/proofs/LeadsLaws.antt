-- What the area says of paths along a right side is what the transitions do.
use Prim.Native.Nat.{ℕ, suc, ◌+◌, ◌<◌}
use mathlib.Core.Path.{◌≡◌, ap}
use mathlib.Core.Logic.{◌↔◌, ◌≢◌}
use mathlib.Core.List.{List, [], ◌∷◌, ◌++◌}
use lib.ListN.{length, drop}
use native.Mathlib.Omega.{arith}
use Rattle.grammar.specs.Card.{productions, left_of, right_of, grammar_of}
use Rattle.lr.specs.Items.{walk}
use Rattle.lr.proofs.ItemLaws.{drop_next}
use Rattle.lr.proofs.Automaton.{given, advanced, goes}
use Rattle.lr.proofs.Automaton
use Rattle.lr.proofs.Paths.{Has}
use Rattle.transitions.specs.Occurrences.{symbol_at}
use Rattle.transitions.specs.Data.{Data, Enters}
use Rattle.relations.specs.Path.{Path, Leads}
use Rattle.relations.specs.Path.Path.{here, step}
use Rattle.relations.proofs.PathLaws.{path_beyond}
use Rattle.bridge.specs.Premises.{Stated}
use Rattle.bridge.proofs.Numbering.{automaton}
use Rattle.bridge.proofs.RightSides.{dot_symbol}

module _ {c w : List ℕ} {n k : ℕ} {next : ℕ → ℕ → ℕ} (s : Stated c n next) (listed : Data c w n k next) (r : ℕ) (h : r < productions c) where
  path_walk : {d q i p : ℕ} → Path (Enters w) (symbol_at c r) d q i p → (l β : List ℕ) → drop i (right_of c r) ≡ l ++ β → d ≡ i + length l → walk next p l ≡ q
  path_walk (here a k) [] β e o = k
  path_walk (here a k) (x ∷ l) β e o = absurd (omega arith)
  path_walk (step t m u) [] β e o = absurd (path_beyond u (omega arith))
  path_walk (step {i} {p} t m u) (x ∷ l) β e o = rw (← dot_symbol c r h i e, (listed.enters p (symbol_at c r i) t m).target) (path_walk u l β (drop_next i (right_of c r) e) (omega arith))

  -- where a state has the item with the dot before these symbols, it has the transitions along them
  walk_path : (l β : List ℕ) (i p : ℕ) → drop i (right_of c r) ≡ l ++ β → p < n → Has (grammar_of c) next p r i → {d q : ℕ} → d ≡ i + length l → walk next p l ≡ q → Path (Enters w) (symbol_at c r) d q i p
  walk_path [] β i p e b t {d} o k = let a : i ≡ d = omega arith in here a k
  walk_path (x ∷ l) β i p e b t o k =
      let nz : next p x ≢ 0 = ((automaton s).next_some b).1 (goes t e) in
      step (next p x) (listed.goes p (symbol_at c r i) (next p x) (record { target = ap (next p) (dot_symbol c r h i e); some = nz }))
      (walk_path l β (suc i) (next p x) (drop_next i (right_of c r) e) ((automaton s).next_below b) (((automaton s).next_has b nz r (suc i)).1 (given (advanced t e))) (omega arith) k)

  -- a state with a transition on the left side has the production's first item
  opens : (p : ℕ) → next p (left_of c r) ≢ 0 → Has (grammar_of c) next p r 0
  opens p nz = go (((automaton s).next_some (s.inside p (left_of c r) nz)).0 nz)
    where
      go : Automaton.Goes (grammar_of c) (Has (grammar_of c) next p) (left_of c r) → Has (grammar_of c) next p r 0
      go (goes t e) = (automaton s).closed t e h

  -- from a state with a transition on the left side: the first d symbols, l, lead to q
  pub leads_is : (p q d : ℕ) → next p (left_of c r) ≢ 0 → (l β : List ℕ) → right_of c r ≡ l ++ β → length l ≡ d → Leads c w r d q p ↔ (walk next p l ≡ q)
  leads_is p q d nz l β e o = (
    λ a. path_walk a l β e (omega arith),
    λ a. walk_path l β 0 p e (s.inside p (left_of c r) nz) (opens p nz) (omega arith) a,
  )
