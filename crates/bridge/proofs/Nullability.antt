-- A string of nullable nonterminals derives the empty string, and no other does.
use Prim.Native.Nat.{ℕ, ◌+◌, ◌-◌, ◌≤◌, ◌<◌}
use mathlib.Core.Path.{◌≡◌, refl}
use mathlib.Core.Logic.{◌↔◌}
use mathlib.Core.List.{List, [], ◌∷◌}
use native.Mathlib.Omega.{arith}
use Rattle.grammar.specs.Grammar.{Symbols, Derives}
use Rattle.grammar.specs.Card.{terminals, nonterminals, productions, left_of, right_of, grammar_of}
use Rattle.grammar.proofs.Yield.{Yields, nil, nonterminal, append}
use Rattle.grammar.proofs.Derive.{derives_yields, yields_derives}
use Rattle.grammar.proofs.Closed.{All, none, more, nullable_in}
use Rattle.grammar.proofs.ShortestLaws.{empty_exactly}
use Rattle.transitions.specs.Area.{shortest_of}
use Rattle.transitions.specs.Occurrences.{Nullable}
use Rattle.bridge.specs.Premises.{Followed}
use Rattle.bridge.proofs.Numbering.{card_formed}

module _ {c w : List ℕ} {n k : ℕ} {next : ℕ → ℕ → ℕ} {z : List ℕ} (h : Followed c w n k next z) where
  -- the length that the area holds is 0 exactly where the empty string is derived
  exactly : (j : ℕ) → j < nonterminals c → (shortest_of w j ≡ 0) ↔ Derives (grammar_of c) ((terminals c + j) ∷ []) []
  exactly j l = empty_exactly (grammar_of c) (h.shortest j l)

  pub nullable_empty : {x : ℕ} → x < terminals c + nonterminals c → Nullable c (shortest_of w) x → Derives (grammar_of c) (x ∷ []) []
  nullable_empty {x} b n =
      let l : terminals c ≤ x = n.nonterminal in
      let o : terminals c + (x - terminals c) ≡ x = omega arith in
      rw o at ((exactly (x - terminals c) (omega arith)).0 n.empty)

  empty_nullable : {x : ℕ} → terminals c ≤ x → x < terminals c + nonterminals c → Derives (grammar_of c) (x ∷ []) [] → Nullable c (shortest_of w) x
  empty_nullable {x} l b d =
      let o : terminals c + (x - terminals c) ≡ x = omega arith in
      record { nonterminal = l; empty = (exactly (x - terminals c) (omega arith)).1 (rw o d) }

  all_yield : {β : List ℕ} → Symbols (terminals c + nonterminals c) β → All (Nullable c (shortest_of w)) β → (p : List ℕ) × Yields (grammar_of c) β p []
  all_yield Symbols.none none = ([], nil)
  all_yield (Symbols.more l b s) (more n a) =
      let x = derives_yields (grammar_of c) (nullable_empty b n) Symbols.none in
      let y = all_yield s a in
      (_, append (grammar_of c) x.1 y.1)

  pub all_empty : {β : List ℕ} → Symbols (terminals c + nonterminals c) β → All (Nullable c (shortest_of w)) β → Derives (grammar_of c) β []
  all_empty s a = yields_derives (grammar_of c) (all_yield s a).1

  pub empty_all : {β : List ℕ} → Derives (grammar_of c) β [] → All (Nullable c (shortest_of w)) β
  empty_all d = nullable_in (grammar_of c) (Nullable c (shortest_of w)) closed (derives_yields (grammar_of c) d Symbols.none).1 refl
    where
      closed : (r : ℕ) → r < productions c → All (Nullable c (shortest_of w)) (right_of c r) → Nullable c (shortest_of w) (left_of c r)
      closed r b a =
          let f = card_formed h.stated in
          empty_nullable (f.left_nonterminal r b) (f.left_below r b) (yields_derives (grammar_of c) (nonterminal r b (all_yield (f.right_symbols r b) a).1 nil))

  pub empty_one : {x : ℕ} → Derives (grammar_of c) (x ∷ []) [] → Nullable c (shortest_of w) x
  empty_one d = go (empty_all d)
    where
      go : {x : ℕ} → All (Nullable c (shortest_of w)) (x ∷ []) → Nullable c (shortest_of w) x
      go (more n a) = n
