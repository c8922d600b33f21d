-- Two small cards: that they pass, what they are merged into, and what an area of 23 numbers then holds.
use mathlib.Core.Path.{◌≡◌, refl}
use mathlib.Core.List.{List, [], ◌∷◌, ◌++◌}
use Prim.Native.Nat.{ℕ, ◌+◌, ◌≤◌, ◌<◌}
use native.Mathlib.Omega.{arith}
use Rattle.grammar.specs.Grammar.{Grammar, Symbols, Derives}
use Rattle.grammar.specs.Card.{terminals, nonterminals, productions, symbols, left_of, length_of, symbol_of, start_of, right_of, grammar_of, sizes_ok, is_nonterminal, is_symbol, lefts_ok, rights_ok, form_fault}
use Rattle.grammar.specs.Useful.{Useful}
use Rattle.grammar.proofs.Closed.{reachable_start}
use Rattle.sets.specs.Tests.{all_below, between}
use Rattle.card_checks.specs.Checked.{passed}
use Rattle.merged_card.specs.Merged.{moved, merged_card}
use Rattle.merged_card.specs.Joined.{Joins}
use Rattle.merge.specs.Answer.{Passes, Joinable, merged, Merges}
use Rattle.std.proofs.Common.{Ok}
use Rattle.merge.proofs.OneMerge.{area_joins}

-- card A of document 01: 3 → 3 1, 3 → 2; and a card whose one sentence is 1 2
abbrev card_a : List ℕ
card_a = 3 ∷ 1 ∷ 2 ∷ 3 ∷ 3 ∷ 3 ∷ 2 ∷ 1 ∷ 3 ∷ 1 ∷ 2 ∷ []

abbrev pub card_b : List ℕ
card_b = 3 ∷ 1 ∷ 1 ∷ 2 ∷ 3 ∷ 2 ∷ 1 ∷ 2 ∷ []

-- 3 → 4, 3 → 5, 4 → 4 1, 4 → 2, 5 → 1 2
abbrev both : List ℕ
both = 3 ∷ 3 ∷ 5 ∷ 7 ∷ 3 ∷ 3 ∷ 4 ∷ 4 ∷ 5 ∷ 1 ∷ 1 ∷ 2 ∷ 1 ∷ 2 ∷ 4 ∷ 5 ∷ 4 ∷ 1 ∷ 2 ∷ 1 ∷ 2 ∷ []

pub merged_is : merged_card card_a card_b ≡ both
unfolding merged_card moved terminals nonterminals productions symbols left_of length_of symbol_of
merged_is = refl

-- the only nonterminal of a grammar is useful where it derives something
useful_alone : (g : Grammar) (w : List ℕ) → Symbols g.terminals w → Derives g (g.terminals ∷ []) w → (x : ℕ) → g.terminals ≤ x → x < g.terminals + 1 → Useful g x
useful_alone g w m d x h k =
    let e : x ≡ g.terminals = omega arith in
    rw e (record { reachable = reachable_start g; productive = record { made = w; terminals = m; derived = d } })

a_passes : Passes card_a
unfolding form_fault sizes_ok lefts_ok rights_ok is_nonterminal is_symbol all_below between terminals nonterminals productions symbols left_of length_of symbol_of start_of right_of
a_passes =
    let m : Symbols 3 (2 ∷ []) = Symbols.more {a = 2} (omega arith) (omega arith) Symbols.none in
    passed refl (λ x n. useful_alone (grammar_of card_a) (2 ∷ []) m (Derives.step [] [] 1 (omega arith) refl Derives.stop) x n.from n.below)

b_passes : Passes card_b
unfolding form_fault sizes_ok lefts_ok rights_ok is_nonterminal is_symbol all_below between terminals nonterminals productions symbols left_of length_of symbol_of start_of right_of
b_passes =
    let m : Symbols 3 (1 ∷ 2 ∷ []) = Symbols.more {a = 1} (omega arith) (omega arith) (Symbols.more {a = 2} (omega arith) (omega arith) Symbols.none) in
    passed refl (λ x n. useful_alone (grammar_of card_b) (1 ∷ 2 ∷ []) m (Derives.step [] [] 0 (omega arith) refl Derives.stop) x n.from n.below)

-- what is asked of two cards can be met
pub example_joinable : Joinable card_a card_b
unfolding terminals
example_joinable = record { first = a_passes; second = b_passes; terminals_same = refl }

-- an area of 23 numbers, of which the last two stay
abbrev area : List ℕ
area = 9 ∷ 9 ∷ 9 ∷ 9 ∷ 9 ∷ 9 ∷ 9 ∷ 9 ∷ 9 ∷ 9 ∷ 9 ∷ 9 ∷ 9 ∷ 9 ∷ 9 ∷ 9 ∷ 9 ∷ 9 ∷ 9 ∷ 9 ∷ 9 ∷ 8 ∷ 7 ∷ []

pub example : Merges card_a card_b area (Ok 21) (both ++ 8 ∷ 7 ∷ [])
unfolding merged_card moved terminals nonterminals productions symbols left_of length_of symbol_of sizes_ok between
example = record { answer = merged example_joinable refl (omega arith); area = refl }

pub example_joins : Joins card_a card_b both
example_joins = area_joins card_a card_b area example
