-- Computed, and not to be believed: they are the definition's by `nullable_is`, `productive_is`, `reachable_is` and `first_is` of proofs/Main.antt.
-- The nullable, productive and reachable symbols, and FIRST.
use Rattle.std.specs.Prelude.{Bool, true, false, ◌&&◌, List, [], ◌∷◌, map, ℕ, zero, suc, ◌+◌, ◌*◌, ◌-◌, ◌^◌, ◌/◌, ◌%◌, eqb}
use Rattle.grammar.specs.Grammar.{Grammar}
use Rattle.sets.specs.Lists.{each}
use Rattle.sets.specs.Bit.{bit}
use Rattle.lalr.specs.ComputedSets.{with', with_all, sweep, least, reach, when, every, up_from}

module _ (g : Grammar) where
  abbrev pub size : ℕ
  size = g.terminals + g.nonterminals

  -- the left side of production r joins where all of its right side is in the set
  abbrev pub learn : ℕ → ℕ → ℕ
  learn r s = elim (every (bit s) (g.right r)) [ true ↦ with' s (g.left r) | false ↦ s ]

  abbrev pub learned : ℕ → ℕ
  learned s = least size (sweep learn g.productions 0) s

  -- the symbols that derive the empty string
  unfoldable pub nullables : ℕ
  nullables = learned 0

  -- the symbols that derive a string of terminals
  unfoldable pub productive : ℕ
  productive = learned (with_all 0 (up_from 1 (g.terminals - 1)))

  -- the symbols reached from the start
  abbrev pub symbols_of : ℕ → List ℕ
  symbols_of x = each g.productions (λ r. when (eqb (g.left r) x) (g.right r))

  unfoldable pub reachable : ℕ
  reachable = reach symbols_of size (2 ^ g.terminals)

  -- the lowest nonterminal, from x on, that is not reached or derives no string of terminals; T + N if there is none
  abbrev pub useless : ℕ → ℕ → ℕ → ℕ → ℕ
  useless f r zero x = x
  useless f r (suc n) x = elim (bit f x && bit r x) [ true ↦ useless f r n (suc x) | false ↦ x ]

  unfoldable pub useless_nonterminal : ℕ
  useless_nonterminal = useless productive reachable g.nonterminals g.terminals

  -- FIRST of one symbol: that the terminal b is in FIRST of the symbol x is the fact x * T + b.
  -- x stands in the right side behind symbols that can be empty
  abbrev pub may_begin : ℕ → ℕ → List ℕ → Bool
  may_begin e x [] = false
  may_begin e x (y ∷ ys) = elim (eqb y x) [ true ↦ true | false ↦ elim (bit e y) [ true ↦ may_begin e x ys | false ↦ false ] ]

  -- from b in FIRST of x: b in FIRST of the left side of each production that x may begin
  abbrev pub first_next : ℕ → ℕ → ℕ → List ℕ
  first_next e x b = each g.productions (λ r. when (may_begin e x (g.right r)) ((g.left r * g.terminals + b) ∷ []))

  abbrev pub firsts_with : ℕ → ℕ
  firsts_with e =
      reach (λ k. first_next e (k / g.terminals) (k % g.terminals)) (size * g.terminals) (with_all 0 (map (λ b. b * g.terminals + b) (up_from 1 (g.terminals - 1))))

  unfoldable pub firsts : ℕ
  firsts = firsts_with nullables

  -- the terminal b is in FIRST of the string β a
  abbrev pub in_first : ℕ → ℕ → List ℕ → ℕ → ℕ → Bool
  in_first e f [] a b = eqb b a
  in_first e f (x ∷ β) a b = elim (bit f (x * g.terminals + b)) [ true ↦ true | false ↦ elim (bit e x) [ true ↦ in_first e f β a b | false ↦ false ] ]
