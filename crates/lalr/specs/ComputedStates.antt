-- Computed, and not to be believed: the states are the definition's by `states_are` of proofs/Main.antt, the lookaheads by `facts_only` and `facts_all` of FactLaws.antt,
-- the actions by `actions_only` and `actions_all` of CellLaws.antt, the entering symbols by `entering_is` of EnteringLaws.antt.
-- Items, closure, advance, the states in the order of the paper, the lookaheads, the actions of a cell and the entering symbols.
use Rattle.std.specs.Prelude.{Bool, true, false, ◌&&◌, List, [], ◌∷◌, ◌++◌, map, ℕ, zero, suc, ◌+◌, ◌*◌, ◌-◌, ◌^◌, ◌/◌, ◌%◌, length, get_or, drop, eqb, ltb}
use Rattle.grammar.specs.Grammar.{Grammar}
use Rattle.sets.specs.Lists.{each, peek}
use Rattle.sets.specs.Bit.{bit}
use Rattle.tables.specs.Layout.{reduction, accept}
use Rattle.lalr.specs.ComputedSets.{with_all, reach, when}
use Rattle.lalr.specs.ComputedNonterminals.{nullables, firsts, in_first}

-- s in the list of sets: found, or added at the end; and its number
abbrev pub place_of : ℕ → List ℕ → ℕ
place_of s [] = 0
place_of s (t ∷ ts) = elim (eqb s t) [ true ↦ 0 | false ↦ suc (place_of s ts) ]

abbrev pub place : ℕ → List ℕ → List ℕ
place s [] = s ∷ []
place s (t ∷ ts) = elim (eqb s t) [ true ↦ t ∷ ts | false ↦ t ∷ place s ts ]

-- the same for the set behind a transition, which is 0 where there is none
abbrev pub enter_of : ℕ → List ℕ → ℕ
enter_of zero ts = 0
enter_of (suc s) ts = place_of (suc s) ts

abbrev pub enter : ℕ → List ℕ → List ℕ
enter zero ts = ts
enter (suc s) ts = place (suc s) ts

abbrev pub starts_with : ℕ → List ℕ → Bool
starts_with x [] = false
starts_with x (y ∷ β) = eqb y x

module _ (g : Grammar) where
  -- items are numbered production after production and dot after dot, the added production last: the item of production r and dot d is `first r + d`
  abbrev pub first : ℕ → ℕ
  first zero = 0
  first (suc r) = first r + suc (length (g.right r))

  abbrev pub total : ℕ
  total = first (suc g.productions)

  -- the symbols behind the dot of item k, one of those of the first n productions
  abbrev pub rest_in : ℕ → ℕ → List ℕ
  rest_in zero k = []
  rest_in (suc n) k = elim (ltb k (first n)) [ true ↦ rest_in n k | false ↦ drop (k - first n) (g.right n) ]

  abbrev pub rest_at : ℕ → List ℕ
  rest_at k = rest_in (suc g.productions) k

  -- the first items of the productions for x
  abbrev pub starts_of : ℕ → List ℕ
  starts_of x = each g.productions (λ r. when (eqb (g.left r) x) (first r ∷ []))

  abbrev pub opens : ℕ → List ℕ
  opens k = elim (rest_at k) [ [] ↦ [] | x ∷ β ↦ starts_of x ]

  -- sets of items without lookaheads, bit k for item k
  unfoldable pub closure : ℕ → ℕ
  closure s = reach opens total s

  unfoldable pub advance : ℕ → ℕ → ℕ
  advance s x = with_all 0 (each total (λ k. when (bit s k && starts_with x (rest_at k)) (suc k ∷ [])))

  unfoldable pub goto : ℕ → ℕ → ℕ
  goto s x = closure (advance s x)

  unfoldable pub start : ℕ
  start = closure (2 ^ first g.productions)

  -- the transitions of the set s on the symbols x, x + 1, .., n of them: the sets known behind them, and the numbers they lead to
  abbrev pub row_sets : ℕ → ℕ → ℕ → List ℕ → List ℕ
  row_sets s zero x ts = ts
  row_sets s (suc n) x ts = row_sets s n (suc x) (enter (goto s x) ts)

  abbrev pub row_of : ℕ → ℕ → ℕ → List ℕ → List ℕ
  row_of s zero x ts = []
  row_of s (suc n) x ts = let t = goto s x in enter_of t ts ∷ row_of s n (suc x) (enter t ts)

  pub record Found : Type 0 where
    pub sets : List ℕ
    pub rows : List (List ℕ)

  -- n more states are taken, from number i on
  abbrev pub explore : ℕ → ℕ → List ℕ → List (List ℕ) → Found
  explore zero i ts rows = record { sets = ts; rows = rows }
  explore (suc n) i ts rows =
      elim (ltb i (length ts)) [
        | true ↦ let s = get_or ts i 0 in explore n (suc i) (row_sets s (g.terminals + g.nonterminals) 0 ts) (rows ++ row_of s (g.terminals + g.nonterminals) 0 ts ∷ [])
        | false ↦ record { sets = ts; rows = rows }
      ]

  -- with more than 256 states the list is not complete, and has more than 256
  unfoldable pub states : Found
  states = explore 257 0 (start ∷ []) []

  -- ---- lookaheads: item k with lookahead a in state q is the fact (q * I + k) * T + a
  abbrev pub fact : ℕ → ℕ → ℕ → ℕ
  fact q k a = (q * total + k) * g.terminals + a

  abbrev pub goes : List (List ℕ) → ℕ → ℕ → ℕ
  goes rows q x = get_or (get_or rows q []) x 0

  -- from [A → α . x β, a] in q: GOTO has [A → α x . β, a] in the next state, and CLOSURE has [x → . γ, b] in q, b in FIRST(β a)
  abbrev pub following : ℕ → ℕ → List (List ℕ) → ℕ → ℕ → ℕ → List ℕ
  following e f rows q k a =
      elim (rest_at k) [
        | [] ↦ []
        | x ∷ β ↦
            fact (goes rows q x) (suc k) a ∷ each g.terminals (λ b. when (in_first g e f β a b) (map (λ j. fact q j b) (starts_of x)))
      ]

  abbrev pub facts_with : ℕ → ℕ → List (List ℕ) → ℕ
  facts_with e f rows =
      reach (λ k. following e f rows (k / g.terminals / total) (k / g.terminals % total) (k % g.terminals)) (length rows * total * g.terminals) (2 ^ fact 0 (first g.productions) 0)

  -- all of them, from [start' → . start, 0] in state 0
  unfoldable pub facts : List (List ℕ) → ℕ
  facts rows = facts_with (nullables g) (firsts g) rows

  -- ---- the actions that meet at state q and terminal a, ascending
  abbrev pub is_move : ℕ → Bool
  is_move zero = false
  is_move (suc n) = true

  abbrev pub actions : List (List ℕ) → ℕ → ℕ → ℕ → List ℕ
  actions rows f q a =
      when (is_move (goes rows q a)) (goes rows q a ∷ [])
      ++ (each g.productions (λ r. when (bit f (fact q (first r + length (g.right r)) a)) (reduction r ∷ []))
      ++ when (bit f (fact q (first g.productions + 1) a)) (accept ∷ []))

-- the cell where these meet: the lowest of them, 0 where there is none
abbrev pub cell : List ℕ → ℕ
cell vs = peek vs

-- ---- the entering symbol of state q: the first of the symbols that lead to it, and 0 for state 0, to which none does
module _ (g : Grammar) where
  abbrev pub symbols_to : List (List ℕ) → ℕ → List ℕ
  symbols_to rows q = each (length rows) (λ p. each (g.terminals + g.nonterminals) (λ x. when (eqb (goes g rows p x) q) (x ∷ [])))

  abbrev pub entering : List (List ℕ) → ℕ → ℕ
  entering rows zero = 0
  entering rows (suc q) = peek (symbols_to rows (suc q))
