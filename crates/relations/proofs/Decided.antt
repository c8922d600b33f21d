-- Whether two transitions are related can be told: each number that a relation asks for is sought below a bound.
use mathlib.Core.Path.{◌≡◌, subst}
use mathlib.Core.List.{List}
use mathlib.Core.Bool.{true, Bool-discrete}
use mathlib.Core.Logic.Dec
use mathlib.Core.Logic.{⊎_elim, by_cases}
use Prim.Native.Nat.{ℕ, zero, suc, ◌+◌, ◌-◌, ◌<◌}
use native.Mathlib.Omega.{arith}
use native.Mathlib.Decide.{map_dec, ℕ_discrete, dec_le, dec_lt}
use native.Mathlib.Nat.{not-suc-le-zero, eq-or-lt_of_le, le_of_suc-le-suc}
use Rattle.grammar.specs.Card.{terminals, productions, length_of, left_of}
use Rattle.transitions.specs.Area.{leaves_of, nonterminal_of, enters_of, entering_of, precedes, shortest_of}
use Rattle.transitions.specs.Occurrences.{symbol_at, Nullable, Occurs}
use Rattle.transitions.specs.Data.{Enters}
use Rattle.relations.specs.Path.{Path}
use Rattle.relations.specs.Path.Path.{here, step}
use Rattle.relations.specs.Edge.{Reads, Includes, Related, Edge}
use Rattle.relations.specs.declared.Relation.{Relation}
use Rattle.relations.specs.declared.Relation.TheVariants as relation
use Rattle.relations.proofs.PathLaws.{path_end}

-- whether some number below n has P
below_decided : {P : ℕ → Type 0} → ((i : ℕ) → Dec (P i)) → (n : ℕ) → Dec ((i : ℕ) × (i < n) × P i)
below_decided d zero = no (λ t. not-suc-le-zero t.1)
below_decided {P} d (suc n) = go (d n) (below_decided d n)
  where
    go : Dec (P n) → Dec ((i : ℕ) × (i < n) × P i) → Dec ((i : ℕ) × (i < suc n) × P i)
    go (yes p) e = yes (n, omega arith, p)
    go (no a) (yes t) = yes (t.0, omega (arith, t.1), t.2)
    go (no a) (no b) = no (λ t. ⊎_elim (λ e. a (subst P e t.2)) (λ h. b (t.0, h, t.2)) (eq-or-lt_of_le (le_of_suc-le-suc t.1)))

nullable_decided : (c : List ℕ) (e : ℕ → ℕ) (x : ℕ) → Dec (Nullable c e x)
nullable_decided c e x =
    map_dec (λ t. record { nonterminal = t.0; empty = t.1 }) (λ n. (n.nonterminal, n.empty))
    (Dec.and (dec_le (terminals c) x) (ℕ_discrete (e (x - terminals c)) 0))

module _ (c : List ℕ) (e : ℕ → ℕ) (r d : ℕ) where
  -- by seeking a symbol behind the dot d that is not nullable
  tail_decided : Dec ((i : ℕ) → d < i → i < length_of c r → Nullable c e (symbol_at c r i))
  tail_decided =
      map_dec (λ f i h l. by_cases (null i) (λ n. n) (λ n. absurd (f (i, l, (h, n))))) (λ f t. t.2.1 (f t.0 t.2.0 t.1))
      (Dec.not (below_decided (λ i. Dec.and (dec_lt d i) (Dec.not (null i))) (length_of c r)))
    where
      null : (i : ℕ) → Dec (Nullable c e (symbol_at c r i))
      null i = nullable_decided c e (symbol_at c r i)

  occurs_decided : Dec (Occurs c e r d)
  occurs_decided =
      map_dec (λ t. record { production = t.0.0; within = t.0.1; nonterminal = t.1.0; tail = t.1.1 })
      (λ t. ((t.production, t.within), (t.nonterminal, t.tail)))
      (Dec.and (Dec.and (dec_lt r (productions c)) (dec_lt d (length_of c r))) (Dec.and (dec_le (terminals c) (symbol_at c r d)) tail_decided))

module _ (w : List ℕ) where
  enters_decided : (p x q : ℕ) → Dec (Enters w p x q)
  enters_decided p x q =
      map_dec (λ t. record { from = t.0.0; into = t.0.1; before = t.1.0; symbol = t.1.1 })
      (λ t. ((t.from, t.into), (t.before, t.symbol)))
      (Dec.and (Dec.and (dec_lt p 256) (dec_lt q 256)) (Dec.and (Bool-discrete (precedes w q p) true) (ℕ_discrete (entering_of w q) x)))

  -- by recursion on the number n of the symbols that are left
  path_decided : (f : ℕ → ℕ) (d q n i p : ℕ) → i + n ≡ d → Dec (Path (Enters w) f d q i p)
  path_decided f d q zero i p h = map_dec (λ e. here (omega arith) e) (λ t. path_end t (omega arith)) (ℕ_discrete p q)
  path_decided f d q (suc n) i p h =
      map_dec (λ t. step t.0 t.2.0 t.2.1) first
      (below_decided (λ s. Dec.and (enters_decided p (f i) s) (path_decided f d q n (suc i) s (omega arith))) 256)
    where
      first : Path (Enters w) f d q i p → (s : ℕ) × (s < 256) × (Enters w p (f i) s × Path (Enters w) f d q (suc i) s)
      first (here e k) = absurd (omega arith)
      first (step s g t) = (s, g.into, (g, t))

module _ (c w : List ℕ) (x y : ℕ) where
  reads_decided : Dec (Reads c w x y)
  reads_decided =
      map_dec (λ t. record { state = t.0; nullable = t.1 }) (λ t. (t.state, t.nullable))
      (Dec.and (ℕ_discrete (leaves_of w y) (enters_of w x)) (nullable_decided c (shortest_of w) (nonterminal_of w y)))

  includes_decided : Dec (Includes c w x y)
  includes_decided =
      map_dec
      (λ t. record { production = t.0; dot = t.2.0; occurs = t.2.2.0.0; symbol = t.2.2.0.1; left = t.2.2.1.0; leads = t.2.2.1.1 })
      (λ t. (t.production, t.occurs.production, (t.dot, t.occurs.within, ((t.occurs, t.symbol), (t.left, t.leads)))))
      (below_decided (λ r. below_decided (λ d. Dec.and
      (Dec.and (occurs_decided c (shortest_of w) r d) (ℕ_discrete (symbol_at c r d) (nonterminal_of w x)))
      (Dec.and (ℕ_discrete (left_of c r) (nonterminal_of w y)) (path_decided w (symbol_at c r) d (leaves_of w x) d 0 (leaves_of w y) (omega arith))))
      (length_of c r)) (productions c))

  related_decided : (r : Relation) → Dec (Related r c w x y)
  related_decided relation.Reads = reads_decided
  related_decided relation.Includes = includes_decided

-- whether y is related to x can be told
pub edge_decided : (r : Relation) (c w : List ℕ) (k x y : ℕ) → Dec (Edge r c w k x y)
edge_decided r c w k x y = map_dec (λ t. record { inside = t.0; related = t.1 }) (λ t. (t.inside, t.related)) (Dec.and (dec_lt y k) (related_decided c w x y r))
