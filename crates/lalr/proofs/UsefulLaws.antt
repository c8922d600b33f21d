-- Refusal 10: the nonterminals that are reached and derive terminals, in the words of derivation.
use mathlib.Core.Path.{◌≡◌, refl, sym}
use mathlib.Core.Bool.{Bool, true, false}
use mathlib.Core.Logic.{◌↔◌}
use mathlib.Core.List.{List, [], ◌∷◌, Memᴰ}
use Prim.Native.Nat.{ℕ, zero, suc, ◌+◌, ◌^◌, ◌≤◌, ◌<◌}
use native.Mathlib.Omega.{arith}
use lib.Pow.{pow-lt}
use lib.Dec.{eqb}
use borrow.Author.Tests.{eqb-true, eq-eqb}
use Rattle.grammar.specs.Grammar.{Grammar, Formed, Symbols}
use Rattle.grammar.proofs.Derive.{derives_yields}
use Rattle.lr.proofs.ItemLaws.{AllProductive, all_productive}
use Rattle.grammar.specs.Useful.{Reachable, LowestUseless}
use Rattle.grammar.proofs.Closed
use Rattle.sets.specs.Bit.{bit}
use Rattle.lalr.specs.ComputedSets.{when}
use mathlib.Core.Bool.{◌&&◌}
use Rattle.lalr.specs.ComputedNonterminals.{size, productive, reachable, symbols_of, useless, useless_nonterminal}
use Rattle.lalr.proofs.Members.{All, none, has_power, has_power_only}
use Rattle.lalr.proofs.Reach.{reach_only, reach_all, reach_start}
use Rattle.lalr.proofs.Lists.{not-true, all_of, each_in, each_from, From, from, when_in, when_from}
use Rattle.lalr.proofs.ItemLaws.{both_true}
use Rattle.lalr.proofs.NonterminalLaws.{productive_exact}

all_mem : {P : ℕ → Type 0} {y : ℕ} {l : List ℕ} → Closed.All P l → Memᴰ y l → P y
all_mem Closed.none m = elim m [ ]
all_mem {P} (Closed.more h a) (Memᴰ.head e) = rw e h
all_mem (Closed.more h a) (Memᴰ.tail m) = all_mem a m

all_from : {P : ℕ → Type 0} (l : List ℕ) → ((y : ℕ) → Memᴰ y l → P y) → Closed.All P l
all_from [] h = Closed.none
all_from (x ∷ l) h = Closed.more (h x (Memᴰ.head refl)) (all_from l (λ y m. h y (Memᴰ.tail m)))

module _ (g : Grammar) where
  reachable_is : {x y : ℕ} → x ≡ y → Reachable g x → Reachable g y
  reachable_is e t = rw (← e) t

  module _ (f : Formed g) where
    abbrev In : ℕ → Type 0
    In x = bit (reachable g) x ≡ true

    abbrev parts : ℕ → ℕ → List ℕ
    parts x r = when (eqb (g.left r) x) (g.right r)

    next_all : (P : ℕ → Type 0) (x : ℕ) → ((r y : ℕ) → r < g.productions → g.left r ≡ x → Memᴰ y (g.right r) → P y) → All P (symbols_of g x)
    next_all P x h = all_of (symbols_of g x) (λ y m. go y (each_from g.productions (parts x) m))
      where
        go : (y : ℕ) → From y g.productions (parts x) → P y
        go y (from r l m) = let t = when_from (eqb (g.left r) x) m in h r y l (eqb-true (g.left r) x t.0) t.1

    symbol_below : {n y : ℕ} {l : List ℕ} → Symbols n l → Memᴰ y l → y < n
    symbol_below Symbols.none m = elim m [ ]
    symbol_below {n} (Symbols.more h k s) (Memᴰ.head e) = rw e k
    symbol_below (Symbols.more h k s) (Memᴰ.tail m) = symbol_below s m

    inside : (k : ℕ) → k < size g → All (λ j. j < size g) (symbols_of g k)
    inside k l = next_all (λ j. j < size g) k (λ r y h e m. symbol_below (f.right_symbols r h) m)

    closed : (r : ℕ) → r < g.productions → In (g.left r) → Closed.All In (g.right r)
    unfolding reachable
    closed r h i =
        all_from (g.right r)
        (λ y m. reach_all (symbols_of g) (size g) inside (2 ^ g.terminals) (pow-lt (omega (arith, f.start_nonterminal))) (g.left r) (f.left_below r h) i
        (each_in g.productions (parts (g.left r)) r h (when_in (eq-eqb (g.left r) (g.left r) refl) m)))

    start_in : In g.terminals
    unfolding reachable
    start_in = reach_start (symbols_of g) (size g) (2 ^ g.terminals) g.terminals (has_power g.terminals)

    pub reachable_exact : (x : ℕ) → In x ↔ Reachable g x
    unfolding reachable
    reachable_exact x = (only x, Closed.reachable_least g In closed start_in)
      where
        only : (x : ℕ) → In x → Reachable g x
        only x h =
            reach_only (symbols_of g) (Reachable g) (λ k p. next_all (Reachable g) k (λ r y l e m. all_mem (Closed.reachable_right g r l (reachable_is (sym e) p)) m)) (size g) (2 ^ g.terminals)
            (λ j e. reachable_is (sym (has_power_only g.terminals j e)) (Closed.reachable_start g)) x h

    -- the lowest
    abbrev fine : ℕ → Bool
    fine x = ◌&&◌ (bit (productive g) x) (bit (reachable g) x)

    pub record Lowest (x n k : ℕ) : Type 0 where
      pub from : x ≤ k
      pub to : k ≤ x + n
      pub before : (y : ℕ) → x ≤ y → y < k → fine y ≡ true
      pub here : k < x + n → fine k ≡ false

    lowest : (n x : ℕ) → Lowest x n (useless g (productive g) (reachable g) n x)
    lowest zero x = record { from = omega arith; to = omega arith; before = λ y h k. absurd (omega arith); here = λ h. absurd (omega arith) }
    lowest (suc n) x = go (fine x) refl (lowest n (suc x))
      where
        go : (b : Bool) → fine x ≡ b → Lowest (suc x) n (useless g (productive g) (reachable g) n (suc x)) → Lowest x (suc n) (useless g (productive g) (reachable g) (suc n) x)
        go true e l =
            rw (e, useless)
            (record {
              from = omega (arith, l.from);
              to = omega (arith, l.to);
              before = λ y h k. at y h k (native.Mathlib.Decide.ℕ_discrete y x);
              here = λ h. l.here (omega arith);
            })
          where
            at : (y : ℕ) → x ≤ y → y < useless g (productive g) (reachable g) n (suc x) → Dec (y ≡ x) → fine y ≡ true
            at y h k (yes q) = rw q e
            at y h k (no ne) = l.before y (omega arith) k
        go false e l = rw (e, useless) (record { from = omega arith; to = omega arith; before = λ y h k. absurd (omega arith); here = λ h. e })

    pub useless_nonterminal_is : LowestUseless g (useless_nonterminal g)
    unfolding useless_nonterminal
    useless_nonterminal_is =
        let l = lowest g.nonterminals g.terminals in
        record {
          from = l.from;
          to = l.to;
          before = λ y h k. let b = both_true (bit (productive g) y) (bit (reachable g) y) (l.before y h k) in record { reachable = (reachable_exact y).0 b.1; productive = (productive_exact g f y).0 b.0 };
          here = λ h u. not-true (join ((productive_exact g f (useless g (productive g) (reachable g) g.nonterminals g.terminals)).1 u.productive) ((reachable_exact (useless g (productive g) (reachable g) g.nonterminals g.terminals)).1 u.reachable)) (l.here h);
        }
      where
        join : {a b : Bool} → a ≡ true → b ≡ true → (a && b) ≡ true
        join e k = rw (e, k) refl

    pub none_useless : g.terminals + g.nonterminals ≤ useless_nonterminal g → AllProductive g
    none_useless h = all_productive g (λ x n. (useless_nonterminal_is.before x n.from (omega (arith, n.below))).productive)
