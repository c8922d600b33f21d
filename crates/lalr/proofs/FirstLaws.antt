-- The computed FIRST is the paper's: the terminals that begin a terminal string that the string derives.
use mathlib.Core.Path.{◌≡◌, refl, sym, ap, subst}
use mathlib.Core.Bool.{Bool, true, false}
use mathlib.Core.Logic.{◌↔◌}
use mathlib.Core.List.Memᴰ
use mathlib.Core.List.{List, [], ◌∷◌, map, Memᴰ}
use Prim.Native.Nat.{ℕ, ◌+◌, ◌*◌, ◌-◌, ◌/◌, ◌%◌, ◌^◌, ◌≤◌, ◌<◌}
use native.Mathlib.Omega.{arith}
use native.Mathlib.Nat.{mod-lt}
use lib.Pow.{pow_pos}
use lib.Arith.{digits_div, digits_mod, digits_lt}
use lib.Dec.{eqb}
use borrow.Author.Tests.{eqb-true, eq-eqb}
use Rattle.grammar.specs.Grammar.{Grammar, Formed, Symbols, Derives}
use Rattle.grammar.proofs.Yield.{Yields, nil, terminal, nonterminal, append, Split, parts, split}
use Rattle.grammar.proofs.Derive.{derives_yields, yields_derives}
use Rattle.lr.proofs.ItemLaws.{AllProductive, all_made}
use Rattle.lr.specs.Sets
use Rattle.lr.specs.Items
use Rattle.lr.proofs.Firsts.{FirstYields, yields, empty, first_yields, first_begins, first_follows}
use Rattle.sets.specs.Bit.{bit}
use Rattle.lalr.specs.ComputedSets.{with_all, when}
use Rattle.lalr.specs.ComputedNonterminals.{size, nullables, may_begin, first_next, firsts, in_first}
use Rattle.lalr.specs.ComputedSets.{up_from}
use Rattle.lalr.proofs.Members.{All, all_stay}
use Rattle.lalr.proofs.Reach.{reach_only, reach_all, reach_start}
use Rattle.lalr.proofs.Lists.{not-true, not_cons, up_in, up_from_is, all_of, all_in, set_of, each_in, each_from, From, from, when_in, when_from}
use Rattle.lalr.proofs.NonterminalLaws.{nullables_exact}

cons_head : {x y : ℕ} {xs ys : List ℕ} → ◌≡◌ {A = List ℕ} (x ∷ xs) (y ∷ ys) → x ≡ y
cons_head e = cc

module _ (g : Grammar) where
  pub data Starts (l : List ℕ) (b : ℕ) : Type 0 where
    starts : {p w : List ℕ} → Yields g l p (b ∷ w) → Starts l b

  module _ (f : Formed g) (pr : AllProductive g) where
    abbrev T : ℕ
    T = g.terminals

    abbrev e : ℕ
    e = nullables g

    abbrev own : List ℕ
    own = map (λ b. b * g.terminals + b) (up_from 1 (g.terminals - 1))

    abbrev next : ℕ → List ℕ
    next k = first_next g e (k / T) (k % T)

    may_here : (x : ℕ) (l : List ℕ) → may_begin g e x (x ∷ l) ≡ true
    may_here x l = rw (eq-eqb x x refl, may_begin)

    may_later : (x y : ℕ) (l : List ℕ) → bit e y ≡ true → may_begin g e x l ≡ true → may_begin g e x (y ∷ l) ≡ true
    may_later x y l h k = go (eqb y x) refl
      where
        go : (b : Bool) → eqb y x ≡ b → may_begin g e x (y ∷ l) ≡ true
        go true q = rw (q, may_begin)
        go false q = rw (q, may_begin, h) k

    starts_more : {x b : ℕ} {l : List ℕ} → Symbols (g.terminals + g.nonterminals) l → Starts (x ∷ []) b → Starts (x ∷ l) b
    starts_more s (starts y) = let m = all_made g f pr s in starts (append g y m.2)

    starts_behind : {x b : ℕ} {l : List ℕ} → Derives g (x ∷ []) [] → Starts l b → Starts (x ∷ l) b
    starts_behind d (starts z) = starts (append g (derives_yields g d Symbols.none).1 z)

    may_sound : (x b : ℕ) {l : List ℕ} → Symbols (g.terminals + g.nonterminals) l → may_begin g e x l ≡ true → Starts (x ∷ []) b → Starts l b
    may_sound x b Symbols.none h y = absurd (not-true h refl)
    may_sound x b (Symbols.more {a} {w} h₁ h₂ s) h y = go (eqb a x) (bit e a) refl refl (λ k. may_sound x b s k y)
      where
        go : (c d : Bool) → eqb a x ≡ c → bit e a ≡ d → (may_begin g e x w ≡ true → Starts w b) → Starts (a ∷ w) b
        go true d q k ih = starts_more s (rw (eqb-true a x q) y)
        go false true q k ih = starts_behind ((nullables_exact g f a).0 k) (ih (rw (q, may_begin, k) at h))
        go false false q k ih = absurd (not-true (rw (q, may_begin, k) at h) refl)

    starts_production : (r b : ℕ) → r < g.productions → Starts (g.right r) b → Starts (g.left r ∷ []) b
    starts_production r b h (starts y) = starts (nonterminal r h y nil)

    abbrev At : ℕ → Type 0
    At k = Starts (k / T ∷ []) (k % T)

    at_of : (x b : ℕ) → b < T → Starts (x ∷ []) b → At (x * T + b)
    at_of x b h s = rw (digits_div x h, digits_mod x h) s

    next_all : (P : ℕ → Type 0) (k : ℕ) → ((r : ℕ) → r < g.productions → may_begin g e (k / T) (g.right r) ≡ true → P (g.left r * T + k % T)) → All P (next k)
    next_all P k h = all_of (next k) (λ j m. go j (each_from g.productions (λ r. when (may_begin g e (k / T) (g.right r)) ((g.left r * T + k % T) ∷ [])) m))
      where
        go : (j : ℕ) → From j g.productions (λ r. when (may_begin g e (k / T) (g.right r)) ((g.left r * T + k % T) ∷ [])) → P j
        go j (from r l m) = let t = when_from (may_begin g e (k / T) (g.right r)) m in rw (Memᴰ.eq_of_singleton t.1) (h r l t.0)

    own_from : (j : ℕ) → bit (with_all 0 own) j ≡ true → (b : ℕ) × (0 < b) × (b < T) × (b * T + b ≡ j)
    own_from j h =
        let t = Memᴰ.of_map (λ b. b * g.terminals + b) (up_from 1 (g.terminals - 1)) (set_of own j h) in
        let u = up_from_is 1 (g.terminals - 1) t.0 t.1 in
        let a : 1 ≤ t.0 = u.0 in
        let c : t.0 < 1 + (g.terminals - 1) = u.1 in
        (t.0, omega arith, omega arith, t.2)

    own_in : (b : ℕ) → 0 < b → b < T → bit (with_all 0 own) (b * T + b) ≡ true
    own_in b h k = all_in 0 own (b * T + b) (Memᴰ.map (λ b. b * g.terminals + b) (up_in 1 (g.terminals - 1) b (omega arith) (omega arith)))

    pub first_only : (k : ℕ) → bit (firsts g) k ≡ true → At k
    unfolding firsts
    first_only k h =
        reach_only next At
        (λ k a. next_all At k (λ r l m. at_of (g.left r) (k % T) (mod-lt k f.end_marker) (starts_production r (k % T) l (may_sound (k / T) (k % T) (f.right_symbols r l) m a))))
        (size g * T) (with_all 0 own)
        (λ j m. let t = own_from j m in subst At t.3 (at_of t.0 t.0 t.2 (starts (terminal t.1 t.2 nil)))) k h

    inside : (k : ℕ) → k < size g * T → All (λ j. j < size g * T) (next k)
    inside k l = next_all (λ j. j < size g * T) k (λ r h m. digits_lt (f.left_below r h) (mod-lt k f.end_marker))

    own_small : with_all 0 own < 2 ^ (size g * T)
    own_small =
        all_stay (size g * T) 0 (all_of own (λ j m. let t = Memᴰ.of_map (λ b. b * g.terminals + b) (up_from 1 (g.terminals - 1)) m in bound t.0 j t.1 t.2)) (pow_pos (size g * T))
      where
        bound : (b j : ℕ) → Memᴰ b (up_from 1 (g.terminals - 1)) → b * T + b ≡ j → j < size g * T
        bound b j m e = let t = up_from_is 1 (g.terminals - 1) b m in let c : b < 1 + (g.terminals - 1) = t.1 in let p : 0 < g.terminals = f.end_marker in let s : b < size g = omega arith in let v : b < T = omega arith in rw (← e) (digits_lt s v)

    -- x, in FIRST of which b is, may begin the string
    pub record Led (l : List ℕ) (b : ℕ) : Type 0 where
      pub by : ℕ
      pub below : by < size g
      pub may : may_begin g e by l ≡ true
      pub there : bit (firsts g) (by * T + b) ≡ true

    step : {r b : ℕ} → r < g.productions → b < T → Led (g.right r) b → bit (firsts g) (g.left r * T + b) ≡ true
    unfolding firsts
    step {r} {b} h hb l =
        let k : ℕ = l.by * T + b in
        reach_all next (size g * T) inside (with_all 0 own) own_small (l.by * T + b) (digits_lt l.below hb) l.there
        (rw (digits_div l.by hb, digits_mod l.by hb) (each_in g.productions (λ r. when (may_begin g e l.by (g.right r)) ((g.left r * T + b) ∷ [])) r h (when_in l.may (Memᴰ.head refl))))

    own_there : (b : ℕ) → 0 < b → b < T → bit (firsts g) (b * T + b) ≡ true
    unfolding firsts
    own_there b h k = reach_start next (size g * T) (with_all 0 own) (b * T + b) (own_in b h k)

    led : {l p v : List ℕ} {b : ℕ} {w : List ℕ} → Yields g l p v → v ≡ b ∷ w → b < T → Led l b
    led nil ev hb = absurd (not_cons ev)
    led {b} (terminal {a} {α} h k y) ev hb = let q : a ≡ b = cons_head ev in record { by = a; below = omega arith; may = may_here a α; there = rw (← q) (own_there a h k) }
    led {b} (nonterminal {α} {u = []} r h x z) ev hb =
        let t = led z ev hb in
        record { by = t.by; below = t.below; may = may_later t.by (g.left r) α ((nullables_exact g f (g.left r)).1 (yields_derives g (nonterminal r h x nil))) t.may; there = t.there }
    led {b} (nonterminal {α} {u = c ∷ u} r h x z) ev hb =
        let q : c ≡ b = cons_head ev in
        record { by = g.left r; below = f.left_below r h; may = may_here (g.left r) α; there = step h hb (led x (ap (λ (i : ℕ). i ∷ u) q) hb) }

    one : (x y : ℕ) → may_begin g e y (x ∷ []) ≡ true → x ≡ y
    one x y h = go (eqb x y) refl
      where
        last : (d : Bool) → eqb x y ≡ false → bit e x ≡ d → x ≡ y
        last true q k = absurd (not-true (rw (q, may_begin, k) at h) refl)
        last false q k = absurd (not-true (rw (q, may_begin, k) at h) refl)

        go : (c : Bool) → eqb x y ≡ c → x ≡ y
        go true q = eqb-true x y q
        go false q = last (bit e x) q refl

    pub firsts_exact : (x b : ℕ) → b < T → (bit (firsts g) (x * T + b) ≡ true) ↔ Starts (x ∷ []) b
    firsts_exact x b hb = (λ h. rw (digits_div x hb, digits_mod x hb) at (first_only (x * T + b) h), back)
      where
        back : Starts (x ∷ []) b → bit (firsts g) (x * T + b) ≡ true
        back (starts y) = let t = led y refl hb in rw (one x t.by t.may) t.there

    -- FIRST of a string
    first_more : {x a b : ℕ} {β : List ℕ} → Derives g (x ∷ []) [] → FirstYields g β a b → Sets.First g (x ∷ β) a b
    first_more d (yields z) = first_begins g (append g (derives_yields g d Symbols.none).1 z)
    first_more d (empty z q) = first_follows g (append g (derives_yields g d Symbols.none).1 z) q

    first_here : {x a b : ℕ} {β : List ℕ} → Symbols (g.terminals + g.nonterminals) β → Starts (x ∷ []) b → Sets.First g (x ∷ β) a b
    first_here s (starts y) = let m = all_made g f pr s in first_begins g (append g y m.2)

    pub in_sound : (a b : ℕ) → b < T → {β : List ℕ} → Symbols (g.terminals + g.nonterminals) β → in_first g e (firsts g) β a b ≡ true → Sets.First g β a b
    in_sound a b hb Symbols.none h = first_follows g nil (eqb-true b a h)
    in_sound a b hb (Symbols.more {a = x} {w = β} h₁ h₂ s) h = go (bit (firsts g) (x * T + b)) (bit e x) refl refl (λ k. in_sound a b hb s k)
      where
        go : (c d : Bool) → bit (firsts g) (x * T + b) ≡ c → bit e x ≡ d → (in_first g e (firsts g) β a b ≡ true → Sets.First g β a b) → Sets.First g (x ∷ β) a b
        go true d q k ih = first_here s ((firsts_exact x b hb).0 q)
        go false true q k ih = first_more ((nullables_exact g f x).0 k) (first_yields g (ih (rw (q, in_first, k) at h)))
        go false false q k ih = absurd (not-true (rw (q, in_first, k) at h) refl)

    in_here : (x a b : ℕ) (β : List ℕ) → bit (firsts g) (x * T + b) ≡ true → in_first g e (firsts g) (x ∷ β) a b ≡ true
    in_here x a b β h = rw (h, in_first)

    in_later : (x a b : ℕ) (β : List ℕ) → bit e x ≡ true → in_first g e (firsts g) β a b ≡ true → in_first g e (firsts g) (x ∷ β) a b ≡ true
    in_later x a b β h k = go (bit (firsts g) (x * T + b)) refl
      where
        go : (c : Bool) → bit (firsts g) (x * T + b) ≡ c → in_first g e (firsts g) (x ∷ β) a b ≡ true
        go true q = rw (q, in_first)
        go false q = rw (q, in_first, h) k

    pub in_all : (a b : ℕ) → b < T → (β : List ℕ) → FirstYields g β a b → in_first g e (firsts g) β a b ≡ true
    in_all a b hb [] (yields y) = absurd (nothing y refl)
      where
        nothing : {p v w : List ℕ} → Yields g [] p v → v ≡ b ∷ w → ⊥
        nothing nil q = not_cons q
    in_all a b hb [] (empty y q) = eq-eqb b a q
    in_all a b hb (x ∷ β) (yields y) = go (split g (x ∷ []) y) refl (λ fi. in_all a b hb β fi)
      where
        go : {p v w : List ℕ} → Split g (x ∷ []) β p v → v ≡ b ∷ w → (FirstYields g β a b → in_first g e (firsts g) β a b ≡ true) → in_first g e (firsts g) (x ∷ β) a b ≡ true
        go (parts {w₁ = []} {w₂ = v} y z) q ih = in_later x a b β ((nullables_exact g f x).1 (yields_derives g y)) (ih (yields (rw q at z)))
        go (parts {w₁ = c ∷ u} y z) q ih = in_here x a b β ((firsts_exact x b hb).1 (starts (rw (cons_head q) at y)))
    in_all a b hb (x ∷ β) (empty y k) = go (split g (x ∷ []) y) refl (λ fi. in_all a b hb β fi)
      where
        go : {p v : List ℕ} → Split g (x ∷ []) β p v → v ≡ [] → (FirstYields g β a b → in_first g e (firsts g) β a b ≡ true) → in_first g e (firsts g) (x ∷ β) a b ≡ true
        go (parts {w₁ = []} {w₂ = v} y z) q ih = in_later x a b β ((nullables_exact g f x).1 (yields_derives g y)) (ih (empty (rw q at z) k))
        go (parts {w₁ = c ∷ u} y z) q ih = absurd (not_cons (sym q))
