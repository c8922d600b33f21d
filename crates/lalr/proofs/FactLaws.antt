-- The facts that are found are the merged LR(1) items.
use mathlib.Core.Path.{◌≡◌, refl, sym, ap, ◌∙◌, subst}
use mathlib.Core.Bool.{Bool, true}
use mathlib.Core.List.{List, [], ◌∷◌, ◌++◌, map, Memᴰ}
use Prim.Native.Nat.{ℕ, zero, suc, ◌+◌, ◌*◌, ◌/◌, ◌%◌, ◌^◌, ◌<◌}
use native.Mathlib.Omega.{arith}
use native.Mathlib.Nat.{mod-lt, div-lt_iff_lt-mul, div-add-mod'}
use lib.Pow.{pow-lt}
use lib.Arith.{digits_div, digits_mod, digits_lt}
use lib.ListN.{length, drop}
use Rattle.grammar.specs.Grammar.{Grammar, Formed, Symbols}
use Rattle.lr.proofs.Canonical.{Canonical}
use Rattle.lr.specs.Items
use Rattle.lr.proofs.Firsts.{first_yields}
use Rattle.lr.proofs.ItemLaws.{AllProductive, after_symbols, lookahead_terminal}
use Rattle.lr.proofs.Automaton.{Automaton, Sits, walk, walk_snoc}
use Rattle.sets.specs.Lists.{each}
use Rattle.sets.specs.Bit.{bit}
use Rattle.lalr.specs.ComputedSets.{when}
use Rattle.lalr.specs.ComputedNonterminals.{nullables, firsts, in_first}
use Rattle.lalr.specs.ComputedStates
use Rattle.lalr.specs.ComputedStates.{first, total, rest_at, starts_of, fact, following, facts}
use Rattle.lalr.proofs.Members.{All, none, some, has_power, has_power_only}
use Rattle.lalr.proofs.Reach.{reach_only, reach_all, reach_start}
use Rattle.lalr.proofs.Lists.{all_of, each_in, each_from, From, from, when_in, when_from}
use Rattle.lalr.proofs.ItemLaws.{Valid, Rest, rest, rest_of, rest_at_is, item_below, item_inj, valid_production, moved_valid, starts_from, starts_in}
use Rattle.lalr.proofs.FirstLaws.{in_sound, in_all}

module _ (g : Grammar) (f : Formed g) (pr : AllProductive g) (rows : List (List ℕ)) (holds : ℕ → ℕ → ℕ → Type 0) (au : Automaton g (length rows) holds (ComputedStates.goes g rows)) where
  abbrev T : ℕ
  T = g.terminals

  abbrev I : ℕ
  I = total g

  abbrev next : ℕ → ℕ → ℕ
  next q x = ComputedStates.goes g rows q x

  abbrev lookahead : List ℕ → ℕ → ℕ → Bool
  lookahead β a b = in_first g (nullables g) (firsts g) β a b

  abbrev size : ℕ
  size = length rows * I * T

  abbrev fol : ℕ → List ℕ
  fol k = following g (nullables g) (firsts g) rows (k / T / I) (k / T % I) (k % T)

  fact_parts : (q k a : ℕ) → k < I → a < T → (fact g q k a / T / I ≡ q) × (fact g q k a / T % I ≡ k) × (fact g q k a % T ≡ a)
  fact_parts q k a hk ha =
      let e : fact g q k a / T ≡ q * I + k = digits_div (q * I + k) ha in
      (ap (λ (x : ℕ). x / I) e ∙ digits_div q hk, ap (λ (x : ℕ). x % I) e ∙ digits_mod q hk, digits_mod (q * I + k) ha)

  abbrev At : ℕ → Type 0
  At k = (q r d a : ℕ) → Valid g r d → a < T → k ≡ fact g q (first g r + d) a → Sits g next q r d a

  -- a fact that is shown at its own place is shown
  at_fact : (q r d a : ℕ) → Valid g r d → a < T → Sits g next q r d a → At (fact g q (first g r + d) a)
  at_fact q r d a v h s q' r' d' a' v' h' e =
      let t = fact_parts q (first g r + d) a (item_below g v) h in
      let u = fact_parts q' (first g r' + d') a' (item_below g v') h' in
      let eq : q' ≡ q = sym u.0 ∙ ap (λ (x : ℕ). x / T / I) (sym e) ∙ t.0 in
      let ek : first g r' + d' ≡ first g r + d = sym u.1 ∙ ap (λ (x : ℕ). x / T % I) (sym e) ∙ t.1 in
      let ea : a' ≡ a = sym u.2 ∙ ap (λ (x : ℕ). x % T) (sym e) ∙ t.2 in
      let n = item_inj g v' v ek in
      rw (eq, n.0, n.1, ea) s

  follow_all : (P : ℕ → Type 0) (q k a : ℕ) → ((x : ℕ) (β : List ℕ) → rest_at g k ≡ x ∷ β → P (fact g (next q x) (suc k) a))
      → ((x : ℕ) (β : List ℕ) → rest_at g k ≡ x ∷ β → (s : ℕ) → s < g.productions → g.left s ≡ x → (b : ℕ) → b < T → lookahead β a b ≡ true → P (fact g q (first g s + 0) b))
      → All P (following g (nullables g) (firsts g) rows q k a)
  follow_all P q k a h c = go (rest_at g k) refl
    where
      one : (x : ℕ) (β : List ℕ) → rest_at g k ≡ x ∷ β → (j : ℕ) → From j T (λ b. when (lookahead β a b) (map (λ j. fact g q j b) (starts_of g x))) → P j
      one x β e j (from b l m) =
          let t = when_from (lookahead β a b) m in
          let u = mathlib.Core.List.Memᴰ.of_map (λ j. fact g q j b) (starts_of g x) t.1 in
          let w = starts_from g x u.0 u.1 in
          rw (← u.2, w.3) (c x β e w.0 w.1 w.2 b l t.0)

      go : (l : List ℕ) → rest_at g k ≡ l → All P (following g (nullables g) (firsts g) rows q k a)
      go [] e = rw (e, following) none
      go (x ∷ β) e = rw (e, following) (some (h x β e) (all_of (each T (λ b. when (lookahead β a b) (map (λ j. fact g q j b) (starts_of g x)))) (λ j m. one x β e j (each_from T (λ b. when (lookahead β a b) (map (λ j. fact g q j b) (starts_of g x))) m))))

  mem_goto : (q k a : ℕ) {x : ℕ} {β : List ℕ} → rest_at g k ≡ x ∷ β → Memᴰ (fact g (next q x) (suc k) a) (following g (nullables g) (firsts g) rows q k a)
  mem_goto q k a e = rw (e, following) (mathlib.Core.List.Memᴰ.head refl)

  mem_closure : (q k a : ℕ) {x : ℕ} {β : List ℕ} → rest_at g k ≡ x ∷ β → (s b : ℕ) → s < g.productions → g.left s ≡ x → b < T → lookahead β a b ≡ true
      → Memᴰ (fact g q (first g s + 0) b) (following g (nullables g) (firsts g) rows q k a)
  mem_closure q k a {x} {β} e s b hs es hb h =
      rw (e, following)
      (mathlib.Core.List.Memᴰ.tail (each_in T (λ b. when (lookahead β a b) (map (λ j. fact g q j b) (starts_of g x))) b hb (when_in h (mathlib.Core.List.Memᴰ.map (λ j. fact g q j b) (starts_in g s x hs es)))))

  symbols_drop : (d : ℕ) {n : ℕ} {l : List ℕ} → Symbols n l → Symbols n (drop d l)
  symbols_drop zero s = s
  symbols_drop (suc d) Symbols.none = Symbols.none
  symbols_drop (suc d) (Symbols.more h k s) = symbols_drop d s

  -- the facts only
  whole : (k : ℕ) → k ≡ fact g (k / T / I) (k / T % I) (k % T)
  whole k =
      let e : k / T * T + k % T ≡ k = div-add-mod' k T in
      let e2 : k / T / I * I + k / T % I ≡ k / T = div-add-mod' (k / T) I in
      sym (ap (λ (x : ℕ). x * T + k % T) e2 ∙ e)

  sits_goto : {q r d a x : ℕ} {β : List ℕ} → Sits g next q r d a → drop d (g.right r) ≡ x ∷ β → Sits g next (next q x) r (suc d) a
  sits_goto {x = x} s e = record { path = s.path ++ x ∷ []; leads = walk_snoc next 0 s.path x ∙ ap (λ (p : ℕ). next p x) s.leads; item = Canonical.goto s.item e }

  sits_close : {q r d a s b : ℕ} {β : List ℕ} → Sits g next q r d a → drop d (g.right r) ≡ g.left s ∷ β → s < g.productions → b < T → lookahead β a b ≡ true → Sits g next q s 0 b
  sits_close {a = a} {b = b} t e h hb k = record { path = t.path; leads = t.leads; item = Canonical.close t.item e h (in_sound g f pr a b hb (after_symbols g f pr t.item e) k) }

  keeps : (k : ℕ) → At k → All At (fol k)
  keeps k p =
      follow_all At (k / T / I) (k / T % I) (k % T)
      (λ x β e. go x β (rest_of g (k / T % I) e))
      (λ x β e s hs es b hb h. close x β s b hs es hb h (rest_of g (k / T % I) e))
    where
      small : k % T < T
      small = mod-lt k f.end_marker

      sits : (r d : ℕ) → Valid g r d → k / T % I ≡ first g r + d → Sits g next (k / T / I) r d (k % T)
      sits r d v e = p (k / T / I) r d (k % T) v small (whole k ∙ ap (λ (i : ℕ). fact g (k / T / I) i (k % T)) e)

      go : (x : ℕ) (β : List ℕ) → Rest g (suc g.productions) (k / T % I) x β → At (fact g (next (k / T / I) x) (suc (k / T % I)) (k % T))
      go x β (rest r d h l q z) =
          let v : Valid g r d = record { production = omega arith; dot = omega arith } in
          let n : suc (k / T % I) ≡ first g r + suc d = omega arith in
          rw n (at_fact (next (k / T / I) x) r (suc d) (k % T) (moved_valid g v z) small (sits_goto (sits r d v q) z))

      close : (x : ℕ) (β : List ℕ) (s b : ℕ) → s < g.productions → g.left s ≡ x → b < T → lookahead β (k % T) b ≡ true → Rest g (suc g.productions) (k / T % I) x β → At (fact g (k / T / I) (first g s + 0) b)
      close x β s b hs es hb h (rest r d l n q z) =
          let v : Valid g r d = record { production = omega arith; dot = omega arith } in
          at_fact (k / T / I) s 0 b (valid_production g hs) hb (sits_close (sits r d v q) (z ∙ ap (λ (y : ℕ). y ∷ β) (sym es)) hs hb h)

  added_valid : Valid g g.productions 0
  added_valid = record { production = omega arith; dot = omega arith }

  plus_zero : first g g.productions + 0 ≡ first g g.productions
  plus_zero = omega arith

  first_at : At (fact g 0 (first g g.productions) 0)
  first_at = rw plus_zero at (at_fact 0 g.productions 0 0 added_valid f.end_marker (record { path = []; leads = refl; item = Canonical.start }))

  pub facts_only : (q r d a : ℕ) → Valid g r d → a < T → bit (facts g rows) (fact g q (first g r + d) a) ≡ true → Sits g next q r d a
  unfolding facts
  facts_only q r d a v ha h =
      reach_only fol At keeps size (2 ^ fact g 0 (first g g.productions) 0)
      (λ j e. subst At (sym (has_power_only (fact g 0 (first g g.productions) 0) j e)) first_at) (fact g q (first g r + d) a) h q r d a v ha refl

  -- all the facts
  pos_I : 0 < I
  pos_I = omega (arith, item_below g added_valid)

  inside : (k : ℕ) → k < size → All (λ j. j < size) (fol k)
  inside k l =
      follow_all (λ j. j < size) (k / T / I) (k / T % I) (k % T)
      (λ x β e. digits_lt (digits_lt (au.next_below state) (moved x β (rest_of g (k / T % I) e))) (mod-lt k f.end_marker))
      (λ x β e s hs es b hb h. digits_lt (digits_lt state (item_below g (valid_production g hs))) hb)
    where
      state : k / T / I < length rows
      state = (div-lt_iff_lt-mul pos_I).1 ((div-lt_iff_lt-mul f.end_marker).1 l)

      moved : (x : ℕ) (β : List ℕ) → Rest g (suc g.productions) (k / T % I) x β → suc (k / T % I) < I
      moved x β (rest r d h n q z) =
          let v : Valid g r d = record { production = omega arith; dot = omega arith } in
          let b : first g r + suc d < I = item_below g (moved_valid g v z) in
          omega arith

  pub record Placed (q r d a : ℕ) : Type 0 where
    pub state : q < length rows
    pub item : Valid g r d
    pub terminal : a < T
    pub there : bit (facts g rows) (fact g q (first g r + d) a) ≡ true

  follow : {q r d a j : ℕ} → Placed q r d a → Memᴰ j (following g (nullables g) (firsts g) rows q (first g r + d) a) → bit (facts g rows) j ≡ true
  unfolding facts
  follow {q} {r} {d} {a} {j} p m =
      let t = fact_parts q (first g r + d) a (item_below g p.item) p.terminal in
      let m2 : Memᴰ j (fol (fact g q (first g r + d) a)) = rw (t.0, t.1, t.2) m in
      reach_all fol size inside (2 ^ fact g 0 (first g g.productions) 0) (pow-lt (rw plus_zero at (digits_lt (digits_lt au.some_state (item_below g added_valid)) f.end_marker))) (fact g q (first g r + d) a)
      (digits_lt (digits_lt p.state (item_below g p.item)) p.terminal) p.there m2

  start_there : bit (facts g rows) (fact g 0 (first g g.productions) 0) ≡ true
  unfolding facts
  start_there = reach_start fol size (2 ^ fact g 0 (first g g.productions) 0) (fact g 0 (first g g.productions) 0) (has_power (fact g 0 (first g g.productions) 0))

  pub facts_all : {γ : List ℕ} {r d a : ℕ} → Canonical g γ r d a → Placed (walk next 0 γ) r d a
  facts_all Canonical.start = record { state = au.some_state; item = added_valid; terminal = f.end_marker; there = rw plus_zero start_there }
  facts_all (Canonical.close {γ} {β} {r} {d} {a} {s} {b} i e h fi) =
      let p = facts_all i in
      let hb : b < T = lookahead_terminal g f (Canonical.close i e h fi) in
      record { state = p.state; item = valid_production g h; terminal = hb; there = follow p (mem_closure (walk next 0 γ) (first g r + d) a (rest_at_is g p.item ∙ e) s b h refl hb (in_all g f pr a b hb β (first_yields g fi))) }
  facts_all (Canonical.goto {γ} {β} {r} {d} {a} {x} i e) =
      let p = facts_all i in
      let n : suc (first g r + d) ≡ first g r + suc d = omega arith in
      rw (walk_snoc next 0 γ x)
      (record { state = au.next_below p.state; item = moved_valid g p.item e; terminal = p.terminal; there = rw (← n) (follow p (mem_goto (walk next 0 γ) (first g r + d) a (rest_at_is g p.item ∙ e))) })
