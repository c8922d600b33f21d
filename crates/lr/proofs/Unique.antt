-- The definition of States.antt leaves one numbering: two tables of states of one grammar are the same.
use Prim.Native.Nat.{ℕ, suc, zero, ◌+◌, ◌≤◌, ◌<◌}
use mathlib.Core.Path.{◌≡◌, refl, ap, sym, ◌∙◌}
use mathlib.Core.Logic.{◌≢◌, ◌⊎◌, inl, inr}
use mathlib.Core.List.{List, [], ◌∷◌, ◌++◌}
use lib.ListN.{length, get_or}
use native.Mathlib.Omega.{arith}
use native.Mathlib.Decide.{ℕ_discrete, dec_lt}
use Rattle.grammar.specs.Grammar.{Grammar}
use Rattle.lr.proofs.Canonical.{start_viable}
use Rattle.lr.specs.Items
use Rattle.lr.proofs.Automaton.{walk, walk_snoc}
use Rattle.sets.proofs.ListLaws.{ones_length, ones_at}
use Rattle.lr.specs.States.{Given, done, known, new, Taken, row_of, States}
use Rattle.tables.specs.Conflicts.{Before, lower_state, lower_symbol}

-- no n + 1 numbers below n are all different
pub pigeon : (n : ℕ) (h : ℕ → ℕ) → ((i : ℕ) → i ≤ n → h i < n) → ((i j : ℕ) → i ≤ n → j ≤ n → h i ≡ h j → i ≡ j) → ⊥
pigeon zero h b e = absurd (omega (arith, b 0 (omega arith)))
pigeon (suc n) h b e = pigeon n h' below inj
  where
    swap : {i : ℕ} → Dec (h i ≡ n) → ℕ
    swap {i} (yes q) = h (suc n)
    swap {i} (no ne) = h i

    h' : ℕ → ℕ
    h' i = swap {i = i} (ℕ_discrete (h i) n)

    last : (i : ℕ) → i ≤ n → h i ≡ n → h (suc n) < n
    last i k q = let u : h (suc n) < suc n = b (suc n) (omega arith) in let d : h (suc n) ≡ n → ⊥ = λ z. (let t : i ≡ suc n = e i (suc n) (omega arith) (omega arith) (q ∙ sym z) in omega arith) in omega arith

    below₂ : (i : ℕ) → i ≤ n → (d : Dec (h i ≡ n)) → swap {i = i} d < n
    below₂ i k (yes q) = last i k q
    below₂ i k (no ne) = let u : h i < suc n = b i (omega arith) in omega arith

    below : (i : ℕ) → i ≤ n → h' i < n
    below i k = below₂ i k (ℕ_discrete (h i) n)

    inj₂ : (i j : ℕ) → i ≤ n → j ≤ n → (d : Dec (h i ≡ n)) (d' : Dec (h j ≡ n)) → swap {i = i} d ≡ swap {i = j} d' → i ≡ j
    inj₂ i j hi hj (yes p) (yes q) z = e i j (omega arith) (omega arith) (p ∙ sym q)
    inj₂ i j hi hj (yes p) (no q) z = absurd (let t : suc n ≡ j = e (suc n) j (omega arith) (omega arith) z in omega arith)
    inj₂ i j hi hj (no p) (yes q) z = absurd (let t : i ≡ suc n = e i (suc n) (omega arith) (omega arith) z in omega arith)
    inj₂ i j hi hj (no p) (no q) z = e i j (omega arith) (omega arith) z

    inj : (i j : ℕ) → i ≤ n → j ≤ n → h' i ≡ h' j → i ≡ j
    inj i j hi hj z = inj₂ i j hi hj (ℕ_discrete (h i) n) (ℕ_discrete (h j) n) z

given_grows : {n m : ℕ} {ks : List ℕ} → Given n ks m → n ≤ m
given_grows done = omega arith
given_grows (known h g) = given_grows g
given_grows (new h g) = omega (arith, given_grows g)

-- entries of a row stay below the numbers given
given_below : {n m : ℕ} {ks : List ℕ} → Given n ks m → (x : ℕ) → x < length ks → get_or ks x 0 < m
given_below done x l = absurd (omega arith)
given_below (known h g) zero l = omega (arith, given_grows g)
given_below (known h g) (suc x) l = given_below g x (omega arith)
given_below (new h g) zero l = omega (arith, given_grows g)
given_below (new h g) (suc x) l = given_below g x (omega arith)

-- where a number is given
pub record At (s : ℕ) (ks : List ℕ) : Type 0 where
  pub place : ℕ
  pub within : place < length ks
  pub is : get_or ks place 0 ≡ s
  pub lower : (y : ℕ) → y < place → get_or ks y 0 < s

at_next : {s k : ℕ} {ks : List ℕ} → k < s → At s ks → At s (k ∷ ks)
at_next {s} {k} {ks} h a = record { place = suc a.place; within = omega (arith, a.within); is = a.is; lower = λ y l. go y l }
  where
    go : (y : ℕ) → y < suc a.place → get_or (k ∷ ks) y 0 < s
    go zero l = h
    go (suc y) l = a.lower y (omega arith)

given_at : {n m : ℕ} {ks : List ℕ} → Given n ks m → (s : ℕ) → n ≤ s → s < m → At s ks
given_at done s h l = absurd (omega arith)
given_at (known k g) s h l = at_next (omega arith) (given_at g s h l)
given_at {n} (new {k = k} {ks = ks} e g) s h l = go (ℕ_discrete s n) (λ j. given_at g s j l)
  where
    go : Dec (s ≡ n) → (suc n ≤ s → At s ks) → At s (k ∷ ks)
    go (yes q) ih = record { place = 0; within = omega arith; is = e ∙ sym q; lower = λ y l. absurd (omega arith) }
    go (no ne) ih = at_next (omega arith) (ih (omega arith))

-- of two places one is before the other, or they are the same
pub compare : (q x q₂ x₂ : ℕ) → Before q₂ x₂ q x ⊎ (((q₂ ≡ q) × (x₂ ≡ x)) ⊎ Before q x q₂ x₂)
compare q x q₂ x₂ = go (dec_lt q₂ q) (dec_lt q q₂) (dec_lt x₂ x) (dec_lt x x₂)
  where
    go : Dec (q₂ < q) → Dec (q < q₂) → Dec (x₂ < x) → Dec (x < x₂) → Before q₂ x₂ q x ⊎ (((q₂ ≡ q) × (x₂ ≡ x)) ⊎ Before q x q₂ x₂)
    go (yes a) b c d = inl (lower_state a)
    go (no a) (yes b) c d = inr (inr (lower_state b))
    go (no a) (no b) (yes c) d = inl (lower_symbol (let e : q₂ ≡ q = omega arith in e) c)
    go (no a) (no b) (no c) (yes d) = inr (inr (lower_symbol (let e : q ≡ q₂ = omega arith in e) d))
    go (no a) (no b) (no c) (no d) = inr (inl (omega arith, omega arith))

module _ (g : Grammar) where
  -- where the number s is given: from a lower state, and every transition before it leads to a lower number
  pub record First (next : ℕ → ℕ → ℕ) (s : ℕ) : Type 0 where
    pub from : ℕ
    pub on : ℕ
    pub lower : from < s
    pub symbol : on < g.terminals + g.nonterminals
    pub is : next from on ≡ s
    pub before : {q x : ℕ} → x < g.terminals + g.nonterminals → Before q x from on → next q x < s

  module _ (next : ℕ → ℕ → ℕ) where
    row_at_is : (q x : ℕ) → x < g.terminals + g.nonterminals → get_or (row_of g next q) x 0 ≡ next q x
    row_at_is q x h = ones_at (g.terminals + g.nonterminals) (next q) x h

    row_long : (q : ℕ) → length (row_of g next q) ≡ g.terminals + g.nonterminals
    row_long q = ones_length (g.terminals + g.nonterminals) (next q)

    row_below : {n m : ℕ} (q x : ℕ) → x < g.terminals + g.nonterminals → Given n (row_of g next q) m → next q x < m
    row_below q x l gi = rw (row_at_is q x l) at (given_below gi x (rw (row_long q) l))

    taken_below : {i n : ℕ} → Taken (row_of g next) i n → (q x : ℕ) → q < i → x < g.terminals + g.nonterminals → next q x < n
    taken_below Taken.none q x h l = absurd (omega arith)
    taken_below {n = n} (Taken.one {q = i} {n = j} t k gi) q x h l = go (ℕ_discrete q i) (λ h. taken_below t q x h l)
      where
        go : Dec (q ≡ i) → (q < i → next q x < j) → next q x < n
        go (yes e) ih = rw e (row_below i x l gi)
        go (no ne) ih = let a : next q x < j = ih (omega arith) in omega (arith, given_grows gi)

    pub first_of_is : {i n : ℕ} → Taken (row_of g next) i n → (s : ℕ) → 0 < s → s < n → First next s
    first_of_is Taken.none s h l = absurd (omega arith)
    first_of_is (Taken.one {q = i} {n = j} t k gi) s h l = go (dec_lt s j) (λ d. first_of_is t s h d)
      where
        go : Dec (s < j) → (s < j → First next s) → First next s
        go (yes d) ih = ih d
        go (no ne) ih =
            let a = given_at gi s (omega arith) l in
            let w : a.place < g.terminals + g.nonterminals = rw (row_long i) at a.within in
            record { from = i; on = a.place; lower = omega arith; symbol = w; is = rw (row_at_is i a.place w) at a.is; before = λ {q} {x} hx b. bef a q x hx b }
          where
            bef : (a : At s (row_of g next i)) (q x : ℕ) → x < g.terminals + g.nonterminals → Before q x i a.place → next q x < s
            bef a q x hx (lower_state b) = let u : next q x < j = taken_below t q x b hx in omega arith
            bef a q x hx (lower_symbol e b) = rw e (rw (row_at_is i x hx) at (a.lower x b))

  -- two tables
  module _ (count : ℕ) (next : ℕ → ℕ → ℕ) (st : States g count next) (count' : ℕ) (next' : ℕ → ℕ → ℕ) (st' : States g count' next') where
    -- the state q of the one and the state q' of the other have a path in common
    pub record Same (q q' : ℕ) : Type 0 where
      pub path : List ℕ
      pub viable : Items.Viable g path
      pub leads : walk next 0 path ≡ q
      pub leads' : walk next' 0 path ≡ q'

    one_left : {q p q' : ℕ} → Same q q' → Same p q' → q ≡ p
    one_left a b = sym a.leads ∙ (st.merged a.viable b.viable).1 ((st'.merged a.viable b.viable).0 (a.leads' ∙ sym b.leads')) ∙ b.leads

    pub one_right : {q q' p' : ℕ} → Same q q' → Same q p' → q' ≡ p'
    one_right a b = sym a.leads' ∙ (st'.merged a.viable b.viable).1 ((st.merged a.viable b.viable).0 (a.leads ∙ sym b.leads)) ∙ b.leads'

    move : {q q' : ℕ} (x : ℕ) → Same q q' → next q x ≢ 0 → Same (next q x) (next' q' x)
    move {q} {q'} x a nz =
        record {
          path = a.path ++ x ∷ [];
          viable = (st.moved a.viable x).0 (rw a.leads nz);
          leads = walk_snoc next 0 a.path x ∙ ap (λ (p : ℕ). next p x) a.leads;
          leads' = walk_snoc next' 0 a.path x ∙ ap (λ (p : ℕ). next' p x) a.leads';
        }

    back : {q q' : ℕ} (x : ℕ) → Same q q' → next' q' x ≢ 0 → next q x ≢ 0
    back {q} {q'} x a nz = rw a.leads at ((st.moved a.viable x).1 ((st'.moved a.viable x).0 (rw a.leads' nz)))

    same_first : Same 0 0
    same_first = record { path = []; viable = start_viable g; leads = refl; leads' = refl }

    same_below : {q q' : ℕ} → Same q q' → q' < count'
    same_below a = rw a.leads' at (st'.below a.viable)

    not_zero : {n m : ℕ} → m < n → n ≢ 0
    not_zero h e = omega arith

    -- the state s of the one is the state s of the other, given the lower ones
    step : (s : ℕ) → 0 < s → s < count → ((t : ℕ) → t < s → Same t t) → Same s s
    step s pos h ih =
        let a = first_of_is next st.order s pos h in
        let m : Same (next a.from a.on) (next' a.from a.on) = move a.on (ih a.from a.lower) (rw a.is (not_zero pos)) in
        let k : Same s (next' a.from a.on) = rw a.is at m in
        go a k (dec_lt (next' a.from a.on) s) (dec_lt s (next' a.from a.on))
      where
        meet : (a : First next s) (b : First next' s) → s < next' a.from a.on → Before b.from b.on a.from a.on ⊎ (((b.from ≡ a.from) × (b.on ≡ a.on)) ⊎ Before a.from a.on b.from b.on) → ⊥
        meet a b l (inl e) =
            let u : next b.from b.on < s = a.before b.symbol e in
            let nz : next b.from b.on ≢ 0 = back b.on (ih b.from b.lower) (rw b.is (not_zero pos)) in
            let m : Same (next b.from b.on) (next' b.from b.on) = move b.on (ih b.from b.lower) nz in
            let z : next b.from b.on ≡ s = one_right (ih (next b.from b.on) u) (rw b.is at m) in
            omega arith
        meet a b l (inr (inl e)) = let z : next' a.from a.on ≡ s = rw (e.0, e.1) at b.is in omega arith
        meet a b l (inr (inr e)) = let z : next' a.from a.on < s = b.before a.symbol e in omega arith

        go : (a : First next s) → Same s (next' a.from a.on) → Dec (next' a.from a.on < s) → Dec (s < next' a.from a.on) → Same s s
        go a k (yes l) d = absurd (let e : s ≡ next' a.from a.on = one_left k (ih (next' a.from a.on) l) in omega arith)
        go a k (no n) (yes l) = absurd (meet a (first_of_is next' st'.order s pos (let b : next' a.from a.on < count' = same_below k in omega arith)) l (compare a.from a.on _ _))
        go a k (no n) (no l) = let e : next' a.from a.on ≡ s = omega arith in rw e at k

    pub same : (n s : ℕ) → s < n → s < count → Same s s
    same zero s h k = absurd (omega arith)
    same (suc n) s h k = go (ℕ_discrete s 0) (λ t l. same n t (omega arith) (omega arith))
      where
        go : Dec (s ≡ 0) → ((t : ℕ) → t < s → Same t t) → Same s s
        go (yes e) ih = rw e same_first
        go (no ne) ih = step s (omega arith) k ih

    pub count_le : count ≤ count'
    count_le = go (dec_lt count' count)
      where
        go : Dec (count' < count) → count ≤ count'
        go (yes l) = absurd (let b : count' < count' = same_below (same (suc count') count' (omega arith) l) in omega arith)
        go (no n) = omega arith

    pub next_same : (q x : ℕ) → q < count → next q x ≡ next' q x
    next_same q x h = go (ℕ_discrete (next q x) 0) (ℕ_discrete (next' q x) 0)
      where
        here : Same q q
        here = same (suc q) q (omega arith) h

        go : Dec (next q x ≡ 0) → Dec (next' q x ≡ 0) → next q x ≡ next' q x
        go (yes a) (yes b) = a ∙ sym b
        go (yes a) (no b) = absurd (back x here b a)
        go (no a) d =
            let m = move x here a in
            let l : next q x < count = rw m.leads at (st.below m.viable) in
            one_right (same (suc (next q x)) (next q x) (omega arith) l) m
