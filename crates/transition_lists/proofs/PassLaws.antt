-- The pass over the rows of the table area, cell by cell.
use mathlib.Core.Path.{◌≡◌, refl, sym, ap, ap₂, ◌∙◌, subst}
use mathlib.Core.List.{List}
use mathlib.Core.Bool.{Bool, not, ◌&&◌, false≢true}
use mathlib.Core.Logic.{◌⊎◌, inl, inr, ⊎_elim, ◌≢◌}
use Prim.Native.Nat.{ℕ, zero, suc, ◌+◌, ◌-◌, ◌*◌, ◌≤◌, ◌<◌}
use native.Mathlib.Omega.{arith}
use native.Mathlib.Nat.{eq-or-lt_of_le, zero-add}
use native.Mathlib.Numerals.{add-one}
use lib.Dec.{eqb}
use lib.ListN.{get_or}
use borrow.Author.Tests.{eq-eqb, ne_eqb, lt-ltb, eqb-true}
use Rattle.sets.specs.Bit.{count, one_if}
use Rattle.sets.proofs.CountLaws.{count_le}
use Rattle.sets.proofs.HasLaws.{lt_or_ge, eq_or, or_cases, or_left, or_right}
use Rattle.sets.proofs.TestLaws.{and_both, and_true}
use Rattle.grammar.specs.Card.{terminals, nonterminals}
use Rattle.tables.specs.Conflicts.{Before, lower_state, lower_symbol}
use Rattle.transitions.specs.Places.{transition_limit, leaves_at, nonterminals_at, enters_at, firsts_at, entering_at, starts_at}
use Rattle.transitions.specs.Area.{leaves_of, nonterminal_of, enters_of, first_of, entering_of, precedes}
use Rattle.areas.specs.Areas.{row_of}
use Rattle.transitions.specs.Next.{next_of, Numbered, moves, transition_count}
use Rattle.occurrences.proofs.StoreLaws.{Cleared}
use Rattle.transitions.specs.Writes.{Stored}
use Rattle.transitions.proofs.WriteLaws.{precedes_same, precedes_none}
use Rattle.transition_lists.specs.Stores.{Noted, Celled}
use Rattle.transition_lists.specs.Stores.Celled.{vacant, terminal, many, listed}
use Rattle.transition_lists.specs.Passes.{Listing, Firsts, Seen, Passed, Behind, Come}

-- ---- the order of cells

pub before_suc : (p y q x : ℕ) → Before p y q (x + 1) → Before p y q x ⊎ ((p ≡ q) × (y ≡ x))
before_suc p y q x (lower_state h) = inl (lower_state h)
before_suc p y q x (lower_symbol h l) =
    ⊎_elim (λ (e : y ≡ x). inr (h, e)) (λ (e : y < x). inl (lower_symbol h e)) (eq-or-lt_of_le (let k : y ≤ x = omega arith in k))

pub before_up : (p y q x : ℕ) → Before p y q x → Before p y q (x + 1)
before_up p y q x (lower_state h) = lower_state h
before_up p y q x (lower_symbol h l) = lower_symbol h (omega arith)

pub before_self : (q x : ℕ) → Before q x q (x + 1)
before_self q x = lower_symbol refl (omega arith)

-- ---- the cell that a place of the table area holds

pub cell_is : (c t : List ℕ) (n q x : ℕ) → q < n → x < terminals c + nonterminals c → get_or t (row_of c q + x) 0 ≡ next_of c t n q x
unfolding next_of
cell_is c t n q x hq hx = rw (lt-ltb q n hq, lt-ltb x (terminals c + nonterminals c) hx)

-- ---- lists of transitions

-- the transitions below k are the same
abbrev pub Old : List ℕ → List ℕ → ℕ → Type 0
Old w w' k = (i : ℕ) → i < k → (leaves_of w' i ≡ leaves_of w i) × (nonterminal_of w' i ≡ nonterminal_of w i) × (enters_of w' i ≡ enters_of w i)

module _ (c : List ℕ) (next : ℕ → ℕ → ℕ) (w w' : List ℕ) (q x k : ℕ) (old : Old w w' k) (L : Listing c next w q x k) where
  listing_keep : (terminals c ≤ x → next q x ≡ 0) → Listing c next w' q (x + 1) k
  listing_keep n = record {
    place = λ i h. rw ((old i h).0, (old i h).1) (before_up (leaves_of w i) (nonterminal_of w i) q x (L.place i h));
    low = λ i h. rw (old i h).1 (L.low i h);
    target = λ i h. rw ((old i h).0, (old i h).1, (old i h).2) (L.target i h);
    some = λ i h. rw ((old i h).0, (old i h).1) (L.some i h);
    order = λ i j l h. let g : i < k = omega arith in rw ((old i g).0, (old i g).1, (old j h).0, (old j h).1) (L.order i j l h);
    all = λ p y t b s.
        ⊎_elim
        (λ b'. let a = L.all p y t b' s in (a.0, a.1, (old a.0 a.1).0 ∙ a.2, (old a.0 a.1).1 ∙ a.3))
        (λ e. absurd (s (ap₂ next e.0 e.1 ∙ n (rw e.1 at t))))
        (before_suc p y q x b);
  }

  listing_add : leaves_of w' k ≡ q → nonterminal_of w' k ≡ x → enters_of w' k ≡ next q x → next q x ≢ 0 → terminals c ≤ x → Listing c next w' q (x + 1) (k + 1)
  listing_add el es ee nz t = record {
    place = λ i h. two i h (λ (i : ℕ). Before (leaves_of w' i) (nonterminal_of w' i) q (x + 1)) (λ g. rw ((old i g).0, (old i g).1) (before_up (leaves_of w i) (nonterminal_of w i) q x (L.place i g))) (rw (el, es) (before_self q x));
    low = λ i h. two i h (λ (i : ℕ). terminals c ≤ nonterminal_of w' i) (λ g. rw (old i g).1 (L.low i g)) (rw es t);
    target = λ i h. two i h (λ (i : ℕ). enters_of w' i ≡ next (leaves_of w' i) (nonterminal_of w' i)) (λ g. rw ((old i g).0, (old i g).1, (old i g).2) (L.target i g)) (rw (el, es) ee);
    some = λ i h. two i h (λ (i : ℕ). next (leaves_of w' i) (nonterminal_of w' i) ≢ 0) (λ g. rw ((old i g).0, (old i g).1) (L.some i g)) (rw (el, es) nz);
    order = λ i j l h.
        two j h (λ (j : ℕ). i < j → Before (leaves_of w' i) (nonterminal_of w' i) (leaves_of w' j) (nonterminal_of w' j))
        (λ g m. let gi : i < k = omega arith in rw ((old i gi).0, (old i gi).1, (old j g).0, (old j g).1) (L.order i j m g))
        (λ m. rw (el, es, (old i m).0, (old i m).1) (L.place i m))
        l;
    all = λ p y s b z.
        ⊎_elim
        (λ b'. let a = L.all p y s b' z in let g = a.1 in (a.0, omega arith, (old a.0 a.1).0 ∙ a.2, (old a.0 a.1).1 ∙ a.3))
        (λ e. (k, omega arith, el ∙ sym e.0, es ∙ sym e.1))
        (before_suc p y q x b);
  }
    where
      two : (i : ℕ) → i < k + 1 → (P : ℕ → Type 0) → (i < k → P i) → P k → P i
      two i h P old new = ⊎_elim (λ (e : i ≡ k). subst P (sym e) new) (λ (g : i < k). old g) (eq-or-lt_of_le (let l : i ≤ k = omega arith in l))

-- the same, with as many
pub listing_same : (c : List ℕ) (next : ℕ → ℕ → ℕ) (w w' : List ℕ) (q x k : ℕ) → Old w w' k → Listing c next w q x k → Listing c next w' q x k
listing_same c next w w' q x k old L = record {
  place = λ i h. rw ((old i h).0, (old i h).1) (L.place i h);
  low = λ i h. rw (old i h).1 (L.low i h);
  target = λ i h. rw ((old i h).0, (old i h).1, (old i h).2) (L.target i h);
  some = λ i h. rw ((old i h).0, (old i h).1) (L.some i h);
  order = λ i j l h. let g : i < k = omega arith in rw ((old i g).0, (old i g).1, (old j h).0, (old j h).1) (L.order i j l h);
  all = λ p y t b s. let a = L.all p y t b s in (a.0, a.1, (old a.0 a.1).0 ∙ a.2, (old a.0 a.1).1 ∙ a.3);
}

-- ---- the first transitions of states

module _ (w w' : List ℕ) (k f : ℕ) (old : Old w w' k) (firsts : (u : ℕ) → u < f → first_of w' u ≡ first_of w u) (F : Firsts w k f) where
  firsts_keep : Firsts w' k f
  firsts_keep = record {
    below = λ u i hu h g. rw (old i h).0 (F.below u i hu h (rw (firsts u hu) at g));
    from = λ u i hu h g. rw (firsts u hu) (F.from u i hu h (rw (old i h).0 at g));
  }

  firsts_add : (q : ℕ) → ((u : ℕ) → u < f → first_of w u ≤ k) → f ≤ q + 1 → leaves_of w' k ≡ q → Firsts w' (k + 1) f
  firsts_add q most h e = record {
    below = λ u i hu hi g.
        ⊎_elim
        (λ (z : i ≡ k). absurd (let m = most u hu in let a = firsts u hu in let b : ⊥ = omega arith in b))
        (λ (z : i < k). rw (old i z).0 (F.below u i hu z (rw (firsts u hu) at g)))
        (eq-or-lt_of_le (let l : i ≤ k = omega arith in l));
    from = λ u i hu hi g.
        ⊎_elim
        (λ (z : i ≡ k). absurd (let a : leaves_of w' i ≡ q = ap (leaves_of w') z ∙ e in let b : ⊥ = omega arith in b))
        (λ (z : i < k). rw (firsts u hu) (F.from u i hu z (rw (old i z).0 at g)))
        (eq-or-lt_of_le (let l : i ≤ k = omega arith in l));
  }

-- ---- what is noted at the states

pub seen_same : (next : ℕ → ℕ → ℕ) (w w' : List ℕ) (q x : ℕ) → ((i : ℕ) → entering_at ≤ i → i < starts_at → get_or w' i 0 ≡ get_or w i 0) → ((p y : ℕ) → next p y < 256) → ((p y : ℕ) → next p y ≢ 0 → p < 256) → Seen next w q x → Seen next w' q x
seen_same next w w' q x same target from S = record {
  symbol = λ p y b z. let t = target p y in same (entering_at + next p y) (omega arith) (omega arith) ∙ S.symbol p y b z;
  before = λ p y b z. before (next p y) p (target p y) (from p y z) ∙ S.before p y b z;
  only = λ u p hu hp g. S.only u p hu hp (sym (before u p hu hp) ∙ g);
  start = same entering_at (omega arith) (omega arith) ∙ S.start;
}
  where
    before : (u p : ℕ) → u < 256 → p < 256 → precedes w' u p ≡ precedes w u p
    before u p hu hp = precedes_same w' u p hu hp w (λ i l h. same i (omega arith) h)

module _ (c : List ℕ) (n : ℕ) (next : ℕ → ℕ → ℕ) (N : Numbered c n next) (w : List ℕ) (q x : ℕ) (S : Seen next w q x) where
  seen_keep : next q x ≡ 0 → Seen next w q (x + 1)
  seen_keep z = record {
    symbol = λ p y b s. ⊎_elim (λ b'. S.symbol p y b' s) (λ e. absurd (s (ap₂ next e.0 e.1 ∙ z))) (before_suc p y q x b);
    before = λ p y b s. ⊎_elim (λ b'. S.before p y b' s) (λ e. absurd (s (ap₂ next e.0 e.1 ∙ z))) (before_suc p y q x b);
    only = λ u p hu hp g. let o = S.only u p hu hp g in (o.0, before_up p o.0 q x o.1, o.2, o.3);
    start = S.start;
  }

  seen_note : (v : ℕ) (w' : List ℕ) → v ≡ next q x → v ≢ 0 → Noted w q x v w' → Seen next w' q (x + 1)
  seen_note v w' ev nz M = record {
    symbol = λ p y b s.
        ⊎_elim
        (λ b'.
        ⊎_elim
        (λ (e : next p y ≡ v). ap (entering_of w') e ∙ M.here ∙ sym (N.one p y q x s (e ∙ ev)))
        (λ (e : next p y ≡ v → ⊥). M.there (next p y) (small p y) e ∙ S.symbol p y b' s)
        (eq_or (next p y) v))
        (λ e. ap (entering_of w') (ap₂ next e.0 e.1 ∙ sym ev) ∙ M.here ∙ sym e.1)
        (before_suc p y q x b);
    before = λ p y b s.
        ⊎_elim
        (λ b'. M.before (next p y) p (small p y) (low p y s) ∙ or_left (precedes w (next p y) p) _ (S.before p y b' s))
        (λ e.
        M.before (next p y) p (small p y) (low p y s)
        ∙ or_right (precedes w (next p y) p) _ (and_true (eq-eqb v (next p y) (ev ∙ sym (ap₂ next e.0 e.1))) (eq-eqb q p (sym e.0))))
        (before_suc p y q x b);
    only = λ u p hu hp g.
        ⊎_elim
        (λ o. let a = S.only u p hu hp o in (a.0, before_up p a.0 q x a.1, a.2, a.3))
        (λ o.
        let b = and_both (eqb v u) (eqb q p) o in
        let eu : v ≡ u = eqb-true v u b.0 in
        let ep : q ≡ p = eqb-true q p b.1 in
        (x, subst (λ (z : ℕ). Before z x q (x + 1)) ep (before_self q x), ap (λ (z : ℕ). next z x) (sym ep) ∙ sym ev ∙ eu, subst (λ (z : ℕ). z ≢ 0) eu nz))
        (or_cases (precedes w u p) (eqb v u && eqb q p) (sym (M.before u p hu hp) ∙ g));
    start = M.there 0 (omega arith) (λ z. nz (sym z)) ∙ S.start;
  }
    where
      small : (p y : ℕ) → next p y < 256
      small p y = let t = N.target p y in omega (arith, N.most)

      low : (p y : ℕ) → next p y ≢ 0 → p < 256
      low p y s = let t = N.from p y s in omega (arith, N.most)

-- ---- how many

module _ (c : List ℕ) (next : ℕ → ℕ → ℕ) (q x : ℕ) where
  count_skip : (terminals c ≤ x → next q x ≡ 0) → count (moves c next q) (x + 1 - terminals c) ≡ count (moves c next q) (x - terminals c)
  unfolding count
  count_skip z =
      ⊎_elim
      (λ (h : terminals c ≤ x).
      let a : x + 1 - terminals c ≡ suc (x - terminals c) = omega arith in
      let b : terminals c + (x - terminals c) ≡ x = omega arith in
      let e : next q (terminals c + (x - terminals c)) ≡ 0 = ap (next q) b ∙ z h in
      rw a (ap (λ (v : Bool). one_if (not v) + count (moves c next q) (x - terminals c)) (eq-eqb _ 0 e) ∙ zero-add _))
      (λ (h : x < terminals c).
      let a : x + 1 - terminals c ≡ 0 = omega arith in
      let b : x - terminals c ≡ 0 = omega arith in
      rw (a, b))
      (le_or (terminals c) x)
    where
      le_or : (t x : ℕ) → (t ≤ x) ⊎ (x < t)
      le_or t x = ⊎_elim (λ h. inr h) (λ h. inl h) (lt_or_ge x t)

  count_one : terminals c ≤ x → next q x ≢ 0 → count (moves c next q) (x + 1 - terminals c) ≡ count (moves c next q) (x - terminals c) + 1
  unfolding count
  count_one h nz =
      let a : x + 1 - terminals c ≡ suc (x - terminals c) = omega arith in
      let b : terminals c + (x - terminals c) ≡ x = omega arith in
      let e : next q (terminals c + (x - terminals c)) ≢ 0 = λ z. nz (sym (ap (next q) b) ∙ z) in
      rw a (ap (λ (v : Bool). one_if (not v) + count (moves c next q) (x - terminals c)) (ne_eqb _ 0 e) ∙ let k : 1 + count (moves c next q) (x - terminals c) ≡ count (moves c next q) (x - terminals c) + 1 = omega arith in k)

-- ---- a cell

module _ (c : List ℕ) (n : ℕ) (next : ℕ → ℕ → ℕ) (N : Numbered c n next) (w₀ w : List ℕ) (q x k f : ℕ) (hf : f ≤ q + 1) (hg : f ≤ 257) (C : Come c next w₀ w q x k f) where
  noted_old : (v : ℕ) (w' : List ℕ) → Noted w q x v w' → k ≤ transition_limit → Old w w' k
  noted_old v w' M h i g = (M.low (leaves_at + i) (omega arith), M.low (nonterminals_at + i) (omega arith), M.low (enters_at + i) (omega arith))

  noted_firsts : (v : ℕ) (w' : List ℕ) → Noted w q x v w' → (u : ℕ) → u < f → first_of w' u ≡ first_of w u
  noted_firsts v w' M u h = M.low (firsts_at + u) (omega arith)

  pub step : (v : ℕ) {w' : List ℕ} {k' : ℕ} → v ≡ next q x → Celled (terminals c) w k q x v w' k' → Come c next w₀ w' q (x + 1) k' f
  step v e (vacant z) =
      let none : next q x ≡ 0 = sym e ∙ z in
      record {
        passed = record {
          count = C.passed.count ∙ ap (λ (a : ℕ). transition_count c next q + a) (sym (count_skip c next q x (λ t. none)));
          listing = λ h. listing_keep c next w w q x k (λ i g. (refl, refl, refl)) (C.passed.listing h) (λ t. none);
          most = C.passed.most;
          firsts = C.passed.firsts;
          seen = seen_keep c n next N w q x C.passed.seen none;
        };
        rest = C.rest;
      }
  step v e (terminal w' nz t M) = record {
    passed = record {
      count = C.passed.count ∙ ap (λ (a : ℕ). transition_count c next q + a) (sym (count_skip c next q x (λ s. absurd (let z : ⊥ = omega arith in z))));
      listing = λ h. listing_keep c next w w' q x k (noted_old v w' M h) (C.passed.listing h) (λ s. absurd (let z : ⊥ = omega arith in z));
      most = λ u h. rw (noted_firsts v w' M u h) (C.passed.most u h);
      firsts = λ h. firsts_keep w w' k f (noted_old v w' M h) (noted_firsts v w' M) (C.passed.firsts h);
      seen = seen_note c n next N w q x C.passed.seen v w' e nz M;
    };
    rest = record { long = M.long ∙ C.rest.long; high = λ i h. M.high i h ∙ C.rest.high i h };
  }
  step v e (many w' nz t l M) = record {
    passed = record {
      count = added t (λ z. nz (e ∙ z));
      listing = λ h. absurd (let z : ⊥ = omega arith in z);
      most = λ u h. rw (noted_firsts v w' M u h) (let a = C.passed.most u h in omega arith);
      firsts = λ h. absurd (let z : ⊥ = omega arith in z);
      seen = seen_note c n next N w q x C.passed.seen v w' e nz M;
    };
    rest = record { long = M.long ∙ C.rest.long; high = λ i h. M.high i h ∙ C.rest.high i h };
  }
    where
      added : terminals c ≤ x → next q x ≢ 0 → k + 1 ≡ transition_count c next q + count (moves c next q) (x + 1 - terminals c)
      added t z = let a = C.passed.count in let b = count_one c next q x t z in omega arith
  step v e (listed w₁ w' nz t l M P) = record {
    passed = record {
      count = added t (λ z. nz (e ∙ z));
      listing = λ h. listing_add c next w w' q x k old (C.passed.listing (omega arith)) P.leaves P.symbol (P.enters ∙ e) (λ z. nz (e ∙ z)) t;
      most = λ u h. rw (firsts u h) (let a = C.passed.most u h in omega arith);
      firsts = λ h. firsts_add w w' k f old firsts (C.passed.firsts (omega arith)) q C.passed.most hf P.leaves;
      seen = seen_same next w₁ w' q (x + 1) (λ i a b. P.high i (omega arith)) (λ p y. let z = N.target p y in omega (arith, N.most)) (λ p y s. let z = N.from p y s in omega (arith, N.most)) (seen_note c n next N w q x C.passed.seen v w₁ e nz M);
    };
    rest = record { long = P.long ∙ M.long ∙ C.rest.long; high = λ i h. P.high i (omega arith) ∙ M.high i h ∙ C.rest.high i h };
  }
    where
      added : terminals c ≤ x → next q x ≢ 0 → k + 1 ≡ transition_count c next q + count (moves c next q) (x + 1 - terminals c)
      added t z = let a = C.passed.count in let b = count_one c next q x t z in omega arith

      old : Old w w' k
      old i g =
          let a = noted_old v w₁ M (let z : k ≤ transition_limit = omega arith in z) i g in
          let b = P.old i g in
          (b.0 ∙ a.0, b.1 ∙ a.1, b.2 ∙ a.2)

      firsts : (u : ℕ) → u < f → first_of w' u ≡ first_of w u
      firsts u h = P.high (firsts_at + u) (omega arith) ∙ noted_firsts v w₁ M u h

-- ---- a state

-- the place of a first transition is stored
module _ (c : List ℕ) (n : ℕ) (next : ℕ → ℕ → ℕ) (N : Numbered c n next) (w₀ w w' : List ℕ) (q x k f : ℕ) (C : Come c next w₀ w q x k f) (S : Stored w (firsts_at + f) k w') where
  pub store_first : f < 257 → (k ≤ transition_limit → (i : ℕ) → i < k → leaves_of w i < f) → Come c next w₀ w' q x k (f + 1)
  store_first hf b = record {
    passed = record {
      count = C.passed.count;
      listing = λ h. listing_same c next w w' q x k (old h) (C.passed.listing h);
      most = λ u h. two u h (λ (u : ℕ). first_of w' u ≤ k) (λ g. rw (S.other (firsts_at + u) (λ z. omega arith)) (C.passed.most u g)) (rw S.here (omega arith));
      firsts = λ h. record {
        below = λ u i hu hi.
            two u hu (λ (u : ℕ). i < first_of w' u → leaves_of w' i < u)
            (λ g z. rw (old h i hi).0 ((C.passed.firsts h).below u i g hi (rw (S.other (firsts_at + u) (λ z. omega arith)) at z)))
            (λ z. rw (old h i hi).0 (b h i hi));
        from = λ u i hu hi.
            two u hu (λ (u : ℕ). leaves_of w' i < u → i < first_of w' u)
            (λ g z. rw (S.other (firsts_at + u) (λ z. omega arith)) ((C.passed.firsts h).from u i g hi (rw (old h i hi).0 at z)))
            (λ z. rw S.here hi);
      };
      seen = seen_same next w w' q x (λ i a d. S.other i (λ z. omega arith)) (λ p y. let z = N.target p y in omega (arith, N.most)) (λ p y s. let z = N.from p y s in omega (arith, N.most)) C.passed.seen;
    };
    rest = record { long = S.long ∙ C.rest.long; high = λ i h. S.other i (λ z. omega arith) ∙ C.rest.high i h };
  }
    where
      old : k ≤ transition_limit → Old w w' k
      old h i g = (S.other (leaves_at + i) (λ z. omega arith), S.other (nonterminals_at + i) (λ z. omega arith), S.other (enters_at + i) (λ z. omega arith))

      two : (u : ℕ) → u < f + 1 → (P : ℕ → Type 0) → (u < f → P u) → P f → P u
      two u h P a d = ⊎_elim (λ (e : u ≡ f). subst P (sym e) d) (λ (g : u < f). a g) (eq-or-lt_of_le (let z : u ≤ f = omega arith in z))

module _ (c : List ℕ) (n : ℕ) (next : ℕ → ℕ → ℕ) (t : 1 ≤ terminals c) where
  -- the transitions listed before state q leave lower states
  pub lower : (w : List ℕ) (q k : ℕ) → Listing c next w q 1 k → (i : ℕ) → i < k → leaves_of w i < q
  lower w q k L i h = go (L.place i h)
    where
      go : Before (leaves_of w i) (nonterminal_of w i) q 1 → leaves_of w i < q
      go (lower_state g) = g
      go (lower_symbol g l) = absurd (let b = L.low i h in let z : ⊥ = omega arith in z)

  -- a whole row
  next_row : (p y q : ℕ) → Before p y q (terminals c + nonterminals c) → Before p y (q + 1) 1
  next_row p y q (lower_state h) = lower_state (omega arith)
  next_row p y q (lower_symbol h l) = lower_state (omega arith)

  back_row : (p y q : ℕ) → 0 < y → y < terminals c + nonterminals c → Before p y (q + 1) 1 → Before p y q (terminals c + nonterminals c)
  back_row p y q l g (lower_state h) = ⊎_elim (λ (e : p ≡ q). lower_symbol e g) (λ (e : p < q). lower_state e) (eq-or-lt_of_le (let z : p ≤ q = omega arith in z))
  back_row p y q l g (lower_symbol h k) = absurd (let z : ⊥ = omega arith in z)

  pub row_done : (N : Numbered c n next) (w₀ w : List ℕ) (q x k f : ℕ) → x ≡ terminals c + nonterminals c → Come c next w₀ w q x k f → Come c next w₀ w (q + 1) 1 k f
  unfolding transition_count count
  row_done N w₀ w q x k f ex C = record {
    passed = record {
      count = total;
      listing = λ h. let L = C.passed.listing h in record {
        place = λ i g. next_row (leaves_of w i) (nonterminal_of w i) q (subst (λ (z : ℕ). Before (leaves_of w i) (nonterminal_of w i) q z) ex (L.place i g));
        low = L.low;
        target = L.target;
        some = L.some;
        order = L.order;
        all = λ p y s b z. L.all p y s (at p y z b) z;
      };
      most = C.passed.most;
      firsts = C.passed.firsts;
      seen = record {
        symbol = λ p y b z. C.passed.seen.symbol p y (at p y z b) z;
        before = λ p y b z. C.passed.seen.before p y (at p y z b) z;
        only = λ u p hu hp g. let o = C.passed.seen.only u p hu hp g in (o.0, next_row p o.0 q (subst (λ (z : ℕ). Before p o.0 q z) ex o.1), o.2, o.3);
        start = C.passed.seen.start;
      };
    };
    rest = C.rest;
  }
    where
      at : (p y : ℕ) → next p y ≢ 0 → Before p y (q + 1) 1 → Before p y q x
      at p y z b = subst (λ (a : ℕ). Before p y q a) (sym ex) (back_row p y q (N.low p y z) (N.high p y z) b)

      total : k ≡ transition_count c next (q + 1) + count (moves c next (q + 1)) (1 - terminals c)
      total =
          let a : x - terminals c ≡ nonterminals c = omega arith in
          let b : 1 - terminals c ≡ 0 = omega arith in
          C.passed.count ∙ rw (a, b, add-one q) (let z : transition_count c next q + count (moves c next q) (nonterminals c) ≡ transition_count c next q + count (moves c next q) (nonterminals c) + 0 = omega arith in z)

  -- before the first cell
  pub start : (N : Numbered c n next) (w₀ w : List ℕ) → Cleared w₀ entering_at starts_at w → Passed c next w 0 1 0 0
  unfolding transition_count count
  start N w₀ w C = record {
    count = let b : 1 - terminals c ≡ 0 = omega arith in rw b;
    listing = λ h. record {
      place = λ i g. absurd (let z : ⊥ = omega arith in z);
      low = λ i g. absurd (let z : ⊥ = omega arith in z);
      target = λ i g. absurd (let z : ⊥ = omega arith in z);
      some = λ i g. absurd (let z : ⊥ = omega arith in z);
      order = λ i j l g. absurd (let z : ⊥ = omega arith in z);
      all = λ p y s b z. absurd (no p y b z);
    };
    most = λ u h. absurd (let z : ⊥ = omega arith in z);
    firsts = λ h. record { below = λ u i hu hi. absurd (let z : ⊥ = omega arith in z); from = λ u i hu hi. absurd (let z : ⊥ = omega arith in z) };
    seen = record {
      symbol = λ p y b z. absurd (no p y b z);
      before = λ p y b z. absurd (no p y b z);
      only = λ u p hu hp g. absurd (false≢true (sym (precedes_none w u p hu hp (λ i l h. C.zero i (omega arith) h)) ∙ g));
      start = C.zero entering_at (omega arith) (omega arith);
    };
  }
    where
      no : (p y : ℕ) → Before p y 0 1 → next p y ≢ 0 → ⊥
      no p y (lower_state h) z = omega arith
      no p y (lower_symbol h l) z = let b = N.low p y z in omega arith

-- ---- the same, by the numbers that the code computes

pub cell_at : (c t : List ℕ) (n q x at v : ℕ) → q < n → x < terminals c + nonterminals c → at ≡ row_of c q → v ≡ get_or t (at + x) 0 → v ≡ next_of c t n q x
cell_at c t n q x at v hq hx ea ev = ev ∙ ap (λ (a : ℕ). get_or t (a + x) 0) ea ∙ cell_is c t n q x hq hx

pub transition_most : (c : List ℕ) (next : ℕ → ℕ → ℕ) (q : ℕ) → nonterminals c ≤ 60 → transition_count c next q ≤ q * 60
unfolding transition_count
transition_most c next zero h = omega arith
transition_most c next (suc q) h = let a = transition_most c next q h in let b = count_le (moves c next q) (nonterminals c) in omega arith

pub passed_most : (c : List ℕ) (next : ℕ → ℕ → ℕ) (w : List ℕ) (q x k f : ℕ) → Passed c next w q x k f → nonterminals c ≤ 60 → q ≤ 256 → x ≤ 124 → k < 65536
passed_most c next w q x k f P h hq hx =
    let a = transition_most c next q h in
    let b = count_le (moves c next q) (x - terminals c) in
    let e = P.count in
    omega arith

pub come_trans : (c : List ℕ) (next : ℕ → ℕ → ℕ) (w₀ w₁ w₂ : List ℕ) (q x k f : ℕ) → Behind w₀ w₁ → Come c next w₁ w₂ q x k f → Come c next w₀ w₂ q x k f
come_trans c next w₀ w₁ w₂ q x k f A B = record { passed = B.passed; rest = record { long = B.rest.long ∙ A.long; high = λ i h. B.rest.high i h ∙ A.high i h } }

-- the first transition of the next state
pub store_row : (c : List ℕ) (n : ℕ) (next : ℕ → ℕ → ℕ) → Numbered c n next → 1 ≤ terminals c → (w₀ w w' : List ℕ) (q k : ℕ) → q ≤ 256 → Stored w (firsts_at + q) k w' → Come c next w₀ w q 1 k q → Come c next w₀ w' q 1 k (q + 1)
store_row c n next N t w₀ w w' q k h S C = store_first c n next N w₀ w w' q 1 k q C S (omega arith) (λ few i g. lower c n next t w q k (C.passed.listing few) i g)

-- and of a state that there is not
pub store_none : (c : List ℕ) (n : ℕ) (next : ℕ → ℕ → ℕ) → Numbered c n next → 1 ≤ terminals c → (w₀ w w' : List ℕ) (k u : ℕ) → n ≤ u → u < 257 → Stored w (firsts_at + u) k w' → Come c next w₀ w n 1 k u → Come c next w₀ w' n 1 k (u + 1)
store_none c n next N t w₀ w w' k u h g S C =
    store_first c n next N w₀ w w' n 1 k u C S g (λ few i m. let a = lower c n next t w n k (C.passed.listing few) i m in omega arith)

pub cell_small : (c : List ℕ) (n : ℕ) (next : ℕ → ℕ → ℕ) → Numbered c n next → (q x v : ℕ) → v ≡ next q x → v < 256
cell_small c n next N q x v e = let a = N.target q x in let b = N.most in omega arith
