-- The list of sets and the rows of transitions, as they are found.
use mathlib.Core.Path.{◌≡◌, refl, sym, ap, ◌∙◌}
use mathlib.Core.Bool.{Bool, true, false}
use mathlib.Core.Logic.{◌≢◌, ◌⊎◌, inl, inr}
use mathlib.Core.List.{List, [], ◌∷◌, ◌++◌, append_assoc, append-nil}
use Prim.Native.Nat.{ℕ, zero, suc, ◌+◌, ◌≤◌, ◌<◌}
use native.Mathlib.Omega.{arith}
use native.Mathlib.Decide.{ℕ_discrete}
use lib.ListN.{length, get_or, length-append, get_or-append}
use lib.Seq.{get_or-append_seam}
use lib.Dec.{eqb, ltb}
use borrow.Author.Tests.{eqb-true, eqb-false, ltb-true, ltb-false}
use Rattle.grammar.specs.Grammar.{Grammar}
use Rattle.lr.specs.States.{Given, done, known, new, Taken}
use Rattle.lalr.specs.ComputedStates.{place_of, place, enter_of, enter, goto, row_sets, row_of, explore, goes, Found}
use Rattle.lalr.proofs.Members.{All, none, some}

pub record Grown (ts us : List ℕ) : Type 0 where
  pub more : List ℕ
  pub is : us ≡ ts ++ more

pub grown_refl : (ts : List ℕ) → Grown ts ts
grown_refl ts = record { more = []; is = sym (append-nil ts) }

pub grown_trans : {ts us vs : List ℕ} → Grown ts us → Grown us vs → Grown ts vs
grown_trans {ts} a b = record { more = a.more ++ b.more; is = b.is ∙ ap (λ (l : List ℕ). l ++ b.more) a.is ∙ append_assoc ts a.more b.more }

pub grown_length : {ts us : List ℕ} → Grown ts us → length ts ≤ length us
grown_length {ts} a = omega (arith, ap length a.is, length-append ts a.more)

pub grown_at : {ts us : List ℕ} → Grown ts us → (i : ℕ) → i < length ts → get_or us i 0 ≡ get_or ts i 0
grown_at {ts} a i h = ap (λ (l : List ℕ). get_or l i 0) a.is ∙ get_or-append ts a.more 0 i h

pub data Absent (s : ℕ) : List ℕ → Type 0 where
  none_in : Absent s []
  not_first : {t : ℕ} {ts : List ℕ} → (s ≡ t → ⊥) → Absent s ts → Absent s (t ∷ ts)

pub data Distinct : List ℕ → Type 0 where
  none_twice : Distinct []
  new_first : {t : ℕ} {ts : List ℕ} → Absent t ts → Distinct ts → Distinct (t ∷ ts)

pub all_at : {P : ℕ → Type 0} {ts : List ℕ} → All P ts → (i : ℕ) → i < length ts → P (get_or ts i 0)
all_at none i h = absurd (omega arith)
all_at (some p a) zero h = p
all_at (some p a) (suc i) h = all_at a i (omega arith)

absent_at : {s : ℕ} {ts : List ℕ} → Absent s ts → (i : ℕ) → i < length ts → s ≡ get_or ts i 0 → ⊥
absent_at none_in i h = absurd (omega arith)
absent_at (not_first ne a) zero h = ne
absent_at (not_first ne a) (suc i) h = absent_at a i (omega arith)

pub distinct_at : {ts : List ℕ} → Distinct ts → (i j : ℕ) → i < length ts → j < length ts → get_or ts i 0 ≡ get_or ts j 0 → i ≡ j
distinct_at none_twice i j h k e = absurd (omega arith)
distinct_at (new_first a d) zero zero h k e = refl
distinct_at (new_first a d) zero (suc j) h k e = absurd (absent_at a j (omega arith) e)
distinct_at (new_first a d) (suc i) zero h k e = absurd (absent_at a i (omega arith) (sym e))
distinct_at (new_first a d) (suc i) (suc j) h k e = ap suc (distinct_at d i j (omega arith) (omega arith) e)

-- a number that is known, or the next one
pub data Step (n k m : ℕ) : Type 0 where
  old : k < n → m ≡ n → Step n k m
  fresh : k ≡ n → m ≡ suc n → Step n k m

given_suc : {n k m : ℕ} → Step n k m → Step (suc n) (suc k) (suc m)
given_suc (old h e) = old (omega arith) (ap suc e)
given_suc (fresh h e) = fresh (ap suc h) (ap suc e)

pub numbered_one : {n k m l : ℕ} {ks : List ℕ} → Step n k m → Given m ks l → Given n (k ∷ ks) l
numbered_one (old h e) r = known h (rw e at r)
numbered_one (fresh h e) r = new h (rw e at r)

pub taken_same : {row row' : ℕ → List ℕ} {i n : ℕ} → ((q : ℕ) → q < i → row q ≡ row' q) → Taken row i n → Taken row' i n
taken_same h Taken.none = Taken.none
taken_same h (Taken.one {q} t l g) = Taken.one (taken_same (λ p k. h p (omega arith)) t) l (rw (h q (omega arith)) at g)

module _ (P : ℕ → Type 0) where
  pub record Placed (s : ℕ) (ts us : List ℕ) (i : ℕ) : Type 0 where
    pub grown : Grown ts us
    pub below : i < length us
    pub at : get_or us i 0 ≡ s
    pub absent : (t : ℕ) → (t ≡ s → ⊥) → Absent t ts → Absent t us
    pub distinct : Distinct ts → Distinct us
    pub good : P s → All P ts → All P us
    pub number : Step (length ts) i (length us)

  pub placed : (s : ℕ) (ts : List ℕ) → Placed s ts (place s ts) (place_of s ts)
  placed s [] =
      record {
        grown = record { more = s ∷ []; is = refl };
        below = omega arith;
        at = refl;
        absent = λ t ne a. not_first ne a;
        distinct = λ d. new_first none_in d;
        good = λ p a. some p a;
        number = fresh refl refl;
      }
  placed s (t ∷ ts) = go (eqb s t) refl (placed s ts)
    where
      go : (b : Bool) → eqb s t ≡ b → Placed s ts (place s ts) (place_of s ts) → Placed s (t ∷ ts) (place s (t ∷ ts)) (place_of s (t ∷ ts))
      go true e p = rw (e, place, place_of) (record { grown = grown_refl (t ∷ ts); below = omega arith; at = sym (eqb-true s t e); absent = λ u ne a. a; distinct = λ d. d; good = λ p a. a; number = old (omega arith) refl })
      go false e p =
          rw (e, place, place_of)
          (record {
            grown = record { more = p.grown.more; is = ap (λ (l : List ℕ). t ∷ l) p.grown.is };
            below = omega (arith, p.below);
            at = p.at;
            absent = λ u nu a. later u nu a;
            distinct = λ d. ◌&&◌ d;
            good = λ q a. all_good q a;
            number = given_suc p.number;
          })
        where
          later : (u : ℕ) → (u ≡ s → ⊥) → Absent u (t ∷ ts) → Absent u (t ∷ place s ts)
          later u nu (not_first k a) = not_first k (p.absent u nu a)

          all_good : P s → All P (t ∷ ts) → All P (t ∷ place s ts)
          all_good q (some h a) = some h (p.good q a)

          ◌&&◌ : Distinct (t ∷ ts) → Distinct (t ∷ place s ts)
          ◌&&◌ (new_first a d) = new_first (p.absent t (λ q. eqb-false s t e (sym q)) a) (p.distinct d)

  -- what a transition leads to
  pub data Entry (ts : List ℕ) (t i : ℕ) : Type 0 where
    no_move : t ≡ 0 → i ≡ 0 → Entry ts t i
    move : t ≢ 0 → i < length ts → get_or ts i 0 ≡ t → Entry ts t i

  entry_grown : {ts us : List ℕ} {t i : ℕ} → Grown ts us → Entry ts t i → Entry us t i
  entry_grown gr (no_move z e) = no_move z e
  entry_grown {i} gr (move nz h e) = move nz (omega (arith, grown_length gr)) (grown_at gr i h ∙ e)

  pub record Entered (t : ℕ) (ts us : List ℕ) (i : ℕ) : Type 0 where
    pub grown : Grown ts us
    pub distinct : Distinct ts → Distinct us
    pub entry : Entry us t i
    pub good : (t ≢ 0 → P t) → All P ts → All P us
    pub number : 0 < length ts → Step (length ts) i (length us)

  suc_not : (n : ℕ) → suc n ≢ 0
  suc_not n e = omega arith

  entered : (t : ℕ) (ts : List ℕ) → Entered t ts (enter t ts) (enter_of t ts)
  entered zero ts = record { grown = grown_refl ts; distinct = λ d. d; entry = no_move refl refl; good = λ h a. a; number = λ h. old h refl }
  entered (suc t) ts =
      let p = placed (suc t) ts in
      record { grown = p.grown; distinct = p.distinct; entry = move (suc_not t) p.below p.at; good = λ h a. p.good (h (suc_not t)) a; number = λ h. p.number }

  module _ (g : Grammar) (keeps : (s x : ℕ) → P s → goto g s x ≢ 0 → P (goto g s x)) where
    pub record Rowed (s x n : ℕ) (ts us is : List ℕ) : Type 0 where
      pub grown : Grown ts us
      pub distinct : Distinct ts → Distinct us
      pub entries : (j : ℕ) → j < n → Entry us (goto g s (x + j)) (get_or is j 0)
      pub good : P s → All P ts → All P us
      pub wide : length is ≡ n
      pub number : 0 < length ts → Given (length ts) is (length us)

    pub rowed : (s n x : ℕ) (ts : List ℕ) → Rowed s x n ts (row_sets g s n x ts) (row_of g s n x ts)
    rowed s zero x ts = record { grown = grown_refl ts; distinct = λ d. d; entries = λ j h. absurd (omega arith); good = λ p a. a; wide = refl; number = λ h. done }
    rowed s (suc n) x ts =
        let e = entered (goto g s x) ts in
        let r = rowed s n (suc x) (enter (goto g s x) ts) in
        record {
          grown = grown_trans e.grown r.grown;
          distinct = λ d. r.distinct (e.distinct d);
          entries = λ j h. at j h e.entry r.grown r.entries;
          good = λ p a. r.good p (e.good (λ nz. keeps s x p nz) a);
          wide = ap suc r.wide;
          number = λ h. numbered_one (e.number h) (r.number (omega (arith, grown_length e.grown)));
        }
      where
        at : (j : ℕ) → j < suc n → Entry (enter (goto g s x) ts) (goto g s x) (enter_of (goto g s x) ts) → Grown (enter (goto g s x) ts) (row_sets g s (suc n) x ts)
            → ((j : ℕ) → j < n → Entry (row_sets g s (suc n) x ts) (goto g s (suc x + j)) (get_or (row_of g s n (suc x) (enter (goto g s x) ts)) j 0))
            → Entry (row_sets g s (suc n) x ts) (goto g s (x + j)) (get_or (row_of g s (suc n) x ts) j 0)
        at zero h e gr ih = let n : x + 0 ≡ x = omega arith in rw n (entry_grown gr e)
        at (suc j) h e gr ih = let n : x + suc j ≡ suc x + j = omega arith in rw n (ih j (omega arith))

    abbrev width : ℕ
    width = g.terminals + g.nonterminals

    -- i rows are made
    pub record Inv (s₀ i : ℕ) (ts : List ℕ) (rows : List (List ℕ)) : Type 0 where
      pub distinct : Distinct ts
      pub counted : length rows ≡ i
      pub within : i ≤ length ts
      pub some_set : 0 < length ts
      pub first : get_or ts 0 0 ≡ s₀
      pub good : All P ts
      pub entries : (q x : ℕ) → q < i → x < width → Entry ts (goto g (get_or ts q 0) x) (goes g rows q x)
      pub wide : (q : ℕ) → q < i → length (get_or rows q []) ≡ width
      pub order : Taken (λ q. get_or rows q []) i (length ts)

    module _ (s₀ : ℕ) where
      step : (i : ℕ) (ts : List ℕ) (rows : List (List ℕ)) → i < length ts → Inv s₀ i ts rows → Inv s₀ (suc i) (row_sets g (get_or ts i 0) width 0 ts) (rows ++ row_of g (get_or ts i 0) width 0 ts ∷ [])
      step i ts rows h v =
          let r = rowed (get_or ts i 0) width 0 ts in
          let l = grown_length r.grown in
          record {
            distinct = r.distinct v.distinct;
            counted = omega (arith, length-append rows (is ∷ []), v.counted);
            within = omega arith;
            some_set = omega (arith, v.some_set);
            first = grown_at r.grown 0 v.some_set ∙ v.first;
            good = r.good (all_at v.good i h) v.good;
            entries = λ q x k w. at q x k w r (ℕ_discrete q i);
            wide = λ q k. wide_at q k r (ℕ_discrete q i);
            order = Taken.one {m = length us} (taken_same (λ q k. sym (old_row q k)) v.order) h (rw (last_row i refl) (r.number v.some_set));
          }
        where
          us : List ℕ
          us = row_sets g (get_or ts i 0) width 0 ts

          is : List ℕ
          is = row_of g (get_or ts i 0) width 0 ts

          old_row : (q : ℕ) → q < i → get_or (rows ++ is ∷ []) q [] ≡ get_or rows q []
          old_row q k = get_or-append rows (is ∷ []) [] q (omega (arith, v.counted))

          last_row : (q : ℕ) → q ≡ i → get_or (rows ++ is ∷ []) q [] ≡ is
          last_row q e = ap (λ (k : ℕ). get_or (rows ++ is ∷ []) k []) (e ∙ sym v.counted) ∙ get_or-append_seam rows is [] []

          wide_at : (q : ℕ) → q < suc i → Rowed (get_or ts i 0) 0 width ts us is → Dec (q ≡ i) → length (get_or (rows ++ is ∷ []) q []) ≡ width
          wide_at q k r (yes e) = ap length (last_row q e) ∙ r.wide
          wide_at q k r (no ne) = ap length (old_row q (omega arith)) ∙ v.wide q (omega arith)

          at : (q x : ℕ) → q < suc i → x < width → Rowed (get_or ts i 0) 0 width ts us is → Dec (q ≡ i) → Entry us (goto g (get_or us q 0) x) (goes g (rows ++ is ∷ []) q x)
          at q x k w r (yes e) =
              let n : 0 + x ≡ x = omega arith in
              let there : get_or us q 0 ≡ get_or ts i 0 = rw e (grown_at r.grown i h) in
              rw (last_row q e, there) (rw n at (r.entries x w))
          at q x k w r (no ne) =
              let there : get_or us q 0 ≡ get_or ts q 0 = grown_at r.grown q (omega (arith, v.within)) in
              rw (old_row q (omega arith), there) (entry_grown r.grown (v.entries q x (omega arith) w))

      -- complete, or as many rows as fuel
      pub record Explored (n i : ℕ) (f : Found g) : Type 0 where
        pub taken : ℕ
        pub inv : Inv s₀ taken f.sets f.rows
        pub full : (taken ≡ length f.sets) ⊎ (taken ≡ n + i)

      pub explored : (n i : ℕ) (ts : List ℕ) (rows : List (List ℕ)) → Inv s₀ i ts rows → Explored n i (explore g n i ts rows)
      explored zero i ts rows v = record { taken = i; inv = v; full = inr (omega arith) }
      explored (suc n) i ts rows v = go (ltb i (length ts)) refl (λ us rows' v'. explored n (suc i) us rows' v')
        where
          more : (f : Found g) → Explored n (suc i) f → Explored (suc n) i f
          more f e = record { taken = e.taken; inv = e.inv; full = up e.full }
            where
              up : (e.taken ≡ length f.sets) ⊎ (e.taken ≡ n + suc i) → (e.taken ≡ length f.sets) ⊎ (e.taken ≡ suc n + i)
              up (inl q) = inl q
              up (inr q) = inr (omega arith)

          go : (b : Bool) → ltb i (length ts) ≡ b → ((us : List ℕ) (rows' : List (List ℕ)) → Inv s₀ (suc i) us rows' → Explored n (suc i) (explore g n (suc i) us rows')) → Explored (suc n) i (explore g (suc n) i ts rows)
          go true e ih = rw (e, explore) (more _ (ih _ _ (step i ts rows (ltb-true i (length ts) e) v)))
          go false e ih = rw (e, explore) (record { taken = i; inv = v; full = inl (omega (arith, v.within, ltb-false i (length ts) e)) })

      -- the sets that are known stay
      pub explore_grows : (n i : ℕ) (ts : List ℕ) (rows : List (List ℕ)) → Grown ts (explore g n i ts rows).sets
      explore_grows zero i ts rows = grown_refl ts
      explore_grows (suc n) i ts rows = go (ltb i (length ts)) refl (λ us rows'. explore_grows n (suc i) us rows')
        where
          go : (b : Bool) → ltb i (length ts) ≡ b → ((us : List ℕ) (rows' : List (List ℕ)) → Grown us (explore g n (suc i) us rows').sets) → Grown ts (explore g (suc n) i ts rows).sets
          go true e ih = rw (e, explore) (grown_trans (rowed (get_or ts i 0) width 0 ts).grown (ih _ _))
          go false e ih = rw (e, explore) (grown_refl ts)
