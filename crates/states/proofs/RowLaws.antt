-- A row of the table, cell by cell.
use mathlib.Core.Bool.{false≢true}
use mathlib.Core.List.{List, [], ◌∷◌, ◌++◌}
use mathlib.Core.Logic.{⊎_elim}
use mathlib.Core.Path.{◌≡◌, refl, sym, ap, ◌∙◌}
use Prim.Native.Nat.{ℕ, zero, suc, ◌+◌, ◌*◌, ◌^◌, ◌≤◌, ◌<◌, max}
use native.Mathlib.Nat.{add-zero, le_refl}
use native.Mathlib.Numerals.{add-one}
use native.Mathlib.Omega.{arith}
use lib.ListN.{length, get_or, set, length-set}
use lib.Seq.{get_or-set_same, get_or-set_other}
use Rattle.std.specs.Prelude.{Option, Some, None}
use Rattle.closures.proofs.AfterLaws.{stays}
use Rattle.closures.proofs.AreaLaws.{kept_same, kept_then}
use Rattle.closures.specs.Areas.{closures_at, masks_at, slot_count, slots_end, slot, Prepared, Added}
use Rattle.closures.specs.Sets.{Goes, Alike, Afters}
use Rattle.grammar.specs.Card.{terminals, nonterminals}
use Rattle.items.proofs.AreaLaws.{not_same}
use Rattle.items.proofs.ItemLaws.{Words}
use Rattle.items.specs.Item.{set_size, item_limit, item}
use Rattle.sets.proofs.HasLaws.{lt_or_ge}
use Rattle.sets.proofs.ListLaws.{each_same}
use Rattle.sets.specs.Lists.{each}
use Rattle.states.specs.Places.{Placed, found, fresh, crowded, Target, Skipped}
use Rattle.states.specs.States.{Cell, vacant, leads, Apart, Row, Crowd}
use Rattle.lr.specs.States.{Given}

-- ---- one more number in a row

pub given_known : {n m k : ℕ} {ks : List ℕ} → Given n ks m → k < m → Given n (ks ++ k ∷ []) m
given_known Given.done h = Given.known h Given.done
given_known (Given.known e g) h = Given.known e (given_known g h)
given_known (Given.new e g) h = Given.new e (given_known g h)

given_new : {n m : ℕ} {ks : List ℕ} → Given n ks m → Given n (ks ++ m ∷ []) (m + 1)
given_new {m = m} g = rw (add-one m) (go g)
  where
    go : {n m : ℕ} {ks : List ℕ} → Given n ks m → Given n (ks ++ m ∷ []) (suc m)
    go Given.done = Given.new refl Given.done
    go (Given.known e g) = Given.known e (go g)
    go (Given.new e g) = Given.new e (go g)

-- zeros, which are known numbers, from x up to y
given_zeros : (n m x y : ℕ) (f : ℕ → ℕ) → Given n (each x (λ v. f v ∷ [])) m → 0 < m → ((k : ℕ) → x ≤ k → k < y → f k ≡ 0) → x ≤ y → Given n (each y (λ v. f v ∷ [])) m
given_zeros n m x zero f g p h l = let e : x ≡ 0 = omega arith in rw e at g
given_zeros n m x (suc y) f g p h l =
    ⊎_elim (λ (d : y < x). let e : x ≡ suc y = omega arith in rw e at g)
    (λ (d : x ≤ y). given_known (given_zeros n m x y f g p (λ k a b. h k a (omega arith)) d) (rw (h y d (omega arith)) p)) (lt_or_ge y x)

-- the row, cell by cell
abbrev cells : List ℕ → ℕ → ℕ → List ℕ
cells t at x = each x (λ y. get_or t (at + y) 0 ∷ [])

cells_set : (t : List ℕ) (at x p : ℕ) → at + x < length t → cells (set t (at + x) p) at (x + 1) ≡ cells t at x ++ p ∷ []
cells_set t at x p b =
    rw (add-one x)
    (ap (λ (l : List ℕ). l ++ get_or (set t (at + x) p) (at + x) 0 ∷ []) (each_same x _ _ (λ i h. ap (λ (v : ℕ). v ∷ []) (get_or-set_other t (at + x) (at + i) p 0 (λ e. omega arith))))
    ∙ ap (λ (v : ℕ). cells t at x ++ v ∷ []) (get_or-set_same t (at + x) p 0 b))

-- ---- states that are not looked for

-- no state from p up to q has v as word k
pub record Passed (z : List ℕ) (p k v q : ℕ) : Type 0 where
  pub least : p ≤ q
  pub gap : (j : ℕ) → p ≤ j → j < q → get_or z (j * set_size + k) 0 ≡ v → ⊥

-- one with another word is another set
pub other_word : (z s : List ℕ) (q k : ℕ) → q * set_size + set_size ≤ length z → length s ≡ set_size → ((j : ℕ) → get_or z (q * set_size + j) 0 < 2 ^ 64) → Words s → k < set_size → (get_or z (q * set_size + k) 0 ≡ get_or s k 0 → ⊥) → Alike (slot z q) s → ⊥
other_word z s q k room l f g h n a = false≢true ((not_same z (q * set_size) s room l f g k h n).items.so a)

-- none of the states below q is s: those below `from` are not, and the others have another word k
pub none_before : (z s : List ℕ) (k n from q : ℕ) → n * set_size ≤ length z → length s ≡ set_size → ((j : ℕ) → get_or z j 0 < 2 ^ 64) → Words s → k < set_size → q ≤ n
    → ((p : ℕ) → p < from → Alike (slot z p) s → ⊥) → ((p : ℕ) → from ≤ p → p < q → get_or z (p * set_size + k) 0 ≡ get_or s k 0 → ⊥) → (p : ℕ) → p < q → Alike (slot z p) s → ⊥
none_before z s k n from q room l f g h b old gap p d =
    ⊎_elim (old p) (λ (e : from ≤ p). other_word z s p k (omega arith) l (λ j. f (p * set_size + j)) g h (gap p e d)) (lt_or_ge p from)

-- ---- states put down

pub prepared_kept : (c z y s : List ℕ) (n : ℕ) → terminals c + nonterminals c ≤ 124 → nonterminals c ≤ 60 → n < 256 → Added z n s y → length y ≡ length z → Prepared c z → Prepared c y
prepared_kept c z y s n w b h ad l p = record {
  closures = record {
    starts = λ j q g. rw (ad.high (closures_at + j) (omega arith) (fits (closures_at + j) (omega arith))) (p.closures.starts j q g);
    all = λ j i q g. rw (ad.high (closures_at + j) (omega arith) (fits (closures_at + j) (omega arith))) (p.closures.all j i q g);
    from = λ j k g. rw (ad.high (closures_at + j) (omega arith) (fits (closures_at + j) (omega arith))) (p.closures.from j k g);
  };
  masks = λ x i g. rw (ad.high (masks_at + x) (omega arith) (fits (masks_at + x) (omega arith))) (p.masks x i g);
  room = rw l p.room;
}
  where
    fits : (q : ℕ) → q < slot_count → q * set_size + set_size ≤ length z
    fits q g = omega (arith, p.room)

goes_to : (c s r u : List ℕ) (x : ℕ) → r ≡ u → Goes c s x u → Goes c s x r
goes_to c s r u x e g = rw e g

pub cell_kept : (c z y : List ℕ) (n m : ℕ) (s : List ℕ) (x v : ℕ) → n ≤ m → ((q : ℕ) → q < n → slot y q ≡ slot z q) → Cell c z n s x v → Cell c y m s x v
cell_kept c z y n m s x _ h old (vacant e) = vacant e
cell_kept c z y n m s x _ h old (leads p l g) = leads p (omega arith) (goes_to c s (slot y p) (slot z p) x (old p l) g)

-- ---- the row

module _ (c s z₀ : List ℕ) (n₀ : ℕ) (t₀ : List ℕ) (at : ℕ) where
  pub row_start : 0 < n₀ → n₀ ≤ 256 → Apart z₀ n₀ → Prepared c z₀ → get_or t₀ at 0 ≡ 0 → Row c s z₀ n₀ t₀ at z₀ n₀ t₀ 1
  row_start a b ap' pr e =
      let e0 : get_or t₀ (at + 0) 0 ≡ 0 = rw (add-zero at) e in
      let lt : get_or t₀ (at + 0) 0 < n₀ = rw e0 a in
      record {
        some = a;
        most = b;
        more = le_refl n₀;
        old = λ q h. refl;
        apart = ap';
        prepared = pr;
        edge = e0;
        cells = λ y h g. absurd (let v : ⊥ = omega arith in v);
        given = Given.known lt Given.done;
        low = λ k h. refl;
        high = kept_same t₀ (at + 1);
        behind = kept_same z₀ slots_end;
        long = refl;
        wide = refl;
      }

  -- the cell of x is written, and no state is new
  row_known : (z : List ℕ) (n : ℕ) (t : List ℕ) (x p : ℕ) → Row c s z₀ n₀ t₀ at z n t x → 0 < x → at + x < length t → p < n → Cell c z n s x p
      → Row c s z₀ n₀ t₀ at z n (set t (at + x) p) (x + 1)
  row_known z n t x p r px b h f = record {
    some = r.some;
    most = r.most;
    more = r.more;
    old = r.old;
    apart = r.apart;
    prepared = r.prepared;
    edge = get_or-set_other t (at + x) (at + 0) p 0 (λ e. omega arith) ∙ r.edge;
    cells = λ y h g.
        ⊎_elim
        (λ (v : y < x). rw (get_or-set_other t (at + x) (at + y) p 0 (λ e. omega arith)) (r.cells y h v))
        (λ (v : x ≤ y). let e : y ≡ x = omega arith in rw (e, get_or-set_same t (at + x) p 0 b) f)
        (lt_or_ge y x);
    given = rw (cells_set t at x p b) (given_known r.given h);
    low = λ k h. get_or-set_other t (at + x) k p 0 (λ e. omega arith) ∙ r.low k h;
    high = record { kept = λ k h. get_or-set_other t (at + x) k p 0 (λ e. omega arith) ∙ r.high.kept k (omega arith) };
    behind = r.behind;
    long = simp length-set r.long;
    wide = r.wide;
  }

  -- the cell of x is written, with a new state
  row_new : (z y : List ℕ) (n : ℕ) (t : List ℕ) (x : ℕ) (u : List ℕ) → Row c s z₀ n₀ t₀ at z n t x → terminals c + nonterminals c ≤ 124 → nonterminals c ≤ 60 → 0 < x → at + x < length t → n < 256
      → ((q : ℕ) → q < n → Alike (slot z q) u → ⊥) → Added z n u y → length y ≡ length z → Goes c s x u → Row c s z₀ n₀ t₀ at y (n + 1) (set t (at + x) n) (x + 1)
  row_new z y n t x u r w nm px b h out ad l g = record {
    some = omega arith;
    most = omega arith;
    more = (let v = r.more in omega arith);
    old = λ q d. ad.low q (let v = r.more in omega arith) ∙ r.old q d;
    apart = λ p q a d f.
        ⊎_elim
        (λ (v : q < n). r.apart p q a v (λ k d. ap (λ (m : List ℕ). item m k) (sym (ad.low p (omega arith))) ∙ f k d ∙ ap (λ (m : List ℕ). item m k) (ad.low q v)))
        (λ (v : n ≤ q).
        let e : q ≡ n = omega arith in
        out p (omega arith) (λ k d. ap (λ (m : List ℕ). item m k) (sym (ad.low p (omega arith))) ∙ f k d ∙ ap (λ (m : List ℕ). item m k) (ap (slot y) e ∙ ad.new)))
        (lt_or_ge q n);
    prepared = prepared_kept c z y u n w nm h ad l r.prepared;
    edge = get_or-set_other t (at + x) (at + 0) n 0 (λ e. omega arith) ∙ r.edge;
    cells = λ v a d.
        ⊎_elim
        (λ (i : v < x). rw (get_or-set_other t (at + x) (at + v) n 0 (λ e. omega arith)) (cell_kept c z y n (n + 1) s v (get_or t (at + v) 0) (omega arith) ad.low (r.cells v a i)))
        (λ (i : x ≤ v). let e : v ≡ x = omega arith in rw (e, get_or-set_same t (at + x) n 0 b) (leads n (omega arith) (goes_to c s (slot y n) u x ad.new g)))
        (lt_or_ge v x);
    given = rw (cells_set t at x n b) (given_new r.given);
    low = λ k h. get_or-set_other t (at + x) k n 0 (λ e. omega arith) ∙ r.low k h;
    high = record { kept = λ k h. get_or-set_other t (at + x) k n 0 (λ e. omega arith) ∙ r.high.kept k (omega arith) };
    behind = kept_then r.behind ad.behind (omega arith);
    long = simp length-set r.long;
    wide = l ∙ r.wide;
  }

  -- the cells from x on up to the first symbol after a dot are 0
  pub row_skip : (z : List ℕ) (n : ℕ) (t u a : List ℕ) (x end y : ℕ) → Row c s z₀ n₀ t₀ at z n t x → 0 < x → Afters c s item_limit a → Skipped t at x end a u y → length u ≡ length t → Row c s z₀ n₀ t₀ at z n u y
  row_skip z n t u a x end y r px f k l = record {
    some = r.some;
    most = r.most;
    more = r.more;
    old = r.old;
    apart = r.apart;
    prepared = r.prepared;
    edge = k.low (at + 0) (omega arith) ∙ r.edge;
    cells = λ v h g.
        ⊎_elim
        (λ (d : v < x). rw (k.low (at + v) (omega arith)) (r.cells v h d))
        (λ (d : x ≤ v). rw (k.zeros v d g) (vacant (stays c s a v f (k.gap v d g))))
        (lt_or_ge v x);
    given = given_zeros n₀ n x y (λ v. get_or u (at + v) 0) (rw (each_same x (λ v. get_or u (at + v) 0 ∷ []) (λ v. get_or t (at + v) 0 ∷ []) (λ i h. ap (λ (v : ℕ). v ∷ []) (k.low (at + i) (omega arith)))) r.given) r.some k.zeros k.least;
    low = λ v h. k.low v (omega arith) ∙ r.low v h;
    high = record { kept = λ v h. k.high.kept v h ∙ r.high.kept v (let d = k.least in omega arith) };
    behind = r.behind;
    long = l ∙ r.long;
    wide = r.wide;
  }

  pub row_step : (z y : List ℕ) (n : ℕ) (t : List ℕ) (x p m : ℕ) → Row c s z₀ n₀ t₀ at z n t x → terminals c + nonterminals c ≤ 124 → nonterminals c ≤ 60 → 0 < x → at + x < length t → Target c s x z n y (Some p)
      → length y ≡ length z → m ≡ max n (p + 1) → Row c s z₀ n₀ t₀ at y m (set t (at + x) p) (x + 1)
  row_step z y n t x p m r w nm px b tg l em = rw em (placed tg.set tg.goes tg.placed refl l)
    where
      placed : {y : List ℕ} {o : Option ℕ} {p : ℕ} (u : List ℕ) → Goes c s x u → Placed z n u y o → o ≡ Some p → length y ≡ length z
          → Row c s z₀ n₀ t₀ at y (max n (p + 1)) (set t (at + x) p) (x + 1)
      placed {p} u g (found q h f) e l =
          let v : q ≡ p = cc in
          let k : p < n = omega arith in
          let k' : max n (p + 1) ≡ n = omega arith in
          rw k' (row_known z n t x p r px b k (leads p k (goes_to c s (slot z p) u x (rw v at f) g)))
      placed {p} u g (fresh y h f ad) e l =
          let v : n ≡ p = cc in
          let k : max n (n + 1) ≡ n + 1 = omega arith in
          rw (sym v, k) (row_new z y n t x u r w nm px b h f ad l g)
      placed u g (crowded h f) e l = cc

  pub row_stop : (z y : List ℕ) (n : ℕ) (t : List ℕ) (x : ℕ) → Row c s z₀ n₀ t₀ at z n t x → 0 < x → x < terminals c + nonterminals c → Target c s x z n y None → Crowd c s z₀ n₀ t₀ at y t
  row_stop z y n t x r px hx tg = placed tg.set tg.goes tg.placed refl
    where
      placed : {y : List ℕ} {o : Option ℕ} (u : List ℕ) → Goes c s x u → Placed z n u y o → o ≡ None → Crowd c s z₀ n₀ t₀ at y t
      placed u g (found p h f) e = cc
      placed u g (fresh y h f ad) e = cc
      placed u g (crowded h f) e = record { symbol = x; above = px; below = hx; new = u; row = rw h at r; goes = g; none = rw h at f }

  pub target_low : (z y : List ℕ) (n x p : ℕ) → n ≤ 256 → Target c s x z n y (Some p) → p < 256
  target_low z y n x p b tg = go tg.placed refl
    where
      go : {y : List ℕ} {o : Option ℕ} {u : List ℕ} → Placed z n u y o → o ≡ Some p → p < 256
      go (found q h f) e = let v : q ≡ p = cc in omega arith
      go (fresh _ h f ad) e = let v : n ≡ p = cc in omega arith
      go (crowded h f) e = cc
