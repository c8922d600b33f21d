-- The laws of sets in words, for any number of words.
use mathlib.Core.Bool.{Bool, true, false, not, ◌&&◌, ◌||◌, true≢false, false≢true}
use mathlib.Core.List.{List, [], ◌∷◌}
use mathlib.Core.Logic.{◌⊎◌, inl, inr, ⊎_elim}
use mathlib.Core.Path.{◌≡◌, refl, sym, ap, ap₂, ◌∙◌}
use Prim.Native.Nat.{ℕ, zero, suc, ◌+◌, ◌-◌, ◌*◌, ◌/◌, ◌%◌, ◌^◌, ◌≤◌, ◌<◌}
use native.Mathlib.Nat.{lt_of_le_of_lt, zero-add}
use native.Mathlib.Omega.{arith}
use lib.Bits.{bit_or, bit_and, or_zero_r}
use lib.Count.{count_trailing_zeros}
use lib.Dec.{eqb}
use lib.ListN.{length, get_or, set, replicate, get_or-replicate, get_or-eq_default, length-replicate}
use lib.Pow.{shr_le}
use lib.Seq.{get_or-set_same, get_or-set_other, ext_get_or}
use borrow.Author.Tests.{eq-eqb, ne_eqb}
use Rattle.sets.specs.Bit.{bit, count}
use Rattle.sets.specs.Words.{item, put, union, Empty, Put, Without, Union, First}
use Rattle.sets.proofs.BitLaws.{bit_of_or, bit_pow, bit_zero, bit_ext, bit_above, lowest_in, lowest_below, one_shl, bit_shr}
use Rattle.sets.proofs.HasLaws.{lt_or_ge, eq_or, or_false, without_bits}
use Rattle.sets.proofs.CountLaws.{count_same}
use Rattle.sets.proofs.TestLaws.{and_left, and_right, and_one, and_true}

-- ---- no number

pub item_empty : (n j : ℕ) → item (replicate n 0) j ≡ false
unfolding item
item_empty n j =
    ap (λ (x : ℕ). bit x (j % 64))
    (⊎_elim (λ (h : j / 64 < n). get_or-replicate n (j / 64) 0 0 h)
    (λ (h : n ≤ j / 64). get_or-eq_default (replicate n 0) 0 (omega (arith, length-replicate {A = ℕ} n 0))) (lt_or_ge (j / 64) n))
    ∙ bit_zero (j % 64)

pub empty_of : (n : ℕ) → Empty n (replicate n 0)
empty_of n = record { words = refl; items = item_empty n }

-- a number from the last word on is in no set
pub item_above : (ws : List ℕ) (j : ℕ) → 64 * length ws ≤ j → item ws j ≡ false
unfolding item
item_above ws j h = ap (λ (x : ℕ). bit x (j % 64)) (get_or-eq_default ws 0 (omega arith)) ∙ bit_zero (j % 64)

-- ---- one number more, one less

-- two numbers with one word are equal where their digits are
same_rest : (i j : ℕ) → j / 64 ≡ i / 64 → eqb (i % 64) (j % 64) ≡ eqb i j
same_rest i j e =
    ⊎_elim
    (λ (h : i ≡ j). rw h (eq-eqb (j % 64) (j % 64) refl ∙ sym (eq-eqb j j refl)))
    (λ (h : i ≡ j → ⊥). ne_eqb (i % 64) (j % 64) (λ r. h (omega arith)) ∙ sym (ne_eqb i j h))
    (eq_or i j)

other_word : (i j : ℕ) → (j / 64 ≡ i / 64 → ⊥) → eqb i j ≡ false
other_word i j n = ne_eqb i j (λ e. n (ap (λ (x : ℕ). x / 64) (sym e)))

-- word i / 64 becomes v: a number in another word stays, and one in that word is in the set where its digit is in v
item_same : (ws : List ℕ) (i v j : ℕ) → i / 64 < length ws → j / 64 ≡ i / 64 → item (set ws (i / 64) v) j ≡ bit v (j % 64)
unfolding item
item_same ws i v j h e =
    ap (λ (x : ℕ). bit (get_or (set ws (i / 64) v) x 0) (j % 64)) e ∙ ap (λ (x : ℕ). bit x (j % 64)) (get_or-set_same ws (i / 64) v 0 h)

item_other : (ws : List ℕ) (i v j : ℕ) → (j / 64 ≡ i / 64 → ⊥) → item (set ws (i / 64) v) j ≡ item ws j
unfolding item
item_other ws i v j n = ap (λ (x : ℕ). bit x (j % 64)) (get_or-set_other ws (i / 64) (j / 64) v 0 n)

pub item_put : (ws : List ℕ) (i j : ℕ) → i / 64 < length ws → item (put ws i) j ≡ (item ws j || eqb i j)
unfolding item put
item_put ws i j h =
    ⊎_elim
    (λ (e : j / 64 ≡ i / 64).
    item_same ws i (bit_or (get_or ws (i / 64) 0) (2 ^ (i % 64))) j h e ∙ bit_of_or (get_or ws (i / 64) 0) (2 ^ (i % 64)) (j % 64)
    ∙ ap₂ (λ (x y : Bool). x || y) (ap (λ (x : ℕ). bit (get_or ws x 0) (j % 64)) (sym e)) (bit_pow (i % 64) (j % 64) ∙ same_rest i j e))
    (λ n.
    item_other ws i (bit_or (get_or ws (i / 64) 0) (2 ^ (i % 64))) j n
    ∙ sym (ap (λ (x : Bool). item ws j || x) (other_word i j n) ∙ or_false (item ws j)))
    (eq_or (j / 64) (i / 64))

-- as the machine puts a number in, and takes one out
pub put_of : (ws : List ℕ) (i : ℕ) → i < 64 * length ws
    → Put ws i (set ws (i / 64) (bit_or (get_or ws (i / 64) 0) ((1 * 2 ^ (i % 64)) % 2 ^ 64)))
unfolding put
put_of ws i h =
    let e : set ws (i / 64) (bit_or (get_or ws (i / 64) 0) ((1 * 2 ^ (i % 64)) % 2 ^ 64)) ≡ put ws i = rw (one_shl 64 (i % 64) (omega arith)) in
    record { words = e; items = λ j. ap (λ (l : List ℕ). item l j) e ∙ item_put ws i j (omega arith) }

pub without_of : (ws : List ℕ) (i : ℕ) → i < 64 * length ws → get_or ws (i / 64) 0 < 2 ^ 64
    → Without ws i (set ws (i / 64) (bit_and (get_or ws (i / 64) 0) ((2 ^ 64 - 1) - (1 * 2 ^ (i % 64)) % 2 ^ 64)))
unfolding item
without_of ws i h f j =
    let v = bit_and (get_or ws (i / 64) 0) ((2 ^ 64 - 1) - 2 ^ (i % 64)) in
    let s : (1 * 2 ^ (i % 64)) % 2 ^ 64 ≡ 2 ^ (i % 64) = one_shl 64 (i % 64) (omega arith) in
    ap (λ (x : ℕ). item (set ws (i / 64) (bit_and (get_or ws (i / 64) 0) ((2 ^ 64 - 1) - x))) j) s
    ∙ ⊎_elim
    (λ (e : j / 64 ≡ i / 64).
    item_same ws i v j (omega arith) e ∙ without_bits 64 (get_or ws (i / 64) 0) (i % 64) f (omega arith) (j % 64)
    ∙ ap₂ (λ (x : ℕ) (y : Bool). bit (get_or ws x 0) (j % 64) && not y) (sym e) (same_rest i j e))
    (λ n. item_other ws i v j n ∙ sym (ap (λ (x : Bool). item ws j && not x) (other_word i j n) ∙ and_one (item ws j)))
    (eq_or (j / 64) (i / 64))

-- ---- both sets

pub get_d_union : (a b : List ℕ) (k : ℕ) → get_or (union a b) k 0 ≡ bit_or (get_or a k 0) (get_or b k 0)
unfolding union
get_d_union (x ∷ a) (y ∷ b) zero = refl
get_d_union (x ∷ a) (y ∷ b) (suc k) = get_d_union a b k
get_d_union (x ∷ a) [] k = sym (or_zero_r (get_or (x ∷ a) k 0))
get_d_union [] b k = refl

pub length_union : (a b : List ℕ) → length a ≡ length b → length (union a b) ≡ length a
unfolding union
length_union (x ∷ a) (y ∷ b) e = ap suc (length_union a b (omega arith))
length_union (x ∷ a) [] e = refl
length_union [] b e = sym e

pub item_union : (a b : List ℕ) (j : ℕ) → item (union a b) j ≡ (item a j || item b j)
unfolding item
item_union a b j = ap (λ (x : ℕ). bit x (j % 64)) (get_d_union a b (j / 64)) ∙ bit_of_or (get_or a (j / 64) 0) (get_or b (j / 64) 0) (j % 64)

pub union_of : (a b r : List ℕ) → r ≡ union a b → Union a b r
union_of a b r e = record { words = e; items = λ k. ap (λ (l : List ℕ). item l k) e ∙ item_union a b k }

-- a list that has each word of one joined with that of the other
pub union_by : (a b r : List ℕ) → length a ≡ length b → length r ≡ length a
    → ((k : ℕ) → k < length r → get_or r k 0 ≡ bit_or (get_or a k 0) (get_or b k 0)) → Union a b r
union_by a b r n m h =
    union_of a b r (ext_get_or 0 r (union a b) (m ∙ sym (length_union a b n)) (λ k l. h k l ∙ sym (get_d_union a b k)))

-- ---- the same numbers

-- every word is one of 64 bits
abbrev pub Words : List ℕ → Type 0
Words ws = (k : ℕ) → get_or ws k 0 < 2 ^ 64

-- the same numbers: the same list of words
pub item_ext : (a b : List ℕ) → length a ≡ length b → Words a → Words b → ((j : ℕ) → j < length a * 64 → item a j ≡ item b j) → a ≡ b
unfolding item
item_ext a b n fa fb h =
    ext_get_or 0 a b n (λ k l.
    bit_ext 64 (get_or a k 0) (get_or b k 0) (fa k) (fb k) (λ m q.
    let div : (k * 64 + m) / 64 ≡ k = omega arith in
    let rem : (k * 64 + m) % 64 ≡ m = omega arith in
    let e = h (k * 64 + m) (omega arith) in
    ap₂ (λ (x y : ℕ). bit (get_or a x 0) y) (sym div) (sym rem) ∙ e ∙ ap₂ (λ (x y : ℕ). bit (get_or b x 0) y) div rem))

-- ---- a walk word by word

abbrev pub Gap : List ℕ → ℕ → ℕ → Type 0
Gap ws from to = (j : ℕ) → from ≤ j → j < to → item ws j ≡ false

pub item_word : (ws : List ℕ) (k m : ℕ) → m < 64 → item ws (k * 64 + m) ≡ bit (get_or ws k 0) m
unfolding item
item_word ws k m h =
    let div : (k * 64 + m) / 64 ≡ k = omega arith in
    let rem : (k * 64 + m) % 64 ≡ m = omega arith in
    ap₂ (λ (x y : ℕ). bit (get_or ws x 0) y) div rem

-- v is word k from digit a on, where `start` stands
module _ (ws : List ℕ) (from start k a v : ℕ) (st : start ≡ k * 64 + a) (le : from ≤ start) (gap : Gap ws from start)
    (ha : a < 64) (hv : (m : ℕ) → bit v m ≡ bit (get_or ws k 0) (a + m)) where
  at : (j : ℕ) → start ≤ j → j < k * 64 + 64 → item ws j ≡ bit v (j - start)
  at j l h =
      let e : j ≡ k * 64 + (a + (j - start)) = omega arith in
      ap (item ws) e ∙ item_word ws k (a + (j - start)) (omega arith) ∙ sym (hv (j - start))

  pub none : v ≡ 0 → Gap ws from ((k + 1) * 64)
  none z j l h =
      ⊎_elim (λ (q : j < start). gap j l q)
      (λ (q : start ≤ j). at j q (omega arith) ∙ ap (λ (x : ℕ). bit x (j - start)) z ∙ bit_zero _)
      (lt_or_ge j start)

  module _ (hw : get_or ws k 0 < 2 ^ 64) (fits : v < 2 ^ 64) (ne : v ≡ 0 → ⊥) where
    one : bit v (count_trailing_zeros 64 v) ≡ true
    one = lowest_in 64 v (omega arith) fits

    pub room : a + count_trailing_zeros 64 v < 64
    room =
        let t = count_trailing_zeros 64 v in
        ⊎_elim (λ (q : a + t < 64). q)
        (λ (q : 64 ≤ a + t). absurd (true≢false (sym one ∙ hv t ∙ bit_above 64 (get_or ws k 0) (a + t) hw q)))
        (lt_or_ge (a + t) 64)

    there : item ws (start + count_trailing_zeros 64 v) ≡ true
    there =
        let t = count_trailing_zeros 64 v in
        at (start + t) (omega arith) (omega (arith, room)) ∙ ap (bit v) (let e : start + t - start ≡ t = omega arith in e) ∙ one

    pub found : First ws from (start + count_trailing_zeros 64 v)
    found = record {
      within =
          ⊎_elim (λ (q : start + count_trailing_zeros 64 v < 64 * length ws). q)
          (λ (q : 64 * length ws ≤ start + count_trailing_zeros 64 v). absurd (true≢false (sym there ∙ item_above ws _ q)))
          (lt_or_ge (start + count_trailing_zeros 64 v) (64 * length ws));
      least = omega arith;
      here = there;
      gap = λ j l h.
          ⊎_elim (λ (q : j < start). gap j l q)
          (λ (q : start ≤ j). at j q (omega (arith, room)) ∙ lowest_below 64 v (j - start) (omega arith))
          (lt_or_ge j start);
    }

-- in the word of `from`, cut off below it
module _ (ws : List ℕ) (from : ℕ) where
  nothing : Gap ws from from
  nothing j l h = absurd (let z : ⊥ = omega arith in z)

  pub found_here : get_or ws (from / 64) 0 < 2 ^ 64 → (get_or ws (from / 64) 0 / 2 ^ (from % 64) ≡ 0 → ⊥)
      → First ws from (from + count_trailing_zeros 64 (get_or ws (from / 64) 0 / 2 ^ (from % 64)))
  found_here f ne =
      found ws from from (from / 64) (from % 64) _ (omega arith) (omega arith) nothing
      (omega arith) (λ m. bit_shr (get_or ws (from / 64) 0) (from % 64) m) f (lt_of_le_of_lt (shr_le (get_or ws (from / 64) 0) (from % 64)) f) ne

  pub none_here : get_or ws (from / 64) 0 / 2 ^ (from % 64) ≡ 0 → Gap ws from ((from / 64 + 1) * 64)
  none_here z =
      none ws from from (from / 64) (from % 64) _ (omega arith) (omega arith) nothing
      (omega arith) (λ m. bit_shr (get_or ws (from / 64) 0) (from % 64) m) z

  -- in a later word
  module _ (j : ℕ) (le : from ≤ j * 64) (gap : Gap ws from (j * 64)) where
    pub found_in : get_or ws j 0 < 2 ^ 64 → (get_or ws j 0 ≡ 0 → ⊥) → First ws from (j * 64 + count_trailing_zeros 64 (get_or ws j 0))
    found_in f ne =
        found ws from (j * 64) j 0 (get_or ws j 0) (omega arith) le gap (omega arith) (λ m. ap (bit (get_or ws j 0)) (sym (zero-add m))) f f ne

    pub none_in : get_or ws j 0 ≡ 0 → Gap ws from ((j + 1) * 64)
    none_in z = none ws from (j * 64) j 0 (get_or ws j 0) (omega arith) le gap (omega arith) (λ m. ap (bit (get_or ws j 0)) (sym (zero-add m))) z

    pub none_after : length ws ≤ j → (k : ℕ) → from ≤ k → item ws k ≡ false
    none_after h k l = ⊎_elim (gap k l) (λ (q : j * 64 ≤ k). item_above ws k (omega arith)) (lt_or_ge k (j * 64))

-- ---- a walk from the lowest: s without q, one of its states

module _ (s r : List ℕ) (q : ℕ) (h : item s q ≡ true) (e : (k : ℕ) → item r k ≡ (item s k && not (eqb q k))) where
  pub out_in : (k : ℕ) → item r k ≡ true → item s k ≡ true
  out_in k g = and_left (item s k) (not (eqb q k)) (sym (e k) ∙ g)

  pub out_or : (k : ℕ) → item s k ≡ true → (k ≡ q) ⊎ (item r k ≡ true)
  out_or k g =
      ⊎_elim (λ (f : k ≡ q). inl f) (λ (f : k ≡ q → ⊥). inr (e k ∙ and_true g (ap not (ne_eqb q k (λ z. f (sym z)))))) (eq_or k q)

  pub out_gone : item r q ≡ true → ⊥
  out_gone g = let z : not (eqb q q) ≡ true = and_right (item s q) (not (eqb q q)) (sym (e q) ∙ g) in false≢true (sym (ap not (eq-eqb q q refl)) ∙ z)

  pub out_less : (n : ℕ) → q < n → count (item r) n < count (item s) n
  out_less n l =
      ⊎_elim (λ (m : count (item r) n < count (item s) n). m)
      (λ (m : count (item s) n ≤ count (item r) n). absurd (out_gone (count_same (item r) (item s) out_in n m q l ∙ h)))
      (lt_or_ge (count (item r) n) (count (item s) n))
