-- A set shifted by one over its words: the bit that leaves a word enters the next.
use mathlib.Core.Bool.{Bool, true, false, not, ◌&&◌, ◌||◌, false≢true}
use mathlib.Core.List.{List}
use mathlib.Core.Logic.{⊎_elim}
use mathlib.Core.Path.{◌≡◌, sym, ap, ◌∙◌, subst}
use Prim.Native.Nat.{ℕ, zero, suc, ◌+◌, ◌-◌, ◌*◌, ◌/◌, ◌%◌, ◌^◌, ◌≤◌, ◌<◌}
use native.Mathlib.Nat.{sub-zero}
use native.Mathlib.Omega.{arith}
use lib.Bits.{bit_and, bit_or, and_le_l, and_mask}
use lib.Dec.{eqb}
use lib.ListN.{length, get_or, get_or-eq_default}
use lib.Pow.{pow_pos}
use Rattle.items.proofs.NextLaws.{item_word}
use Rattle.items.specs.Item.{item_limit, set_size, item, Shifted}
use Rattle.sets.proofs.BitLaws.{bit_of_or, bit_of_and, bit_low, bit_suc, bit_zero, bit_above, bit_not, bit_shr}
use Rattle.sets.proofs.HasLaws.{lt_or_ge, or_cases, or_left, or_right}
use Rattle.sets.proofs.TestLaws.{and_true, and_both, and_one}
use Rattle.sets.specs.Bit.{bit}

-- the lower digits stay where the upper ones are cut off
pub bit_mod : (k s m : ℕ) → m < k → bit (s % 2 ^ k) m ≡ bit s m
bit_mod k s m h =
    let all : bit (2 ^ k - 1) m ≡ true = ap (λ (x : ℕ). bit x m) (sym (sub-zero (2 ^ k - 1))) ∙ bit_not k 0 m (pow_pos k) h ∙ ap not (bit_zero m) in
    ap (λ (x : ℕ). bit x m) (sym (and_mask s k)) ∙ bit_of_and s (2 ^ k - 1) m ∙ ap (λ (x : Bool). bit s m && x) all ∙ and_one (bit s m)

-- the machine's `v << 1`, at a width of k digits
pub shl_low : (k v : ℕ) → 0 < k → bit ((v * 2 ^ 1) % 2 ^ k) 0 ≡ false
shl_low k v h = bit_mod k (v * 2 ^ 1) 0 h ∙ bit_low (v * 2 ^ 1) ∙ ap (λ (x : ℕ). eqb x 1) (let z : v * 2 ^ 1 % 2 ≡ 0 = omega arith in z)

pub shl_suc : (k v m : ℕ) → suc m < k → bit ((v * 2 ^ 1) % 2 ^ k) (suc m) ≡ bit v m
shl_suc k v m h = bit_mod k (v * 2 ^ 1) (suc m) h ∙ bit_suc (v * 2 ^ 1) m ∙ ap (λ (x : ℕ). bit x m) (let z : v * 2 ^ 1 / 2 ≡ v = omega arith in z)

-- word j of what is in both, and the digit that it hands on to the next word
abbrev pub common : List ℕ → List ℕ → ℕ → ℕ
common a b j = bit_and (get_or a j 0) (get_or b j 0)

abbrev pub carried : List ℕ → List ℕ → ℕ → ℕ
carried a b zero = 0
carried a b (suc j) = common a b j / 2 ^ 63

-- the words below i are done, and `carry` goes into word i
pub record Shifting (a b t : List ℕ) (carry i : ℕ) : Type 0 where
  pub most : i ≤ set_size
  pub long : length t ≡ set_size
  pub done : (j : ℕ) → j < i → get_or t j 0 ≡ bit_or ((common a b j * 2 ^ 1) % 2 ^ 64) (carried a b j)
  pub next : carry ≡ carried a b i

module _ (a b t : List ℕ) (fits : (j : ℕ) → get_or a j 0 < 2 ^ 64) (carry : ℕ) (s : Shifting a b t carry set_size) where
  small : (j : ℕ) → common a b j < 2 ^ 64
  small j = let l : common a b j ≤ get_or a j 0 = and_le_l (get_or a j 0) (get_or b j 0) in omega (arith, fits j)

  -- an item of both, by its word and digit
  both : (j m : ℕ) → m < 64 → bit (common a b j) m ≡ true → (item a (j * 64 + m) ≡ true) × (item b (j * 64 + m) ≡ true)
  both j m h e =
      let t = and_both (bit (get_or a j 0) m) (bit (get_or b j 0) m) (sym (bit_of_and (get_or a j 0) (get_or b j 0) m) ∙ e) in
      (item_word a j m h ∙ t.0, item_word b j m h ∙ t.1)

  common_of : (j m : ℕ) → m < 64 → item a (j * 64 + m) ≡ true → item b (j * 64 + m) ≡ true → bit (common a b j) m ≡ true
  common_of j m h ha hb =
      bit_of_and (get_or a j 0) (get_or b j 0) m ∙ and_true (sym (item_word a j m h) ∙ ha) (sym (item_word b j m h) ∙ hb)

  -- a digit of a word of t
  digit : (j m : ℕ) → j < set_size → m < 64 → item t (j * 64 + m) ≡ (bit ((common a b j * 2 ^ 1) % 2 ^ 64) m || bit (carried a b j) m)
  digit j m hj hm = item_word t j m hm ∙ ap (λ (x : ℕ). bit x m) (s.done j hj) ∙ bit_of_or ((common a b j * 2 ^ 1) % 2 ^ 64) (carried a b j) m

  Before : ℕ → Type 0
  Before k = (i : ℕ) × (k ≡ i + 1) × (item a i ≡ true) × (item b i ≡ true)

  in_word : (j m : ℕ) → m < 64 → bit ((common a b j * 2 ^ 1) % 2 ^ 64) m ≡ true → Before (j * 64 + m)
  unfolding Before
  in_word j zero h e = absurd (false≢true (sym (shl_low 64 (common a b j) (omega arith)) ∙ e))
  in_word j (suc m) h e =
      let x = both j m (omega arith) (sym (shl_suc 64 (common a b j) m h) ∙ e) in (j * 64 + m, omega arith, x.0, x.1)

  in_carry : (j m : ℕ) → m < 64 → bit (carried a b j) m ≡ true → Before (j * 64 + m)
  unfolding Before
  in_carry zero m h e = absurd (false≢true (sym (bit_zero m) ∙ e))
  in_carry (suc j) zero h e =
      let x = both j 63 (omega arith) (sym (bit_shr (common a b j) 63 0) ∙ e) in (j * 64 + 63, omega arith, x.0, x.1)
  in_carry (suc j) (suc m) h e =
      absurd (false≢true (sym (bit_above 64 (common a b j) (63 + suc m) (small j) (omega arith)) ∙ sym (bit_shr (common a b j) 63 (suc m)) ∙ e))

  split : (k : ℕ) → k ≡ k / 64 * 64 + k % 64
  split k = omega arith

  from : (k : ℕ) → item t k ≡ true → Before k
  unfolding item
  from k e =
      ⊎_elim
      (λ (h : k / 64 < set_size).
      subst Before (sym (split k))
      (⊎_elim (in_word (k / 64) (k % 64) (omega arith)) (in_carry (k / 64) (k % 64) (omega arith))
      (or_cases _ _ (sym (digit (k / 64) (k % 64) h (omega arith)) ∙ ap (item t) (sym (split k)) ∙ e))))
      (λ (h : set_size ≤ k / 64).
      absurd (false≢true (sym (ap (λ (x : ℕ). bit x (k % 64)) (get_or-eq_default t 0 (omega (arith, s.long))) ∙ bit_zero (k % 64)) ∙ e)))
      (lt_or_ge (k / 64) set_size)

  at_next : (j m : ℕ) → j * 64 + m + 1 < item_limit → m < 64 → bit (common a b j) m ≡ true → item t (j * 64 + m + 1) ≡ true
  at_next j m l h e =
      ⊎_elim
      (λ (g : m < 63).
      let z : j * 64 + m + 1 ≡ j * 64 + suc m = omega arith in
      rw z (digit j (suc m) (omega arith) (omega arith) ∙ or_left (bit ((common a b j * 2 ^ 1) % 2 ^ 64) (suc m)) (bit (carried a b j) (suc m)) (shl_suc 64 (common a b j) m (omega arith) ∙ e)))
      (λ (g : 63 ≤ m).
      let y : m ≡ 63 = omega arith in
      let z : j * 64 + m + 1 ≡ suc j * 64 + 0 = omega arith in
      rw z (digit (suc j) 0 (omega arith) (omega arith) ∙ or_right (bit ((common a b (suc j) * 2 ^ 1) % 2 ^ 64) 0) (bit (carried a b (suc j)) 0) (bit_shr (common a b j) 63 0 ∙ rw y at e)))
      (lt_or_ge m 63)

  all : (i : ℕ) → i + 1 < item_limit → item a i ≡ true → item b i ≡ true → item t (i + 1) ≡ true
  all i h ha hb =
      let e = split i in
      ap (λ (x : ℕ). item t (x + 1)) e
      ∙ at_next (i / 64) (i % 64) (omega arith) (omega arith) (common_of (i / 64) (i % 64) (omega arith) (ap (item a) (sym e) ∙ ha) (ap (item b) (sym e) ∙ hb))

  pub shifted : Shifted a b t
  unfolding Before
  shifted = record { from = from; all = all }
