-- A part of an area read after a part was stored (`lib.Seq`'s `paste`), and a set compared with a part.
use mathlib.Core.Bool.{true, false, false≢true}
use mathlib.Core.List.{List, [], ◌∷◌, ◌++◌}
use mathlib.Core.Logic.{⊎_elim}
use mathlib.Core.Path.{◌≡◌, refl, sym, ap, ◌∙◌}
use Prim.Native.Nat.{ℕ, ◌+◌, ◌-◌, ◌^◌, ◌≤◌, ◌<◌}
use native.Mathlib.Omega.{arith}
use native.Mathlib.Numerals.{add-one}
use lib.ListN.{length, get_or, set, take, drop, length-drop, get_or-eq_default, get_or-append}
use lib.Pow.{pow_pos}
use lib.Seq.{length-take-le, take-suc, take-suc-set, get_or-append-add, get_or-take, get_or-drop, ext_get_or, paste, length_paste_head, length-paste}
use Rattle.items.proofs.ItemLaws.{Words, same_of}
use Rattle.items.specs.Item.{set_size, item, Same}
use Rattle.sets.proofs.HasLaws.{lt_or_ge}

module _ (d : List ℕ) (at : ℕ) (s : List ℕ) (n : ℕ) (hd : at + n ≤ length d) (hs : n ≤ length s) where
  head : length (take at d ++ take n s) ≡ at + n
  head = length_paste_head d at s n (omega arith) hs

  pub paste_low : (k : ℕ) → k < at → get_or (paste d at s n) k 0 ≡ get_or d k 0
  paste_low k l =
      let lt : length (take at d) ≡ at = length-take-le at d (omega arith) in
      get_or-append (take at d ++ take n s) (drop (at + n) d) 0 k (omega (arith, head))
      ∙ get_or-append (take at d) (take n s) 0 k (omega arith) ∙ get_or-take at d k 0 l

  pub paste_mid : (k : ℕ) → k < n → get_or (paste d at s n) (at + k) 0 ≡ get_or s k 0
  paste_mid k l =
      get_or-append (take at d ++ take n s) (drop (at + n) d) 0 (at + k) (omega (arith, head))
      ∙ ap (λ (x : ℕ). get_or (take at d ++ take n s) (x + k) 0) (sym (length-take-le at d (omega arith)))
      ∙ get_or-append-add (take at d) (take n s) k 0 ∙ get_or-take n s k 0 l

  pub paste_high : (k : ℕ) → at + n ≤ k → get_or (paste d at s n) k 0 ≡ get_or d k 0
  paste_high k l =
      let e : at + n + (k - (at + n)) ≡ k = omega arith in
      ap (λ (x : ℕ). get_or (paste d at s n) x 0) (sym e)
      ∙ ap (λ (x : ℕ). get_or (paste d at s n) (x + (k - (at + n))) 0) (sym head)
      ∙ get_or-append-add (take at d ++ take n s) (drop (at + n) d) (k - (at + n)) 0
      ∙ get_or-drop (at + n) d (k - (at + n)) 0 ∙ ap (λ (x : ℕ). get_or d x 0) e

-- a part is the same where its elements are
pub part_eq : (a n : ℕ) (e d : List ℕ) → a + n ≤ length e → a + n ≤ length d → ((k : ℕ) → k < n → get_or e (a + k) 0 ≡ get_or d (a + k) 0)
    → take n (drop a e) ≡ take n (drop a d)
part_eq a n e d he hd h =
    let le : length (take n (drop a e)) ≡ n = length-take-le n (drop a e) (omega (arith, length-drop a e)) in
    let ld : length (take n (drop a d)) ≡ n = length-take-le n (drop a d) (omega (arith, length-drop a d)) in
    ext_get_or 0 _ _ (le ∙ sym ld) (λ k l.
    let q : k < n = omega arith in
    get_or-take n (drop a e) k 0 q ∙ get_or-drop a e k 0 ∙ h k q ∙ sym (get_or-take n (drop a d) k 0 q ∙ get_or-drop a d k 0))

-- one word more of a part is read
pub part_more : (t d : List ℕ) (at i : ℕ) → i < length t → at + i < length d → take i t ≡ take i (drop at d) → take (i + 1) (set t i (get_or d (at + i) 0)) ≡ take (i + 1) (drop at d)
part_more t d at i ht hd e =
    rw (add-one, sym (get_or-drop at d i 0))
    (take-suc-set t i (get_or (drop at d) i 0) ht ∙ ap (λ (l : List ℕ). l ++ get_or (drop at d) i 0 ∷ []) e ∙ sym (take-suc (drop at d) i 0 (omega (arith, length-drop at d))))

-- the part that was stored
pub part_new : (d : List ℕ) (at : ℕ) (s : List ℕ) → at + length s ≤ length d → take (length s) (drop at (paste d at s (length s))) ≡ s
part_new d at s hd =
    let n = length s in
    let lp : length (paste d at s n) ≡ length d = length-paste d at s n hd (omega arith) in
    let le : length (take n (drop at (paste d at s n))) ≡ n = length-take-le n (drop at (paste d at s n)) (omega (arith, length-drop at (paste d at s n))) in
    ext_get_or 0 _ _ le (λ k l.
    let q : k < n = omega arith in
    get_or-take n (drop at (paste d at s n)) k 0 q ∙ get_or-drop at (paste d at s n) k 0 ∙ paste_mid d at s n hd (omega arith) k q)

-- ---- a set that stands in an area, word by word

pub part_at : (d : List ℕ) (at n k : ℕ) → k < n → get_or (take n (drop at d)) k 0 ≡ get_or d (at + k) 0
part_at d at n k h = get_or-take n (drop at d) k 0 h ∙ get_or-drop at d k 0

pub part_length : (d : List ℕ) (at n : ℕ) → at + n ≤ length d → length (take n (drop at d)) ≡ n
part_length d at n h = length-take-le n (drop at d) (omega (arith, length-drop at d))

module _ (d : List ℕ) (at : ℕ) (s : List ℕ) (room : at + set_size ≤ length d) (ls : length s ≡ set_size) where
  part_words : ((k : ℕ) → get_or d (at + k) 0 < 2 ^ 64) → Words (take set_size (drop at d))
  part_words f k =
      ⊎_elim (λ (h : k < set_size). rw (part_at d at set_size k h) (f k))
      (λ (h : set_size ≤ k). rw (get_or-eq_default (take set_size (drop at d)) 0 {n = k} (rw (part_length d at set_size room) h)) (pow_pos 64)) (lt_or_ge k set_size)

  pub not_same : ((k : ℕ) → get_or d (at + k) 0 < 2 ^ 64) → Words s → (k : ℕ) → k < set_size → (get_or d (at + k) 0 ≡ get_or s k 0 → ⊥) → Same (take set_size (drop at d)) s false
  not_same f g k h n =
      same_of (take set_size (drop at d)) s false (part_length d at set_size room) ls (part_words f) g
      (record { yes = λ e. absurd (false≢true e); so = λ e. absurd (n (sym (part_at d at set_size k h) ∙ ap (λ (l : List ℕ). get_or l k 0) e)) })

  pub is_same : ((k : ℕ) → k < set_size → get_or d (at + k) 0 ≡ get_or s k 0) → Same (take set_size (drop at d)) s true
  is_same h =
      let e : take set_size (drop at d) ≡ s = ext_get_or 0 _ _ (part_length d at set_size room ∙ sym ls) (λ k l. part_at d at set_size k (rw (part_length d at set_size room) at l) ∙ h k (rw (part_length d at set_size room) at l)) in
      record {
        words = record { yes = λ t. e; so = λ t. refl };
        items = record { yes = λ t k l. ap (λ (l : List ℕ). item l k) e; so = λ t. refl };
      }
