-- A walk over the items of a set, and the closure by those of the nonterminals after the dots.
use mathlib.Core.Bool.{true, false, true≢false, false≢true}
use mathlib.Core.List.{List}
use mathlib.Core.Logic.{◌⊎◌, inl, inr, ⊎_elim}
use mathlib.Core.Path.{◌≡◌, sym, ap, ◌∙◌}
use Prim.Native.Nat.{ℕ, ◌+◌, ◌-◌, ◌*◌, ◌/◌, ◌%◌, ◌≤◌, ◌<◌}
use native.Mathlib.Nat.{not-suc-le-zero}
use native.Mathlib.Omega.{arith}
use lib.ListN.{drop, length-take, get_or-eq_default}
use Rattle.closures.proofs.MaskLaws.{mask_after, after_mask}
use Rattle.closures.proofs.NumberLaws.{after_low}
use Rattle.closures.specs.Areas.{closures_at, masks_at, slot, Closures, Masks}
use Rattle.closures.specs.Numbers.{first_of, after_of}
use Rattle.closures.specs.Sets.{Reach, base, Closed, Advanced}
use Rattle.grammar.proofs.CardLaws.{WellFormed}
use Rattle.grammar.specs.Card.{terminals, nonterminals, productions, left_of}
use Rattle.items.specs.Item.{set_size, item_limit, item, Union, Shifted}
use Rattle.sets.proofs.BitLaws.{bit_zero}
use Rattle.sets.proofs.HasLaws.{lt_or_ge, or_cases, or_left, or_right}
use Rattle.sets.specs.Bit.{bit}

-- r is s, and what the items of s below n bring
pub record Closing (c z s : List ℕ) (n : ℕ) (r : List ℕ) : Type 0 where
  pub kept : (k : ℕ) → item s k ≡ true → item r k ≡ true
  pub all : (i j k : ℕ) → i < n → item s i ≡ true → after_of c i ≡ terminals c + j → item (slot z (closures_at + j)) k ≡ true → item r k ≡ true
  pub from : (k : ℕ) → item r k ≡ true → Reach c s k
  pub shut : (i : ℕ) → item r i ≡ true → (item s i ≡ true) ⊎ ((q : ℕ) → q < productions c → left_of c q ≡ after_of c i → item r (first_of c q) ≡ true)

module _ (c z s : List ℕ) where
  pub closing_start : Closing c z s 0 s
  closing_start = record { kept = λ k h. h; all = λ i j k l. absurd (not-suc-le-zero l); from = base; shut = λ i h. inl h }

  -- no item stands between n and r
  pub closing_next : (n r : ℕ) (t : List ℕ) → Closing c z s n t → ((k : ℕ) → n ≤ k → k < r → item s k ≡ false) → Closing c z s r t
  closing_next n r t p q = record {
    kept = p.kept;
    all = λ i j k l e. ⊎_elim (λ (g : i < n). p.all i j k g e) (λ (g : n ≤ i). absurd (true≢false (sym e ∙ q i g l))) (lt_or_ge i n);
    from = p.from;
    shut = p.shut;
  }

  -- item i stands before a terminal, or nothing
  pub closing_skip : (i x m : ℕ) (t : List ℕ) → Closing c z s i t → x ≡ after_of c i → m ≡ terminals c → x < m → Closing c z s (i + 1) t
  closing_skip i x m t p ex em l = record {
    kept = p.kept;
    all = λ h j k b e f.
        ⊎_elim (λ (g : h < i). p.all h j k g e f)
        (λ (g : i ≤ h).
        let y : after_of c i ≡ terminals c + j = ap (after_of c) (let v : i ≡ h = omega arith in v) ∙ f in
        absurd (let w : ⊥ = omega arith in w)) (lt_or_ge h i);
    from = p.from;
    shut = p.shut;
  }

  -- item i stands before a nonterminal, whose closure is joined
  pub closing_take : (i x m : ℕ) (t row u : List ℕ) → Closures c z (nonterminals c) → Closing c z s i t → item s i ≡ true → x ≡ after_of c i → m ≡ terminals c → m ≤ x → x - m < nonterminals c
      → row ≡ slot z (closures_at + (x - m)) → Union t row u → Closing c z s (i + 1) u
  closing_take i x m t row u rs p h ex em l bn er j =
      let ax : after_of c i ≡ terminals c + (x - m) = omega arith in
      record {
        kept = λ k e. j.items k ∙ or_left (item t k) (item row k) (p.kept k e);
        all = λ g y k b e f a.
            ⊎_elim (λ (v : g < i). j.items k ∙ or_left (item t k) (item row k) (p.all g y k v e f a))
            (λ (v : i ≤ g).
            let q : after_of c i ≡ terminals c + y = ap (after_of c) (let w : i ≡ g = omega arith in w) ∙ f in
            let w : y ≡ x - m = omega arith in
            j.items k ∙ or_right (item t k) (item row k) (rw (er, sym w) a)) (lt_or_ge g i);
        from = λ k e.
            ⊎_elim (p.from k) (λ g. rs.from (x - m) k bn (rw er at g) s i h ax) (or_cases (item t k) (item row k) (sym (j.items k) ∙ e));
        shut = λ g e.
            ⊎_elim
            (λ v. ⊎_elim inl (λ w. inr (λ q a f. j.items (first_of c q) ∙ or_left (item t (first_of c q)) _ (w q a f))) (p.shut g v))
            (λ v. inr (λ q a f. j.items (first_of c q) ∙ or_right (item t (first_of c q)) _ (rw er (rs.all (x - m) g q bn (rw er at v) a f))))
            (or_cases (item t g) (item row g) (sym (j.items g) ∙ e));
      }

  pub closing_end : (i : ℕ) (t : List ℕ) → WellFormed c → Closures c z (nonterminals c) → Closing c z s i t → item_limit ≤ i → Closed c s t
  closing_end i t h rs p l = record {
    kept = p.kept;
    all = λ g q b e a f.
        ⊎_elim
        (λ v.
        let y = h.lefts q a in
        let y0 : terminals c ≤ left_of c q = y.0 in
        let y1 : left_of c q < terminals c + nonterminals c = y.1 in
        let n : left_of c q ≡ terminals c + (left_of c q - terminals c) = omega arith in
        p.all g (left_of c q - terminals c) (first_of c q) (omega arith) v (sym f ∙ n) (rs.starts (left_of c q - terminals c) q (omega arith) a n))
        (λ w. w q a f)
        (p.shut g e);
    from = p.from;
  }

-- ---- advancing by the mask of the symbol

-- a set of 11 words has no item from 704 on
pub slot_low : (z : List ℕ) (q i : ℕ) → item (slot z q) i ≡ true → i < item_limit
unfolding item
slot_low z q i e =
    ⊎_elim (λ (g : i < item_limit). g)
    (λ (g : item_limit ≤ i).
    absurd (false≢true (sym (ap (λ (v : ℕ). bit v (i % 64)) (get_or-eq_default (slot z q) 0 {n = i / 64} (omega (arith, length-take set_size (drop (q * set_size) z)))) ∙ bit_zero (i % 64)) ∙ e)))
    (lt_or_ge i item_limit)

module _ (c z s : List ℕ) (x : ℕ) (f : WellFormed c) (m : Masks c z item_limit) (px : 0 < x) (h : x < terminals c + nonterminals c) where
  pub advances : (k r : List ℕ) → k ≡ slot z (masks_at + x) → Shifted s k r → Advanced c s x r
  advances k r ek d = record {
    from = λ n e.
        let t = d.from n e in
        let g : item (slot z (masks_at + x)) t.0 ≡ true = rw ek at t.3 in
        (t.0, t.2, mask_after c z x t.0 m h (slot_low z (masks_at + x) t.0 g) g, t.1);
    all = λ i l e a. d.all i l e (rw ek (after_mask c z x i m h (omega arith) a));
  }

  -- something is advanced where an item stands before x
  pub some_advanced : (k r : List ℕ) → k ≡ slot z (masks_at + x) → Shifted s k r → (i : ℕ) × (i < item_limit) × (item s i ≡ true) × (after_of c i ≡ x) → (i : ℕ) × (i < item_limit) × (item r i ≡ true)
  some_advanced k r ek d t =
      let l : t.0 ≤ 640 = after_low c f t.0 (λ b. omega (arith, t.3)) in
      (t.0 + 1, omega arith, d.all t.0 (omega arith) t.2 (rw ek (after_mask c z x t.0 m h t.1 t.3)))
