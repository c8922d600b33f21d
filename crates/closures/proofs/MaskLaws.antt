-- The items that stand before each symbol, item after item.
use mathlib.Core.Bool.{Bool, true, false, ◌&&◌, ◌||◌}
use mathlib.Core.List.{List}
use mathlib.Core.Logic.{⊎_elim}
use mathlib.Core.Path.{◌≡◌, refl, sym, ap, ◌∙◌}
use Prim.Native.Nat.{ℕ, ◌+◌, ◌*◌, ◌/◌, ◌%◌, ◌^◌, ◌≤◌, ◌<◌}
use native.Mathlib.Nat.{not-suc-le-zero}
use native.Mathlib.Omega.{arith}
use lib.Dec.{eqb, ltb}
use lib.Bits.{bit_or}
use lib.ListN.{length, get_or, set, drop, length-drop, length-set}
use lib.Seq.{length-take-le, get_or-take, get_or-drop}
use borrow.Author.Tests.{eqb-true, lt-ltb, le-ltb, eq-eqb, ne_eqb}
use Rattle.closures.proofs.AreaLaws.{kept_same, kept_then, word_added}
use Rattle.closures.specs.Areas.{closures_at, masks_at, slots_end, slot, Kept, Closures, Masks, Masked, Added}
use Rattle.closures.specs.Numbers.{after_of}
use Rattle.grammar.specs.Card.{terminals, nonterminals}
use Rattle.items.specs.Item.{set_size, item_limit, item, Put, Empty}
use Rattle.sets.proofs.HasLaws.{lt_or_ge, ltb_more}
use Rattle.sets.proofs.TestLaws.{and_true, and_right}
use Rattle.sets.proofs.WordLaws.{put_of}
use Rattle.areas.specs.Areas.{words_size}

-- the slots of the symbols below x are empty
pub record Clearing (z₀ z : List ℕ) (x : ℕ) : Type 0 where
  pub clear : (y k : ℕ) → y < x → item (slot z (masks_at + y)) k ≡ false
  pub low : (q : ℕ) → q < masks_at → slot z q ≡ slot z₀ q
  pub behind : Kept z₀ slots_end z
  pub wide : length z ≡ length z₀

pub clearing_start : (z : List ℕ) → Clearing z z 0
clearing_start z = record { clear = λ y k h. absurd (not-suc-le-zero h); low = λ q h. refl; behind = kept_same z slots_end; wide = refl }

pub clearing_more : (z₀ z y s : List ℕ) (x : ℕ) → Clearing z₀ z x → x < 124 → Empty s → Added z (masks_at + x) s y → length y ≡ length z → Clearing z₀ y (x + 1)
clearing_more z₀ z y s x p h e ad l = record {
  clear = λ v k b.
      ⊎_elim (λ (g : v < x). rw (ad.low (masks_at + v) (omega arith)) (p.clear v k g))
      (λ (g : x ≤ v). let u : v ≡ x = omega arith in rw (u, ad.new) (e.items k)) (lt_or_ge v x);
  low = λ q b. ad.low q (omega arith) ∙ p.low q b;
  behind = kept_then p.behind ad.behind (omega arith);
  wide = l ∙ p.wide;
}

pub cleared : (c z₀ z : List ℕ) (x : ℕ) → Clearing z₀ z x → terminals c + nonterminals c ≤ x → Masked c z₀ z 0
cleared c z₀ z x p h = record {
  masks = λ y i b l. p.clear y i (omega arith) ∙ sym (ap (λ (u : Bool). u && eqb (after_of c i) y) (le-ltb i 0 (omega arith)));
  low = p.low;
  behind = p.behind;
  wide = p.wide;
}

pub masked_more : (c z₀ z y m u : List ℕ) (i x : ℕ) → Masked c z₀ z i → words_size ≤ length z → terminals c + nonterminals c ≤ 124 → i < item_limit → x ≡ after_of c i → x < terminals c + nonterminals c → m ≡ slot z (masks_at + x) → Put m i u → Added z (masks_at + x) u y
    → length y ≡ length z → Masked c z₀ y (i + 1)
masked_more c z₀ z y m u i x p room w h ex hx em pu ad l = record {
  masks = λ v k b g.
      ⊎_elim
      (λ (a : v < x). rw (ad.low (masks_at + v) (omega arith)) (p.masks v k b g ∙ other v k (λ e. omega arith)))
      (λ (a : x ≤ v).
      ⊎_elim
      (λ (t : x < v). rw (ad.high (masks_at + v) (omega arith) (omega arith)) (p.masks v k b g ∙ other v k (λ e. omega arith)))
      (λ (t : v ≤ x). let e : v ≡ x = omega arith in rw (e, ad.new) (pu.items k ∙ ap (λ (s : List ℕ). item s k || eqb i k) em ∙ ap (λ (t : Bool). t || eqb i k) (p.masks x k hx g) ∙ own k))
      (lt_or_ge x v))
      (lt_or_ge v x);
  low = λ q b. ad.low q (omega arith) ∙ p.low q b;
  behind = kept_then p.behind ad.behind (omega arith);
  wide = l ∙ p.wide;
}
  where
    or_and : (a b d : Bool) → (b ≡ true → d ≡ true) → ((a && d) || b) ≡ ((a || b) && d)
    or_and true true d n = rw (n refl)
    or_and true false true n = refl
    or_and true false false n = refl
    or_and false true d n = rw (n refl)
    or_and false false d n = refl

    not_here : (a b d : Bool) → (b ≡ true → d ≡ false) → (a && d) ≡ ((a || b) && d)
    not_here true b d n = refl
    not_here false true d n = rw (n refl)
    not_here false false d n = refl

    -- the item itself, at its own symbol
    own : (k : ℕ) → ((ltb k i && eqb (after_of c k) x) || eqb i k) ≡ (ltb k (i + 1) && eqb (after_of c k) x)
    own k =
        or_and (ltb k i) (eqb i k) (eqb (after_of c k) x) (λ e. eq-eqb (after_of c k) x (ap (after_of c) (sym (eqb-true i k e)) ∙ sym ex))
        ∙ ap (λ (t : Bool). t && eqb (after_of c k) x) (sym (ltb_more k i))

    -- and at any other
    other : (v k : ℕ) → (x ≡ v → ⊥) → (ltb k i && eqb (after_of c k) v) ≡ (ltb k (i + 1) && eqb (after_of c k) v)
    other v k n =
        not_here (ltb k i) (eqb i k) (eqb (after_of c k) v) (λ e. ne_eqb (after_of c k) v (λ f. n (ex ∙ ap (after_of c) (eqb-true i k e) ∙ f)))
        ∙ ap (λ (t : Bool). t && eqb (after_of c k) v) (sym (ltb_more k i))

-- as the machine sets the item's bit
pub marked_more : (c z₀ z : List ℕ) (i x : ℕ) → Masked c z₀ z i → words_size ≤ length z → terminals c + nonterminals c ≤ 124 → i < item_limit → x ≡ after_of c i → x < terminals c + nonterminals c
    → Masked c z₀ (set z ((masks_at + x) * set_size + i / 64) (bit_or (get_or z ((masks_at + x) * set_size + i / 64) 0) ((1 * 2 ^ (i % 64)) % 2 ^ 64))) (i + 1)
marked_more c z₀ z i x p room w h ex hx =
    let m = slot z (masks_at + x) in
    let at = (masks_at + x) * set_size in
    let bits = (1 * 2 ^ (i % 64)) % 2 ^ 64 in
    let k : i / 64 < set_size = omega arith in
    let fit : at + set_size ≤ length z = omega arith in
    let lm : length m ≡ set_size = length-take-le set_size (drop at z) (omega (arith, length-drop at z)) in
    let word : get_or m (i / 64) 0 ≡ get_or z (at + i / 64) 0 = get_or-take set_size (drop at z) (i / 64) 0 k ∙ get_or-drop at z (i / 64) 0 in
    let pu : Put m i (set m (i / 64) (bit_or (get_or z (at + i / 64) 0) bits)) =
    rw word at (put_of m i (omega (arith, lm))) in
    masked_more c z₀ z _ m _ i x p room w h ex hx refl pu (word_added z (masks_at + x) (i / 64) _ k fit) (length-set z (at + i / 64) _)

-- the closures stay while the masks are made
pub prepared_closures : (c z₀ z₁ z₂ : List ℕ) → nonterminals c ≤ 60 → Closures c z₀ (nonterminals c) → Masked c z₀ z₁ 0 → Masked c z₁ z₂ item_limit → Closures c z₂ (nonterminals c)
prepared_closures c z₀ z₁ z₂ b p m n = record {
  starts = λ j q g. rw (same j g) (p.starts j q g);
  all = λ j i q g. rw (same j g) (p.all j i q g);
  from = λ j k g. rw (same j g) (p.from j k g);
}
  where
    same : (j : ℕ) → j < nonterminals c → slot z₂ (closures_at + j) ≡ slot z₀ (closures_at + j)
    same j g = n.low (closures_at + j) (omega arith) ∙ m.low (closures_at + j) (omega arith)

-- a masked item is one that stands before the symbol
pub mask_after : (c z : List ℕ) (x i : ℕ) → Masks c z item_limit → x < terminals c + nonterminals c → i < item_limit → item (slot z (masks_at + x)) i ≡ true → after_of c i ≡ x
mask_after c z x i m h l e = eqb-true (after_of c i) x (and_right (ltb i item_limit) (eqb (after_of c i) x) (sym (m x i h l) ∙ e))

pub after_mask : (c z : List ℕ) (x i : ℕ) → Masks c z item_limit → x < terminals c + nonterminals c → i < item_limit → after_of c i ≡ x → item (slot z (masks_at + x)) i ≡ true
after_mask c z x i m h l e = m x i h l ∙ and_true (lt-ltb i item_limit l) (eq-eqb (after_of c i) x e)
