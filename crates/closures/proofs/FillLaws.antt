-- The symbols after the dots, item after item.
use mathlib.Core.List.{List}
use mathlib.Core.Logic.{⊎_elim}
use mathlib.Core.Path.{◌≡◌, sym, ap, ◌∙◌}
use Prim.Native.Nat.{ℕ, suc, ◌+◌, ◌-◌, ◌≤◌, ◌<◌}
use native.Mathlib.Omega.{arith}
use lib.ListN.{length, get_or, set, replicate, length-set, length-replicate, get_or-replicate}
use lib.Seq.{get_or-set_same, get_or-set_other, paste}
use Rattle.items.specs.Item.{item_limit}
use Rattle.items.proofs.AreaLaws.{paste_low, paste_mid, paste_high}
use Rattle.closures.proofs.NumberLaws.{Bounds, first_next, after_at, after_end, after_added, after_high}
use Rattle.closures.specs.Areas.{Filled, Kept}
use Rattle.closures.specs.Numbers.{first_of, after_of}
use Rattle.grammar.proofs.CardLaws.{WellFormed}
use Rattle.grammar.specs.Card.{terminals, productions, length_of, symbol_of, start_of}
use Rattle.sets.proofs.HasLaws.{lt_or_ge}

pub filled_more : (c w : List ℕ) (n v : ℕ) → Filled c w n → n < length w → v ≡ after_of c n → Filled c (set w n v) (n + 1)
filled_more c w n v f l e = record {
  filled = λ i h.
      ⊎_elim
      (λ (g : i < n). get_or-set_other w n i v 0 (λ (p : i ≡ n). omega arith) ∙ f.filled i g)
      (λ (g : n ≤ i). let p : n ≡ i = omega arith in rw (sym p) (get_or-set_same w n v 0 l ∙ e))
      (lt_or_ge i n);
}

-- one more symbol of production r
pub production_more : (c w : List ℕ) (r f s n i j k y v : ℕ) → f ≡ first_of c r → s ≡ start_of c r → n ≡ length_of c r → r < productions c → i < n
    → j ≡ i → k ≡ i → y ≡ symbol_of c (s + k) → v ≡ y → f + j < length w → Filled c w (f + i) → Filled c (set w (f + j) v) (f + (i + 1))
production_more c w r f s n i j k y v ef es en h l ej ek ey ev b a =
    let z : f + j + 1 ≡ f + (i + 1) = omega arith in
    let m : i < length_of c r = omega arith in
    rw z at (filled_more c w (f + j) v (rw ej a) b (ev ∙ ey ∙ rw (ek, es, ej, ef) (sym (after_at c r i h m))))

-- and the 0 behind them
pub production_end : (c w : List ℕ) (r f n i j : ℕ) → f ≡ first_of c r → n ≡ length_of c r → r < productions c → i ≡ n → j ≡ n → f + j < length w
    → Filled c w (f + i) → Filled c (set w (f + j) 0) (first_of c (suc r))
production_end c w r f n i j ef en h ei ej b a =
    let z : f + j + 1 ≡ first_of c (suc r) = omega (arith, first_next c r) in
    let y : f + j ≡ first_of c r + length_of c r = omega arith in
    let x : f + i ≡ f + j = omega arith in
    rw z at (filled_more c w (f + j) 0 (rw x at a) b (rw y (sym (after_end c r h))))

-- the added production's first item comes behind the last production
pub added_first : (c : List ℕ) (r p s f : ℕ) → WellFormed c → p ≡ productions c → r ≡ p → s ≡ start_of c r → f ≡ s + p → (f ≡ first_of c (productions c)) × (f ≤ 640)
unfolding first_of
added_first c r p s f h ep er es ef =
    let z : f ≡ start_of c (productions c) + productions c = rw (sym ep, sym er) (ef ∙ rw (es, er)) in
    (z, omega (arith, z, h.sum, h.limits.productions_to, h.limits.symbols_to_is))

pub filled_last : (c w : List ℕ) (r p s f v : ℕ) → WellFormed c → p ≡ productions c → r ≡ p → s ≡ start_of c r → f ≡ s + p → v ≡ terminals c → item_limit ≤ length w → Filled c w (first_of c r)
    → (first_of c (productions c) < f + 1) × (f + 1 ≤ item_limit) × (item_limit ≤ length (set w f v)) × Filled c (set w f v) (f + 1)
filled_last c w r p s f v h ep er es ef ev l a =
    let z = added_first c r p s f h ep er es ef in
    let z0 : f ≡ first_of c (productions c) = z.0 in
    let z1 : f ≤ 640 = z.1 in
    (omega arith, omega arith, simp length-set l, filled_more c w f v (rw (z0, sym ep, sym er) a) (omega arith) (ev ∙ rw z0 (sym (after_added c))))

-- the first item of the next production
pub first_after : (c : List ℕ) (r f l j : ℕ) → f ≡ first_of c r → l ≡ length_of c r → j ≡ l → f + (j + 1) ≡ first_of c (r + 1)
first_after c r f l j ef el ej =
    let z = first_next c r in
    let e : first_of c (r + 1) ≡ first_of c (suc r) = ap (first_of c) (let y : r + 1 ≡ suc r = omega arith in y) in
    omega arith

-- the symbol after the dot of a production's first item
pub first_filled : (c w : List ℕ) (r f : ℕ) → Bounds c r → Filled c w item_limit → f ≡ first_of c r → get_or w f 0 ≡ after_of c (first_of c r)
first_filled c w r f b p e = p.filled f (omega (arith, b.items_to)) ∙ ap (after_of c) e

-- and zeros behind the last item
pub filled_rest : (c w : List ℕ) (n m : ℕ) → first_of c (productions c) < n → n + m ≡ item_limit → item_limit ≤ length w → Filled c w n
    → Filled c (paste w n (replicate m 0) m) item_limit × Kept w item_limit (paste w n (replicate m 0) m)
filled_rest c w n m h e l p =
    let fit : n + m ≤ length w = omega arith in
    let z : m ≤ length (replicate {A = ℕ} m 0) = omega (arith, length-replicate {A = ℕ} m 0) in (
      record {
        filled = λ i g.
            ⊎_elim (λ (v : i < n). paste_low w n (replicate m 0) m fit z i v ∙ p.filled i v)
            (λ (v : n ≤ i).
            let k : n + (i - n) ≡ i = omega arith in
            ap (λ (x : ℕ). get_or (paste w n (replicate m 0) m) x 0) (sym k) ∙ paste_mid w n (replicate m 0) m fit z (i - n) (omega arith)
            ∙ get_or-replicate m (i - n) 0 0 (omega arith) ∙ sym (after_high c i (omega arith)))
            (lt_or_ge i n);
      },
      record { kept = λ k g. paste_high w n (replicate m 0) m fit z k (omega arith) },
    )
