-- The numbers of the items of a card without a fault: production and dot, one to one, and the symbol after the dot.
use mathlib.Core.Bool.{Bool, true, false}
use mathlib.Core.List.{List}
use mathlib.Core.Logic.{⊎_elim}
use mathlib.Core.Path.{◌≡◌, refl, ap, ◌∙◌}
use Prim.Native.Nat.{ℕ, zero, suc, ◌+◌, ◌-◌, ◌≤◌, ◌<◌}
use native.Mathlib.Nat.{le_of_suc-le-suc, not-suc-le-zero, le_refl, eq-or-lt_of_le}
use native.Mathlib.Omega.{arith}
use lib.Dec.{eqb, ltb}
use borrow.Author.Tests.{ltb-true, lt-ltb, le-ltb, eq-eqb, ne_eqb}
use Rattle.closures.specs.Numbers.{first_of, after_in, after_of}
use Rattle.grammar.proofs.CardLaws.{WellFormed, start_mono}
use Rattle.grammar.specs.Card.{terminals, nonterminals, productions, left_of, length_of, symbol_of, start_of}
use Rattle.sets.proofs.HasLaws.{lt_or_ge}

module _ (c : List ℕ) where
  pub first_next : (r : ℕ) → first_of c (suc r) ≡ first_of c r + length_of c r + 1
  unfolding first_of start_of
  first_next r = omega arith

  pub first_mono : (n r : ℕ) → r < n → first_of c r + length_of c r + 1 ≤ first_of c n
  unfolding first_of
  first_mono n r h = let s = start_mono c n r h in omega arith

  pub first_most : WellFormed c → first_of c (productions c) ≤ 640
  unfolding first_of
  first_most f = omega (arith, f.sum, f.limits.productions_to, f.limits.symbols_to_is)

  pub first_below : WellFormed c → (r : ℕ) → r < productions c → first_of c r < 640
  first_below f r h = omega (arith, first_mono (productions c) r h, first_most f)

  -- the symbol after the dot
  in_at : (n r d : ℕ) → r < n → d < length_of c r → after_in c n (first_of c r + d) ≡ symbol_of c (start_of c r + d)
  unfolding after_in
  in_at zero r d h l = absurd (not-suc-le-zero h)
  in_at (suc n) r d h l =
      ⊎_elim
      (λ (e : r ≡ n).
      let z : first_of c n + d - first_of c n ≡ d = omega arith in
      rw e (rw (le-ltb (first_of c n + d) (first_of c n) (omega arith), z, lt-ltb d (length_of c n) (rw e at l))))
      (λ (g : r < n). rw (lt-ltb (first_of c r + d) (first_of c n) (let m = first_mono n r g in omega arith)) (in_at n r d g l))
      (eq-or-lt_of_le (le_of_suc-le-suc h))

  in_end : (n r : ℕ) → r < n → after_in c n (first_of c r + length_of c r) ≡ 0
  unfolding after_in
  in_end zero r h = absurd (not-suc-le-zero h)
  in_end (suc n) r h =
      ⊎_elim
      (λ (e : r ≡ n).
      let z : first_of c n + length_of c n - first_of c n ≡ length_of c n = omega arith in
      rw e (rw (le-ltb (first_of c n + length_of c n) (first_of c n) (omega arith), z, le-ltb (length_of c n) (length_of c n) (omega arith))))
      (λ (g : r < n). rw (lt-ltb (first_of c r + length_of c r) (first_of c n) (let m = first_mono n r g in omega arith)) (in_end n r g))
      (eq-or-lt_of_le (le_of_suc-le-suc h))

  pub after_at : (r d : ℕ) → r < productions c → d < length_of c r → after_of c (first_of c r + d) ≡ symbol_of c (start_of c r + d)
  unfolding after_of
  after_at r d h l =
      rw (lt-ltb (first_of c r + d) (first_of c (productions c)) (let m = first_mono (productions c) r h in omega arith)) (in_at (productions c) r d h l)

  pub after_end : (r : ℕ) → r < productions c → after_of c (first_of c r + length_of c r) ≡ 0
  unfolding after_of
  after_end r h =
      rw (lt-ltb (first_of c r + length_of c r) (first_of c (productions c)) (let m = first_mono (productions c) r h in omega arith)) (in_end (productions c) r h)

  pub after_added : after_of c (first_of c (productions c)) ≡ terminals c
  unfolding after_of
  after_added = rw (le-ltb (first_of c (productions c)) (first_of c (productions c)) (omega arith), eq-eqb (first_of c (productions c)) (first_of c (productions c)) refl)

  pub after_high : (i : ℕ) → first_of c (productions c) < i → after_of c i ≡ 0
  unfolding after_of
  after_high i h = rw (le-ltb i (first_of c (productions c)) (omega arith), ne_eqb i (first_of c (productions c)) (λ e. omega arith))

  module _ (f : WellFormed c) where
    zero_most : 0 < terminals c + nonterminals c
    zero_most = omega (arith, f.limits.terminals_from)

    in_most : (n i : ℕ) → n ≤ productions c → after_in c n i < terminals c + nonterminals c
    unfolding after_in
    in_most zero i h = zero_most
    in_most (suc n) i h = go (ltb i (first_of c n)) refl (ltb (i - first_of c n) (length_of c n)) refl (in_most n i (omega arith))
      where
        go : (a : Bool) → ltb i (first_of c n) ≡ a → (b : Bool) → ltb (i - first_of c n) (length_of c n) ≡ b → after_in c n i < terminals c + nonterminals c
            → after_in c (suc n) i < terminals c + nonterminals c
        go true e b g t = rw e t
        go false e true g t =
            rw (e, g) (f.rights (start_of c n + (i - first_of c n)) (omega (arith, ltb-true (i - first_of c n) (length_of c n) g, start_mono c (productions c) n h, f.sum))).1
        go false e false g t = rw (e, g) zero_most

    pub after_most : (i : ℕ) → after_of c i < terminals c + nonterminals c
    unfolding after_of
    after_most i = go (ltb i (first_of c (productions c))) refl (eqb i (first_of c (productions c))) refl
      where
        go : (a : Bool) → ltb i (first_of c (productions c)) ≡ a → (b : Bool) → eqb i (first_of c (productions c)) ≡ b → after_of c i < terminals c + nonterminals c
        go true e b g = rw e (in_most (productions c) i (le_refl (productions c)))
        go false e true g = rw (e, g) (omega (arith, f.limits.nonterminals_from))
        go false e false g = rw (e, g) zero_most

    -- an item before a symbol is none of the last numbers
    pub after_low : (i : ℕ) → (after_of c i ≡ 0 → ⊥) → i ≤ 640
    after_low i n =
        ⊎_elim (λ (h : i < 641). omega arith) (λ (h : 641 ≤ i). absurd (n (after_high i (omega (arith, first_most f))))) (lt_or_ge i 641)

  -- an item behind one that stands before a symbol is no first item
  pub no_first : (i q : ℕ) → q ≤ productions c → (after_of c i ≡ 0 → ⊥) → i + 1 ≡ first_of c q → ⊥
  unfolding first_of start_of
  no_first i zero h n e = omega arith
  no_first i (suc q) h n e = n (ap (after_of c) (let z : i ≡ first_of c q + length_of c q = let y = first_next q in omega arith in z) ∙ after_end q h)

-- the bounds of a production
pub record Bounds (c : List ℕ) (r : ℕ) : Type 0 where
  pub items_to : first_of c r + length_of c r + 1 ≤ 640
  pub symbols_to_is : start_of c r + length_of c r ≤ 512
  pub left_from : terminals c ≤ left_of c r
  pub left_to : left_of c r < terminals c + nonterminals c
  pub after_to : after_of c (first_of c r) < terminals c + nonterminals c
  pub terminals_to : terminals c ≤ 64
  pub nonterminals_to : nonterminals c ≤ 60

pub bounds : (c : List ℕ) → WellFormed c → (r : ℕ) → r < productions c → Bounds c r
bounds c f r h = record {
  items_to = omega (arith, first_mono c (productions c) r h, first_most c f);
  symbols_to_is = omega (arith, start_mono c (productions c) r h, f.sum, f.limits.symbols_to_is);
  left_from = (f.lefts r h).0;
  left_to = (f.lefts r h).1;
  after_to = after_most c f (first_of c r);
  terminals_to = f.limits.terminals_to;
  nonterminals_to = f.limits.nonterminals_to;
}

-- item i is production r with its dot behind d symbols
pub record Numbered (c : List ℕ) (n i : ℕ) : Type 0 where
  pub production : ℕ
  pub dot : ℕ
  pub low : production < n
  pub most : dot ≤ length_of c production
  pub is : i ≡ first_of c production + dot

pub decode : (c : List ℕ) (n i : ℕ) → i < first_of c n → Numbered c n i
unfolding first_of start_of
decode c zero i h = absurd (not-suc-le-zero h)
decode c (suc n) i h =
    ⊎_elim
    (λ (v : i < first_of c n).
    let t = decode c n i v in record { production = t.production; dot = t.dot; low = (let z = t.low in omega arith); most = t.most; is = t.is })
    (λ (v : first_of c n ≤ i). record { production = n; dot = i - first_of c n; low = omega arith; most = (let z = first_next c n in omega arith); is = omega arith })
    (lt_or_ge i (first_of c n))

pub same_item : (c : List ℕ) (r d q e : ℕ) → d ≤ length_of c r → e ≤ length_of c q → first_of c r + d ≡ first_of c q + e → (r ≡ q) × (d ≡ e)
same_item c r d q e hd he s =
    ⊎_elim
    (λ (v : r < q). absurd (let m = first_mono c q r v in let z : ⊥ = omega arith in z))
    (λ (v : q ≤ r).
    ⊎_elim
    (λ (w : q < r). absurd (let m = first_mono c r q w in let z : ⊥ = omega arith in z))
    (λ (w : r ≤ q). let z : r ≡ q = omega arith in (z, (let y : first_of c r ≡ first_of c q = ap (first_of c) z in omega arith)))
    (lt_or_ge q r))
    (lt_or_ge r q)
