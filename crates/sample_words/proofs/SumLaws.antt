-- Sums of right sides: what a symbol counts, and the least sum as it is found symbol by symbol.
use mathlib.Core.Path.{◌≡◌, refl, sym, ap, ◌∙◌}
use mathlib.Core.Bool.{Bool, true, false, false≢true}
use mathlib.Core.List.{List, [], ◌∷◌, ◌++◌}
use Prim.Native.Nat.{ℕ, zero, suc, ◌+◌, ◌-◌, ◌*◌, ◌≤◌, ◌<◌, min, zero-le}
use native.Mathlib.Omega.{arith}
use native.Mathlib.Numerals.{add-one}
use lib.Dec.{eqb}
use lib.ListN.{get_or}
use borrow.Author.Tests.{lt-ltb, le-ltb, eq-eqb, ne_eqb}
use Rattle.sets.specs.Lists.{each}
use Rattle.grammar.specs.Card.{terminals, productions, length_of}
use Rattle.grammar.proofs.CardLaws.{right_is}
use Rattle.sample_words.specs.Words.{key_of, count_of, plain_sum, used_sum, symbol_at, placed_sum, Best}

pub key_plain : (j : ℕ) → key_of false j ≡ j
unfolding key_of
key_plain j = refl

pub key_used : (j : ℕ) → key_of true j ≡ 60 + j
unfolding key_of
key_used j = refl

pub key_below : (u : Bool) {j : ℕ} → j < 60 → key_of u j < 120
key_below true {j} h = omega (arith, key_used j)
key_below false {j} h = omega (arith, key_plain j)

-- no two places are the same
pub key_apart : (u v : Bool) {i j : ℕ} → i < 60 → j < 60 → key_of u i ≡ key_of v j → (u ≡ v) × (i ≡ j)
key_apart true true {i} {j} h k e = (refl, omega (arith, key_used i, key_used j))
key_apart false false {i} {j} h k e = (refl, omega (arith, key_plain i, key_plain j))
key_apart true false {i} {j} h k e = absurd (omega (arith, key_used i, key_plain j))
key_apart false true {i} {j} h k e = absurd (omega (arith, key_plain i, key_used j))

module _ (c e : List ℕ) where
  pub count_plain : (x : ℕ) → x < terminals c → count_of c e false x ≡ 1
  unfolding count_of
  count_plain x h = rw (lt-ltb x (terminals c) h)

  pub count_used : (x : ℕ) → x < terminals c → count_of c e true x ≡ 256
  unfolding count_of
  count_used x h = rw (lt-ltb x (terminals c) h)

  pub count_nonterminal : (u : Bool) (x : ℕ) → terminals c ≤ x → count_of c e u x ≡ get_or e (key_of u (x - terminals c)) 0
  unfolding count_of
  count_nonterminal u x h = rw (le-ltb x (terminals c) h)

  plain_last : (l : List ℕ) (x : ℕ) → plain_sum c e (l ++ x ∷ []) ≡ plain_sum c e l + count_of c e false x
  unfolding plain_sum
  plain_last [] x = omega arith
  plain_last (y ∷ l) x = let h = plain_last l x in omega arith

  used_last : (l : List ℕ) (x : ℕ) → used_sum c e (l ++ x ∷ []) ≡ min (used_sum c e l + count_of c e false x) (plain_sum c e l + count_of c e true x)
  unfolding plain_sum used_sum
  used_last [] x = omega arith
  used_last (y ∷ l) x = let h = used_last l x in let k = plain_last l x in omega arith

  module _ (r : ℕ) where
    -- the first d symbols of r
    abbrev part : ℕ → List ℕ
    part d = each d (λ i. symbol_at c r i ∷ [])

    -- with a place behind them no symbol uses the production
    placed_none : (p d : ℕ) → d ≤ p → placed_sum c e r p d ≡ plain_sum c e (part d)
    unfolding placed_sum plain_sum
    placed_none p zero h = refl
    placed_none p (suc d) h =
        let i = placed_none p d (omega arith) in
        let b : count_of c e (eqb d p) (symbol_at c r d) ≡ count_of c e false (symbol_at c r d) = ap (λ (u : Bool). count_of c e u (symbol_at c r d)) (ne_eqb d p (λ q. omega arith)) in
        omega (arith, plain_last (part d) (symbol_at c r d))

    placed_grows : (p d : ℕ) → placed_sum c e r p (suc d) ≡ placed_sum c e r p d + count_of c e (eqb d p) (symbol_at c r d)
    unfolding placed_sum
    placed_grows p d = refl

    -- after d symbols
    pub record Going (d plain used place : ℕ) : Type 0 where
      pub plain_is : plain ≡ plain_sum c e (part d)
      pub used_is : used ≡ used_sum c e (part d)
      pub placed : used ≤ 255 → (placed_sum c e r place d ≡ used) × (place < d)
      pub plain_most : plain ≤ 256 * d
      pub used_most : used ≤ 256 * d + 256

    pub going_none : (n : ℕ) → Going 0 0 256 n
    unfolding plain_sum used_sum
    going_none n = record { plain_is = refl; used_is = refl; placed = λ h. absurd (omega arith); plain_most = zero-le; used_most = omega arith }

    module _ {d plain used place : ℕ} (g : Going d plain used place) (t m : ℕ) (ti : t ≡ count_of c e true (symbol_at c r d)) (mi : m ≡ count_of c e false (symbol_at c r d)) (mm : m ≤ 256) where
      plain_more : plain + m ≡ plain_sum c e (part (d + 1))
      plain_more = rw add-one (omega (arith, g.plain_is, plain_last (part d) (symbol_at c r d)))

      used_more : used_sum c e (part (d + 1)) ≡ min (used + m) (plain + t)
      used_more = rw add-one (omega (arith, g.plain_is, g.used_is, used_last (part d) (symbol_at c r d)))

      -- the symbol at d does
      pub going_here : plain + t < used + m → Going (d + 1) (plain + m) (plain + t) d
      going_here h =
          record {
            plain_is = plain_more;
            used_is = omega (arith, used_more);
            placed = λ k.
                let b : count_of c e (eqb d d) (symbol_at c r d) ≡ count_of c e true (symbol_at c r d) = ap (λ (u : Bool). count_of c e u (symbol_at c r d)) (eq-eqb d d refl) in
                (rw add-one (omega (arith, placed_grows d d, placed_none d d (omega arith), g.plain_is)), omega arith);
            plain_most = omega (arith, g.plain_most);
            used_most = omega (arith, g.used_most);
          }

      -- or one before it
      pub going_before : used + m ≤ plain + t → Going (d + 1) (plain + m) (used + m) place
      going_before h =
          record {
            plain_is = plain_more;
            used_is = omega (arith, used_more);
            placed = λ k.
                let i = g.placed (omega arith) in
                let b : count_of c e (eqb d place) (symbol_at c r d) ≡ count_of c e false (symbol_at c r d) = ap (λ (u : Bool). count_of c e u (symbol_at c r d)) (ne_eqb d place (λ q. omega arith)) in
                (rw add-one (omega (arith, placed_grows place d)), omega arith);
            plain_most = omega (arith, g.plain_most);
            used_most = omega (arith, g.used_most);
          }

    module _ (h : r < productions c) {d plain used place : ℕ} (g : Going d plain used place) (k : d ≡ length_of c r) where
      pub best_used : Best c e r true used place
      best_used =
          record {
            value = g.used_is ∙ ap (λ (n : ℕ). used_sum c e (part n)) k ∙ ap (used_sum c e) (sym (right_is c r h));
            placed = λ l. rw k at (g.placed l).0;
            inside = λ b l. rw k at (g.placed l).1;
          }

      pub best_plain : Best c e r false plain (length_of c r)
      best_plain =
          let v : plain ≡ plain_sum c e (part (length_of c r)) = g.plain_is ∙ ap (λ (n : ℕ). plain_sum c e (part n)) k in
          record {
            value = v ∙ ap (plain_sum c e) (sym (right_is c r h));
            placed = λ l. placed_none (length_of c r) (length_of c r) (omega arith) ∙ sym v;
            inside = λ b l. absurd (false≢true b);
          }
