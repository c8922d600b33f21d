-- The terminals of a right side, put one behind the other.
use mathlib.Core.Path.{◌≡◌, refl, sym, ◌∙◌}
use mathlib.Core.Bool.{Bool, true, false}
use mathlib.Core.List.{List, [], ◌∷◌, ◌++◌, append_assoc, append-nil}
use mathlib.Core.Logic.{⊎_elim}
use Prim.Native.Nat.{ℕ, zero, suc, ◌+◌, ◌-◌, ◌≤◌, ◌<◌}
use native.Mathlib.Omega.{arith}
use native.Mathlib.Numerals.{add-one}
use native.Mathlib.Nat.{eq-or-lt_of_le}
use lib.Dec.{eqb}
use lib.ListN.{length, get_or, take, set, replicate, length-append}
use lib.Seq.{set_at, take_at, drop_at, drop-nil, length-take-le}
use borrow.Author.Tests.{lt-ltb, le-ltb, ne_eqb}
use Rattle.std.specs.Prelude.{Option, Some, None}
use Rattle.std.specs.Option.{option_eq}
use borrow.Rule.Slice.PartMut.{put_mid}
use Rattle.std.proofs.lemmas.List.{drop-replicate}
use Rattle.sets.specs.Lists.{covered}
use Rattle.sets.proofs.HasLaws.{lt_or_ge}
use Rattle.grammar.specs.Card.{terminals, nonterminals, productions, length_of, symbol_of, start_of, form_fault}
use Rattle.grammar.proofs.CardLaws.{well_formed}
use Rattle.nonterminals.proofs.WordLaws.{right_symbol}
use Rattle.sample_words.specs.Words.{key_of, count_of, placed_sum, place_of, symbol_at, piece_of, composed, Wide}
use Rattle.sample_words.proofs.SumLaws.{key_below, count_plain, count_used, count_nonterminal}

-- one number more in front of the zeros
pub covered_write : (n : ℕ) (u area : List ℕ) (s : ℕ) → length u < n → set (covered n u area) (length u) s ≡ covered n (u ++ s ∷ []) area
unfolding covered
covered_write n u area s h =
    let more : length (u ++ s ∷ []) ≡ suc (length u) = length-append u (s ∷ []) ∙ (omega arith) in
    let ez : n - length u ≡ suc (n - suc (length u)) = omega arith in
    rw (more, ez) (set_at u 0 _ s (length u) refl ∙ sym (append_assoc u (s ∷ []) _))

pub one_more : {b : List ℕ} {m : ℕ} (v : List ℕ) (x : ℕ) → m < 255 → length v ≡ m → b ≡ covered 255 v [] → set b m x ≡ covered 255 (v ++ x ∷ []) []
one_more v x h l e = rw (e, ← l) (covered_write 255 v [] x (omega arith))

-- n bytes of a row behind m numbers
pub appended : {b : List ℕ} {m : ℕ} (v row : List ℕ) (n : ℕ) → m + n ≤ 255 → n ≤ length row → length v ≡ m → b ≡ covered 255 v []
    → put_mid m (m + n - m) b (take n row) ≡ covered 255 (v ++ take n row) []
unfolding covered
appended {m = m} v row n h k l e =
    let t : length (take n row) ≡ n = length-take-le n row k in
    let j : m + n - m ≡ n = omega arith in
    let i : 255 - length v - n ≡ 255 - length (v ++ take n row) = omega (arith, length-append v (take n row)) in
    rw (e, j, ← l, take_at v _ (length v) refl, drop_at v _ (length v) refl, drop-nil {A = ℕ} 255, append-nil, drop-replicate {X = ℕ} n (255 - length v) 0, i, append-nil)
    (sym (append_assoc v (take n row) _))

-- the symbol d of production r, in the values of a loop
pub turn_symbol : (c : List ℕ) → form_fault c ≡ 0 → (r d : ℕ) → r < productions c → d < length_of c r → {s n x : ℕ} → s ≡ start_of c r → n ≡ d → x ≡ symbol_of c (s + n)
    → (x ≡ symbol_at c r d) × (x < terminals c + nonterminals c)
turn_symbol c fault r d h k {s} {n} {x} es en ex =
    let e : x ≡ symbol_at c r d = ex ∙ rw (es, en) refl in
    (e, rw e (right_symbol c fault r d h k))

-- whether the symbol d is the one that uses the production
pub at_place : (c : List ℕ) (r d : ℕ) → d < length_of c r → (o : Option ℕ) → option_eq eqb (Some d) o ≡ eqb d (place_of c r o)
at_place c r d h (Some p) = refl
at_place c r d h None = sym (ne_eqb d (length_of c r) (λ e. omega arith))

pub one_long : (c e : List ℕ) (u : Bool) (x : ℕ) → x < terminals c → count_of c e u x ≤ 255 → 1 ≡ count_of c e u x
one_long c e true x h k = absurd (omega (arith, count_used c e x h))
one_long c e false x h k = sym (count_plain c e x h)

module _ (c e : List ℕ) (w : List (List ℕ)) (u : Bool) (x : ℕ) where
  pub piece_terminal : x < terminals c → piece_of c e w u x ≡ x ∷ []
  unfolding piece_of
  piece_terminal h = rw (lt-ltb x (terminals c) h)

  pub piece_nonterminal : terminals c ≤ x → piece_of c e w u x ≡ take (get_or e (key_of u (x - terminals c)) 0) (get_or w (key_of u (x - terminals c)) [])
  unfolding piece_of
  piece_nonterminal h = rw (le-ltb x (terminals c) h)

-- the bytes after d symbols of r
pub record Composing (c e : List ℕ) (w : List (List ℕ)) (r p d m : ℕ) (b : List ℕ) : Type 0 where
  pub sum : m ≡ placed_sum c e r p d
  pub bytes : b ≡ covered 255 (composed c e w r p d) []

pub composing_none : (c e : List ℕ) (w : List (List ℕ)) (r p : ℕ) → Composing c e w r p 0 0 (replicate 255 0)
unfolding placed_sum covered
composing_none c e w r p = record { sum = refl; bytes = sym (append-nil _) }

module _ (c e : List ℕ) (w : List (List ℕ)) (fault : form_fault c ≡ 0) (wide : Wide w) where
  piece_length : (u : Bool) (x : ℕ) → x < terminals c + nonterminals c → count_of c e u x ≤ 255 → length (piece_of c e w u x) ≡ count_of c e u x
  piece_length u x h k =
      ⊎_elim
      (λ (t : x < terminals c). rw (piece_terminal c e w u x t) (one_long c e u x t k))
      (λ (t : terminals c ≤ x).
      let n = count_nonterminal c e u x t in
      rw (piece_nonterminal c e w u x t, n) (length-take-le _ _ (omega (arith, wide (key_of u (x - terminals c)) (key_below u (omega (arith, (well_formed c fault).limits.nonterminals_to)))))))
      (lt_or_ge x (terminals c))

  module _ (r p : ℕ) (h : r < productions c) where
    placed_step : (d : ℕ) → placed_sum c e r p (suc d) ≡ placed_sum c e r p d + count_of c e (eqb d p) (symbol_at c r d)
    unfolding placed_sum
    placed_step d = refl

    placed_mono : (d n : ℕ) → d ≤ n → placed_sum c e r p d ≤ placed_sum c e r p n
    placed_mono d zero k = let i : d ≡ 0 = omega arith in rw i (omega arith)
    placed_mono d (suc n) k =
        ⊎_elim
        (λ (i : d ≡ suc n). rw i (omega arith))
        (λ (i : d < suc n). omega (arith, placed_mono d n (omega arith), placed_step n))
        (eq-or-lt_of_le k)

    pub composed_length : (d : ℕ) → d ≤ length_of c r → placed_sum c e r p d ≤ 255 → length (composed c e w r p d) ≡ placed_sum c e r p d
    unfolding placed_sum
    composed_length zero k l = refl
    composed_length (suc d) k l =
        let i = composed_length d (omega arith) (omega (arith, placed_step d)) in
        let o = piece_length (eqb d p) (symbol_at c r d) (right_symbol c fault r d h (omega arith)) (omega (arith, placed_step d)) in
        omega (arith, placed_step d, length-append (composed c e w r p d) (piece_of c e w (eqb d p) (symbol_at c r d)))

    -- the room for symbol d, where there is room for all
    pub room_at : (d : ℕ) → d < length_of c r → placed_sum c e r p (length_of c r) ≤ 255 → placed_sum c e r p d + count_of c e (eqb d p) (symbol_at c r d) ≤ 255
    room_at d k l = omega (arith, placed_mono (suc d) (length_of c r) (omega arith), placed_step d)

    pub composing_more : (d : ℕ) {m n : ℕ} {b b' : List ℕ} → d < length_of c r → placed_sum c e r p (length_of c r) ≤ 255
        → n ≡ m + count_of c e (eqb d p) (symbol_at c r d)
        → ((v : List ℕ) → length v ≡ m → b ≡ covered 255 v [] → b' ≡ covered 255 (v ++ piece_of c e w (eqb d p) (symbol_at c r d)) [])
        → Composing c e w r p d m b → Composing c e w r p (d + 1) n b'
    composing_more d k l s a g =
        record {
          sum = rw add-one (omega (arith, g.sum, placed_step d));
          bytes = rw add-one (a (composed c e w r p d) (composed_length d (omega arith) (omega (arith, room_at d k l)) ∙ sym g.sum) g.bytes);
        }
