-- What the loop of `sort` keeps, and the laws of its parts.
use Prim.Native.Nat.{ℕ, ◌-◌, ◌^◌, ◌<◌, ◌≤◌}
use mathlib.Core.Path.{◌≡◌, refl, sym, ap, ◌∙◌}
use mathlib.Core.Bool.{Bool, false, false≢true}
use mathlib.Core.Logic.{◌≢◌, ◌⊎◌, inl, inr, ⊎_elim}
use native.Mathlib.Omega.{arith}
use lib.Bits.{bit_or}
use Rattle.sets.specs.Bit.{Has, Tells, Lowest, Rest}
use Rattle.sets.proofs.HasLaws.{lt_or_ge, eq_or, has_none, has_one, one_has, has_or, or_has_l, or_has_r}
use Rattle.tables.specs.Layout.{reduction, accept}
use Rattle.unlisted_steps.specs.declared.Spot.{Spot}
use Rattle.exploration.specs.Phases.{Short, no_steps, no_place, Puts, Found, Apart}
use Rattle.exploration.specs.declared.Sorted.{Sorted}
use Rattle.exploration.proofs.Words.{rest_less, rest_has, rest_above, rest_or}

-- ---- `short`

module _ (s : Spot) (places a : ℕ) where
  -- what is left where it is not short
  pub long_enough : {b : Bool} → Tells b (Short s places a) → b ≡ false → (0 < s.left) × (a < 1024 → s.depth < places)
  long_enough {b} t e =
      let more : 0 < s.left = ⊎_elim (λ z. absurd (never (no_steps z))) (λ n. omega (arith, n)) (eq_or s.left 0) in
      (more, λ h. ⊎_elim (λ (l : s.depth < places). l) (λ (l : places ≤ s.depth). absurd (never (no_place more h l))) (lt_or_ge s.depth places))
    where
      never : Short s places a → ⊥
      never x = false≢true (sym e ∙ t.so x)

-- ---- `put`

-- a shift or acceptance
pub put_found : (r : Sorted) (m a : ℕ) → (1024 ≤ a → a ≡ accept) → Puts r m a (record { found = bit_or r.found (2 ^ m); same = r.same; later = r.later; production = r.production })
put_found r m a h = ⊎_elim (λ (l : a < 1024). Puts.shifts l) (λ (l : 1024 ≤ a). Puts.accepts (h l)) (lt_or_ge a 1024)

-- ---- the loop

has_or_one : (u m k : ℕ) → Has (bit_or u (2 ^ m)) k → Has u k ⊎ (m ≡ k)
has_or_one u m k h = ⊎_elim inl (λ i. inr (has_one m k i)) (has_or u (2 ^ m) k h)

one_in : (u m k : ℕ) → m ≡ k → Has (bit_or u (2 ^ m)) k
one_in u m k e = or_has_r u (2 ^ m) k (rw (← e) (one_has m))

-- the terminals that are not left in g are sorted
pub record Walk (row : ℕ → ℕ) (s : Spot) (places group : ℕ) (r : Sorted) (g : ℕ) : Type 0 where
  pub fits : g < 2 ^ 64
  pub within : (m : ℕ) → Has g m → Has group m
  pub ends : (m : ℕ) → Has r.found m → Has group m × Found s places (row m)
  pub asks : (m : ℕ) → Has r.same m → Has group m × (0 < s.left) × (row m ≡ reduction r.production) × (reduction r.production ≢ accept)
  pub behind : (m : ℕ) → Has r.later m → Has group m × (j : ℕ) × (j < m) × Has group j
  pub none : (m : ℕ) → Has group m → (Has g m → ⊥) → (Has r.found m → ⊥) → (Has r.same m → ⊥) → (Has r.later m → ⊥) → row m ≡ 0
  -- ascending
  pub above : (j k : ℕ) → Has r.same j → Has g k → j < k

pub walk_start : {row : ℕ → ℕ} {s : Spot} {places group : ℕ} → group < 2 ^ 64 → Walk row s places group (record { found = 0; same = 0; later = 0; production = 0 }) group
walk_start f = record {
  fits = f;
  within = λ m h. h;
  ends = λ m h. absurd (has_none m h);
  asks = λ m h. absurd (has_none m h);
  behind = λ m h. absurd (has_none m h);
  none = λ m h n _ _ _. absurd (n h);
  above = λ j k h _. absurd (has_none j h);
}

module _ {row : ℕ → ℕ} {s : Spot} {places group : ℕ} {r : Sorted} {g : ℕ} (w : Walk row s places group r g) where
  pub walk_end : g ≡ 0 → Apart row s places group r
  walk_end e = record { ends = w.ends; asks = w.asks; behind = w.behind; none = λ m h. w.none m h (λ k. has_none m (rw e at k)) }

  module _ (some : g ≡ 0 → ⊥) {m : ℕ} (l : Lowest 64 g m) where
    pub next_in : Has group m
    next_in = w.within m (l.found (omega (arith, some)))

    module _ {g' : ℕ} (t : Rest 64 g g') where
      walk_fits : g' < 2 ^ 64
      walk_fits = let z = rest_less (let p : 0 < g = omega (arith, some) in p) w.fits t in omega (arith, w.fits)

      none_next : (k : ℕ) → Has group k → (Has g' k → ⊥) → (m ≡ k → ⊥) → (Has r.found k → ⊥) → (Has r.same k → ⊥) → (Has r.later k → ⊥) → row k ≡ 0
      none_next k h n ne f sm la = w.none k h (λ i. ne (rest_or l t k i n)) f sm la

      within_next : (k : ℕ) → Has g' k → Has group k
      within_next k h = w.within k (rest_has l t k h)

      above_next : (j k : ℕ) → Has r.same j → Has g' k → j < k
      above_next j k h i = w.above j k h (rest_has l t k i)

      pub walk_zero : row m ≡ 0 → Walk row s places group r g'
      walk_zero e = record {
        fits = walk_fits;
        within = within_next;
        ends = w.ends;
        asks = w.asks;
        behind = w.behind;
        none = λ k h n f sm la. ⊎_elim (λ z. sym (ap row z) ∙ e) (λ ne. none_next k h n ne f sm la) (eq_or m k);
        above = above_next;
      }

      walk_found : Found s places (row m) → Walk row s places group (record { found = bit_or r.found (2 ^ m); same = r.same; later = r.later; production = r.production }) g'
      walk_found f = record {
        fits = walk_fits;
        within = within_next;
        ends = λ k h. ⊎_elim (w.ends k) (λ z. rw (← z) (next_in, f)) (has_or_one r.found m k h);
        asks = w.asks;
        behind = w.behind;
        none = λ k h n f sm la. none_next k h n (λ z. f (one_in r.found m k z)) (λ i. f (or_has_l r.found (2 ^ m) k i)) sm la;
        above = above_next;
      }

      walk_same : (p u : ℕ) → 0 < s.left → row m ≡ reduction p → reduction p ≢ accept → ((k : ℕ) → Has u k → Has r.same k × (r.production ≡ p)) → ((k : ℕ) → Has r.same k → Has u k)
          → Walk row s places group (record { found = r.found; same = bit_or u (2 ^ m); later = r.later; production = p }) g'
      walk_same p u more e ne from to = record {
        fits = walk_fits;
        within = within_next;
        ends = w.ends;
        asks = λ k h.
            ⊎_elim (λ i. let y = from k i in rw (← y.1) (w.asks k y.0)) (λ z. rw (← z) (next_in, more, e, ne)) (has_or_one u m k h);
        behind = w.behind;
        none = λ k h n f sm la. none_next k h n (λ z. sm (one_in u m k z)) f (λ i. sm (or_has_l u (2 ^ m) k (to k i))) la;
        above = λ j k h i. ⊎_elim (λ y. above_next j k (from j y).0 i) (λ z. rw (← z) (rest_above l t k i)) (has_or_one u m j h);
      }

      walk_later : (j : ℕ) → Has r.same j → Walk row s places group (record { found = r.found; same = r.same; later = bit_or r.later (2 ^ m); production = r.production }) g'
      walk_later j z = record {
        fits = walk_fits;
        within = within_next;
        ends = w.ends;
        asks = w.asks;
        behind = λ k h. ⊎_elim (w.behind k) (λ y. rw (← y) (next_in, j, w.above j m z (l.found (omega (arith, some))), (w.asks j z).0)) (has_or_one r.later m k h);
        none = λ k h n f sm la. none_next k h n (λ z. la (one_in r.later m k z)) f sm (λ i. la (or_has_l r.later (2 ^ m) k i));
        above = above_next;
      }

      pub walk_put : {a : ℕ} {x : Sorted} → row m ≡ a → (a ≡ 0 → ⊥) → (0 < s.left) × (a < 1024 → s.depth < places) → Puts r m a x → Walk row s places group x g'
      walk_put e n room (Puts.shifts h) = walk_found (rw e (Found.shifts room.0 (omega (arith, n)) h (room.1 h)))
      walk_put e n room (Puts.accepts h) = walk_found (rw e (Found.accepts room.0 h))
      walk_put {a} e n room (Puts.first h k z) =
          let p : reduction (a - 1024) ≡ a = omega (arith, h) in
          walk_same (a - 1024) 0 room.0 (e ∙ sym p) (λ y. k (sym p ∙ y)) (λ k h. absurd (has_none k h)) (λ k h. rw z at h)
      walk_put {a} e n room (Puts.again h k z) =
          let p : reduction r.production ≡ a = omega (arith, h, z) in
          walk_same r.production r.same room.0 (e ∙ sym p) (λ y. k (sym p ∙ y)) (λ k h. (h, refl)) (λ k h. h)
      walk_put e n room (Puts.aside j z) = walk_later j z
