-- Steps, paths and stops under open terminals are those over the table with 0 in the closed columns.
use Prim.Native.Nat.{ℕ, zero, suc, ◌<◌, ◌≤◌}
use mathlib.Core.Path.{◌≡◌, refl, sym, ap, ◌∙◌}
use mathlib.Core.Logic.{◌≢◌, ⊎_elim}
use mathlib.Core.Bool.{Bool, true, false, false≢true}
use mathlib.Core.List.{List, [], ◌∷◌, ◌++◌}
use lib.ListN.{length, drop, get_or-eq_default}
use native.Mathlib.Omega.{arith}
use Rattle.sets.specs.Bit.{bit, Has}
use Rattle.sets.specs.Lists.{peek}
use Rattle.sets.proofs.HasLaws.{lt_or_ge}
use Rattle.tables.specs.Layout.{states, productions, width, cell_of, left_of, length_of, reduction, accept}
use Rattle.machine.specs.Checks.{closed_ok}
use Rattle.machine.specs.Stops.{Allowed, Stops, accepted_here, wrong_here, no_steps, list_full, broken_here, stack_full}
use Rattle.machine.specs.Restricted.{Open, OpenLine, next, OpenPath, OpenStops, closed_here, as_ever}
use Rattle.machine.specs.ComputedRun.{masked}
use Rattle.machine.proofs.Checked.{Passed, below_width, left_passed}
use Rattle.machine.proofs.MaskedLaws.{open_end, masked_left, masked_length, masked_open, masked_closed, masked_goto}
use Rattle.machine.proofs.LrMachineLaws.{Config, conf, Reduces, reduces, Step, Path, Broken, pops_all, no_next, Ends, accepts, wrong, broken, no_step, ends_same}
use Rattle.machine.proofs.Shifts.{Below, below_drop, below_top, peek_drop, next_below, production_in, Sound, sound, step_sound}

-- ---- steps and stops look at few places of a table

-- two tables give a stack the same cell for what is ahead, and the same reduction where it asks for one
pub record Alike (t u : List ℕ) (q : ℕ) (qs x y : List ℕ) : Type 0 where
  pub cell : cell_of t q (peek x) ≡ cell_of u q (peek y)
  pub lengths : (r : ℕ) → cell_of t q (peek x) ≡ reduction r → reduction r ≢ accept → length_of t r ≡ length_of u r
  pub gotos : (r p : ℕ) (ps : List ℕ) → cell_of t q (peek x) ≡ reduction r → reduction r ≢ accept → drop (length_of t r) (q ∷ qs) ≡ p ∷ ps
      → cell_of t p (left_of t r) ≡ cell_of u p (left_of u r)

module _ {t u : List ℕ} {q : ℕ} {qs x y : List ℕ} (al : Alike t u q qs x y) where
  pops_alike : (r : ℕ) → cell_of t q (peek x) ≡ reduction r → reduction r ≢ accept → drop (length_of u r) (q ∷ qs) ≡ drop (length_of t r) (q ∷ qs)
  pops_alike r e ne = ap (λ (k : ℕ). drop k (q ∷ qs)) (sym (al.lengths r e ne))

  pub alike_back : Alike u t q qs y x
  alike_back = record {
    cell = sym al.cell;
    lengths = λ r e ne. sym (al.lengths r (al.cell ∙ e) ne);
    gotos = λ r p ps e ne d. sym (al.gotos r p ps (al.cell ∙ e) ne (sym (pops_alike r (al.cell ∙ e) ne) ∙ d));
  }

  broken_alike : (r : ℕ) → cell_of t q (peek x) ≡ reduction r → reduction r ≢ accept → Broken t r (q ∷ qs) → Broken u r (q ∷ qs)
  broken_alike r e ne (pops_all d) = pops_all (pops_alike r e ne ∙ d)
  broken_alike r e ne (no_next p ps d z) = no_next p ps (pops_alike r e ne ∙ d) (sym (al.gotos r p ps e ne d) ∙ z)

  ends_alike : {out : List ℕ} {n : ℕ} → Ends t (conf (q ∷ qs) x out) n → Ends u (conf (q ∷ qs) y out) n
  ends_alike (accepts e) = accepts (sym al.cell ∙ e)
  ends_alike (wrong e) = wrong (sym al.cell ∙ e)
  ends_alike (broken r e ne b) = broken r (sym al.cell ∙ e) ne (broken_alike r e ne b)

  reduces_alike : {r : ℕ} {out : List ℕ} → Reduces t r (conf (q ∷ qs) x out) → Reduces u r (conf (q ∷ qs) y out)
  reduces_alike (reduces e ne) = reduces (sym al.cell ∙ e) ne

  reduce_alike : {out : List ℕ} (r p : ℕ) (ps : List ℕ) (s : ℕ) → cell_of t q (peek x) ≡ reduction r → reduction r ≢ accept → drop (length_of t r) (q ∷ qs) ≡ p ∷ ps
      → cell_of t p (left_of t r) ≡ s → 0 < s → Step u (conf (q ∷ qs) y out) (conf (s ∷ p ∷ ps) y (out ++ r ∷ []))
  reduce_alike r p ps s e ne d f h = Step.reduce r p ps s (sym al.cell ∙ e) ne (pops_alike r e ne ∙ d) (sym (al.gotos r p ps e ne d) ∙ f) h

pub step_alike : {t u : List ℕ} {q : ℕ} {qs x out : List ℕ} {c : Config} → Alike t u q qs x x → Step t (conf (q ∷ qs) x out) c → Step u (conf (q ∷ qs) x out) c
step_alike al (Step.shift s e h k) = Step.shift s (sym al.cell ∙ e) h k
step_alike al (Step.reduce r p ps s e ne d f h) = reduce_alike al r p ps s e ne d f h

pub stops_alike : {t u : List ℕ} {q : ℕ} {qs x y out : List ℕ} {a : Allowed} {n : ℕ} → Alike t u q qs x y → Stops t a (conf (q ∷ qs) x out) n → Stops u a (conf (q ∷ qs) y out) n
stops_alike al (accepted_here e h) = accepted_here (ends_alike al e) h
stops_alike al (wrong_here e) = wrong_here (ends_alike al e)
stops_alike al (no_steps f z) = no_steps (λ e. f (ends_alike (alike_back al) e)) z
stops_alike al (list_full r h f) = list_full (reduces_alike al r) h f
stops_alike al (broken_here e h f) = broken_here (ends_alike al e) h f
stops_alike al (stack_full (Step.shift s e h k) z f d) = stack_full (Step.shift s (sym al.cell ∙ e) h k) z f d
stops_alike al (stack_full (Step.reduce r p ps s e ne i f h) z g d) = stack_full (reduce_alike al r p ps s e ne i f h) z g d

-- where the machine is wrong it stops as wrong
pub wrong_stops : {t : List ℕ} {a : Allowed} {c : Config} {n : ℕ} → Ends t c 31 → Stops t a c n → n ≡ 31
wrong_stops {t} w (accepted_here e h) = ends_same t e w
wrong_stops w (wrong_here e) = refl
wrong_stops w (no_steps f z) = absurd (f w)
wrong_stops (wrong e) (list_full (reduces f ne) h g) = absurd (omega (arith, e, f))
wrong_stops {t} w (broken_here e h g) = ends_same t e w
wrong_stops {t} w (stack_full s h f g) = absurd (no_step t w s)

-- ---- lines without closed terminals

module _ (closed : ℕ) where
  pub open_none : OpenLine closed []
  open_none i h = absurd (omega arith)

  pub open_more : (b : ℕ) (v : List ℕ) → Open closed b → OpenLine closed v → OpenLine closed (b ∷ v)
  open_more b v o f zero h = o
  open_more b v o f (suc i) h = f i (omega arith)

  pub open_behind : (v : List ℕ) (m : ℕ) → OpenLine closed v → Open closed m → OpenLine closed (v ++ m ∷ [])
  open_behind [] m f o = open_more m [] o open_none
  open_behind (b ∷ v) m f o = open_more b (v ++ m ∷ []) (f 0 (omega arith)) (open_behind v m (λ i h. f (suc i) (omega arith)) o)

-- the terminals still to be read
abbrev pub ahead : Config → List ℕ
ahead (conf qs x out) = x

-- what stands between two configurations has no closed terminal
pub record Passes (closed : ℕ) (c c' : Config) : Type 0 where
  pub line : List ℕ
  pub whole : line ++ ahead c' ≡ ahead c
  pub free : OpenLine closed line

module _ {t : List ℕ} {closed : ℕ} where
  step_passes : {c c' c'' : Config} → Open closed (next c) → Step t c c' → Passes closed c' c'' → Passes closed c c''
  step_passes o (Step.shift {x = []} s e h k) w = record { line = w.line; whole = w.whole; free = w.free }
  step_passes o (Step.shift {x = b ∷ x} s e h k) w = record { line = b ∷ w.line; whole = ap (λ (y : List ℕ). b ∷ y) w.whole; free = open_more closed b w.line o w.free }
  step_passes o (Step.reduce r p ps s e ne d f h) w = record { line = w.line; whole = w.whole; free = w.free }

  pub passes_open : {k m : ℕ} {c c' : Config} → OpenPath t closed k m c c' → Passes closed c c'
  passes_open OpenPath.none = record { line = []; whole = refl; free = open_none closed }
  passes_open (OpenPath.more o s p) = step_passes o s (passes_open p)

  -- an open path is a path
  pub open_forget : {k m : ℕ} {c c' : Config} → OpenPath t closed k m c c' → Path t k m c c'
  open_forget OpenPath.none = Path.none
  open_forget (OpenPath.more o s p) = Path.more s (open_forget p)

-- ---- with 0 in the closed columns

module _ {t l : List ℕ} {n : ℕ} (closed : ℕ) (pa : Passed t l n) (ok : closed_ok t closed ≡ true) where
  module _ {q : ℕ} {qs x : List ℕ} (b : Below (states t) (q ∷ qs)) (i : ℕ) (e : drop i l ≡ x) where
    next_within : peek x < width t
    next_within = below_width pa.table (peek x) (next_below pa b i e)

    -- where the next terminal is open nothing changes
    open_alike : Open closed (peek x) → Alike t (masked closed t) q qs x x
    open_alike o = record {
      cell = sym (masked_open t closed q (peek x) (below_top b) next_within o);
      lengths = λ r ec ne. sym (masked_length t closed r (production_in pa b i e r ec ne));
      gotos = λ r p ps ec ne d. gotos r p ps (production_in pa b i e r ec ne) d;
    }
      where
        gotos : (r p : ℕ) (ps : List ℕ) → r < productions t → drop (length_of t r) (q ∷ qs) ≡ p ∷ ps → cell_of t p (left_of t r) ≡ cell_of (masked closed t) p (left_of (masked closed t) r)
        gotos r p ps h d =
            let lp = left_passed pa.table r h in
            let bs : Below (states t) (p ∷ ps) = rw d at (below_drop (length_of t r) b) in
            sym (ap (cell_of (masked closed t) p) (masked_left t closed r h) ∙ masked_goto t closed ok p (left_of t r) (below_top bs) lp.0 lp.1)

    -- where it is closed the machine is wrong
    closed_wrong : {out : List ℕ} → Has closed (peek x) → Ends (masked closed t) (conf (q ∷ qs) x out) 31
    closed_wrong h = wrong (masked_closed t closed q (peek x) (below_top b) next_within h)

  mask_step : {c c' : Config} → Sound t l c → Open closed (next c) → Step t c c' → Step (masked closed t) c c'
  mask_step (sound i b e) o s = step_alike (open_alike b i e o) s

  unmask_step : {c c' : Config} → Sound t l c → Step (masked closed t) c c' → Open closed (next c) × Step t c c'
  unmask_step (sound {x = x} i b e) s =
      let o : Open closed (peek x) = λ h. no_step (masked closed t) (closed_wrong b i e h) s in
      (o, step_alike (alike_back (open_alike b i e o)) s)

  pub mask_path : {k m : ℕ} {c c' : Config} → Sound t l c → OpenPath t closed k m c c' → Path (masked closed t) k m c c'
  mask_path h OpenPath.none = Path.none
  mask_path h (OpenPath.more o s p) = Path.more (mask_step h o s) (mask_path (step_sound t l n pa h s) p)

  pub unmask_path : {k m : ℕ} {c c' : Config} → Sound t l c → Path (masked closed t) k m c c' → OpenPath t closed k m c c'
  unmask_path h Path.none = OpenPath.none
  unmask_path h (Path.more s p) = let u = unmask_step h s in OpenPath.more u.0 u.1 (unmask_path (step_sound t l n pa h u.1) p)

  pub mask_stops : {a : Allowed} {c : Config} {j : ℕ} → Sound t l c → OpenStops t closed a c j → Stops (masked closed t) a c j
  mask_stops (sound i b e) (closed_here h) = wrong_here (closed_wrong b i e h)
  mask_stops (sound i b e) (as_ever o s) = stops_alike (open_alike b i e o) s

  pub unmask_stops : {a : Allowed} {c : Config} {j : ℕ} → Sound t l c → Stops (masked closed t) a c j → OpenStops t closed a c j
  unmask_stops {a} {j = j} (sound {q} {qs} {x} {out} i b e) s = go (bit closed (peek x)) refl
    where
      go : (v : Bool) → bit closed (peek x) ≡ v → OpenStops t closed a (conf (q ∷ qs) x out) j
      go true h = rw (wrong_stops (closed_wrong b i e h) s) (closed_here h)
      go false h =
          let o : Open closed (peek x) = λ k. false≢true (sym h ∙ k) in
          as_ever o (stops_alike (alike_back (open_alike b i e o)) s)

  -- over a line without closed terminals the next terminal is always open
  module _ (free : OpenLine closed l) where
    pub open_next : {c : Config} → Sound t l c → Open closed (next c)
    open_next (sound i b e) = rw (← e, peek_drop i l) (⊎_elim (free i) (λ (h : length l ≤ i). rw (get_or-eq_default l 0 h) (open_end t closed ok)) (lt_or_ge i (length l)))

    pub all_open : {k m : ℕ} {c c' : Config} → Sound t l c → Path t k m c c' → OpenPath t closed k m c c'
    all_open h Path.none = OpenPath.none
    all_open h (Path.more s p) = OpenPath.more (open_next h) s (all_open (step_sound t l n pa h s) p)
