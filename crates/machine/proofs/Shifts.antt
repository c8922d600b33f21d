-- Over a table that the checks let pass, whoever made it, the machine shifts only terminals, never at the end of the input, and its stack holds states of the table.
use Prim.Native.Nat.{ℕ, zero, suc, ◌+◌, ◌-◌, ◌<◌, ◌≤◌}
use mathlib.Core.Path.{◌≡◌, refl, sym, ap, ◌∙◌}
use mathlib.Core.Logic.{◌≢◌, ⊎_elim}
use mathlib.Core.List.{List, [], ◌∷◌, ◌++◌}
use lib.ListN.{length, drop, get_or, drop_of_length-le}
use native.Mathlib.Omega.{arith}
use Rattle.sets.specs.Lists.{peek, rest}
use Rattle.sets.proofs.HasLaws.{lt_or_ge}
use Rattle.tables.specs.Layout.{states, terminals, productions, cell_of, left_of, length_of, reduction, accept}
use Rattle.machine.proofs.Checked.{Passed, shift_passed, reduce_passed, accept_passed, left_passed, goto_passed, no_end, next_passed}
use Rattle.machine.proofs.LrMachineLaws.{Config, conf, Step, Path}

-- each state of a stack is one of a table of n
pub data Below (n : ℕ) : List ℕ → Type 0 where
  none : Below n []
  more : {q : ℕ} {qs : List ℕ} → q < n → Below n qs → Below n (q ∷ qs)

pub below_drop : {n : ℕ} (k : ℕ) {qs : List ℕ} → Below n qs → Below n (drop k qs)
below_drop zero b = b
below_drop (suc k) none = none
below_drop (suc k) (more h b) = below_drop k b

pub below_top : {n q : ℕ} {qs : List ℕ} → Below n (q ∷ qs) → q < n
below_top (more h b) = h

-- ---- the terminals from place i on

pub peek_drop : (i : ℕ) (l : List ℕ) → peek (drop i l) ≡ get_or l i 0
peek_drop zero [] = refl
peek_drop zero (a ∷ l) = refl
peek_drop (suc i) [] = refl
peek_drop (suc i) (a ∷ l) = peek_drop i l

-- the terminal behind a line
pub behind_line : (line x : List ℕ) → get_or (line ++ x) (length line) 0 ≡ peek x
behind_line [] [] = refl
behind_line [] (a ∷ x) = refl
behind_line (b ∷ line) x = behind_line line x

pub rest_drop : (i : ℕ) (l : List ℕ) → rest (drop i l) ≡ drop (i + 1) l
rest_drop zero [] = refl
rest_drop zero (a ∷ l) = refl
rest_drop (suc i) [] = let e : suc i + 1 ≡ suc (i + 1) = omega arith in rw e
rest_drop (suc i) (a ∷ l) = let e : suc i + 1 ≡ suc (i + 1) = omega arith in rw e (rest_drop i l)

module _ {t l : List ℕ} {n : ℕ} (pa : Passed t l n) {q : ℕ} {qs x : List ℕ} (b : Below (states t) (q ∷ qs)) (i : ℕ) (ahead : drop i l ≡ x) where
  pub next_below : peek x < terminals t
  next_below = rw (← ahead, peek_drop i l) (next_passed pa i)

  pub shift_in : 0 < cell_of t q (peek x) → cell_of t q (peek x) < 1024 → (cell_of t q (peek x) < states t) × (0 < peek x)
  shift_in h k = shift_passed pa.table q (peek x) (below_top b) next_below h k

  pub after_shift : {s : ℕ} → cell_of t q (peek x) ≡ s → 0 < s → s < 1024 → Below (states t) (s ∷ q ∷ qs)
  after_shift e h k = more (rw e at (shift_in (omega (arith, e)) (omega (arith, e))).0) b

  -- a reduction is by a production of the table
  pub production_in : (r : ℕ) → cell_of t q (peek x) ≡ reduction r → reduction r ≢ accept → r < productions t
  production_in r e ne =
      let r-in = reduce_passed pa.table q (peek x) (below_top b) next_below (omega (arith, e)) (λ z. ne (sym e ∙ z)) in
      let r-is : cell_of t q (peek x) - 1024 ≡ r = omega (arith, e) in
      rw r-is at r-in

  pub after_reduce : (r : ℕ) {p s : ℕ} {ps : List ℕ} → cell_of t q (peek x) ≡ reduction r → reduction r ≢ accept → drop (length_of t r) (q ∷ qs) ≡ p ∷ ps → cell_of t p (left_of t r) ≡ s → Below (states t) (s ∷ p ∷ ps)
  after_reduce r {p} e ne d f =
      let bs = rw d at (below_drop (length_of t r) b) in
      let lp = left_passed pa.table r (production_in r e ne) in
      more (rw f at (goto_passed pa.table p (left_of t r) (below_top bs) lp.0 lp.1)) bs

-- what holds wherever the machine comes
pub data Sound (t l : List ℕ) : Config → Type 0 where
  sound : {q : ℕ} {qs x out : List ℕ} (i : ℕ) → Below (states t) (q ∷ qs) → drop i l ≡ x → Sound t l (conf (q ∷ qs) x out)

module _ (t l : List ℕ) (n : ℕ) (pa : Passed t l n) where
  pub start_sound : Sound t l (conf (0 ∷ []) l [])
  start_sound = sound 0 (more pa.table.sizes.states_are.0 none) refl

  pub step_sound : {c c' : Config} → Sound t l c → Step t c c' → Sound t l c'
  step_sound (sound i b e) (Step.shift s ec h k) = sound (i + 1) (after_shift pa b i e ec h k) (sym (rest_drop i l) ∙ ap rest e)
  step_sound (sound i b e) (Step.reduce r p ps s ec ne d f h) = sound i (after_reduce pa b i e r ec ne d f) e

  pub path_sound : {k m : ℕ} {c c' : Config} → Sound t l c → Path t k m c c' → Sound t l c'
  path_sound s Path.none = s
  path_sound s (Path.more x p) = path_sound (step_sound s x) p

  -- wherever the machine comes, a shift is of a terminal of the input
  pub shifts_terminals : {k m q : ℕ} {qs x out : List ℕ} → Path t k m (conf (0 ∷ []) l []) (conf (q ∷ qs) x out) → 0 < cell_of t q (peek x) → cell_of t q (peek x) < 1024 → 0 < peek x
  shifts_terminals p h k = go (path_sound start_sound p) h k
    where
      go : {q : ℕ} {qs x out : List ℕ} → Sound t l (conf (q ∷ qs) x out) → 0 < cell_of t q (peek x) → cell_of t q (peek x) < 1024 → 0 < peek x
      go (sound i b e) h k = (shift_in pa b i e h k).1

  -- and only with nothing ahead it accepts
  pub accepts_last : {q : ℕ} {qs x out : List ℕ} → Sound t l (conf (q ∷ qs) x out) → cell_of t q (peek x) ≡ accept → x ≡ []
  accepts_last {q} {x = x} (sound i b e) h =
      ⊎_elim
      (λ (k : i < length l).
      let z = accept_passed pa.table q (peek x) (below_top b) (next_below pa b i e) h in
      let y : get_or l i 0 ≡ peek x = sym (peek_drop i l) ∙ ap peek e in
      let s = no_end pa i k in
      absurd (omega arith))
      (λ (k : length l ≤ i). sym e ∙ drop_of_length-le l {i = i} k)
      (lt_or_ge i (length l))
