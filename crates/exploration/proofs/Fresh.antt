-- Laws of fresh readings over any table: they go on by a step, and stop.
use Prim.Native.Nat.{ℕ, zero, suc, ◌+◌, ◌<◌, ◌≤◌, max}
use mathlib.Core.Path.{◌≡◌, refl}
use mathlib.Core.Logic.{◌≢◌}
use mathlib.Core.List.{List, [], ◌∷◌, ◌++◌, append-nil}
use native.Mathlib.Omega.{arith}
use Rattle.sets.specs.Lists.{peek}
use Rattle.tables.specs.Layout.{cell_of, reduction, accept}
use Rattle.machine.specs.Stops.{Stops, no_steps, broken_here, stack_full}
use Rattle.machine.specs.Exploration.{Comes, unlisted, Explored, stops, reads, Cut}
use Rattle.machine.proofs.Explorations.{path_listed, comes_listed}
use Rattle.machine.proofs.LrMachineLaws.{Config, conf, depth, Step, Path, Broken, Ends, wrong, broken}
use Rattle.exploration.specs.Phases.{CutFor}

module _ {t : List ℕ} where
  -- a step behind a path
  pub path_step : {n m : ℕ} {c c' c'' : Config} → Path t n m c c' → Step t c' c'' → Path t (suc n) (max m (depth c'')) c c''
  path_step Path.none s = Path.more s Path.none
  path_step {c'' = c''} (Path.more {n = n} {m = m} {c = c} s p) s' =
      let e : max (depth c) (max m (depth c'')) ≡ max (max (depth c) m) (depth c'') = omega arith in
      rw e at (Path.more s (path_step p s'))

-- the next terminal of a line with nothing but m on it is m
abbrev pub alone : ℕ → List ℕ
alone zero = []
alone (suc m) = suc m ∷ []

pub peek_alone : (m : ℕ) → peek (alone m) ≡ m
peek_alone zero = refl
peek_alone (suc m) = refl

module _ {t : List ℕ} {limit second : ℕ} where
  pub comes_start : (input : List ℕ) → 0 < second → Comes t limit second input (conf (0 ∷ []) input []) limit
  comes_start input h = record { steps = 0; most = 1; path = Path.none; within = h; budget = omega arith }

  module _ {input : List ℕ} {c : Config} {left : ℕ} (f : Comes t limit second input c left) where
    pub comes_step : {c' : Config} {left' : ℕ} → Step t c c' → depth c' ≤ second → left' + 1 ≡ left → Comes t limit second input c' left'
    comes_step s d e = record {
      steps = suc f.steps;
      most = _;
      path = path_step f.path s;
      within = omega (arith, f.within);
      budget = omega (arith, f.budget);
    }

  module _ {input : List ℕ} {q : ℕ} {qs x out : List ℕ} {left : ℕ} (f : Comes t limit second input (conf (q ∷ qs) x out) left) where
    pub stops_spent : cell_of t q (peek x) ≢ 0 → left ≡ 0 → Stops t (unlisted limit second left) (conf (q ∷ qs) x out) 32
    stops_spent n e = no_steps not_wrong e
      where
        not_wrong : Ends t (conf (q ∷ qs) x out) 31 → ⊥
        not_wrong (wrong z) = n z

    pub stops_full : {c : Config} → Step t (conf (q ∷ qs) x out) c → 0 < left → depth c ≡ suc second → Stops t (unlisted limit second left) (conf (q ∷ qs) x out) 33
    stops_full s h e = let a = path_listed t (Path.more s Path.none) in let b = comes_listed t f in stack_full s h (omega arith) e

    pub stops_broken : (r : ℕ) → cell_of t q (peek x) ≡ reduction r → reduction r ≢ accept → Broken t r (q ∷ qs) → 0 < left → Stops t (unlisted limit second left) (conf (q ∷ qs) x out) 35
    stops_broken r e n b h = let l = comes_listed t f in broken_here (broken r e n b) h (omega arith)

  module _ {line : List ℕ} where
    -- the fresh reading for m stops before it shifts m
    pub explored : {m n left : ℕ} {qs x out : List ℕ} → (m ≢ 0 → x ≢ []) → Comes t limit second (line ++ alone m) (conf qs x out) left
        → Stops t (unlisted limit second left) (conf qs x out) n → Explored t limit second line m n
    explored {m = zero} n f s = reads (simp append-nil at f) s
    explored {m = suc m} n f s = stops {m = suc m} (λ e. omega (arith, e)) (n (λ e. omega (arith, e))) f s

    pub cut_for : {m n left : ℕ} {qs x out : List ℕ} → (m ≢ 0 → x ≢ []) → Comes t limit second (line ++ alone m) (conf qs x out) left
        → Stops t (unlisted limit second left) (conf qs x out) n → Cut n → CutFor t limit second line m
    cut_for {n = n} k f s c = record { number = n; ends = explored k f s; cut = c }
