-- The LR machine is deterministic, and from each configuration it makes a step or ends.
use Prim.Native.Nat.{ℕ, zero, suc, ◌-◌, ◌<◌, ◌≤◌, max}
use mathlib.Core.Path.{◌≡◌, refl, sym, ap, ◌∙◌}
use mathlib.Core.Logic.{◌≢◌}
use mathlib.Core.List.{List, [], ◌∷◌}
use lib.ListN.{length, drop, length-append}
use native.Mathlib.Omega.{arith}
use native.Mathlib.Decide.{dec_lt, ℕ_discrete}
use Rattle.tables.specs.Layout.{cell_of, left_of, length_of, reduction, accept}
pub use Rattle.machine.specs.LrMachine.{Config, conf, depth, listed, Reduces, reduces, Step, shift, reduce, Path, Broken, pops_all, no_next, Ends, accepts, wrong, broken, own_steps}

-- what a cell of a terminal's column says
pub data Kind : ℕ → Type 0 where
  is_wrong : Kind 0
  is_shift : (s : ℕ) → 0 < s → s < 1024 → Kind s
  is_accept : Kind accept
  is_reduce : (r : ℕ) → reduction r ≢ accept → Kind (reduction r)

pub kind : (a : ℕ) → Kind a
kind a = go (ℕ_discrete a 0) (dec_lt a 1024) (ℕ_discrete a accept)
  where
    go : Dec (a ≡ 0) → Dec (a < 1024) → Dec (a ≡ accept) → Kind a
    go (yes e) _ _ = rw e is_wrong
    go (no n) (yes h) _ = is_shift a (omega (arith, n)) h
    go (no n) (no h) (yes e) = rw e is_accept
    go (no n) (no h) (no k) =
        let e : reduction (a - 1024) ≡ a = omega (arith, h) in
        let x : Kind (reduction (a - 1024)) = is_reduce (a - 1024) (λ z. k (omega (arith, z, e))) in
        rw e at x

module _ (t : List ℕ) where
  -- a step from each configuration is the only one
  pub step_same : {c c₁ c₂ : Config} → Step t c c₁ → Step t c c₂ → c₁ ≡ c₂
  step_same (shift s e h k) (shift s' e' h' k') = let z : s ≡ s' = sym e ∙ e' in rw z
  step_same (shift s e h k) (reduce r p ps s' e' n d f h') = absurd (omega (arith, e, e'))
  step_same (reduce r p ps s' e' n d f h') (shift s e h k) = absurd (omega (arith, e, e'))
  step_same (reduce r p ps s e n d f h) (reduce r' p' ps' s' e' n' d' f' h') =
      let er : r ≡ r' = omega (arith, e, e') in
      let d'' = rw er at d in
      let ep : p ≡ p' = cc in
      let eps : ps ≡ ps' = cc in
      let es : s ≡ s' = sym f ∙ ap (cell_of t p) (ap (left_of t) er) ∙ ap (λ (z : ℕ). cell_of t z (left_of t r')) ep ∙ f' in
      rw (es, ep, eps, er)

  -- and none where the machine ends
  pub no_step : {c c' : Config} {n : ℕ} → Ends t c n → Step t c c' → ⊥
  no_step (accepts e) (shift s e' h k) = omega (arith, e, e')
  no_step (accepts e) (reduce r p ps s e' n d f h) = n (omega (arith, e, e'))
  no_step (wrong e) (shift s e' h k) = omega (arith, e, e')
  no_step (wrong e) (reduce r p ps s e' n d f h) = omega (arith, e, e')
  no_step (broken r e n b) (shift s e' h k) = omega (arith, e, e')
  no_step (broken r e n b) (reduce r' p ps s e' n' d f h) = go b (omega (arith, e, e')) d f
    where
      go : {qs : List ℕ} → Broken t r qs → r ≡ r' → drop (length_of t r') qs ≡ p ∷ ps → cell_of t p (left_of t r') ≡ s → ⊥
      go (pops_all z) er d f = let z' = rw er at z in let bad : ◌≡◌ {A = ℕ} 0 1 = cc in omega arith
      go (no_next p' ps' z y) er d f =
          let z' = rw er at z in
          let ep : p ≡ p' = cc in
          let s0 : s ≡ 0 = sym f ∙ ap (λ (z : ℕ). cell_of t z (left_of t r')) ep ∙ ap (λ (z : ℕ). cell_of t p' (left_of t z)) (sym er) ∙ y in
          omega arith

  pub ends_same : {c : Config} {n n' : ℕ} → Ends t c n → Ends t c n' → n ≡ n'
  ends_same (accepts e) (accepts e') = refl
  ends_same (accepts e) (wrong e') = absurd (omega (arith, e, e'))
  ends_same (accepts e) (broken r e' n b) = absurd (n (omega (arith, e, e')))
  ends_same (wrong e) (accepts e') = absurd (omega (arith, e, e'))
  ends_same (wrong e) (wrong e') = refl
  ends_same (wrong e) (broken r e' n b) = absurd (omega (arith, e, e'))
  ends_same (broken r e' n b) (accepts e) = absurd (n (omega (arith, e, e')))
  ends_same (broken r e' n b) (wrong e) = absurd (omega (arith, e, e'))
  ends_same (broken r e n b) (broken r' e' n' b') = refl

  -- the machine's way from a configuration to its own end: the same end, the same number of steps, as many places in use
  pub record Same (i j m₁ m₂ : ℕ) (c₁ c₂ : Config) (n₁ n₂ : ℕ) : Type 0 where
    pub steps : i ≡ j
    pub most : m₁ ≡ m₂
    pub last : c₁ ≡ c₂
    pub number : n₁ ≡ n₂

  pub same_way : {c c₁ c₂ : Config} {i j m₁ m₂ n₁ n₂ : ℕ} → Path t i m₁ c c₁ → Ends t c₁ n₁ → Path t j m₂ c c₂ → Ends t c₂ n₂ → Same i j m₁ m₂ c₁ c₂ n₁ n₂
  same_way Path.none e Path.none f = record { steps = refl; most = refl; last = refl; number = ends_same e f }
  same_way Path.none e (Path.more s m) f = absurd (no_step e s)
  same_way (Path.more s m) e Path.none f = absurd (no_step f s)
  same_way (Path.more {c = c} s m) e (Path.more s' m') f =
      let t = same_way m e (rw (step_same s' s) at m') f in
      record { steps = ap suc t.steps; most = ap (max (depth c)) t.most; last = t.last; number = t.number }

  -- ---- what a step and a path change

  drop_shorter : (n : ℕ) (qs : List ℕ) → length (drop n qs) ≤ length qs
  drop_shorter zero qs = omega arith
  drop_shorter (suc n) [] = omega arith
  drop_shorter (suc n) (q ∷ qs) = let h = drop_shorter n qs in omega arith

  -- a step uses at most one place more of the stack than there are
  pub one_deeper : {c c' : Config} → Step t c c' → depth c' ≤ suc (depth c)
  one_deeper (shift s e h k) = omega arith
  one_deeper (reduce {q} {qs} r p ps s e n d f h) = let z = ap length d in let y = drop_shorter (length_of t r) (q ∷ qs) in omega (arith, z, y)

  lists_on : {c c' : Config} → Step t c c' → listed c ≤ listed c'
  lists_on (shift s e h k) = omega arith
  lists_on (reduce {out = out} r p ps s e n d f h) = let z = length-append out (r ∷ []) in omega (arith, z)

  pub path_depth : {n m : ℕ} {c c' : Config} → Path t n m c c' → depth c ≤ m
  path_depth Path.none = omega arith
  path_depth (Path.more s p) = omega arith

  pub path_lists : {n m : ℕ} {c c' : Config} → Path t n m c c' → listed c ≤ listed c'
  path_lists Path.none = omega arith
  path_lists (Path.more s p) = let a = lists_on s in let b = path_lists p in omega arith

  pub path_last : {n m : ℕ} {c c' : Config} → Path t n m c c' → depth c' ≤ m
  path_last Path.none = omega arith
  path_last (Path.more s p) = let b = path_last p in omega arith
