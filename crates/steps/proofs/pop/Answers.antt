-- Zeros in the popped places, all at once, are what popping one place after the other leaves.
use Rattle.std.proofs.Common.{◌≡◌, List, ℕ, zero, suc, ◌+◌, ◌-◌, ◌<◌, ◌≤◌, ◌∷◌, ◌++◌, take, drop, replicate, length, sym, ap, ◌∙◌, refl, set, arith}
use Rattle.std.proofs.Math.ListN.{length-set, take-append-drop}
use Rattle.std.proofs.lemmas.List.{take-set-le, drop-set}
use Rattle.std.proofs.lemmas.Grind.{common_steps}
use Rattle.machine.specs.ComputedRun.{popped}
use Rattle.steps.proofs.pop.Goals as goal

zeros_more : (n : ℕ) (xs : List ℕ) → replicate n 0 ++ (0 ∷ xs) ≡ replicate (suc n) 0 ++ xs
zeros_more zero xs = refl
zeros_more (suc n) xs = ap (λ ys. 0 ∷ ys) (zeros_more n xs)

popped_is : (a n : ℕ) (s : List ℕ) → a + n ≤ length s → popped s (a + n) n ≡ take a s ++ (replicate n 0 ++ drop (a + n) s)
unfolding popped
popped_is a zero s h = let e : a + 0 ≡ a = omega arith in rw e (sym (take-append-drop a s))
popped_is a (suc n) s h =
    let e : a + suc n - 1 ≡ a + n = omega arith in
    let k : a + n < length s = omega arith in
    let i = popped_is a n (set s (a + n) 0) (rw length-set (omega arith)) in
    let t = take-set-le a s (a + n) 0 (omega arith) in
    let d = drop-set s (a + n) 0 k in
    let m : a + suc n ≡ a + n + 1 = omega arith in
    rw e (i ∙ rw (t, d, zeros_more n, m) refl)

pub returns : goal.returns
returns c =
    let e : c.args.depth - c.args.n + c.args.n ≡ c.args.depth = omega arith in
    let p = rw e at (popped_is (c.args.depth - c.args.n) c.args.n c.args.stack.now (omega arith)) in
    grind (arith, common_steps)
