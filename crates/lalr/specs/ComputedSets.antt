-- Computed, and not to be believed: `reach` is the set of all that the members reach by `reach_only` and `reach_all` of proofs/Reach.antt.
-- Finite sets of numbers are one number, bit k for the member k; `least` is the least set that a step leaves alone.
use Rattle.std.specs.Prelude.{Bool, true, false, List, [], ◌∷◌, ℕ, zero, suc, ◌+◌, ◌^◌, eqb}
use Rattle.sets.specs.Bit.{bit}

-- s with k
abbrev pub with' : ℕ → ℕ → ℕ
with' s k = elim (bit s k) [ true ↦ s | false ↦ s + 2 ^ k ]

-- s with each number of the list
abbrev pub with_all : ℕ → List ℕ → ℕ
with_all s [] = s
with_all s (k ∷ ks) = with_all (with' s k) ks

-- f at i, at i + 1, .. , n times, one after the other
abbrev pub sweep : (ℕ → ℕ → ℕ) → ℕ → ℕ → ℕ → ℕ
sweep f zero i s = s
sweep f (suc n) i s = sweep f n (suc i) (f i s)

-- the step again and again, from s, until it changes nothing; at most so many times
abbrev pub settle : (ℕ → ℕ) → ℕ → ℕ → ℕ
settle step zero s = s
settle step (suc n) s = let t = step s in elim (eqb t s) [ true ↦ s | false ↦ settle step n t ]

-- for sets of numbers below n: 2 ^ n times is often enough, since a set that grows is a larger number
abbrev pub least : ℕ → (ℕ → ℕ) → ℕ → ℕ
least n step s = settle step (2 ^ n) s

-- the step of a relation: where k is a member, all of `next k` join
abbrev pub visit : (ℕ → List ℕ) → ℕ → ℕ → ℕ
visit next k s = elim (bit s k) [ false ↦ s | true ↦ with_all s (next k) ]

-- the numbers below n that the members of s reach by `next`
abbrev pub reach : (ℕ → List ℕ) → ℕ → ℕ → ℕ
reach next n s = least n (sweep (visit next) n 0) s

-- ---- lists

-- the list where the test holds, else none
abbrev pub when : {A : Type 0} → Bool → List A → List A
when true l = l
when false l = []

-- the test holds of each number of the list
abbrev pub every : (ℕ → Bool) → List ℕ → Bool
every f [] = true
every f (x ∷ xs) = elim (f x) [ true ↦ every f xs | false ↦ false ]

-- k, k + 1, .. : n numbers
abbrev pub up_from : ℕ → ℕ → List ℕ
up_from k zero = []
up_from k (suc n) = k ∷ up_from (suc k) n
