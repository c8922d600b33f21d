-- What `all` and `any` over a range of numbers answer, where the closure is a test p.
use Rattle.std.proofs.Common.{◌≡◌, ℕ, ◌+◌, ◌-◌, ◌<◌, ◌≤◌, Bool, true, false, List, length, Option, MatchOption, MatchBool, refl, sym, arith, zero-add}
use Rattle.std.specs.declared.ops.Range.{Range}
use Rattle.std.specs.Fn.{Called}
use Rattle.std.specs.Iterator.{YieldsThen}
use Rattle.std.specs.List.{FoldsTo, range_with_len, AllWithin, HoldsAt}
use Rattle.std.proofs.iter.Yields.{nat_range_steps}
use Rattle.std.proofs.lemmas.Iterator.{cases_from_all, cases_from_any, YieldsList-from_range}
use Rattle.std.proofs.lemmas.List.FromFn.{length-range_with_len, get_or-range_with_len}
use denote.Param.Members.{Mut}
use Rattle.sets.specs.Bit.{Tells}
use Rattle.sets.specs.Tests.{all_below}
use Rattle.sets.proofs.TestLaws.{all_fails, all_true}

-- n numbers, from a on
module _ (a n : ℕ) (P : ℕ → Type 0) where
  every_of : AllWithin P (range_with_len a n) 0 (length (range_with_len a n)) → (k : ℕ) → k < n → P (a + k)
  every_of h k l =
      rw (get_or-range_with_len a n k 0 l) at (h k 0 (omega arith) (rw (length-range_with_len a n) l))

  some_of : (k : ℕ) × (k < length (range_with_len a n)) × HoldsAt P (range_with_len a n) k → (k : ℕ) × (k < n) × P (a + k)
  some_of (k, l, h) = let m : k < n = rw (length-range_with_len a n) at l in (k, m, rw (get_or-range_with_len a n k 0 m) at (h 0))

-- a closure g that is f at each call, and answers p of the number
abbrev pub Asks : {F : Type 0} → Mut F (ℕ × Unit {0}) Bool → F → (ℕ → Bool) → Type 0
Asks {F} g f p = (x : ℕ) (b : Bool) (q : F) → Called g f (x, tt) b q → (q ≡ f) × (b ≡ p x)

all_told : (p : ℕ → Bool) (n : ℕ) (r : Bool) → MatchBool r (AllWithin (λ k. p k ≡ true) (range_with_len 0 n) 0 (length (range_with_len 0 n))) ((k : ℕ) × (k < length (range_with_len 0 n)) × HoldsAt (λ k. p k ≡ false) (range_with_len 0 n) k) → r ≡ all_below n p
all_told p n true h = sym (all_true p n (λ k l. rw (zero-add k) at (every_of 0 n (λ k. p k ≡ true) h k l)))
all_told p n false h = let w = some_of 0 n (λ k. p k ≡ false) h in all_fails p n w.0 w.1 (rw (zero-add w.0) at w.2)

-- `(0..n).all(f)`
pub all_from_range : {F : Type 0} {g : Mut F (ℕ × Unit {0}) Bool} {s u : Range ℕ} {f : F} (p : ℕ → Bool) (n : ℕ) (r : Bool) → (xs : List ℕ) × (o : Option ℕ) × (j : F) × YieldsThen nat_range_steps s xs o u × FoldsTo (λ p x q. Called g p (x, tt) true q) f xs j × MatchOption o (r ≡ true) (λ x. (r ≡ false) × ((h : F) × Called g j (x, tt) false h)) → s ≡ record { start = 0; end = n } → Asks g f p → r ≡ all_below n p
all_from_range {u = u} {f = f} p n r ran e asks =
    all_told p n r
    (cases_from_all u f r (λ k. p k ≡ true) (λ k. p k ≡ false) ran (YieldsList-from_range 0 n n e (omega arith))
    (λ x q k. let w = asks x true q k in (w.0, sym w.1))
    (λ x q k. sym ((asks x false q k).1)))

any_told : (p : ℕ → Bool) (a b : ℕ) (r : Bool) → MatchBool r ((k : ℕ) × (k < length (range_with_len a (b - a))) × HoldsAt (λ k. p k ≡ true) (range_with_len a (b - a)) k) (AllWithin (λ k. p k ≡ false) (range_with_len a (b - a)) 0 (length (range_with_len a (b - a)))) → Tells r ((k : ℕ) × (a ≤ k) × (k < b) × (p k ≡ true))
any_told p a b true h =
    let w = some_of a (b - a) (λ k. p k ≡ true) h in
    record { yes = λ _. (a + w.0, omega arith, omega arith, w.2); so = λ _. refl }
any_told p a b false h = record { yes = λ z. absurd (cc); so = λ w. absurd (never w.0 w.1 w.2 w.3) }
  where
    never : (k : ℕ) → a ≤ k → k < b → p k ≡ true → ⊥
    never k l m t =
        let e : a + (k - a) ≡ k = omega arith in
        let z : p k ≡ false = rw e at (every_of a (b - a) (λ k. p k ≡ false) h (k - a) (omega arith)) in
        cc

-- `(a..b).any(f)`
pub any_from_range : {F : Type 0} {g : Mut F (ℕ × Unit {0}) Bool} {s u : Range ℕ} {f : F} (p : ℕ → Bool) (a b : ℕ) (r : Bool) → (xs : List ℕ) × (o : Option ℕ) × (j : F) × YieldsThen nat_range_steps s xs o u × FoldsTo (λ p x q. Called g p (x, tt) false q) f xs j × MatchOption o (r ≡ false) (λ x. (r ≡ true) × ((h : F) × Called g j (x, tt) true h)) → s ≡ record { start = a; end = b } → Asks g f p → Tells r ((k : ℕ) × (a ≤ k) × (k < b) × (p k ≡ true))
any_from_range {u = u} {f = f} p a b r ran e asks =
    any_told p a b r
    (cases_from_any u f r (λ k. p k ≡ true) (λ k. p k ≡ false) ran (YieldsList-from_range a b (b - a) e refl)
    (λ x q k. sym ((asks x true q k).1))
    (λ x q k. let w = asks x false q k in (w.0, sym w.1)))
