-- Laws of what is reached, and that completed sets are determined by the starting sets. Assumes nothing.
use mathlib.Core.Path.{◌≡◌, refl, sym}
use mathlib.Core.Bool.{Bool, true, false}
use Prim.Native.Nat.{ℕ, ◌<◌}
use Rattle.sets.specs.Bit.{bit, Has}
use Rattle.sets.specs.Reach.{Reaches}
use Rattle.sets.specs.Reach.Reaches.{here, step}
use Rattle.sets.proofs.BitLaws.{bits_eq}
use Rattle.completion.specs.Completion.{Among, Join, Completed}

pub reaches_trans : {A : Type 0} {E : A → A → Type 0} {a b c : A} → Reaches E a b → Reaches E b c → Reaches E a c
reaches_trans here r = r
reaches_trans (step e q) r = step e (reaches_trans q r)

pub join_reaches : {E : ℕ → ℕ → Type 0} {v w : ℕ} (F : ℕ → ℕ) (m : ℕ) → Reaches E v w → Join E F w m → Join E F v m
join_reaches F m r j = (j.0, reaches_trans r j.1, j.2)

-- a node of a relation among k nodes reaches nodes alone
pub reaches_inside : {E : ℕ → ℕ → Type 0} {k v u : ℕ} → Among E k → v < k → Reaches E v u → u < k
reaches_inside among h here = h
reaches_inside among h (step {a} {b} e r) = reaches_inside among (among a b h e) r

same_test : (p q : Bool) → (p ≡ true → q ≡ true) → (q ≡ true → p ≡ true) → p ≡ q
same_test true q f g = sym (f refl)
same_test false true f g = g refl
same_test false false f g = refl

-- a set is what is in it
pub same_set : (a b : ℕ) → ((m : ℕ) → Has a m → Has b m) → ((m : ℕ) → Has b m → Has a m) → a ≡ b
same_set a b f g = bits_eq a b (λ m. same_test (bit a m) (bit b m) (f m) (g m))

-- the completed sets are determined by the relation and the sets before
pub one_answer : {E : ℕ → ℕ → Type 0} {k : ℕ} {F F1 F2 : ℕ → ℕ} → Completed E k F F1 → Completed E k F F2 → (v : ℕ) → v < k → F1 v ≡ F2 v
one_answer {F1 = F1} {F2 = F2} a b v h = same_set (F1 v) (F2 v) (λ m i. b.all v m h (a.only v m h i)) (λ m i. a.all v m h (b.only v m h i))

-- nodes on one cycle share one set
pub shared : {E : ℕ → ℕ → Type 0} {k : ℕ} {F F' : ℕ → ℕ} → Completed E k F F' → (v w : ℕ) → v < k → w < k → Reaches E v w → Reaches E w v → F' v ≡ F' w
shared {F = F} {F' = F'} c v w h l r s =
    same_set (F' v) (F' w) (λ m i. c.all w m l (join_reaches F m s (c.only v m h i))) (λ m i. c.all v m h (join_reaches F m r (c.only w m l i)))
