-- The predecessors of a state joined into a set, and those of all states of a set.
use mathlib.Core.Path.{◌≡◌, sym, ap, ap₂, ◌∙◌}
use mathlib.Core.List.{List}
use mathlib.Core.Bool.{Bool, true, ◌||◌}
use mathlib.Core.Logic.{◌⊎◌, inl, inr, ⊎_elim}
use Prim.Native.Nat.{ℕ, ◌+◌, ◌*◌, ◌/◌, ◌%◌, ◌≤◌, ◌<◌}
use native.Mathlib.Omega.{arith}
use lib.ListN.{length, get_or, set, length-set}
use lib.Seq.{get_or-set_same, get_or-set_other}
use lib.Bits.{bit_or}
use Rattle.sets.specs.Bit.{bit}
use Rattle.sets.proofs.BitLaws.{bit_of_or}
use Rattle.sets.proofs.HasLaws.{below_suc, or_cases, or_left, or_right}
use Rattle.items.specs.Item.{item}
use Rattle.transitions.specs.Area.{entering_of, precedes}
use Rattle.transitions.specs.Data.{Enters}
use Rattle.relations.specs.Steps.{Adds, Into}

-- t is s with the states before q joined into the words below j
pub record Part (w : List ℕ) (q : ℕ) (s : List ℕ) (j : ℕ) (t : List ℕ) : Type 0 where
  pub most : j ≤ 4
  pub long : length t ≡ 4
  pub done : (k m : ℕ) → k < j → m < 64 → bit (get_or t k 0) m ≡ (bit (get_or s k 0) m || precedes w q (64 * k + m))
  pub rest : (k : ℕ) → j ≤ k → get_or t k 0 ≡ get_or s k 0

module _ (w : List ℕ) (q : ℕ) (s : List ℕ) (j : ℕ) (t : List ℕ) (p : Part w q s j t) where
  pub part_more : (v : ℕ) → j < 4 → ((m : ℕ) → m < 64 → bit v m ≡ precedes w q (64 * j + m)) → Part w q s (j + 1) (set t j (bit_or (get_or t j 0) v))
  part_more v h bits = record {
    most = omega arith;
    long = length-set t j _ ∙ p.long;
    done = λ k m l g.
        ⊎_elim
        (λ (q : k < j). ap (λ (x : ℕ). bit x m) (get_or-set_other t j k _ 0 (λ e. omega arith)) ∙ p.done k m q g)
        (λ (e : k ≡ j).
        rw e (ap (λ (x : ℕ). bit x m) (get_or-set_same t j (bit_or (get_or t j 0) v) 0 (omega (arith, p.long)))
        ∙ bit_of_or (get_or t j 0) v m ∙ ap₂ (λ (x : ℕ) (y : Bool). bit x m || y) (p.rest j (omega arith)) (bits m g)))
        (below_suc l);
    rest = λ k l. get_or-set_other t j k _ 0 (λ e. omega arith) ∙ p.rest k (omega arith);
  }

pub part_items : (w : List ℕ) (q : ℕ) (s t : List ℕ) → Part w q s 4 t → (p : ℕ) → p < 256 → item t p ≡ (item s p || precedes w q p)
unfolding item
part_items w q s t part p h =
    let a : 64 * (p / 64) + p % 64 ≡ p = omega arith in
    part.done (p / 64) (p % 64) (omega arith) (omega arith) ∙ ap (λ (x : ℕ). bit (get_or s (p / 64) 0) (p % 64) || precedes w q x) a

pub adds : (w : List ℕ) (q x : ℕ) (s t : List ℕ) → q < 256 → entering_of w q ≡ x → ((p : ℕ) → p < 256 → item t p ≡ (item s p || precedes w q p)) → Adds w s x q t
adds w q x s t h e is = record {
  only = λ p l g.
      ⊎_elim inl (λ b. inr (record { from = l; into = h; before = b; symbol = e }))
      (or_cases (item s p) (precedes w q p) (sym (is p l) ∙ g));
  kept = λ p l g. is p l ∙ or_left (item s p) (precedes w q p) g;
  all = λ p g. is p g.from ∙ or_right (item s p) (precedes w q p) g.before;
}

pub part_end : (w : List ℕ) (q : ℕ) (s : List ℕ) (j : ℕ) (t : List ℕ) (x : ℕ) → Part w q s j t → 4 ≤ j → q < 256 → entering_of w q ≡ x → Adds w s x q t
part_end w q s j t x p h hq e =
    let ej : j ≡ 4 = omega (arith, p.most) in
    adds w q x s t hq e (part_items w q s t (rw ej at p))

-- t has the predecessors by x of the states of s that are not left
pub record Walked (w s : List ℕ) (x : ℕ) (left t : List ℕ) : Type 0 where
  pub sub : (p : ℕ) → item left p ≡ true → item s p ≡ true
  pub only : (p : ℕ) → p < 256 → item t p ≡ true → Into w s x p
  pub all : (p q : ℕ) → item s q ≡ true → Enters w p x q → (item left q ≡ true) ⊎ (item t p ≡ true)
