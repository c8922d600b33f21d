-- The edges of reads: the transitions of one state, in their order.
use mathlib.Core.Path.{◌≡◌, sym, ◌∙◌}
use mathlib.Core.List.{List}
use mathlib.Core.Logic.{inl, inr, ⊎_elim}
use Prim.Native.Nat.{ℕ, ◌+◌, ◌≤◌, ◌<◌}
use native.Mathlib.Omega.{arith}
use native.Mathlib.Nat.{eq-or-lt_of_le}
use Rattle.sets.proofs.HasLaws.{lt_or_ge}
use Rattle.transitions.specs.Area.{nonterminal_of, enters_of, first_of, shortest_of}
use Rattle.transitions.specs.Occurrences.{Nullable}
use Rattle.transitions.specs.Data.{Ordered}
use Rattle.relations.specs.Walk.{Sound, room_of, Next}
use Rattle.relations.specs.declared.Relation.TheVariants as relation
use Rattle.relations.specs.declared.Cursor.{Cursor}

-- the area says how many transitions there are
pub same_count : (c w : List ℕ) (k m : ℕ) → Ordered c w k → Ordered c w m → m ≡ k
same_count c w k m K M = sym M.total ∙ K.total

module _ (c w : List ℕ) (k x : ℕ) (O : Ordered c w k) where
  -- no transition from the cursor's on and below i is read
  module _ (cursor : Cursor) (i : ℕ) (gap : (y : ℕ) → cursor.at ≤ y → y < i → Nullable c (shortest_of w) (nonterminal_of w y) → ⊥) where
    pub reads_found : (s : List ℕ) → x < k → Sound relation.Reads c w x cursor → cursor.at ≤ i → i < first_of w (enters_of w x + 1) → Nullable c (shortest_of w) (nonterminal_of w i)
        → Next relation.Reads c w k x cursor (record { node = i; cursor = record { at = i + 1; set = s } })
    unfolding room_of
    reads_found s hx S h l n =
        let a = O.from (enters_of w x) i (O.enters x hx) (omega arith) l in
        record {
          here = record { inside = a.0; related = record { state = a.1; nullable = n } };
          after = λ y d.
              let e = d.remaining in
              ⊎_elim
              (λ (g : y < i). absurd (gap y e.0 g e.1.nullable))
              (λ (g : i ≤ y).
              ⊎_elim (λ (f : i ≡ y). inl (sym f)) (λ (f : i < y). inr (record { inside = d.inside; remaining = (omega arith, e.1) })) (eq-or-lt_of_le g))
              (lt_or_ge y i);
          less = omega arith;
          sound = omega arith;
        }
