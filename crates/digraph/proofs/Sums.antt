-- The sets that the walks along reads and along includes leave in the area add up. Assumes nothing.
use mathlib.Core.Path.{◌≡◌, refl, sym, ap, ◌∙◌}
use mathlib.Core.Logic.{⊎_elim}
use mathlib.Core.List.{List}
use Prim.Native.Nat.{ℕ, zero, suc, ◌≤◌, ◌<◌}
use native.Mathlib.Omega.{arith}
use lib.ListN.{length, set, length-set}
use lib.Seq.{get_or-set_same, get_or-set_other}
use Rattle.sets.proofs.HasLaws.{below_suc}
use Rattle.completion.specs.Completion.{Among}
use Rattle.completion.specs.Sums.{joined}
use Rattle.completion.proofs.Sums.{add_up, start_same, end_same}
use Rattle.transitions.specs.Places.{shifts_at}
use Rattle.relations.specs.Edge.{Edge}
use Rattle.relations.specs.declared.Relation.{Relation}
use Rattle.relations.specs.declared.Relation.TheVariants as relation
use Rattle.relations.proofs.Decided.{edge_decided}
use Rattle.digraph.specs.Walked.{BothWalked, at}
use Rattle.digraph.specs.Sums.{WalkAddsUp, SomeJoined, BothAddUp}

-- ---- an area with other sets at its first places

module _ (F : ℕ → ℕ) (z : List ℕ) where
  filled : ℕ → List ℕ
  filled zero = z
  filled (suc n) = set (filled n) n (F n)

  filled_length : (n : ℕ) → length (filled n) ≡ length z
  unfolding filled
  filled_length zero = refl
  filled_length (suc n) = length-set (filled n) n (F n) ∙ filled_length n

  filled_rest : (n i : ℕ) → n ≤ i → at (filled n) i ≡ at z i
  unfolding filled
  filled_rest zero i h = refl
  filled_rest (suc n) i h = get_or-set_other (filled n) n i (F n) 0 (λ e. omega arith) ∙ filled_rest n i (omega arith)

  filled_sets : (n : ℕ) → n ≤ length z → (v : ℕ) → v < n → at (filled n) v ≡ F v
  unfolding filled
  filled_sets zero h v l = absurd (omega arith)
  filled_sets (suc n) h v l =
      ⊎_elim (λ b. get_or-set_other (filled n) n v (F n) 0 (λ e. omega arith) ∙ filled_sets n (omega arith) v b)
      (λ e. ap (at (set (filled n) n (F n))) e ∙ get_or-set_same (filled n) n (F n) 0 (omega (arith, filled_length n)) ∙ ap F (sym e))
      (below_suc {i = v} {n = n} (omega arith))

pub some_joined : (k : ℕ) → SomeJoined k
some_joined k x y room = (filled (joined (at x) (at y)) x k, filled_length (joined (at x) (at y)) x k, filled_sets (joined (at x) (at y)) x k room)

-- ---- the walks, along any relation

pub walked_adds_up : (E : ℕ → ℕ → Type 0) (k : ℕ) → Among E k → WalkAddsUp E k
walked_adds_up E k among = record {
  is_join = λ a. (add_up among).is_join a.sets;
  adds = λ _ _ _ _ _ _ a b d. (add_up among).adds a.sets b.sets d.sets;
  twice = λ a b. (add_up among).twice a.sets b.sets;
  of_joined = λ z z' a b e f. end_same (start_same among ((add_up among).of_joined a.sets b.sets) (λ v h. sym (e v h))) f;
  some = λ told z small room.
      let f = (add_up among).some told (at z) in (
        filled f.0 z k,
        record {
          sets = end_same f.1 (filled_sets f.0 z k room);
          rest = λ i h. filled_rest f.0 z k i (omega arith);
          size = filled_length f.0 z k;
        },
      );
}

pub both_walked_add_up : {R I : ℕ → ℕ → Type 0} {k : ℕ} → WalkAddsUp R k → WalkAddsUp I k → BothAddUp R I k
both_walked_add_up r i = record {
  adds = λ x y z x' y' z' a b d e. i.adds _ _ _ x' y' z' a.second b.second d.second (r.adds x y z _ _ _ a.first b.first d.first e);
  some = λ d e z small room.
      let a = r.some d z small room in
      let b = i.some e a.0 small (omega (arith, room, a.1.size)) in
      (b.0, record { between = a.0; first = a.1; second = b.1 });
}

-- ---- the walks of the maker

-- along reads, and along includes
pub walk_adds_up : (r : Relation) (c w : List ℕ) (k : ℕ) → WalkAddsUp (Edge r c w k) k
walk_adds_up r c w k = walked_adds_up (Edge r c w k) k (λ v u h e. e.inside)

-- along reads and then along includes
pub both_walks_add_up : (c w : List ℕ) (k : ℕ) → BothAddUp (Edge relation.Reads c w k) (Edge relation.Includes c w k) k
both_walks_add_up c w k = both_walked_add_up (walk_adds_up relation.Reads c w k) (walk_adds_up relation.Includes c w k)

-- both walks can be made of an area with room
pub both_walks_some : (c w : List ℕ) (k : ℕ) (z : List ℕ) → k ≤ shifts_at → k ≤ length z → (z'' : List ℕ) × BothWalked (Edge relation.Reads c w k) (Edge relation.Includes c w k) k z z''
both_walks_some c w k = (both_walks_add_up c w k).some (edge_decided relation.Reads c w k) (edge_decided relation.Includes c w k)
