-- The steps of the walk in the area, from the mathematics on functions. Assumes nothing.
use mathlib.Core.Path.{◌≡◌, refl, sym, ap, ◌∙◌, subst, fun_ext}
use mathlib.Core.List.{List}
use mathlib.Core.Logic.{◌⊎◌, ⊎_elim}
use Prim.Native.Nat.{ℕ, ◌+◌, ◌-◌, ◌≤◌, ◌<◌, min}
use native.Mathlib.Omega.{arith}
use lib.Bits.{bit_or}
use lib.ListN.{length, set, length-set}
use lib.Seq.{get_or-set_same, get_or-set_other}
use lib.ListN.{replicate, take, drop, length-replicate, length-drop, get_or-append}
use lib.Seq.{length-take-le}
use mathlib.Core.List.{◌++◌}
use borrow.Rule.Slice.PartMut.{put_mid}
use Rattle.std.proofs.lemmas.List.{get_or-append_right, get_or-replicate, get_or-take, get_or-drop}
use Rattle.sets.specs.Bit.{Has}
use Rattle.areas.specs.Areas.{words_size}
use Rattle.transitions.specs.Places.{transition_limit, numbers_at, stack_at, shifts_at}
use Rattle.sets.proofs.HasLaws.{below_suc, eq_or}
use Rattle.completion.specs.Completion.{Completed}
use Rattle.digraph.specs.Walked.{at}
use Rattle.sets.specs.Reach.Reaches.{here}
use Rattle.digraph.specs.Walk.{Room, Kept, Entered, Visited, Scanned, Popped, Finished, Cleared, None, unvisited, num_in, stk_in, Inv, Frame, Ended, Scan, InvIn, ScanIn, FrameIn}
use Rattle.digraph.proofs.Theory as theory
use Rattle.digraph.proofs.Theory.{frame_refl, frame_trans}
use Rattle.digraph.proofs.Counts.{unvisited_le, unvisited_mono, unvisited_less}

-- ---- two stores: at i, then at j
module _ (z : List ℕ) (i a j b : ℕ) (z' : List ℕ) (stored : z' ≡ set (set z i a) j b) where
  stored_length : length z' ≡ length z
  stored_length = ap length stored ∙ simp length-set

  stored_last : j < length z → at z' j ≡ b
  stored_last h = ap (λ (l : List ℕ). at l j) stored ∙ get_or-set_same (set z i a) j b 0 (simp length-set h)

  stored_first : i < length z → (i ≡ j → ⊥) → at z' i ≡ a
  stored_first h ne = ap (λ (l : List ℕ). at l i) stored ∙ get_or-set_other (set z i a) j i b 0 ne ∙ get_or-set_same z i a 0 h

  stored_other : (v : ℕ) → (v ≡ i → ⊥) → (v ≡ j → ⊥) → at z' v ≡ at z v
  stored_other v ni nj = ap (λ (l : List ℕ). at l v) stored ∙ get_or-set_other (set z i a) j v b 0 nj ∙ get_or-set_other z i v a 0 ni

-- zeros are put for the numbers of the nodes
pub zeroed : (k n : ℕ) (z ys : List ℕ) → k ≤ transition_limit → words_size ≤ length z → n ≡ k → ys ≡ replicate (length (take n (drop numbers_at z))) 0
    → Cleared k z (put_mid numbers_at n z ys)
zeroed k n z ys small long en e = rw (en, e, en, count) (record { numbers = put; sets = λ v h. before v h; rest = behind })
  where
    front : length (take numbers_at z) ≡ numbers_at
    front = length-take-le numbers_at z (omega arith)

    count : length (take k (drop numbers_at z)) ≡ k
    count = length-take-le k (drop numbers_at z) (omega (arith, length-drop numbers_at z))

    many : length (replicate {A = ℕ} k 0) ≡ k
    many = length-replicate k 0

    before : (i : ℕ) → i < numbers_at → at (put_mid numbers_at k z (replicate k 0)) i ≡ at z i
    before i h = get_or-append (take numbers_at z) _ 0 i (omega (arith, front)) ∙ get_or-take numbers_at z i 0 h

    from : (i : ℕ) → at (put_mid numbers_at k z (replicate k 0)) (numbers_at + i) ≡ at (replicate k 0 ++ drop k (drop numbers_at z)) i
    from i = let e : numbers_at + i - numbers_at ≡ i = omega arith in get_or-append_right (take numbers_at z) _ numbers_at (numbers_at + i) 0 front (omega arith) ∙ ap (at (replicate k 0 ++ drop k (drop numbers_at z))) e

    put : (v : ℕ) → v < k → at (put_mid numbers_at k z (replicate k 0)) (numbers_at + v) ≡ 0
    put v h = from v ∙ get_or-append (replicate k 0) _ 0 v (omega (arith, many)) ∙ get_or-replicate k v 0 0 h

    behind : (i : ℕ) → stack_at ≤ i → at (put_mid numbers_at k z (replicate k 0)) i ≡ at z i
    behind i h =
        let e : i ≡ numbers_at + (i - numbers_at) = omega arith in
        let f : numbers_at + (k + (i - numbers_at - k)) ≡ i = omega arith in
        ap (at (put_mid numbers_at k z (replicate k 0))) e ∙ from (i - numbers_at)
        ∙ get_or-append_right (replicate k 0) _ k (i - numbers_at) 0 many (omega arith)
        ∙ get_or-drop k (drop numbers_at z) (i - numbers_at - k) 0 ∙ get_or-drop numbers_at z (k + (i - numbers_at - k)) 0 ∙ ap (at z) f

pub kept_same : {k : ℕ} {z : List ℕ} {d : ℕ} → Room k z d → Kept k z d z d
kept_same R = record { room = R; grows = omega arith; visited = λ v h e. e; rest = λ i h. refl }

-- ---- one position more is popped
module _ (k d depth s : ℕ) (z0 z : List ℕ) (nodes : (p : ℕ) → p < depth → stk_in z0 p < k) (P : Popped k d depth s z0 z) (pos : 0 < d) (le : d ≤ depth)
    (small : k ≤ transition_limit) (long : words_size ≤ length z) where
  pop_read : stk_in z (d - 1) ≡ stk_in z0 (d - 1)
  pop_read = P.rest (stack_at + (d - 1)) (omega arith)

  pub pop_node : (v : ℕ) → v ≡ stk_in z (d - 1) → v < k
  pop_node v e = omega (arith, nodes (d - 1) (omega arith), pop_read)

  module _ (v : ℕ) (e : v ≡ stk_in z (d - 1)) (z' : List ℕ) (stored : z' ≡ set (set z (numbers_at + v) 65535) v s) where
    vk : v < k
    vk = pop_node v e

    last : v ≡ stk_in z0 (d - 1)
    last = e ∙ pop_read

    gone_num : num_in z' v ≡ 65535
    gone_num = stored_first z (numbers_at + v) 65535 v s z' stored (omega (arith, vk)) (λ q. omega arith)

    gone_set : at z' v ≡ s
    gone_set = stored_last z (numbers_at + v) 65535 v s z' stored (omega (arith, vk))

    else_num : (u : ℕ) → u < k → (u ≡ v → ⊥) → num_in z' u ≡ num_in z u
    else_num u h ne = stored_other z (numbers_at + v) 65535 v s z' stored (numbers_at + u) (λ q. ne (omega arith)) (λ q. omega (arith, vk))

    else_set : (u : ℕ) → u < k → (u ≡ v → ⊥) → at z' u ≡ at z u
    else_set u h ne = stored_other z (numbers_at + v) 65535 v s z' stored u (λ q. omega arith) ne

    pub pop_more : Popped k (d - 1) depth s z0 z'
    pop_more = record {
      gone = λ p h g. ⊎_elim
          (λ q. (ap (num_in z') q ∙ gone_num, ap (at z') q ∙ gone_set))
          (λ q. let old = P.gone p (⊎_elim (λ y. absurd (q (ap (stk_in z0) y ∙ sym last))) (λ y. omega arith) (eq_or p (d - 1))) g in
          (else_num (stk_in z0 p) (nodes p g) q ∙ old.0, else_set (stk_in z0 p) (nodes p g) q ∙ old.1))
          (eq_or (stk_in z0 p) v);
      kept = λ u h ne.
          let q : u ≡ v → ⊥ = λ y. ne (d - 1) (omega arith) (omega arith) (sym last ∙ sym y) in
          let old = P.kept u h (λ p g. ne p (omega arith)) in
          (else_num u h q ∙ old.0, else_set u h q ∙ old.1);
      visited = λ u h y. ⊎_elim (λ q. absurd (omega (arith, gone_num, ap (num_in z') q))) (λ q. P.visited u h (sym (else_num u h q) ∙ y)) (eq_or u v);
      rest = λ i h. stored_other z (numbers_at + v) 65535 v s z' stored i (λ q. omega (arith, vk)) (λ q. omega (arith, vk)) ∙ P.rest i h;
    }

-- ---- a node is entered: a push, a scan, and its end
module _ (k : ℕ) (z : List ℕ) (d x : ℕ) (R : Room k z d) (xk : x < k) (x0 : num_in z x ≡ 0) where
  pub fits : d < k
  fits = omega (arith, R.deep, unvisited_less (num_in z) (λ _. 1) k x (λ v h e. absurd (omega arith)) xk x0 (λ e. omega arith))

  module _ (z1 : List ℕ) (stored : z1 ≡ set (set z (stack_at + d) x) (numbers_at + x) (d + 1)) where
    num_x : num_in z1 x ≡ d + 1
    num_x = stored_last z (stack_at + d) x (numbers_at + x) (d + 1) z1 stored (omega (arith, R.small, R.long))

    num_o : (v : ℕ) → v < k → (v ≡ x → ⊥) → num_in z1 v ≡ num_in z v
    num_o v h ne = stored_other z (stack_at + d) x (numbers_at + x) (d + 1) z1 stored (numbers_at + v) (λ q. omega (arith, R.small)) (λ q. ne (omega arith))

    stk_d : stk_in z1 d ≡ x
    stk_d = stored_first z (stack_at + d) x (numbers_at + x) (d + 1) z1 stored (omega (arith, R.small, R.long, fits)) (λ q. omega (arith, R.small))

    stk_o : (p : ℕ) → p < d → stk_in z1 p ≡ stk_in z p
    stk_o p h = stored_other z (stack_at + d) x (numbers_at + x) (d + 1) z1 stored (stack_at + p) (λ q. omega arith) (λ q. omega (arith, R.small))

    sets_same : (v : ℕ) → v < k → at z1 v ≡ at z v
    sets_same v h = stored_other z (stack_at + d) x (numbers_at + x) (d + 1) z1 stored v (λ q. omega (arith, R.small)) (λ q. omega (arith, R.small))

    push_rest : (i : ℕ) → shifts_at ≤ i → at z1 i ≡ at z i
    push_rest i h = stored_other z (stack_at + d) x (numbers_at + x) (d + 1) z1 stored i (λ q. omega (arith, R.small, fits)) (λ q. omega (arith, R.small))

    push_visited : (v : ℕ) → v < k → num_in z1 v ≡ 0 → num_in z v ≡ 0
    push_visited v h e = ⊎_elim (λ q. ap (num_in z) q ∙ x0) (λ q. sym (num_o v h q) ∙ e) (eq_or v x)

    pub push_less : unvisited (num_in z1) k < unvisited (num_in z) k
    push_less = unvisited_less (num_in z) (num_in z1) k x push_visited xk x0 (λ e. omega (arith, num_x))

    pub push_room : Room k z1 (d + 1)
    push_room = record {
      small = R.small;
      long = omega (arith, stored_length z (stack_at + d) x (numbers_at + x) (d + 1) z1 stored, R.long);
      deep = omega (arith, R.deep, push_less);
      node = λ p h. ⊎_elim (λ l. omega (arith, stk_o p l, R.node p l)) (λ q. omega (arith, ap (stk_in z1) q, stk_d)) (below_suc h);
    }

    -- then the edges are scanned
    module _ (E : ℕ → ℕ → Type 0) (z2 : List ℕ) (d2 : ℕ) (S : Scanned E k z1 (d + 1) x z2 d2 None) where
      pushed : (start : ℕ → ℕ) → InvIn E k start z d → ScanIn E k start z1 d (d + 1) x (E x) × FrameIn z z1 d
      pushed start I = (
        theory.pushed E k start (num_in z) (stk_in z) (at z) (num_in z1) (stk_in z1) (at z1) d x I xk x0 (omega (arith, R.small, fits)) num_x num_o stk_d stk_o sets_same,
        theory.push_frame E k start (num_in z) (stk_in z) (at z) (num_in z1) (stk_in z1) (at z1) d x I xk x0 (omega (arith, R.small, fits)) num_x num_o stk_d stk_o sets_same,
      )

      scanned : (start : ℕ → ℕ) → InvIn E k start z d → ScanIn E k start z2 d d2 x None
      scanned start I = (S.means start d (pushed start I).0).0

      framed : (start : ℕ → ℕ) → InvIn E k start z d → FrameIn z z2 d
      framed start I = frame_trans (omega arith) (pushed start I).1 (S.means start d (pushed start I).0).1

      seen : (v : ℕ) → v < k → num_in z2 v ≡ 0 → num_in z v ≡ 0
      seen v h e = push_visited v h (S.kept.visited v h e)

      x_seen : num_in z2 x ≡ 0 → ⊥
      x_seen e = omega (arith, num_x, S.kept.visited x xk e)

      -- x stays on the stack
      left : (num_in z2 x ≡ d + 1 → ⊥) → Entered E k z d x z2 d2
      left ne = record {
        kept = record { room = S.kept.room; grows = omega (arith, S.kept.grows); visited = seen; rest = λ i h. S.kept.rest i h ∙ push_rest i h };
        marked = x_seen;
        means = λ start I. ((scanned start I).inv, framed start I, theory.stays E k start (num_in z2) (stk_in z2) (at z2) d d2 x (scanned start I) ne);
      }

      -- all from x on is popped
      module _ (z3 : List ℕ) (l3 : length z3 ≡ length z2) (nx : num_in z2 x ≡ d + 1) (P : Popped k d d2 (at z2 x) z2 z3) where
        same_stk : (p : ℕ) → stk_in z3 p ≡ stk_in z2 p
        same_stk p = P.rest (stack_at + p) (omega arith)

        popped : Entered E k z d x z3 d
        popped = record {
          kept = record {
            room = record {
              small = R.small;
              long = omega (arith, l3, S.kept.room.long);
              deep = omega (arith, R.deep, unvisited_mono (num_in z) (num_in z3) k (λ v h e. seen v h (P.visited v h e)));
              node = λ p h. omega (arith, same_stk p, S.kept.room.node p (omega (arith, S.kept.grows)));
            };
            grows = omega arith;
            visited = λ v h e. seen v h (P.visited v h e);
            rest = λ i h. P.rest i (omega arith) ∙ S.kept.rest i h ∙ push_rest i h;
          };
          marked = λ e. x_seen (P.visited x xk e);
          means = λ start I.
              let low : d2 ≤ transition_limit = omega (arith, R.small, S.kept.room.deep) in
              subst
              (λ (s : ℕ → ℕ). Inv E k start (num_in z3) s (at z3) d × Frame (num_in z) (stk_in z) (at z) (num_in z3) s (at z3) d × Ended E start (num_in z3) s (at z3) d d x)
              (sym (fun_ext same_stk)) (
                theory.pop_inv E k start (num_in z2) (stk_in z2) (at z2) d d2 x (scanned start I) nx low (num_in z3) (at z3) P.gone P.kept,
                frame_trans (omega arith) (framed start I)
                    (theory.pop_frame E k start (num_in z2) (stk_in z2) (at z2) d d2 x (scanned start I) nx low (num_in z3) (at z3) P.gone P.kept),
                theory.pop_ended E k start (num_in z2) (stk_in z2) (at z2) d d2 x (scanned start I) nx low (num_in z3) (at z3) P.gone P.kept,
              );
        }

      pub entered : (z3 : List ℕ) (r : ℕ) → length z3 ≡ length z2 → Finished k x d d2 z2 z3 r → Entered E k z d x z3 r
      entered z3 r l f = ⊎_elim
          (λ a. subst (Entered E k z d x z3) (sym a.1) (popped z3 l a.0 a.2))
          (λ a. subst (Entered E k z d x z3) (sym a.1) (subst (λ (y : List ℕ). Entered E k z d x y d2) (sym a.2) (left a.0))) f

-- ---- the edges of a node are scanned
module _ (E : ℕ → ℕ → Type 0) (k : ℕ) (z : List ℕ) (d x : ℕ) where
  pub scan_first : (left : ℕ → Type 0) → Room k z d → ((w : ℕ) → E x w → left w) → Scanned E k z d x z d left
  scan_first left R all = record { kept = kept_same R; means = λ start b S. (theory.scan_left E k start all S, frame_refl) }

  module _ (left : ℕ → Type 0) (z1 : List ℕ) (d1 : ℕ) (S : Scanned E k z d x z1 d1 left) where
    pub scan_last : ((w : ℕ) → left w → ⊥) → Scanned E k z d x z1 d1 None
    scan_last none = record { kept = S.kept; means = λ start b s. let q = S.means start b s in (theory.scan_left E k start none q.0, q.1) }

    pub scan_fewer : unvisited (num_in z1) k ≤ unvisited (num_in z) k
    scan_fewer = unvisited_mono (num_in z) (num_in z1) k S.kept.visited

    -- an edge to y more: y is visited, and joined to x
    module _ (y : ℕ) (xk : x < k) (yk : y < k) (xy : E x y) (left' : ℕ → Type 0) (next : (w : ℕ) → left w → (w ≡ y) ⊎ left' w) (z2 : List ℕ) (d2 : ℕ) (U : Visited E k z1 d1 y z2 d2)
        (z3 : List ℕ) (stored : z3 ≡ set (set z2 x (bit_or (at z2 x) (at z2 y))) (numbers_at + x) (min (num_in z2 x) (num_in z2 y))) where
      room2 : Room k z2 d2
      room2 = U.kept.room

      nx : num_in z3 x ≡ min (num_in z2 x) (num_in z2 y)
      nx = stored_last z2 x (bit_or (at z2 x) (at z2 y)) (numbers_at + x) (min (num_in z2 x) (num_in z2 y)) z3 stored (omega (arith, room2.small, room2.long))

      no : (v : ℕ) → v < k → (v ≡ x → ⊥) → num_in z3 v ≡ num_in z2 v
      no v h ne = stored_other z2 x (bit_or (at z2 x) (at z2 y)) (numbers_at + x) (min (num_in z2 x) (num_in z2 y)) z3 stored (numbers_at + v) (λ q. omega (arith, room2.small)) (λ q. ne (omega arith))

      fx : at z3 x ≡ bit_or (at z2 x) (at z2 y)
      fx = stored_first z2 x (bit_or (at z2 x) (at z2 y)) (numbers_at + x) (min (num_in z2 x) (num_in z2 y)) z3 stored (omega (arith, room2.small, room2.long)) (λ q. omega arith)

      fo : (v : ℕ) → v < k → (v ≡ x → ⊥) → at z3 v ≡ at z2 v
      fo v h ne = stored_other z2 x (bit_or (at z2 x) (at z2 y)) (numbers_at + x) (min (num_in z2 x) (num_in z2 y)) z3 stored v ne (λ q. omega (arith, room2.small))

      behind : (i : ℕ) → stack_at ≤ i → at z3 i ≡ at z2 i
      behind i h = stored_other z2 x (bit_or (at z2 x) (at z2 y)) (numbers_at + x) (min (num_in z2 x) (num_in z2 y)) z3 stored i (λ q. omega (arith, room2.small)) (λ q. omega (arith, room2.small))

      same : (p : ℕ) → stk_in z3 p ≡ stk_in z2 p
      same p = behind (stack_at + p) (omega arith)

      join_visited : (v : ℕ) → v < k → num_in z3 v ≡ 0 → num_in z2 v ≡ 0
      join_visited v h e = ⊎_elim (λ q. let y0 : num_in z2 y ≡ 0 → ⊥ = U.marked in let m : num_in z3 x ≡ 0 = ap (num_in z3) (sym q) ∙ e in ap (num_in z2) q ∙ omega (arith, nx, y0)) (λ q. sym (no v h q) ∙ e) (eq_or v x)

      pub scan_more : Scanned E k z d x z3 d2 left'
      scan_more = record {
        kept = record {
          room = record {
            small = room2.small;
            long = omega (arith, stored_length z2 x (bit_or (at z2 x) (at z2 y)) (numbers_at + x) (min (num_in z2 x) (num_in z2 y)) z3 stored, room2.long);
            deep = omega (arith, room2.deep, unvisited_mono (num_in z2) (num_in z3) k join_visited);
            node = λ p h. omega (arith, same p, room2.node p h);
          };
          grows = omega (arith, S.kept.grows, U.kept.grows);
          visited = λ v h e. S.kept.visited v h (U.kept.visited v h (join_visited v h e));
          rest = λ i h. behind i (omega arith) ∙ U.kept.rest i h ∙ S.kept.rest i h;
        };
        means = λ start b s.
            let q = S.means start b s in
            let r = U.means start q.0.inv in
            let low : d2 ≤ transition_limit = omega (arith, room2.small, room2.deep) in
            subst
            (λ (f : ℕ → ℕ). Scan E k start (num_in z3) f (at z3) b d2 x left' × Frame (num_in z) (stk_in z) (at z) (num_in z3) f (at z3) b)
            (sym (fun_ext same)) (
              theory.taken E k start (num_in z1) (stk_in z1) (at z1) (num_in z2) (stk_in z2) (at z2) (num_in z3) (at z3) b d1 d2 x y left left' q.0 r.0 r.1 r.2
                  yk xy next low U.marked nx no fx fo,
              frame_trans (omega arith) q.1
                  (theory.taken_frame E k start (num_in z1) (stk_in z1) (at z1) (num_in z2) (stk_in z2) (at z2) (num_in z3) (at z3) b d1 d2 x y left left' q.0 r.0 r.1 r.2
                  yk xy next low U.marked nx no fx fo),
            );
      }

-- ---- the walk: from an empty stack to an empty stack
pub empty_room : (k : ℕ) (z : List ℕ) → k ≤ transition_limit → words_size ≤ length z → Room k z 0
empty_room k z small long = record { small = small; long = long; deep = omega (arith, unvisited_le (num_in z) k); node = λ p h. absurd (omega arith) }

module _ (E : ℕ → ℕ → Type 0) (k : ℕ) (z : List ℕ) where
  pub cleared : (z0 : List ℕ) → k ≤ transition_limit → Cleared k z0 z → InvIn E k (at z0) z 0
  cleared z0 small C = record {
    node = λ p h. absurd (omega arith);
    low_pos = λ p h. absurd (omega arith);
    low_le = λ p h. absurd (omega arith);
    low_reach = λ p h. absurd (omega arith);
    apart = λ p q h g e. omega arith;
    found = λ v h a c. absurd (a (C.numbers v h));
    sound = λ v m h i. (v, here, subst (λ (s : ℕ). Has s m) (C.sets v (omega arith)) i);
    starts = λ v m h i. subst (λ (s : ℕ). Has s m) (sym (C.sets v (omega arith))) i;
    full = λ v m h e j. absurd (omega (arith, C.numbers v h));
  }

  pub rooted : (x : ℕ) (z' : List ℕ) (d' : ℕ) → Visited E k z 0 x z' d' → (start : ℕ → ℕ) → InvIn E k start z 0 → InvIn E k start z' 0
  rooted x z' d' U start I =
      let q = U.means start I in
      ⊎_elim
      (⊎_elim (λ a. subst (InvIn E k start z') a.1 q.0) (λ a. absurd (omega (arith, a.2, q.0.low_pos 0 a.0, ap (num_in z') a.1))))
      (λ a. absurd (omega (arith, a.1))) q.2

  pub ended : (start : ℕ → ℕ) → ((v : ℕ) → v < k → num_in z v ≡ 0 → ⊥) → InvIn E k start z 0 → Completed E k start (at z)
  ended start seen I = record {
    only = I.sound;
    all = λ v m h j. ⊎_elim (λ e. I.full v m h e j) (λ e. absurd (omega (arith, (I.found v h (seen v h) e).1))) (eq_or (num_in z v) 65535);
  }
