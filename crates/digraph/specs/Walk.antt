-- What holds in the course of a walk. Only the contracts of private functions cite these definitions.
-- A state of the walk is three functions, named as by DeRemer and Pennello (their N, S and F):
-- `num v` is 0 for a node not visited, 65535 (their infinity) for one whose set is complete, and else the low number of a node on the stack;
-- `stk p` is the node at position p of the stack; `F v` is the set of v. `start` are the sets before the walk.
use Rattle.std.specs.Prelude.{◌≡◌, List, ◌⊎◌, ℕ, ◌+◌, ◌-◌, ◌≤◌, ◌<◌, eqb, length}
use Rattle.sets.specs.Bit.{Has, count}
use Rattle.areas.specs.Areas.{words_size}
use Rattle.transitions.specs.Places.{transition_limit, numbers_at, stack_at, shifts_at}
use Rattle.sets.specs.Reach.{Reaches}
use Rattle.completion.specs.Completion.{Join}
use Rattle.digraph.specs.Walked.{at}

-- how many of the nodes 0, .., k - 1 are not visited
unfoldable pub unvisited : (ℕ → ℕ) → ℕ → ℕ
unvisited num k = count (λ v. eqb (num v) 0) k

-- what holds between the steps of a walk, with d nodes on the stack
pub record Inv (E : ℕ → ℕ → Type 0) (k : ℕ) (start num stk F : ℕ → ℕ) (d : ℕ) : Type 0 where
  pub node : (p : ℕ) → p < d → stk p < k
  pub low_pos : (p : ℕ) → p < d → 1 ≤ num (stk p)
  pub low_le : (p : ℕ) → p < d → num (stk p) ≤ p + 1
  pub low_reach : (p : ℕ) → p < d → Reaches E (stk p) (stk (num (stk p) - 1))
  pub apart : (p q : ℕ) → p < q → q < d → stk p ≡ stk q → ⊥
  pub found : (v : ℕ) → v < k → (num v ≡ 0 → ⊥) → (num v ≡ 65535 → ⊥) → (p : ℕ) × (p < d) × (stk p ≡ v)
  pub sound : (v m : ℕ) → v < k → Has (F v) m → Join E start v m
  pub starts : (v m : ℕ) → v < k → Has (start v) m → Has (F v) m
  pub full : (v m : ℕ) → v < k → num v ≡ 65535 → Join E start v m → Has (F v) m

-- the edge to w is accounted for: all in w's join is in `top`, or w is on the stack below e, at low or above
abbrev pub Covered : (ℕ → ℕ → Type 0) → (ℕ → ℕ) → (ℕ → ℕ) → (ℕ → Type 0) → ℕ → ℕ → ℕ → Type 0
Covered E start stk top low e w = ((m : ℕ) → Join E start w m → top m) ⊎ ((q : ℕ) × (q < e) × (stk q ≡ w) × (low ≤ q + 1))

-- the stack's positions b to d: their sets are within top; each from f on leads to a lower position, at low or above;
-- and their edges are accounted for, but those of position b that are left
pub record Segment (E : ℕ → ℕ → Type 0) (start stk F : ℕ → ℕ) (top left : ℕ → Type 0) (low b d f e : ℕ) : Type 0 where
  pub within : (p m : ℕ) → b ≤ p → p < d → Has (F (stk p)) m → top m
  pub back : (p : ℕ) → f ≤ p → p < d → (q : ℕ) × (q < p) × (low ≤ q + 1) × Reaches E (stk p) (stk q)
  pub edges : (p w : ℕ) → b ≤ p → p < d → E (stk p) w → (p ≡ b → left w → ⊥) → Covered E start stk top low e w

-- no edge is left
abbrev pub None : ℕ → Type 0
None w = ⊥

-- the d nodes at the bottom of the stack are as they were
pub record Frame (num stk F num' stk' F' : ℕ → ℕ) (d : ℕ) : Type 0 where
  pub stack : (p : ℕ) → p < d → stk' p ≡ stk p
  pub number : (p : ℕ) → p < d → num' (stk p) ≡ num (stk p)
  pub set : (p : ℕ) → p < d → F' (stk p) ≡ F (stk p)

-- x, at position b, is being scanned: its edges are accounted for, but those that are left
pub record Scan (E : ℕ → ℕ → Type 0) (k : ℕ) (start num stk F : ℕ → ℕ) (b d x : ℕ) (left : ℕ → Type 0) : Type 0 where
  pub inv : Inv E k start num stk F d
  pub here : b < d
  pub this : stk b ≡ x
  pub seg : Segment E start stk F (Has (F x)) left (num x) b d (b + 1) d

-- y was entered at position b: it is complete, with nothing left above b; or it is on the stack, with a low number below its own
abbrev pub Ended : (ℕ → ℕ → Type 0) → (ℕ → ℕ) → (ℕ → ℕ) → (ℕ → ℕ) → (ℕ → ℕ) → ℕ → ℕ → ℕ → Type 0
Ended E start num stk F b d y =
    ((num y ≡ 65535) × (d ≡ b))
    ⊎ ((b < d) × (stk b ≡ y) × (num y ≤ b) × Segment E start stk F (Has (F y)) None (num y) b d b d)

-- y was entered at position b, or stood below it
abbrev pub Met : (ℕ → ℕ → Type 0) → (ℕ → ℕ) → (ℕ → ℕ) → (ℕ → ℕ) → (ℕ → ℕ) → ℕ → ℕ → ℕ → Type 0
Met E start num stk F b d y = Ended E start num stk F b d y ⊎ ((q : ℕ) × (q < b) × (stk q ≡ y) × (d ≡ b))

-- ---- the state in the area: the set of node v at place v, its number at numbers_at + v, position p of the stack at stack_at + p

abbrev pub num_in : List ℕ → ℕ → ℕ
num_in z v = at z (numbers_at + v)

abbrev pub stk_in : List ℕ → ℕ → ℕ
stk_in z p = at z (stack_at + p)

-- the area is long enough, and the stack has room for each node not visited
pub record Room (k : ℕ) (z : List ℕ) (d : ℕ) : Type 0 where
  pub small : k ≤ transition_limit
  pub long : words_size ≤ length z
  pub deep : d + unvisited (num_in z) k ≤ k
  pub node : (p : ℕ) → p < d → stk_in z p < k

-- what each part of a walk keeps: a visited node stays visited, the stack is no lower than it was, and what lies behind it is as it was
pub record Kept (k : ℕ) (z : List ℕ) (d : ℕ) (z' : List ℕ) (d' : ℕ) : Type 0 where
  pub room : Room k z' d'
  pub grows : d ≤ d'
  pub visited : (v : ℕ) → v < k → num_in z' v ≡ 0 → num_in z v ≡ 0
  pub rest : (i : ℕ) → shifts_at ≤ i → at z' i ≡ at z i

abbrev pub InvIn : (ℕ → ℕ → Type 0) → ℕ → (ℕ → ℕ) → List ℕ → ℕ → Type 0
InvIn E k start z d = Inv E k start (num_in z) (stk_in z) (at z) d

abbrev pub ScanIn : (ℕ → ℕ → Type 0) → ℕ → (ℕ → ℕ) → List ℕ → ℕ → ℕ → ℕ → (ℕ → Type 0) → Type 0
ScanIn E k start z b d x left = Scan E k start (num_in z) (stk_in z) (at z) b d x left

abbrev pub FrameIn : List ℕ → List ℕ → ℕ → Type 0
FrameIn z z' d = Frame (num_in z) (stk_in z) (at z) (num_in z') (stk_in z') (at z') d

-- x was entered
pub record Entered (E : ℕ → ℕ → Type 0) (k : ℕ) (z : List ℕ) (d x : ℕ) (z' : List ℕ) (d' : ℕ) : Type 0 where
  pub kept : Kept k z d z' d'
  pub marked : num_in z' x ≡ 0 → ⊥
  pub means : (start : ℕ → ℕ) → InvIn E k start z d
      → InvIn E k start z' d' × FrameIn z z' d × Ended E start (num_in z') (stk_in z') (at z') d d' x

-- y was visited, now or before
pub record Visited (E : ℕ → ℕ → Type 0) (k : ℕ) (z : List ℕ) (d y : ℕ) (z' : List ℕ) (d' : ℕ) : Type 0 where
  pub kept : Kept k z d z' d'
  pub marked : num_in z' y ≡ 0 → ⊥
  pub means : (start : ℕ → ℕ) → InvIn E k start z d
      → InvIn E k start z' d' × FrameIn z z' d × Met E start (num_in z') (stk_in z') (at z') d d' y

-- the edges of x were scanned, but those that are left
pub record Scanned (E : ℕ → ℕ → Type 0) (k : ℕ) (z : List ℕ) (d x : ℕ) (z' : List ℕ) (d' : ℕ) (left : ℕ → Type 0) : Type 0 where
  pub kept : Kept k z d z' d'
  pub means : (start : ℕ → ℕ) (b : ℕ) → ScanIn E k start z b d x (E x) → ScanIn E k start z' b d' x left × FrameIn z z' b

-- the positions base to depth were popped: their nodes are complete, with the set s
pub record Popped (k base depth s : ℕ) (z z' : List ℕ) : Type 0 where
  pub gone : (p : ℕ) → base ≤ p → p < depth → (num_in z' (stk_in z p) ≡ 65535) × (at z' (stk_in z p) ≡ s)
  pub kept : (v : ℕ) → v < k → ((p : ℕ) → base ≤ p → p < depth → stk_in z p ≡ v → ⊥) → (num_in z' v ≡ num_in z v) × (at z' v ≡ at z v)
  pub visited : (v : ℕ) → v < k → num_in z' v ≡ 0 → num_in z v ≡ 0
  pub rest : (i : ℕ) → stack_at ≤ i → at z' i ≡ at z i

-- x was scanned: where its low number is its own, all from base on was popped; else nothing was done
abbrev pub Finished : ℕ → ℕ → ℕ → ℕ → List ℕ → List ℕ → ℕ → Type 0
Finished k x base depth z z' r =
    ((num_in z x ≡ base + 1) × (r ≡ base) × Popped k base depth (at z x) z z')
    ⊎ ((num_in z x ≡ base + 1 → ⊥) × (r ≡ depth) × (z' ≡ z))

-- no node is visited; all but the numbers is as it was
pub record Cleared (k : ℕ) (z z' : List ℕ) : Type 0 where
  pub numbers : (v : ℕ) → v < k → num_in z' v ≡ 0
  pub sets : (v : ℕ) → v < transition_limit → at z' v ≡ at z v
  pub rest : (i : ℕ) → stack_at ≤ i → at z' i ≡ at z i
