-- Request 13, sets that add up: what is claimed of completed sets, for a relation among the nodes 0, .., k - 1 and sets of any width.
-- A node is the papers' move; a family has one set for each node. The sets before they are completed are the papers' starting sets.
use Rattle.std.specs.Prelude.{ℕ, ◌^◌, ◌<◌, ◌≡◌, ◌↔◌, cond, eqb}
use Rattle.std.specs.Int.Bits.{bit_or}
use Rattle.sets.specs.Bit.{Has}
use Rattle.sets.specs.Reach.{Reaches}
use Rattle.completion.specs.Completion.{Join, Completed}

-- it can be told whether E relates two numbers
abbrev pub Decided : (ℕ → ℕ → Type 0) → Type 0
Decided E = (v w : ℕ) → Dec (E v w)

-- two families have the same sets at the nodes
abbrev pub Same : ℕ → (ℕ → ℕ) → (ℕ → ℕ) → Type 0
Same k F G = (v : ℕ) → v < k → F v ≡ G v

-- two families joined, node by node
abbrev pub joined : (ℕ → ℕ) → (ℕ → ℕ) → ℕ → ℕ
joined F G v = bit_or (F v) (G v)

-- the set of u holds m alone, all other sets are empty
abbrev pub only : ℕ → ℕ → ℕ → ℕ
only u m v = cond (eqb v u) (2 ^ m) 0

pub record AddUp (E : ℕ → ℕ → Type 0) (k : ℕ) : Type 0 where
  -- "a move's completed set must be the join of the starting sets of that move and of every move reached from it along the relation"
  pub is_join : {F F' : ℕ → ℕ} → Completed E k F F' → (v m : ℕ) → v < k → Has (F' v) m ↔ Join E F v m
  -- "the completed sets of the joined starts must be the joins of the completed sets"
  pub adds : {F G H F' G' H' : ℕ → ℕ} → Completed E k F F' → Completed E k G G' → Completed E k H H' → Same k H (joined F G) → Same k H' (joined F' G')
  -- "and completing twice must equal completing once"
  pub twice : {F F' F'' : ℕ → ℕ} → Completed E k F F' → Completed E k F' F'' → Same k F'' F'
  -- where E can be told, starting sets have completed sets; at the nodes there is only one such family
  pub some : Decided E → (F : ℕ → ℕ) → (F' : ℕ → ℕ) × Completed E k F F'
  pub one : {F F' F'' : ℕ → ℕ} → Completed E k F F' → Completed E k F F'' → Same k F' F''
  -- for joined starts it is the join; completed sets are their own completed sets
  pub of_joined : {F G F' G' : ℕ → ℕ} → Completed E k F F' → Completed E k G G' → Completed E k (joined F G) (joined F' G')
  pub of_completed : {F F' : ℕ → ℕ} → Completed E k F F' → Completed E k F' F'
  -- one terminal m in the starting set of one node u contributes m to the sets of the nodes that reach u, and nothing else
  pub alone : {F' : ℕ → ℕ} (u m : ℕ) → Completed E k (only u m) F' → (v n : ℕ) → v < k → Has (F' v) n ↔ ((n ≡ m) × Reaches E v u)
  -- words of n bits stay words of n bits
  pub fits : {F F' : ℕ → ℕ} (n : ℕ) → Completed E k F F' → ((v : ℕ) → v < k → F v < 2 ^ n) → (v : ℕ) → v < k → F' v < 2 ^ n
