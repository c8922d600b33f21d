-- A walk along the edges of a node: what a cursor has still to give.
use Rattle.std.specs.Prelude.{ℕ, ◌+◌, ◌-◌, ◌*◌, ◌≤◌, ◌<◌, ◌≡◌, ◌⊎◌, true, List, Option, Some, None}
use Rattle.sets.specs.Bit.{count}
use Rattle.items.specs.Item.{item}
use Rattle.grammar.specs.Card.{left_of}
use Rattle.transitions.specs.Area.{leaves_of, nonterminal_of, enters_of, first_of, production_of, dot_of, occurrences_of}
use Rattle.transitions.specs.Occurrences.{occurring_of}
use Rattle.transitions.specs.Data.{Ordered}
use Rattle.relations.specs.Path.{Leads}
use Rattle.relations.specs.Edge.{Reads, Edge}
use Rattle.relations.specs.declared.Relation.{Relation}
use Rattle.relations.specs.declared.Relation.TheVariants as relation
use Rattle.relations.specs.declared.Cursor.{Cursor}
use Rattle.relations.specs.declared.Found.{Found}

-- occurrence o leads from the transition y to the transition x
pub record Through (c w : List ℕ) (x y o : ℕ) : Type 0 where
  pub left : left_of c (production_of w o) ≡ nonterminal_of w y
  pub leads : Leads c w (production_of w o) (dot_of w o) (leaves_of w x) (leaves_of w y)

-- includes: the cursor stands at occurrence a - 1 (a 0 is the end), of whose states those of the set are left
pub data Remains (c w : List ℕ) (x a : ℕ) (set : List ℕ) (y : ℕ) : Type 0 where
  now : 0 < a → item set (leaves_of w y) ≡ true → left_of c (production_of w (a - 1)) ≡ nonterminal_of w y → Remains c w x a set y
  later : (o : ℕ) → o + 1 < a → occurring_of c w o ≡ nonterminal_of w x → Through c w x y o → Remains c w x a set y

-- what the cursor of each relation has still to give; reads: it stands at a transition
abbrev pub Remaining : Relation → List ℕ → List ℕ → ℕ → Cursor → ℕ → Type 0
Remaining relation.Reads c w x cursor y = (cursor.at ≤ y) × Reads c w x y
Remaining relation.Includes c w x cursor y = Remains c w x cursor.at cursor.set y

-- an edge of x that the cursor has still to give
pub record Left (r : Relation) (c w : List ℕ) (k x : ℕ) (cursor : Cursor) (y : ℕ) : Type 0 where
  pub inside : y < k
  pub remaining : Remaining r c w x cursor y

-- the cursor's occurrence is one of x's nonterminal, and its set holds states from which it leads to x
pub record Stands (c w : List ℕ) (x a : ℕ) (set : List ℕ) : Type 0 where
  pub within : a ≤ occurrences_of w
  pub symbol : 0 < a → occurring_of c w (a - 1) ≡ nonterminal_of w x
  pub members : (p : ℕ) → p < 256 → item set p ≡ true → (0 < a) × Leads c w (production_of w (a - 1)) (dot_of w (a - 1)) (leaves_of w x) p

-- the cursor is one of x
abbrev pub Sound : Relation → List ℕ → List ℕ → ℕ → Cursor → Type 0
Sound relation.Reads c w x cursor = first_of w (enters_of w x) ≤ cursor.at
Sound relation.Includes c w x cursor = Stands c w x cursor.at cursor.set

-- how much the cursor has still to give: it falls at each step
unfoldable pub room_of : Relation → List ℕ → ℕ → ℕ → List ℕ → ℕ
room_of relation.Reads w x a set = first_of w (enters_of w x + 1) - a
room_of relation.Includes w x a set = a * 257 + count (item set) 256

abbrev pub room : Relation → List ℕ → ℕ → Cursor → ℕ
room r w x cursor = room_of r w x cursor.at cursor.set

-- what first_edge asks: x is a node of an area in order
pub record Node (c w : List ℕ) (x : ℕ) : Type 0 where
  pub nodes : ℕ
  pub ordered : Ordered c w nodes
  pub below : x < nodes

-- what next_edge asks: and the cursor is one of x
pub record Standing (r : Relation) (c w : List ℕ) (x : ℕ) (cursor : Cursor) : Type 0 where
  pub nodes : ℕ
  pub ordered : Ordered c w nodes
  pub below : x < nodes
  pub sound : Sound r c w x cursor

-- the cursor is one before all edges of x
pub record Firsts (r : Relation) (c w : List ℕ) (k x : ℕ) (cursor : Cursor) : Type 0 where
  pub sound : Sound r c w x cursor
  pub all : (y : ℕ) → Edge r c w k x y → Left r c w k x cursor y

-- what is found is the next edge that the cursor gives, with the cursor behind it
pub record Next (r : Relation) (c w : List ℕ) (k x : ℕ) (cursor : Cursor) (found : Found) : Type 0 where
  pub here : Edge r c w k x found.node
  pub after : (y : ℕ) → Left r c w k x cursor y → (y ≡ found.node) ⊎ Left r c w k x found.cursor y
  pub less : room r w x found.cursor < room r w x cursor
  pub sound : Sound r c w x found.cursor

-- or that there is no more
abbrev pub Nexts : Relation → List ℕ → List ℕ → ℕ → ℕ → Cursor → Option Found → Type 0
Nexts r c w k x cursor (Some found) = Next r c w k x cursor found
Nexts r c w k x cursor None = (y : ℕ) → Left r c w k x cursor y → ⊥
