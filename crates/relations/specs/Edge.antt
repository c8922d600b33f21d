-- The relations reads and includes between the nonterminal transitions that the area lists.
use Rattle.std.specs.Prelude.{ℕ, ◌<◌, ◌≡◌, List}
use Rattle.grammar.specs.Card.{left_of}
use Rattle.transitions.specs.Area.{leaves_of, nonterminal_of, enters_of, shortest_of}
use Rattle.transitions.specs.Occurrences.{symbol_at, Nullable, Occurs}
use Rattle.relations.specs.Path.{Leads}
use Rattle.relations.specs.declared.Relation.{Relation}
use Rattle.relations.specs.declared.Relation.TheVariants as relation

-- transition x reads transition y: y leaves the state that x enters, and its nonterminal is nullable
pub record Reads (c w : List ℕ) (x y : ℕ) : Type 0 where
  pub state : leaves_of w y ≡ enters_of w x
  pub nullable : Nullable c (shortest_of w) (nonterminal_of w y)

-- transition x includes transition y: a production of y's nonterminal has x's nonterminal at a dot, what stands behind is nullable,
-- and what stands before leads from the state that y leaves to the one that x leaves
pub record Includes (c w : List ℕ) (x y : ℕ) : Type 0 where
  pub production : ℕ
  pub dot : ℕ
  pub occurs : Occurs c (shortest_of w) production dot
  pub symbol : symbol_at c production dot ≡ nonterminal_of w x
  pub left : left_of c production ≡ nonterminal_of w y
  pub leads : Leads c w production dot (leaves_of w x) (leaves_of w y)

-- y is related to x by r
abbrev pub Related : Relation → List ℕ → List ℕ → ℕ → ℕ → Type 0
Related relation.Reads c w x y = Reads c w x y
Related relation.Includes c w x y = Includes c w x y

-- the relation r between k transitions
pub record Edge (r : Relation) (c w : List ℕ) (k x y : ℕ) : Type 0 where
  pub inside : y < k
  pub related : Related r c w x y
