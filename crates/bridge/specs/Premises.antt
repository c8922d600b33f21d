-- What the maker knows of a card when its states are numbered, and when the sets of its transitions are complete.
use Rattle.std.specs.Prelude.{ℕ, ◌≤◌, ◌<◌, ◌≡◌, ◌≢◌, List, get_or}
use Rattle.grammar.specs.Useful.{Productive, Nonterminal}
use Rattle.grammar.specs.Shortest.{ShortestLengths}
use Rattle.grammar.specs.Card.{nonterminals, grammar_of, form_fault}
use Rattle.lr.specs.States.{States}
use Rattle.lr.specs.Relations.{Transition}
use Rattle.transitions.specs.Area.{leaves_of, nonterminal_of, shortest_of}
use Rattle.transitions.specs.Data.{Data, Holds, Direct}
use Rattle.relations.specs.Edge.{Edge}
use Rattle.relations.specs.declared.Relation.TheVariants as relation
use Rattle.completion.specs.Completion.{Completed}
use Rattle.digraph.specs.Walked.{at}

-- the n states of the card c have the transitions `next`: none of the refusals 4 to 11 applies
pub record Stated (c : List ℕ) (n : ℕ) (next : ℕ → ℕ → ℕ) : Type 0 where
  pub formed : form_fault c ≡ 0
  pub productive : (x : ℕ) → Nonterminal (grammar_of c) x → Productive (grammar_of c) x
  pub states : States (grammar_of c) n next
  pub most : n ≤ 256
  pub inside : (q x : ℕ) → next q x ≢ 0 → q < n

-- transition i that the area w lists
abbrev pub transition_of : List ℕ → ℕ → Transition
transition_of w i = record { state = leaves_of w i; symbol = nonterminal_of w i }

-- the area w holds the card's k nonterminal transitions and the shortest lengths of its nonterminals, and z the sets of the transitions after both walks
pub record Followed (c w : List ℕ) (n k : ℕ) (next : ℕ → ℕ → ℕ) (z : List ℕ) : Type 0 where
  pub stated : Stated c n next
  pub listed : Data c w n k next
  pub shortest : ShortestLengths (grammar_of c) (nonterminals c) (shortest_of w)
  -- the area before the walks, and between them
  pub begun : List ℕ
  pub between : List ℕ
  pub direct : (i : ℕ) → i < k → Holds (get_or begun i 0) (Direct c w next i)
  pub reads : Completed (Edge relation.Reads c w k) k (at begun) (at between)
  pub includes : Completed (Edge relation.Includes c w k) k (at between) (at z)
