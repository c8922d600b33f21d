-- The short way of 001 (DeRemer and Pennello): direct reads, and the relations reads, includes and lookback among nonterminal transitions.
-- A method, and no part of the definition of the table; proofs/ShortWay.antt shows that it gives the lookaheads of the merged sets, where
-- `next` has no transitions but those of the states.
use Rattle.std.specs.Prelude.{ℕ, ◌<◌, ◌≡◌, ◌≢◌, List, [], ◌∷◌, ◌++◌}
use Rattle.grammar.specs.Grammar.{Grammar, Derives}
use Rattle.sets.specs.Reach.{Reaches}
use Rattle.lr.specs.Items.{walk}

-- the union of the sets F over everything that a reaches
pub data Union {A : Type 0} (R : A → A → Type 0) (F : A → ℕ → Type 0) (a : A) (m : ℕ) : Type 0 where
  union : {b : A} → Reaches R a b → F b m → Union R F a m

-- a nonterminal transition (p, A), the paper's name move
pub record Transition : Type 0 where
  pub state : ℕ
  pub symbol : ℕ

module _ (g : Grammar) (next : ℕ → ℕ → ℕ) where
  -- the direct reads of (p, A): the terminals with a transition from the state that it enters; 0 for the transition on the start from state 0
  pub data Direct (t : Transition) (m : ℕ) : Type 0 where
    shifted : 0 < m → m < g.terminals → next (next t.state t.symbol) m ≢ 0 → Direct t m
    ended : t.state ≡ 0 → t.symbol ≡ g.terminals → m ≡ 0 → Direct t m

  -- (p, A) reads (r, C): A leads from p to r, there is a transition (r, C), and C derives the empty string
  pub record Reads (t u : Transition) : Type 0 where
    pub enters : next t.state t.symbol ≡ u.state
    pub some : next t.state t.symbol ≢ 0
    pub move : next u.state u.symbol ≢ 0
    pub nullable : Derives g (u.symbol ∷ []) []

  -- (p, A) includes (p', B): B → β A γ is a production, γ derives the empty string, and β leads from p' to p
  pub record Includes (t u : Transition) : Type 0 where
    pub production : ℕ
    pub front : List ℕ
    pub behind : List ℕ
    pub below : production < g.productions
    pub right : g.right production ≡ front ++ t.symbol ∷ behind
    pub nullable : Derives g behind []
    pub leads : walk next u.state front ≡ t.state
    pub left : u.symbol ≡ g.left production
    pub move : next u.state u.symbol ≢ 0

  abbrev pub Read : Transition → ℕ → Type 0
  Read t m = Union Reads Direct t m

  abbrev pub Follow : Transition → ℕ → Type 0
  Follow t m = Union Includes Read t m

  -- "(q, A → ω) lookback (p, A) iff" ω leads from p to q: s is the production A → ω, and t a transition (p, A)
  pub record Lookback (q s : ℕ) (t : Transition) : Type 0 where
    pub below : s < g.productions
    pub left : t.symbol ≡ g.left s
    pub move : next t.state t.symbol ≢ 0
    pub leads : walk next t.state (g.right s) ≡ q

  -- the look-ahead set: "LA(q, A → ω) = ∪ {Follow(p, A) | (q, A → ω) lookback (p, A)}"
  pub record LA (q s m : ℕ) : Type 0 where
    pub transition : Transition
    pub looks : Lookback q s transition
    pub follows : Follow transition m
