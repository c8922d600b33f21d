-- What a card m is that joins two cards: its sentences are those of either, its rightmost derivations are theirs behind production 0 or 1, and none of
-- 4 to 10 applies to it. Where the numbers of the two cards went is not said here.
use Rattle.std.specs.Prelude.{ℕ, ◌+◌, ◌≡◌, ◌↔◌, ◌⊎◌, List, [], ◌∷◌, map}
use Rattle.grammar.specs.Grammar.{Grammar, Symbols, Sentence, Rightmost}
use Rattle.grammar.specs.Useful.{Useful, Nonterminal}
use Rattle.grammar.specs.Card.{terminals, productions, form_fault, grammar_of}

-- p is production i and then those of a rightmost derivation of w by the grammar k, s r in place of each production r
pub record Through (k : Grammar) (s : ℕ → ℕ) (i : ℕ) (p w : List ℕ) : Type 0 where
  pub within : List ℕ
  pub is : p ≡ i ∷ map s within
  pub derivation : Rightmost k (k.terminals ∷ []) within w

-- through the first card, whose production r is 2 + r here, and through the second, whose production r is 2 + P + r with the first's P
abbrev pub FromFirst : List ℕ → List ℕ → List ℕ → Type 0
FromFirst a p w = Through (grammar_of a) (λ r. 2 + r) 0 p w

abbrev pub FromSecond : List ℕ → List ℕ → List ℕ → List ℕ → Type 0
FromSecond a b p w = Through (grammar_of b) (λ r. 2 + productions a + r) 1 p w

pub record Joins (a b m : List ℕ) : Type 0 where
  -- "Its sentences are those of either card."
  pub sentences : (w : List ℕ) → Sentence (grammar_of m) w ↔ (Sentence (grammar_of a) w ⊎ Sentence (grammar_of b) w)
  -- "two rules from the new start to the old starts, in that order, then both rule lists": a rightmost derivation is production 0 and one of the
  -- first card, or production 1 and one of the second
  pub derivations : (p w : List ℕ) → Symbols (terminals m) w
      → Rightmost (grammar_of m) (terminals m ∷ []) p w ↔ (FromFirst a p w ⊎ FromSecond a b p w)
  -- none of 4 to 9 applies, nor does 10
  pub formed : form_fault m ≡ 0
  pub useful : (x : ℕ) → Nonterminal (grammar_of m) x → Useful (grammar_of m) x
