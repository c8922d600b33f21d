-- How the words are found: round after round each production lessens what is known of its left side, until none does. Only the private functions cite this.
use Rattle.std.specs.Prelude.{ℕ, ◌≤◌, ◌<◌, ◌≡◌, Bool, List, [], ◌++◌, length, get_or, drop, Option, Some, None}
use Rattle.sets.specs.Lists.{covered}
use Rattle.grammar.specs.Card.{productions, grammar_of}
use Rattle.sample_words.specs.Sample.{Uses, Sample}
use Rattle.sample_words.specs.Words.{Still}

-- none of the productions from n on lessens e
abbrev pub StillFrom : List ℕ → ℕ → ℕ → List ℕ → Type 0
StillFrom c m n e = (r : ℕ) → n ≤ r → r < productions c → (u : Bool) → Still c m e u r

-- the word at the start's place, 60 for derivations that use the production, is written and its length told; nothing is written where that is above 255
abbrev pub Takes : List ℕ → List (List ℕ) → List ℕ → Option ℕ → List ℕ → Type 0
Takes e w old (Some n) new = (n ≡ get_or e 60 0) × (n ≤ 255) × (new ≡ get_or w 60 [] ++ drop 255 old)
Takes e w old None new = (255 < get_or e 60 0) × (new ≡ old)

-- the sample found is written, and its length told; nothing is written where there is none of up to 255 terminals
pub data Finds (c : List ℕ) (m : ℕ) (old : List ℕ) : Option ℕ → List ℕ → Type 0 where
  found : (w : List ℕ) → Sample (grammar_of c) m w → length w ≤ 255 → Finds c m old (Some (length w)) (covered 255 w old)
  none : ((w : List ℕ) → Uses (grammar_of c) m w → 255 < length w) → Finds c m old None old
