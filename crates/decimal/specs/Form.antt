-- The form of an input: decimal numbers up to 65,535, leading zeros allowed, with one or more blanks or line feeds between
-- and any number of them before and after. Bytes are ASCII: 48 to 57 are the digits.
use Rattle.std.specs.Prelude.{ℕ, ◌+◌, ◌*◌, ◌≤◌, ◌<◌, List, [], ◌∷◌, ◌++◌, length}

-- a blank or a line feed
pub data Separator : ℕ → Type 0 where
  blank : Separator 32
  line_feed : Separator 10

-- any number of them
pub data Separators : List ℕ → Type 0 where
  nil : Separators []
  cons : {b : ℕ} {bs : List ℕ} → Separator b → Separators bs → Separators (b ∷ bs)

-- a run of digits and its value in base ten: one digit, or a run with one more digit behind it
pub data Numeral : List ℕ → ℕ → Type 0 where
  digit : {d : ℕ} → d < 10 → Numeral ((48 + d) ∷ []) d
  longer : {ds : List ℕ} {n d : ℕ} → Numeral ds n → d < 10 → Numeral (ds ++ (48 + d) ∷ []) (n * 10 + d)

-- a text and its numbers: no number; a number at the very end; or a number, a separator and a text with the other numbers
pub data Text : List ℕ → List ℕ → Type 0 where
  empty : {ws : List ℕ} → Separators ws → Text ws []
  last : {ws ds : List ℕ} {n : ℕ} → Separators ws → Numeral ds n → n ≤ 65535 → Text (ws ++ ds) (n ∷ [])
  next : {ws ds bs : List ℕ} {n b : ℕ} {ns : List ℕ} → Separators ws → Numeral ds n → n ≤ 65535 → Separator b → Text bs ns
      → Text (ws ++ (ds ++ b ∷ bs)) (n ∷ ns)

-- an input that is a card, with its numbers: at most 772
pub record Card (bs ns : List ℕ) : Type 0 where
  pub text : Text bs ns
  pub most : length ns ≤ 772
