-- What the reading of an input leaves. Which bytes a file or a terminal brings no contract can say, so these speak of some
-- bytes; a reader over memory says which.
use Rattle.std.specs.Prelude.{ℕ, ◌≡◌, List, IfSome, take, Option, Some, None, Result, Ok, Err}
use Rattle.std.specs.Io.KnownBytes.{Consumes, Keeps, IsAtEnd}
use Rattle.decimal.specs.declared.scanner.Scan.{Scan}
use Rattle.decimal.specs.declared.scanner.Scan.TheVariants.{Between}
use Rattle.decimal.specs.Form.{Card}
use Rattle.decimal.specs.Page.{Used}
use Rattle.decimal.specs.Scanning.{Fed, fed_of, fed}
use Rattle.card_input.specs.declared.ReadFailed.{ReadFailed}

-- an input has at most 772 numbers
abbrev pub card_size : ℕ
card_size = 772

-- the input bs is a card, and the first n numbers of the area are its numbers
pub record CardCame (bs area : List ℕ) (n : ℕ) : Type 0 where
  pub card : Card bs (take n area)
  pub used : Used n area

-- the answer to the input bs, with the area behind it; "input of other form, or over 772 numbers" is no card
abbrev pub Came : List ℕ → List ℕ → Result (Option ℕ) ReadFailed → Type 0
Came bs area (Ok (Some n)) = CardCame bs area n
Came bs area (Ok None) = (ns : List ℕ) → Card bs ns → ⊥
Came bs area (Err e) = Unit {0}

-- ---- private functions cite these

-- g is f fed with the bytes that left a reader, which had the bytes old left before, and has the bytes new, where those
-- are known
abbrev pub FedMore : Option (List ℕ) → Option (List ℕ) → Fed → Fed → Type 0
FedMore old new f g = (bs : List ℕ) × (g ≡ fed f bs) × Consumes old new bs

-- one read: the reader's bytes before and behind it, the area before it, where the scan stood, and the area behind it
abbrev pub Taken : Option (List ℕ) → Option (List ℕ) → List ℕ → Scan → List ℕ → Result (Option Scan) ReadFailed → Type 0
Taken old new a s b (Ok (Some t)) = FedMore old new (fed_of a s) (fed_of b t)
Taken old new a s b (Ok None) = (b ≡ a) × Keeps old new × IsAtEnd new
Taken old new a s b (Err e) = Unit {0}

-- the whole input: the reader's bytes, and the area before and behind
abbrev pub Scanned : Option (List ℕ) → List ℕ → List ℕ → Result Scan ReadFailed → Type 0
Scanned old a b (Ok s) = (bs : List ℕ) × (fed_of b s ≡ fed (fed_of a (Between 0)) bs) × IfSome old (λ xs. bs ≡ xs)
Scanned old a b (Err e) = Unit {0}
