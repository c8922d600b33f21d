-- What the pass over the productions holds: "after each rule it holds the sum of the lengths so far, and whether one of that
-- many first symbols, as far as L goes, is one that 9 refuses."
use Rattle.std.specs.Prelude.{ℕ, ◌+◌, ◌≤◌, ◌<◌, min, ◌≡◌, true, false, List, length, leb, eqb}
use Rattle.sets.specs.Bit.{Tells}
use Rattle.grammar.specs.Card.{symbols, symbols_at, symbol_of, start_of, sizes_ok, is_symbol}
use Rattle.card.specs.declared.PassState.{PassState}

-- of the symbols of all right sides, counted from 0, one from a on and before b is one that 9 refuses
pub record BadSymbol (c : List ℕ) (a b : ℕ) : Type 0 where
  pub place : ℕ
  pub from : a ≤ place
  pub to : place < b
  pub bad : is_symbol c (symbol_of c place) ≡ false

-- p is what the pass holds after the first r productions
pub record After (c : List ℕ) (r : ℕ) (p : PassState) : Type 0 where
  -- "the sum of the lengths so far"
  pub sum : p.sum ≡ start_of c r
  -- "whether one of that many first symbols, as far as L goes, is one that 9 refuses"
  pub fault : Tells p.fault (BadSymbol c 0 (min (start_of c r) (symbols c)))

-- ---- what the parts of the form check ask for

-- the L symbols are in the card
abbrev pub SymbolsThere : List ℕ → Type 0
SymbolsThere c = symbols_at c + symbols c ≤ length c

-- 4 to 6 do not apply
pub record Sized (c : List ℕ) : Type 0 where
  pub long : leb 4 (length c) ≡ true
  pub sizes : sizes_ok c ≡ true
  pub whole : eqb (length c) (symbols_at c + symbols c) ≡ true
