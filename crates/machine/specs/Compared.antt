-- Card 10's sentences on how a choir's reading ends beside a publisher's, for every table: proved in proofs/ComparedLaws.antt.
use Rattle.std.specs.Prelude.{ℕ, ◌-◌, ◌<◌, ◌≡◌, ◌↔◌, ◌⊎◌, List, take, get_or}
use Rattle.sets.specs.Bit.{bit, Has, count}
use Rattle.tables.specs.Layout.{terminals}
use Rattle.machine.specs.Exploration.{Explored, Cut}
use Rattle.machine.specs.Restricted.{Open, OpenOffer, OpenCutShort}
use Rattle.machine.specs.Report.{Report, ended, wrong_at_is, unknown_at_is, numbers_of, Reading, number_of, steps_of, position_of}

-- k is the length of the second area.
-- "ends just as a publisher's does, apart from the offer and from a 46 that only a closed mark caused": the publisher's report, then the choir's
pub data SameEnd (t : List ℕ) (closed : ℕ) (input : List ℕ) (limit k : ℕ) : Report → Report → Type 0 where
  alike : (n steps depth listed : ℕ) → SameEnd t closed input limit k (ended n steps depth listed) (ended n steps depth listed)
  -- the offer is the publisher's without the closed terminals
  narrowed : {steps depth listed place word size word' : ℕ} → ((m : ℕ) → Has word' m ↔ (Has word m × Open closed m))
      → SameEnd t closed input limit k (wrong_at_is steps depth listed place word size) (wrong_at_is steps depth listed place word' (count (bit word') (terminals t)))
  -- each fresh reading that is cut short is of a closed terminal, so 31 comes
  relieved : {steps depth listed place word : ℕ} → ((m n : ℕ) → m < terminals t → Explored t limit k (take place input) m n → Cut n → Has closed m)
      → OpenOffer t closed limit k (take place input) word
      → SameEnd t closed input limit k (unknown_at_is steps depth listed place) (wrong_at_is steps depth listed place word (count (bit word) (terminals t)))
  -- one of an open terminal is
  unknown : {steps depth listed place : ℕ} → OpenCutShort t closed limit k (take place input)
      → SameEnd t closed input limit k (unknown_at_is steps depth listed place) (unknown_at_is steps depth listed place)

-- the publisher's reading p and the choir's reading c end in the same way, and leave the areas alike
pub record EndsAlike (t : List ℕ) (closed : ℕ) (input : List ℕ) (limit k : ℕ) (p c : Reading) : Type 0 where
  pub end : SameEnd t closed input limit k p.report c.report
  pub stack : c.stack ≡ p.stack
  pub list : c.list ≡ p.list
  pub second : c.second ≡ p.second

-- a choir's 31 or 46
abbrev pub Wrong : Reading → Type 0
Wrong c = (number_of c ≡ 31) ⊎ (number_of c ≡ 46)

-- how many terminals a reading that does not accept has passed: each step passes one or lists a production
abbrev pub passed_of : Reading → ℕ
passed_of r = steps_of r - get_or (numbers_of r.report) 3 0

-- "a wrong mark, a limit or 35", by the numbers
pub data Stopped : ℕ → Type 0 where
  wrong : Stopped 31
  wrong_unknown : Stopped 46
  steps_out : Stopped 32
  stack_out : Stopped 33
  list_out : Stopped 34
  broken : Stopped 35

-- "the marks before it end in" one of these: the publisher's reading p stops so before it has passed all terminals in front of the place
pub record Earlier (p : Reading) (place : ℕ) : Type 0 where
  pub stopped : Stopped (number_of p)
  pub before : passed_of p < place

-- "Otherwise it ends at the first closed mark, or earlier where the marks before it end in a wrong mark, a limit or 35": place is that of the first closed terminal.
-- That no reduction is made under the closed terminal is said by `RestrictedReads`
pub data EndsBy (t : List ℕ) (closed : ℕ) (input : List ℕ) (limit k place : ℕ) (p c : Reading) : Type 0 where
  at_closed : (Earlier p place → ⊥) → Wrong c → position_of c ≡ place → EndsBy t closed input limit k place p c
  earlier : Earlier p place → EndsAlike t closed input limit k p c → EndsBy t closed input limit k place p c
