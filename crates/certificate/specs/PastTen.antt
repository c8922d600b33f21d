-- The maker's answers to a card to which none of 1 to 10 applies: 11, 12, 13 or a table.
use Rattle.std.specs.Prelude.{ℕ}
use Rattle.lalr.specs.Answer.{Answer, made, refused, conflict}

pub data PastTen : Answer → Type 0 where
  table : PastTen made
  states : PastTen (refused 11)
  transitions : PastTen (refused 12)
  two_actions : {q m v w : ℕ} → PastTen (conflict q m v w)
