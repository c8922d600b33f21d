-- What a merge answers, the paper's numbers of each answer, and what it leaves in the output area: for all contents and lengths of both cards and of the area.
use Rattle.std.specs.Prelude.{ℕ, ◌≤◌, ◌<◌, ◌≡◌, ◌≢◌, true, false, List, [], ◌∷◌, ◌++◌, length, drop, Result, Ok, Err}
use Rattle.grammar.specs.Card.{terminals, sizes_ok}
use Rattle.card_checks.specs.Checked.{Checked, refusal_numbers}
use Rattle.card_checks.specs.declared.Refusal as card
use Rattle.card_checks.specs.declared.Refusal.TheVariants.{SizesWrong}
use Rattle.merged_card.specs.Merged.{merged_card}
use Rattle.merge.specs.declared.Refusal.{Refusal}
use Rattle.merge.specs.declared.Refusal.TheVariants.{First, Second, TerminalsDiffer, TooLarge, AreaShort}

-- "A refusal by 4 to 10 says whether the first card, the second or the merged one is meant": k, which is 1, 2 or 3, stands behind its number
abbrev pub about : ℕ → List ℕ → List ℕ
about k [] = []
about k (n ∷ v) = n ∷ k ∷ v

-- number, card, value; the value is the nonterminal of 10, and the length of the merged card
abbrev pub answer_numbers : Result ℕ Refusal → List ℕ
answer_numbers (Ok n) = 0 ∷ 0 ∷ n ∷ []
answer_numbers (Err (First e)) = about 1 (refusal_numbers e)
answer_numbers (Err (Second e)) = about 2 (refusal_numbers e)
answer_numbers (Err TerminalsDiffer) = 53 ∷ []
answer_numbers (Err TooLarge) = about 3 (refusal_numbers SizesWrong)
answer_numbers (Err AreaShort) = 54 ∷ []

-- none of 4 to 10 applies to the card
abbrev pub Passes : List ℕ → Type 0
Passes c = Checked c (0 ∷ [])

-- no refusal before 5 of the merged card applies: both cards pass, and have the same number of terminals
pub record Joinable (a b : List ℕ) : Type 0 where
  pub first : Passes a
  pub second : Passes b
  pub terminals_same : terminals a ≡ terminals b

-- the answer to the cards a and b, with an output area of `room` numbers
pub data Answers (a b : List ℕ) (room : ℕ) : Result ℕ Refusal → Type 0 where
  -- "Each input is checked by 4 to 10, the first card first."
  first_refused : {e : card.Refusal} → Checked a (refusal_numbers e) → Answers a b room (Err (First e))
  second_refused : {e : card.Refusal} → Passes a → Checked b (refusal_numbers e) → Answers a b room (Err (Second e))
  -- "53 the cards differ in T, after both checks and before 5"
  terminals_differ : Passes a → Passes b → terminals a ≢ terminals b → Answers a b room (Err TerminalsDiffer)
  -- "Sizes over the limits are 5."
  too_large : Joinable a b → sizes_ok (merged_card a b) ≡ false → Answers a b room (Err TooLarge)
  -- "54 the output area is shorter than the merged card, after 5"
  area_short : Joinable a b → sizes_ok (merged_card a b) ≡ true → room < length (merged_card a b) → Answers a b room (Err AreaShort)
  merged : Joinable a b → sizes_ok (merged_card a b) ≡ true → length (merged_card a b) ≤ room → Answers a b room (Ok (length (merged_card a b)))

-- what the area that held `old` holds after an answer: "Refused merges write nothing, and numbers past the merged card are unchanged."
abbrev pub area_after : List ℕ → List ℕ → List ℕ → Result ℕ Refusal → List ℕ
area_after a b old (Ok n) = merged_card a b ++ drop (length (merged_card a b)) old
area_after a b old (Err e) = old

-- the answer, and the area that was `old`; no two answers or areas are so (`one_merge` of proofs/OneMerge.antt)
pub record Merges (a b old : List ℕ) (r : Result ℕ Refusal) (new : List ℕ) : Type 0 where
  pub answer : Answers a b (length old) r
  pub area : new ≡ area_after a b old r
