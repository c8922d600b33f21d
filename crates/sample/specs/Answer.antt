-- What a sample answers, the paper's numbers of each answer, and what it leaves in the area: for all contents and lengths of the card and of the
-- area, and for every number of a production.
use Rattle.std.specs.Prelude.{ℕ, ◌≤◌, ◌<◌, List, [], ◌∷◌, length, Result, Ok, Err}
use Rattle.sets.specs.Lists.{covered}
use Rattle.grammar.specs.Card.{productions, grammar_of}
use Rattle.card_checks.specs.Checked.{Checked, refusal_numbers}
use Rattle.card_checks.specs.declared.Refusal as card
use Rattle.sample_words.specs.Sample.{Uses, Sample}
use Rattle.sample.specs.declared.Refusal.{Refusal}
use Rattle.sample.specs.declared.Refusal.TheVariants.{AreaShort, Card, NoProduction, TooLong}

-- number and value; the value is the length of the sample, and the nonterminal of 10
abbrev pub answer_numbers : Result ℕ Refusal → List ℕ
answer_numbers (Ok n) = 0 ∷ n ∷ []
answer_numbers (Err AreaShort) = 47 ∷ []
answer_numbers (Err (Card e)) = refusal_numbers e
answer_numbers (Err NoProduction) = 48 ∷ []
answer_numbers (Err TooLong) = 49 ∷ []

-- no refusal before 49 applies to production r of the card c, with an area of `room` bytes
pub record Asked (c : List ℕ) (r room : ℕ) : Type 0 where
  pub area : 255 ≤ room
  pub passes : Checked c (0 ∷ [])
  pub production : r < productions c

-- the answer for production r of the card c, and what the area that held `old` holds after it: "Each changes nothing."
pub data Samples (c : List ℕ) (r : ℕ) (old : List ℕ) : Result ℕ Refusal → List ℕ → Type 0 where
  -- "47 area under 255, before those checks"
  area_short : length old < 255 → Samples c r old (Err AreaShort) old
  -- "The card passes the maker's checks 4 to 10 first."
  refused : {e : card.Refusal} → 255 ≤ length old → Checked c (refusal_numbers e) → Samples c r old (Err (Card e)) old
  -- "48 no such rule, after them"
  no_production : 255 ≤ length old → Checked c (0 ∷ []) → productions c ≤ r → Samples c r old (Err NoProduction) old
  -- "49 every such sentence is longer than 255, last"
  too_long : Asked c r (length old) → ((w : List ℕ) → Uses (grammar_of c) r w → 255 < length w) → Samples c r old (Err TooLong) old
  -- "Samples reach 255 marks, written to the first 255 bytes of a lent area; the rest of those is zero, and later bytes are unchanged."
  -- "Which of several equally short ones comes is open, and is named with what holds of it": w is any sample of up to 255 terminals
  made : (w : List ℕ) → Asked c r (length old) → Sample (grammar_of c) r w → length w ≤ 255 → Samples c r old (Ok (length w)) (covered 255 w old)
