-- The answers: their numbers with zeros behind them, from what was found to the answer, and from the answer to what is written.
use mathlib.Core.Path.{◌≡◌, refl, sym, ◌∙◌}
use mathlib.Core.Logic.{◌≢◌}
use mathlib.Core.Bool.{true}
use mathlib.Core.List.{List, [], ◌∷◌}
use Prim.Native.Nat.{ℕ, ◌+◌, ◌≤◌, ◌<◌}
use native.Mathlib.Omega.{arith}
use lib.ListN.{length, get_or}
use Rattle.sets.specs.Lists.{covered, peek}
use Rattle.grammar.specs.Card.{terminals, sizes_ok}
use Rattle.card_checks.specs.Checked.{refusal_numbers, verdict_numbers, Checked}
use Rattle.card_checks.specs.declared.Refusal as card
use Rattle.card_checks.specs.declared.Refusal.TheVariants.{CardShort, SizesWrong, LengthWrong, LeftWrong, SumWrong, SymbolWrong, Useless}
use Rattle.std.proofs.Common.{Result, Ok, Err, IsErrAnd, MatchResult, is_ok}
use Rattle.card_checks.proofs.Verdicts.{refusal_some, passes}
use Rattle.merged_card.specs.Merged.{merged_card}
use Rattle.merged_card.proofs.FormLaws.{merged_longer}
use Rattle.merge.specs.Answer.{about, answer_numbers, Passes, Joinable, Answers, first_refused, second_refused, area_short, merged}
use Rattle.merged_card.specs.Writing.{Alike, Merging}
use Rattle.merge.specs.declared.Refusal.{Refusal}
use Rattle.merge.specs.declared.Refusal.TheVariants.{First, Second, TerminalsDiffer, TooLarge, AreaShort}
use Rattle.grammar.proofs.CardLaws.{WellFormed, well_formed}

-- ---- the numbers with zeros behind them

-- the numbers of a refusal of a card, with the card between them
pub about_told : (k : ℕ) (e : card.Refusal) (n : List ℕ) → n ≡ covered 2 (refusal_numbers e) [] → get_or n 0 0 ∷ k ∷ get_or n 1 0 ∷ [] ≡ covered 3 (about k (refusal_numbers e)) []
unfolding covered
about_told k e n h = rw h (go e)
  where
    go : (e : card.Refusal) → (let n = covered 2 (refusal_numbers e) [] in get_or n 0 0 ∷ k ∷ get_or n 1 0 ∷ []) ≡ covered 3 (about k (refusal_numbers e)) []
    go CardShort = refl
    go SizesWrong = refl
    go LengthWrong = refl
    go LeftWrong = refl
    go SumWrong = refl
    go SymbolWrong = refl
    go (Useless x) = refl

-- a refusal of a card has a number
pub about_some : (k : ℕ) (e : card.Refusal) → peek (about k (refusal_numbers e)) ≢ 0
about_some k e = go (refusal_numbers e) (refusal_some e)
  where
    go : (ns : List ℕ) → 0 < get_or ns 0 0 → peek (about k ns) ≢ 0
    go [] h z = omega arith
    go (n ∷ v) h z = omega arith

-- a number of 0 is told of a merged card alone
pub only_merged : (r : Result ℕ Refusal) → peek (answer_numbers r) ≡ 0 → (n : ℕ) × (r ≡ Ok n)
only_merged (Ok n) h = (n, refl)
only_merged (Err (First e)) h = absurd (about_some 1 e h)
only_merged (Err (Second e)) h = absurd (about_some 2 e h)
only_merged (Err TerminalsDiffer) h = absurd (omega arith)
only_merged (Err TooLarge) h = absurd (omega arith)
only_merged (Err AreaShort) h = absurd (omega arith)

-- a card that passed
pub passed : {c : List ℕ} (v : Result (Unit {0}) card.Refusal) → true ≡ is_ok v → Checked c (verdict_numbers v) → Passes c
passed (Ok u) e h = h
passed (Err d) e h = absurd (cc)

-- both cards have the same number of terminals
pub joinable : {a b : List ℕ} → Passes a × Passes b → {t u : ℕ} → t ≡ terminals a → u ≡ terminals b → t ≡ u → Joinable a b
joinable p d e h = record { first = p.0; second = p.1; terminals_same = sym d ∙ h ∙ e }

-- what merged_card asks for: 4 to 9 and T, not 10
pub alike : {a b : List ℕ} → Joinable a b → Alike a b
alike {a} {b} j = record { first = (passes a j.first).0; second = (passes b j.second).0; terminals_same = j.terminals_same }

module _ (a b : List ℕ) (room : ℕ) where
  -- ---- from what was found to the answer

  -- v is what the check of a card gave, f what was made of its refusal, r what is answered
  pub first_told : (v : Result (Unit {0}) card.Refusal) (f : Refusal) (r : Result ℕ Refusal) → MatchResult v (λ u. Err f ≡ Ok u) (λ e. f ≡ First e) → Checked a (verdict_numbers v) → IsErrAnd r (λ d. d ≡ f) → Answers a b room r
  first_told v f (Ok n) m h g = absurd g
  first_told (Ok u) f (Err d) m h g = absurd (cc)
  first_told (Err e) f (Err d) m h g = rw (g, m) (first_refused h)

  pub second_told : (v : Result (Unit {0}) card.Refusal) (f : Refusal) (r : Result ℕ Refusal) → MatchResult v (λ u. Err f ≡ Ok u) (λ e. f ≡ Second e) → Passes a → Checked b (verdict_numbers v) → IsErrAnd r (λ d. d ≡ f) → Answers a b room r
  second_told v f (Ok n) m p h g = absurd g
  second_told (Ok u) f (Err d) m p h g = absurd (cc)
  second_told (Err e) f (Err d) m p h g = rw (g, m) (second_refused p h)

  module _ (j : Joinable a b) where
    v : WellFormed a
    v = well_formed a (passes a j.first).0

    w : WellFormed b
    w = well_formed b (passes b j.second).0

    longer : length (merged_card a b) ≡ length a + length b + 2
    longer = merged_longer a b v w j.terminals_same

    -- the merged card's length has 16 bits
    pub short : length a + length b + 2 < 65536
    short = omega (arith, v.long, w.long, v.limits.productions_to, v.limits.symbols_to_is, w.limits.productions_to, w.limits.symbols_to_is)

    pub area_told : sizes_ok (merged_card a b) ≡ true → room < length a + length b + 2 → Answers a b room (Err AreaShort)
    area_told s h = area_short j s (omega (arith, longer))

    pub merged_told : sizes_ok (merged_card a b) ≡ true → length a + length b + 2 ≤ room → Answers a b room (Ok (length a + length b + 2))
    merged_told s h = let r : Answers a b room (Ok (length (merged_card a b))) = merged j s (omega (arith, longer)) in rw longer at r

  -- ---- from the answer to what is written

  pub merging : {n : ℕ} → Answers a b room (Ok n) → Merging a b room
  merging (merged j s h) = record { alike = alike j; sized = s; fits = h }
