-- The three demands, as theorems about the definitions that the contracts of the entry points cite: `generated` (the maker: generate, sidumza_generate)
-- and `reading` (the reader: parse, sidumza_parse), or `restricted_reading` for a choir (parse_restricted, sidumza_parse_restricted).
-- A terminal is the papers' mark, an input their line, a step limit their allowance.
use Prim.Native.Nat.{ℕ, ◌<◌}
use mathlib.Core.Path.{◌≡◌, refl}
use mathlib.Core.Logic.{◌⊎◌}
use mathlib.Core.List.{List, [], ◌∷◌, map}
use lib.ListN.{length}
use Rattle.grammar.specs.Grammar.{Symbols}
use Rattle.grammar.specs.Card.{form_fault, grammar_of}
use Rattle.machine.specs.Checks.{refusal_of, restricted_refusal}
use Rattle.machine.specs.Exploration.{Explored}
use Rattle.machine.specs.Report.{Reading}
use Rattle.machine.specs.Faithful.{Faithful}
use Rattle.machine.specs.Reads.{Reads}
use Rattle.machine.specs.Restricted.{OpenLine, FirstClosed, RestrictedFaithful, RestrictedReads}
use Rattle.machine.specs.Compared.{EndsAlike, EndsBy}
use Rattle.machine.specs.ComputedRun.{reading, restricted_reading}
use Rattle.machine.proofs.ReadsLaws.{faithful, reads_exactly}
use Rattle.machine.proofs.RestrictedLaws.{restricted_faithful, restricted_exactly}
use Rattle.machine.proofs.ComparedLaws.{first_closed, ends_alike, ends_by}
use Rattle.lalr.specs.Answer.{numbers_of, Generated}
use Rattle.lalr.specs.ComputedGenerator.{generated}
use Rattle.lalr.specs.Demand2.{Room, Demand2}
use Rattle.lalr.specs.Generates.{Generates}
use Rattle.lalr.proofs.Demand2.{demand_2}
use Rattle.lalr.proofs.Generates.{generates, only_generated}
use Rattle.lalr.proofs.AnswerLaws.{made_by_number}
use Rattle.claim.specs.Claim.{Demand3}
use Rattle.claim.specs.RestrictedClaim.{RestrictedDemand3}
use Rattle.certificate.specs.Rows.{Row, rows, stated, computed}
use Rattle.certificate.proofs.Demand.{across, restricted_across, fresh_across}
use Rattle.certificate.proofs.Starred.{starred}

-- "1. Maker and reader give a fixed, stated answer for all contents and lengths of what they are handed: a result or one numbered refusal, with the state
-- of each lent area. No duty on the caller."
-- The maker is handed a table area t, work areas z and w and a card c: `Generates` says what it answers and leaves, and nothing else meets that
pub demand_1_maker : (t z w c : List ℕ) → Generates t z w c (generated t z w c)
demand_1_maker t z w c = generates t z w c

pub only_maker : (t z w c : List ℕ) (out : Generated) → Generates t z w c out → out ≡ generated t z w c
only_maker t z w c out g = only_generated t z w c out g

-- The reader is handed a table t, an input, a stack area, a list area, a second stack area and a step limit: `Reads` says what it answers and leaves, and nothing else meets that
pub demand_1_reader : (t input stack list second : List ℕ) (limit : ℕ) → Reads t input stack list second limit (reading t input stack list second limit)
demand_1_reader t input stack list second limit = (reads_exactly t input stack list second limit (reading t input stack list second limit)).1 refl

pub only_reader : (t input stack list second : List ℕ) (limit : ℕ) (r : Reading) → Reads t input stack list second limit r → r ≡ reading t input stack list second limit
only_reader t input stack list second limit r d = (reads_exactly t input stack list second limit r).0 d

-- "2. The table made equals, cell for cell, the one defined by canonical LR(1) item sets merged by core, or is refused as a conflict exactly when two
-- actions meet in a cell, the first such cell named."
-- With areas of full length and a card past 4 to 9
pub demand_2_maker : (t z w c : List ℕ) → Room t z w → form_fault c ≡ 0 → Demand2 t z w c (generated t z w c)
demand_2_maker t z w c o h = demand_2 t z w c o h

-- "The reader makes the moves of the LR machine on every table that passes the check, and its count is their number."
pub demand_2_reader : (t input stack list second : List ℕ) (limit : ℕ) → refusal_of t input (length stack) (length second) ≡ 0 → Faithful t input stack list second limit (reading t input stack list second limit)
demand_2_reader t input stack list second limit e = faithful t input stack list second limit e

-- "3. For every accepted grammar and every line, allowance and areas: if the reader, with that table as the maker left it, takes the line and does not run
-- out of moves, stack or list, it accepts exactly when the grammar derives the line; the rules it lists, backwards, are a rightmost derivation and its only
-- one; where it does not accept, it names the first place where the marks so far, that one included, begin no sentence, or the end exactly when the whole
-- line begins one and is none." With it, of 31, card 5's sentence on the offer; 46, in place of 31, names the place as 31 does.
-- The maker accepts a card where the number of its answer is 0
pub demand_3 : (t z w c : List ℕ) → numbers_of (generated t z w c).answer ≡ 0 ∷ [] → (input stack list second : List ℕ) (limit : ℕ)
    → Demand3 (grammar_of c) input (reading (generated t z w c).table input stack list second limit)
demand_3 t z w c e input stack list second limit = across t z w c (made_by_number t z w c e) input stack list second limit

-- "With the maker's table 35 never comes", in a fresh reading neither: then 46 comes of 32 or 33 alone
pub fresh_unbroken : (t z w c : List ℕ) → numbers_of (generated t z w c).answer ≡ 0 ∷ [] → (line : List ℕ) → Symbols (grammar_of c).terminals line → (limit second m : ℕ) → m < (grammar_of c).terminals
    → Explored (generated t z w c).table limit second line m 35 → ⊥
fresh_unbroken t z w c e line s limit second m h = fresh_across t z w c (made_by_number t z w c e) line s limit second m h

-- ---- card 10: a choir's reading. "The publisher's reading is as before": the theorems above are of it

-- Demand 1: the reader is handed also a word `closed`, bit m for terminal m. `RestrictedReads` says what it answers and leaves, and nothing else meets that
pub demand_1_restricted : (t : List ℕ) (closed : ℕ) (input stack list second : List ℕ) (limit : ℕ) → RestrictedReads t closed input stack list second limit (restricted_reading t closed input stack list second limit)
demand_1_restricted t closed input stack list second limit = (restricted_exactly t closed input stack list second limit (restricted_reading t closed input stack list second limit)).1 refl

pub only_restricted : (t : List ℕ) (closed : ℕ) (input stack list second : List ℕ) (limit : ℕ) (r : Reading) → RestrictedReads t closed input stack list second limit r
    → r ≡ restricted_reading t closed input stack list second limit
only_restricted t closed input stack list second limit r d = (restricted_exactly t closed input stack list second limit r).0 d

-- Demand 2: where nothing is refused the reader makes the moves of the LR machine, each while the next terminal is open, and its count is their number
pub demand_2_restricted : (t : List ℕ) (closed : ℕ) (input stack list second : List ℕ) (limit : ℕ) → restricted_refusal t closed input (length stack) (length second) ≡ 0
    → RestrictedFaithful t closed input stack list second limit (restricted_reading t closed input stack list second limit)
demand_2_restricted t closed input stack list second limit e = restricted_faithful t closed input stack list second limit e

-- Where nothing is refused: "A choir's line without closed marks ends just as a publisher's does, apart from the offer and from a 46 that only a closed mark
-- caused."
pub restricted_ends_alike : (t : List ℕ) (closed : ℕ) (input stack list second : List ℕ) (limit : ℕ) → restricted_refusal t closed input (length stack) (length second) ≡ 0
    → OpenLine closed input → EndsAlike t closed input limit (length second) (reading t input stack list second limit) (restricted_reading t closed input stack list second limit)
restricted_ends_alike t closed input stack list second limit e h = ends_alike t closed input stack list second limit e h

-- "Otherwise it ends at the first closed mark, or earlier where the marks before it end in a wrong mark, a limit or 35."
pub restricted_ends_by : (t : List ℕ) (closed : ℕ) (input stack list second : List ℕ) (limit : ℕ) → restricted_refusal t closed input (length stack) (length second) ≡ 0
    → (place : ℕ) → FirstClosed closed input place
    → EndsBy t closed input limit (length second) place (reading t input stack list second limit) (restricted_reading t closed input stack list second limit)
restricted_ends_by t closed input stack list second limit e place h = ends_by t closed input stack list second limit e place h

-- and each input has no closed terminal or a first one
pub first_closed_place : (closed : ℕ) (input : List ℕ) → OpenLine closed input ⊎ ((place : ℕ) × FirstClosed closed input place)
first_closed_place closed input = first_closed closed input

-- Demand 3: "With the maker's table a choir's line is accepted only if it is derived and has no closed mark; "begins a sentence", for offers and for places
-- other than a closed mark's, still means any sentence of the grammar. Demand 3 as written is the publisher's; for a choir's reading it holds with the closed
-- marks taken as this card says, a closed mark being named where it stands even if the marks so far begin a sentence."
pub demand_3_restricted : (t z w c : List ℕ) → numbers_of (generated t z w c).answer ≡ 0 ∷ [] → (closed : ℕ) (input stack list second : List ℕ) (limit : ℕ)
    → RestrictedDemand3 (grammar_of c) closed input (restricted_reading (generated t z w c).table closed input stack list second limit)
demand_3_restricted t z w c e closed input stack list second limit = restricted_across t z w c (made_by_number t z w c e) closed input stack list second limit

-- "Starred ones are shown to follow from the definitions, as rows of a common table covered by one theorem."
pub starred_rows : map (λ (r : Row). computed r.card r.lines) rows ≡ map (λ (r : Row). stated r.answer r.lines) rows
starred_rows = starred
