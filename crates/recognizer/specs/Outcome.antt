-- Demand 3 across both calls: "For every accepted grammar and every line, allowance and areas: if the reader, with that table as the maker left it, takes the line .."
use Rattle.std.specs.Prelude.{ℕ, ◌≡◌, ◌≢◌, List, Result, Ok, Err}
use Rattle.grammar.specs.Card.{grammar_of}
use Rattle.machine.specs.Report.{Reading}
use Rattle.machine.specs.ComputedRun.{reading, restricted_reading}
use Rattle.claim.specs.Claim.{Demand3}
use Rattle.claim.specs.RestrictedClaim.{RestrictedDemand3}
use Rattle.lalr.specs.Answer.{made, numbers_of, Generated}
use Rattle.lalr.specs.ComputedGenerator.{generated}
use Rattle.generator.specs.Answer.{numbers}
use Rattle.generator.specs.declared.Refusal as generator
use Rattle.parser.specs.Answer.{ReadsAs}
use Rattle.parser.specs.declared.Reading as parser
use Rattle.table_checks.specs.declared.Refusal as table_checks
use Rattle.recognizer.specs.declared.Refusal.{Refusal}
use Rattle.recognizer.specs.declared.Refusal.TheVariants.{NoTable, Refused}

-- the maker made no table and says why; the reader's areas are as they were
pub record WithoutTable (g : Generated) (a : generator.Refusal) (st₀ li₀ se₀ st li se : List ℕ) : Type 0 where
  pub no_table : g.answer ≢ made
  pub answer : numbers (Err a) ≡ numbers_of g.answer
  pub stack : st ≡ st₀
  pub list : li ≡ li₀
  pub second : se ≡ se₀

-- the maker made a table, the answer is that of the reading with the table as it was left, and says of the input what the grammar says
pub record WithTable (g : Generated) (r : Reading) (demand : Reading → Type 0) (a : Result parser.Reading table_checks.Refusal) (st li se : List ℕ) : Type 0 where
  pub table : g.answer ≡ made
  pub reads : ReadsAs r a st li se
  pub demand_3 : demand r

-- how the call ends, by its answer: g is what the maker gives for the card, r the reading with its table; the reader's areas were st₀, li₀ and se₀
abbrev pub Ends : Generated → Reading → (Reading → Type 0) → List ℕ → List ℕ → List ℕ → Result parser.Reading Refusal → List ℕ → List ℕ → List ℕ → Type 0
Ends g r demand st₀ li₀ se₀ (Ok a) st li se = WithTable g r demand (Ok a) st li se
Ends g r demand st₀ li₀ se₀ (Err (Refused e)) st li se = WithTable g r demand (Err e) st li se
Ends g r demand st₀ li₀ se₀ (Err (NoTable a)) st li se = WithoutTable g a st₀ li₀ se₀ st li se

-- the whole call: t, z, w, st, li, se are the areas after it
pub record RecognizesAs (g : Generated) (r : Reading) (demand : Reading → Type 0) (st₀ li₀ se₀ : List ℕ) (o : Result parser.Reading Refusal) (t z w st li se : List ℕ) : Type 0 where
  pub outcome : Ends g r demand st₀ li₀ se₀ o st li se
  pub table : t ≡ g.table
  pub words : z ≡ g.words
  pub halves : w ≡ g.halves

-- for every card, input (the paper's line), step limit (its allowance) and lent area
abbrev pub Recognizes : (card input : List ℕ) (limit : ℕ) (t₀ z₀ w₀ st₀ li₀ se₀ : List ℕ) → Result parser.Reading Refusal → (t z w st li se : List ℕ) → Type 0
Recognizes card input limit t₀ z₀ w₀ st₀ li₀ se₀ =
    RecognizesAs (generated t₀ z₀ w₀ card) (reading (generated t₀ z₀ w₀ card).table input st₀ li₀ se₀ limit) (Demand3 (grammar_of card) input) st₀ li₀ se₀

-- and for every word of terminals closed to a choir
abbrev pub RecognizesRestricted : (card input : List ℕ) (closed limit : ℕ) (t₀ z₀ w₀ st₀ li₀ se₀ : List ℕ) → Result parser.Reading Refusal → (t z w st li se : List ℕ) → Type 0
RecognizesRestricted card input closed limit t₀ z₀ w₀ st₀ li₀ se₀ =
    RecognizesAs (generated t₀ z₀ w₀ card) (restricted_reading (generated t₀ z₀ w₀ card).table closed input st₀ li₀ se₀ limit) (RestrictedDemand3 (grammar_of card) closed input) st₀ li₀ se₀
