-- From the two contracts to demand 3.
use mathlib.Core.Path.{◌≡◌, refl}
use native.Mathlib.Omega.{arith}
use mathlib.Core.List.{List}
use Prim.Native.Nat.{ℕ}
use Rattle.machine.specs.ComputedRun.{reading, restricted_reading}
use Rattle.machine.proofs.RestrictedLaws.{restricted_none}
use Rattle.lalr.specs.ComputedGenerator.{generated}
use Rattle.certificate.proofs.Demand.{across, restricted_across}
use Rattle.generator.specs.Answer.{GeneratesAs}
use Rattle.generator.proofs.Answers.{table_is_made, made_is_table}
use Rattle.generator.specs.declared.Refusal as generator
use Rattle.parser.specs.Answer.{ReadsAs}
use Rattle.std.specs.Prelude.{Result, Ok, Err}
use Rattle.grammar.specs.Card.{grammar_of}
use Rattle.claim.specs.Claim.{Demand3}
use Rattle.claim.specs.RestrictedClaim.{RestrictedDemand3}
use Rattle.parser.specs.declared.Reading as parser
use Rattle.table_checks.specs.declared.Refusal as table_checks
use Rattle.recognizer.specs.Outcome.{WithTable, Recognizes, RecognizesRestricted}
use Rattle.recognizer.specs.declared.Refusal.{Refusal}
use Rattle.recognizer.specs.declared.Refusal.TheVariants.{NoTable, Refused}

module _ (card : List ℕ) (t₀ z₀ w₀ : List ℕ) {a : Result (Unit {0}) generator.Refusal} {t z w : List ℕ} (g : GeneratesAs (generated t₀ z₀ w₀ card) a t z w) where
  -- a table: nothing writes it before it is read
  module _ (e : a ≡ Ok tt) (input : List ℕ) (limit : ℕ) (st₀ li₀ se₀ : List ℕ) {st li se : List ℕ} (closed : ℕ) where
    with_table : {r : Result parser.Reading table_checks.Refusal} → ReadsAs (restricted_reading t closed input st₀ li₀ se₀ limit) r st li se
        → WithTable (generated t₀ z₀ w₀ card) (restricted_reading (generated t₀ z₀ w₀ card).table closed input st₀ li₀ se₀ limit) (RestrictedDemand3 (grammar_of card) closed input) r st li se
    with_table h =
        let m = table_is_made t₀ z₀ w₀ card g e in
        record { table = m; reads = rw g.table at h; demand_3 = restricted_across t₀ z₀ w₀ card m closed input st₀ li₀ se₀ limit }

    pub reads : {r : parser.Reading} → ReadsAs (restricted_reading t closed input st₀ li₀ se₀ limit) (Ok r) st li se → RecognizesRestricted card input closed limit t₀ z₀ w₀ st₀ li₀ se₀ (Ok r) t z w st li se
    reads h = record { outcome = with_table h; table = g.table; words = g.words; halves = g.halves }

    pub read_refuses : {r : table_checks.Refusal} → ReadsAs (restricted_reading t closed input st₀ li₀ se₀ limit) (Err r) st li se
        → RecognizesRestricted card input closed limit t₀ z₀ w₀ st₀ li₀ se₀ (Err (Refused r)) t z w st li se
    read_refuses h = record { outcome = with_table h; table = g.table; words = g.words; halves = g.halves }

-- no table: the reader is not called
pub makes_none : (card input : List ℕ) (closed limit : ℕ) (t₀ z₀ w₀ st₀ li₀ se₀ : List ℕ) (e : generator.Refusal) {t z w : List ℕ} → GeneratesAs (generated t₀ z₀ w₀ card) (Err e) t z w
    → RecognizesRestricted card input closed limit t₀ z₀ w₀ st₀ li₀ se₀ (Err (NoTable e)) t z w st₀ li₀ se₀
makes_none card input closed limit t₀ z₀ w₀ st₀ li₀ se₀ e g =
    record {
      outcome = record { no_table = λ m. let h = made_is_table t₀ z₀ w₀ card g m in grind arith; answer = g.answer; stack = refl; list = refl; second = refl };
      table = g.table;
      words = g.words;
      halves = g.halves;
    }

-- with the word 0 the reading is the publisher's, and says of the input what his says
module _ (card input : List ℕ) (limit : ℕ) (t₀ z₀ w₀ st₀ li₀ se₀ : List ℕ) {st li se : List ℕ} where
  publisher : {r : Result parser.Reading table_checks.Refusal}
      → WithTable (generated t₀ z₀ w₀ card) (restricted_reading (generated t₀ z₀ w₀ card).table 0 input st₀ li₀ se₀ limit) (RestrictedDemand3 (grammar_of card) 0 input) r st li se
      → WithTable (generated t₀ z₀ w₀ card) (reading (generated t₀ z₀ w₀ card).table input st₀ li₀ se₀ limit) (Demand3 (grammar_of card) input) r st li se
  publisher o =
      record { table = o.table; reads = rw (restricted_none _ _ _ _ _ _) at o.reads; demand_3 = across t₀ z₀ w₀ card o.table input st₀ li₀ se₀ limit }

  pub none_closed : (o : Result parser.Reading Refusal) {t z w : List ℕ} → RecognizesRestricted card input 0 limit t₀ z₀ w₀ st₀ li₀ se₀ o t z w st li se → Recognizes card input limit t₀ z₀ w₀ st₀ li₀ se₀ o t z w st li se
  none_closed (Ok a) h = record { outcome = publisher h.outcome; table = h.table; words = h.words; halves = h.halves }
  none_closed (Err (Refused e)) h = record { outcome = publisher h.outcome; table = h.table; words = h.words; halves = h.halves }
  none_closed (Err (NoTable a)) h = record { outcome = h.outcome; table = h.table; words = h.words; halves = h.halves }
