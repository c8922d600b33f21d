-- What is read before the first closed terminal, up to a bar there, is the restricted reading of the whole input.
use mathlib.Core.Path.{◌≡◌, refl, sym, ap, ◌∙◌}
use mathlib.Core.Logic.{◌≢◌}
use mathlib.Core.Bool.{true}
use mathlib.Core.List.{List}
use Prim.Native.Nat.{ℕ, ◌^◌, ◌<◌, ◌≤◌}
use native.Mathlib.Omega.{arith}
use lib.ListN.{length, get_or, take, drop, take-append-drop, drop_of_length-le}
use lib.Seq.{length-take-le, get_or-take, take-take}
use lib.Dec.{ltb}
use borrow.Author.Tests.{eq-eqb, ne_eqb, ltb-true, ltb-false}
use Rattle.machine.specs.Checks.{input_ok, refusal_of, closed_ok, restricted_refusal}
use Rattle.machine.specs.Report.{Reading, numbers_of}
use Rattle.machine.specs.Restricted.{OpenLine}
use Rattle.machine.specs.ComputedRun.{Outcome, run, start, report_of, reading_of, reading, masked, restricted_reading}
use Rattle.machine.specs.Widths.{ReadsIn}
use Rattle.machine.proofs.Checked.{Taken, next_passed}
use Rattle.machine.proofs.Shifts.{peek_drop}
use Rattle.machine.proofs.Explorations.{input_front}
use Rattle.machine.proofs.RunTo.{Front, run_to_masked, run_to_within}
use Rattle.machine.proofs.ReadsLaws.{reads_some}
use Rattle.machine.proofs.MaskedLaws.{masked_taken}
use Rattle.machine.proofs.RestrictedLaws.{restricted_refused, open_known, open_unknown}
use Rattle.machine.proofs.Widths.{count_in, in_width}
use Rattle.table_checks.specs.Verdict.{refusal_number}
use Rattle.table_checks.specs.declared.Refusal.{Refusal}
use Rattle.table_checks.specs.declared.Refusal.TheVariants.{TableShort, SizesWrong, ProductionWrong, CellWrong, EntryWrong, InputLong, TerminalWrong, NoStack, SecondShort, ClosedWrong}
use Rattle.scans.specs.OpenFront.{OpenFront}
use Rattle.std.specs.Prelude.{Result, Ok, Err}
use Rattle.parser.specs.Answer.{reading_numbers, numbers, ReadsAs}
use Rattle.parser.specs.Phases.{known, unknown, Answers, ends, stops, Ready, ReadsTo}
use Rattle.parser.specs.declared.Reading as declared

not_zero : (e : Refusal) → refusal_number e ≢ 0
not_zero TableShort z = omega arith
not_zero SizesWrong z = omega arith
not_zero ProductionWrong z = omega arith
not_zero CellWrong z = omega arith
not_zero EntryWrong z = omega arith
not_zero InputLong z = omega arith
not_zero TerminalWrong z = omega arith
not_zero NoStack z = omega arith
not_zero SecondShort z = omega arith
not_zero ClosedWrong z = omega arith

-- each terminal is a bit of a word
pub terminals_small : (t : List ℕ) (closed : ℕ) (l : List ℕ) (n k : ℕ) → restricted_refusal t closed l n k ≡ 0 → (i : ℕ) → get_or l i 0 < 64
terminals_small t closed l n k e i =
    let p = (masked_taken t closed l n k e).0.passed in
    let h = next_passed p i in
    omega (arith, h, p.table.sizes.terminals_are.1)

-- the line before the first closed terminal
pub ready_restricted : (t : List ℕ) (closed : ℕ) (l : List ℕ) (n k i : ℕ) → restricted_refusal t closed l n k ≡ 0 → OpenFront closed l i → Ready t (take i l) closed n k
ready_restricted t closed l n k i e f =
    let z = masked_taken t closed l n k e in
    let b = length-take-le i l f.within in
    record {
      passed = record { table = z.0.passed.table; input_passed = input_front t i l f.within z.0.passed.input_passed; places = z.0.passed.places };
      short = omega (arith, z.0.short, b, f.within);
      second = z.0.second;
      word = z.1;
    }

module _ (t : List ℕ) (closed : ℕ) (l st li se : List ℕ) (a : ℕ) where
  pub refuses_restricted : (e : Refusal) → refusal_number e ≡ restricted_refusal t closed l (length st) (length se) → ReadsAs (restricted_reading t closed l st li se a) (Err e) st li se
  refuses_restricted e h =
      rw (restricted_refused t closed l st li se a (refusal_number e) (sym h) (not_zero e)) (record { answer = refl; stack = refl; list = refl; second = refl })

  module _ (e : restricted_refusal t closed l (length st) (length se) ≡ 0) (n : ℕ) (f : OpenFront closed l n) where
    mt : Taken t l (length st) (length se) × (closed_ok t closed ≡ true) × (refusal_of (masked closed t) l (length st) (length se) ≡ 0)
    mt = masked_taken t closed l (length st) (length se) e

    input_passed : input_ok t l ≡ true
    input_passed = mt.0.passed.input_passed

    line_long : length (take n l) ≡ n
    line_long = length-take-le n l f.within

    some_places : 0 < length se
    some_places = omega (arith, mt.0.passed.places, mt.0.second)

    -- what stands before the first closed terminal, and a bar where there is one
    front : Front closed l (take n l) (ltb n (length l))
    front = record {
      behind = drop n l;
      whole = take-append-drop n l;
      unclosed = f.before;
      bar = λ h. rw (peek_drop n l) (f.there (ltb-true n (length l) h));
      all = λ h. drop_of_length-le l {i = n} (ltb-false n (length l) h);
    }

    module _ (o : Outcome) (h : o.final.position ≤ n) where
      line_is : take o.final.position (take n l) ≡ take o.final.position l
      line_is = take-take o.final.position n l h

      line_open : OpenLine closed (take o.final.position l)
      line_open i k =
          let d = length-take-le o.final.position l (omega (arith, f.within)) in
          rw (get_or-take o.final.position l i 0 (omega (arith, d)), ← get_or-take n l i 0 (omega (arith, d, h))) (f.before i (omega (arith, d, h, line_long)))

      report_restricted : {r : declared.Reading} → Answers t closed (take n l) a (length se) o r → reading_numbers r ≡ numbers_of (report_of (masked closed t) l a (length se) o)
      unfolding report_of
      report_restricted (ends ne er) = rw (ne_eqb o.number 31 ne) er
      report_restricted (stops eo (known word w er)) =
          rw (eq-eqb o.number 31 eo)
          (er ∙ ap numbers_of (sym (open_known l a (length se) mt.0.passed.table mt.1 input_passed some_places o.final (omega (arith, f.within)) line_open word (rw line_is at w))))
      report_restricted (stops eo (unknown w er)) =
          rw (eq-eqb o.number 31 eo)
          (er ∙ ap numbers_of (sym (open_unknown l a (length se) mt.0.passed.table mt.1 input_passed some_places o.final (omega (arith, f.within)) line_open (rw line_is at w))))

    pub reads_restricted : {r : declared.Reading} {st' li' se' : List ℕ} → ReadsTo t (take n l) (ltb n (length l)) closed st li se a r st' li' se' → ReadsAs (restricted_reading t closed l st li se a) (Ok r) st' li' se'
    unfolding restricted_reading reading_of
    reads_restricted {r} w =
        let eo = run_to_masked st li mt.0.passed mt.1 front a in
        let h = rw eo at (run_to_within (ltb n (length l)) st li (ready_restricted t closed l (length st) (length se) n e f).passed a) in
        let k : Answers t closed (take n l) a (length se) (run (masked closed t) l a (start st li)) r = rw eo at w.answer in
        rw (eq-eqb (restricted_refusal t closed l (length st) (length se)) 0 e)
        (record {
          answer = report_restricted _ (omega (arith, h, line_long)) k;
          stack = w.stack ∙ ap (λ (o : Outcome). o.final.stack) eo;
          list = w.list ∙ ap (λ (o : Outcome). o.final.list) eo;
          second = w.second;
        })

-- of the publisher's reading, under a limit of w bits: a reading in w bits is answered, with a count of w bits
pub answered_in : (t l st li se : List ℕ) (a w : ℕ) {r : Result declared.Reading Refusal} {st' li' se' : List ℕ} → a < 2 ^ w → ReadsAs (reading t l st li se a) r st' li' se'
    → (g : Reading) × ReadsIn w t l st li se a g × ReadsAs g r st' li' se' × (get_or (numbers r) 1 0 < 2 ^ w)
answered_in t l st li se a w f h =
    let d = reads_some t l st li se a in
    (reading t l st li se a, (in_width w t l st li se a f (reading t l st li se a)).1 d, h, rw h.answer (count_in w f d))
