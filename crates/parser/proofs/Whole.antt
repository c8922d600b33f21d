-- From the run and the exploration to the answer.
use mathlib.Core.Path.{◌≡◌, refl, ap, ◌∙◌}
use mathlib.Core.List.{List, [], ◌∷◌, ◌++◌}
use Rattle.std.specs.Prelude.{Result, Ok, Err}
use Prim.Native.Nat.{ℕ, ◌≤◌}
use native.Mathlib.Omega.{arith}
use lib.ListN.{take}
use lib.Count.{ones}
use Rattle.machine.specs.Report.{numbers_of}
use Rattle.machine.specs.ComputedRun.{Machine, Outcome, expected_at, unknown_at}
use Rattle.parser.specs.Answer.{reading_numbers}
use Rattle.parser.specs.Phases.{At, Says, final, wrong, Explorable, tells, AnswersAt, known, unknown, Answers, stops}
use Rattle.exploration.specs.Expected.{Explores}
use Rattle.exploration.specs.declared.Cut.{Cut}
use Rattle.parser.specs.declared.Counts.{Counts}
use Rattle.parser.specs.declared.Ending.{Ending}
use Rattle.parser.specs.declared.Ending.TheVariants.{Wrong}
use Rattle.parser.specs.declared.Reading.{Reading}

-- ---- what is explored

same_31 : (word : ℕ) {position : ℕ} {c : Counts} (m : Machine) → At m position c → tells (Ok word) position c ≡ numbers_of (expected_at word m)
unfolding expected_at
same_31 word {position} m w = ap (λ (x : List ℕ). 31 ∷ x ++ position ∷ word ∷ ones word ∷ []) w.counted ∙ rw w.place refl

same_46 : (e : Cut) {position : ℕ} {c : Counts} (m : Machine) → At m position c → tells (Err e) position c ≡ numbers_of (unknown_at m)
unfolding unknown_at
same_46 e {position} m w = ap (λ (x : List ℕ). 46 ∷ x ++ position ∷ 0 ∷ 0 ∷ []) w.counted ∙ rw w.place refl

-- what an exploration tells is what is answered at the machine
pub told_at : {t line : List ℕ} {closed a k position : ℕ} {c : Counts} {r : Reading} (e : Result ℕ Cut) → Explores t closed a k (take position line) e → reading_numbers r ≡ tells e position c → (m : Machine) → At m position c
    → AnswersAt t closed line a k m r
told_at (Ok word) o er m w = known word (rw w.place at o) (er ∙ same_31 word m w)
told_at (Err e) s er m w = unknown (rw w.place at s) (er ∙ same_46 e m w)

-- ---- the answer of a run

module _ {t line : List ℕ} {closed a k : ℕ} {o : Outcome} where
  wrong_says : {r : Reading} {position : ℕ} {c : Counts} → ((m : Machine) → At m position c → AnswersAt t closed line a k m r) → Says o (Wrong position c) → Answers t closed line a k o r
  wrong_says h (wrong e w) = stops e (h o.final w)

  pub wrong_is : {e : Ending} {r : Reading} {position : ℕ} {c : Counts} → e ≡ Wrong position c → ((m : Machine) → At m position c → AnswersAt t closed line a k m r) → Says o e
      → Answers t closed line a k o r
  wrong_is e h s = wrong_says h (rw e at s)

-- the position lies in the input
pub explorable : {o : Outcome} {e : Ending} {n : ℕ} → Says o e → o.final.position ≤ n → Explorable n e
explorable (final _ _) h = tt
explorable (wrong _ w) h = omega (arith, w.place)
