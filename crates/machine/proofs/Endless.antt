-- A table of two states by which the machine reduces for ever: every number above 0 is the count of a reading, and a reader of w bits that is handed a limit
-- of 2 ^ w or more gives another reading than the definition's.
use Prim.Native.Nat.{ℕ, zero, suc, ◌+◌, ◌^◌, ◌<◌, ◌≤◌}
use native.Mathlib.Nat.{mod-lt}
use mathlib.Core.Path.{◌≡◌, refl, sym, ap, ap₂, subst, ◌∙◌}
use mathlib.Core.Logic.{◌≢◌}
use mathlib.Core.List.{List, [], ◌∷◌, ◌++◌, append_assoc, append-nil, reverse}
use lib.ListN.{length, drop, get_or, replicate, length-replicate}
use lib.Pow.{pow_pos}
use borrow.Author.Tests.{le-leb}
use native.Mathlib.Omega.{arith}
use Rattle.sets.specs.Tests.{all_below, between}
use Rattle.sets.specs.Lists.{covered}
use Rattle.tables.specs.Layout.{states, terminals, nonterminals, productions, width, left_of, length_of, entered_of, cell_of, size_of}
use Rattle.machine.specs.Checks.{sizes_ok, production_ok, terminal_cell_ok, cell_ok, row_ok, productions_ok, cells_ok, entry_ok, names_ok, row_names_ok, entries_ok, input_ok, table_refusal, input_refusal, area_refusal, refusal_of}
use Rattle.machine.specs.Report.{Reading, ended, numbers_of, steps_of}
use Rattle.machine.specs.LrMachine.{Config, conf, Step, Path, Ends, wrong}
use Rattle.machine.specs.Faithful.{no_steps, counts, Faithful}
use Rattle.machine.specs.ComputedRun.{reading}
use Rattle.machine.specs.Widths.{ReadsIn}
use Rattle.machine.proofs.ReadsLaws.{only_reading}
use Rattle.machine.proofs.Widths.{count_most, modulo}

-- production 0 is empty, production 1 replaces the nonterminal by itself
abbrev pub endless : List ℕ
endless = 2 ∷ 1 ∷ 1 ∷ 2 ∷ 1 ∷ 1 ∷ 0 ∷ 1 ∷ 0 ∷ 1 ∷ 1024 ∷ 1 ∷ 1025 ∷ 0 ∷ []

taken : (se : List ℕ) → 2 ≤ length se → refusal_of endless [] 2 (length se) ≡ 0
unfolding refusal_of table_refusal input_refusal area_refusal input_ok entries_ok row_names_ok names_ok entry_ok cells_ok productions_ok row_ok cell_ok terminal_cell_ok production_ok sizes_ok
    states terminals nonterminals productions width left_of length_of entered_of cell_of size_of all_below between
taken se h = rw (le-leb 2 (length se) h) refl

abbrev looping : List ℕ → Config
looping out = conf (1 ∷ 0 ∷ []) [] out

opens : Step endless (conf (0 ∷ []) [] []) (looping (0 ∷ []))
unfolding cell_of left_of length_of states productions width terminals nonterminals
opens = Step.reduce 0 0 [] 1 refl (λ e. omega arith) refl refl (omega arith)

again : (out : List ℕ) → Step endless (looping out) (looping (out ++ 1 ∷ []))
unfolding cell_of left_of length_of states productions width terminals nonterminals
again out = Step.reduce 1 0 [] 1 refl (λ e. omega arith) refl refl (omega arith)

loops : (n : ℕ) (out : List ℕ) → Path endless n 2 (looping out) (looping (out ++ replicate n 1))
loops zero out = subst (λ (x : List ℕ). Path endless 0 2 (looping out) (looping x)) (sym (append-nil out)) Path.none
loops (suc n) out =
    subst (λ (x : List ℕ). Path endless (suc n) 2 (looping out) (looping x)) (append_assoc out (1 ∷ []) (replicate n 1))
    (Path.more (again out) (loops n (out ++ 1 ∷ [])))

not_wrong : (out : List ℕ) → Ends endless (looping out) 31 → ⊥
unfolding cell_of states productions width terminals nonterminals
not_wrong out (wrong e) = omega (arith, e)

count_suc : (n : ℕ) (li se : List ℕ) → 2 ≤ length se → suc n ≤ length li → numbers_of (reading endless [] (0 ∷ 0 ∷ []) li se (suc n)).report ≡ 32 ∷ suc n ∷ 2 ∷ suc n ∷ []
count_suc n li se l h = ap (λ (r : Reading). numbers_of r.report) (sym (only_reading endless [] (0 ∷ 0 ∷ []) li se (suc n) (taken se l) f)) ∙ ap₂ (λ (c k : ℕ). 32 ∷ c ∷ 2 ∷ k ∷ []) same many
  where
    same : suc n + 0 ≡ suc n
    same = omega arith

    listed : List ℕ
    listed = 0 ∷ replicate n 1

    many : length listed ≡ suc n
    many = let e = length-replicate {A = ℕ} n 1 in omega (arith, e)

    f : Faithful endless [] (0 ∷ 0 ∷ []) li se (suc n) (record { report = ended 32 (suc n + 0) 2 (length listed); stack = covered 2 (reverse (1 ∷ 0 ∷ [])) (0 ∷ 0 ∷ []); list = listed ++ drop (length listed) li; second = replicate (length se) 0 })
    f = record {
      steps = suc n;
      most = 2;
      states = 1 ∷ 0 ∷ [];
      ahead = [];
      productions = listed;
      path = Path.more opens (loops n (0 ∷ []));
      within = omega arith;
      room = omega (arith, many);
      left = 0;
      budget = omega arith;
      number = 32;
      why = no_steps (not_wrong listed) refl;
      reported = counts 32 (λ e. omega arith);
      stacked = refl;
      listing = refl;
      cleared = refl;
    }

-- a list area with a place for each step lets the limit alone end the reading
pub every_count : (a : ℕ) (li se : List ℕ) → 2 ≤ length se → 0 < a → a ≤ length li → numbers_of (reading endless [] (0 ∷ 0 ∷ []) li se a).report ≡ 32 ∷ a ∷ 2 ∷ a ∷ []
every_count zero li se l z h = absurd (omega arith)
every_count (suc n) li se l z h = count_suc n li se l h

-- so w bits are too few for every limit from 2 ^ w on
pub too_narrow : (w a : ℕ) (li se : List ℕ) → 2 ≤ length se → 2 ^ w ≤ a → a ≤ length li → (r : Reading) → ReadsIn w endless [] (0 ∷ 0 ∷ []) li se a r
    → r ≢ reading endless [] (0 ∷ 0 ∷ []) li se a
too_narrow w a li se l g h r d e =
    let all : steps_of (reading endless [] (0 ∷ 0 ∷ []) li se a) ≡ a = ap (λ (n : List ℕ). get_or n 1 0) (every_count a li se l (omega (arith, pow_pos w)) h) in
    let few = count_most ((modulo w endless [] (0 ∷ 0 ∷ []) li se a r).0 d) in
    omega (arith, sym (ap steps_of e ∙ all), mod-lt a (pow_pos w))
