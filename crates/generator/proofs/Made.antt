-- The answers of `make`, from what each phase leaves.
use mathlib.Core.Path.{◌≡◌, refl, ap, ◌∙◌}
use mathlib.Core.List.{List, []}
use Prim.Native.Nat.{ℕ, ◌≤◌, ◌<◌}
use native.Mathlib.Omega.{arith}
use lib.ListN.{length, get_or}
use Rattle.sets.specs.Lists.{covered}
use Rattle.grammar.specs.Card.{nonterminals, form_fault, grammar_of}
use Rattle.grammar.specs.Shortest.{ShortestLengths}
use Rattle.grammar.proofs.CardLaws.{well_formed}
use Rattle.areas.specs.Areas.{table_size, words_size, halves_size}
use Rattle.lr.proofs.ItemLaws.{all_productive}
use Rattle.lr.specs.States.{States, MoreStates}
use Rattle.lalr.specs.Answer.{made, refused, conflict}
use Rattle.lalr.specs.ComputedGenerator.{generated}
use Rattle.lalr.specs.Meaning.{AllUseful}
use Rattle.lalr.specs.Demand2.{Room}
use Rattle.states.specs.States.{transition}
use Rattle.states.specs.States as states
use Rattle.automaton.specs.Outcome.{Outcome, few, many}
use Rattle.automaton.proofs.Outcomes.{outcome}
use Rattle.transitions.specs.Places.{transition_limit}
use Rattle.transitions.specs.Next.{next_of, Numbered}
use Rattle.transitions.specs.Area.{shortest_of}
use Rattle.transitions.specs.Data as lists
use Rattle.lookaheads.specs.Outcome.{Stage, Filled}
use Rattle.lookaheads.specs.declared.Conflict as lookaheads
use Rattle.std.proofs.Common.{Result, Ok, Err, IsErrAnd, Option, Some, None}
use Rattle.generator.specs.declared.Refusal.{Refusal}
use Rattle.generator.specs.declared.Refusal.TheVariants.{ManyStates, ManyTransitions, Conflict}
use Rattle.generator.specs.Answer.{GeneratesAs}
use Rattle.generator.specs.Phases.{Cleared, Complete}
use Rattle.generator.proofs.Laws.{covered_same, covers_all, eleven, twelve, thirteen, table_made, the_table, numbers_states, entering_below}
use Rattle.generator.proofs.Walks.{sets_terminals}

-- of more than 256 states, or of their number
more : (c t : List ℕ) → Outcome c t None → MoreStates (grammar_of c) 256
more c t (many m) = m

found : (c t : List ℕ) (n : ℕ) → Outcome c t (Some n) → (n ≤ 256) × States (grammar_of c) n (transition c t)
found c t _ (few n l s) = (l, s)

module _ (t₀ z₀ w₀ c : List ℕ) (o : Room t₀ z₀ w₀) (f : form_fault c ≡ 0) (u : AllUseful (grammar_of c)) where
  module _ (t₁ z₁ w₁ : List ℕ) (r : Option ℕ) (b : states.Built c t₀ z₀ w₀ t₁ z₁ w₁ r) (lt : length t₁ ≡ length t₀) (lz : length z₁ ≡ length z₀) (lw : length w₁ ≡ length w₀) where
    after : Outcome c t₁ r
    after = outcome c z₀ t₀ z₁ t₁ r f (all_productive (grammar_of c) (λ x n. (u.each_nonterminal x n).productive)) b.stated

    same_table : (l : List ℕ) → covered table_size l t₁ ≡ covered table_size l t₀
    same_table l = covered_same table_size l t₀ t₁ lt (λ i h. b.table_kept.kept i h)

    same_words : covered words_size [] z₁ ≡ covered words_size [] z₀
    same_words = covered_same words_size [] z₀ z₁ lz (λ i h. b.sets_kept.kept i (omega arith))

    -- refusal 11
    pub eleven_met : {t z w : List ℕ} → r ≡ None → Cleared t₁ z₁ w₁ t z w → GeneratesAs (generated t₀ z₀ w₀ c) (Err ManyStates) t z w
    eleven_met {t} {z} {w} h cl =
        covers_all t₀ z₀ w₀ c (refused 11) (Err ManyStates) t z w (eleven t₀ z₀ w₀ c o f u (more c t₁ (rw h at after))) refl refl
        (cl.table ∙ same_table [])
        (cl.words ∙ same_words)
        (cl.halves ∙ covered_same halves_size [] w₀ w₁ lw (λ i k. b.words_kept.kept i (omega arith)))

    module _ (n : ℕ) (is : r ≡ Some n) where
      pub few_states : (n ≤ 256) × States (grammar_of c) n (transition c t₁)
      few_states = found c t₁ n (rw is at after)

      small : n ≤ 256
      small = few_states.0

      abbrev next : ℕ → ℕ → ℕ
      next = next_of c t₁ n

      pub numbered_states : Numbered c n (next_of c t₁ n)
      numbered_states = numbers_states t₀ z₀ w₀ c o f u t₁ n small few_states.1

      module _ (w₂ : List ℕ) (k : ℕ) (e : List ℕ) (l : lists.Built c w₁ w₂ n k e (next_of c t₁ n)) where
        same_halves : covered halves_size [] w₂ ≡ covered halves_size [] w₀
        same_halves = covered_same halves_size [] w₀ w₂ (l.long ∙ lw) (λ i h. l.rest i (omega arith) ∙ b.words_kept.kept i (omega arith))

        -- refusal 12
        pub twelve_met : {t z w : List ℕ} → transition_limit < k → Cleared t₁ z₁ w₂ t z w → GeneratesAs (generated t₀ z₀ w₀ c) (Err ManyTransitions) t z w
        twelve_met {t} {z} {w} h cl =
            covers_all t₀ z₀ w₀ c (refused 12) (Err ManyTransitions) t z w (twelve t₀ z₀ w₀ c o f u t₁ n small few_states.1 k l.count h) refl refl
            (cl.table ∙ same_table [])
            (cl.words ∙ same_words)
            (cl.halves ∙ same_halves)

        module _ (narrow : k ≤ transition_limit) (z₂ : List ℕ) (co : Complete c w₂ n k (next_of c t₁ n) z₁ z₂) where
          pub stage : Stage c t₁ w₂ z₂ n
          stage =
              record {
                transitions = k;
                ordered = (l.holds narrow).ordered;
                numbered = numbered_states;
                shifts = co.shifts;
                terminals = λ i m h g. sets_terminals c w₂ n k (next_of c t₁ n) z₁ z₂ (l.holds narrow).ordered co i m h g;
                entering = entering_below t₀ z₀ w₀ c o f u t₁ n small few_states.1 w₂ k (l.holds narrow);
                table_long = omega (arith, lt, o.table);
                words_long = omega (arith, co.long, lz, o.words);
                halves_long = omega (arith, l.long, lw, o.halves);
              }

          words_left : covered words_size [] z₂ ≡ covered words_size [] z₀
          words_left = covered_same words_size [] z₀ z₂ (co.long ∙ lz) (λ i h. co.beyond i h ∙ b.sets_kept.kept i (omega arith))

          module _ (lengths : ShortestLengths (grammar_of c) 60 (λ j. get_or e j 0)) where
            short : ShortestLengths (grammar_of c) (nonterminals c) (shortest_of w₂)
            short j h = let b : j < 60 = omega (arith, (well_formed c f).limits.nonterminals_to) in rw (l.lengths j b) (lengths j b)

            -- a table
            pub table_met : {t z w : List ℕ} → Filled c t₁ w₂ z₂ n t w z (Ok tt) → GeneratesAs (generated t₀ z₀ w₀ c) (Ok tt) t z w
            table_met {t} {z} {w} p =
                let T = p.outcome k (l.holds narrow).ordered in
                let st = few_states.1 in
                covers_all t₀ z₀ w₀ c made (Ok tt) t z w
                (table_made t₀ z₀ w₀ c o f u t₁ n small st w₂ z₁ z₂ k l.count narrow (l.holds narrow) short co T.entered T.cell T.entries T.actions T.nexts) refl refl
                (T.area ∙ same_table _ ∙ ap (λ (x : List ℕ). covered table_size x t₀) (the_table t₀ z₀ w₀ c o f u t₁ n small st w₂ z₁ z₂ k l.count narrow (l.holds narrow) short co T.entered T.cell T.entries T.actions T.nexts))
                (p.words ∙ words_left)
                (p.halves ∙ same_halves)

            -- refusal 13
            pub conflict_met : {t z w : List ℕ} (e : lookaheads.Conflict) (r : Result (Unit {0}) Refusal) → IsErrAnd r (λ d. d ≡ Conflict e) → Filled c t₁ w₂ z₂ n t w z (Err e) → GeneratesAs (generated t₀ z₀ w₀ c) r t z w
            conflict_met e (Ok u) h p = absurd h
            conflict_met {t} {z} {w} e (Err d) h p =
                let T = p.outcome k (l.holds narrow).ordered in
                rw h
                (covers_all t₀ z₀ w₀ c (conflict e.state e.terminal e.lower e.upper) (Err (Conflict e)) t z w
                (thirteen t₀ z₀ w₀ c o f u t₁ n small few_states.1 w₂ z₁ z₂ k l.count narrow (l.holds narrow) short co e.state e.terminal e.lower e.upper T.0) refl refl
                (T.1 ∙ same_table [])
                (p.words ∙ words_left)
                (p.halves ∙ same_halves))
