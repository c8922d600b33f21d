-- The maker's answer is the one of the definition, and no other is.
use mathlib.Core.Path.{◌≡◌, refl, sym, ap, ◌∙◌, subst}
use mathlib.Core.Bool.{Bool, true, false}
use mathlib.Core.Logic.{◌↔◌, ◌≢◌, ◌⊎◌, inl, inr}
use mathlib.Core.List.{List, [], ◌∷◌}
use Prim.Native.Nat.{ℕ, ◌+◌, ◌≤◌, ◌<◌}
use native.Mathlib.Omega.{arith}
use native.Mathlib.Decide.{ℕ_discrete, dec_lt}
use lib.ListN.{length, get_or}
use lib.Dec.{ltb}
use borrow.Author.Tests.{ltb-true, ltb-false}
use Rattle.grammar.specs.Grammar.{Grammar, Formed}
use Rattle.lr.proofs.ItemLaws.{AllProductive}
use Rattle.lr.proofs.Automaton.{Automaton, walk}
use Rattle.grammar.specs.Useful.{Useful, Nonterminal}
use Rattle.sets.specs.Lists.{each}
use Rattle.lr.specs.States.{count_transitions, States, MoreStates, nonterminal_transitions}
use Rattle.tables.specs.Conflicts.{Conflict, Single, Before}
use Rattle.lr.specs.Cells.{Action}
use Rattle.lr.proofs.Unique.{pigeon, next_same, compare}
use Rattle.lr.proofs.OneTable.{same_count, action_same}
use Rattle.grammar.specs.Card.{form_fault, grammar_of}
use Rattle.lalr.specs.ComputedNonterminals.{useless_nonterminal}
use Rattle.lalr.specs.ComputedStates
use Rattle.lalr.specs.ComputedStates.{states, facts, actions}
use Rattle.lalr.specs.Answer.{Answer, useless_at, conflict}
use Rattle.lalr.specs.ComputedAnswer.{judge, grammar_answer}
use Rattle.lalr.specs.Meaning.{AllUseful, Judged, useless, many, wide, clash, fine}
use Rattle.sets.proofs.ListLaws.{each_same}
use Rattle.lalr.proofs.ItemLaws.{In}
use Rattle.lalr.proofs.StateLaws
use Rattle.lalr.proofs.CellLaws.{Search, none_met, met_at, conflict_search, conflict_found, single_of}
use Rattle.lalr.proofs.UsefulLaws.{useless_nonterminal_is, none_useless}
use Rattle.grammar.proofs.CardLaws.{WellFormed, well_formed, formed}

module _ (g : Grammar) (f : Formed g) where
  abbrev rows : List (List ℕ)
  rows = (states g).rows

  abbrev count : ℕ
  count = length rows

  abbrev next : ℕ → ℕ → ℕ
  next q x = ComputedStates.goes g rows q x

  abbrev pub holds : ℕ → ℕ → ℕ → Type 0
  holds q r d = In g (get_or (states g).sets q 0) r d

  pub built : (pr : AllProductive g) → count ≤ 256 → Automaton g count holds next
  built pr h = let t = StateLaws.few g f pr h in rw t.0 (StateLaws.automaton g f pr (states g).sets (states g).rows t.1)

  pub built_states : (pr : AllProductive g) → count ≤ 256 → States g count next
  built_states pr h = let t = StateLaws.few g f pr h in rw t.0 (StateLaws.are_states g f pr (states g).sets (states g).rows t.1)

  abbrev pub acts : ℕ → ℕ → List ℕ
  acts q m = actions g rows (facts g rows) q m

  all_useful : g.terminals + g.nonterminals ≤ useless_nonterminal g → AllUseful g
  all_useful h = record { each_nonterminal = λ x n. (useless_nonterminal_is g f).before x n.from (omega (arith, n.below)) }

  module _ (productions_few : g.productions ≤ 128) where
    sized_answer : AllUseful g → (pr : AllProductive g) → (few : count ≤ 256) → nonterminal_transitions g count next ≤ 2048 → {x : Answer} → Search acts g.terminals 0 count x → Judged g x
    sized_answer u pr few nar (none_met c) = fine count next (record { useful = u; states = built_states pr few; few = few; narrow = nar }) (λ q m hq hm. single_of g f pr rows holds (built pr few) few productions_few q m hm (c q m (omega arith) (omega arith) hm))
    sized_answer u pr few nar (met_at {p = q} {m = m} h k l e c d) = clash count next (record { useful = u; states = built_states pr few; few = few; narrow = nar }) (conflict_found g f pr rows holds (built pr few) few productions_few (omega arith) l e c d)

    judge_is : AllUseful g → AllProductive g → Judged g (judge g rows)
    judge_is u pr = go (ltb 256 count) refl (ltb 2048 (nonterminal_transitions g count next)) refl
      where
        go : (b : Bool) → ltb 256 count ≡ b → (d : Bool) → ltb 2048 (nonterminal_transitions g count next) ≡ d → Judged g (judge g rows)
        go true e d k = rw (e, judge) (many u (StateLaws.many g f pr (ltb-true 256 count e)))
        go false e true k = let few : count ≤ 256 = ltb-false 256 count e in rw (e, judge, k) (wide count next u (built_states pr few) few (ltb-true 2048 (nonterminal_transitions g count next) k))
        go false e false k = let few : count ≤ 256 = ltb-false 256 count e in rw (e, judge, k) (sized_answer u pr few (ltb-false 2048 (nonterminal_transitions g count next) k) (conflict_search g f pr rows holds (built pr few) few productions_few))

    pub answer_is : Judged g (grammar_answer g)
    answer_is = go (ltb (useless_nonterminal g) (g.terminals + g.nonterminals)) refl
      where
        go : (b : Bool) → ltb (useless_nonterminal g) (g.terminals + g.nonterminals) ≡ b → Judged g (grammar_answer g)
        go true e =
            let l = useless_nonterminal_is g f in
            let h : useless_nonterminal g < g.terminals + g.nonterminals = ltb-true (useless_nonterminal g) (g.terminals + g.nonterminals) e in
            rw (e, grammar_answer) (useless (record { from = l.from; below = h }) (l.here h) (λ y n k. l.before y n.from k))
        go false e =
            let h : g.terminals + g.nonterminals ≤ useless_nonterminal g = ltb-false (useless_nonterminal g) (g.terminals + g.nonterminals) e in
            rw (e, grammar_answer) (judge_is (all_useful h) (none_useless g f h))

-- ---- no other answer
module _ (g : Grammar) where
  too_many : {count : ℕ} {next : ℕ → ℕ → ℕ} → States g count next → count ≤ 256 → MoreStates g 256 → ⊥
  too_many {count} {next} st h m =
      pigeon 256 (λ i. walk next 0 (m.path i)) (λ i k. let b : walk next 0 (m.path i) < count = st.below (m.viable i k) in omega arith)
      (λ i j hi hj e. m.apart i j hi hj ((st.merged (m.viable i hi) (m.viable j hj)).0 e))

  module _ {count : ℕ} {next : ℕ → ℕ → ℕ} (st : States g count next) {count' : ℕ} {next' : ℕ → ℕ → ℕ} (st' : States g count' next') where
    transitions_same : nonterminal_transitions g count next ≡ nonterminal_transitions g count' next'
    transitions_same =
        ap count_transitions (each_same count (λ q. each g.nonterminals (λ x. next q (g.terminals + x) ∷ [])) (λ q. each g.nonterminals (λ x. next' q (g.terminals + x) ∷ [])) (λ q h. each_same g.nonterminals (λ x. next q (g.terminals + x) ∷ []) (λ x. next' q (g.terminals + x) ∷ []) (λ x k. ap (λ (n : ℕ). n ∷ []) (next_same g count next st count' next' st' q (g.terminals + x) h))))
        ∙ ap (λ (n : ℕ). nonterminal_transitions g n next') (same_count g st st')

  module _ {count : ℕ} {next : ℕ → ℕ → ℕ} (st : States g count next) {count' : ℕ} {next' : ℕ → ℕ → ℕ} (st' : States g count' next') where
    -- a cell with two actions is not before the first such cell
    not_before : {q m v w q' m' v' w' : ℕ} → Conflict (Action g next) count g.terminals q m v w → Conflict (Action g next') count' g.terminals q' m' v' w' → Before q' m' q m → ⊥
    not_before {q' = q'} {m' = m'} {v' = v'} {w' = w'} c d b =
        let h = d.state in
        let e : count ≡ count' = same_count g st st' in
        let z = (c.before q' m' (rw e d.state) d.terminal b).only v' w' (action_same g st' st h d.numbers.first) (action_same g st' st h d.numbers.second) in
        omega (arith, d.numbers.lower)

  module _ {count : ℕ} {next : ℕ → ℕ → ℕ} (st : States g count next) {count' : ℕ} {next' : ℕ → ℕ → ℕ} (st' : States g count' next') where
    same_cell : {q m v w q' m' v' w' : ℕ} → Conflict (Action g next) count g.terminals q m v w → Conflict (Action g next') count' g.terminals q' m' v' w' → (q' ≡ q) × (m' ≡ m)
    same_cell {q} {m} {q' = q'} {m' = m'} c d = go (compare q m q' m')
      where
        go : Before q' m' q m ⊎ (((q' ≡ q) × (m' ≡ m)) ⊎ Before q m q' m') → (q' ≡ q) × (m' ≡ m)
        go (inl b) = absurd (not_before st st' c d b)
        go (inr (inl e)) = e
        go (inr (inr b)) = absurd (not_before st' st d c b)

    second_le : {q m v w v' w' : ℕ} → Conflict (Action g next) count g.terminals q m v w → Conflict (Action g next') count' g.terminals q m v' w' → v' ≡ v → w ≤ w'
    second_le {v = v} {w' = w'} c d e = c.numbers.lowest w' (action_same g st' st d.state d.numbers.second) (λ z. (let l = d.numbers.lower in omega arith))

    first_le : {q m v w v' w' : ℕ} → Conflict (Action g next) count g.terminals q m v w → Conflict (Action g next') count' g.terminals q m v' w' → v' ≢ v → w ≤ v'
    first_le {v' = v'} c d ne = c.numbers.lowest v' (action_same g st' st d.state d.numbers.first) ne

  conflict_one : {count : ℕ} {next : ℕ → ℕ → ℕ} (st : States g count next) {count' : ℕ} {next' : ℕ → ℕ → ℕ} (st' : States g count' next') {q m v w q' m' v' w' : ℕ}
      → Conflict (Action g next) count g.terminals q m v w → Conflict (Action g next') count' g.terminals q' m' v' w' → conflict q m v w ≡ conflict q' m' v' w'
  conflict_one {count} {next} st {count'} {next'} st' {q} {m} {v} {w} {q'} {m'} {v'} {w'} c d =
      let t = same_cell st st' c d in
      let d₂ : Conflict (Action g next') count' g.terminals q m v' w' = rw (t.0, t.1) at d in
      let ev : v' ≡ v = same_first d₂ (ℕ_discrete v' v) in
      let ew : w' ≡ w = (let a : w ≤ w' = second_le st st' c d₂ ev in let b : w' ≤ w = second_le st' st d₂ c (sym ev) in omega arith) in
      rw (t.0, t.1, ev, ew)
    where
      same_first : Conflict (Action g next') count' g.terminals q m v' w' → Dec (v' ≡ v) → v' ≡ v
      same_first d (yes e) = e
      same_first d (no ne) = absurd (let a : w ≤ v' = first_le st st' c d ne in let b : w' ≤ v = first_le st' st d c (λ e. ne (sym e)) in omega (arith, c.numbers.lower, d.numbers.lower))

  -- two actions in a cell, and at most one in each
  both_ways : {count : ℕ} {next : ℕ → ℕ → ℕ} (st : States g count next) {count' : ℕ} {next' : ℕ → ℕ → ℕ} (st' : States g count' next') {q m v w : ℕ}
      → Conflict (Action g next) count g.terminals q m v w → ((q m : ℕ) → q < count' → m < g.terminals → Single (Action g next' q m)) → ⊥
  both_ways st st' {q} {m} {v} {w} c s =
      let z = (s q m (rw (← same_count g st st') c.state) c.terminal).only v w (action_same g st st' c.state c.numbers.first) (action_same g st st' c.state c.numbers.second) in
      omega (arith, c.numbers.lower)

  same_useless : {x y : ℕ} → Nonterminal g x → (Useful g x → ⊥) → ((z : ℕ) → Nonterminal g z → z < x → Useful g z) → Nonterminal g y → (Useful g y → ⊥) → ((z : ℕ) → Nonterminal g z → z < y → Useful g z) → x ≡ y
  same_useless {x} {y} n u l n' u' l' = go (dec_lt x y) (dec_lt y x)
    where
      go : Dec (x < y) → Dec (y < x) → x ≡ y
      go (yes h) d = absurd (u (l' x n h))
      go (no a) (yes h) = absurd (u' (l y n' h))
      go (no a) (no b) = omega arith

  pub judged_one : {a b : Answer} → Judged g a → Judged g b → a ≡ b
  judged_one (useless n u l) (useless n' u' l') = ap useless_at (same_useless n u l n' u' l')
  judged_one (useless n u l) (many a m) = absurd (u (a.each_nonterminal _ n))
  judged_one (useless n u l) (wide c x a st h k) = absurd (u (a.each_nonterminal _ n))
  judged_one (useless n u l) (clash c x z k) = absurd (u (z.useful.each_nonterminal _ n))
  judged_one (useless n u l) (fine c x z k) = absurd (u (z.useful.each_nonterminal _ n))
  judged_one (many a m) (useless n u l) = absurd (u (a.each_nonterminal _ n))
  judged_one (many a m) (many a' m') = refl
  judged_one (many a m) (wide c x a' st h k) = absurd (too_many st h m)
  judged_one (many a m) (clash c x z k) = absurd (too_many z.states z.few m)
  judged_one (many a m) (fine c x z k) = absurd (too_many z.states z.few m)
  judged_one (wide c x a st h k) (useless n u l) = absurd (u (a.each_nonterminal _ n))
  judged_one (wide c x a st h k) (many a' m) = absurd (too_many st h m)
  judged_one (wide c x a st h k) (wide c' x' a' st' h' k') = refl
  judged_one (wide c x a st h k) (clash c' x' z k') = absurd (omega (arith, z.narrow, transitions_same st z.states))
  judged_one (wide c x a st h k) (fine c' x' z k') = absurd (omega (arith, z.narrow, transitions_same st z.states))
  judged_one (clash c x z k) (useless n u l) = absurd (u (z.useful.each_nonterminal _ n))
  judged_one (clash c x z k) (many a m) = absurd (too_many z.states z.few m)
  judged_one (clash c x z k) (wide c' x' a st h k') = absurd (omega (arith, z.narrow, transitions_same st z.states))
  judged_one (clash c x z k) (clash c' x' z' k') = conflict_one z.states z'.states k k'
  judged_one (clash c x z k) (fine c' x' z' k') = absurd (both_ways z.states z'.states k k')
  judged_one (fine c x z k) (useless n u l) = absurd (u (z.useful.each_nonterminal _ n))
  judged_one (fine c x z k) (many a m) = absurd (too_many z.states z.few m)
  judged_one (fine c x z k) (wide c' x' a st h k') = absurd (omega (arith, z.narrow, transitions_same st z.states))
  judged_one (fine c x z k) (clash c' x' z' k') = absurd (both_ways z'.states z.states k' k)
  judged_one (fine c x z k) (fine c' x' z' k') = refl

-- the answer: of a card past 4 to 9 it is `a` exactly when the definition says so
pub answer_exact : (c : List ℕ) → form_fault c ≡ 0 → (a : Answer) → (grammar_answer (grammar_of c) ≡ a) ↔ Judged (grammar_of c) a
answer_exact c h a =
    let fo = well_formed c h in
    let j = answer_is (grammar_of c) (formed c fo) fo.limits.productions_to in
    (λ e. subst (λ (x : Answer). Judged (grammar_of c) x) e j, λ k. judged_one (grammar_of c) j k)
