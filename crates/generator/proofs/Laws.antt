-- From what the phases found to the maker's contract.
use mathlib.Core.Path.{◌≡◌, refl, sym, ap, ◌∙◌}
use mathlib.Core.Bool.{true, false}
use mathlib.Core.Logic.{◌↔◌}
use mathlib.Core.List.{List, [], ◌++◌}
use Prim.Native.Nat.{ℕ, ◌+◌, ◌-◌, ◌≤◌, ◌<◌}
use native.Mathlib.Omega.{arith}
use lib.ListN.{length, get_or, drop, replicate, length-drop}
use lib.Seq.{ext_get_or, get_or-drop}
use borrow.Author.Tests.{lt-ltb}
use Rattle.sets.specs.Lists.{covered}
use Rattle.grammar.specs.Useful.{LowestUseless}
use Rattle.grammar.specs.Shortest.{ShortestLengths}
use Rattle.grammar.specs.Card.{terminals, nonterminals, productions, left_of, length_of, form_fault, grammar_of}
use Rattle.grammar.proofs.CardLaws.{right_length}
use Rattle.tables.specs.Layout.{build}
use Rattle.tables.proofs.LayoutLaws.{built_sizes, built_long, built_left, built_length, built_entered, built_cell}
use Rattle.lr.specs.States.{States, MoreStates}
use Rattle.lr.specs.Cells as lr
use Rattle.lalr.specs.Answer.{made, refused, useless_at, conflict, numbers_of}
use Rattle.lalr.specs.Answer as definition
use Rattle.lalr.specs.ComputedAnswer.{table_of}
use Rattle.lalr.specs.ComputedGenerator.{writes, table_left, generated}
use Rattle.lalr.specs.Meaning.{AllUseful, Sized, useless, many, wide, clash, fine}
use Rattle.lalr.specs.Demand2.{Room}
use Rattle.lalr.proofs.Finish.{judged, left_alone, all_covered, table_found}
use Rattle.lalr.proofs.Main.{card_answer_is}
use Rattle.states.specs.States.{transition}
use Rattle.transitions.specs.Places.{transition_limit}
use Rattle.transitions.specs.Next.{next_of, Numbered, transition_count}
use Rattle.transitions.specs.Area.{entering_of, shortest_of}
use Rattle.transitions.specs.Data.{Data}
use Rattle.tables.specs.Conflicts.{Conflict}
use Rattle.areas.specs.Areas.{table_size, words_size, halves_size}
use Rattle.cells.specs.Actions.{IsCell}
use Rattle.bridge.specs.Premises.{Stated, Followed}
use Rattle.bridge.specs.Actions.{Acts}
use Rattle.bridge.proofs.Numbering.{card_formed, card_productive, numbered}
use Rattle.bridge.proofs.Counting.{transition_count_is}
use Rattle.bridge.proofs.SameStates.{states_same, next_inside}
use Rattle.lr.proofs.CellLaws.{cell_single}
use Rattle.lr.proofs.Entering.{entries, entered_below}
use Rattle.bridge.proofs.ActionLaws.{cell_is, conflict_is}
use Rattle.std.proofs.Common.{Result}
use Rattle.generator.specs.declared.Refusal.{Refusal}
use Rattle.generator.specs.Answer.{numbers, GeneratesAs}
use Rattle.generator.specs.Phases.{Complete}

-- ---- areas

-- only the places from n on of an area matter to what covers it
pub covered_same : (n : ℕ) (l area area' : List ℕ) → length area' ≡ length area → ((i : ℕ) → n ≤ i → get_or area' i 0 ≡ get_or area i 0) → covered n l area' ≡ covered n l area
unfolding covered
covered_same n l area area' e h =
    ap (λ (d : List ℕ). l ++ (replicate (n - length l) 0 ++ d))
    (ext_get_or 0 (drop n area') (drop n area) (length-drop n area' ∙ ap (λ (k : ℕ). k - n) e ∙ sym (length-drop n area)) (λ i k. get_or-drop n area' i 0 ∙ h (n + i) (omega arith) ∙ sym (get_or-drop n area i 0)))

-- ---- answers

module _ (t₀ z₀ w₀ c : List ℕ) where
  -- refusals 1 to 10 leave the areas
  pub keeps : (a : definition.Answer) (r : Result (Unit {0}) Refusal) → (generated t₀ z₀ w₀ c).answer ≡ a → writes a ≡ false → numbers r ≡ numbers_of a → GeneratesAs (generated t₀ z₀ w₀ c) r t₀ z₀ w₀
  keeps a r e n k = rw (left_alone t₀ z₀ w₀ c a e n) (record { answer = k; table = refl; words = refl; halves = refl })

  -- the others cover them
  pub covers_all : (a : definition.Answer) (r : Result (Unit {0}) Refusal) (t z w : List ℕ) → (generated t₀ z₀ w₀ c).answer ≡ a → writes a ≡ true → numbers r ≡ numbers_of a
      → t ≡ covered table_size (table_left a c) t₀ → z ≡ covered words_size [] z₀ → w ≡ covered halves_size [] w₀ → GeneratesAs (generated t₀ z₀ w₀ c) r t z w
  covers_all a r t z w e n k et ez ew = rw (all_covered t₀ z₀ w₀ c a e n) (record { answer = k; table = et; words = ez; halves = ew })

  -- 10: the lowest nonterminal that is not useful
  pub useless_answer : (x : ℕ) → Room t₀ z₀ w₀ → form_fault c ≡ 0 → LowestUseless (grammar_of c) x → x < terminals c + nonterminals c → (generated t₀ z₀ w₀ c).answer ≡ useless_at x
  useless_answer x o f l h =
      judged t₀ z₀ w₀ c o f (useless_at x) (useless (record { from = l.from; below = h }) (l.here h) (λ y n k. l.before y n.from k))

  module _ (o : Room t₀ z₀ w₀) (f : form_fault c ≡ 0) (u : AllUseful (grammar_of c)) where
    -- 11
    pub eleven : MoreStates (grammar_of c) 256 → (generated t₀ z₀ w₀ c).answer ≡ refused 11
    eleven m = judged t₀ z₀ w₀ c o f (refused 11) (many u m)

    module _ (t : List ℕ) (n : ℕ) (few : n ≤ 256) (st : States (grammar_of c) n (transition c t)) where
      abbrev next : ℕ → ℕ → ℕ
      next = next_of c t n

      agree : (q x : ℕ) → q < n → transition c t q x ≡ next_of c t n q x
      unfolding transition next_of
      agree q x h = rw (lt-ltb q n h)

      pub stated : Stated c n (next_of c t n)
      stated =
          record {
            formed = f;
            productive = λ x k. (u.each_nonterminal x k).productive;
            states = states_same (grammar_of c) n (transition c t) (next_of c t n) agree st;
            most = few;
            inside = λ q x z. next_inside c t n q x z;
          }

      pub numbers_states : Numbered c n (next_of c t n)
      numbers_states = numbered stated

      -- 12
      pub twelve : (k : ℕ) → k ≡ transition_count c (next_of c t n) n → transition_limit < k → (generated t₀ z₀ w₀ c).answer ≡ refused 12
      twelve k e h = judged t₀ z₀ w₀ c o f (refused 12) (wide n (next_of c t n) u stated.states few (rw (transition_count_is c (next_of c t n) n) at (rw e at h)))

      -- the work area holds the entering symbols
      module _ (w : List ℕ) (k : ℕ) (data' : Data c w n k (next_of c t n)) where
        entering_is : (q x : ℕ) → q < n → (entering_of w q ≡ x) ↔ lr.Entered (grammar_of c) (next_of c t n) q x
        entering_is = entries (grammar_of c) stated.states (entering_of w) data'.start (λ p x h nz. (data'.goes p x (next_of c t n p x) (record { target = refl; some = nz })).symbol)

        pub entering_below : (q : ℕ) → q < n → entering_of w q < terminals c + nonterminals c
        entering_below q h = entered_below (grammar_of c) (card_formed stated) (card_productive stated) ((entering_is q (entering_of w q) h).0 refl)

      module _ (w z₁ z : List ℕ) (k : ℕ) (count : k ≡ transition_count c (next_of c t n) n) (small : k ≤ transition_limit) (data' : Data c w n k (next_of c t n))
          (shortest : ShortestLengths (grammar_of c) (nonterminals c) (shortest_of w)) (co : Complete c w n k (next_of c t n) z₁ z) where
        followed : Followed c w n k (next_of c t n) z
        followed = record { stated = stated; listed = data'; shortest = shortest; begun = co.begun; between = co.walks.between; direct = co.direct; reads = co.walks.first.sets; includes = co.walks.second.sets }

        sized : Sized (grammar_of c) n (next_of c t n)
        sized = record { useful = u; states = stated.states; few = few; narrow = rw (transition_count_is c (next_of c t n) n) at (rw count at small) }

        -- 13
        pub thirteen : (q m v x : ℕ) → Conflict (Acts c w z k (next_of c t n)) n (terminals c) q m v x → (generated t₀ z₀ w₀ c).answer ≡ conflict q m v x
        thirteen q m v x h = judged t₀ z₀ w₀ c o f (conflict q m v x) (clash n (next_of c t n) sized (conflict_is followed q m v x h))

        -- a table
        module _ (entered : ℕ → ℕ) (cell : ℕ → ℕ → ℕ) (symbols : (q : ℕ) → q < n → entered q ≡ entering_of w q)
            (cells : (q m : ℕ) → q < n → m < terminals c → IsCell (Acts c w z k (next_of c t n) q m) (cell q m))
            (nexts : (q x : ℕ) → q < n → terminals c ≤ x → x < terminals c + nonterminals c → cell q x ≡ next_of c t n q x) where
          abbrev built : List ℕ
          built = build n (terminals c) (nonterminals c) (productions c) (left_of c) (length_of c) entered cell

          pub table_made : (generated t₀ z₀ w₀ c).answer ≡ made
          table_made = judged t₀ z₀ w₀ c o f made (fine n (next_of c t n) sized (λ q m h l. cell_single (grammar_of c) (cell_is followed q m (cell q m) (cells q m h l))))

          is_table : lr.Table (grammar_of c) n (next_of c t n) built
          is_table =
              record {
                states = stated.states;
                sizes = built_sizes n (terminals c) (nonterminals c) (productions c) (left_of c) (length_of c) entered cell;
                long = built_long n (terminals c) (nonterminals c) (productions c) (left_of c) (length_of c) entered cell;
                lefts = λ r h. built_left n (terminals c) (nonterminals c) (productions c) (left_of c) (length_of c) entered cell r h;
                lengths = λ r h. built_length n (terminals c) (nonterminals c) (productions c) (left_of c) (length_of c) entered cell r h ∙ sym (right_length c r h);
                entered = λ q x h.
                    rw (built_entered n (terminals c) (nonterminals c) (productions c) (left_of c) (length_of c) entered cell q h, symbols q h) (entering_is w k data' q x h);
                terminals = λ q m hq hm.
                    rw (built_cell n (terminals c) (nonterminals c) (productions c) (left_of c) (length_of c) entered cell q m hq (omega arith)) (cell_is followed q m (cell q m) (cells q m hq hm));
                nonterminals = λ q x hq hx.
                    built_cell n (terminals c) (nonterminals c) (productions c) (left_of c) (length_of c) entered cell q (terminals c + x) hq (omega arith) ∙ nexts q (terminals c + x) hq (omega arith) (omega arith);
              }

          pub the_table : built ≡ table_of c
          the_table = table_found c built ((card_answer_is c f made).1 (fine n (next_of c t n) sized (λ q m h l. cell_single (grammar_of c) (cell_is followed q m (cell q m) (cells q m h l))))) is_table
