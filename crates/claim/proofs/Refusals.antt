-- The reader's checks of a table that means a grammar: 21 to 24 and 44 never come, and 25 to 27 come just where they are due.
use Prim.Native.Nat.{ℕ, zero, suc, ◌+◌, ◌-◌, ◌<◌, ◌≤◌}
use mathlib.Core.Path.{◌≡◌, refl}
use mathlib.Core.Logic.{◌≢◌}
use mathlib.Core.List.{List, [], ◌∷◌}
use mathlib.Core.Bool.{Bool, true, false}
use lib.ListN.{length, get_or}
use lib.Dec.{ltb, leb}
use borrow.Author.Tests.{lt-ltb, le-ltb, le-leb, ne_eqb, ltb-true, ltb-false, leb-true, leb-false}
use native.Mathlib.Omega.{arith}
use native.Mathlib.Decide.{dec_lt, ℕ_discrete}
use Rattle.grammar.specs.Grammar.{Grammar, Formed, Symbols, none, more}
use Rattle.lr.specs.Cells.{Action, shifts, reduces, accepts, start}
use Rattle.lr.proofs.Entering.{entered_below, move_enters}
use Rattle.lr.proofs.ItemLaws.{AllProductive, after_positive}
use Rattle.lr.proofs.Runs
use Rattle.lr.proofs.Automaton.{Goes, goes}
use Rattle.lr.proofs.Paths.{Has}
use Rattle.tables.specs.Layout.{states, terminals, nonterminals, productions, width, cell_of, left_of, length_of, entered_of, size_of}
use Rattle.machine.specs.Checks.{sizes_ok, production_ok, terminal_cell_ok, cell_ok, row_ok, productions_ok, cells_ok, entries_ok, terminal_ok, input_ok, table_refusal, input_refusal, area_refusal, refusal_of}
use Rattle.machine.proofs.Entries.{entries_pass}
use Rattle.sets.specs.Tests.{unless, first_refusal}
use Rattle.sets.proofs.TestLaws.{and_true, and_left, and_right, all_true, all_at, between_true}
use Rattle.claim.proofs.Means.{Limits, TableMeans, automaton, lookahead_added}

module _ (g : Grammar) (f : Formed g) (pr : AllProductive g) (li : Limits g) (t : List ℕ) (tm : TableMeans g t) where
  width_means : width t ≡ g.terminals + g.nonterminals
  unfolding width
  width_means = rw (tm.terminals_are, tm.nonterminals_are)

  sizes_passed : sizes_ok t ≡ true
  unfolding sizes_ok
  sizes_passed =
      and_true (between_true 1 256 (states t) (automaton g f pr li t tm).some_state (tm.states_most))
      (and_true (between_true 1 64 (terminals t) (rw tm.terminals_are (f.end_marker)) (rw tm.terminals_are (li.terminals_most)))
      (and_true (between_true 1 60 (nonterminals t) (rw tm.nonterminals_are (f.start_nonterminal)) (rw tm.nonterminals_are (li.nonterminals_most)))
      (between_true 1 128 (productions t) (rw tm.productions_are (li.productions_least)) (rw tm.productions_are (li.productions_most)))))

  productions_passed : productions_ok t ≡ true
  unfolding productions_ok production_ok
  productions_passed = all_true (production_ok t) (productions t) (λ r h. each r (rw tm.productions_are at h))
    where
      each : (r : ℕ) → r < g.productions → production_ok t r ≡ true
      each r h =
          let el = tm.lefts r h in
          let en = tm.lengths r h in
          and_true (and_true (le-leb (terminals t) (left_of t r) (rw (tm.terminals_are, el) (f.left_nonterminal r h))) (lt-ltb (left_of t r) (width t) (rw (width_means, el) (f.left_below r h))))
          (le-leb (length_of t r) 512 (rw en (li.length_most r h)))

  terminal_cell : (q x v : ℕ) → q < states t → Action g tm.next q x v → v ≢ 0 → terminal_cell_ok t x v ≡ true
  unfolding terminal_cell_ok
  terminal_cell q x v h a nz = go a nz
    where
      go : {v : ℕ} → Action g tm.next q x v → v ≢ 0 → terminal_cell_ok t x v ≡ true
      go (shifts k z) nz = rw (ne_eqb (tm.next q x) 0 nz, lt-ltb (tm.next q x) (states t) ((automaton g f pr li t tm).next_below h), ne_eqb x 0 (positive (((automaton g f pr li t tm).next_some h).0 z)))
        where
          positive : Goes g (Has g tm.next q) x → x ≢ 0
          positive (goes i e) = let p = after_positive g f pr (Runs.dot_before i.item e) in omega arith
      go (reduces r k b) nz =
          let s = tm.states_most in
          let n = li.productions_most in
          let e : (1024 + r) - 1024 ≡ r = omega arith in
          rw (ne_eqb (1024 + r) 0 nz, le-ltb (1024 + r) (states t) (omega arith), ne_eqb (1024 + r) 4096 (omega arith), le-ltb (1024 + r) 1024 (omega arith), e, tm.productions_are) (lt-ltb r g.productions k)
      go (accepts b) nz =
          let s = tm.states_most in
          rw (le-ltb 4096 (states t) (omega arith), (lookahead_added g f tm.next b).0)

  zero_ok : (x : ℕ) → terminal_cell_ok t x 0 ≡ true
  unfolding terminal_cell_ok
  zero_ok x = refl

  cell_check_passed : (q x : ℕ) → q < states t → x < width t → cell_ok t x (cell_of t q x) ≡ true
  unfolding cell_ok
  cell_check_passed q x h k = go (dec_lt x (terminals t)) (ℕ_discrete (cell_of t q x) 0)
    where
      go : Dec (x < terminals t) → Dec (cell_of t q x ≡ 0) → cell_ok t x (cell_of t q x) ≡ true
      go (yes b) (yes z) = rw (lt-ltb x (terminals t) b, z) (zero_ok x)
      go (yes b) (no z) = rw (lt-ltb x (terminals t) b) (terminal_cell q x (cell_of t q x) h (tm.from_cell h (rw tm.terminals_are at b) z) z)
      go (no b) _ =
          let e = tm.terminals_are in
          let e' = width_means in
          rw (le-ltb x (terminals t) (omega (arith, b)), tm.nonterminal_cell {q = q} {x = x} h (omega (arith, b)) (omega arith)) (lt-ltb (tm.next q x) (states t) ((automaton g f pr li t tm).next_below h))

  cells_passed : cells_ok t ≡ true
  unfolding cells_ok row_ok
  cells_passed = all_true (row_ok t) (states t) (λ q h. all_true (λ x. cell_ok t x (cell_of t q x)) (width t) (λ x k. cell_check_passed q x h k))

  long : leb 4 (length t) ≡ true
  unfolding size_of
  long = let h = tm.whole in le-leb 4 (length t) (omega (arith, h))

  -- the state that a cell names is entered under the cell's column
  moved : (q x : ℕ) → q < states t → x < width t → 0 < cell_of t q x → cell_of t q x < states t → entered_of t (cell_of t q x) ≡ x
  moved q x h k z b = go (dec_lt x (terminals t))
    where
      enters : (v : ℕ) → v ≡ tm.next q x → 0 < v → v < states t → entered_of t v ≡ x
      enters v e z b = (tm.entered v x b).1 (rw e (move_enters g tm.numbered q x h (λ n. omega (arith, e, n))))

      -- a reduction or acceptance is no state
      shifted : {v : ℕ} → Action g tm.next q x v → v < states t → v ≡ tm.next q x
      shifted (shifts _ _) b = refl
      shifted (reduces r _ _) b = absurd (let s = tm.states_most in omega arith)
      shifted (accepts _) b = absurd (let s = tm.states_most in omega arith)

      go : Dec (x < terminals t) → entered_of t (cell_of t q x) ≡ x
      go (yes m) = enters (cell_of t q x) (shifted (tm.from_cell h (rw tm.terminals_are at m) (λ e. omega (arith, e))) b) z b
      go (no m) =
          let e = tm.terminals_are in
          let w = width_means in
          enters (cell_of t q x) (tm.nonterminal_cell h (omega (arith, m)) (omega arith)) z b

  entries_passed : entries_ok t ≡ true
  entries_passed =
      entries_pass t
      (record {
        symbol = λ q h. rw width_means (entered_below g f pr ((tm.entered q (entered_of t q) h).0 refl));
        first = (tm.entered 0 0 (automaton g f pr li t tm).some_state).1 (start refl);
        named = moved;
      })

  -- 21 to 24 and 44 never come
  pub table_passes : table_refusal t ≡ 0
  unfolding table_refusal
  table_passes = rw (long, sizes_passed, le-leb (size_of t) (length t) (tm.whole), productions_passed, cells_passed, entries_passed)

  pub refusal_is : (l : List ℕ) (n k : ℕ) → refusal_of t l n k ≡ unless (leb (length l) 65535) 25 (unless (input_ok t l) 26 (unless (ltb 0 n) 27 (unless (leb n k) 45 0)))
  unfolding refusal_of input_refusal area_refusal
  refusal_is l n k = rw table_passes (go (leb (length l) 65535) (input_ok t l))
    where
      go : (a b : Bool) → first_refusal (unless a 25 (unless b 26 0)) (area_refusal n k) ≡ unless a 25 (unless b 26 (unless (ltb 0 n) 27 (unless (leb n k) 45 0)))
      go false b = refl
      go true false = refl
      go true true = refl

  terminal_is : (b : ℕ) → terminal_ok t b ≡ true → (0 < b) × (b < g.terminals)
  unfolding terminal_ok
  terminal_is b e = (ltb-true 0 b (and_left (ltb 0 b) (ltb b (terminals t)) e), rw tm.terminals_are at (ltb-true b (terminals t) (and_right (ltb 0 b) (ltb b (terminals t)) e)))

  terminals_from : (l : List ℕ) → ((i : ℕ) → i < length l → terminal_ok t (get_or l i 0) ≡ true) → Symbols g.terminals l
  terminals_from [] h = none
  terminals_from (b ∷ l) h = let k = terminal_is b (h 0 (omega arith)) in more k.0 k.1 (terminals_from l (λ i z. h (suc i) (omega arith)))

  -- 26 says that the input is no list of terminals
  pub input_terminals : (l : List ℕ) → input_ok t l ≡ true → Symbols g.terminals l
  unfolding input_ok
  input_terminals l e = terminals_from l (all_at (λ i. terminal_ok t (get_or l i 0)) (length l) e)

  pub terminals_input : {l : List ℕ} → Symbols g.terminals l → input_ok t l ≡ true
  unfolding input_ok terminal_ok
  terminals_input {l} m = all_true (λ i. terminal_ok t (get_or l i 0)) (length l) (λ i h. at m i h)
    where
      at : {l : List ℕ} → Symbols g.terminals l → (i : ℕ) → i < length l → terminal_ok t (get_or l i 0) ≡ true
      at none i h = absurd (omega arith)
      at (more {a} h k m) zero z = and_true (lt-ltb 0 a h) (lt-ltb a (terminals t) (rw tm.terminals_are k))
      at (more h k m) (suc i) z = at m i (omega arith)

  -- what the reader answers such a table with before it reads
  pub data Due (l : List ℕ) (n k : ℕ) : ℕ → Type 0 where
    long_input : 65535 < length l → Due l n k 25
    no_terminal : length l ≤ 65535 → (Symbols g.terminals l → ⊥) → Due l n k 26
    empty_stack : length l ≤ 65535 → Symbols g.terminals l → n ≡ 0 → Due l n k 27
    short_second : length l ≤ 65535 → Symbols g.terminals l → 0 < n → k < n → Due l n k 45
    takes : length l ≤ 65535 → Symbols g.terminals l → 0 < n → n ≤ k → Due l n k 0

  pub refusals : (l : List ℕ) (n k : ℕ) → Due l n k (refusal_of t l n k)
  refusals l n k = rw refusal_is (go (leb (length l) 65535) (input_ok t l) (ltb 0 n) (leb n k) refl refl refl refl)
    where
      go : (a b c d : Bool) → leb (length l) 65535 ≡ a → input_ok t l ≡ b → ltb 0 n ≡ c → leb n k ≡ d → Due l n k (unless a 25 (unless b 26 (unless c 27 (unless d 45 0))))
      go false b c d ea eb ec ed = long_input (leb-false (length l) 65535 ea)
      go true false c d ea eb ec ed = no_terminal (leb-true (length l) 65535 ea) (λ m. let e = terminals_input m in let z : ◌≡◌ {A = ℕ} 0 1 = cc in omega arith)
      go true true false d ea eb ec ed = empty_stack (leb-true (length l) 65535 ea) (input_terminals l eb) (let h = ltb-false 0 n ec in omega arith)
      go true true true false ea eb ec ed = short_second (leb-true (length l) 65535 ea) (input_terminals l eb) (ltb-true 0 n ec) (leb-false n k ed)
      go true true true true ea eb ec ed = takes (leb-true (length l) 65535 ea) (input_terminals l eb) (ltb-true 0 n ec) (leb-true n k ed)
