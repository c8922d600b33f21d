-- A table with 0 in the columns of closed terminals is the table but for these cells, and the checks let it pass with it.
use Prim.Native.Nat.{ℕ, ◌<◌, ◌≤◌}
use mathlib.Core.Path.{◌≡◌, refl, ◌∙◌}
use mathlib.Core.Bool.{Bool, true, false, cond}
use mathlib.Core.List.{List}
use native.Mathlib.Omega.{arith}
use lib.ListN.{length}
use lib.Dec.{ltb}
use borrow.Author.Tests.{lt-ltb}
use Rattle.sets.specs.Bit.{bit, Has}
use Rattle.sets.proofs.HasLaws.{no_bit, has_none}
use Rattle.sets.proofs.TestLaws.{all_at, all_true, passes, neither}
use Rattle.tables.specs.Layout.{states, terminals, nonterminals, productions, width, left_of, length_of, entered_of, cell_of, size_of}
use Rattle.tables.proofs.LayoutLaws.{built_sizes, built_left, built_length, built_entered, built_cell, built_long}
use Rattle.machine.specs.Checks.{production_ok, terminal_cell_ok, cell_ok, row_ok, productions_ok, cells_ok, terminal_ok, input_ok, refusal_of, closed_ok, restricted_refusal}
use Rattle.machine.specs.ComputedRun.{masked_cell, masked}
use Rattle.machine.proofs.Checked.{Checked, Passed, Taken, taken, taken_passes}
use Rattle.machine.proofs.Entries.{Entries, entries, entries_pass}
use Rattle.machine.proofs.RefusalLaws.{closed_passed}

-- ---- the word

pub closed_zero : (t : List ℕ) → closed_ok t 0 ≡ true
closed_zero t = (closed_passed t 0).1 (λ m h. absurd (has_none m h))

module _ (t : List ℕ) (closed : ℕ) (e : closed_ok t closed ≡ true) where
  pub open_end : Has closed 0 → ⊥
  open_end h = let b = ((closed_passed t closed).0 e 0 h).0 in omega arith

  pub closed_below : (m : ℕ) → Has closed m → m < terminals t
  closed_below m h = ((closed_passed t closed).0 e m h).1

-- ---- the parts of the table

module _ (t : List ℕ) (closed : ℕ) where
  sizes_are : (states (masked closed t) ≡ states t) × (terminals (masked closed t) ≡ terminals t) × (nonterminals (masked closed t) ≡ nonterminals t) × (productions (masked closed t) ≡ productions t)
  unfolding masked
  sizes_are = built_sizes (states t) (terminals t) (nonterminals t) (productions t) (left_of t) (length_of t) (entered_of t) (masked_cell closed t)

  pub masked_states : states (masked closed t) ≡ states t
  masked_states = sizes_are.0

  pub masked_terminals : terminals (masked closed t) ≡ terminals t
  masked_terminals = sizes_are.1

  pub masked_nonterminals : nonterminals (masked closed t) ≡ nonterminals t
  masked_nonterminals = sizes_are.2

  pub masked_productions : productions (masked closed t) ≡ productions t
  masked_productions = sizes_are.3

  pub masked_width : width (masked closed t) ≡ width t
  unfolding width
  masked_width = rw (masked_terminals, masked_nonterminals)

  pub masked_left : (r : ℕ) → r < productions t → left_of (masked closed t) r ≡ left_of t r
  unfolding masked
  masked_left = built_left (states t) (terminals t) (nonterminals t) (productions t) (left_of t) (length_of t) (entered_of t) (masked_cell closed t)

  pub masked_length : (r : ℕ) → r < productions t → length_of (masked closed t) r ≡ length_of t r
  unfolding masked
  masked_length = built_length (states t) (terminals t) (nonterminals t) (productions t) (left_of t) (length_of t) (entered_of t) (masked_cell closed t)

  pub masked_entered : (q : ℕ) → q < states t → entered_of (masked closed t) q ≡ entered_of t q
  unfolding masked
  masked_entered = built_entered (states t) (terminals t) (nonterminals t) (productions t) (left_of t) (length_of t) (entered_of t) (masked_cell closed t)

  masked_cell_is : (q x : ℕ) → q < states t → x < width t → cell_of (masked closed t) q x ≡ masked_cell closed t q x
  unfolding masked width
  masked_cell_is = built_cell (states t) (terminals t) (nonterminals t) (productions t) (left_of t) (length_of t) (entered_of t) (masked_cell closed t)

  masked_long : length (masked closed t) ≡ size_of (masked closed t)
  unfolding masked
  masked_long = built_long (states t) (terminals t) (nonterminals t) (productions t) (left_of t) (length_of t) (entered_of t) (masked_cell closed t)

  pub masked_open : (q x : ℕ) → q < states t → x < width t → (Has closed x → ⊥) → cell_of (masked closed t) q x ≡ cell_of t q x
  masked_open q x h k o = masked_cell_is q x h k ∙ rw (no_bit (bit closed x) o) refl

  pub masked_closed : (q x : ℕ) → q < states t → x < width t → Has closed x → cell_of (masked closed t) q x ≡ 0
  masked_closed q x h k c = masked_cell_is q x h k ∙ rw c refl

  -- no nonterminal is closed
  pub masked_goto : closed_ok t closed ≡ true → (q x : ℕ) → q < states t → terminals t ≤ x → x < width t → cell_of (masked closed t) q x ≡ cell_of t q x
  masked_goto e q x h b k = masked_open q x h k (λ c. let l = closed_below t closed e x c in omega arith)

  -- a cell is 0, or as it was
  cell_cases : (P : ℕ → Type 0) (q x : ℕ) → q < states t → x < width t → P 0 → P (cell_of t q x) → P (cell_of (masked closed t) q x)
  cell_cases P q x h k none same = go (bit closed x) refl
    where
      go : (b : Bool) → bit closed x ≡ b → P (cell_of (masked closed t) q x)
      go true e = rw (masked_closed q x h k e) none
      go false e = rw (masked_cell_is q x h k, e) same

  -- ---- the checks

  pub masked_input : (l : List ℕ) → input_ok (masked closed t) l ≡ input_ok t l
  unfolding input_ok terminal_ok
  masked_input l = rw masked_terminals

  module _ (c : Checked t) where
    productions_pass : productions_ok (masked closed t) ≡ true
    unfolding productions_ok production_ok
    productions_pass =
        rw masked_productions
        (all_true (production_ok (masked closed t)) (productions t)
        (λ r h. rw (masked_terminals, masked_width, masked_left r h, masked_length r h) (all_at (production_ok t) (productions t) c.productions_passed r h)))

    cell_passes : (q x : ℕ) → q < states t → x < width t → cell_ok (masked closed t) x (cell_of (masked closed t) q x) ≡ true
    unfolding cells_ok row_ok cell_ok terminal_cell_ok
    cell_passes q x h k =
        cell_cases (λ v. cell_ok (masked closed t) x v ≡ true) q x h k (zero_ok (ltb x (terminals (masked closed t))))
        (rw (masked_states, masked_terminals, masked_productions) (all_at (λ x. cell_ok t x (cell_of t q x)) (width t) (all_at (row_ok t) (states t) c.cells_passed q h) x k))
      where
        zero_ok : (b : Bool) → cond b true (ltb 0 (states (masked closed t))) ≡ true
        zero_ok true = refl
        zero_ok false = rw masked_states (lt-ltb 0 (states t) c.sizes.states_are.0)

    cells_pass : cells_ok (masked closed t) ≡ true
    unfolding cells_ok row_ok
    cells_pass =
        rw masked_states
        (all_true (row_ok (masked closed t)) (states t)
        (λ q h. rw masked_width (all_true (λ x. cell_ok (masked closed t) x (cell_of (masked closed t) q x)) (width t) (λ x k. cell_passes q x h k))))

    entries_stay : Entries (masked closed t)
    entries_stay =
        let e = entries t c.entries_passed in
        record {
          symbol = λ q h. let b = rw masked_states at h in rw (masked_width, masked_entered q b) (e.symbol q b);
          first = masked_entered 0 c.sizes.states_are.0 ∙ e.first;
          named = λ q x h k. named q x (rw masked_states at h) (rw masked_width at k);
        }
      where
        named : (q x : ℕ) → q < states t → x < width t → 0 < cell_of (masked closed t) q x → cell_of (masked closed t) q x < states (masked closed t) → entered_of (masked closed t) (cell_of (masked closed t) q x) ≡ x
        named q x h k =
            cell_cases (λ v. 0 < v → v < states (masked closed t) → entered_of (masked closed t) v ≡ x) q x h k (λ z. absurd (omega arith))
            (λ z b. let b' = rw masked_states at b in masked_entered (cell_of t q x) b' ∙ (entries t c.entries_passed).named q x h k z b')

    four : 4 ≤ size_of (masked closed t)
    unfolding size_of
    four = omega arith

    pub masked_checked : Checked (masked closed t)
    masked_checked = record {
      long = rw masked_long four;
      sizes = record {
        states_are = rw masked_states c.sizes.states_are;
        terminals_are = rw masked_terminals c.sizes.terminals_are;
        nonterminals_are = rw masked_nonterminals c.sizes.nonterminals_are;
        productions_are = rw masked_productions c.sizes.productions_are;
      };
      whole = omega (arith, masked_long);
      productions_passed = productions_pass;
      cells_passed = cells_pass;
      entries_passed = entries_pass (masked closed t) entries_stay;
    }

  pub masked_passed : {l : List ℕ} {n : ℕ} → Passed t l n → Passed (masked closed t) l n
  masked_passed {l} pa = record { table = masked_checked pa.table; input_passed = masked_input l ∙ pa.input_passed; places = pa.places }

  pub masked_taken : (l : List ℕ) (n k : ℕ) → restricted_refusal t closed l n k ≡ 0 → Taken t l n k × (closed_ok t closed ≡ true) × (refusal_of (masked closed t) l n k ≡ 0)
  unfolding restricted_refusal
  masked_taken l n k e =
      let p = neither (refusal_of t l n k) _ e in
      let ta = taken t l n k p.0 in (
        ta,
        (passes (closed_ok t closed) 49 0 p.1).0,
        taken_passes (record { passed = masked_passed ta.passed; short = ta.short; second = ta.second }),
      )
