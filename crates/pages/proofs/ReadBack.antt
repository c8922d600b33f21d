-- What is read off the pages of a table: its states and cells, and nothing else.
use mathlib.Core.Path.{◌≡◌, refl, sym, ap, ◌∙◌}
use mathlib.Core.Logic.{◌↔◌}
use mathlib.Core.List.{List, [], ◌∷◌, ◌++◌, append_assoc, append-nil}
use mathlib.Core.Option.{none}
use Prim.Native.Nat.{ℕ, zero, suc, ◌+◌, ◌-◌, ◌*◌, ◌/◌, ◌%◌, ◌<◌, ◌≤◌}
use native.Mathlib.Omega.{arith}
use native.Mathlib.Nat.{add-zero, mul-zero, mod-lt, div-lt_iff_lt-mul, div-add-mod'}
use native.Mathlib.Decide.{dec_lt}
use lib.ListN.{length, take, drop, replicate-append-replicate, drop_of_length-le}
use lib.Seq.{take_at, take_all}
use lib.Ieee.Positive.{first_pos}
use Rattle.decimal.specs.Digits.{decimal_of}
use Rattle.decimal.proofs.Decimal.{decimal_numeral}
use Rattle.sets.specs.Lists.{each, peek}
use Rattle.sets.proofs.ListLaws.{each_length}
use Rattle.tables.specs.Layout.{states, width, cell_of}
use Rattle.listing.specs.Numbers.{is_digit, runs, numbers_in}
use Rattle.listing.proofs.ReadBack.{reads}
use Rattle.listing.proofs.Room.{Small}
use Rattle.pages.specs.Pages.{blanks, page_line, aligned, row_lines, cells_on, opening, cells_text, row_line, row_text, rows_text, fill_lines, pages_text}
use Rattle.pages.specs.Cells.{line_on, numbers_at, state_on, cell_on, cell_back, Found}
use Rattle.pages.proofs.Lines.{padded, line_padded, padded_length, opening_length, cell_length, cells_length, row_part, part_fits, row_line_length, blank_line_length}
use Rattle.pages.proofs.Pieces.{behind, each_piece}

-- blanks have no number
past_blanks : (n : ℕ) (bs : List ℕ) → runs none (blanks n ++ bs) ≡ runs none bs
unfolding runs is_digit
past_blanks zero bs = refl
past_blanks (suc n) bs = past_blanks n bs

blank_piece : (a k n : ℕ) → numbers_at a k (blanks n) ≡ []
unfolding runs is_digit
blank_piece zero zero n = refl
blank_piece zero (suc k) zero = refl
blank_piece zero (suc k) (suc n) = blank_piece zero k n
blank_piece (suc a) zero zero = refl
blank_piece (suc a) (suc k) zero = refl
blank_piece (suc a) k (suc n) = blank_piece a k n

aligned_back : (k n : ℕ) → numbers_in (aligned k n) ≡ n ∷ []
unfolding aligned runs
aligned_back k n =
    past_blanks (k - length (decimal_of n)) (decimal_of n) ∙ ap numbers_in (sym (append-nil (decimal_of n))) ∙ reads (decimal_numeral n) []

module _ (t : List ℕ) (small : Small t) (few : states t ≤ 10000) where
  -- the lines of the rows, and the blank ones behind them
  abbrev rows : ℕ
  rows = states t * row_lines (width t)

  abbrev fill : List ℕ
  fill = each (fill_lines rows) (λ i. page_line [])

  line_long : (q : ℕ) → q < states t → (i : ℕ) → i < row_lines (width t) → length (row_line t q i) ≡ 73
  line_long q h i l = row_line_length t small q i (omega arith)

  row_long : (q : ℕ) → q < states t → length (row_text t q) ≡ row_lines (width t) * 73
  row_long q h = each_length (row_lines (width t)) 73 (row_line t q) (line_long q h)

  line_of_row : (q i : ℕ) → q < states t → i < row_lines (width t) → take 72 (drop (i * 73) (row_text t q)) ≡ padded (row_part t q i)
  unfolding row_line
  line_of_row q i hq hi =
      simp (append-nil, add-zero) at (each_piece (row_lines (width t)) 73 (row_line t q) [] (line_long q hq) i 0 72 hi (omega arith))
      ∙ ap (take 72) (line_padded (row_part t q i))
      ∙ take_at (padded (row_part t q i)) (10 ∷ []) 72 (padded_length (row_part t q i) (part_fits t small q i (omega arith)))

  -- line i of the row of state q
  row_line_is : (q i : ℕ) → q < states t → i < row_lines (width t) → line_on (pages_text t) (q * row_lines (width t) + i) ≡ padded (row_part t q i)
  unfolding pages_text rows_text
  row_line_is q i hq hi =
      let e : 73 * (q * row_lines (width t) + i) ≡ q * (row_lines (width t) * 73) + i * 73 = omega arith in
      rw (e, each_piece (states t) (row_lines (width t) * 73) (row_text t) fill row_long q (i * 73) 72 hq (omega arith)) (line_of_row q i hq hi)

  -- behind the opening: the cells, and blanks up to column 72
  abbrev padding : ℕ → ℕ → ℕ
  padding q i = 2 + (72 - length (row_part t q i))

  abbrev behind_it : ℕ → ℕ → List ℕ
  behind_it q i = cells_text t q i ++ blanks (padding q i)

  padded_part : (q i : ℕ) → padded (row_part t q i) ≡ opening q i ++ behind_it q i
  padded_part q i =
      let n : ℕ = 72 - length (row_part t q i) in
      rw (append_assoc (opening q i) (cells_text t q i ++ blanks 2) (blanks n), append_assoc (cells_text t q i) (blanks 2) (blanks n), replicate-append-replicate {A = ℕ} 2 n 32)

  state_of_line : (q i : ℕ) → q < states t → i < row_lines (width t) → state_on (pages_text t) (q * row_lines (width t) + i) ≡ numbers_in (opening q i)
  state_of_line q i hq hi =
      rw (row_line_is q i hq hi, padded_part q i) (ap numbers_in (take_at (opening q i) (behind_it q i) 4 (opening_length q i (omega arith))))

  cells_of_line : (q i k : ℕ) → q < states t → i < row_lines (width t) → cell_on (pages_text t) (q * row_lines (width t) + i) k ≡ numbers_at (6 * k) 6 (behind_it q i)
  cells_of_line q i k hq hi =
      rw (row_line_is q i hq hi, padded_part q i) (ap numbers_in (behind (opening q i) (behind_it q i) 4 (6 * k) 6 (opening_length q i (omega arith))))

  cell_of_line : (q i k : ℕ) → q < states t → i < row_lines (width t) → k < cells_on (width t) i → cell_on (pages_text t) (q * row_lines (width t) + i) k ≡ cell_of t q (11 * i + k) ∷ []
  cell_of_line q i k hq hi hk =
      let e : 6 * k ≡ k * 6 + 0 = omega arith in
      let v : ℕ = cell_of t q (11 * i + k) in
      let l : (x : ℕ) → length (aligned 6 (cell_of t q x)) ≡ 6 = cell_length t small q in
      rw (cells_of_line q i k hq hi, e)
      (ap numbers_in (each_piece (cells_on (width t) i) 6 _ _ (λ k h. l (11 * i + k)) k 0 6 hk (omega arith) ∙ take_all 6 (aligned 6 v) (omega (arith, l (11 * i + k))))
      ∙ aligned_back 6 v)

  -- behind the last cell of a line there is no other
  pub cell_none : (q i k : ℕ) → q < states t → i < row_lines (width t) → cells_on (width t) i ≤ k → cell_on (pages_text t) (q * row_lines (width t) + i) k ≡ []
  cell_none q i k hq hi hk =
      let e : 6 * k ≡ cells_on (width t) i * 6 + 6 * (k - cells_on (width t) i) = omega arith in
      rw (cells_of_line q i k hq hi, e)
      (ap numbers_in (behind (cells_text t q i) _ (cells_on (width t) i * 6) (6 * (k - cells_on (width t) i)) 6 (cells_length t small q i)) ∙ blank_piece (6 * (k - cells_on (width t) i)) 6 (padding q i))

  -- each cell stands where it is looked for
  pub cell_back_is : (q x : ℕ) → q < states t → x < width t → cell_back (pages_text t) (width t) q x ≡ cell_of t q x ∷ []
  cell_back_is q x hq hx =
      let e : 11 * (x / 11) + x % 11 ≡ x = omega arith in
      rw e at (cell_of_line q (x / 11) (x % 11) hq (omega arith) (omega arith))

  -- the first line of a row opens with its state
  pub state_back : (q : ℕ) → q < states t → 0 < width t → state_on (pages_text t) (q * row_lines (width t)) ≡ q ∷ []
  unfolding opening
  state_back q hq hw = rw add-zero at (state_of_line q 0 hq (omega arith)) ∙ aligned_back 4 q

  -- and the further ones with none
  pub state_none : (q i : ℕ) → q < states t → suc i < row_lines (width t) → state_on (pages_text t) (q * row_lines (width t) + suc i) ≡ []
  unfolding opening
  state_none q i hq hi = state_of_line q (suc i) hq hi ∙ blank_piece 0 4 4

  rows_long : length (rows_text t) ≡ states t * (row_lines (width t) * 73)
  unfolding rows_text
  rows_long = each_length (states t) (row_lines (width t) * 73) (row_text t) row_long

  fill_line : (j : ℕ) → line_on (pages_text t) (rows + j) ≡ take 72 (drop (73 * j) fill)
  unfolding pages_text
  fill_line j =
      let e : 73 * (rows + j) ≡ states t * (row_lines (width t) * 73) + 73 * j = omega arith in
      rw e (behind (rows_text t) fill (states t * (row_lines (width t) * 73)) (73 * j) 72 rows_long)

  fill_piece : (j : ℕ) → Dec (j < fill_lines rows) → (n : ℕ) × (take 72 (drop (73 * j) fill) ≡ blanks n)
  unfolding page_line
  fill_piece j (yes h) =
      let e : 73 * j ≡ j * 73 + 0 = omega arith in
      (72, rw (← append-nil fill, e) (each_piece (fill_lines rows) 73 (λ i. page_line []) [] (λ i l. blank_line_length) j 0 72 h (omega arith)))
  fill_piece j (no h) =
      let l : length fill ≡ fill_lines rows * 73 = each_length (fill_lines rows) 73 (λ i. page_line []) (λ i l. blank_line_length) in
      (0, ap (take 72) (drop_of_length-le fill {i = 73 * j} (omega arith)))

  -- behind the rows there is no number, on the last page and past it: no state, no cell
  pub line_none : (i a k : ℕ) → states t * row_lines (width t) ≤ i → numbers_at a k (line_on (pages_text t) i) ≡ []
  line_none i a k h =
      let j : ℕ = i - rows in
      let e : i ≡ rows + j = omega arith in
      let n = fill_piece j (dec_lt j (fill_lines rows)) in
      rw (e, fill_line j, n.1) (blank_piece a k n.0)

  -- so one who looks for a line that opens with q finds the first line of its row, and only that
  pub state_only : (i q : ℕ) → state_on (pages_text t) i ≡ q ∷ [] → (i ≡ q * row_lines (width t)) × (q < states t)
  state_only i q e = go (dec_lt i rows)
    where
      here : (p r : ℕ) → p < states t → r < row_lines (width t) → p * row_lines (width t) + r ≡ i → (i ≡ q * row_lines (width t)) × (q < states t)
      here p zero hp hr o =
          let b : state_on (pages_text t) (p * row_lines (width t)) ≡ p ∷ [] = state_back p hp (omega arith) in
          let z : p * row_lines (width t) ≡ i = omega arith in
          let s : p ≡ q = ap peek (sym b ∙ ap (state_on (pages_text t)) z ∙ e) in rw (← s) (omega arith, hp)
      here p (suc r) hp hr o = absurd (omega (arith, ap length (sym (state_none p r hp hr) ∙ ap (state_on (pages_text t)) o ∙ e)))

      go : Dec (i < rows) → (i ≡ q * row_lines (width t)) × (q < states t)
      go (yes h) =
          let l : 0 < row_lines (width t) = first_pos (row_lines (width t)) (states t) (omega arith) in
          here (i / row_lines (width t)) (i % row_lines (width t)) ((div-lt_iff_lt-mul l).1 h) (mod-lt i l) (div-add-mod' i (row_lines (width t)))
      go (no h) = absurd (omega (arith, ap length (sym (line_none i 0 4 (omega arith)) ∙ e)))

  -- what is found by looking: the cells of the table, each of them and nothing else
  pub found : (q x v : ℕ) → Found (pages_text t) q x v ↔ ((q < states t) × (x < width t) × (v ≡ cell_of t q x))
  found q x v = (there, here)
    where
      -- where no line has a cell no line opens with a state
      some : Found (pages_text t) q x v → 0 < width t
      some f = go (dec_lt 0 (width t))
        where
          go : Dec (0 < width t) → 0 < width t
          go (yes h) = h
          go (no h) =
              let z : row_lines (width t) ≡ 0 = omega arith in
              let r : states t * row_lines (width t) ≤ f.line = rw (z, mul-zero) (omega arith) in
              absurd (omega (arith, ap length (sym (line_none f.line 0 4 r) ∙ f.opens)))

      -- who goes past the row's end comes to the next state, or to the blank lines
      behind_row : Found (pages_text t) q x v → q < states t → row_lines (width t) ≤ x / 11 → ⊥
      behind_row f hq hx = go (dec_lt (suc q) (states t))
        where
          place : f.line ≡ q * row_lines (width t)
          place = (state_only f.line q f.opens).0

          go : Dec (suc q < states t) → ⊥
          go (yes h) =
              let p : 0 < row_lines (width t) = omega (arith, some f) in
              let k : suc (row_lines (width t) - 1) ≡ row_lines (width t) = omega arith in
              let e : f.line + suc (row_lines (width t) - 1) ≡ suc q * row_lines (width t) = rw (k, place) (omega arith) in
              omega (arith, ap length (sym (f.further (row_lines (width t) - 1) (omega arith)) ∙ ap (state_on (pages_text t)) e ∙ state_back (suc q) h (some f)))
          go (no h) =
              let e : states t ≡ suc q = omega arith in
              let r : states t * row_lines (width t) ≤ f.line + x / 11 = rw (e, place) (omega arith) in
              omega (arith, ap length (sym (line_none (f.line + x / 11) (4 + 6 * (x % 11)) 6 r) ∙ f.cell))

      inside : Found (pages_text t) q x v → q < states t → x < width t
      inside f hq = go (dec_lt x (width t)) (dec_lt (x / 11) (row_lines (width t)))
        where
          go : Dec (x < width t) → Dec (x / 11 < row_lines (width t)) → x < width t
          go (yes h) d = h
          go (no h) (yes k) =
              let c : cell_on (pages_text t) (f.line + x / 11) (x % 11) ≡ [] = rw (state_only f.line q f.opens).0 (cell_none q (x / 11) (x % 11) hq k (omega arith)) in
              absurd (omega (arith, ap length (sym c ∙ f.cell)))
          go (no h) (no k) = absurd (behind_row f hq (omega arith))

      there : Found (pages_text t) q x v → (q < states t) × (x < width t) × (v ≡ cell_of t q x)
      there f =
          let o = state_only f.line q f.opens in
          let hx = inside f o.1 in
          (o.1, hx, ap peek (sym f.cell ∙ ap (λ (i : ℕ). cell_on (pages_text t) (i + x / 11) (x % 11)) o.0 ∙ cell_back_is q x o.1 hx))

      here : (q < states t) × (x < width t) × (v ≡ cell_of t q x) → Found (pages_text t) q x v
      here h = record {
        line = q * row_lines (width t);
        opens = state_back q h.0 (omega (arith, h.1));
        further = (λ i l. state_none q i h.0 (omega (arith, h.1)));
        cell = rw h.2 (cell_back_is q x h.0 h.1);
      }
