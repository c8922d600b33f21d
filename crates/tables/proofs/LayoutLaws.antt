-- Every place of a table is a size, a left side, a length, an entering symbol or a cell; so a table is known by these.
use Prim.Native.Nat.{ℕ, suc, zero, ◌+◌, ◌*◌, ◌-◌, ◌/◌, ◌%◌, ◌≤◌, ◌<◌}
use mathlib.Core.Path.{◌≡◌, refl, sym, ap, ◌∙◌, subst}
use mathlib.Core.List.{List, [], ◌∷◌, ◌++◌}
use lib.ListN.{length, get_or, length-append, get_or-append, get_or-eq_default}
use lib.Seq.{ext_get_or, get_or-append-add}
use lib.Arith.{digits_lt}
use native.Mathlib.Omega.{arith}
use native.Mathlib.Nat.{mod-lt, div-lt_iff_lt-mul, div-add-mod'}
use native.Mathlib.Decide.{dec_lt}
use Rattle.tables.specs.Layout.{states, terminals, nonterminals, productions, width, left_at, length_at, header_size, entered_at, cells_at, row_at, left_of, length_of, entered_of, cell_of, size_of, build}
use Rattle.sets.specs.Lists.{each}
use Rattle.sets.proofs.ListLaws.{each_length, each_at, ones_length, ones_at}

module _ (p w n : ℕ) (wide : 0 < w) (Q : ℕ → Type 0) (sizes : (i : ℕ) → i < 4 → Q i) (lefts : (r : ℕ) → r < p → Q (left_at r)) (lengths : (r : ℕ) → r < p → Q (length_at p r))
    (entries : (q : ℕ) → q < n → Q (entered_at p q)) (cells : (q x : ℕ) → q < n → x < w → Q (row_at p n w q + x)) where
  rows : (k : ℕ) → k < n * w → Q (cells_at p n + k)
  rows k b =
      let e : row_at p n w (k / w) + k % w ≡ cells_at p n + k = let d = div-add-mod' k w in omega (arith, d) in
      subst Q e (cells (k / w) (k % w) ((div-lt_iff_lt-mul wide).1 b) (mod-lt k wide))

  all_places : (i : ℕ) → i < row_at p n w n → Q i
  all_places i h = go₁ (dec_lt i 4)
    where
      go₄ : entered_at p 0 ≤ i → Dec (i < cells_at p n) → Q i
      go₄ b (yes d) = let e : entered_at p (i - entered_at p 0) ≡ i = omega arith in subst Q e (entries (i - entered_at p 0) (omega arith))
      go₄ b (no d) = let e : cells_at p n + (i - cells_at p n) ≡ i = omega arith in subst Q e (rows (i - cells_at p n) (omega arith))

      go₃ : length_at p 0 ≤ i → Dec (i < entered_at p 0) → Q i
      go₃ b (yes d) = let e : length_at p (i - length_at p 0) ≡ i = omega arith in subst Q e (lengths (i - length_at p 0) (omega arith))
      go₃ b (no d) = go₄ (omega arith) (dec_lt i (cells_at p n))

      go₂ : left_at 0 ≤ i → Dec (i < length_at p 0) → Q i
      go₂ a (yes b) = let e : left_at (i - left_at 0) ≡ i = omega arith in subst Q e (lefts (i - left_at 0) (omega arith))
      go₂ a (no b) = go₃ (omega arith) (dec_lt i (entered_at p 0))

      go₁ : Dec (i < 4) → Q i
      go₁ (yes a) = sizes i a
      go₁ (no a) = go₂ (omega arith) (dec_lt i (length_at p 0))

by_size : (Q : ℕ → Type 0) → Q 0 → Q 1 → Q 2 → Q 3 → (i : ℕ) → i < 4 → Q i
by_size Q a b c d zero h = a
by_size Q a b c d (suc zero) h = b
by_size Q a b c d (suc (suc zero)) h = c
by_size Q a b c d (suc (suc (suc zero))) h = d
by_size Q a b c d (suc (suc (suc (suc i)))) h = absurd (omega arith)

-- two lists of the length that their sizes ask for, with the same parts, are equal
module _ (t u : List ℕ) (wide : 0 < width t) (long : length t ≡ size_of t) (long' : length u ≡ size_of u) where
  pub one_list : states t ≡ states u → terminals t ≡ terminals u → nonterminals t ≡ nonterminals u → productions t ≡ productions u
      → ((r : ℕ) → r < productions t → left_of t r ≡ left_of u r) → ((r : ℕ) → r < productions t → length_of t r ≡ length_of u r)
      → ((q : ℕ) → q < states t → entered_of t q ≡ entered_of u q) → ((q x : ℕ) → q < states t → x < width t → cell_of t q x ≡ cell_of u q x) → t ≡ u
  unfolding states terminals nonterminals productions width left_of length_of entered_of cell_of size_of
  one_list e₀ e₁ e₂ e₃ lefts lengths entries cells =
      ext_get_or 0 t u (long ∙ size ∙ sym long') (λ i h. all_places (productions t) (width t) (states t) wide (λ i. get_or t i 0 ≡ get_or u i 0) (by_size (λ i. get_or t i 0 ≡ get_or u i 0) e₀ e₁ e₂ e₃) lefts
      (λ r h. lengths r h ∙ rw e₃ refl) (λ q h. entries q h ∙ rw e₃ refl) (λ q x hq hx. cells q x hq hx ∙ rw (e₀, e₁, e₂, e₃) refl) i (rw long at h))
    where
      size : size_of t ≡ size_of u
      size = rw (e₀, e₁, e₂, e₃)

-- a bound on the parts is one on every place
pub at_most : (t : List ℕ) (b : ℕ) → 0 < width t → length t ≡ size_of t → states t ≤ b → terminals t ≤ b → nonterminals t ≤ b → productions t ≤ b → ((r : ℕ) → r < productions t → left_of t r ≤ b)
    → ((r : ℕ) → r < productions t → length_of t r ≤ b) → ((q : ℕ) → q < states t → entered_of t q ≤ b) → ((q x : ℕ) → q < states t → x < width t → cell_of t q x ≤ b) → (i : ℕ) → get_or t i 0 ≤ b
unfolding states terminals nonterminals productions width left_of length_of entered_of cell_of size_of
at_most t b wide long b₀ b₁ b₂ b₃ lefts lengths entries cells i = go (dec_lt i (length t))
  where
    go : Dec (i < length t) → get_or t i 0 ≤ b
    go (yes h) = all_places (productions t) (width t) (states t) wide (λ i. get_or t i 0 ≤ b) (by_size (λ i. get_or t i 0 ≤ b) b₀ b₁ b₂ b₃) lefts lengths entries cells i (rw long at h)
    go (no h) = rw (get_or-eq_default t 0 {n = i} (omega arith)) (omega arith)

-- what is built reads as it was built
module _ (q t n p : ℕ) (left length' entered : ℕ → ℕ) (cell : ℕ → ℕ → ℕ) where
  abbrev built : List ℕ
  built = build q t n p left length' entered cell

  abbrev lefts : List ℕ
  lefts = each p (λ r. left r ∷ [])

  abbrev lengths : List ℕ
  lengths = each p (λ r. length' r ∷ [])

  abbrev entries : List ℕ
  entries = each q (λ s. entered s ∷ [])

  abbrev cells : List ℕ
  cells = each q (λ s. each (t + n) (λ x. cell s x ∷ []))

  -- behind the sizes
  abbrev parts : List ℕ
  parts = lefts ++ (lengths ++ (entries ++ cells))

  pub built_sizes : (states built ≡ q) × (terminals built ≡ t) × (nonterminals built ≡ n) × (productions built ≡ p)
  unfolding build states terminals nonterminals productions
  built_sizes = (refl, refl, refl, refl)

  skip4 : (a b d e : ℕ) (l : List ℕ) (k : ℕ) → get_or (a ∷ b ∷ d ∷ e ∷ l) (4 + k) 0 ≡ get_or l k 0
  skip4 a b d e l k = let z : 4 + k ≡ suc (suc (suc (suc k))) = omega arith in rw z

  skip : (xs ys : List ℕ) (m k : ℕ) → length xs ≡ m → get_or (xs ++ ys) (m + k) 0 ≡ get_or ys k 0
  skip xs ys m k e = rw (← e) (get_or-append-add xs ys k 0)

  -- behind both arrays of productions
  behind_lengths : (i k : ℕ) → i ≡ header_size p + k → get_or (q ∷ t ∷ n ∷ p ∷ parts) i 0 ≡ get_or (entries ++ cells) k 0
  behind_lengths i k h =
      let e : i ≡ 4 + (p + (p + k)) = omega arith in
      ap (λ (i : ℕ). get_or (q ∷ t ∷ n ∷ p ∷ parts) i 0) e
      ∙ skip4 q t n p parts (p + (p + k))
      ∙ skip lefts (lengths ++ (entries ++ cells)) p (p + k) (ones_length p left)
      ∙ skip lengths (entries ++ cells) p k (ones_length p length')

  pub built_left : (r : ℕ) → r < p → left_of built r ≡ left r
  unfolding build left_of
  built_left r h =
      skip4 q t n p parts r ∙ get_or-append lefts (lengths ++ (entries ++ cells)) 0 r (rw (ones_length p left) h) ∙ ones_at p left r h

  pub built_length : (r : ℕ) → r < p → length_of built r ≡ length' r
  unfolding build length_of productions
  built_length r h =
      let e : length_at p r ≡ 4 + (p + r) = omega arith in
      ap (λ (i : ℕ). get_or (q ∷ t ∷ n ∷ p ∷ parts) i 0) e
      ∙ skip4 q t n p parts (p + r)
      ∙ skip lefts (lengths ++ (entries ++ cells)) p r (ones_length p left)
      ∙ get_or-append lengths (entries ++ cells) 0 r (rw (ones_length p length') h)
      ∙ ones_at p length' r h

  pub built_entered : (s : ℕ) → s < q → entered_of built s ≡ entered s
  unfolding build entered_of productions
  built_entered s h = behind_lengths (entered_at p s) s refl ∙ get_or-append entries cells 0 s (rw (ones_length q entered) h) ∙ ones_at q entered s h

  row_length : (s : ℕ) → s < q → length (each (t + n) (λ x. cell s x ∷ [])) ≡ t + n
  row_length s h = ones_length (t + n) (cell s)

  pub built_cell : (s x : ℕ) → s < q → x < t + n → cell_of built s x ≡ cell s x
  unfolding build cell_of width states terminals nonterminals productions
  built_cell s x hs hx =
      behind_lengths (row_at p q (t + n) s + x) (q + (s * (t + n) + x)) (omega arith)
      ∙ skip entries cells q (s * (t + n) + x) (ones_length q entered)
      ∙ each_at q (t + n) (λ s. each (t + n) (λ x. cell s x ∷ [])) 0 row_length s x hs hx
      ∙ ones_at (t + n) (cell s) x hx

  pub built_long : length built ≡ size_of built
  unfolding build size_of width states terminals nonterminals productions
  built_long =
      let a : length parts ≡ length lefts + length (lengths ++ (entries ++ cells)) = length-append lefts (lengths ++ (entries ++ cells)) in
      let b : length (lengths ++ (entries ++ cells)) ≡ length lengths + length (entries ++ cells) = length-append lengths (entries ++ cells) in
      let c : length (entries ++ cells) ≡ length entries + length cells = length-append entries cells in
      let d : length cells ≡ q * (t + n) = each_length q (t + n) (λ s. each (t + n) (λ x. cell s x ∷ [])) row_length in
      omega (arith, ones_length p left, ones_length p length', ones_length q entered)

-- numbers behind a table change nothing of it
module _ (l pad : List ℕ) (long : length l ≡ size_of l) where
  at_front : (i : ℕ) → i < size_of l → get_or (l ++ pad) i 0 ≡ get_or l i 0
  at_front i h = get_or-append l pad 0 i (rw long h)

  four : 4 ≤ size_of l
  unfolding size_of
  four = omega arith

  pub front_states : states (l ++ pad) ≡ states l
  unfolding states
  front_states = at_front 0 (omega (arith, four))

  pub front_terminals : terminals (l ++ pad) ≡ terminals l
  unfolding terminals
  front_terminals = at_front 1 (omega (arith, four))

  pub front_nonterminals : nonterminals (l ++ pad) ≡ nonterminals l
  unfolding nonterminals
  front_nonterminals = at_front 2 (omega (arith, four))

  pub front_productions : productions (l ++ pad) ≡ productions l
  unfolding productions
  front_productions = at_front 3 (omega (arith, four))

  pub front_width : width (l ++ pad) ≡ width l
  unfolding width
  front_width = rw (front_terminals, front_nonterminals)

  pub front_size : size_of (l ++ pad) ≡ size_of l
  unfolding size_of
  front_size = rw (front_states, front_width, front_productions)

  pub front_left : (r : ℕ) → r < productions l → left_of (l ++ pad) r ≡ left_of l r
  unfolding left_of size_of
  front_left r h = at_front (left_at r) (omega arith)

  pub front_length : (r : ℕ) → r < productions l → length_of (l ++ pad) r ≡ length_of l r
  unfolding length_of size_of
  front_length r h = rw front_productions (at_front (length_at (productions l) r) (omega arith))

  pub front_entered : (q : ℕ) → q < states l → entered_of (l ++ pad) q ≡ entered_of l q
  unfolding entered_of size_of
  front_entered q h = rw front_productions (at_front (entered_at (productions l) q) (omega arith))

  pub front_cell : (q x : ℕ) → q < states l → x < width l → cell_of (l ++ pad) q x ≡ cell_of l q x
  unfolding cell_of size_of
  front_cell q x h k =
      let b : q * width l + x < states l * width l = digits_lt h k in
      rw (front_productions, front_states, front_width) (at_front (row_at (productions l) (states l) (width l) q + x) (omega arith))
