-- What the merged card holds, place by place: its sizes, and left side, length and right side of each production.
use mathlib.Core.Path.{◌≡◌, refl, sym, ap, ◌∙◌}
use mathlib.Core.List.{List, [], ◌∷◌, ◌++◌, map}
use Prim.Native.Nat.{ℕ, zero, suc, ◌+◌, ◌*◌, ◌<◌, ◌≤◌}
use native.Mathlib.Omega.{arith}
use lib.ListN.{length, get_or, length-append, get_or-append}
use Rattle.grammar.specs.Card.{terminals, nonterminals, productions, symbols, left_of, length_of, symbols_at, symbol_of, start_of, right_of}
use Rattle.grammar.proofs.CardLaws.{WellFormed, right_is, right_at}
use Rattle.merged_card.specs.Merged.{of_first, of_second, merged_sizes, merged_lefts, merged_lengths, merged_symbols, merged_card}
use Rattle.merged_card.proofs.ArrayLaws.{same_ones, map_each, skip, array_length, array_first, array_second}

-- production i of the card m is production r of the card c, each symbol moved by f
right_moved : (m c : List ℕ) (f : ℕ → ℕ) (i r : ℕ) → i < productions m → r < productions c → length_of m i ≡ length_of c r
    → ((d : ℕ) → d < length_of c r → symbol_of m (start_of m i + d) ≡ f (symbol_of c (start_of c r + d))) → right_of m i ≡ map f (right_of c r)
right_moved m c f i r h k e at =
    right_is m i h
    ∙ rw e (same_ones (length_of c r) _ _ at)
    ∙ sym (ap (map f) (right_is c r k) ∙ map_each f (length_of c r) (λ d. symbol_of c (start_of c r + d)))

module _ (a b : List ℕ) where
  -- ---- the sizes, and how long the card and its arrays are

  pub merged_terminals : terminals (merged_card a b) ≡ terminals a
  unfolding merged_card terminals
  merged_terminals = refl

  pub merged_nonterminals : nonterminals (merged_card a b) ≡ 1 + nonterminals a + nonterminals b
  unfolding merged_card nonterminals
  merged_nonterminals = refl

  pub merged_productions : productions (merged_card a b) ≡ 2 + productions a + productions b
  unfolding merged_card productions
  merged_productions = refl

  pub merged_symbols_is : symbols (merged_card a b) ≡ 2 + symbols a + symbols b
  unfolding merged_card symbols
  merged_symbols_is = refl

  pub lefts_length : length (merged_lefts a b) ≡ 2 + productions a + productions b
  lefts_length = array_length (terminals a) (terminals a) (productions a) _ (productions b) _ ∙ omega arith

  pub lengths_length : length (merged_lengths a b) ≡ 2 + productions a + productions b
  lengths_length = array_length 1 1 (productions a) _ (productions b) _ ∙ omega arith

  pub symbols_length : length (merged_symbols a b) ≡ 2 + symbols a + symbols b
  symbols_length = array_length (of_first a b (terminals a)) (of_second a b (terminals b)) (symbols a) _ (symbols b) _ ∙ omega arith

  behind_length : length (merged_lengths a b ++ merged_symbols a b) ≡ length (merged_lengths a b) + length (merged_symbols a b)
  behind_length = length-append (merged_lengths a b) (merged_symbols a b)

  pub merged_length : length (merged_card a b) ≡ 4 + 2 * (2 + productions a + productions b) + (2 + symbols a + symbols b)
  unfolding merged_card
  merged_length =
      let e = length-append (merged_lefts a b) (merged_lengths a b ++ merged_symbols a b) in
      omega (arith, e, behind_length, lefts_length, lengths_length, symbols_length)

  -- ---- its places, by the arrays

  behind_sizes : (k : ℕ) → get_or (merged_card a b) (4 + k) 0 ≡ get_or (merged_lefts a b ++ (merged_lengths a b ++ merged_symbols a b)) k 0
  unfolding merged_card
  behind_sizes k = skip (merged_sizes a b) (merged_lefts a b ++ (merged_lengths a b ++ merged_symbols a b)) 4 k refl

  pub left_at : (r : ℕ) → r < 2 + productions a + productions b → left_of (merged_card a b) r ≡ get_or (merged_lefts a b) r 0
  unfolding left_of
  left_at r h = behind_sizes r ∙ get_or-append (merged_lefts a b) _ 0 r (rw lefts_length h)

  pub length_at : (r : ℕ) → r < 2 + productions a + productions b → length_of (merged_card a b) r ≡ get_or (merged_lengths a b) r 0
  unfolding length_of
  length_at r h =
      let p : ℕ = 2 + productions a + productions b in
      let e : 4 + productions (merged_card a b) + r ≡ 4 + (p + r) = omega (arith, merged_productions) in
      ap (λ (i : ℕ). get_or (merged_card a b) i 0) e
      ∙ behind_sizes (p + r)
      ∙ skip (merged_lefts a b) _ p r lefts_length
      ∙ get_or-append (merged_lengths a b) _ 0 r (rw lengths_length h)

  pub symbol_at : (k : ℕ) → symbol_of (merged_card a b) k ≡ get_or (merged_symbols a b) k 0
  unfolding symbol_of
  symbol_at k =
      let p : ℕ = 2 + productions a + productions b in
      let e : symbols_at (merged_card a b) + k ≡ 4 + (p + (p + k)) = omega (arith, merged_productions) in
      ap (λ (i : ℕ). get_or (merged_card a b) i 0) e
      ∙ behind_sizes (p + (p + k))
      ∙ skip (merged_lefts a b) _ p (p + k) lefts_length
      ∙ skip (merged_lengths a b) _ p k lengths_length

  -- ---- its productions: the two new ones, the first card's and the second's

  pub left_new_first : left_of (merged_card a b) 0 ≡ terminals a
  left_new_first = left_at 0 (omega arith)

  pub left_new_second : left_of (merged_card a b) 1 ≡ terminals a
  left_new_second = left_at 1 (omega arith)

  pub left_first : (r : ℕ) → r < productions a → left_of (merged_card a b) (2 + r) ≡ of_first a b (left_of a r)
  left_first r h = left_at (2 + r) (omega arith) ∙ array_first _ _ (productions a) _ (productions b) _ r h

  pub left_second : (r : ℕ) → r < productions b → left_of (merged_card a b) (2 + (productions a + r)) ≡ of_second a b (left_of b r)
  left_second r h = left_at (2 + (productions a + r)) (omega arith) ∙ array_second _ _ (productions a) _ (productions b) _ r h

  length_first : (r : ℕ) → r < productions a → length_of (merged_card a b) (2 + r) ≡ length_of a r
  length_first r h = length_at (2 + r) (omega arith) ∙ array_first _ _ (productions a) _ (productions b) _ r h

  length_second : (r : ℕ) → r < productions b → length_of (merged_card a b) (2 + (productions a + r)) ≡ length_of b r
  length_second r h = length_at (2 + (productions a + r)) (omega arith) ∙ array_second _ _ (productions a) _ (productions b) _ r h

  start_two : start_of (merged_card a b) 2 ≡ 2
  unfolding start_of
  start_two = omega (arith, length_at 0 (omega arith), length_at 1 (omega arith))

  pub start_first : (r : ℕ) → r ≤ productions a → start_of (merged_card a b) (2 + r) ≡ 2 + start_of a r
  unfolding start_of
  start_first zero h = start_two
  start_first (suc r) h = let e : 2 + suc r ≡ suc (2 + r) = omega arith in rw e (omega (arith, start_first r (omega arith), length_first r (omega arith)))

  pub start_second : (r : ℕ) → r ≤ productions b → start_of (merged_card a b) (2 + (productions a + r)) ≡ 2 + (start_of a (productions a) + start_of b r)
  unfolding start_of
  start_second zero h = let e : 2 + (productions a + 0) ≡ 2 + productions a = omega arith in rw e (start_first (productions a) (omega arith) ∙ omega arith)
  start_second (suc r) h =
      let e : 2 + (productions a + suc r) ≡ suc (2 + (productions a + r)) = omega arith in
      rw e (omega (arith, start_second r (omega arith), length_second r (omega arith)))

  pub right_new_first : right_of (merged_card a b) 0 ≡ of_first a b (terminals a) ∷ []
  unfolding start_of
  right_new_first =
      right_is (merged_card a b) 0 (omega (arith, merged_productions))
      ∙ rw (length_at 0 (omega arith)) (ap (λ (x : ℕ). x ∷ []) (symbol_at 0))

  pub right_new_second : right_of (merged_card a b) 1 ≡ of_second a b (terminals b) ∷ []
  unfolding start_of
  right_new_second =
      right_is (merged_card a b) 1 (omega (arith, merged_productions))
      ∙ rw (length_at 1 (omega arith), length_at 0 (omega arith)) (ap (λ (x : ℕ). x ∷ []) (symbol_at 1))

  -- a right side of either card, symbol by symbol
  pub right_first : WellFormed a → (r : ℕ) → r < productions a → right_of (merged_card a b) (2 + r) ≡ map (of_first a b) (right_of a r)
  right_first w r h = right_moved (merged_card a b) a (of_first a b) (2 + r) r (omega (arith, merged_productions)) h (length_first r h) at
    where
      at : (d : ℕ) → d < length_of a r → symbol_of (merged_card a b) (start_of (merged_card a b) (2 + r) + d) ≡ of_first a b (symbol_of a (start_of a r + d))
      at d k =
          let e : start_of (merged_card a b) (2 + r) + d ≡ 2 + (start_of a r + d) = omega (arith, start_first r (omega arith)) in
          rw e (symbol_at (2 + (start_of a r + d)) ∙ array_first _ _ (symbols a) _ (symbols b) _ (start_of a r + d) (right_at a w r d h k))

  pub right_second : WellFormed a → WellFormed b → (r : ℕ) → r < productions b → right_of (merged_card a b) (2 + (productions a + r)) ≡ map (of_second a b) (right_of b r)
  right_second v w r h = right_moved (merged_card a b) b (of_second a b) (2 + (productions a + r)) r (omega (arith, merged_productions)) h (length_second r h) at
    where
      at : (d : ℕ) → d < length_of b r → symbol_of (merged_card a b) (start_of (merged_card a b) (2 + (productions a + r)) + d) ≡ of_second a b (symbol_of b (start_of b r + d))
      at d k =
          let e : start_of (merged_card a b) (2 + (productions a + r)) + d ≡ 2 + (symbols a + (start_of b r + d)) = omega (arith, start_second r (omega arith), v.sum) in
          rw e (symbol_at (2 + (symbols a + (start_of b r + d))) ∙ array_second _ _ (symbols a) _ (symbols b) _ (start_of b r + d) (right_at b w r d h k))
