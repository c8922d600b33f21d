-- The merged card joins its two cards: their grammars stand inside its own, and two productions lead to them.
use mathlib.Core.Path.{◌≡◌, refl, sym, ◌∙◌}
use mathlib.Core.Logic.{inl, ⊎_elim}
use mathlib.Core.Bool.{true}
use mathlib.Core.List.{List}
use Prim.Native.Nat.{ℕ, ◌+◌, ◌-◌, ◌<◌, ◌≤◌}
use native.Mathlib.Omega.{arith}
use Rattle.sets.proofs.HasLaws.{lt_or_ge}
use Rattle.grammar.specs.Useful.{Useful, Nonterminal}
use Rattle.grammar.specs.Card.{terminals, nonterminals, productions, left_of, sizes_ok, grammar_of}
use Rattle.grammar.proofs.CardLaws.{WellFormed, well_formed, formed}
use Rattle.merged_card.specs.Merged.{of_first, of_second, merged_card}
use Rattle.merged_card.specs.Joined.{Joins}
use Rattle.merged_card.proofs.ArrayLaws.{Place, new_first, new_second, of_first_is, of_second_is, place}
use Rattle.merged_card.proofs.MergedLaws.{merged_terminals, merged_nonterminals, merged_productions, left_new_first, left_new_second, left_first, left_second, right_new_first, right_new_second, right_first, right_second}
use Rattle.merged_card.proofs.FormLaws.{moved_terminal, moved_nonterminal, moved_bounds, merged_formed}
use Rattle.merged_card.proofs.Embedding.{Image, Embeds, Union, useful_in, union_reachable, union_start_useful, union_rightmost, union_sentence}

module _ (a b : List ℕ) (v : WellFormed a) (w : WellFormed b) (same : terminals a ≡ terminals b) where
  -- the left side of a production, by the card that it is from
  data Left : ℕ → Type 0 where
    is_new : (r : ℕ) → r < 2 → left_of (merged_card a b) r ≡ terminals a → Left r
    is_first : (i : ℕ) → i < productions a → left_of (merged_card a b) (2 + i) ≡ left_of a i + 1 → Left (2 + i)
    is_second : (j : ℕ) → j < productions b → left_of (merged_card a b) (2 + (productions a + j)) ≡ left_of b j + (1 + nonterminals a) → Left (2 + (productions a + j))

  left_of_is : (r : ℕ) → r < productions (merged_card a b) → Left r
  left_of_is r h = go (place (productions a) (productions b) r (omega (arith, merged_productions a b)))
    where
      go : {r : ℕ} → Place (productions a) (productions b) r → Left r
      go new_first = is_new 0 (omega arith) (left_new_first a b)
      go new_second = is_new 1 (omega arith) (left_new_second a b)
      go (of_first_is i k) = is_first i k (left_first a b i k ∙ moved_nonterminal (terminals a) 1 (left_of a i) (v.lefts i k).0)
      go (of_second_is j k) = is_second j k (left_second a b j k ∙ moved_nonterminal (terminals b) (1 + nonterminals a) (left_of b j) (w.lefts j k).0)

  first_inside : Embeds (grammar_of a) (grammar_of (merged_card a b)) (of_first a b) (λ r. 2 + r)
  first_inside =
      record {
        same_terminals = merged_terminals a b;
        fixes = moved_terminal (terminals a) 1;
        moves = λ x h. (let m = moved_bounds (terminals a) 1 x in omega (arith, m.0));
        inside = λ r h. omega (arith, merged_productions a b);
        left = left_first a b;
        right = right_first a b v;
        only = λ r x h i j e. go (left_of_is r h) x i j e;
      }
    where
      go : {r : ℕ} → Left r → (x : ℕ) → terminals a ≤ x → x < terminals a + nonterminals a → left_of (merged_card a b) r ≡ of_first a b x → Image (grammar_of a) (λ r. 2 + r) r x
      go (is_new r h l) x i j e = absurd (omega (arith, moved_nonterminal (terminals a) 1 x i))
      go (is_first n h l) x i j e = record { of = n; below = h; same = refl; left = omega (arith, moved_nonterminal (terminals a) 1 x i) }
      go (is_second n h l) x i j e = absurd (omega (arith, moved_nonterminal (terminals a) 1 x i, (w.lefts n h).0))

  second_inside : Embeds (grammar_of b) (grammar_of (merged_card a b)) (of_second a b) (λ r. 2 + productions a + r)
  second_inside =
      record {
        same_terminals = merged_terminals a b ∙ same;
        fixes = moved_terminal (terminals b) (1 + nonterminals a);
        moves = λ x h. (let m = moved_bounds (terminals b) (1 + nonterminals a) x in omega (arith, m.0));
        inside = λ r h. omega (arith, merged_productions a b);
        left = λ r h. (let e : 2 + productions a + r ≡ 2 + (productions a + r) = omega arith in rw e (left_second a b r h));
        right = λ r h. (let e : 2 + productions a + r ≡ 2 + (productions a + r) = omega arith in rw e (right_second a b v w r h));
        only = λ r x h i j e. go (left_of_is r h) x i j e;
      }
    where
      go : {r : ℕ} → Left r → (x : ℕ) → terminals b ≤ x → x < terminals b + nonterminals b → left_of (merged_card a b) r ≡ of_second a b x → Image (grammar_of b) (λ r. 2 + productions a + r) r x
      go (is_new r h l) x i j e = absurd (omega (arith, moved_nonterminal (terminals b) (1 + nonterminals a) x i, same))
      go (is_first n h l) x i j e = absurd (omega (arith, moved_nonterminal (terminals b) (1 + nonterminals a) x i, (v.lefts n h).1, same))
      go (is_second n h l) x i j e = record { of = n; below = h; same = omega arith; left = omega (arith, moved_nonterminal (terminals b) (1 + nonterminals a) x i) }

  module _ (s : sizes_ok (merged_card a b) ≡ true) where
    whole : WellFormed (merged_card a b)
    whole = well_formed (merged_card a b) (merged_formed a b v w same s)

    others : {r : ℕ} → Left r → 2 ≤ r → left_of (merged_card a b) r ≡ terminals (merged_card a b) → ⊥
    others (is_new r h l) k e = omega arith
    others (is_first i h l) k e = omega (arith, merged_terminals a b, (v.lefts i h).0)
    others (is_second j h l) k e = omega (arith, merged_terminals a b, (w.lefts j h).0, same)

    union : Union (grammar_of a) (grammar_of b) (grammar_of (merged_card a b)) (of_first a b) (λ r. 2 + r) (of_second a b) (λ r. 2 + productions a + r)
    union =
        record {
          first = record { embeds = first_inside; formed = formed a v; below = omega (arith, merged_productions a b); left = left_new_first a b ∙ sym (merged_terminals a b); right = right_new_first a b };
          second = record { embeds = second_inside; formed = formed b w; below = omega (arith, merged_productions a b); left = left_new_second a b ∙ sym (merged_terminals a b); right = right_new_second a b };
          formed = formed (merged_card a b) whole;
          others = λ r k h. others (left_of_is r h) k;
        }

    module _ (pass-a : (x : ℕ) → Nonterminal (grammar_of a) x → Useful (grammar_of a) x) (pass-b : (x : ℕ) → Nonterminal (grammar_of b) x → Useful (grammar_of b) x) where
      start_useful : Useful (grammar_of (merged_card a b)) (terminals (merged_card a b))
      start_useful = union_start_useful union (inl (pass-a (terminals a) (record { from = omega arith; below = omega (arith, v.limits.nonterminals_from) })).productive)

      first_useful : (x : ℕ) → terminals a ≤ x → x < terminals a + nonterminals a → Useful (grammar_of (merged_card a b)) (x + 1)
      first_useful x h k = rw (moved_nonterminal (terminals a) 1 x h) at (useful_in first_inside (union_reachable union).0 (pass-a x (record { from = h; below = k })))

      second_useful : (x : ℕ) → terminals b ≤ x → x < terminals b + nonterminals b → Useful (grammar_of (merged_card a b)) (x + (1 + nonterminals a))
      second_useful x h k = rw (moved_nonterminal (terminals b) (1 + nonterminals a) x h) at (useful_in second_inside (union_reachable union).1 (pass-b x (record { from = h; below = k })))

      all_useful : (x : ℕ) → Nonterminal (grammar_of (merged_card a b)) x → Useful (grammar_of (merged_card a b)) x
      all_useful x n =
          ⊎_elim
          (λ (h : x < terminals a + 1). (let e : x ≡ terminals (merged_card a b) = omega (arith, n.from, merged_terminals a b) in rw e start_useful))
          (λ (h : terminals a + 1 ≤ x). ⊎_elim
          (λ (i : x < terminals a + 1 + nonterminals a). (let e : x - 1 + 1 ≡ x = omega arith in rw e at (first_useful (x - 1) (omega arith) (omega arith))))
          (λ (i : terminals a + 1 + nonterminals a ≤ x). (
          let e : x - (1 + nonterminals a) + (1 + nonterminals a) ≡ x = omega arith in
          rw e at (second_useful (x - (1 + nonterminals a)) (omega (arith, same)) (omega (arith, same, n.below, merged_terminals a b, merged_nonterminals a b)))))
          (lt_or_ge x (terminals a + 1 + nonterminals a)))
          (lt_or_ge x (terminals a + 1))

      pub merged_joins : Joins a b (merged_card a b)
      merged_joins =
          record {
            sentences = union_sentence union;
            derivations = union_rightmost union;
            formed = merged_formed a b v w same s;
            useful = all_useful;
          }
