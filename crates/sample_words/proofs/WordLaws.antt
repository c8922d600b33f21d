-- What is known of nonterminals is derived: a word that is put together from known ones, too.
use mathlib.Core.Path.{◌≡◌, refl, sym, ap, ◌∙◌}
use mathlib.Core.Bool.{Bool, true, false, false≢true}
use mathlib.Core.List.{List, [], ◌∷◌, ◌++◌, append-nil}
use mathlib.Core.Logic.{⊎_elim}
use Prim.Native.Nat.{ℕ, zero, suc, ◌+◌, ◌-◌, ◌≤◌, ◌<◌}
use native.Mathlib.Omega.{arith}
use lib.Dec.{eqb}
use lib.ListN.{length, get_or, take, set, length-set, length-append, length-replicate, length-drop}
use lib.Seq.{get_or-set_same, get_or-set_other, take_at}
use borrow.Author.Tests.{eq-eqb, ne_eqb}
use Rattle.sets.specs.Lists.{each, covered}
use Rattle.sets.proofs.CoveredLaws.{covered_front}
use Rattle.sets.proofs.HasLaws.{lt_or_ge, eq_or}
use Rattle.grammar.specs.Grammar.{Formed}
use Rattle.grammar.specs.Card.{terminals, nonterminals, productions, left_of, length_of, start_of, grammar_of, form_fault}
use Rattle.grammar.proofs.CardLaws.{well_formed, formed, right_is, right_at}
use Rattle.grammar.proofs.Yield.{Yields, nil, terminal, nonterminal, append}
use Rattle.nonterminals.proofs.LengthLaws.{mass_set}
use Rattle.sample_words.specs.Words.{key_of, count_of, placed_sum, symbol_at, Best, piece_of, composed, Among, here, there, Known, Words, left_key, within, Still, Lower, same, lower}
use Rattle.sample_words.proofs.SumLaws.{key_below, key_apart, count_used, count_nonterminal}
use Rattle.sample_words.proofs.PieceLaws.{piece_terminal, piece_nonterminal, composed_length}

pub among_left : {n : ℕ} {p : List ℕ} (q : List ℕ) → Among n p → Among n (p ++ q)
among_left q here = here
among_left q (there a) = there (among_left q a)

pub among_right : {n : ℕ} (p : List ℕ) {q : List ℕ} → Among n q → Among n (p ++ q)
among_right [] a = a
among_right (x ∷ p) a = there (among_right p a)

module _ (c e : List ℕ) (w : List (List ℕ)) (m : ℕ) (fault : form_fault c ≡ 0) (k : Words c m e w) where
  -- the piece of a symbol
  abbrev Makes : Bool → ℕ → List ℕ → Type 0
  Makes u x v = (p : List ℕ) × Yields (grammar_of c) (x ∷ []) p v × (u ≡ true → Among m p)

  of_terminal : (u : Bool) (x : ℕ) → 0 < x → x < terminals c → count_of c e u x ≤ 255 → Makes u x (x ∷ [])
  of_terminal true x z b h = absurd (omega (arith, count_used c e x b))
  of_terminal false x z b h = ([], terminal z b nil, λ i. absurd (false≢true i))

  of_known : (u : Bool) (x n : ℕ) (row : List ℕ) → Known c m u x n row → Makes u x (take n row)
  of_known u x n row t =
      let i : take n row ≡ t.line = rw (t.held, ← t.long) (covered_front 255 t.line [] (length t.line) (omega arith) ∙ take_at_end t.line) in
      (t.used, rw i t.yields, t.named)
    where
      take_at_end : (l : List ℕ) → take (length l) l ≡ l
      take_at_end l = sym (ap (take (length l)) (append-nil l)) ∙ take_at l [] (length l) refl

  of_symbol : (u : Bool) (x : ℕ) → 0 < x → x < terminals c + nonterminals c → count_of c e u x ≤ 255 → Makes u x (piece_of c e w u x)
  of_symbol u x z b h =
      ⊎_elim
      (λ (t : x < terminals c). rw (piece_terminal c e w u x t) (of_terminal u x z t h))
      (λ (t : terminals c ≤ x).
      let o : terminals c + (x - terminals c) ≡ x = omega arith in
      rw (piece_nonterminal c e w u x t) (of_known u x _ _ (rw o at (k.known u (x - terminals c) (omega (arith, (well_formed c fault).limits.nonterminals_to)) (omega (arith, count_nonterminal c e u x t))))))
      (lt_or_ge x (terminals c))

  -- the first d symbols of r
  module _ (r p : ℕ) (h : r < productions c) where
    step : (d : ℕ) → placed_sum c e r p (suc d) ≡ placed_sum c e r p d + count_of c e (eqb d p) (symbol_at c r d)
    unfolding placed_sum
    step d = refl

    abbrev MakesPart : ℕ → Type 0
    MakesPart d = (q : List ℕ) × Yields (grammar_of c) (each d (λ i. symbol_at c r i ∷ [])) q (composed c e w r p d) × (p < d → Among m q)

    of_part : (d : ℕ) → d ≤ length_of c r → placed_sum c e r p d ≤ 255 → MakesPart d
    of_part zero l s = ([], nil, λ b. absurd (omega arith))
    of_part (suc d) l s =
        let t = of_part d (omega arith) (omega (arith, step d)) in
        let x = (well_formed c fault).rights (start_of c r + d) (right_at c (well_formed c fault) r d h (omega arith)) in
        let o = of_symbol (eqb d p) (symbol_at c r d) x.0 x.1 (omega (arith, step d)) in
        (t.0 ++ o.0, append (grammar_of c) t.1 o.1, λ b. ⊎_elim (λ (i : p ≡ d). among_right t.0 (o.2 (eq-eqb d p (sym i)))) (λ i. among_left o.0 (t.2 (omega (arith, i)))) (eq_or p d))

  -- what production r makes of its left side
  module _ (r : ℕ) (h : r < productions c) (u : Bool) (sum place : ℕ) (b : Best c e r (within m u r) sum place) (l : sum ≤ 255) where
    abbrev line : List ℕ
    line = composed c e w r place (length_of c r)

    abbrev q : List ℕ
    q = (of_part r place h (length_of c r) (omega arith) (omega (arith, b.placed l))).0

    uses : u ≡ true → Among m ((of_part r place h (length_of c r) (omega arith) (omega (arith, b.placed l))).0 ++ r ∷ [])
    uses i =
        ⊎_elim
        (λ (s : r ≡ m). among_right q (rw s here))
        (λ s. among_left (r ∷ []) ((of_part r place h (length_of c r) (omega arith) (omega (arith, b.placed l))).2 (b.inside (rw (i, ne_eqb r m s)) l)))
        (eq_or r m)

    of_left : Known c m u (left_of c r) sum (covered 255 (composed c e w r place (length_of c r)) [])
    of_left =
        let y : Yields (grammar_of c) (left_of c r ∷ []) (q ++ r ∷ []) (line ++ []) = nonterminal {p = q} {u = line} r h (rw (right_is c r h) (of_part r place h (length_of c r) (omega arith) (omega (arith, b.placed l))).1) nil in
        record {
          line = line;
          used = q ++ r ∷ [];
          yields = rw append-nil at y;
          named = uses;
          long = composed_length c e w fault k.wide r place h (length_of c r) (omega arith) (omega (arith, b.placed l)) ∙ b.placed l;
          held = refl;
        }

-- a row of 255 bytes
covered_wide : (l : List ℕ) → length l ≤ 255 → length (covered 255 l []) ≡ 255
unfolding covered
covered_wide l h = simp (length-append, length-replicate, length-drop) (omega arith)

-- the tables with another number and row at place i
module _ {c e : List ℕ} {w : List (List ℕ)} {m : ℕ} (k : Words c m e w) (u : Bool) (j n : ℕ) (row : List ℕ) (b : j < 60) (t : Known c m u (terminals c + j) n row) (l : n ≤ 255) where
  abbrev i : ℕ
  i = key_of u j

  number_here : get_or (set e (key_of u j) n) (key_of u j) 0 ≡ n
  number_here = get_or-set_same e i n 0 (omega (arith, k.lengths.long, key_below u b))

  row_here : get_or (set w (key_of u j) row) (key_of u j) [] ≡ row
  row_here = get_or-set_same w i row [] (omega (arith, k.rows, key_below u b))

  row_wide : length row ≡ 255
  row_wide = ap length t.held ∙ covered_wide t.line (omega (arith, t.long))

  -- at any place
  at_key : (P : ℕ → List ℕ → Type 0) (h : ℕ) → (h ≡ key_of u j → P n row) → P (get_or e h 0) (get_or w h []) → P (get_or (set e (key_of u j) n) h 0) (get_or (set w (key_of u j) row) h [])
  at_key P h a o =
      ⊎_elim
      (λ (s : h ≡ i). rw (s, number_here, row_here) (a s))
      (λ s. rw (get_or-set_other e i h n 0 s, get_or-set_other w i h row [] s) o)
      (eq_or h i)

  pub words_less : Words c m (set e (key_of u j) n) (set w (key_of u j) row)
  words_less =
      record {
        lengths = record {
          long = length-set e i n ∙ k.lengths.long;
          most = λ h. at_key (λ (v : ℕ) (x : List ℕ). v ≤ 256) h (λ s. omega arith) (k.lengths.most h);
        };
        rows = length-set w i row ∙ k.rows;
        wide = λ h o. at_key (λ (v : ℕ) (x : List ℕ). length x ≡ 255) h (λ s. row_wide) (k.wide h o);
        known = λ v h o.
            at_key (λ (n : ℕ) (x : List ℕ). n ≤ 255 → Known c m v (terminals c + h) n x) (key_of v h)
            (λ s d. let z = key_apart v u o b s in rw (z.0, z.1) t)
            (k.known v h o);
      }

module _ (c e : List ℕ) (w : List (List ℕ)) (m r : ℕ) (u : Bool) (sum place : ℕ) (fault : form_fault c ≡ 0) (h : r < productions c) (k : Words c m e w) (b : Best c e r (within m u r) sum place) where
  abbrev f : Formed (grammar_of c)
  f = formed c (well_formed c fault)

  abbrev row : List ℕ
  row = covered 255 (composed c e w r place (length_of c r)) []

  -- lessened by production r
  pub lessen_words : sum < get_or e (left_key c u r) 0 → Words c m (set e (left_key c u r) sum) (set w (left_key c u r) (covered 255 (composed c e w r place (length_of c r)) []))
  lessen_words s =
      let o : terminals c + (left_of c r - terminals c) ≡ left_of c r = omega (arith, f.left_nonterminal r h) in
      let l : sum ≤ 255 = omega (arith, k.lengths.most (left_key c u r)) in
      words_less k u (left_of c r - terminals c) sum row (omega (arith, f.left_below r h, f.left_nonterminal r h, (well_formed c fault).limits.nonterminals_to)) (rw o (of_left c e w m fault k r h u sum place b l)) l

  pub lessen_lower : sum < get_or e (left_key c u r) 0 → (P : List ℕ → Type 0) → Lower e (set e (left_key c u r) sum) P true
  lessen_lower s P = lower (mass_set e (left_key c u r) sum s)

  pub lessen_still : get_or e (left_key c u r) 0 ≤ sum → Lower e e (λ l. Still c m l u r) false
  lessen_still s = same refl (rw b.value at s)
