-- Lengths that no production lessens are the shortest ones, and the word at the start's place, with the production used, is a sample.
use Rattle.std.specs.Prelude.{Option, Some, None}
use mathlib.Core.Path.{◌≡◌, refl, sym, ap, ◌∙◌}
use mathlib.Core.Bool.{Bool, true, false}
use mathlib.Core.List.{List, [], ◌++◌, append_assoc, append-nil}
use mathlib.Core.Logic.{◌⊎◌, ⊎_elim}
use Prim.Native.Nat.{ℕ, ◌+◌, ◌-◌, ◌≤◌, ◌<◌}
use native.Mathlib.Omega.{arith}
use lib.ListN.{length, get_or, drop, replicate, length-append}
use lib.Seq.{drop-nil}
use borrow.Author.Tests.{eq-eqb, ne_eqb}
use Rattle.sets.specs.Lists.{covered}
use Rattle.sets.proofs.HasLaws.{eq_or}
use Rattle.grammar.specs.Grammar.{Formed}
use Rattle.grammar.specs.Card.{terminals, productions, left_of, right_of, grammar_of, form_fault}
use Rattle.grammar.proofs.CardLaws.{well_formed, formed}
use Rattle.grammar.proofs.Yield.{Yields, nil, terminal, nonterminal, yield_terminals}
use Rattle.sample_words.specs.Sample.{Uses, Sample}
use Rattle.sample_words.specs.Words.{key_of, count_of, plain_sum, used_sum, sum_of, Among, Known, Words, within}
use Rattle.sample_words.proofs.SumLaws.{key_used, count_plain, count_nonterminal}
use Rattle.sample.specs.Search.{StillFrom, Takes, Finds, found, none}
use Rattle.sample.proofs.UseLaws.{among_middle, yields_uses, uses_yields}

module _ (c e : List ℕ) (m : ℕ) (fault : form_fault c ≡ 0) (still : StillFrom c m 0 e) where
  f : Formed (grammar_of c)
  f = formed c (well_formed c fault)

  abbrev stays : (u : Bool) (r : ℕ) → r < productions c → count_of c e u (left_of c r) ≤ sum_of c e (within m u r) (right_of c r)
  stays u r h = rw (count_nonterminal c e u (left_of c r) (f.left_nonterminal r h)) (still r (omega arith) h u)

  plain_least : {β p w : List ℕ} → Yields (grammar_of c) β p w → plain_sum c e β ≤ length w
  unfolding plain_sum
  plain_least nil = omega arith
  plain_least (terminal {a} h k y) = omega (arith, plain_least y, count_plain c e a k)
  plain_least (nonterminal {u = u} {v = v} r h x y) = omega (arith, plain_least x, plain_least y, stays false r h, length-append u v)

  -- the left side of r, where r is the production or one below it is
  left_least : (r : ℕ) → r < productions c → {p : List ℕ} {n : ℕ} → plain_sum c e (right_of c r) ≤ n → (Among m p → used_sum c e (right_of c r) ≤ n) → Among m p ⊎ (r ≡ m) → count_of c e true (left_of c r) ≤ n
  left_least r h a b i =
      ⊎_elim
      (λ (s : r ≡ m). omega (arith, rw (eq-eqb r m s) at (stays true r h)))
      (λ s. omega (arith, rw (ne_eqb r m s) at (stays true r h), ⊎_elim (λ j. b j) (λ j. absurd (s j)) i))
      (eq_or r m)

  used_least : {β p w : List ℕ} → Yields (grammar_of c) β p w → Among m p → used_sum c e β ≤ length w
  unfolding used_sum
  used_least nil i = elim i [ ]
  used_least (terminal {a} h k y) i = omega (arith, used_least y i, count_plain c e a k)
  used_least (nonterminal {p = p} {u = u} {v = v} r h x y) i =
      ⊎_elim
      (λ j. omega (arith, left_least r h (plain_least x) (λ k. used_least x k) j, plain_least y, length-append u v))
      (λ j. omega (arith, stays false r h, plain_least x, used_least y j, length-append u v))
      (among_middle p i)

  module _ (w : List (List ℕ)) (k : Words c m e w) (h : m < productions c) where
    -- the start counts no more than what is used
    start_least : (v : List ℕ) → Uses (grammar_of c) m v → get_or e 60 0 ≤ length v
    unfolding plain_sum used_sum
    start_least v t =
        let y = uses_yields (grammar_of c) m h t in
        let z : terminals c - terminals c ≡ 0 = omega arith in
        let s : count_of c e true (terminals c) ≡ get_or e 60 0 = count_nonterminal c e true (terminals c) (omega arith) ∙ ap (λ (j : ℕ). get_or e (key_of true j) 0) z ∙ ap (λ (j : ℕ). get_or e j 0) (key_used 0) in
        omega (arith, s, used_least y.1 y.2, k.lengths.most 60)

    pub no_sample : 255 < get_or e 60 0 → (v : List ℕ) → Uses (grammar_of c) m v → 255 < length v
    no_sample l v t = omega (arith, start_least v t)

    -- the word at the start's place
    pub record SampleRow (n : ℕ) (row : List ℕ) : Type 0 where
      pub line : List ℕ
      pub sample : Sample (grammar_of c) m line
      pub long : length line ≡ n
      pub held : row ≡ covered 255 line []

    pub sample_row : get_or e 60 0 ≤ 255 → SampleRow (get_or e 60 0) (get_or w 60 [])
    sample_row l =
        let z : terminals c + 0 ≡ terminals c = omega arith in
        let t : Known c m true (terminals c) (get_or e 60 0) (get_or w 60 []) = rw (key_used 0, z) at (k.known true 0 (omega arith) (rw (key_used 0) l)) in
        record {
          line = t.line;
          sample = record { uses = yields_uses (grammar_of c) (yield_terminals (grammar_of c) t.yields) t.yields (t.named refl); least = λ v s. omega (arith, start_least v s, t.long) };
          long = t.long;
          held = t.held;
        }

-- zeros behind the line, and then what was there
covered_behind : (l old : List ℕ) → covered 255 l [] ++ drop 255 old ≡ covered 255 l old
unfolding covered
covered_behind l old = rw (drop-nil {A = ℕ} 255, append-nil) (append_assoc l (replicate (255 - length l) 0) (drop 255 old))

-- what was taken from the tables is a sample
module _ (c e : List ℕ) (w : List (List ℕ)) (m : ℕ) (fault : form_fault c ≡ 0) (h : m < productions c) (k : Words c m e w) (still : StillFrom c m 0 e) where
  taken : {old new : List ℕ} (line : List ℕ) → Sample (grammar_of c) m line → get_or w 60 [] ≡ covered 255 line [] → {n : ℕ} → n ≡ length line → n ≤ 255 → new ≡ get_or w 60 [] ++ drop 255 old → Finds c m old (Some n) new
  taken {old} line s i j l o = rw (j, o, i, covered_behind line old) (found line s (rw j at l))

  pub finds : {old new : List ℕ} (o : Option ℕ) → Takes e w old o new → Finds c m old o new
  finds (Some n) t =
      let r = sample_row c e m fault still w k h (rw t.0 at t.1) in
      taken r.line r.sample r.held (t.0 ∙ sym r.long) t.1 t.2
  finds None t = rw t.1 (none (no_sample c e m fault still w k h t.0))
