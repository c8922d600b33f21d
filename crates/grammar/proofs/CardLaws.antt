-- A card to which none of the refusals 4 to 9 applies is a grammar in form, within the limits.
use mathlib.Core.Path.{◌≡◌, ap, ◌∙◌}
use mathlib.Core.Bool.{Bool, true, false}
use mathlib.Core.List.{List, [], ◌∷◌, ◌++◌}
use mathlib.Core.Logic.{⊎_elim}
use Prim.Native.Nat.{ℕ, zero, suc, ◌+◌, ◌≤◌, ◌<◌}
use native.Mathlib.Omega.{arith}
use native.Mathlib.Nat.{eq-or-lt_of_le, le_of_suc-le-suc, not-suc-le-zero}
use lib.ListN.{length}
use lib.Dec.{eqb, leb, ltb}
use borrow.Author.Tests.{eqb-true, leb-true, ltb-true, lt-ltb, le-ltb}
use Rattle.sets.specs.Tests.{between, unless}
use Rattle.sets.specs.Lists.{each}
use Rattle.sets.proofs.TestLaws.{and_both, all_at, between_at, passes}
use Rattle.sets.proofs.ListLaws.{ones_length}
use Rattle.grammar.specs.Grammar.{Formed, Symbols}
use Rattle.grammar.specs.Card.{terminals, nonterminals, productions, symbols, left_of, length_of, symbols_at, symbol_of, start_of, right_of, grammar_of, sizes_ok, is_nonterminal, is_symbol, lefts_ok, rights_ok, form_fault}

pub record Limits (c : List ℕ) : Type 0 where
  pub terminals_from : 1 ≤ terminals c
  pub terminals_to : terminals c ≤ 64
  pub nonterminals_from : 1 ≤ nonterminals c
  pub nonterminals_to : nonterminals c ≤ 60
  pub productions_from : 1 ≤ productions c
  pub productions_to : productions c ≤ 128
  pub symbols_to_is : symbols c ≤ 512

pub record WellFormed (c : List ℕ) : Type 0 where
  pub limits : Limits c
  pub long : length c ≡ symbols_at c + symbols c
  pub sum : start_of c (productions c) ≡ symbols c
  pub lefts : (r : ℕ) → r < productions c → (terminals c ≤ left_of c r) × (left_of c r < terminals c + nonterminals c)
  pub rights : (k : ℕ) → k < symbols c → (0 < symbol_of c k) × (symbol_of c k < terminals c + nonterminals c)

limits_of : (c : List ℕ) → sizes_ok c ≡ true → Limits c
unfolding sizes_ok
limits_of c e =
    let a = and_both (between 1 64 (terminals c)) _ e in
    let b = and_both (between 1 60 (nonterminals c)) _ a.1 in
    let d = and_both (between 1 128 (productions c)) _ b.1 in
    let t = between_at 1 64 (terminals c) a.0 in
    let n = between_at 1 60 (nonterminals c) b.0 in
    let p = between_at 1 128 (productions c) d.0 in
    record {
      terminals_from = t.0;
      terminals_to = t.1;
      nonterminals_from = n.0;
      nonterminals_to = n.1;
      productions_from = p.0;
      productions_to = p.1;
      symbols_to_is = leb-true (symbols c) 512 d.1;
    }

lefts_at : (c : List ℕ) → lefts_ok c ≡ true → (r : ℕ) → r < productions c → (terminals c ≤ left_of c r) × (left_of c r < terminals c + nonterminals c)
unfolding lefts_ok is_nonterminal
lefts_at c e r h =
    let b = and_both (leb (terminals c) (left_of c r)) (ltb (left_of c r) (terminals c + nonterminals c)) (all_at (λ (r : ℕ). is_nonterminal c (left_of c r)) (productions c) e r h) in
    (leb-true _ _ b.0, ltb-true _ _ b.1)

rights_at : (c : List ℕ) → rights_ok c ≡ true → (k : ℕ) → k < symbols c → (0 < symbol_of c k) × (symbol_of c k < terminals c + nonterminals c)
unfolding rights_ok is_symbol
rights_at c e k h =
    let b = and_both (ltb 0 (symbol_of c k)) (ltb (symbol_of c k) (terminals c + nonterminals c)) (all_at (λ (r : ℕ). is_symbol c (symbol_of c r)) (symbols c) e k h) in
    (ltb-true _ _ b.0, ltb-true _ _ b.1)

pub well_formed : (c : List ℕ) → form_fault c ≡ 0 → WellFormed c
unfolding form_fault
well_formed c e =
    let r9 = unless (rights_ok c) 9 0 in
    let r8 = unless (eqb (start_of c (productions c)) (symbols c)) 8 r9 in
    let r7 = unless (lefts_ok c) 7 r8 in
    let r6 = unless (eqb (length c) (symbols_at c + symbols c)) 6 r7 in
    let r5 = unless (sizes_ok c) 5 r6 in
    let a = passes (leb 4 (length c)) 3 r5 e in
    let b = passes (sizes_ok c) 4 r6 a.1 in
    let d = passes (eqb (length c) (symbols_at c + symbols c)) 5 r7 b.1 in
    let f = passes (lefts_ok c) 6 r8 d.1 in
    let s = passes (eqb (start_of c (productions c)) (symbols c)) 7 r9 f.1 in
    let h = passes (rights_ok c) 8 0 s.1 in
    record {
      limits = limits_of c b.0;
      long = eqb-true _ _ d.0;
      sum = eqb-true _ _ s.0;
      lefts = lefts_at c f.0;
      rights = rights_at c h.0;
    }

-- the right sides lie one behind the other
pub start_mono : (c : List ℕ) (n r : ℕ) → r < n → start_of c r + length_of c r ≤ start_of c n
unfolding start_of
start_mono c zero r h = absurd (not-suc-le-zero h)
start_mono c (suc n) r h =
    ⊎_elim
    (λ (e : r ≡ n). rw e (omega arith))
    (λ (l : r < n). let i = start_mono c n r l in omega arith)
    (eq-or-lt_of_le (le_of_suc-le-suc h))

pub right_is : (c : List ℕ) (r : ℕ) → r < productions c → right_of c r ≡ each (length_of c r) (λ d. symbol_of c (start_of c r + d) ∷ [])
unfolding right_of
right_is c r h = rw (lt-ltb r (productions c) h)

pub right_added : (c : List ℕ) → right_of c (productions c) ≡ terminals c ∷ []
unfolding right_of
right_added c = rw (le-ltb (productions c) (productions c) (omega arith))

unless_most : (b : Bool) (n m k : ℕ) → n ≤ k → m ≤ k → unless b n m ≤ k
unless_most true n m k h i = i
unless_most false n m k h i = h

-- the refusals of the card's form are 4 to 9
pub fault_most : (c : List ℕ) → form_fault c ≤ 9
unfolding form_fault
fault_most c =
    unless_most (leb 4 (length c)) 4 _ 9 (omega arith)
    (unless_most (sizes_ok c) 5 _ 9 (omega arith)
    (unless_most (eqb (length c) (symbols_at c + symbols c)) 6 _ 9 (omega arith)
    (unless_most (lefts_ok c) 7 _ 9 (omega arith)
    (unless_most (eqb (start_of c (productions c)) (symbols c)) 8 _ 9 (omega arith)
    (unless_most (rights_ok c) 9 0 9 (omega arith) (omega arith))))))

-- the table's second array holds the lengths of the right sides
pub right_length : (c : List ℕ) (r : ℕ) → r < productions c → length (right_of c r) ≡ length_of c r
right_length c r h = ap length (right_is c r h) ∙ ones_length (length_of c r) (λ d. symbol_of c (start_of c r + d))

symbols_each : (n m : ℕ) (f : ℕ → ℕ) → ((i : ℕ) → i < n → (0 < f i) × (f i < m)) → Symbols m (each n (λ i. f i ∷ []))
symbols_each zero m f h = Symbols.none
symbols_each (suc n) m f h = snoc (symbols_each n m f (λ i k. h i (omega arith))) (h n (omega arith))
  where
    snoc : {w : List ℕ} → Symbols m w → (0 < f n) × (f n < m) → Symbols m (w ++ f n ∷ [])
    snoc Symbols.none t = Symbols.more t.0 t.1 Symbols.none
    snoc (Symbols.more a b s) t = Symbols.more a b (snoc s t)

module _ (c : List ℕ) (w : WellFormed c) where
  pub right_at : (r d : ℕ) → r < productions c → d < length_of c r → start_of c r + d < symbols c
  right_at r d h k = omega (arith, start_mono c (productions c) r h, w.sum)

  pub formed : Formed (grammar_of c)
  formed =
      record {
        added = right_added c;
        left_nonterminal = λ r h. (w.lefts r h).0;
        left_below = λ r h. (w.lefts r h).1;
        right_symbols = λ r h. rw (right_is c r h) (symbols_each (length_of c r) (terminals c + nonterminals c) (λ d. symbol_of c (start_of c r + d)) (λ d k. w.rights (start_of c r + d) (right_at r d h k)));
        start_nonterminal = w.limits.nonterminals_from;
        end_marker = w.limits.terminals_from;
      }

  pub right_short : (r : ℕ) → r < productions c → length (right_of c r) ≤ 512
  right_short r h = omega (arith, right_length c r h, start_mono c (productions c) r h, w.sum, w.limits.symbols_to_is)
