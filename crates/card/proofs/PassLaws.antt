-- What the pass holds, symbol by symbol and production by production; that 8 and 9 are read off its end.
use mathlib.Core.Path.{◌≡◌, refl, sym, ap, ap₂, ◌∙◌}
use mathlib.Core.Bool.{Bool, true, false, not, false≢true}
use mathlib.Core.List.{List}
use mathlib.Core.Logic.{⊎_elim}
use Prim.Native.Nat.{ℕ, zero, suc, ◌+◌, ◌*◌, ◌≤◌, ◌<◌, min, zero-le}
use native.Mathlib.Nat.{le_of_eq}
use native.Mathlib.Numerals.{add-one}
use native.Mathlib.Omega.{arith}
use lib.ListN.{get_or}
use borrow.Author.Tests.{eqb-true, eq-eqb, ne_eqb, not-true}
use Rattle.sets.specs.Bit.{Tells}
use Rattle.sets.proofs.HasLaws.{lt_or_ge}
use Rattle.sets.proofs.TestLaws.{all_fails, all_true}
use Rattle.grammar.specs.Card.{productions, symbols, length_of, symbols_at, symbol_of, start_of, is_symbol, lefts_ok, rights_ok, form_fault}
use Rattle.card.specs.Pass.{BadSymbol, After, SymbolsThere, Sized}
use Rattle.card.specs.declared.PassState.{PassState}

pub tells_false : {P : Type 0} → (P → ⊥) → Tells false P
tells_false h = record { yes = λ e. absurd (false≢true e); so = λ x. absurd (h x) }

-- two tests of one thing say the same
tells_same : {P : Type 0} (a b : Bool) → Tells a P → Tells b P → a ≡ b
tells_same true b t u = sym (u.so (t.yes refl))
tells_same false true t u = t.so (u.yes refl)
tells_same false false t u = refl

module _ (c : List ℕ) where
  -- what the pass holds after r productions is one value only
  pub only_pass : (r : ℕ) (p q : PassState) → After c r p → After c r q → p ≡ q
  only_pass r p q h k =
      let e : p.sum ≡ q.sum = h.sum ∙ sym k.sum in
      let f : p.fault ≡ q.fault = tells_same p.fault q.fault h.fault k.fault in
      ap₂ held e f
    where
      held : ℕ → Bool → PassState
      held s b = record { sum = s; fault = b }

  -- a test of the numbers behind the place where the symbols begin is one of the symbols
  pub bad_told : (i a b : ℕ) (r : Bool) → i ≡ symbols_at c → Tells r ((k : ℕ) × (a ≤ k) × (k < b) × (not (is_symbol c (get_or c (i + k) 0)) ≡ true)) → Tells r (BadSymbol c a b)
  unfolding symbol_of
  bad_told i a b r e t =
      record {
        yes = λ y. let w = t.yes y in record { place = w.0; from = w.1; to = w.2; bad = rw e at (not-true _ w.3) };
        so = λ x. t.so (x.place, x.from, x.to, rw e (ap not x.bad));
      }

  -- ---- one production more

  -- a bad symbol of a part is one of the whole
  pub bad_within : {a b m n : ℕ} → b ≤ a → m ≤ n → BadSymbol c a m → BadSymbol c b n
  bad_within h k x = record { place = x.place; from = omega (arith, x.from); to = omega (arith, x.to); bad = x.bad }

  next_sum : (r d : ℕ) (p : PassState) → After c r p → d ≡ length_of c r → p.sum + d ≡ start_of c (r + 1)
  unfolding start_of
  next_sum r d p h e = rw (add-one, h.sum, e)

  -- a fault stays
  pub next_faulty : (r d : ℕ) (p : PassState) → After c r p → d ≡ length_of c r → p.fault ≡ true → After c (r + 1) (record { sum = p.sum + d; fault = p.fault })
  next_faulty r d p h e f =
      let more = next_sum r d p h e in
      record { sum = more; fault = record { yes = λ _. bad_within zero-le (omega (arith, h.sum)) (h.fault.yes f); so = λ _. f } }

  -- without one so far, there is one just where it is among the symbols of the production
  pub next_sound : (r d : ℕ) (p : PassState) (b : Bool) → After c r p → d ≡ length_of c r → p.fault ≡ false → Tells b (BadSymbol c p.sum (min (p.sum + d) (symbols c))) → After c (r + 1) (record { sum = p.sum + d; fault = b })
  next_sound r d p b h e f t = record { sum = more; fault = rw more at all }
    where
      more : p.sum + d ≡ start_of c (r + 1)
      more = next_sum r d p h e

      before : (x : BadSymbol c 0 (min (p.sum + d) (symbols c))) → x.place < p.sum → b ≡ true
      before x w = absurd (false≢true (sym f ∙ h.fault.so (record { place = x.place; from = zero-le; to = omega (arith, x.to, h.sum); bad = x.bad })))

      behind : (x : BadSymbol c 0 (min (p.sum + d) (symbols c))) → p.sum ≤ x.place → b ≡ true
      behind x w = t.so (record { place = x.place; from = w; to = x.to; bad = x.bad })

      all : Tells b (BadSymbol c 0 (min (p.sum + d) (symbols c)))
      all = record { yes = λ g. bad_within zero-le (omega arith) (t.yes g); so = λ x. ⊎_elim (before x) (behind x) (lt_or_ge x.place p.sum) }

  -- lengths of 16 bits add up to at most 65,535 for each production
  pub start_most : (r : ℕ) → ((i : ℕ) → get_or c i 0 ≤ 65535) → start_of c r ≤ r * 65535
  unfolding start_of length_of
  start_most zero h = zero-le
  start_most (suc r) h = omega (arith, start_most r h, h (4 + productions c + r))

  -- ---- the end, where 8 and 9 are read off

  module _ (p : PassState) (h : After c (productions c) p) where
    -- where the lengths add up to L, a fault is one among the L symbols
    of_all : p.sum ≡ symbols c → Tells p.fault (BadSymbol c 0 (symbols c))
    of_all e = let m : min (start_of c (productions c)) (symbols c) ≡ symbols c = omega (arith, h.sum) in rw m at h.fault

    symbol_wrong : p.sum ≡ symbols c → p.fault ≡ true → rights_ok c ≡ false
    unfolding rights_ok
    symbol_wrong e f = let x = (of_all e).yes f in sym (all_fails (λ k. is_symbol c (symbol_of c k)) (symbols c) x.place x.to x.bad)

    symbols_right : p.sum ≡ symbols c → p.fault ≡ false → rights_ok c ≡ true
    unfolding rights_ok
    symbols_right e f = all_true (λ k. is_symbol c (symbol_of c k)) (symbols c) (λ k i. not_bad k i (is_symbol c (symbol_of c k)) refl)
      where
        not_bad : (k : ℕ) → k < symbols c → (b : Bool) → is_symbol c (symbol_of c k) ≡ b → b ≡ true
        not_bad k i true g = refl
        not_bad k i false g = absurd (false≢true (sym f ∙ (of_all e).so (record { place = k; from = zero-le; to = i; bad = g })))

  pub symbols_there : Sized c → SymbolsThere c
  symbols_there z = le_of_eq (sym (eqb-true _ _ z.whole))

  pub fault_7 : Sized c → lefts_ok c ≡ false → 7 ≡ form_fault c
  unfolding form_fault
  fault_7 z l = rw (z.long, z.sizes, z.whole, l)

  module _ (z : Sized c) (l : lefts_ok c ≡ true) (p : PassState) (h : After c (productions c) p) where
    pub fault_8 : (p.sum ≡ symbols c → ⊥) → 8 ≡ form_fault c
    unfolding form_fault
    fault_8 n = rw (z.long, z.sizes, z.whole, l, ne_eqb (start_of c (productions c)) (symbols c) (λ e. n (h.sum ∙ e)))

    pub fault_9 : p.sum ≡ symbols c → p.fault ≡ true → 9 ≡ form_fault c
    unfolding form_fault
    fault_9 e f = rw (z.long, z.sizes, z.whole, l, eq-eqb (start_of c (productions c)) (symbols c) (sym h.sum ∙ e), symbol_wrong p h e f)

    pub no_fault : p.sum ≡ symbols c → p.fault ≡ false → 0 ≡ form_fault c
    unfolding form_fault
    no_fault e f = rw (z.long, z.sizes, z.whole, l, eq-eqb (start_of c (productions c)) (symbols c) (sym h.sum ∙ e), symbols_right p h e f)
