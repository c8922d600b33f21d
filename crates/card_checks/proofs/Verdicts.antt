-- Each card has at most one verdict, and what the verdicts say.
use mathlib.Core.Path.{◌≡◌, refl, sym, ap, ◌∙◌}
use mathlib.Core.Bool.{Bool, true, false, cond}
use mathlib.Core.List.{List, [], ◌∷◌}
use Prim.Native.Nat.{ℕ, ◌+◌, ◌*◌, ◌<◌}
use native.Mathlib.Omega.{arith}
use native.Mathlib.Decide.{dec_lt}
use lib.ListN.{length, get_or}
use lib.Dec.{leb, eqb}
use Rattle.sets.specs.Tests.{unless}
use Rattle.grammar.specs.Card.{terminals, nonterminals, productions, symbols, start_of, sizes_ok, lefts_ok, rights_ok, form_fault, grammar_of}
use Rattle.grammar.specs.Useful.{Useful, Nonterminal, LowestUseless}
use Rattle.std.specs.Result.{IsErrAnd}
use Rattle.card.specs.Fault.{fault_number}
use Rattle.card.specs.declared.Fault.{Fault}
use Rattle.card.specs.declared.Fault.TheVariants.{Short, Sizes, Length, Left, Sum, Symbol}
use Rattle.card_checks.specs.declared.Refusal.{Refusal}
use Rattle.card_checks.specs.declared.Refusal.TheVariants.{CardShort, SizesWrong, LengthWrong, LeftWrong, SumWrong, SymbolWrong, Useless}
use Rattle.std.proofs.Common.{Result, Ok, Err}
use Rattle.card_checks.specs.Checked.{refusal_numbers, verdict_numbers, Checked, malformed, useless, passed}

-- ---- the numbers of refusals

-- the refusal of a fault
abbrev pub refusal_of : Fault → Refusal
refusal_of Short = CardShort
refusal_of Sizes = SizesWrong
refusal_of Length = LengthWrong
refusal_of Left = LeftWrong
refusal_of Sum = SumWrong
refusal_of Symbol = SymbolWrong

pub same_number : (f : Fault) → refusal_numbers (refusal_of f) ≡ fault_number (Err f) ∷ []
same_number Short = refl
same_number Sizes = refl
same_number Length = refl
same_number Left = refl
same_number Sum = refl
same_number Symbol = refl

pub fault_some : (f : Fault) → 0 < fault_number (Err f)
fault_some Short = omega arith
fault_some Sizes = omega arith
fault_some Length = omega arith
fault_some Left = omega arith
fault_some Sum = omega arith
fault_some Symbol = omega arith

-- the first fault of the form is none, or a fault's number
pub data Numbered : ℕ → Type 0 where
  none : Numbered 0
  some : (f : Fault) → Numbered (fault_number (Err f))

unless_fault : (b : Bool) (f : Fault) {m : ℕ} → Numbered m → Numbered (unless b (fault_number (Err f)) m)
unless_fault true f g = g
unless_fault false f g = some f

pub fault_is : (c : List ℕ) → Numbered (form_fault c)
unfolding form_fault
fault_is c =
    unless_fault (leb 4 (length c)) Short
    (unless_fault (sizes_ok c) Sizes
    (unless_fault (eqb (length c) (4 + 2 * productions c + symbols c)) Length
    (unless_fault (lefts_ok c) Left
    (unless_fault (eqb (start_of c (productions c)) (symbols c)) Sum
    (unless_fault (rights_ok c) Symbol none)))))

-- ---- from what the tests found to the verdict

module _ (c : List ℕ) where
  pub first_fault : (f : Fault) (r : Result (Unit {0}) Refusal) → fault_number (Err f) ≡ form_fault c → IsErrAnd r (λ e. refusal_numbers e ≡ fault_number (Err f) ∷ []) → Checked c (verdict_numbers r)
  first_fault f (Ok u) e k = absurd k
  first_fault f (Err d) e k = rw (k, e) (malformed (λ z. omega (arith, fault_some f)))

  pub none_useless : form_fault c ≡ 0 → LowestUseless (grammar_of c) (terminals c + nonterminals c) → Checked c (0 ∷ [])
  none_useless f l = passed f (λ y n. l.before y n.from n.below)

-- ---- one verdict

module _ (c : List ℕ) where
  -- none lies below the lowest
  not_below : {x y : ℕ} → Nonterminal (grammar_of c) x → LowestUseless (grammar_of c) x → LowestUseless (grammar_of c) y → x < y → ⊥
  not_below {x} n l k h = l.here n.below (k.before x n.from h)

  same_lowest : {x y : ℕ} → Nonterminal (grammar_of c) x → Nonterminal (grammar_of c) y → LowestUseless (grammar_of c) x → LowestUseless (grammar_of c) y → x ≡ y
  same_lowest {x} {y} n m l k = go (dec_lt x y) (dec_lt y x)
    where
      go : Dec (x < y) → Dec (y < x) → x ≡ y
      go (yes h) d = absurd (not_below n l k h)
      go (no h) (yes i) = absurd (not_below m k l i)
      go (no h) (no i) = omega arith

  pub same_numbers : {ns ms : List ℕ} → Checked c ns → Checked c ms → ns ≡ ms
  same_numbers (malformed h) (malformed i) = refl
  same_numbers (malformed h) (useless f n l) = absurd (h f)
  same_numbers (malformed h) (passed f u) = absurd (h f)
  same_numbers (useless f n l) (malformed h) = absurd (h f)
  same_numbers (useless f n l) (useless g m k) = ap (λ (x : ℕ). 10 ∷ x ∷ []) (same_lowest n m l k)
  same_numbers (useless {x} f n l) (passed g u) = absurd (l.here n.below (u x n))
  same_numbers (passed f u) (malformed h) = absurd (h f)
  same_numbers (passed f u) (useless {x} g n l) = absurd (l.here n.below (u x n))
  same_numbers (passed f u) (passed g v) = refl

-- the verdict of its numbers
abbrev form_of : ℕ → Refusal
form_of n = cond (eqb n 4) CardShort (cond (eqb n 5) SizesWrong (cond (eqb n 6) LengthWrong (cond (eqb n 7) LeftWrong (cond (eqb n 8) SumWrong SymbolWrong))))

abbrev verdict_of : List ℕ → Result (Unit {0}) Refusal
verdict_of [] = Ok tt
verdict_of (n ∷ []) = cond (eqb n 0) (Ok tt) (Err (form_of n))
verdict_of (n ∷ x ∷ ns) = Err (Useless x)

numbers_tell : (r : Result (Unit {0}) Refusal) → verdict_of (verdict_numbers r) ≡ r
numbers_tell (Ok u) = refl
numbers_tell (Err CardShort) = refl
numbers_tell (Err SizesWrong) = refl
numbers_tell (Err LengthWrong) = refl
numbers_tell (Err LeftWrong) = refl
numbers_tell (Err SumWrong) = refl
numbers_tell (Err SymbolWrong) = refl
numbers_tell (Err (Useless x)) = refl

told_apart : (r s : Result (Unit {0}) Refusal) → verdict_numbers r ≡ verdict_numbers s → r ≡ s
told_apart r s e = sym (numbers_tell r) ∙ ap verdict_of e ∙ numbers_tell s

-- a card has not two verdicts
pub one_verdict : (c : List ℕ) (r s : Result (Unit {0}) Refusal) → Checked c (verdict_numbers r) → Checked c (verdict_numbers s) → r ≡ s
one_verdict c r s h k = told_apart r s (same_numbers c h k)

-- a refusal is not told as a card that passed
pub refusal_some : (e : Refusal) → 0 < get_or (refusal_numbers e) 0 0
refusal_some CardShort = omega arith
refusal_some SizesWrong = omega arith
refusal_some LengthWrong = omega arith
refusal_some LeftWrong = omega arith
refusal_some SumWrong = omega arith
refusal_some SymbolWrong = omega arith
refusal_some (Useless x) = omega arith

-- a card that passed
pub passes : (c : List ℕ) → Checked c (0 ∷ []) → (form_fault c ≡ 0) × ((x : ℕ) → Nonterminal (grammar_of c) x → Useful (grammar_of c) x)
passes c k = go k refl
  where
    go : {ns : List ℕ} → Checked c ns → ns ≡ 0 ∷ [] → (form_fault c ≡ 0) × ((x : ℕ) → Nonterminal (grammar_of c) x → Useful (grammar_of c) x)
    go (malformed h) e = absurd (h (cc))
    go (useless f n l) e = let z : ◌≡◌ {A = ℕ} 10 0 = cc in absurd (omega arith)
    go (passed f u) e = (f, u)
