-- The symbols of a right side.
use mathlib.Core.Path.{◌≡◌, ap, ◌∙◌}
use mathlib.Core.List.{List}
use Prim.Native.Nat.{ℕ, ◌+◌, ◌≤◌, ◌<◌}
use native.Mathlib.Omega.{arith}
use native.Mathlib.Numerals.{add-one}
use Rattle.grammar.specs.Card.{terminals, nonterminals, productions, length_of, start_of, symbol_of, form_fault}
use Rattle.grammar.proofs.CardLaws.{well_formed, start_mono}
use Rattle.transitions.specs.Occurrences.{symbol_at}

pub symbol_is : (c : List ℕ) (r b i v : ℕ) → b ≡ start_of c r → v ≡ symbol_of c (b + i) → v ≡ symbol_at c r i
unfolding symbol_at
symbol_is c r b i v e h = h ∙ ap (λ (z : ℕ). symbol_of c (z + i)) e

pub right_fits : (c : List ℕ) (r : ℕ) → form_fault c ≡ 0 → r < productions c → start_of c r + length_of c r ≤ 512
right_fits c r f h =
    let w = well_formed c f in
    omega (arith, start_mono c (productions c) r h, w.sum, w.limits.symbols_to_is)

pub symbol_high : (c : List ℕ) (r i : ℕ) → form_fault c ≡ 0 → r < productions c → i < length_of c r → symbol_at c r i < terminals c + nonterminals c
unfolding symbol_at
symbol_high c r i f h l =
    let w = well_formed c f in
    (w.rights (start_of c r + i) (omega (arith, start_mono c (productions c) r h, w.sum))).1

-- where the symbols of the next production begin
pub start_more : (c : List ℕ) (r s n : ℕ) → s ≡ start_of c r → n ≡ length_of c r → s + n ≡ start_of c (r + 1)
unfolding start_of
start_more c r s n es en = rw (add-one, es, en)
