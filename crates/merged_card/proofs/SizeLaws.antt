-- The sizes of the merged card: the comparisons of the code are `sizes_ok`, and the four numbers are written.
use mathlib.Core.Path.{◌≡◌, refl, ◌∙◌}
use mathlib.Core.Bool.{◌&&◌}
use mathlib.Core.List.{List, [], ◌∷◌}
use Prim.Native.Nat.{ℕ, ◌+◌, ◌≤◌}
use native.Mathlib.Omega.{arith}
use lib.ListN.{length, set}
use lib.Dec.{leb}
use lib.Seq.{sets-eq}
use borrow.Author.Tests.{le-leb}
use Rattle.sets.specs.Tests.{between}
use Rattle.sets.proofs.TestLaws.{between_true}
use Rattle.grammar.specs.Card.{terminals, nonterminals, productions, sizes_ok}
use Rattle.merged_card.specs.Merged.{merged_sizes, merged_card}
use Rattle.merged_card.proofs.MergedLaws.{merged_terminals, merged_nonterminals, merged_productions, merged_symbols_is, merged_length}
use Rattle.merged_card.specs.Writing.{written, SizesOf, Alike, Merging}
use Rattle.merged_card.specs.declared.Sizes.{Sizes}
use Rattle.merged_card.proofs.PartLaws.{first_limits}

-- a number from 1 on is between 1 and a limit where it is not above it
from_one : (h x : ℕ) → 1 ≤ x → between 1 h x ≡ leb x h
unfolding between
from_one h x l = rw (le-leb 1 x l)

-- an area for the merged card has room for its sizes
pub sizes_room : (a b : List ℕ) (n : ℕ) → Merging a b n → 4 ≤ n
sizes_room a b n g = omega (arith, g.fits, merged_length a b)

module _ (a b : List ℕ) {s : Sizes} (z : SizesOf a b s) where
  -- "Sizes over the limits are 5.": T is within them, and none of the others is 0
  pub sizes_told : Alike a b → (leb s.n 60 && (leb s.p 128 && leb s.l 512)) ≡ sizes_ok (merged_card a b)
  unfolding sizes_ok
  sizes_told j =
      let l = first_limits a b j in
      rw (
        z.n,
        z.p,
        z.l,
        merged_terminals a b,
        merged_nonterminals a b,
        merged_productions a b,
        merged_symbols_is a b,
        between_true 1 64 (terminals a) l.terminals_from l.terminals_to,
        from_one 60 (1 + nonterminals a + nonterminals b) (omega arith),
        from_one 128 (2 + productions a + productions b) (omega arith),
      ) refl

  module _ {t : ℕ} (e : t ≡ terminals a) (old : List ℕ) (g : Merging a b (length old)) where
    pub sizes_written : set (set (set (set old 0 t) 1 s.n) 2 s.p) 3 s.l ≡ written 0 (merged_sizes a b) old
    unfolding written
    sizes_written = sets-eq (t ∷ s.n ∷ s.p ∷ s.l ∷ []) old 0 (sizes_room a b (length old) g) ∙ rw (e, z.n, z.p, z.l) refl
