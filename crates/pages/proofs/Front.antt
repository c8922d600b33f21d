-- The pages of a table have nothing of what stands behind the table.
use mathlib.Core.Path.{◌≡◌, ap}
use mathlib.Core.List.{List, ◌++◌}
use Prim.Native.Nat.{ℕ, ◌+◌, ◌*◌, ◌<◌}
use native.Mathlib.Omega.{arith}
use lib.ListN.{length}
use Rattle.sets.proofs.ListLaws.{each_same}
use Rattle.tables.specs.Layout.{states, width, size_of}
use Rattle.tables.proofs.LayoutLaws.{front_states, front_width, front_cell}
use Rattle.pages.specs.Pages.{aligned, row_lines, cells_on, row_line, rows_text, pages_text}

module _ (l pad : List ℕ) (long : length l ≡ size_of l) where
  line_front : (q i : ℕ) → q < states l → row_line (l ++ pad) q i ≡ row_line l q i
  unfolding row_line
  line_front q i h =
      rw (front_width l pad long, each_same (cells_on (width l) i) _ _ (λ k m. ap (aligned 6) (front_cell l pad long q (11 * i + k) h (omega arith))))

  pub pages_front : pages_text (l ++ pad) ≡ pages_text l
  unfolding pages_text rows_text
  pages_front =
      rw (
        front_states l pad long,
        front_width l pad long,
        each_same (states l) _ _ (λ q h. each_same (row_lines (width l)) _ _ (λ i k. line_front q i h)),
      )
