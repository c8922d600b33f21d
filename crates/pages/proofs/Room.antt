-- How long the pages are.
use mathlib.Core.Path.{◌≡◌}
use mathlib.Core.List.{List}
use Prim.Native.Nat.{ℕ, ◌+◌, ◌*◌, ◌/◌, ◌≤◌}
use native.Mathlib.Omega.{arith}
use native.Mathlib.Nat.{mul-le-mul}
use lib.ListN.{length, length-append}
use Rattle.tables.specs.Layout.{states, width}
use Rattle.listing.proofs.Room.{Small}
use Rattle.pages.specs.Pages.{row_lines, pages_text, pages_size}
use Rattle.pages.specs.Sheets.{Lines, nil, cons}
use Rattle.pages.proofs.Form.{in_pages}

lines_length : {n : ℕ} {x : List ℕ} → Lines n x → length x ≡ 73 * n
lines_length nil = omega arith
lines_length (cons {n} l {rest} e f a) = let i : length rest ≡ 73 * n = lines_length a in rw length-append (omega arith)

pub pages_length : (t : List ℕ) → Small t → states t ≤ 10000 → length (pages_text t) ≡ 73 * (60 * ((states t * row_lines (width t) + 59) / 60))
pages_length t f h = lines_length (in_pages t f h)

-- within the limits of a table they have room
pub pages_room : (t : List ℕ) → Small t → states t ≤ 256 → width t ≤ 124 → length (pages_text t) ≤ pages_size
pages_room t f q w =
    let r : row_lines (width t) ≤ 12 = omega arith in
    let n : states t * row_lines (width t) ≤ 256 * 12 = mul-le-mul q r in
    omega (arith, pages_length t f (omega arith))
