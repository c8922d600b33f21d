-- The text of an answer is a table's or a refusal's by its first number.
use mathlib.Core.Path.{◌≡◌}
use mathlib.Core.List.{List}
use mathlib.Core.Logic.{◌≢◌}
use Prim.Native.Nat.{ℕ}
use borrow.Author.Tests.{eq-eqb, ne_eqb}
use lib.ListN.{get_or}
use Rattle.decimal.specs.Page.{Page, page}
use Rattle.listing.specs.Listing.{refusal_text}
use Rattle.response.specs.declared.Form.{Form}
use Rattle.response.specs.Response.{table_in, response_text}

module _ (form : Form) (out t : List ℕ) (p : Page) where
  pub prints_table : (ns : List ℕ) → get_or ns 0 0 ≡ 0 → p ≡ page out (table_in form t) → p ≡ page out (response_text form ns t)
  unfolding response_text
  prints_table ns h e = rw (eq-eqb (get_or ns 0 0) 0 h) e

  pub prints_refusal : (ns : List ℕ) → get_or ns 0 0 ≢ 0 → p ≡ page out (refusal_text ns) → p ≡ page out (response_text form ns t)
  unfolding response_text
  prints_refusal ns h e = rw (ne_eqb (get_or ns 0 0) 0 h) e
