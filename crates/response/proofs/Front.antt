-- The text of a table has nothing of what stands behind the table.
use mathlib.Core.Path.{◌≡◌, refl, ap}
use mathlib.Core.List.{List, [], ◌∷◌, ◌++◌}
use Prim.Native.Nat.{ℕ}
use lib.ListN.{length}
use Rattle.sets.proofs.ListLaws.{each_same}
use Rattle.tables.specs.Layout.{states, productions, width, size_of}
use Rattle.tables.proofs.LayoutLaws.{front_states, front_terminals, front_nonterminals, front_productions, front_width, front_left, front_length, front_entered, front_cell}
use Rattle.listing.specs.Listing.{row_of, table_text}
use Rattle.pages.proofs.Front.{pages_front}
use Rattle.response.specs.declared.Form.{Form}
use Rattle.response.specs.declared.Form.TheVariants.{Listing, Pages}
use Rattle.response.specs.Response.{table_in}

module _ (l pad : List ℕ) (long : length l ≡ size_of l) where
  abbrev one : ℕ → List ℕ
  one n = n ∷ []

  table_front : table_text (l ++ pad) ≡ table_text l
  unfolding table_text
  table_front =
      rw (
        front_states l pad long,
        front_terminals l pad long,
        front_nonterminals l pad long,
        front_productions l pad long,
        front_width l pad long,
        each_same (productions l) _ _ (λ r h. ap one (front_left l pad long r h)),
        each_same (productions l) _ _ (λ r h. ap one (front_length l pad long r h)),
        each_same (states l) _ _ (λ q h. ap one (front_entered l pad long q h)),
        each_same (states l) _ _ (λ q h. ap (row_of q) (each_same (width l) _ _ (λ x k. ap one (front_cell l pad long q x h k)))),
      ) refl

  pub front : (form : Form) → table_in form (l ++ pad) ≡ table_in form l
  front Listing = table_front
  front Pages = pages_front l pad long
