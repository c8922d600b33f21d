-- The maker's definition for every card and three areas, whatever they hold and however long they are: 1 to 3 by the lengths of the areas, 4 to 9 by the
-- form of the card, and else demand 2. `generated` is the one result that meets it: `generates` and `only_generated` of proofs/Generates.antt.
use Rattle.std.specs.Prelude.{ℕ, ◌≤◌, ◌<◌, ◌≡◌, ◌≢◌, List, length}
use Rattle.grammar.specs.Card.{form_fault}
use Rattle.areas.specs.Areas.{table_size, words_size, halves_size}
use Rattle.lalr.specs.Answer.{refused, Generated}
use Rattle.lalr.specs.Demand2.{Room, Unchanged, Demand2}

-- a refusal that is its number alone and changes no area
pub record Refuses (n : ℕ) (t z w : List ℕ) (out : Generated) : Type 0 where
  pub answer : out.answer ≡ refused n
  pub areas : Unchanged t z w out

pub data Generates (t z w c : List ℕ) (out : Generated) : Type 0 where
  -- "1: table area too short. 2, 3: first, second work area too short."
  table_short : length t < table_size → Refuses 1 t z w out → Generates t z w c out
  words_short : table_size ≤ length t → length z < words_size → Refuses 2 t z w out → Generates t z w c out
  halves_short : table_size ≤ length t → words_size ≤ length z → length w < halves_size → Refuses 3 t z w out → Generates t z w c out
  -- the first of 4 to 9 that applies
  malformed : Room t z w → form_fault c ≢ 0 → Refuses (form_fault c) t z w out → Generates t z w c out
  -- 10 to 13, or a table
  well_formed : Room t z w → form_fault c ≡ 0 → Demand2 t z w c out → Generates t z w c out
