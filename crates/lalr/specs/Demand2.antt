-- Demand 2: what the maker answers to a card and leaves in the areas, for areas of full length (`Room`) and a card to which none of 4 to 9 applies (`form_fault c ≡ 0`).
-- Nothing here is computed from the card but the grammar. proofs/Demand2.antt: `generated` meets it (`demand_2`), and nothing else does (`demand_2_only`).
use Rattle.std.specs.Prelude.{ℕ, ◌≤◌, ◌≡◌, List, [], length}
use Rattle.grammar.specs.Grammar.{Grammar}
use Rattle.grammar.specs.Card.{grammar_of}
use Rattle.sets.specs.Lists.{covered}
use Rattle.areas.specs.Areas.{table_size, words_size, halves_size}
use Rattle.lr.specs.Cells.{Table}
use Rattle.lalr.specs.Answer.{Answer, made, refused, useless_at, conflict, Generated}
use Rattle.lalr.specs.Meaning.{Judged}

-- none of 1 to 3 applies: the areas are long enough
pub record Room (t z w : List ℕ) : Type 0 where
  pub table : table_size ≤ length t
  pub words : words_size ≤ length z
  pub halves : halves_size ≤ length w

-- l is the grammar's table, and the only list that is
pub record OneTable (g : Grammar) (l : List ℕ) : Type 0 where
  pub count : ℕ
  pub next : ℕ → ℕ → ℕ
  pub table : Table g count next l
  pub only : {count' : ℕ} {next' : ℕ → ℕ → ℕ} {l' : List ℕ} → Table g count' next' l' → l' ≡ l

-- the areas that were t, z and w are zero over the lengths given, but for l in front of the table area; "Places beyond those lengths never change"
pub record Cleared (l t z w : List ℕ) (out : Generated) : Type 0 where
  pub fits : length l ≤ table_size
  pub table : out.table ≡ covered table_size l t
  pub words : out.words ≡ covered words_size [] z
  pub halves : out.halves ≡ covered halves_size [] w

pub record Unchanged (t z w : List ℕ) (out : Generated) : Type 0 where
  pub table : out.table ≡ t
  pub words : out.words ≡ z
  pub halves : out.halves ≡ w

-- "After a table, the rest of the first [32,260] places and both work areas over the lengths just given are zero"; "1 to 10 change no lent area";
-- "After 11 to 13 all three areas are zero over the lengths given"
abbrev pub Leaves : Grammar → List ℕ → List ℕ → List ℕ → Generated → Answer → Type 0
Leaves g t z w out made = (l : List ℕ) × OneTable g l × Cleared l t z w out
Leaves g t z w out (useless_at x) = Unchanged t z w out
Leaves g t z w out (refused n) = Cleared [] t z w out
Leaves g t z w out (conflict q m u v) = Cleared [] t z w out

pub record Demand2 (t z w c : List ℕ) (out : Generated) : Type 0 where
  pub answer : Judged (grammar_of c) out.answer
  pub areas : Leaves (grammar_of c) t z w out out.answer
