-- The starred cards and lines of 01, the grammars of "Misreadings to rule out", and lines for card 5 of 02, as rows of one table: what each must give.
use Rattle.std.specs.Prelude.{List, [], ◌∷◌, ◌++◌, map, ℕ, replicate, take}
use Rattle.areas.specs.Areas.{table_size, words_size, halves_size}
use Rattle.tables.specs.Layout.{size_of}
use Rattle.machine.specs.Report as report
use Rattle.machine.specs.ComputedRun.{reading}
use Rattle.lalr.specs.Answer as lalr
use Rattle.lalr.specs.ComputedGenerator.{generated}

-- Card A: 3 → 3 1, 3 → 2
abbrev pub card_a : List ℕ
card_a = 3 ∷ 1 ∷ 2 ∷ 3 ∷ 3 ∷ 3 ∷ 2 ∷ 1 ∷ 3 ∷ 1 ∷ 2 ∷ []

-- Card 1 1 1 0, 1, 0
abbrev pub card_e : List ℕ
card_e = 1 ∷ 1 ∷ 1 ∷ 0 ∷ 1 ∷ 0 ∷ []

-- Card 2 1 2 3, 2 2, 2 1, 2 2 1
abbrev pub card_c : List ℕ
card_c = 2 ∷ 1 ∷ 2 ∷ 3 ∷ 2 ∷ 2 ∷ 2 ∷ 1 ∷ 2 ∷ 2 ∷ 1 ∷ []

-- Card 2 1 2 2, 2 2, 1 1, 2 1
abbrev pub card_d : List ℕ
card_d = 2 ∷ 1 ∷ 2 ∷ 2 ∷ 2 ∷ 2 ∷ 1 ∷ 1 ∷ 2 ∷ 1 ∷ []

-- one follow set per name: S → L e R, S → R, L → t R, L → i, R → L
abbrev pub card_f : List ℕ
card_f = 4 ∷ 3 ∷ 5 ∷ 8 ∷ 4 ∷ 4 ∷ 5 ∷ 5 ∷ 6 ∷ 3 ∷ 1 ∷ 2 ∷ 1 ∷ 1 ∷ 5 ∷ 1 ∷ 6 ∷ 6 ∷ 2 ∷ 6 ∷ 3 ∷ 5 ∷ []

-- one follow set per state entered: S → a g d, a A c, b A d, b g c; A → B; B → g
abbrev pub card_g : List ℕ
card_g = 6 ∷ 3 ∷ 6 ∷ 14 ∷ 6 ∷ 6 ∷ 6 ∷ 6 ∷ 7 ∷ 8 ∷ 3 ∷ 3 ∷ 3 ∷ 3 ∷ 1 ∷ 1 ∷ 1 ∷ 5 ∷ 4 ∷ 1 ∷ 7 ∷ 3 ∷ 2 ∷ 7 ∷ 4 ∷ 2 ∷ 5 ∷ 3 ∷ 8 ∷ 5 ∷ []

-- keeping LR(1) states unmerged: S → a A d, b B d, a B e, b A e; A → c; B → c
abbrev pub card_h : List ℕ
card_h = 6 ∷ 3 ∷ 6 ∷ 14 ∷ 6 ∷ 6 ∷ 6 ∷ 6 ∷ 7 ∷ 8 ∷ 3 ∷ 3 ∷ 3 ∷ 3 ∷ 1 ∷ 1 ∷ 1 ∷ 7 ∷ 4 ∷ 2 ∷ 8 ∷ 4 ∷ 1 ∷ 8 ∷ 5 ∷ 2 ∷ 7 ∷ 5 ∷ 3 ∷ 3 ∷ []

-- card 5, "a fitting mark is missing": S → 1 S 2, S → 1; the row of the state before the wrong terminal of 1 1 has 2 alone, and 1 can follow, too
abbrev pub card_i : List ℕ
card_i = 3 ∷ 1 ∷ 2 ∷ 4 ∷ 3 ∷ 3 ∷ 3 ∷ 1 ∷ 1 ∷ 3 ∷ 2 ∷ 1 ∷ []

-- card 5, "the mark offered is then refused": S → A A, A → 1; the row before the wrong terminal of 1 2 has a reduction under 0, and 1 is no sentence
abbrev pub card_j : List ℕ
card_j = 3 ∷ 2 ∷ 2 ∷ 3 ∷ 4 ∷ 3 ∷ 1 ∷ 2 ∷ 1 ∷ 4 ∷ 4 ∷ []

-- what the maker answers: a table, as it is printed (sizes, left sides, lengths, entering symbols, rows), or the numbers of a refusal
pub data Answer : Type 0 where
  table : (sizes left length entered : List ℕ) → (rows : List (List ℕ)) → Answer
  refused : List ℕ → Answer

-- a line read with the card's table: the input, stack area, list area and second stack area of so many places, each of which holds 9, and the step limit; then
-- the numbers of the answer (number, steps, stack places in use, productions listed; for 31 and 46 the position, the expected set and its size) and the areas
pub record Line : Type 0 where
  pub input : List ℕ
  pub stack : ℕ
  pub list : ℕ
  pub second : ℕ
  pub limit : ℕ
  pub numbers : List ℕ
  pub stack_left : List ℕ
  pub list_left : List ℕ
  pub second_left : List ℕ

pub record Row : Type 0 where
  pub card : List ℕ
  pub answer : Answer
  pub lines : List Line

abbrev pub rows : List Row
rows =
    record {
      card = card_a;
      answer = table (4 ∷ 3 ∷ 1 ∷ 2 ∷ []) (3 ∷ 3 ∷ []) (2 ∷ 1 ∷ []) (0 ∷ 2 ∷ 3 ∷ 1 ∷ []) (
          (0 ∷ 0 ∷ 1 ∷ 2 ∷ []) ∷
          (1025 ∷ 1025 ∷ 0 ∷ 0 ∷ []) ∷
          (4096 ∷ 3 ∷ 0 ∷ 0 ∷ []) ∷
          (1024 ∷ 1024 ∷ 0 ∷ 0 ∷ []) ∷
          []);
      lines =
          record { input = 2 ∷ 1 ∷ []; stack = 4; list = 2; second = 4; limit = 5; numbers = 0 ∷ 5 ∷ 2 ∷ 2 ∷ []; stack_left = 0 ∷ 2 ∷ 0 ∷ 9 ∷ []; list_left = 1 ∷ 0 ∷ []; second_left = 0 ∷ 0 ∷ 0 ∷ 0 ∷ [] } ∷
          record { input = 2 ∷ 1 ∷ []; stack = 4; list = 2; second = 4; limit = 4; numbers = 32 ∷ 4 ∷ 2 ∷ 2 ∷ []; stack_left = 0 ∷ 2 ∷ 0 ∷ 9 ∷ []; list_left = 1 ∷ 0 ∷ []; second_left = 0 ∷ 0 ∷ 0 ∷ 0 ∷ [] } ∷
          record { input = 2 ∷ 1 ∷ []; stack = 2; list = 2; second = 2; limit = 100; numbers = 33 ∷ 2 ∷ 2 ∷ 1 ∷ []; stack_left = 0 ∷ 2 ∷ []; list_left = 1 ∷ 9 ∷ []; second_left = 0 ∷ 0 ∷ [] } ∷
          record { input = 2 ∷ 1 ∷ []; stack = 4; list = 1; second = 4; limit = 100; numbers = 34 ∷ 3 ∷ 3 ∷ 1 ∷ []; stack_left = 0 ∷ 2 ∷ 3 ∷ 9 ∷ []; list_left = 1 ∷ []; second_left = 0 ∷ 0 ∷ 0 ∷ 0 ∷ [] } ∷
          record { input = []; stack = 4; list = 0; second = 4; limit = 100; numbers = 31 ∷ 0 ∷ 1 ∷ 0 ∷ 0 ∷ 4 ∷ 1 ∷ []; stack_left = 0 ∷ 9 ∷ 9 ∷ 9 ∷ []; list_left = []; second_left = 0 ∷ 0 ∷ 0 ∷ 0 ∷ [] } ∷
          record { input = 2 ∷ 2 ∷ []; stack = 4; list = 1; second = 4; limit = 100; numbers = 31 ∷ 1 ∷ 2 ∷ 0 ∷ 1 ∷ 3 ∷ 2 ∷ []; stack_left = 0 ∷ 1 ∷ 9 ∷ 9 ∷ []; list_left = 9 ∷ []; second_left = 0 ∷ 0 ∷ 0 ∷ 0 ∷ [] } ∷
          -- card 5: the steps and places that the fresh readings need
          record { input = 2 ∷ 2 ∷ []; stack = 4; list = 1; second = 4; limit = 3; numbers = 31 ∷ 1 ∷ 2 ∷ 0 ∷ 1 ∷ 3 ∷ 2 ∷ []; stack_left = 0 ∷ 1 ∷ 9 ∷ 9 ∷ []; list_left = 9 ∷ []; second_left = 0 ∷ 0 ∷ 0 ∷ 0 ∷ [] } ∷
          record { input = 2 ∷ 2 ∷ []; stack = 4; list = 1; second = 4; limit = 2; numbers = 46 ∷ 1 ∷ 2 ∷ 0 ∷ 1 ∷ 0 ∷ 0 ∷ []; stack_left = 0 ∷ 1 ∷ 9 ∷ 9 ∷ []; list_left = 9 ∷ []; second_left = 0 ∷ 0 ∷ 0 ∷ 0 ∷ [] } ∷
          record { input = 2 ∷ 2 ∷ []; stack = 2; list = 1; second = 2; limit = 100; numbers = 46 ∷ 1 ∷ 2 ∷ 0 ∷ 1 ∷ 0 ∷ 0 ∷ []; stack_left = 0 ∷ 1 ∷ []; list_left = 9 ∷ []; second_left = 0 ∷ 0 ∷ [] } ∷
          record { input = 2 ∷ 2 ∷ []; stack = 2; list = 1; second = 3; limit = 100; numbers = 31 ∷ 1 ∷ 2 ∷ 0 ∷ 1 ∷ 3 ∷ 2 ∷ []; stack_left = 0 ∷ 1 ∷ []; list_left = 9 ∷ []; second_left = 0 ∷ 0 ∷ 0 ∷ [] } ∷
          record { input = []; stack = 4; list = 0; second = 4; limit = 0; numbers = 46 ∷ 0 ∷ 1 ∷ 0 ∷ 0 ∷ 0 ∷ 0 ∷ []; stack_left = 0 ∷ 9 ∷ 9 ∷ 9 ∷ []; list_left = []; second_left = 0 ∷ 0 ∷ 0 ∷ 0 ∷ [] } ∷
          record { input = 2 ∷ 2 ∷ []; stack = 2; list = 1; second = 1; limit = 100; numbers = 45 ∷ []; stack_left = 9 ∷ 9 ∷ []; list_left = 9 ∷ []; second_left = 9 ∷ [] } ∷
          [];
    } ∷
    record {
      card = card_e;
      answer = table (2 ∷ 1 ∷ 1 ∷ 1 ∷ []) (1 ∷ []) (0 ∷ []) (0 ∷ 1 ∷ []) (
          (1024 ∷ 1 ∷ []) ∷
          (4096 ∷ 0 ∷ []) ∷
          []);
      lines =
          record { input = []; stack = 4; list = 1; second = 4; limit = 100; numbers = 0 ∷ 2 ∷ 2 ∷ 1 ∷ []; stack_left = 0 ∷ 1 ∷ 9 ∷ 9 ∷ []; list_left = 0 ∷ []; second_left = 0 ∷ 0 ∷ 0 ∷ 0 ∷ [] } ∷
          [];
    } ∷
    record {
      card = card_i;
      answer = table (5 ∷ 3 ∷ 1 ∷ 2 ∷ []) (3 ∷ 3 ∷ []) (3 ∷ 1 ∷ []) (0 ∷ 1 ∷ 3 ∷ 3 ∷ 2 ∷ []) (
          (0 ∷ 1 ∷ 0 ∷ 2 ∷ []) ∷
          (1025 ∷ 1 ∷ 1025 ∷ 3 ∷ []) ∷
          (4096 ∷ 0 ∷ 0 ∷ 0 ∷ []) ∷
          (0 ∷ 0 ∷ 4 ∷ 0 ∷ []) ∷
          (1024 ∷ 0 ∷ 1024 ∷ 0 ∷ []) ∷
          []);
      lines =
          record { input = 1 ∷ 1 ∷ []; stack = 5; list = 3; second = 5; limit = 100; numbers = 31 ∷ 3 ∷ 3 ∷ 1 ∷ 2 ∷ 6 ∷ 2 ∷ []; stack_left = 0 ∷ 1 ∷ 3 ∷ 9 ∷ 9 ∷ []; list_left = 1 ∷ 9 ∷ 9 ∷ []; second_left = 0 ∷ 0 ∷ 0 ∷ 0 ∷ 0 ∷ [] } ∷
          [];
    } ∷
    record {
      card = card_j;
      answer = table (5 ∷ 3 ∷ 2 ∷ 2 ∷ []) (4 ∷ 3 ∷ []) (1 ∷ 2 ∷ []) (0 ∷ 1 ∷ 3 ∷ 4 ∷ 4 ∷ []) (
          (0 ∷ 1 ∷ 0 ∷ 2 ∷ 3 ∷ []) ∷
          (1024 ∷ 1024 ∷ 0 ∷ 0 ∷ 0 ∷ []) ∷
          (4096 ∷ 0 ∷ 0 ∷ 0 ∷ 0 ∷ []) ∷
          (0 ∷ 1 ∷ 0 ∷ 0 ∷ 4 ∷ []) ∷
          (1025 ∷ 0 ∷ 0 ∷ 0 ∷ 0 ∷ []) ∷
          []);
      lines =
          record { input = 1 ∷ 2 ∷ []; stack = 5; list = 3; second = 5; limit = 100; numbers = 31 ∷ 1 ∷ 2 ∷ 0 ∷ 1 ∷ 2 ∷ 1 ∷ []; stack_left = 0 ∷ 1 ∷ 9 ∷ 9 ∷ 9 ∷ []; list_left = 9 ∷ 9 ∷ 9 ∷ []; second_left = 0 ∷ 0 ∷ 0 ∷ 0 ∷ 0 ∷ [] } ∷
          [];
    } ∷
    record {
      card = card_c;
      answer = refused (13 ∷ 3 ∷ 1 ∷ 1 ∷ 1024 ∷ []);
      lines = [];
    } ∷
    record {
      card = card_d;
      answer = refused (13 ∷ 2 ∷ 0 ∷ 1024 ∷ 4096 ∷ []);
      lines = [];
    } ∷
    record {
      card = card_f;
      answer = table (10 ∷ 4 ∷ 3 ∷ 5 ∷ []) (4 ∷ 4 ∷ 5 ∷ 5 ∷ 6 ∷ []) (3 ∷ 1 ∷ 2 ∷ 1 ∷ 1 ∷ []) (0 ∷ 2 ∷ 3 ∷ 4 ∷ 5 ∷ 6 ∷ 5 ∷ 6 ∷ 1 ∷ 6 ∷ []) (
          (0 ∷ 0 ∷ 1 ∷ 2 ∷ 3 ∷ 4 ∷ 5 ∷ []) ∷
          (0 ∷ 0 ∷ 1 ∷ 2 ∷ 0 ∷ 6 ∷ 7 ∷ []) ∷
          (1027 ∷ 1027 ∷ 0 ∷ 0 ∷ 0 ∷ 0 ∷ 0 ∷ []) ∷
          (4096 ∷ 0 ∷ 0 ∷ 0 ∷ 0 ∷ 0 ∷ 0 ∷ []) ∷
          (1028 ∷ 8 ∷ 0 ∷ 0 ∷ 0 ∷ 0 ∷ 0 ∷ []) ∷
          (1025 ∷ 0 ∷ 0 ∷ 0 ∷ 0 ∷ 0 ∷ 0 ∷ []) ∷
          (1028 ∷ 1028 ∷ 0 ∷ 0 ∷ 0 ∷ 0 ∷ 0 ∷ []) ∷
          (1026 ∷ 1026 ∷ 0 ∷ 0 ∷ 0 ∷ 0 ∷ 0 ∷ []) ∷
          (0 ∷ 0 ∷ 1 ∷ 2 ∷ 0 ∷ 6 ∷ 9 ∷ []) ∷
          (1024 ∷ 0 ∷ 0 ∷ 0 ∷ 0 ∷ 0 ∷ 0 ∷ []) ∷
          []);
      lines = [];
    } ∷
    record {
      card = card_g;
      answer = table (13 ∷ 6 ∷ 3 ∷ 6 ∷ []) (6 ∷ 6 ∷ 6 ∷ 6 ∷ 7 ∷ 8 ∷ []) (3 ∷ 3 ∷ 3 ∷ 3 ∷ 1 ∷ 1 ∷ []) (0 ∷ 1 ∷ 2 ∷ 6 ∷ 5 ∷ 7 ∷ 8 ∷ 5 ∷ 7 ∷ 4 ∷ 3 ∷ 3 ∷ 4 ∷ []) (
          (0 ∷ 1 ∷ 2 ∷ 0 ∷ 0 ∷ 0 ∷ 3 ∷ 0 ∷ 0 ∷ []) ∷
          (0 ∷ 0 ∷ 0 ∷ 0 ∷ 0 ∷ 4 ∷ 0 ∷ 5 ∷ 6 ∷ []) ∷
          (0 ∷ 0 ∷ 0 ∷ 0 ∷ 0 ∷ 7 ∷ 0 ∷ 8 ∷ 6 ∷ []) ∷
          (4096 ∷ 0 ∷ 0 ∷ 0 ∷ 0 ∷ 0 ∷ 0 ∷ 0 ∷ 0 ∷ []) ∷
          (0 ∷ 0 ∷ 0 ∷ 1029 ∷ 9 ∷ 0 ∷ 0 ∷ 0 ∷ 0 ∷ []) ∷
          (0 ∷ 0 ∷ 0 ∷ 10 ∷ 0 ∷ 0 ∷ 0 ∷ 0 ∷ 0 ∷ []) ∷
          (0 ∷ 0 ∷ 0 ∷ 1028 ∷ 1028 ∷ 0 ∷ 0 ∷ 0 ∷ 0 ∷ []) ∷
          (0 ∷ 0 ∷ 0 ∷ 11 ∷ 1029 ∷ 0 ∷ 0 ∷ 0 ∷ 0 ∷ []) ∷
          (0 ∷ 0 ∷ 0 ∷ 0 ∷ 12 ∷ 0 ∷ 0 ∷ 0 ∷ 0 ∷ []) ∷
          (1024 ∷ 0 ∷ 0 ∷ 0 ∷ 0 ∷ 0 ∷ 0 ∷ 0 ∷ 0 ∷ []) ∷
          (1025 ∷ 0 ∷ 0 ∷ 0 ∷ 0 ∷ 0 ∷ 0 ∷ 0 ∷ 0 ∷ []) ∷
          (1027 ∷ 0 ∷ 0 ∷ 0 ∷ 0 ∷ 0 ∷ 0 ∷ 0 ∷ 0 ∷ []) ∷
          (1026 ∷ 0 ∷ 0 ∷ 0 ∷ 0 ∷ 0 ∷ 0 ∷ 0 ∷ 0 ∷ []) ∷
          []);
      lines = [];
    } ∷
    record {
      card = card_h;
      answer = refused (13 ∷ 4 ∷ 4 ∷ 1028 ∷ 1029 ∷ []);
      lines = [];
    } ∷
    []

-- ---- what a row states, and what the definitions give

-- the numbers of the answer, 0 for a table; the table as one list, none for a refusal; the lines
pub record Result : Type 0 where
  pub numbers : List ℕ
  pub table : List ℕ
  pub lines : List Line

abbrev pub joined : List (List ℕ) → List ℕ
joined [] = []
joined (l ∷ ls) = l ++ joined ls

abbrev pub stated : Answer → List Line → Result
stated (table sizes left length entered rows) lines = record { numbers = 0 ∷ []; table = sizes ++ (left ++ (length ++ (entered ++ joined rows))); lines = lines }
stated (refused numbers) lines = record { numbers = numbers; table = []; lines = lines }

-- the table that stands in front of an area
abbrev pub in_front : lalr.Answer → List ℕ → List ℕ
in_front lalr.made t = take (size_of t) t
in_front (lalr.refused n) t = []
in_front (lalr.useless_at n) t = []
in_front (lalr.conflict q m v w) t = []

abbrev pub read_line : List ℕ → Line → Line
read_line t l =
    let r = reading t l.input (replicate l.stack 9) (replicate l.list 9) (replicate l.second 9) l.limit in
    record { input = l.input; stack = l.stack; list = l.list; second = l.second; limit = l.limit; numbers = report.numbers_of r.report; stack_left = r.stack; list_left = r.list; second_left = r.second }

-- with areas of just the lengths that the maker asks for; lines are read with the table area as the maker left it
abbrev pub computed : List ℕ → List Line → Result
computed c lines =
    let out = generated (replicate table_size 9) (replicate words_size 9) (replicate halves_size 9) c in
    record { numbers = lalr.numbers_of out.answer; table = in_front out.answer out.table; lines = map (read_line out.table) lines }
