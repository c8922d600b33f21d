-- The maker as a function, which nobody has to believe: `generates` and `only_generated` of proofs/Generates.antt prove it the one that meets `Generates`.
use Rattle.std.specs.Prelude.{Bool, true, false, cond, List, [], ℕ, length, ltb}
use Rattle.sets.specs.Lists.{covered}
use Rattle.areas.specs.Areas.{table_size, words_size, halves_size}
use Rattle.lalr.specs.Answer.{Answer, made, refused, useless_at, conflict, Generated}
use Rattle.lalr.specs.ComputedAnswer.{card_answer, table_of}

-- 1 to 3, by the lengths of the areas
unfoldable pub answer_of : ℕ → ℕ → ℕ → List ℕ → Answer
answer_of t u v c =
    elim (ltb t table_size) [
      | true ↦ refused 1
      | false ↦
          elim (ltb u words_size) [
            | true ↦ refused 2
            | false ↦
                elim (ltb v halves_size) [ true ↦ refused 3 | false ↦ card_answer c ]
          ]
    ]

-- "1 to 10 change no lent area"; the others write
abbrev pub writes : Answer → Bool
writes made = true
writes (refused n) = ltb 10 n
writes (useless_at x) = false
writes (conflict q m v w) = true

-- "After a table, the rest of the first [32,260] places .. are zero", "after 11 to 13 all three areas are zero over the lengths given"
abbrev pub table_left : Answer → List ℕ → List ℕ
table_left made c = table_of c
table_left (refused n) c = []
table_left (useless_at x) c = []
table_left (conflict q m v w) c = []

-- the table area, the work area of 64-bit words, the work area of 32-bit words, and the card
unfoldable pub generated : List ℕ → List ℕ → List ℕ → List ℕ → Generated
generated t z w c =
    let a = answer_of (length t) (length z) (length w) c in
    record {
      answer = a;
      table = cond (writes a) (covered table_size (table_left a c) t) t;
      words = cond (writes a) (covered words_size [] z) z;
      halves = cond (writes a) (covered halves_size [] w) w;
    }
