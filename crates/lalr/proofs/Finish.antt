-- How a program shows that its answer and areas are the defined ones: by what it found, in the words of Meaning.antt, and place by place.
use mathlib.Core.Path.{◌≡◌, refl, sym, ap, ◌∙◌}
use mathlib.Core.Bool.{true, false}
use mathlib.Core.List.{List, [], ◌++◌}
use Prim.Native.Nat.{ℕ, ◌+◌, ◌-◌, ◌≤◌, ◌<◌}
use native.Mathlib.Omega.{arith}
use native.Mathlib.Decide.{dec_lt}
use lib.ListN.{length, get_or, drop, replicate, length-replicate, get_or-append, get_or-replicate}
use lib.Seq.{ext_get_or, get_or-append-add, get_or-drop}
use borrow.Author.Tests.{lt-ltb, le-ltb}
use Rattle.grammar.specs.Card.{form_fault, grammar_of}
use Rattle.lr.specs.Cells.{Table}
use Rattle.sets.specs.Lists.{covered}
use Rattle.areas.specs.Areas.{table_size, words_size, halves_size}
use Rattle.lalr.specs.Answer.{Answer, made, refused}
use Rattle.lalr.specs.ComputedAnswer.{card_answer, table_of}
use Rattle.lalr.specs.ComputedGenerator.{answer_of, writes, table_left, generated}
use Rattle.lalr.specs.Meaning.{Judged}
pub use Rattle.lalr.specs.Demand2.{Room}
use Rattle.sets.proofs.CoveredLaws.{covered_length}
use Rattle.lalr.proofs.Main.{card_answer_is, only_table}

-- ---- the areas

in_front_is : (n : ℕ) (l area : List ℕ) (i : ℕ) → i < length l → get_or (covered n l area) i 0 ≡ get_or l i 0
unfolding covered
in_front_is n l area i h = get_or-append l (replicate (n - length l) 0 ++ drop n area) 0 i h

behind : (n : ℕ) (l area : List ℕ) (i : ℕ) → length l ≤ i → get_or (covered n l area) i 0 ≡ get_or (replicate (n - length l) 0 ++ drop n area) (i - length l) 0
unfolding covered
behind n l area i h =
    let e : length l + (i - length l) ≡ i = omega arith in
    ap (λ (j : ℕ). get_or (l ++ (replicate (n - length l) 0 ++ drop n area)) j 0) (sym e) ∙ get_or-append-add l (replicate (n - length l) 0 ++ drop n area) (i - length l) 0

in_zeros : (n : ℕ) (l area : List ℕ) (i : ℕ) → length l ≤ i → i < n → get_or (covered n l area) i 0 ≡ 0
in_zeros n l area i h k =
    behind n l area i h
    ∙ get_or-append (replicate (n - length l) 0) (drop n area) 0 (i - length l) (rw (length-replicate {A = ℕ} (n - length l) 0) (omega arith))
    ∙ get_or-replicate (n - length l) (i - length l) 0 0 (omega arith)

in_beyond : (n : ℕ) (l area : List ℕ) (i : ℕ) → length l ≤ n → n ≤ i → get_or (covered n l area) i 0 ≡ get_or area i 0
in_beyond n l area i h k =
    let e : length {A = ℕ} (replicate (n - length l) 0) + (i - n) ≡ i - length l = rw (length-replicate {A = ℕ} (n - length l) 0) (omega arith) in
    let f : n + (i - n) ≡ i = omega arith in
    behind n l area i (omega arith)
    ∙ ap (λ (j : ℕ). get_or (replicate (n - length l) 0 ++ drop n area) j 0) (sym e)
    ∙ get_or-append-add (replicate (n - length l) 0) (drop n area) (i - n) 0
    ∙ get_or-drop n area (i - n) 0
    ∙ ap (λ (j : ℕ). get_or area j 0) f

-- an area that holds l, zeros up to n, and what it held beyond
pub record Covers (n : ℕ) (l area area' : List ℕ) : Type 0 where
  pub long : length area' ≡ length area
  pub front : (i : ℕ) → i < length l → get_or area' i 0 ≡ get_or l i 0
  pub zeros : (i : ℕ) → length l ≤ i → i < n → get_or area' i 0 ≡ 0
  pub beyond : (i : ℕ) → n ≤ i → get_or area' i 0 ≡ get_or area i 0

-- is the defined one
pub covers : (n : ℕ) (l area area' : List ℕ) → length l ≤ n → n ≤ length area → Covers n l area area' → area' ≡ covered n l area
covers n l area area' h k c = ext_get_or 0 area' (covered n l area) (c.long ∙ sym (covered_length n l area h k)) (λ i b. c_at i (dec_lt i (length l)) (dec_lt i n))
  where
    c_at : (i : ℕ) → Dec (i < length l) → Dec (i < n) → get_or area' i 0 ≡ get_or (covered n l area) i 0
    c_at i (yes a) d = c.front i a ∙ sym (in_front_is n l area i a)
    c_at i (no a) (yes b) = c.zeros i (omega arith) b ∙ sym (in_zeros n l area i (omega arith) b)
    c_at i (no a) (no b) = c.beyond i (omega arith) ∙ sym (in_beyond n l area i h (omega arith))

-- ---- the answer

-- with long enough areas the card decides
pub by_card : (t z w c : List ℕ) → Room t z w → (a : Answer) → card_answer c ≡ a → (generated t z w c).answer ≡ a
unfolding generated answer_of
by_card t z w c o a e = rw (le-ltb (length t) table_size o.table, answer_of, le-ltb (length z) words_size o.words, le-ltb (length w) halves_size o.halves) e

-- refusals 1, 2, 3
pub short_table : (t z w c : List ℕ) → length t < table_size → (generated t z w c).answer ≡ refused 1
unfolding generated answer_of
short_table t z w c h = rw (lt-ltb (length t) table_size h, answer_of) refl

pub short_words : (t z w c : List ℕ) → table_size ≤ length t → length z < words_size → (generated t z w c).answer ≡ refused 2
unfolding generated answer_of
short_words t z w c h k = rw (le-ltb (length t) table_size h, answer_of, lt-ltb (length z) words_size k) refl

pub short_halves : (t z w c : List ℕ) → table_size ≤ length t → words_size ≤ length z → length w < halves_size → (generated t z w c).answer ≡ refused 3
unfolding generated answer_of
short_halves t z w c h k l = rw (le-ltb (length t) table_size h, answer_of, le-ltb (length z) words_size k, lt-ltb (length w) halves_size l) refl

-- an answer with its areas: 1 to 10 leave them, the others cover them
pub left_alone : (t z w c : List ℕ) (a : Answer) → (generated t z w c).answer ≡ a → writes a ≡ false → generated t z w c ≡ record { answer = a; table = t; words = z; halves = w }
unfolding generated
left_alone t z w c a e n = rw (e, n) refl

pub all_covered : (t z w c : List ℕ) (a : Answer) → (generated t z w c).answer ≡ a → writes a ≡ true
    → generated t z w c ≡ record { answer = a; table = covered table_size (table_left a c) t; words = covered words_size [] z; halves = covered halves_size [] w }
unfolding generated
all_covered t z w c a e n = rw (e, n) refl

-- a card past 4 to 9, judged as the definition says
pub judged : (t z w c : List ℕ) → Room t z w → form_fault c ≡ 0 → (a : Answer) → Judged (grammar_of c) a → (generated t z w c).answer ≡ a
judged t z w c o h a j = by_card t z w c o a ((card_answer_is c h a).1 j)

-- the table found is the defined one
pub table_found : (c l : List ℕ) → card_answer c ≡ made → {count : ℕ} {next : ℕ → ℕ → ℕ} → Table (grammar_of c) count next l → l ≡ table_of c
table_found c l m t = sym (only_table c m l t)
