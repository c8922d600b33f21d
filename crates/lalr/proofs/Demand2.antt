-- Demand 2: what `generated` gives meets it, and nothing else does.
use mathlib.Core.Path.{◌≡◌, refl, sym, ap, ◌∙◌, subst}
use mathlib.Core.Bool.{true}
use mathlib.Core.List.{List, []}
use Prim.Native.Nat.{ℕ, ◌≤◌}
use native.Mathlib.Omega.{arith}
use lib.ListN.{length}
use Rattle.grammar.specs.Card.{form_fault, grammar_of}
use Rattle.sets.specs.Lists.{covered}
use Rattle.areas.specs.Areas.{table_size, words_size, halves_size}
use Rattle.lalr.specs.Answer.{Answer, made, refused, useless_at, conflict, Generated}
use Rattle.lalr.specs.ComputedAnswer.{card_answer, table_of}
use Rattle.lalr.specs.ComputedGenerator.{writes, table_left, generated}
use Rattle.lalr.specs.Meaning.{Judged, useless, many, wide, clash, fine}
use Rattle.lalr.specs.Demand2.{Room, Cleared, Leaves, Demand2}
use Rattle.lalr.proofs.Main.{card_answer_is, card_table, only_table, table_fits}
use Rattle.lalr.proofs.Finish.{by_card, left_alone, all_covered}
use Rattle.lalr.proofs.Judge.{judged_one}

module _ (t z w c : List ℕ) (o : Room t z w) (h : form_fault c ≡ 0) where
  abbrev out : Generated
  out = generated t z w c

  by_judge : out.answer ≡ card_answer c
  by_judge = by_card t z w c o (card_answer c) refl

  pub answer_judged : Judged (grammar_of c) out.answer
  answer_judged = rw by_judge ((card_answer_is c h (card_answer c)).0 refl)

  -- the areas, by cases of the answer
  cleared : (a : Answer) (l : List ℕ) → out.answer ≡ a → writes a ≡ true → table_left a c ≡ l → length l ≤ table_size → Cleared l t z w out
  cleared a l e k el n =
      let s = all_covered t z w c a e k in
      record { fits = n; table = ap (λ (x : Generated). x.table) s ∙ ap (λ (y : List ℕ). covered table_size y t) el; words = ap (λ (x : Generated). x.words) s; halves = ap (λ (x : Generated). x.halves) s }

  leaves : (a : Answer) → Judged (grammar_of c) a → out.answer ≡ a → Leaves (grammar_of c) t z w out a
  leaves a (useless {x} n u l) e =
      let s = left_alone t z w c (useless_at x) e refl in
      record { table = ap (λ (x : Generated). x.table) s; words = ap (λ (x : Generated). x.words) s; halves = ap (λ (x : Generated). x.halves) s }
  leaves a (many u m) e = cleared (refused 11) [] e refl refl (omega arith)
  leaves a (wide count next u s f k) e = cleared (refused 12) [] e refl refl (omega arith)
  leaves a (clash count next {q} {m} {v} {w = u} s k) e = cleared (conflict q m v u) [] e refl refl (omega arith)
  leaves a (fine count next s k) e =
      let m : card_answer c ≡ made = sym by_judge ∙ e in
      (table_of c, record { count = _; next = _; table = card_table c m; only = λ {count'} {next'} {l'} u. sym (only_table c m l' u) }, cleared made (table_of c) e refl refl (table_fits c m))

  pub demand_2 : Demand2 t z w c (generated t z w c)
  demand_2 = record { answer = answer_judged; areas = leaves out.answer answer_judged refl }

-- nothing else meets it: the demand leaves one answer, and one content of each area
pub same_generated : (a b : Generated) → a.answer ≡ b.answer → a.table ≡ b.table → a.words ≡ b.words → a.halves ≡ b.halves → a ≡ b
same_generated a b i j k l = rebuilt a.answer b.answer i a.table b.table j a.words b.words k a.halves b.halves l
  where
    rebuilt : (x x' : Answer) → x ≡ x' → (t t' : List ℕ) → t ≡ t' → (z z' : List ℕ) → z ≡ z' → (w w' : List ℕ) → w ≡ w'
        → ◌≡◌ {A = Generated} (record { answer = x; table = t; words = z; halves = w }) (record { answer = x'; table = t'; words = z'; halves = w' })
    rebuilt x x' i t t' j z z' k w w' l = rw (i, j, k, l) refl

pub demand_2_one : (t z w c : List ℕ) (a b : Generated) → Demand2 t z w c a → Demand2 t z w c b → a ≡ b
demand_2_one t z w c a b d e = go a.answer d.areas (subst (λ (x : Answer). Leaves (grammar_of c) t z w b x) (sym same) e.areas)
  where
    same : a.answer ≡ b.answer
    same = judged_one (grammar_of c) d.answer e.answer

    by_areas : {l l' : List ℕ} → l ≡ l' → Cleared l t z w a → Cleared l' t z w b → a ≡ b
    by_areas k x y = same_generated a b same (x.table ∙ ap (λ (l : List ℕ). covered table_size l t) k ∙ sym y.table) (x.words ∙ sym y.words) (x.halves ∙ sym y.halves)

    go : (x : Answer) → Leaves (grammar_of c) t z w a x → Leaves (grammar_of c) t z w b x → a ≡ b
    go made x y = by_areas (y.1.only x.1.table) x.2 y.2
    go (useless_at n) x y = same_generated a b same (x.table ∙ sym y.table) (x.words ∙ sym y.words) (x.halves ∙ sym y.halves)
    go (refused n) x y = by_areas refl x y
    go (conflict q m u v) x y = by_areas refl x y

pub demand_2_only : (t z w c : List ℕ) → Room t z w → form_fault c ≡ 0 → (out : Generated) → Demand2 t z w c out → out ≡ generated t z w c
demand_2_only t z w c o h out d = demand_2_one t z w c out (generated t z w c) d (demand_2 t z w c o h)
