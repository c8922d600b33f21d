-- The maker's definition has exactly one result for every card and three areas: the computed one.
use mathlib.Core.Path.{◌≡◌, refl, sym, ap, ◌∙◌}
use mathlib.Core.Logic.{◌≢◌}
use mathlib.Core.Bool.{false}
use mathlib.Core.List.{List}
use Prim.Native.Nat.{ℕ, zero, suc, ◌≤◌, ◌<◌}
use native.Mathlib.Omega.{arith}
use native.Mathlib.Decide.{dec_lt, ℕ_discrete}
use lib.ListN.{length}
use borrow.Author.Tests.{le-ltb}
use Rattle.grammar.specs.Card.{form_fault}
use Rattle.grammar.proofs.CardLaws.{fault_most}
use Rattle.areas.specs.Areas.{table_size, words_size, halves_size}
use Rattle.lalr.specs.Answer.{refused, Generated}
use Rattle.lalr.specs.ComputedAnswer.{card_answer}
use Rattle.lalr.specs.ComputedGenerator.{writes, generated}
use Rattle.lalr.specs.Demand2.{Room, Unchanged, Demand2}
use Rattle.lalr.specs.Generates.{Refuses, Generates, table_short, words_short, halves_short, malformed, well_formed}
use Rattle.lalr.proofs.Finish.{by_card, short_table, short_words, short_halves, left_alone}
use Rattle.lalr.proofs.Demand2.{same_generated, demand_2, demand_2_only}

module _ (t z w c : List ℕ) where
  -- the answer 4 to 9
  faulty : (n : ℕ) → form_fault c ≡ n → n ≢ 0 → card_answer c ≡ refused n
  faulty zero e h = absurd (h refl)
  faulty (suc n) e h = rw (e, card_answer) refl

  by_form : Room t z w → form_fault c ≢ 0 → (generated t z w c).answer ≡ refused (form_fault c)
  by_form o h = by_card t z w c o (refused (form_fault c)) (faulty (form_fault c) refl h)

  silent : writes (refused (form_fault c)) ≡ false
  silent = le-ltb 10 (form_fault c) (let l = fault_most c in omega (arith, l))

  refuses : (n : ℕ) → (generated t z w c).answer ≡ refused n → writes (refused n) ≡ false → Refuses n t z w (generated t z w c)
  refuses n e s = rw (left_alone t z w c (refused n) e s) (record { answer = refl; areas = record { table = refl; words = refl; halves = refl } })

  pub generates : Generates t z w c (generated t z w c)
  generates = go (dec_lt (length t) table_size) (dec_lt (length z) words_size) (dec_lt (length w) halves_size) (ℕ_discrete (form_fault c) 0)
    where
      go : Dec (length t < table_size) → Dec (length z < words_size) → Dec (length w < halves_size) → Dec (form_fault c ≡ 0) → Generates t z w c (generated t z w c)
      go (yes h) _ _ _ = table_short h (refuses 1 (short_table t z w c h) refl)
      go (no h) (yes k) _ _ = words_short (omega (arith, h)) k (refuses 2 (short_words t z w c (omega (arith, h)) k) refl)
      go (no h) (no k) (yes l) _ = halves_short (omega (arith, h)) (omega (arith, k)) l (refuses 3 (short_halves t z w c (omega (arith, h)) (omega (arith, k)) l) refl)
      go (no h) (no k) (no l) f = formed (record { table = omega (arith, h); words = omega (arith, k); halves = omega (arith, l) }) f
        where
          formed : Room t z w → Dec (form_fault c ≡ 0) → Generates t z w c (generated t z w c)
          formed o (yes e) = well_formed o e (demand_2 t z w c o e)
          formed o (no e) = malformed o e (refuses (form_fault c) (by_form o e) silent)

  module _ (out : Generated) where
    refused_one : (n : ℕ) → Refuses n t z w out → (generated t z w c).answer ≡ refused n → writes (refused n) ≡ false → out ≡ generated t z w c
    refused_one n r e s =
        let g = refuses n e s in
        let u = r.areas in
        let v = g.areas in
        same_generated out (generated t z w c) (r.answer ∙ sym g.answer) (u.table ∙ sym v.table) (u.words ∙ sym v.words) (u.halves ∙ sym v.halves)

    pub only_generated : Generates t z w c out → out ≡ generated t z w c
    only_generated (table_short h r) = refused_one 1 r (short_table t z w c h) refl
    only_generated (words_short h k r) = refused_one 2 r (short_words t z w c h k) refl
    only_generated (halves_short h k l r) = refused_one 3 r (short_halves t z w c h k l) refl
    only_generated (malformed o h r) = refused_one (form_fault c) r (by_form o h) silent
    only_generated (well_formed o h d) = demand_2_only t z w c o h out d
