-- The merged card is written part by part: the sizes, and then the three arrays, each behind what stands there so far.
use mathlib.Core.Path.{◌≡◌, refl, sym, ap, ◌∙◌}
use mathlib.Core.List.{List, ◌++◌, append_assoc}
use Prim.Native.Nat.{ℕ, ◌+◌, ◌≤◌}
use native.Mathlib.Omega.{arith}
use lib.ListN.{length, drop, length-append}
use Rattle.grammar.specs.Card.{terminals}
use Rattle.merged_card.specs.Merged.{merged_sizes, merged_lefts, merged_lengths, merged_symbols, merged_card}
use Rattle.merged_card.proofs.MergedLaws.{merged_length, lefts_length, lengths_length, symbols_length}
use Rattle.merged_card.specs.Writing.{written, array_numbers, Inside, Gives, Merging}
use Rattle.merged_card.specs.declared.Pieces.{Pieces}
use Rattle.merged_card.proofs.WritingLaws.{written_length, written_behind}

-- the list l stands in front of the area that was old
record Front (old l new : List ℕ) : Type 0 where
  fits : length l ≤ length old
  is : new ≡ written 0 l old

front_length : {old l new : List ℕ} → Front old l new → length new ≡ length old
front_length {old} {l} f = rw f.is (written_length 0 old l (omega (arith, f.fits)))

-- a list behind it
front_more : {old l new : List ℕ} (m : List ℕ) {i : ℕ} {last : List ℕ} → Front old l new → i ≡ length l → i + length m ≤ length new → last ≡ written i m new → Front old (l ++ m) last
front_more {old} {l} m f e h d =
    let z : 0 + length l ≡ length l = omega arith in
    record {
      fits = omega (arith, length-append l m, front_length f);
      is = rw (e, f.is) at d ∙ rw z at (written_behind 0 old l (omega (arith, f.fits)) m);
    }

at_front : (l old : List ℕ) → written 0 l old ≡ l ++ drop (length l) old
unfolding written
at_front l old = let z : 0 + length l ≡ length l = omega arith in rw z

whole_card : (a b : List ℕ) → merged_sizes a b ++ merged_lefts a b ++ merged_lengths a b ++ merged_symbols a b ≡ merged_card a b
unfolding merged_card
whole_card a b = append_assoc (merged_sizes a b ++ merged_lefts a b) (merged_lengths a b) (merged_symbols a b) ∙ append_assoc (merged_sizes a b) (merged_lefts a b) (merged_lengths a b ++ merged_symbols a b)

module _ (a b : List ℕ) {t : ℕ} (et : t ≡ terminals a) where
  as_given : {p : Pieces} {l : List ℕ} → Gives a b p l → array_numbers a b t p ≡ l
  as_given {p} g = ap (λ (t : ℕ). array_numbers a b t p) et ∙ g.numbers

  -- what `array` asks for
  asked : {p : Pieces} (l : List ℕ) (i n : ℕ) → Gives a b p l → i + length l ≤ n → Inside a b p × (i + length (array_numbers a b t p) ≤ n)
  asked {p} l i n g h = let e : length (array_numbers a b t p) ≡ length l = ap length (as_given g) in (g.inside, omega arith)

  module _ (old : List ℕ) (m : Merging a b (length old)) {first : List ℕ} (h : first ≡ written 0 (merged_sizes a b) old) where
    room : 4 + (length (merged_lefts a b) + (length (merged_lengths a b) + length (merged_symbols a b))) ≤ length old
    room = omega (arith, m.fits, merged_length a b, lefts_length a b, lengths_length a b, symbols_length a b)

    sizes_front : Front old (merged_sizes a b) first
    sizes_front = record { fits = omega (arith, room); is = h }

    module _ {p : Pieces} (gp : Gives a b p (merged_lefts a b)) where
      pub lefts_asked : Inside a b p × (4 + length (array_numbers a b t p) ≤ length first)
      lefts_asked = asked (merged_lefts a b) 4 (length first) gp (omega (arith, room, front_length sizes_front))

      module _ {i : ℕ} {second : List ℕ} (d : (i ≡ 4 + length (array_numbers a b t p)) × (second ≡ written 4 (array_numbers a b t p) first)) where
        lefts_front : Front old (merged_sizes a b ++ merged_lefts a b) second
        lefts_front = front_more (merged_lefts a b) sizes_front refl (omega (arith, room, front_length sizes_front)) (rw (as_given gp) at d.1)

        lefts_end : i ≡ length (merged_sizes a b ++ merged_lefts a b)
        lefts_end = d.0 ∙ ap (λ (l : List ℕ). 4 + length l) (as_given gp) ∙ sym (length-append (merged_sizes a b) (merged_lefts a b))

        module _ {q : Pieces} (gq : Gives a b q (merged_lengths a b)) where
          pub lengths_asked : Inside a b q × (i + length (array_numbers a b t q) ≤ length second)
          lengths_asked = asked (merged_lengths a b) i (length second) gq (omega (arith, room, front_length lefts_front, lefts_end, length-append (merged_sizes a b) (merged_lefts a b)))

          module _ {j : ℕ} {third : List ℕ} (e : (j ≡ i + length (array_numbers a b t q)) × (third ≡ written i (array_numbers a b t q) second)) where
            lengths_front : Front old (merged_sizes a b ++ merged_lefts a b ++ merged_lengths a b) third
            lengths_front = front_more (merged_lengths a b) lefts_front lefts_end (omega (arith, lengths_asked.1, ap length (as_given gq))) (rw (as_given gq) at e.1)

            lengths_end : j ≡ length (merged_sizes a b ++ merged_lefts a b ++ merged_lengths a b)
            lengths_end = e.0 ∙ ap (λ (l : List ℕ). i + length l) (as_given gq) ∙ ap (λ (k : ℕ). k + length (merged_lengths a b)) lefts_end ∙ sym (length-append (merged_sizes a b ++ merged_lefts a b) (merged_lengths a b))

            module _ {r : Pieces} (gr : Gives a b r (merged_symbols a b)) where
              pub symbols_asked : Inside a b r × (j + length (array_numbers a b t r) ≤ length third)
              symbols_asked =
                  asked (merged_symbols a b) j (length third) gr (omega (arith, room, front_length lengths_front, lengths_end, length-append (merged_sizes a b ++ merged_lefts a b) (merged_lengths a b), length-append (merged_sizes a b) (merged_lefts a b)))

              module _ {last : List ℕ} (f : last ≡ written j (array_numbers a b t r) third) where
                whole_front : Front old (merged_sizes a b ++ merged_lefts a b ++ merged_lengths a b ++ merged_symbols a b) last
                whole_front = front_more (merged_symbols a b) lengths_front lengths_end (omega (arith, symbols_asked.1, ap length (as_given gr))) (rw (as_given gr) at f)

                pub whole_written : last ≡ merged_card a b ++ drop (length (merged_card a b)) old
                whole_written = whole_front.is ∙ ap (λ (l : List ℕ). written 0 l old) (whole_card a b) ∙ at_front (merged_card a b) old
