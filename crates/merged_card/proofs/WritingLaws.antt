-- Laws of lists that are written into an area.
use mathlib.Core.Path.{◌≡◌, sym, ap, ◌∙◌}
use mathlib.Core.List.{List, [], ◌∷◌, ◌++◌, append_assoc}
use Prim.Native.Nat.{ℕ, suc, ◌+◌, ◌<◌, ◌≤◌}
use native.Mathlib.Omega.{arith}
use native.Mathlib.Nat.{add-zero}
use lib.ListN.{length, take, drop, set, length-append, length-drop, length-set, take-append-drop}
use lib.Seq.{length-take-le, set_split, take_at, drop-append-add, drop-drop}
use Rattle.sets.specs.Lists.{each}
use Rattle.sets.proofs.ListLaws.{ones_length}
use Rattle.merged_card.proofs.ArrayLaws.{array_length}
use Rattle.merged_card.specs.Writing.{written, number_of, array_numbers}
use Rattle.merged_card.specs.declared.Pieces.{Pieces}

module _ (i : ℕ) (area : List ℕ) where
  pub written_none : area ≡ written i [] area
  unfolding written
  written_none = rw add-zero (sym (take-append-drop i area))

  pub written_one : (x : ℕ) → i < length area → set area i x ≡ written i (x ∷ []) area
  unfolding written
  written_one x h = let e : i + 1 ≡ suc i = omega arith in rw e (set_split area i x h)

  module _ (l : List ℕ) (h : i + length l ≤ length area) where
    front : length (take i area ++ l) ≡ i + length l
    front = length-append (take i area) l ∙ omega (arith, length-take-le i area (omega arith))

    pub written_length : length (written i l area) ≡ length area
    unfolding written
    written_length =
        rw (sym (append_assoc (take i area) l (drop (i + length l) area)))
        (length-append (take i area ++ l) (drop (i + length l) area) ∙ omega (arith, front, length-drop (i + length l) area))

    -- a list behind another
    pub written_behind : (m : List ℕ) → written (i + length l) m (written i l area) ≡ written i (l ++ m) area
    unfolding written
    written_behind m =
        let p : List ℕ = take i area ++ l in
        let r : List ℕ = drop (i + length l) area in
        let whole : take i area ++ (l ++ r) ≡ p ++ r = sym (append_assoc (take i area) l r) in
        let t : take (i + length l) (p ++ r) ≡ p = take_at p r (i + length l) front in
        let n : i + length l + length m ≡ length p + length m = omega (arith, front) in
        let d : drop (i + length l + length m) (p ++ r) ≡ drop (i + length l + length m) area = rw n (drop-append-add p r (length m)) ∙ drop-drop (length m) (i + length l) area in
        let k : i + length (l ++ m) ≡ i + length l + length m = omega (arith, length-append l m) in
        rw (whole, t, d, k) (append_assoc (take i area) l (m ++ drop (i + length l + length m) area) ∙ ap (λ (z : List ℕ). take i area ++ z) (sym (append_assoc l m (drop (i + length l + length m) area))))

-- an area into which the first j of n numbers are written, all of which have room in it
module _ (i j n : ℕ) (f : ℕ → ℕ) (old : List ℕ) {new : List ℕ} where
  pub part_length : j ≤ n → i + n ≤ length old → new ≡ written i (each j (λ k. f k ∷ [])) old → length new ≡ length old
  part_length h k e = rw e (written_length i old (each j (λ k. f k ∷ [])) (omega (arith, ones_length j f)))

  -- one number more
  pub part_next : {x : ℕ} → j < n → i + n ≤ length old → new ≡ written i (each j (λ k. f k ∷ [])) old → x ≡ f j → set new (i + j) x ≡ written i (each (j + 1) (λ k. f k ∷ [])) old
  part_next {x} h k e g =
      let l : List ℕ = each j (λ k. f k ∷ []) in
      let m : length l ≡ j = ones_length j f in
      let b : i + length l ≤ length old = omega arith in
      let s : j + 1 ≡ suc j = omega arith in
      let at : set (written i l old) (i + length l) x ≡ written (i + length l) (x ∷ []) (written i l old) = written_one (i + length l) (written i l old) x (omega (arith, written_length i old l b)) in
      rw (s, e, sym g) (rw m at (at ∙ written_behind i old l b (x ∷ [])))

-- an array of the merged card is written: first its two heads, then the numbers of the first card, then those of the second
module _ (a b : List ℕ) (p : Pieces) (t i : ℕ) (old : List ℕ) (room : i + length (array_numbers a b t p) ≤ length old) where
  -- the numbers of either card
  abbrev of_a : List ℕ
  of_a = each p.first.count (λ k. number_of a t p.first k ∷ [])

  abbrev of_b : List ℕ
  of_b = each p.second.count (λ k. number_of b t p.second k ∷ [])

  -- ---- the two heads

  abbrev begun : List ℕ
  begun = set (set old i p.x) (i + 1) p.y

  size : length (array_numbers a b t p) ≡ 2 + (p.first.count + p.second.count)
  size = array_length p.x p.y p.first.count (number_of a t p.first) p.second.count (number_of b t p.second)

  pub second_head : i + 1 < length (set old i p.x)
  second_head = omega (arith, room, size, length-set old i p.x)

  begun_length : length begun ≡ length old
  begun_length = length-set (set old i p.x) (i + 1) p.y ∙ length-set old i p.x

  begun_written : begun ≡ written i (p.x ∷ p.y ∷ []) old
  begun_written =
      written_one (i + 1) (set old i p.x) p.y second_head
      ∙ ap (written (i + 1) (p.y ∷ [])) (written_one i old p.x (omega (arith, room, size)))
      ∙ written_behind i old (p.x ∷ []) (omega (arith, room, size)) (p.y ∷ [])

  pub room_first : i + 2 + p.first.count ≤ length begun
  room_first = omega (arith, room, size, begun_length)

  -- ---- with the numbers of the first card, and with all

  module _ {new : List ℕ} (e : new ≡ written (i + 2) of_a begun) where
    new_length : length new ≡ length old
    new_length = part_length (i + 2) p.first.count p.first.count (number_of a t p.first) begun (omega arith) room_first e ∙ begun_length

    new_written : new ≡ written i (p.x ∷ p.y ∷ of_a) old
    new_written = e ∙ ap (written (i + 2) of_a) begun_written ∙ written_behind i old (p.x ∷ p.y ∷ []) (omega (arith, room, size)) of_a

    pub room_second : i + 2 + p.first.count + p.second.count ≤ length new
    room_second = omega (arith, room, size, new_length)

    module _ {last : List ℕ} (d : last ≡ written (i + 2 + p.first.count) of_b new) where
      pub array_end : i + 2 + p.first.count + p.second.count ≡ i + length (array_numbers a b t p)
      array_end = omega (arith, size)

      pub array_written : last ≡ written i (array_numbers a b t p) old
      array_written =
          let l : List ℕ = p.x ∷ p.y ∷ of_a in
          let g : length of_a ≡ p.first.count = ones_length p.first.count (number_of a t p.first) in
          let k : i + length l ≡ i + 2 + p.first.count = omega arith in
          d ∙ ap (written (i + 2 + p.first.count) of_b) new_written ∙ rw k at (written_behind i old l (omega (arith, room, size)) of_b)
