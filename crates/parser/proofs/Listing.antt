-- What the loop of `terminals` keeps: the members passed stand in front, the others are left.
use mathlib.Core.Path.{◌≡◌, refl, sym, ap, ◌∙◌}
use mathlib.Core.List.{List, [], ◌∷◌, ◌++◌, append_assoc, append-nil}
use Prim.Native.Nat.{ℕ, suc, ◌+◌, ◌^◌, ◌<◌, max}
use native.Mathlib.Omega.{arith}
use lib.ListN.{length, set, replicate, length-append}
use Rattle.sets.specs.Bit.{members, Lowest, Rest}
use Rattle.sets.specs.Lists.{covered}
use Rattle.sets.proofs.CoveredLaws.{covered_push}
use Rattle.sets.proofs.MemberLaws.{members_length, members_empty, members_next}
use Rattle.sets.proofs.BitLaws.{lowest_lt}
use Rattle.sets.proofs.HasLaws.{lowest_of, rest_of}
use Rattle.parser.specs.Terminals.{Lists}

pub record Listing (expected : ℕ) (out : List ℕ) (left n : ℕ) : Type 0 where
  pub front : List ℕ
  pub whole : members 64 expected ≡ front ++ members 64 left
  pub many : n ≡ length front
  pub place : out ≡ covered 64 front []

pub listing_none : (expected : ℕ) → Listing expected (replicate 64 0) expected 0
unfolding covered
listing_none expected = record { front = []; whole = refl; many = refl; place = refl }

push : (u : List ℕ) (m : ℕ) → length u < 64 → set (covered 64 u []) (length u) m ≡ covered 64 (u ++ m ∷ []) []
unfolding covered
push u m h = let e : max 64 (suc (length u)) ≡ 64 = omega arith in rw e at (covered_push 64 u (replicate 64 0) m (omega arith) h)

module _ {expected : ℕ} {out : List ℕ} {left n : ℕ} (w : Listing expected out left n) where
  pub listing_end : left ≡ 0 → Lists expected n out
  listing_end e =
      let all : members 64 expected ≡ w.front = w.whole ∙ ap (λ (s : ℕ). w.front ++ members 64 s) e ∙ ap (λ (l : List ℕ). w.front ++ l) (members_empty 64) ∙ append-nil w.front in
      record { many = w.many ∙ ap length (sym all); listed = w.place ∙ ap (λ (l : List ℕ). covered 64 l []) (sym all) }

  module _ (more : left ≡ 0 → ⊥) (fits : left < 2 ^ 64) where
    some : 0 < left
    some = omega (arith, more)

    -- there is a place for each
    pub listing_room : n < 64
    listing_room =
        let b = members_length 64 expected in
        let e = ap length w.whole ∙ length-append w.front (members 64 left) in
        let n = ap length (members_next 64 left some fits (lowest_of 64 left fits) (rest_of 64 left fits)) in
        omega (arith, w.many, b, e, n)

    module _ {m : ℕ} (l : Lowest 64 left m) where
      pub lowest_fits : m < 64
      lowest_fits = rw l.value (lowest_lt 64 left some fits)

      pub listing_next : {r : ℕ} → Rest 64 left r → Listing expected (set out n m) r (n + 1)
      listing_next {r} t =
          let le = length-append w.front (m ∷ []) in
          record {
            front = w.front ++ m ∷ [];
            whole = w.whole ∙ ap (λ (x : List ℕ). w.front ++ x) (members_next 64 left some fits l t) ∙ sym (append_assoc w.front (m ∷ []) (members 64 r));
            many = omega (arith, w.many, le);
            place = rw (w.place, w.many) (push w.front m (omega (arith, listing_room, w.many)));
          }
