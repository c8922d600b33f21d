-- The words of direct reads.
use mathlib.Core.Path.{◌≡◌, sym, ap, ◌∙◌, subst}
use mathlib.Core.List.{List}
use mathlib.Core.Bool.{true}
use mathlib.Core.Logic.{inl, inr, ⊎_elim, ◌≢◌}
use Prim.Native.Nat.{ℕ, ◌+◌, ◌^◌, ◌≤◌, ◌<◌}
use native.Mathlib.Omega.{arith}
use native.Mathlib.Nat.{eq-or-lt_of_le}
use lib.ListN.{length, get_or, set, length-set}
use lib.Seq.{get_or-set_same, get_or-set_other}
use lib.Bits.{bit_or}
use Rattle.sets.specs.Bit.{bit}
use Rattle.sets.proofs.HasLaws.{has_none, has_one, one_has, has_or, or_has_l, or_has_r}
use Rattle.grammar.specs.Card.{terminals}
use Rattle.areas.specs.Areas.{words_size}
use Rattle.transitions.specs.Places.{transition_limit, shifts_at}
use Rattle.transitions.specs.Area.{leaves_of, nonterminal_of, enters_of}
use Rattle.transitions.specs.Next.{Numbered}
use Rattle.transitions.specs.Data.{Data, Holds, Shifts, Ends, Direct, Begun}
use Rattle.transition_lists.specs.Words.{Joined, Ending, Marked, Copied}

-- ---- one terminal

pub joined_one : (s x v r : ℕ) → v ≢ 0 → r ≡ bit_or s (2 ^ x) → Joined s x v r
joined_one s x v r n e = record {
  only = λ m h. ⊎_elim inl (λ k. inr (has_one x m k, n)) (has_or s (2 ^ x) m (rw e at h));
  kept = λ m h. rw e (or_has_l s (2 ^ x) m h);
  new = λ k. rw e (or_has_r s (2 ^ x) x (one_has x));
}

-- ---- the terminals of a state

pub marked_start : (next : ℕ → ℕ → ℕ) (q : ℕ) → Holds 0 (Marked next q 1)
marked_start next q = record { only = λ m h. absurd (has_none m h); all = λ m k. absurd (let a = k.low in let b = k.high in let z : ⊥ = omega arith in z) }

pub marked_more : (next : ℕ → ℕ → ℕ) (q x s v r : ℕ) → 0 < x → v ≡ next q x → Holds s (Marked next q x) → Joined s x v r → Holds r (Marked next q (x + 1))
marked_more next q x s v r hx ev H J = record {
  only = λ m h.
      ⊎_elim
      (λ o. let k = H.only m o in record { low = k.low; high = let b = k.high in omega arith; some = k.some })
      (λ o. subst (Marked next q (x + 1)) o.0 (record { low = hx; high = omega arith; some = λ z. o.1 (ev ∙ z) }))
      (J.only m h);
  all = λ m k.
      ⊎_elim
      (λ (e : m ≡ x). rw e (J.new (λ z. k.some (ap (next q) e ∙ sym ev ∙ z))))
      (λ (e : m < x). J.kept m (H.all m (record { low = k.low; high = e; some = k.some })))
      (eq-or-lt_of_le (let a = k.high in let z : m ≤ x = omega arith in z));
}

pub marked_end : (c : List ℕ) (next : ℕ → ℕ → ℕ) (q x s : ℕ) → x ≡ terminals c → Holds s (Marked next q x) → Holds s (Shifts c next q)
marked_end c next q x s e H = record {
  only = λ i o. let k = H.only i o in record { low = k.low; high = let b = k.high in omega arith; some = k.some };
  all = λ i k. H.all i (record { low = k.low; high = let b = k.high in omega arith; some = k.some });
}

-- ---- the end marker

pub ending_none : (c w : List ℕ) (i : ℕ) → (Ends c w i → ⊥) → Holds 0 (Ending c w i)
ending_none c w i n = record { only = λ m h. absurd (has_none m h); all = λ m k. absurd (n k.1) }

pub ending_one : (c w : List ℕ) (i : ℕ) → Ends c w i → Holds 1 (Ending c w i)
ending_one c w i E = record {
  only = λ m h. (sym (has_one 0 m h), E);
  all = λ m k. subst (λ (z : ℕ). bit 1 z ≡ true) (sym k.0) (one_has 0);
}

-- ---- the words

module _ (c w : List ℕ) (next : ℕ → ℕ → ℕ) (z₀ : List ℕ) where
  pub copied_word : (z : List ℕ) (q v : ℕ) → q < 256 → words_size ≤ length z → Holds v (Shifts c next q) → Copied c w next z₀ z q 0 → Copied c w next z₀ (set z (shifts_at + q) v) (q + 1) 0
  copied_word z q v h l H C = record {
    direct = λ j g. absurd (let z : ⊥ = omega arith in z);
    shifts = λ p g.
        ⊎_elim
        (λ (e : p ≡ q). rw (e, get_or-set_same z (shifts_at + q) v 0 (let a : shifts_at + q < length z = omega arith in a)) H)
        (λ (e : p < q). rw (get_or-set_other z (shifts_at + q) (shifts_at + p) v 0 (λ a. omega arith)) (C.shifts p e))
        (eq-or-lt_of_le (let a : p ≤ q = omega arith in a));
    long = length-set z (shifts_at + q) v ∙ C.long;
    between = λ j g k. get_or-set_other z (shifts_at + q) j v 0 (λ a. omega arith) ∙ C.between j g k;
    rest = λ j g. get_or-set_other z (shifts_at + q) j v 0 (λ a. omega arith) ∙ C.rest j (omega arith);
  }

  pub copied_direct : (z : List ℕ) (n i j s : ℕ) → j ≡ enters_of w i → enters_of w i < n → i < transition_limit → words_size ≤ length z → Holds s (Ending c w i) → Copied c w next z₀ z n i
      → Copied c w next z₀ (set z i (bit_or (get_or z (shifts_at + j) 0) s)) n (i + 1)
  copied_direct z n i j s ej hn hi l H C =
      let v = bit_or (get_or z (shifts_at + j) 0) s in
      record {
        direct = λ u g.
            ⊎_elim
            (λ (e : u ≡ i). rw (e, get_or-set_same z i v 0 (let a : i < length z = omega arith in a)) new)
            (λ (e : u < i). rw (get_or-set_other z i u v 0 (λ a. omega arith)) (C.direct u e))
            (eq-or-lt_of_le (let a : u ≤ i = omega arith in a));
        shifts = λ p g. rw (get_or-set_other z i (shifts_at + p) v 0 (λ a. omega arith)) (C.shifts p g);
        long = length-set z i v ∙ C.long;
        between = λ u g k. get_or-set_other z i u v 0 (λ a. omega arith) ∙ C.between u (omega arith) k;
        rest = λ u g. get_or-set_other z i u v 0 (λ a. omega arith) ∙ C.rest u g;
      }
    where
      S : Holds (get_or z (shifts_at + j) 0) (Shifts c next (enters_of w i))
      S = rw ej (C.shifts (enters_of w i) hn)

      new : Holds (bit_or (get_or z (shifts_at + j) 0) s) (Direct c w next i)
      new = record {
        only = λ m h. ⊎_elim (λ a. inr (S.only m a)) (λ a. inl (H.only m a)) (has_or (get_or z (shifts_at + j) 0) s m h);
        all = λ m d. ⊎_elim (λ a. or_has_r (get_or z (shifts_at + j) 0) s m (H.all m a)) (λ a. or_has_l (get_or z (shifts_at + j) 0) s m (S.all m a)) d;
      }

  pub copied_end : (z : List ℕ) (n k : ℕ) → n ≤ 256 → Copied c w next z₀ z n k → Begun c w n k next z₀ z
  copied_end z n k hn C = record {
    direct = C.direct;
    shifts = C.shifts;
    long = C.long;
    between = C.between;
    rest = λ u a. C.rest u (omega arith);
  }

pub enters_below : (c w : List ℕ) (n k : ℕ) (next : ℕ → ℕ → ℕ) → Numbered c n next → Data c w n k next → (i : ℕ) → i < k → enters_of w i < n
enters_below c w n k next N D i h = rw (D.target i h) (N.target (leaves_of w i) (nonterminal_of w i))
