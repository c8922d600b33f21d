-- What the passes keep: each open terminal is found, wrong, or still to be decided.
use Prim.Native.Nat.{ℕ, ◌^◌, ◌<◌}
use mathlib.Core.Path.{◌≡◌, refl, sym, ap, ◌∙◌}
use mathlib.Core.Bool.{Bool, true, false, not, false≢true}
use mathlib.Core.Logic.{◌⊎◌, inl, inr, ⊎_elim}
use mathlib.Core.List.{List}
use native.Mathlib.Omega.{arith}
use lib.Dec.{lit<}
use lib.Bits.{bit_or}
use lib.Count.{count_trailing_zeros}
use Rattle.sets.specs.Bit.{bit, count, Has}
use Rattle.sets.proofs.HasLaws.{has_none, has_or, or_has_l, or_has_r}
use Rattle.sets.proofs.BitLaws.{lowest_lt}
use Rattle.sets.proofs.TestLaws.{and_left}
use Rattle.tables.specs.Layout.{terminals}
use Rattle.machine.specs.Checks.{input_ok, closed_ok}
use Rattle.machine.specs.Exploration.{Explored, Cut}
use Rattle.machine.specs.Restricted.{Open, OpenOffer, OpenCutShort}
use Rattle.machine.proofs.Checked.{Checked}
use Rattle.machine.proofs.Explorations.{explored_same}
use Rattle.exploration.specs.Phases.{NoneFollows, CutFor, PassCut, on_line, behind_line, Decides, Deciding}
use Rattle.exploration.proofs.Words.{lowest_member, not_below, count_less}

-- ---- a pass cut short

-- the end marker is open
end_open : (t : List ℕ) (closed : ℕ) → closed_ok t closed ≡ true → Open closed 0
unfolding closed_ok
end_open t closed ok h = false≢true (sym (ap not h) ∙ and_left (not (bit closed 0)) _ ok)

pub open_cut : {t line : List ℕ} {closed limit places todo : ℕ} → Checked t → closed_ok t closed ≡ true → ((m : ℕ) → Has todo m → (m < terminals t) × Open closed m)
    → PassCut t limit places line todo → OpenCutShort t closed limit places line
open_cut {t} {line} {closed} {limit} {places} {todo} pa ok f = go
  where
    cut_of : (m : ℕ) → m < terminals t → Open closed m → CutFor t limit places line m → OpenCutShort t closed limit places line
    cut_of m h o c = record { terminal = m; number = c.number; below = h; unclosed = o; ends = c.ends; cut = c.cut }

    go : PassCut t limit places line todo → OpenCutShort t closed limit places line
    go (on_line c) = cut_of 0 pa.sizes.terminals_are.0 (end_open t closed ok) c
    go (behind_line {m} h c) = cut_of m (f m h).0 (f m h).1 c

-- ---- between passes

module _ {t line : List ℕ} {closed limit places todo found found' later : ℕ} (d : Deciding t closed limit places line todo found) (p : Decides t limit places line todo found' later) where
  -- the lowest is not left
  pub deciding_less : (todo ≡ 0 → ⊥) → count (bit later) 64 < count (bit todo) 64
  deciding_less n =
      let some : 0 < todo = omega (arith, n) in
      count_less later todo 64 (count_trailing_zeros 64 todo) (λ m h. (p.behind m h).0) (lowest_lt 64 todo some d.fits) (lowest_member some d.fits)
      (λ h. let b = p.behind (count_trailing_zeros 64 todo) h in not_below some d.fits b.1 b.3 b.2)

  pub deciding_next : {f : ℕ} → f ≡ bit_or found found' → later < 2 ^ 64 → Deciding t closed limit places line later f
  deciding_next e b = rw e (record {
    fits = b;
    unclosed = λ m h. d.unclosed m (p.behind m h).0;
    offered = λ m h. ⊎_elim (d.offered m) (λ i. let o = p.offered m i in let u = d.unclosed m o.0 in (u.0, u.1, o.1)) (has_or found found' m h);
    left_out = λ m h o n l. left_out m h o (λ i. n (or_has_l found found' m i)) (λ i. n (or_has_r found found' m i)) l (bit todo m) refl;
  })
    where
      left_out : (m : ℕ) → m < terminals t → Open closed m → (Has found m → ⊥) → (Has found' m → ⊥) → (Has later m → ⊥) → (b : Bool) → bit todo m ≡ b → Explored t limit places line m 31
      left_out m h o n k l true e = p.left_out m e k l
      left_out m h o n k l false e = d.left_out m h o n (λ i. false≢true (sym e ∙ i))

-- ---- the offer

-- a cut is neither
never_found : Cut 0 → ⊥
never_found c = elim c [ ]

never_wrong : Cut 31 → ⊥
never_wrong c = elim c [ ]

-- nothing is left: each open terminal is found or wrong
module _ {t line : List ℕ} {closed limit places todo found : ℕ} (d : Deciding t closed limit places line todo found) (pa : Checked t) (ok : input_ok t line ≡ true) (some : 0 < places) (none : todo ≡ 0) where
  told : (m : ℕ) → m < terminals t → Open closed m → (Has found m × Explored t limit places line m 0) ⊎ Explored t limit places line m 31
  told m h o = go (bit found m) refl
    where
      go : (b : Bool) → bit found m ≡ b → (Has found m × Explored t limit places line m 0) ⊎ Explored t limit places line m 31
      go true e = inl (e, (d.offered m e).2)
      go false e = inr (d.left_out m h o (λ i. false≢true (sym e ∙ i)) (λ i. has_none m (rw none at i)))

  same : {m i j : ℕ} → m < terminals t → Explored t limit places line m i → Explored t limit places line m j → i ≡ j
  same h v w = explored_same t line limit places pa ok some h v w

  pub deciding_end : OpenOffer t closed limit places line found
  deciding_end = record {
    members = λ m. (d.offered m, λ z. ⊎_elim (λ y. y.0) (λ w. let e = same z.0 z.2 w in absurd (omega (arith, e))) (told m z.0 z.1));
    uncut = λ m n h o e c. ⊎_elim (λ y. never_found (rw (same h e y.1) at c)) (λ w. never_wrong (rw (same h e w) at c)) (told m h o);
  }

-- no terminal can follow
pub wrong_offer : {t line : List ℕ} {closed limit places : ℕ} → Checked t → input_ok t line ≡ true → 0 < places → NoneFollows t limit places line → OpenOffer t closed limit places line 0
wrong_offer {t} {line} {closed} {limit} {places} pa ok h f =
    let d : Deciding t closed limit places line 0 0 = record {
      fits = lit< tt;
      unclosed = λ m i. absurd (has_none m i);
      offered = λ m i. absurd (has_none m i);
      left_out = λ m k _ _ _. f m k;
    } in
    deciding_end d pa ok h refl
