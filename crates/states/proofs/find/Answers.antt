use Rattle.std.proofs.Common.{rules, arith, sym, ◌∙◌, ◌≡◌, length, get_or}
use native.Mathlib.Nat.{le_refl}
use Rattle.items.specs.Item.{set_size}
use Rattle.sets.proofs.HasLaws.{below_suc}
use Rattle.states.proofs.RowLaws.{none_before}
use Rattle.std.proofs.Common.{Fits, w64}
use mathlib.Core.Bool.{true≢false}
use mathlib.Core.Logic.{⊎_elim}
use Rattle.states.proofs.find.Goals as goal

pub returns-then-is_at : goal.returns-then-is_at
returns-then-is_at c =
    let n : length c.args.s ≡ set_size = search rules in
    record {
      most = c.in-Some.ensures.most;
      here = c.is_at.ensures.words.yes c.if-is_at.true;
      none = none_before c.args.z.now c.args.s c.args.k c.args.n c.loop-q.from c.in-Some.q c.requires.2 n (λ j. (c.type_inv.z j).fits) (λ j. let f : Fits w64 (get_or c.args.s j 0) = search rules in f.fits) c.requires.1 (omega (arith, c.in-Some.ensures.most)) c.loop-q.invariant.1 c.in-Some.ensures.gap;
    }

pub loop-q-preserved : goal.loop-q-preserved
loop-q-preserved c =
    let n : length c.args.s ≡ set_size = search rules in
    let b = none_before c.args.z.now c.args.s c.args.k c.args.n c.loop-q.from c.in-Some.q c.requires.2 n (λ j. (c.type_inv.z j).fits) (λ j. let f : Fits w64 (get_or c.args.s j 0) = search rules in f.fits) c.requires.1 (omega (arith, c.in-Some.ensures.most)) c.loop-q.invariant.1 c.in-Some.ensures.gap in (
      omega (arith, c.in-Some.ensures.most),
      λ p h. ⊎_elim (b p) (λ e. rw e (λ a. true≢false (sym (c.is_at.ensures.items.so a) ∙ c.if-is_at.false))) (below_suc h),
    )

pub returns : goal.returns
returns c =
    let n : length c.args.s ≡ set_size = search rules in
    none_before c.args.z.now c.args.s c.args.k c.args.n c.loop-q.from c.args.n c.requires.2 n (λ j. (c.type_inv.z j).fits) (λ j. let f : Fits w64 (get_or c.args.s j 0) = search rules in f.fits) c.requires.1 (le_refl c.args.n) c.loop-q.invariant.1 (λ p h l. c.in_default.ensures p h l)
