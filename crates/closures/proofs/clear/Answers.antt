use Rattle.std.proofs.Common.{arith, refl, sym, ap, ◌∙◌, ◌≡◌, ℕ, ◌+◌, ◌-◌, replicate}
use Rattle.items.specs.Item.{item_limit}
use Rattle.closures.proofs.FillLaws.{filled_rest}
use lib.ListN.{length-replicate}
use Rattle.std.proofs.lemmas.Slice.{put_mid-paste}
use Rattle.items.proofs.AreaLaws.{part_length}
use Rattle.closures.proofs.clear.Goals as goal

pub returns : goal.returns
returns c =
    let m = item_limit - c.args.n in
    let room : c.args.n + m ≡ item_limit = omega arith in
    let e : c.fill.new.self ≡ replicate m 0 = c.fill.ensures.after (λ y e. e) ∙ ap (λ (k : ℕ). replicate k 0) (part_length c.args.w.now c.args.n m (omega arith)) in
    rw (put_mid-paste c.args.n m c.args.w.now c.fill.new.self (replicate m 0) m e refl (sym (length-replicate m 0)))
    (filled_rest c.args.c.now c.args.w.now c.args.n m c.requires.0 room c.requires.2 c.requires.3)
