-- The numbers of the refusal, as many as it has.
use Rattle.std.proofs.Common.{◌≡◌, length, sym, Err, arith}
use Rattle.std.proofs.Math.Seq.{length-take-le}
use Rattle.response.proofs.Counted.{few, those}
use Rattle.response.proofs.refusal.Goals as goal

pub slice_bounds-refusal-end : goal.slice_bounds-refusal-end
slice_bounds-refusal-end c =
    let five : length c.numbers-n.result ≡ 5 = omega arith in
    sym (length-take-le _ _ (omega (arith, few c.args.refused, c.count.ensures)))

pub returns-clause-result_after : goal.returns-clause-result_after
returns-clause-result_after c = rw (those (Err c.args.refused) _ _ c.numbers-n.ensures c.count.ensures) at c.refusal.ensures.result_after
