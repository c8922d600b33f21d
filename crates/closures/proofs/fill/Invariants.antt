use Rattle.std.proofs.Common.{◌≡◌, ◌≤◌, length}
use Rattle.items.specs.Item.{item_limit}
use Rattle.grammar.specs.Card.{start_of}
use Rattle.closures.specs.Numbers.{first_of}
use Rattle.closures.specs.Areas.{Filled, Kept}
use Rattle.closures.proofs.fill.Given as goal

abbrev pub invariant-loop-r : goal.invariant-loop-r
invariant-loop-r l =
    Filled l.c l.w (first_of l.c l.r) × (l.s ≡ start_of l.c l.r) × (item_limit ≤ length l.w) × (length l.w ≡ length l.initial.w) × Kept l.initial.w item_limit l.w
