use Rattle.std.proofs.Common.{arith, sym, ◌∙◌, ◌≡◌, ℕ, ◌≤◌, ◌<◌, true}
use Rattle.grammar.proofs.CardLaws.{well_formed}
use Rattle.items.specs.Item.{item_limit, item, Next}
use Rattle.sets.proofs.HasLaws.{lt_or_ge}
use Rattle.closures.proofs.ClosureLaws.{advances, some_advanced}
use Rattle.std.proofs.Common.{List}
use mathlib.Core.Bool.{true≢false}
use mathlib.Core.Logic.{⊎_elim}
use Prim.Native.Nat.{zero-le}
use Rattle.states.proofs.target.Goals as goal

-- a set that is not empty has a first item
first_below : (s : List ℕ) (r : ℕ) → Next s 0 r → ((i : ℕ) × (i < item_limit) × (item s i ≡ true)) → r < item_limit
first_below s r q t =
    let l : t.0 < item_limit = t.1 in
    ⊎_elim (λ (g : r < item_limit). g) (λ (g : item_limit ≤ r). absurd (true≢false (sym t.2 ∙ q.gap t.0 zero-le (omega arith)))) (lt_or_ge r item_limit)

pub load-requires : goal.load-requires
load-requires c =
    let wf = well_formed c.args.c.now c.requires.0 in
    omega (arith, wf.limits.terminals_to, wf.limits.nonterminals_to, c.requires.6, c.requires.3.room)

pub place-requires : goal.place-requires
place-requires c =
    let wf = well_formed c.args.c.now c.requires.0 in
    let some = some_advanced c.args.c.now c.args.z.now c.args.s c.args.x wf c.requires.3.masks c.requires.5 c.requires.6 _ _ c.load.ensures c.advance-core.ensures c.requires.7 in
    (c.requires.4, omega (arith, first_below _ _ c.next.ensures some), c.requires.3.room)

pub returns : goal.returns
returns c =
    let wf = well_formed c.args.c.now c.requires.0 in
    let some = some_advanced c.args.c.now c.args.z.now c.args.s c.args.x wf c.requires.3.masks c.requires.5 c.requires.6 _ _ c.load.ensures c.advance-core.ensures c.requires.7 in
    record {
      set = c.closure-d.result;
      goes = record {
        core = c.advance-core.result;
        advanced = advances c.args.c.now c.args.z.now c.args.s c.args.x wf c.requires.3.masks c.requires.5 c.requires.6 _ _ c.load.ensures c.advance-core.ensures;
        some = some;
        closed = c.closure-d.ensures;
      };
      placed = c.place.ensures;
    }
