use Rattle.std.proofs.Common.{◌≡◌, ℕ, ◌+◌, ◌*◌, ◌/◌, ◌%◌, ◌^◌, List, get_or, set, length-set, refl, sym, subst, ◌∙◌, arith}
use Rattle.std.proofs.lemmas.List.{length-replicate}
use lib.Bits.{bit_or}
use Rattle.sets.proofs.BitLaws.{one_shl}
use Rattle.items.specs.Item.{put}
use Rattle.grammar.specs.Card.{start_of}
use Rattle.transitions.proofs.SymbolLaws.{right_fits, start_more}
use Rattle.lookaheads.specs.Joins.{Keyed}
use Rattle.lookaheads.proofs.LookLaws.{key_place, keyed_more}
use Rattle.lookaheads.proofs.keys.Goals as goal

pub loop-r-init : goal.loop-r-init
unfolding start_of
loop-r-init c = (length-replicate {A = ℕ} 512 0, refl, λ r v h. absurd (omega arith))

pub key-requires : goal.key-requires
key-requires c = omega (arith, right_fits _ c.loop-r.r c.requires (omega arith), c.loop-r.invariant.1, c.from-d.ensures, c.length.ensures)

pub bounds-s-i : goal.bounds-s-i
bounds-s-i c = omega (arith, key_place _ c.loop-r.r _ c.requires (omega arith) (c.key.ensures c.loop-r.invariant.1 (c.from-d.ensures ∙ c.length.ensures)), c.from.ensures)

pub bounds-s-i-in-loop-r : goal.bounds-s-i-in-loop-r
bounds-s-i-in-loop-r c = omega (arith, key_place _ c.loop-r.r _ c.requires (omega arith) (c.key.ensures c.loop-r.invariant.1 (c.from-d.ensures ∙ c.length.ensures)), c.from.ensures)

pub overflow_add-b : goal.overflow_add-b
overflow_add-b c = omega (arith, right_fits _ c.loop-r.r c.requires (omega arith), c.loop-r.invariant.1, c.from-d.ensures, c.length.ensures)

pub loop-r-preserved : goal.loop-r-preserved
unfolding put
loop-r-preserved c =
    let l = c.loop-r in
    let i = 128 * c.key.result + c.from.result in
    let key = c.key.ensures l.invariant.1 (c.from-d.ensures ∙ c.length.ensures) in
    let place = key_place _ l.r _ c.requires (omega arith) key in
    let e : set l.s (i / 64) (bit_or (get_or l.s (i / 64) 0) ((1 * 2 ^ (i % 64)) % 2 ^ 64)) ≡ put l.s i = rw (one_shl 64 (i % 64) (omega arith)) in (
      simp length-set l.invariant.0,
      start_more _ _ _ _ l.invariant.1 (c.from-d.ensures ∙ c.length.ensures),
      subst (λ (x : List ℕ). Keyed c.args.c.now x (l.r + 1)) (sym e)
          (keyed_more _ l.s l.r c.key.result i key (omega (arith, c.from.ensures)) (omega (arith, place, c.from.ensures)) l.invariant.2),
    )
