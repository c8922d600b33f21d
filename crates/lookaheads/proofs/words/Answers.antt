use Rattle.std.proofs.Common.{ℕ, length-set, arith, ◌∙◌}
use Rattle.std.proofs.lemmas.List.{length-replicate}
use Rattle.grammar.specs.Card.{productions}
use Rattle.transitions.specs.Data.{Holds}
use Rattle.lookaheads.specs.LooksBack.{LooksBack}
use Rattle.lookaheads.proofs.LookLaws.{few, live_none, live_more, stored, words_all}
use Rattle.lookaheads.proofs.words.Goals as goal

pub loop-r-init : goal.loop-r-init
loop-r-init c = (length-replicate {A = ℕ} 128 0, omega arith, live_none _ _, λ k o i h. absurd (omega arith))

pub returns-then-n-r : goal.returns-then-n-r
returns-then-n-r c =
    let i = c.loop-r.invariant in
    (i.2, λ k o. words_all _ _ _ k _ _ _ _ (c.requires.3 k o) i.2 (λ j h b. c.in-Some.ensures.gap j h (omega (arith, b, c.from-n.ensures ∙ c.productions.ensures))) (i.3 k o))

pub loop-r-preserved : goal.loop-r-preserved
loop-r-preserved c =
    let a = c.args in
    let l = c.loop-r in
    let f = c.in-Some.ensures in
    let many = few _ _ _ c.requires.0.1 in (
      simp length-set l.invariant.0,
      omega (arith, many, c.from-n.ensures, c.productions.ensures),
      live_more _ _ (productions a.c.now) _ _ _ f (omega (arith, c.from-n.ensures, c.productions.ensures)) l.invariant.2,
      λ k o. stored _ l.s (productions a.c.now) _ _ _ f (omega (arith, c.from-n.ensures, c.productions.ensures)) (λ (i v : ℕ). Holds v (LooksBack a.c.now a.w.now a.z.now k a.q i))
          (omega (arith, many, c.from-n.ensures, c.productions.ensures)) (c.lookahead.ensures k o) (l.invariant.3 k o),
    )

pub returns : goal.returns
returns c =
    let i = c.loop-r.invariant in
    (i.2, λ k o. words_all _ _ _ k _ _ _ _ (c.requires.3 k o) i.2 (λ j h b. c.in_default.ensures j h) (i.3 k o))
