use mathlib.Core.Path.{ap, ◌∙◌}
use Rattle.std.proofs.Common.{◌<◌, ℕ, get_or, arith}
use Rattle.sample_words.specs.Words.{left_key}
use Rattle.sample_words.proofs.WordLaws.{lessen_words, lessen_lower, lessen_still}
use Rattle.sample_words.proofs.lessen.Goals as goal

pub returns-then-from-f : goal.returns-then-from-f
returns-then-from-f c =
    let a = c.args in
    let p = c.requires in
    let found = rw c.within.ensures at c.best-f.ensures in
    let n = c.from.ensures ∙ ap (λ (i : ℕ). get_or a.table.now.lengths i 0) c.left_key-k.ensures.0 in
    (p.3, lessen_still _ _ a.table.now.words _ _ _ _ _ p.0 p.1 p.3 found (omega (arith, n)))

pub returns : goal.returns
returns c =
    let a = c.args in
    let p = c.requires in
    let e = a.table.now.lengths in
    let found = rw c.within.ensures at c.best-f.ensures in
    let i = c.left_key-k.ensures.0 in
    let n = c.from.ensures ∙ ap (λ (i : ℕ). get_or e i 0) i in
    let less : c.best-f.result.sum < get_or e (left_key a.c.now a.u a.r) 0 = omega (arith, n) in
    let l = rw i at c.store.ensures.0 in
    let r = rw i at c.store.ensures.1 in
    (rw (l, r) (lessen_words _ _ _ _ _ _ _ _ p.0 p.1 p.3 found less), rw l (lessen_lower _ _ a.table.now.words _ _ _ _ _ p.0 p.1 p.3 found less _))
