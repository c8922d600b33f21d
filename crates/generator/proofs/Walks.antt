-- The two walks after the direct reads, and that their sets hold terminals only.
use mathlib.Core.Path.{◌≡◌, ◌∙◌}
use mathlib.Core.Logic.{inl, inr}
use mathlib.Core.Bool.{true}
use mathlib.Core.List.{List}
use Prim.Native.Nat.{ℕ, ◌+◌, ◌≤◌, ◌<◌}
use native.Mathlib.Omega.{arith}
use lib.ListN.{get_or}
use Rattle.sets.specs.Bit.{bit}
use Rattle.grammar.specs.Card.{terminals}
use Rattle.grammar.proofs.CardLaws.{well_formed}
use Rattle.transitions.specs.Places.{transition_limit, shifts_at}
use Rattle.transitions.specs.Data.{Ordered, Data, Direct, Begun}
use Rattle.relations.specs.Edge.{Edge}
use Rattle.relations.specs.declared.Relation.TheVariants as relation
use Rattle.completion.proofs.Laws.{reaches_inside}
use Rattle.digraph.specs.Walked.{Walked}
use Rattle.generator.specs.Phases.{Complete}

pub walk_ready : (c w : List ℕ) (n k r : ℕ) (next : ℕ → ℕ → ℕ) → Data c w n k next → r ≡ k → Ordered c w r × (r ≤ transition_limit)
walk_ready c w n k r next d h = rw h (d.ordered, d.ordered.few)

pub both_walks : (c w : List ℕ) (n k r : ℕ) (next : ℕ → ℕ → ℕ) (z₀ z₁ z₂ z₃ : List ℕ) → r ≡ k → n ≤ 256 → Begun c w n k next z₀ z₁ → Walked (Edge relation.Reads c w r) r z₁ z₂ → Walked (Edge relation.Includes c w r) r z₂ z₃ → Complete c w n k next z₀ z₃
both_walks c w n k r next z₀ z₁ z₂ z₃ h few b x y =
    record {
      begun = z₁;
      direct = b.direct;
      walks = record { between = z₂; first = rw h at x; second = rw h at y };
      shifts = λ q l. rw (y.rest (shifts_at + q) (omega arith) ∙ x.rest (shifts_at + q) (omega arith)) (b.shifts q l);
      beyond = λ i l. y.rest i (omega arith) ∙ x.rest i (omega arith) ∙ b.rest i (omega arith);
      long = y.size ∙ x.size ∙ b.long;
    }

-- the sets after both walks hold terminals only
pub sets_terminals : (c w : List ℕ) (n k : ℕ) (next : ℕ → ℕ → ℕ) (z₀ z : List ℕ) → Ordered c w k → Complete c w n k next z₀ z → (i m : ℕ) → i < k → bit (get_or z i 0) m ≡ true → m < terminals c
sets_terminals c w n k next z₀ z o co i m h b =
    let f = co.walks.second.sets.only i m h b in
    let below = reaches_inside (λ v u l e. e.inside) h f.1 in
    let d = co.walks.first.sets.only f.0 m below f.2 in
    let below' = reaches_inside (λ v u l e. e.inside) below d.1 in
    go ((co.direct d.0 below').only m d.2)
  where
    go : {u : ℕ} → Direct c w next u m → m < terminals c
    go (inl s) = omega (arith, s.0, (well_formed c o.formed).limits.terminals_from)
    go (inr s) = s.high
