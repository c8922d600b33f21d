-- Demand 3 for any list that is the grammar's table, with anything behind it in its area.
use Prim.Native.Nat.{ℕ, ◌<◌, ◌≤◌}
use mathlib.Core.List.{List, ◌++◌}
use Rattle.grammar.specs.Grammar.{Grammar, Formed, Symbols}
use Rattle.lr.specs.Cells.{Table}
use Rattle.lr.proofs.ItemLaws.{AllProductive}
use Rattle.machine.specs.Exploration.{Explored}
use Rattle.machine.specs.ComputedRun.{reading, restricted_reading}
use Rattle.claim.specs.RestrictedClaim.{RestrictedDemand3}
use Rattle.claim.proofs.Means.{Limits}
use Rattle.claim.proofs.Meaning.{table_means}
use Rattle.claim.proofs.Offers.{unbroken}
use Rattle.claim.proofs.ClaimLaws.{Demand3, demand_3}
use Rattle.claim.proofs.RestrictedClaims.{restricted_demand_3}

pub claim : (g : Grammar) → Formed g → AllProductive g → Limits g → (count : ℕ) (next : ℕ → ℕ → ℕ) (l : List ℕ) → Table g count next l → count ≤ 256
    → (behind input stack list second : List ℕ) (limit : ℕ) → Demand3 g input (reading (l ++ behind) input stack list second limit)
claim g f pr li count next l tb few behind = demand_3 g f pr li (l ++ behind) (table_means g f pr li count next l tb few behind)

-- and for a choir's reading
pub restricted_claim : (g : Grammar) → Formed g → AllProductive g → Limits g → (count : ℕ) (next : ℕ → ℕ → ℕ) (l : List ℕ) → Table g count next l → count ≤ 256
    → (behind : List ℕ) (closed : ℕ) (input stack list second : List ℕ) (limit : ℕ) → RestrictedDemand3 g closed input (restricted_reading (l ++ behind) closed input stack list second limit)
restricted_claim g f pr li count next l tb few behind = restricted_demand_3 g f pr li (l ++ behind) (table_means g f pr li count next l tb few behind)

-- "With the maker's table 35 never comes", in a fresh reading neither
pub fresh_unbroken : (g : Grammar) → Formed g → AllProductive g → Limits g → (count : ℕ) (next : ℕ → ℕ → ℕ) (l : List ℕ) → Table g count next l → count ≤ 256
    → (behind line : List ℕ) → Symbols g.terminals line → (limit second m : ℕ) → m < g.terminals → Explored (l ++ behind) limit second line m 35 → ⊥
fresh_unbroken g f pr li count next l tb few behind line s limit second m h x = unbroken g f pr li (l ++ behind) (table_means g f pr li count next l tb few behind) s h x
