-- What the definition of a cell says: at most one action, 0 exactly where there is none, and one number for the same actions.
use Prim.Native.Nat.{ℕ, ◌≤◌, ◌<◌}
use mathlib.Core.Path.{◌≡◌, refl, sym, ◌∙◌}
use mathlib.Core.Logic.{◌↔◌, ◌≢◌}
use native.Mathlib.Omega.{arith}
use native.Mathlib.Decide.{ℕ_discrete}
use Rattle.grammar.specs.Grammar.{Grammar}
use Rattle.tables.specs.Conflicts.{Single}
use Rattle.tables.specs.Layout.{reduction}
use Rattle.lr.specs.Items.{Lookahead}
use Rattle.lr.specs.Cells.{Action, shifts, reduces, accepts, Cell}

module _ (g : Grammar) {next : ℕ → ℕ → ℕ} {q m : ℕ} where
  -- no action is 0
  pub action_some : {v : ℕ} → Action g next q m v → v ≢ 0
  action_some (shifts h nz) e = nz e
  action_some (reduces r h l) e = omega arith
  action_some (accepts l) e = omega arith

  pub cell_action : {v c : ℕ} → Cell g next q m c → Action g next q m v → c ≡ v
  cell_action {v} h a = (h.holds v (action_some a)).1 a

  pub action_cell : {c : ℕ} → Cell g next q m c → c ≢ 0 → Action g next q m c
  action_cell {c} h nz = (h.holds c nz).0 refl

  -- one cell holds one action
  pub cell_single : {c : ℕ} → Cell g next q m c → Single (Action g next q m)
  cell_single h = record { only = λ v w a b. sym (cell_action h a) ∙ cell_action h b }

  -- it is 0 exactly where there is none
  pub cell_wrong : {c : ℕ} → Cell g next q m c → (c ≡ 0) ↔ ((v : ℕ) → Action g next q m v → ⊥)
  cell_wrong {c} h = (λ e v a. action_some a (sym (cell_action h a) ∙ e), λ n. go (ℕ_discrete c 0) n)
    where
      go : Dec (c ≡ 0) → ((v : ℕ) → Action g next q m v → ⊥) → c ≡ 0
      go (yes e) n = e
      go (no nz) n = absurd (n c (action_cell h nz))

-- the numbers of states, reductions and acceptance are apart, so that a cell tells which action it holds
module _ (g : Grammar) (few : g.productions ≤ 128) {next : ℕ → ℕ → ℕ} {q m : ℕ} (low : next q m < 1024) where
  reduces_by : {v r : ℕ} → Action g next q m v → v ≡ reduction r → r < g.productions → Lookahead g next q r m
  reduces_by (shifts h nz) e k = absurd (omega arith)
  reduces_by {r = r} (reduces r' h l) e k = let z : r' ≡ r = omega arith in rw z at l
  reduces_by (accepts l) e k = absurd (omega arith)

  pub cell_reduces : {c r : ℕ} → Cell g next q m c → r < g.productions → (c ≡ reduction r) ↔ Lookahead g next q r m
  cell_reduces {r = r} h k = (λ e. reduces_by ((h.holds (reduction r) (λ z. omega arith)).0 e) refl k, λ l. cell_action g h (reduces r k l))

-- cells with the same actions hold the same number
pub cell_same : (g : Grammar) {next next' : ℕ → ℕ → ℕ} {q m c c' : ℕ} → ((v : ℕ) → Action g next q m v → Action g next' q m v) → ((v : ℕ) → Action g next' q m v → Action g next q m v)
    → Cell g next q m c → Cell g next' q m c' → c ≡ c'
cell_same g {c = c} {c' = c'} to from h h' = go (ℕ_discrete c 0)
  where
    go : Dec (c ≡ 0) → c ≡ c'
    go (yes e) = e ∙ sym ((cell_wrong g h').1 (λ v a. (cell_wrong g h).0 e v (from v a)))
    go (no nz) = sym (cell_action g h' (to c (action_cell g h nz)))
