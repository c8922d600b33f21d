-- What comes of a shift, and of a reduction: its goto, and the shift to it.
use Prim.Native.Nat.{ℕ, suc, ◌+◌, ◌-◌, ◌*◌, ◌<◌, ◌≤◌}
use mathlib.Core.Path.{◌≡◌, refl, sym, ◌∙◌}
use mathlib.Core.List.{List, ◌∷◌}
use lib.ListN.{length, drop, get_or, set, drop_of_length-le}
use native.Mathlib.Omega.{arith}
use Rattle.tables.specs.Layout.{states, productions, left_of, length_of, cell_of}
use Rattle.tables.specs.declared.Shape.{Shape}
use Rattle.tables.proofs.Places.{cell_in}
use Rattle.machine.specs.LrMachine.{pops_all, no_next}
use Rattle.machine.proofs.Checked.{left_passed, goto_passed, cell_within}
use Rattle.unlisted_steps.specs.Spot.{Readable, Stands, Standing, Shifts, Reduces}
use Rattle.unlisted_steps.specs.declared.Spot.{Spot}
use Rattle.unlisted_steps.specs.declared.Stop.{Stop}
use Rattle.unlisted_steps.specs.declared.Stop.TheVariants.{Full, Broken}
use Rattle.std.specs.Prelude.{Result, Ok, Err}
use Rattle.machine.proofs.Shifts.{below_top}
use Rattle.unlisted_steps.proofs.Area.{pushed, drops, popped}

-- ---- a shift

module _ {t st : List ℕ} {s : Spot} {q : ℕ} {qs : List ℕ} (h : Stands t st s q qs) {a : ℕ} (b : a < states t) where
  pub shift_goes : 0 < s.left → s.depth < length st → Shifts t (set st s.depth a) s q qs a (Ok (record { depth = s.depth + 1; left = s.left - 1; top = a }))
  shift_goes more k = Shifts.moved (pushed h a (s.left - 1) b k) (omega arith)

  pub shift_full : length st ≤ s.depth → Shifts t st s q qs a (Err Full)
  shift_full k = Shifts.full (omega (arith, h.deep, h.within))

-- ---- the goto of a reduction

module _ {t cs : List ℕ} {z : Shape} (g : Readable t cs z) {under r : ℕ} (u : under < states t) (k : r < productions t) {l : ℕ} (el : l ≡ left_of t r) where
  pub goto_in : under * z.width + l < length cs
  goto_in = rw (g.rows, el) (cell_within g.checked g.shaped under (left_of t r) u (left_passed g.checked r k).1)

  pub goto_is : {v : ℕ} → v ≡ get_or cs (under * z.width + l) 0 → (v ≡ cell_of t under (left_of t r)) × (v < states t)
  goto_is {v} ev =
      let lp = left_passed g.checked r k in
      let e : v ≡ cell_of t under (left_of t r) = ev ∙ rw (g.rows, el) (cell_in g.shaped under (left_of t r)) in
      (e, rw e (goto_passed g.checked under (left_of t r) u lp.0 lp.1))

-- the state under n popped ones is one of the table
pub under_in : {t st : List ℕ} {s : Spot} {n : ℕ} → Standing t st s → n < s.depth → get_or st (s.depth - n - 1) 0 < states t
under_in h k = below_top (popped h.stands k 0).below

-- ---- a reduction by production r, whose length is n

module _ {t st : List ℕ} {s : Spot} {q : ℕ} {qs : List ℕ} (h : Stands t st s q qs) (r n : ℕ) (en : n ≡ length_of t r) where
  pub pops_bottom : s.depth ≤ n → Reduces t st s q qs r (Err Broken)
  pops_bottom k = Reduces.broken (pops_all (rw (← en) (drop_of_length-le (q ∷ qs) {i = n} (omega (arith, h.deep)))))

  module _ (k : n < s.depth) {v : ℕ} (ev : v ≡ cell_of t (get_or st (s.depth - n - 1) 0) (left_of t r)) where
    drops_by : drop (length_of t r) (q ∷ qs) ≡ get_or st (s.depth - n - 1) 0 ∷ drop (suc n) (q ∷ qs)
    drops_by = rw (← en) (drops h k)

    pub no_goto : v ≡ 0 → Reduces t st s q qs r (Err Broken)
    no_goto e = Reduces.broken (no_next _ _ drops_by (sym ev ∙ e))

    -- with the n states popped, a reduction is the shift to its goto
    pub goto_shifts : (v ≡ 0 → ⊥) → {st' : List ℕ} {x : Result Spot Stop}
        → Shifts t st' (record { depth = s.depth - n; left = s.left; top = get_or st (s.depth - n - 1) 0 }) (get_or st (s.depth - n - 1) 0) (drop (suc n) (q ∷ qs)) v x
        → Reduces t st' s q qs r x
    goto_shifts nz (Shifts.moved {n = w} m e) = Reduces.moved {n = w} _ _ drops_by (rw (← ev) (omega arith)) (rw (← ev) m) e
    goto_shifts nz (Shifts.full e) = Reduces.full _ _ drops_by (rw (← ev) (omega arith)) e

-- ---- a reduction by production r, whose length is 0: from the top

pub top_in : {t st : List ℕ} {s : Spot} → Standing t st s → s.top < states t
top_in h = rw h.stands.top_is (below_top h.stands.below)

module _ {t st : List ℕ} {s : Spot} {q : ℕ} {qs : List ℕ} (h : Stands t st s q qs) (r : ℕ) (en : length_of t r ≡ 0) {v : ℕ} (ev : v ≡ cell_of t s.top (left_of t r)) where
  drops_none : drop (length_of t r) (q ∷ qs) ≡ q ∷ qs
  drops_none = rw en refl

  goes_to : v ≡ cell_of t q (left_of t r)
  goes_to = rw h.top_is at ev

  pub empty_none : v ≡ 0 → Reduces t st s q qs r (Err Broken)
  empty_none e = Reduces.broken (no_next q qs drops_none (sym goes_to ∙ e))

  pub empty_shifts : (v ≡ 0 → ⊥) → {st' : List ℕ} {x : Result Spot Stop} → Shifts t st' s q qs v x → Reduces t st' s q qs r x
  empty_shifts nz (Shifts.moved {n = w} m e) = Reduces.moved {n = w} q qs drops_none (rw (← goes_to) (omega arith)) (rw (← goes_to) m) e
  empty_shifts nz (Shifts.full e) = Reduces.full q qs drops_none (rw (← goes_to) (omega arith)) e
