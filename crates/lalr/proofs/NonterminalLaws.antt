-- The computed nonterminals mean what the paper says: can derive the empty string, derives some string of terminals.
use mathlib.Core.Path.{◌≡◌, refl, sym, ◌∙◌, subst}
use mathlib.Core.Bool.{Bool, true, false}
use mathlib.Core.Logic.{◌↔◌}
use mathlib.Core.List.{List, [], ◌∷◌}
use Prim.Native.Nat.{ℕ, ◌+◌, ◌-◌, ◌^◌, ◌≤◌, ◌<◌}
use native.Mathlib.Omega.{arith}
use native.Mathlib.Nat.{le_refl}
use lib.Pow.{pow_pos}
use Rattle.grammar.specs.Grammar.{Grammar, Formed, Derives}
use Rattle.grammar.specs.Useful.{Productive}
use Rattle.grammar.proofs.Closed
use Rattle.sets.specs.Bit.{bit}
use Rattle.lalr.specs.ComputedSets.{with', with_all, sweep}
use Rattle.lalr.specs.ComputedSets.{every}
use Rattle.lalr.specs.ComputedNonterminals.{size, learn, learned, nullables, productive}
use Rattle.lalr.specs.ComputedSets.{up_from}
use Rattle.sets.proofs.BitLaws.{bit_zero}
use Rattle.lalr.proofs.Members.{All, none, some, has_with_same, with_grows, with_stays, with_keeps, all_stay, all_members}
use Rattle.lalr.proofs.Least.{settle_keeps, least_still}
use Rattle.lalr.proofs.Sweep.{sweep_keeps, sweep_grows, sweep_still}
use Rattle.lalr.proofs.Lists.{not-true, up_in, up_from_is, all_of, all_in, set_of}

pub every_all : (s : ℕ) (l : List ℕ) → every (bit s) l ≡ true → Closed.All (λ x. bit s x ≡ true) l
every_all s [] e = Closed.none
every_all s (x ∷ l) e = go (bit s x) refl (λ k. every_all s l k)
  where
    go : (b : Bool) → bit s x ≡ b → (every (bit s) l ≡ true → Closed.All (λ x. bit s x ≡ true) l) → Closed.All (λ x. bit s x ≡ true) (x ∷ l)
    go true h ih = Closed.more h (ih (rw (h, every) at e))
    go false h ih = absurd (not-true (rw (h, every) at e) refl)

pub all_every : (s : ℕ) {l : List ℕ} → Closed.All (λ x. bit s x ≡ true) l → every (bit s) l ≡ true
all_every s Closed.none = refl
all_every s (Closed.more h a) = rw (h, every) (all_every s a)

all_map : {P Q : ℕ → Type 0} → ((x : ℕ) → P x → Q x) → {l : List ℕ} → Closed.All P l → Closed.All Q l
all_map f Closed.none = Closed.none
all_map f (Closed.more h a) = Closed.more (f _ h) (all_map f a)

module _ (g : Grammar) where
  learn_taken : (r s : ℕ) → every (bit s) (g.right r) ≡ true → learn g r s ≡ with' s (g.left r)
  learn_taken r s e = rw (e, learn)

  learn_grows : (r s : ℕ) → s ≤ learn g r s
  learn_grows r s = go (every (bit s) (g.right r)) refl
    where
      go : (b : Bool) → every (bit s) (g.right r) ≡ b → s ≤ learn g r s
      go true e = rw (e, learn) (with_grows s (g.left r))
      go false e = rw (e, learn) (le_refl s)

  -- what holds of the seed and, by each production, passes from the right side to the left
  module _ (P : ℕ → Type 0) (production : (r : ℕ) → r < g.productions → Closed.All P (g.right r) → P (g.left r)) where
    learn_only : (r s : ℕ) → r < g.productions → ((j : ℕ) → bit s j ≡ true → P j) → (j : ℕ) → bit (learn g r s) j ≡ true → P j
    learn_only r s h p = go (every (bit s) (g.right r)) refl
      where
        go : (b : Bool) → every (bit s) (g.right r) ≡ b → (j : ℕ) → bit (learn g r s) j ≡ true → P j
        go true e j k = all_members P s (some (production r h (all_map p (every_all s (g.right r) e))) none) p j (rw (e, learn) at k)
        go false e j k = p j (rw (e, learn) at k)

    pub learned_only : (s : ℕ) → ((j : ℕ) → bit s j ≡ true → P j) → (j : ℕ) → bit (learned g s) j ≡ true → P j
    learned_only s p =
        settle_keeps (sweep (learn g) g.productions 0) (λ (t : ℕ). (j : ℕ) → bit t j ≡ true → P j)
        (λ t q. sweep_keeps (learn g) (λ (t : ℕ). (j : ℕ) → bit t j ≡ true → P j) g.productions (λ r s h k. learn_only r s h k) g.productions 0 t (omega arith) q) (2 ^ size g) s p

  learn_has : (r s j : ℕ) → bit s j ≡ true → bit (learn g r s) j ≡ true
  learn_has r s j h = go (every (bit s) (g.right r)) refl
    where
      go : (b : Bool) → every (bit s) (g.right r) ≡ b → bit (learn g r s) j ≡ true
      go true e = rw (e, learn) (with_keeps s (g.left r) j h)
      go false e = rw (e, learn) h

  pub learned_start : (s j : ℕ) → bit s j ≡ true → bit (learned g s) j ≡ true
  learned_start s j h =
      settle_keeps (sweep (learn g) g.productions 0) (λ (t : ℕ). bit t j ≡ true)
      (λ t q. sweep_keeps (learn g) (λ (t : ℕ). bit t j ≡ true) g.productions (λ r s h k. learn_has r s j k) g.productions 0 t (omega arith) q) (2 ^ size g) s h

  module _ (f : Formed g) where
    learn_stays : (r s : ℕ) → r < g.productions → s < 2 ^ size g → learn g r s < 2 ^ size g
    learn_stays r s h b = go (every (bit s) (g.right r)) refl
      where
        go : (c : Bool) → every (bit s) (g.right r) ≡ c → learn g r s < 2 ^ size g
        go true e = rw (e, learn) (with_stays (size g) s (g.left r) (f.left_below r h) b)
        go false e = rw (e, learn) b

    pub learned_closed : (s : ℕ) → s < 2 ^ size g → (r : ℕ) → r < g.productions → Closed.All (λ x. bit (learned g s) x ≡ true) (g.right r) → bit (learned g s) (g.left r) ≡ true
    learned_closed s b r h a =
        let t : ℕ = learned g s in
        let still : sweep (learn g) g.productions 0 (learned g s) ≡ learned g s =
        least_still (sweep (learn g) g.productions 0) (size g) (λ t. sweep_grows (learn g) learn_grows g.productions 0 t)
        (λ t u. sweep_keeps (learn g) (λ (t : ℕ). t < 2 ^ size g) g.productions (λ r s h k. learn_stays r s h k) g.productions 0 t (omega arith) u) s b in
        let v : learn g r (learned g s) ≡ learned g s = sweep_still (learn g) learn_grows g.productions 0 (learned g s) still r (omega arith) (omega arith) in
        let w : with' (learned g s) (g.left r) ≡ learned g s = sym (learn_taken r (learned g s) (all_every (learned g s) a)) ∙ v in
        subst (λ (x : ℕ). bit x (g.left r) ≡ true) w (has_with_same (learned g s) (g.left r))

    pub nullables_exact : (x : ℕ) → (bit (nullables g) x ≡ true) ↔ Derives g (x ∷ []) []
    unfolding nullables
    nullables_exact x = (
      learned_only (λ x. Derives g (x ∷ []) []) (Closed.nullable_left g) 0 (λ j e. absurd (not-true e (bit_zero j))) x,
      Closed.nullable_least g (λ x. bit (learned g 0) x ≡ true) (learned_closed 0 (pow_pos (size g))),
    )

    pub productive_exact : (x : ℕ) → (bit (productive g) x ≡ true) ↔ Productive g x
    unfolding productive
    productive_exact x = (
      learned_only (Productive g) (Closed.productive_left g) (with_all 0 (up_from 1 (g.terminals - 1))) first x,
      Closed.productive_least g (λ x. bit (learned g (with_all 0 (up_from 1 (g.terminals - 1)))) x ≡ true) (learned_closed (with_all 0 (up_from 1 (g.terminals - 1))) small) terminals_in,
    )
      where
        first : (j : ℕ) → bit (with_all 0 (up_from 1 (g.terminals - 1))) j ≡ true → Productive g j
        first j e = let t = up_from_is 1 (g.terminals - 1) j (set_of (up_from 1 (g.terminals - 1)) j e) in let a : 1 ≤ j = t.0 in let b : j < 1 + (g.terminals - 1) = t.1 in Closed.productive_terminal g j (omega arith) (omega arith)

        terminals_in : (a : ℕ) → 0 < a → a < g.terminals → bit (learned g (with_all 0 (up_from 1 (g.terminals - 1)))) a ≡ true
        terminals_in a h k = learned_start (with_all 0 (up_from 1 (g.terminals - 1))) a (all_in 0 (up_from 1 (g.terminals - 1)) a (up_in 1 (g.terminals - 1) a (omega arith) (omega arith)))

        small : with_all 0 (up_from 1 (g.terminals - 1)) < 2 ^ size g
        small = all_stay (size g) 0 (all_of (up_from 1 (g.terminals - 1)) (λ j m. let t = up_from_is 1 (g.terminals - 1) j m in let b : j < 1 + (g.terminals - 1) = t.1 in let c : 0 < g.terminals = f.end_marker in omega arith)) (pow_pos (size g))
