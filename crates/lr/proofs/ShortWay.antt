-- The short way of 001: the lookaheads of the merged sets are its look-ahead sets, the unions of Follow over lookback.
use Prim.Native.Nat.{ℕ, ◌<◌}
use mathlib.Core.Path.{◌≡◌, refl, ◌∙◌}
use mathlib.Core.Logic.{◌↔◌, ◌≢◌, ◌⊎◌, inl, inr}
use Rattle.grammar.specs.Grammar.{Grammar, Formed, Symbols}
use Rattle.grammar.proofs.Derive.{derives_yields, yields_derives}
use Rattle.sets.specs.Reach.{Reaches}
use Rattle.lr.specs.Items.{Lookahead}
use Rattle.lr.specs.States.{States}
use Rattle.lr.specs.Relations
use Rattle.lr.specs.Relations.{Union, union, Transition, Direct, shifted, ended, Read, Follow, LA}
use Rattle.lr.proofs.ItemLaws.{AllProductive}
use Rattle.lr.proofs.Paths.{Has, state_automaton}
use Rattle.lr.proofs.RelationLaws.{ReadFrom, direct, through, FollowOf, ends, reads, includes, Reached, LAOf, lookahead_la, la_lookahead}

abbrev at : ℕ → ℕ → Transition
at p x = record { state = p; symbol = x }

ahead : {A : Type 0} {R : A → A → Type 0} {F : A → ℕ → Type 0} {a c : A} {b : ℕ} → R a c → Union R F c b → Union R F a b
ahead r (union s f) = union (Reaches.step r s) f

module _ (g : Grammar) (next : ℕ → ℕ → ℕ) where
  -- Read is what is read from the state entered; and the end marker for the first transition
  read_of : {q b : ℕ} → ReadFrom g next q b → (p x : ℕ) → next p x ≡ q → next p x ≢ 0 → Read g next (at p x) b
  read_of (direct h k nz) p x e ne = union Reaches.here (shifted h k (rw e nz))
  read_of (through {q} {x = y} n nz r) p x e ne =
      ahead {c = at q y} (record { enters = e; some = ne; move = nz; nullable = yields_derives g n }) (read_of r q y refl nz)

  of_read : {t u : Transition} {b : ℕ} → Reaches (Relations.Reads g next) t u → Direct g next u b → next t.state t.symbol ≢ 0 → FollowOf g next t.state t.symbol b
  of_read {t} {u} {b} s d nz = go (from s d)
    where
      -- a transition that is read leaves no state 0, so only the first has the end marker
      from : {t u : Transition} → Reaches (Relations.Reads g next) t u → Direct g next u b → ReadFrom g next (next t.state t.symbol) b ⊎ ((t.state ≡ 0) × (t.symbol ≡ g.terminals) × (b ≡ 0))
      from Reaches.here (shifted h k nz) = inl (direct h k nz)
      from Reaches.here (ended e k z) = inr (e, k, z)
      from (Reaches.step {b = v} r s) d = on r (from s d)
        where
          on : {t v : Transition} → Relations.Reads g next t v → ReadFrom g next (next v.state v.symbol) b ⊎ ((v.state ≡ 0) × (v.symbol ≡ g.terminals) × (b ≡ 0))
              → ReadFrom g next (next t.state t.symbol) b ⊎ ((t.state ≡ 0) × (t.symbol ≡ g.terminals) × (b ≡ 0))
          on r (inl x) = inl (rw r.enters (through (derives_yields g r.nullable Symbols.none).1 r.move x))
          on r (inr z) = absurd (r.some (r.enters ∙ z.0))

      go : ReadFrom g next (next t.state t.symbol) b ⊎ ((t.state ≡ 0) × (t.symbol ≡ g.terminals) × (b ≡ 0)) → FollowOf g next t.state t.symbol b
      go (inl r) = reads nz r
      go (inr z) = rw (z.0, z.1, z.2) ends

  follow_of : {p x b : ℕ} → FollowOf g next p x b → Follow g next (at p x) b
  follow_of ends = union Reaches.here (union Reaches.here (ended refl refl refl))
  follow_of {p} {x} (reads nz r) = union Reaches.here (read_of r p x refl nz)
  follow_of (includes {p} {p'} {x} {s = s} β₁ β₂ h e n l nz f) =
      ahead {c = at p' (g.left s)} (record { production = s; front = β₁; behind = β₂; below = h; right = e; nullable = yields_derives g n; leads = l; left = refl; move = nz }) (follow_of f)

  of_follow : {t u : Transition} {b : ℕ} → Reaches (Relations.Includes g next) t u → Read g next u b → next t.state t.symbol ≢ 0 → FollowOf g next t.state t.symbol b
  of_follow Reaches.here (union s d) nz = of_read s d nz
  of_follow (Reaches.step i s) r nz = on i (of_follow s r i.move)
    where
      on : {t v : Transition} {b : ℕ} → Relations.Includes g next t v → FollowOf g next v.state v.symbol b → FollowOf g next t.state t.symbol b
      on i f = includes i.front i.behind i.below i.right (derives_yields g i.nullable Symbols.none).1 i.leads (rw i.left at i.move) (rw i.left at f)

  la_same : (q s b : ℕ) → s < g.productions → LAOf g next q s b ↔ LA g next q s b
  la_same q s b h = (
    λ l. record { transition = at l.from (g.left s); looks = record { below = h; left = refl; move = l.move; leads = l.leads }; follows = follow_of l.follows },
    λ l. (let t = l.looks in record { from = l.transition.state; move = rw t.left at t.move; leads = t.leads; follows = rw t.left at (back t.move l.follows) }),
  )
    where
      back : {t : Transition} → next t.state t.symbol ≢ 0 → Follow g next t b → FollowOf g next t.state t.symbol b
      back nz (union s r) = of_follow s r nz

-- for the numbered states of the definition; transitions leave only its states
pub short_way : (g : Grammar) → Formed g → AllProductive g → (count : ℕ) (next : ℕ → ℕ → ℕ) → States g count next → ((q x : ℕ) → next q x ≢ 0 → q < count)
    → (q s m : ℕ) → s < g.productions → Lookahead g next q s m ↔ LA g next q s m
short_way g f pr count next st inside q s m h =
    let au = state_automaton g f pr count next st in
    let e = la_same g next q s m h in
    (λ a. e.0 (lookahead_la g f pr count (Has g next) next au h a), λ l. la_lookahead g f pr count (Has g next) next au reached h (e.1 l))
  where
    reached : (q x : ℕ) → next q x ≢ 0 → Reached g next q
    reached q x nz = let t = st.every q (inside q x nz) in record { path = t.0; viable = t.1; leads = t.2 }
