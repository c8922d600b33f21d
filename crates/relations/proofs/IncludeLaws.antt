-- The edges of includes: the occurrences of one nonterminal, and for each the states from which it leads to a state.
use mathlib.Core.Path.{◌≡◌, sym, ap, ◌∙◌, subst}
use mathlib.Core.List.{List}
use mathlib.Core.Bool.{not, ◌&&◌, false≢true}
use mathlib.Core.Logic.{◌⊎◌, inl, inr, ⊎_elim}
use Prim.Native.Nat.{ℕ, suc, ◌+◌, ◌-◌, ◌≤◌, ◌<◌}
use native.Mathlib.Omega.{arith}
use native.Mathlib.Nat.{eq-or-lt_of_le}
use lib.Dec.{eqb}
use Rattle.sets.proofs.CountLaws.{count_le}
use Rattle.sets.proofs.HasLaws.{lt_or_ge}
use Rattle.items.specs.Item.{item}
use Rattle.grammar.specs.Card.{terminals, left_of}
use Rattle.state_sets.specs.Words.{Lowest}
use Rattle.state_sets.proofs.WordLaws.{out_in, out_or, out_less}
use Rattle.std.specs.Prelude.{None}
use Rattle.transitions.specs.Area.{leaves_of, nonterminal_of, production_of, dot_of, link_of, last_of, occurrences_of, shortest_of}
use Rattle.transitions.specs.Occurrences.{symbol_at, occurring_of, Latest, Occurs}
use Rattle.transitions.specs.Data.{Ordered}
use Rattle.relations.specs.Path.{Leads, States}
use Rattle.relations.specs.Edge.{Includes}
use Rattle.relations.specs.Walk.{Through, Remains, Stands, room_of, Firsts, Next}
use Rattle.relations.specs.Walk.Remains.{now, later}
use Rattle.relations.specs.Steps.{Opens, Leaves, Index}
use Rattle.relations.specs.declared.Relation.TheVariants as relation
use Rattle.relations.specs.declared.Cursor.{Cursor}

module _ (c w : List ℕ) (k x : ℕ) (O : Ordered c w k) where
  -- a cursor at the latest occurrence below m has those below m to give
  module _ (m a : ℕ) (L : Latest c w (nonterminal_of w x) m a) (s : List ℕ) (S : States s (Opens c w (leaves_of w x) a)) where
    arrive : (y o : ℕ) → y < k → o < m → occurring_of c w o ≡ nonterminal_of w x → Through c w x y o → Remains c w x a s y
    arrive y o hy h e t =
        ⊎_elim
        (λ (g : a ≤ o). absurd (L.gap o g h e))
        (λ (g : suc o ≤ a).
        ⊎_elim
        (λ (f : suc o ≡ a).
        let z : a - 1 ≡ o = omega arith in
        now (omega arith)
        (S.all (leaves_of w y) (O.leaves y hy) (record { some = omega arith; leads = subst (λ (i : ℕ). Leads c w (production_of w i) (dot_of w i) (leaves_of w x) (leaves_of w y)) (sym z) t.leads }))
        (subst (λ (i : ℕ). left_of c (production_of w i) ≡ nonterminal_of w y) (sym z) t.left))
        (λ (f : suc o < a). later o (omega arith) e t)
        (eq-or-lt_of_le g))
        (lt_or_ge' a o)
      where
        lt_or_ge' : (a o : ℕ) → (a ≤ o) ⊎ (suc o ≤ a)
        lt_or_ge' a o = ⊎_elim (λ h. inr h) (λ h. inl h) (lt_or_ge o a)

    stands : m ≤ occurrences_of w → Stands c w x a s
    stands h = record {
      within = omega (arith, L.most);
      symbol = λ l. L.here l;
      members = λ p l g. let o = S.only p l g in (o.some, o.leads);
    }

  pub latest_of : (t at : ℕ) → x < k → t ≡ terminals c → at ≡ last_of w (nonterminal_of w x - t) → Latest c w (nonterminal_of w x) (occurrences_of w) at
  latest_of t at h et ea =
      let l = O.low x h in
      let g = O.high x h in
      let e : terminals c + (nonterminal_of w x - t) ≡ nonterminal_of w x = omega arith in
      rw ea (subst (λ (z : ℕ). Latest c w z (occurrences_of w) (last_of w (nonterminal_of w x - t))) e (O.occurrences.last (nonterminal_of w x - t) (omega arith)))

  pub includes_first : (r : Cursor) → Latest c w (nonterminal_of w x) (occurrences_of w) r.at → States r.set (Opens c w (leaves_of w x) r.at) → Firsts relation.Includes c w k x r
  unfolding occurring_of
  includes_first r L S = record {
    sound = stands (occurrences_of w) r.at L r.set S (omega arith);
    all = λ y d. record { inside = d.inside; remaining = go y d.inside d.related };
  }
    where
      go : (y : ℕ) → y < k → Includes c w x y → Remains c w x r.at r.set y
      go y h i =
          let t = O.occurrences.all i.production i.dot i.occurs in
          let o = t.0 in
          let ep : production_of w o ≡ i.production = t.2 in
          let ed : dot_of w o ≡ i.dot = t.3 in
          arrive (occurrences_of w) r.at L r.set S y o h t.1
          (ap (λ (z : ℕ). symbol_at c z (dot_of w o)) ep ∙ ap (symbol_at c i.production) ed ∙ i.symbol)
          (record { left = ap (left_of c) ep ∙ i.left; leads = subst (λ (z : ℕ). Leads c w z (dot_of w o) (leaves_of w x) (leaves_of w y)) (sym ep) (subst (λ (z : ℕ). Leads c w i.production z (leaves_of w x) (leaves_of w y)) (sym ed) i.leads) })

-- what a call at occurrence a - 1 asks
pub occurs_at : (c w : List ℕ) (k a : ℕ) → Ordered c w k → (a ≡ 0 → ⊥) → a ≤ occurrences_of w → Occurs c (shortest_of w) (production_of w (a - 1)) (dot_of w (a - 1))
occurs_at c w k a O n h = O.occurrences.occurs (a - 1) (omega arith)

-- the walk from the cursor at (a₀, s₀) has come to (a, s) with no edge lost
pub record Reached (c w : List ℕ) (x a₀ : ℕ) (s₀ : List ℕ) (a : ℕ) (s : List ℕ) : Type 0 where
  pub stands : Stands c w x a s
  pub kept : (k y : ℕ) → Ordered c w k → y < k → Remains c w x a₀ s₀ y → Remains c w x a s y
  pub less : room_of relation.Includes w x a s ≤ room_of relation.Includes w x a₀ s₀

module _ (c w : List ℕ) (x a₀ : ℕ) (s₀ : List ℕ) (a : ℕ) (s : List ℕ) (R : Reached c w x a₀ s₀ a s) where
  pub reached_end : (k : ℕ) → Ordered c w k → a ≡ 0 → (y : ℕ) → y < k → Remains c w x a₀ s₀ y → ⊥
  reached_end k O z y h r = go (R.kept k y O h r)
    where
      go : Remains c w x a s y → ⊥
      go (now l i e) = omega arith
      go (later o l e t) = omega arith

  -- a state of the set is taken
  module _ (p : ℕ) (low : Lowest s p) (h : p < 256) (s' : List ℕ) (e : (k : ℕ) → item s' k ≡ (item s k && not (eqb p k))) where
    took : (z : ℕ) → Remains c w x a s z → ((leaves_of w z ≡ p) × (left_of c (production_of w (a - 1)) ≡ nonterminal_of w z)) ⊎ Remains c w x a s' z
    took z (now g i f) = ⊎_elim (λ (q : leaves_of w z ≡ p). inl (q, f)) (λ q. inr (now g q f)) (out_or s s' p (low.here h) e (leaves_of w z) i)
    took z (later o g f t) = inr (later o g f t)

    stays : Stands c w x a s'
    stays = record { within = R.stands.within; symbol = R.stands.symbol; members = λ q l g. R.stands.members q l (out_in s s' p (low.here h) e q g) }

    pub fewer : room_of relation.Includes w x a s' < room_of relation.Includes w x a s
    unfolding room_of
    fewer = let n = out_less s s' p (low.here h) e 256 h in omega arith

    pub reached_skip : ((k : ℕ) → Ordered c w k → Index w k p (left_of c (production_of w (a - 1))) None) → Reached c w x a₀ s₀ a s'
    reached_skip none = record {
      stands = stays;
      kept = λ k z O l r. ⊎_elim (λ q. absurd (none k O z l q.0 (sym q.1))) (λ q. q) (took z (R.kept k z O l r));
      less = omega (arith, fewer, R.less);
    }

    pub reached_found : (y k : ℕ) → Ordered c w k → Leaves w k p (left_of c (production_of w (a - 1))) y → 0 < a → (cursor : Cursor) → cursor.at ≡ a₀ → cursor.set ≡ s₀
        → Next relation.Includes c w k x cursor (record { node = y; cursor = record { at = a; set = s' } })
    unfolding room_of occurring_of
    reached_found y k O i g cursor ea es =
        let leads = (R.stands.members p h (low.here h)).1 in
        let last : a - 1 < occurrences_of w = omega (arith, R.stands.within) in
        record {
          here = record {
            inside = i.inside;
            related = record {
              production = production_of w (a - 1);
              dot = dot_of w (a - 1);
              occurs = O.occurrences.occurs (a - 1) last;
              symbol = R.stands.symbol g;
              left = sym i.symbol;
              leads = subst (λ (q : ℕ). Leads c w (production_of w (a - 1)) (dot_of w (a - 1)) (leaves_of w x) q) (sym i.state) leads;
            };
          };
          after = λ z d.
              ⊎_elim (λ q. inl (i.only z d.inside q.0 (sym q.1))) (λ q. inr (record { inside = d.inside; remaining = q }))
              (took z (R.kept k z O d.inside (rw (ea, es) at d.remaining)));
          less = rw (ea, es) (omega (arith, fewer, R.less));
          sound = stays;
        }

  -- the next occurrence
  pub reached_link : (k p : ℕ) (s' : List ℕ) → Ordered c w k → 0 < a → Lowest s p → 256 ≤ p → States s' (Opens c w (leaves_of w x) (link_of w (a - 1)))
      → (room_of relation.Includes w x (link_of w (a - 1)) s' < room_of relation.Includes w x a s) × Reached c w x a₀ s₀ (link_of w (a - 1)) s'
  unfolding room_of
  reached_link k p s' O g low h S = (
    shorter,
    record {
      stands = stands c w k x O (a - 1) (link_of w (a - 1)) L s' S (omega arith);
      kept = λ k z O l r. go k z O l (R.kept k z O l r);
      less = omega (arith, shorter, R.less);
    },
  )
    where
      last : a - 1 < occurrences_of w
      last = omega (arith, R.stands.within)

      L : Latest c w (nonterminal_of w x) (a - 1) (link_of w (a - 1))
      L = subst (λ (z : ℕ). Latest c w z (a - 1) (link_of w (a - 1))) (R.stands.symbol g) (O.occurrences.link (a - 1) last)

      shorter : room_of relation.Includes w x (link_of w (a - 1)) s' < room_of relation.Includes w x a s
      shorter = omega (arith, L.most, count_le (item s') 256)

      go : (k z : ℕ) → Ordered c w k → z < k → Remains c w x a s z → Remains c w x (link_of w (a - 1)) s' z
      go k z O l (now f i e) = absurd (false≢true (sym (low.none (omega (arith, low.most)) (leaves_of w z) (O.leaves z l)) ∙ i))
      go k z O l (later o f e t) = arrive c w k x O (a - 1) (link_of w (a - 1)) L s' S z o l (omega arith) e t
