-- The pass over the productions of the card, symbol by symbol from the end of each.
use mathlib.Core.Path.{◌≡◌, refl, sym, ap, ap₂, ◌∙◌, subst}
use mathlib.Core.List.{List}
use mathlib.Core.Logic.{◌≢◌, inl, inr, ⊎_elim}
use Prim.Native.Nat.{ℕ, suc, ◌+◌, ◌-◌, ◌≤◌, ◌<◌}
use native.Mathlib.Omega.{arith}
use native.Mathlib.Nat.{eq-or-lt_of_le}
use native.Mathlib.Numerals.{add-one}
use lib.ListN.{get_or}
use Rattle.sets.proofs.HasLaws.{lt_or_ge, eq_or}
use Rattle.grammar.specs.Card.{terminals, nonterminals, productions, length_of, start_of, symbol_of, form_fault}
use Rattle.grammar.proofs.CardLaws.{well_formed}
use Rattle.transitions.specs.Places.{starts_at, lasts_at, productions_at, dots_at, links_at, occurrences_at, lengths_at}
use Rattle.transitions.specs.Area.{last_of, production_of, dot_of, link_of, shortest_of}
use Rattle.transitions.specs.Writes.{Stored, Measured}
use Rattle.transitions.specs.Occurrences.{symbol_at, Nullable, Occurs, occurring_of, Latest}
use Rattle.occurrences.specs.Stores.{Occurred}
use Rattle.occurrences.proofs.StoreLaws.{Cleared}
use Rattle.occurrences.specs.Gathers.{Gathered, Between, Started, Collected, Prepared}
use Rattle.transitions.proofs.WriteLaws.{shortest_same}
use Rattle.transitions.proofs.SymbolLaws.{symbol_is, symbol_high, right_fits}

pub latest_same : (c w w' : List ℕ) (x m a : ℕ) → ((o : ℕ) → o < m → occurring_of c w' o ≡ occurring_of c w o) → Latest c w x m a → Latest c w' x m a
latest_same c w w' x m a same L = record {
  most = L.most;
  here = λ h. same (a - 1) (let z = L.most in omega arith) ∙ L.here h;
  gap = λ o l h z. L.gap o l h (sym (same o h) ∙ z);
}

pub occurring_of_is : (c w w' : List ℕ) (o : ℕ) → production_of w' o ≡ production_of w o → dot_of w' o ≡ dot_of w o → occurring_of c w' o ≡ occurring_of c w o
unfolding occurring_of
occurring_of_is c w w' o a b = ap₂ (symbol_at c) a b

-- nothing yet
pub gather_start : (c : List ℕ) (e : ℕ → ℕ) (w : List ℕ) → nonterminals c ≤ 60 → ((j : ℕ) → j < 60 → last_of w j ≡ 0) → Gathered c e w 0 (length_of c 0) 0
gather_start c e w h z = record {
  most = omega arith;
  occurs = λ o l. absurd (let z : ⊥ = omega arith in z);
  all = λ s i o p. absurd (⊎_elim (λ l. let z : ⊥ = omega arith in z) (λ l. let a = o.within in let e = ap (length_of c) l.0 in let b = l.1 in let z : ⊥ = omega arith in z) p);
  last = λ j l. rw (z j (omega arith)) (record { most = omega arith; here = λ g. absurd (let z : ⊥ = omega arith in z); gap = λ o g k. absurd (let z : ⊥ = omega arith in z) });
  link = λ o l. absurd (let z : ⊥ = omega arith in z);
}

-- the places of the occurrences are the same
pub gather_same : (c : List ℕ) (e : ℕ → ℕ) (w w' : List ℕ) (r d m : ℕ) → ((i : ℕ) → lasts_at ≤ i → get_or w' i 0 ≡ get_or w i 0) → Gathered c e w r d m → Gathered c e w' r d m
gather_same c e w w' r d m same G = record {
  most = G.most;
  occurs = λ o l. rw (same (productions_at + o) (omega arith), same (dots_at + o) (omega arith)) (G.occurs o l);
  all = λ s i o p. let a = G.all s i o p in (a.0, a.1, same (productions_at + a.0) (omega arith) ∙ a.2, same (dots_at + a.0) (omega arith) ∙ a.3);
  last = λ j l. rw (same (lasts_at + j) (omega arith)) (latest_same c w w' (terminals c + j) m (last_of w j) (λ o g. here o) (G.last j l));
  link = λ o l. rw (same (links_at + o) (omega arith), here o) (latest_same c w w' (occurring_of c w o) o (link_of w o) (λ i g. here i) (G.link o l));
}
  where
    here : (o : ℕ) → occurring_of c w' o ≡ occurring_of c w o
    here o = occurring_of_is c w w' o (same (productions_at + o) (omega arith)) (same (dots_at + o) (omega arith))

module _ (c : List ℕ) (e : ℕ → ℕ) (w : List ℕ) (r d m : ℕ) (G : Gathered c e w r d m) where
  -- no occurrence stands before the dot
  pub gather_stop : ((i : ℕ) → i < d → Occurs c e r i → ⊥) → Gathered c e w r 0 m
  gather_stop never = record {
    most = let a = G.most in omega arith;
    occurs = G.occurs;
    all = λ s i o p.
        G.all s i o
        (⊎_elim (λ l. inl l) (λ l. inr (l.0, ⊎_elim (λ (a : i < d). absurd (never i a (subst (λ (z : ℕ). Occurs c e z i) l.0 o))) (λ (a : d ≤ i). a) (lt_or_ge i d))) p);
    last = G.last;
    link = G.link;
  }

  -- an occurrence before the dot
  pub gather_more : (w' : List ℕ) → nonterminals c ≤ 60 → 0 < d → d ≤ length_of c r → (j : ℕ) → j < nonterminals c → symbol_at c r (d - 1) ≡ terminals c + j → Occurs c e r (d - 1) → Occurred w m r (d - 1) j w' → Gathered c e w' r (d - 1) (m + 1)
  unfolding occurring_of
  gather_more w' n60 h l j hj ej O M = record {
    most = let a = G.most in omega arith;
    occurs = λ o g. two o g (λ (o : ℕ). Occurs c e (production_of w' o) (dot_of w' o)) (λ k. rw ((M.old o k).0, (M.old o k).1) (G.occurs o k)) (rw (M.production, M.dot) O);
    all = λ s i o p.
        ⊎_elim
        (λ (q : s < r). from s i (G.all s i o (inl q)))
        (λ q.
        ⊎_elim
        (λ (z : i ≡ d - 1). (m, omega arith, M.production ∙ sym q.0, M.dot ∙ sym z))
        (λ (z : i ≡ d - 1 → ⊥). from s i (G.all s i o (inr (q.0, let b = q.1 in omega arith))))
        (eq_or i (d - 1)))
        p;
    last = λ u g.
        ⊎_elim
        (λ (z : u ≡ j).
        rw (z, M.last) (record { most = omega arith; here = λ k. rw (let a : m + 1 - 1 ≡ m = omega arith in a) new; gap = λ o k b. absurd (let z : ⊥ = omega arith in z) }))
        (λ (z : u ≡ j → ⊥). rw (M.others u (omega arith) z) (further u z (G.last u g)))
        (eq_or u j);
    link = λ o g.
        two o g (λ (o : ℕ). Latest c w' (occurring_of c w' o) o (link_of w' o))
        (λ k. rw ((M.old o k).2, same o k) (latest_same c w w' (occurring_of c w o) o (link_of w o) (λ i b. same i (let z : i < m = omega arith in z)) (G.link o k)))
        (rw (M.link, new) (latest_same c w w' (terminals c + j) m (last_of w j) same (G.last j hj)));
  }
    where
      two : (o : ℕ) → o < m + 1 → (P : ℕ → Type 0) → (o < m → P o) → P m → P o
      two o h P old new = ⊎_elim (λ (e : o ≡ m). subst P (sym e) new) (λ (g : o < m). old g) (eq-or-lt_of_le (let l : o ≤ m = omega arith in l))

      same : (o : ℕ) → o < m → occurring_of c w' o ≡ occurring_of c w o
      same o k = occurring_of_is c w w' o (M.old o k).0 (M.old o k).1

      new : occurring_of c w' m ≡ terminals c + j
      new = ap₂ (symbol_at c) M.production M.dot ∙ ej

      from : (s i : ℕ) → ((o : ℕ) × (o < m) × (production_of w o ≡ s) × (dot_of w o ≡ i)) → (o : ℕ) × (o < m + 1) × (production_of w' o ≡ s) × (dot_of w' o ≡ i)
      from s i a = let g = a.1 in (a.0, omega arith, (M.old a.0 a.1).0 ∙ a.2, (M.old a.0 a.1).1 ∙ a.3)

      further : (u : ℕ) → (u ≡ j → ⊥) → Latest c w (terminals c + u) m (last_of w u) → Latest c w' (terminals c + u) (m + 1) (last_of w u)
      further u z L = record {
        most = let a = L.most in omega arith;
        here = λ k. same (last_of w u - 1) (let a = L.most in omega arith) ∙ L.here k;
        gap = λ o k b x.
            ⊎_elim
            (λ (y : o ≡ m). let a : terminals c + j ≡ terminals c + u = sym new ∙ ap (occurring_of c w') (sym y) ∙ x in z (omega arith))
            (λ (y : o < m). L.gap o k y (sym (same o y) ∙ x))
            (eq-or-lt_of_le (let v : o ≤ m = omega arith in v));
      }

  -- the next production
  gather_next : d ≡ 0 → Gathered c e w (r + 1) (length_of c (r + 1)) m
  unfolding start_of
  gather_next z = record {
    most = let a = G.most in rw add-one (let b : length_of c (suc r) - length_of c (suc r) ≡ 0 = omega arith in omega arith);
    occurs = G.occurs;
    all = λ s i o p.
        G.all s i o
        (⊎_elim
        (λ (l : s < r + 1). ⊎_elim (λ (q : s ≡ r). inr (q, omega arith)) (λ (q : s < r). inl q) (eq-or-lt_of_le (let v : s ≤ r = omega arith in v)))
        (λ l. absurd (let a = o.within in let b = ap (length_of c) l.0 in let g = l.1 in let v : ⊥ = omega arith in v))
        p);
    last = G.last;
    link = G.link;
  }

-- ---- a production from its end: the symbols from d on are nullable

abbrev pub NullFrom : List ℕ → (ℕ → ℕ) → ℕ → ℕ → Type 0
NullFrom c e r d = (i : ℕ) → d ≤ i → i < length_of c r → Nullable c e (symbol_at c r i)

module _ (c : List ℕ) (e : ℕ → ℕ) (r d : ℕ) (hd : 0 < d) (hl : d ≤ length_of c r) where
  -- before a symbol that is not nullable nothing occurs
  no_more : (Nullable c e (symbol_at c r (d - 1)) → ⊥) → (i : ℕ) → i < d - 1 → Occurs c e r i → ⊥
  no_more n i h O = n (O.tail (d - 1) (omega arith) (omega arith))

  pub tail_terminal : (w : List ℕ) (m x : ℕ) → Gathered c e w r d m → x ≡ symbol_at c r (d - 1) → x < terminals c → Gathered c e w r 0 m
  tail_terminal w m x G ex h =
      gather_stop c e w r d m G (λ i l O.
      ⊎_elim
      (λ (z : i ≡ d - 1). let a = O.nonterminal in let b : symbol_at c r i ≡ symbol_at c r (d - 1) = ap (symbol_at c r) z in let y : ⊥ = omega arith in y)
      (λ (z : i ≡ d - 1 → ⊥). no_more (λ n. let a = n.nonterminal in omega arith) i (omega arith) O)
      (eq_or i (d - 1)))

  pub tail_occurs : (x : ℕ) → r < productions c → NullFrom c e r d → x ≡ symbol_at c r (d - 1) → terminals c ≤ x → Occurs c e r (d - 1)
  tail_occurs x hr null ex h = record { production = hr; within = omega arith; nonterminal = rw (← ex) h; tail = λ i l g. null i (omega arith) g }

  pub tail_last : (w : List ℕ) (m x t v : ℕ) → Gathered c e w r (d - 1) m → x ≡ symbol_at c r (d - 1) → t ≡ terminals c → v ≡ e (x - t) → 0 < v → Gathered c e w r 0 m
  tail_last w m x t v G ex et ev some = gather_stop c e w r (d - 1) m G (no_more (λ n. let z : v ≡ 0 = ev ∙ ap₂ (λ (y z : ℕ). e (y - z)) ex et ∙ n.empty in omega arith))

  pub tail_null : (x t v : ℕ) → NullFrom c e r d → x ≡ symbol_at c r (d - 1) → t ≡ terminals c → t ≤ x → v ≡ e (x - t) → v ≡ 0 → NullFrom c e r (d - 1)
  tail_null x t v null ex et h ev none i l g =
      ⊎_elim
      (λ (z : d - 1 ≡ i). subst (λ (y : ℕ). Nullable c e (symbol_at c r y)) z here)
      (λ (z : d - 1 < i). null i (omega arith) g)
      (eq-or-lt_of_le l)
    where
      here : Nullable c e (symbol_at c r (d - 1))
      here = record { nonterminal = rw (← ex, ← et) h; empty = rw (← ex, ← et) (sym ev ∙ none) }

-- one turn: the symbol before the dot d is x, there are t terminals
pub record Turn (c w₀ w : List ℕ) (r d m s x t : ℕ) : Type 0 where
  pub form : form_fault c ≡ 0
  pub production : r < productions c
  pub start : s ≡ start_of c r
  pub some : 0 < d
  pub within : d ≤ length_of c r
  pub gathered : Gathered c (shortest_of w₀) w r d m
  pub null : NullFrom c (shortest_of w₀) r d
  pub between : Between w₀ w
  pub terminals' : t ≡ terminals c
  pub symbol : x ≡ symbol_of c (s + (d - 1))

module _ (c w₀ w : List ℕ) (r d m s x t : ℕ) (T : Turn c w₀ w r d m s x t) where
  symbol_here : x ≡ symbol_at c r (d - 1)
  symbol_here = symbol_is c r s (d - 1) x T.start T.symbol

  pub turn_terminal : x < t → Gathered c (shortest_of w₀) w r 0 m × Between w₀ w
  turn_terminal h = let e = T.terminals' in (tail_terminal c (shortest_of w₀) r d T.some T.within w m x T.gathered symbol_here (omega arith), T.between)

  module _ (le : t ≤ x) where
    number : x - t < nonterminals c
    number = let h = symbol_high c r (d - 1) T.form T.production (omega (arith, T.some, T.within)) in omega (arith, symbol_here, T.terminals')

    pub turn_room : (m < 512) × (x - t < 60)
    turn_room = let w = (well_formed c T.form).limits.nonterminals_to in let f = right_fits c r T.form T.production in let a = T.gathered.most in (omega (arith, T.within, T.some), omega (arith, number))

    module _ (w' : List ℕ) (M : Occurred w m r (d - 1) (x - t) w') where
      turn_gathered : Gathered c (shortest_of w₀) w' r (d - 1) (m + 1)
      turn_gathered =
          gather_more c (shortest_of w₀) w r d m T.gathered w' (well_formed c T.form).limits.nonterminals_to T.some T.within (x - t) number
          (omega (arith, symbol_here, T.terminals'))
          (tail_occurs c (shortest_of w₀) r d T.some T.within x T.production T.null symbol_here (omega (arith, T.terminals'))) M

      turn_between : Between w₀ w'
      turn_between = record { long = M.long ∙ T.between.long; low = λ i h. M.low i h ∙ T.between.low i h; high = λ i h. M.high i h ∙ T.between.high i h }

      module _ (v : ℕ) (ev : v ≡ shortest_of w' (x - t)) where
        length_here : v ≡ shortest_of w₀ (x - t)
        length_here = ev ∙ turn_between.high (lengths_at + (x - t)) (omega arith)

        pub turn_last : v ≢ 0 → Gathered c (shortest_of w₀) w' r 0 (m + 1) × Between w₀ w'
        turn_last n = (tail_last c (shortest_of w₀) r d T.some T.within w' (m + 1) x t v turn_gathered symbol_here T.terminals' length_here (omega arith), turn_between)

        pub turn_null : v ≡ 0 → (d - 1 ≤ length_of c r) × Gathered c (shortest_of w₀) w' r (d - 1) (m + 1) × NullFrom c (shortest_of w₀) r (d - 1) × Between w₀ w'
        turn_null z = (omega (arith, T.within), turn_gathered, tail_null c (shortest_of w₀) r d T.some T.within x t v T.null symbol_here T.terminals' le length_here z, turn_between)

-- ---- the starts

module _ (c w w₁ : List ℕ) (r s : ℕ) (hr : r < 128) (S : Stored w (starts_at + r) s w₁) where
  pub store_high : (j : ℕ) → occurrences_at ≤ j → get_or w₁ j 0 ≡ get_or w j 0
  store_high j h = S.other j (λ z. omega arith)

  -- the lengths stay those of w₀
  module _ (w₀ : List ℕ) (high : (j : ℕ) → occurrences_at ≤ j → get_or w j 0 ≡ get_or w₀ j 0) where
    store_lengths : shortest_of w₁ ≡ shortest_of w₀
    store_lengths = shortest_same w₀ w₁ (λ j h. store_high j (omega arith) ∙ high j (omega arith))

    pub store_start : (m : ℕ) → Gathered c (shortest_of w₀) w r (length_of c r) m → Gathered c (shortest_of w₁) w₁ r (length_of c r) m
    store_start m G = rw store_lengths (gather_same c (shortest_of w₀) w w₁ r (length_of c r) m (λ j h. S.other j (λ z. omega arith)) G)

    -- and then the occurrences of production r
    module _ (w₂ : List ℕ) (B : Between w₁ w₂) where
      pub store_tail : (m : ℕ) → Gathered c (shortest_of w₁) w₂ r 0 m → Gathered c (shortest_of w₀) w₂ (r + 1) (length_of c (r + 1)) m
      store_tail m G = rw store_lengths at (gather_next c (shortest_of w₁) w₂ r 0 m G refl)

      pub tail_high : (j : ℕ) → occurrences_at ≤ j → get_or w₂ j 0 ≡ get_or w₀ j 0
      tail_high j h = B.high j h ∙ store_high j h ∙ high j h

      pub started_more : s ≡ start_of c r → Started c w r → Started c w₂ (r + 1)
      started_more es T = record {
        starts = λ u h.
            ⊎_elim
            (λ (z : u ≡ r). rw z (B.low (starts_at + r) (omega arith) ∙ S.here ∙ es))
            (λ (z : u < r). B.low (starts_at + u) (omega arith) ∙ S.other (starts_at + u) (λ y. omega arith) ∙ T.starts u z)
            (eq-or-lt_of_le (let v : u ≤ r = omega arith in v));
      }

gather_few : (c : List ℕ) (e : ℕ → ℕ) (w : List ℕ) (m : ℕ) → form_fault c ≡ 0 → Gathered c e w (productions c) (length_of c (productions c)) m → m ≤ 512
gather_few c e w m ff G = let F = well_formed c ff in let a = G.most in omega (arith, F.sum, F.limits.symbols_to_is)

-- ---- all of it

module _ (c e w₀ : List ℕ) {w₁ w₂ w₃ w' : List ℕ} (m : ℕ) (ff : form_fault c ≡ 0) (E : Measured w₀ e 60 w₁) (Z : Cleared w₁ lasts_at productions_at w₂) (G : Collected c w₂ w₃ m) (M : Stored w₃ occurrences_at m w') where
  few : m ≤ 512
  few = gather_few c (shortest_of w₂) w₃ m ff G.gathered

  production : (o : ℕ) → o < m → production_of w' o ≡ production_of w₃ o
  production o h = M.other (productions_at + o) (λ z. omega (arith, few))

  dot : (o : ℕ) → o < m → dot_of w' o ≡ dot_of w₃ o
  dot o h = M.other (dots_at + o) (λ z. omega (arith, few))

  here : (o : ℕ) → o < m → occurring_of c w' o ≡ occurring_of c w₃ o
  here o h = occurring_of_is c w₃ w' o (production o h) (dot o h)

  -- the lengths stand as they were put down
  behind : (i : ℕ) → lengths_at ≤ i → get_or w' i 0 ≡ get_or w₂ i 0
  behind i h = M.other i (λ z. omega arith) ∙ G.high i (omega arith)

  gathered : Gathered c (shortest_of w') w₃ (productions c) (length_of c (productions c)) m
  gathered = subst (λ (e : ℕ → ℕ). Gathered c e w₃ (productions c) (length_of c (productions c)) m) (sym (shortest_same w₂ w' behind)) G.gathered

  pub prepared : Prepared c e w₀ w'
  prepared = record {
    starts = record { starts = λ s h. M.other (starts_at + s) (λ z. let p = (well_formed c ff).limits.productions_to in omega arith) ∙ G.started.starts s h };
    occurrences = record {
      most = rw M.here few;
      occurs = λ o h. let k : o < m = rw M.here at h in rw (production o k, dot o k) (gathered.occurs o k);
      all = λ r d o. let x = gathered.all r d o (inl o.production) in (x.0, rw M.here x.1, production x.0 x.1 ∙ x.2, dot x.0 x.1 ∙ x.3);
      last = λ j h.
          let n = (well_formed c ff).limits.nonterminals_to in
          rw (M.here, M.other (lasts_at + j) (λ z. omega arith)) (latest_same c w₃ w' (terminals c + j) m (last_of w₃ j) here (gathered.last j h));
      link = λ o h.
          let k : o < m = rw M.here at h in
          rw (M.other (links_at + o) (λ z. omega (arith, few)), here o k) (latest_same c w₃ w' (occurring_of c w₃ o) o (link_of w₃ o) (λ i g. here i (let z : i < m = omega arith in z)) (gathered.link o k));
    };
    lengths = λ j h. behind (lengths_at + j) (omega arith) ∙ Z.high (lengths_at + j) (omega arith) ∙ E.lengths j h;
    long = M.long ∙ G.long ∙ Z.long ∙ E.long;
    high = λ i h. behind i (omega arith) ∙ Z.high i (omega arith) ∙ E.high i h;
  }
