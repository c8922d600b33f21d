-- Item numbers as productions and dots: a set of numbers as a set of items of the grammar, its closure and its transitions.
use mathlib.Core.Bool.{Bool, true, false}
use mathlib.Core.List.{List, [], ◌∷◌}
use mathlib.Core.Logic.{◌⊎◌, inl, inr, ⊎_elim, ◌↔◌}
use mathlib.Core.Path.{◌≡◌, refl, sym, ap, ◌∙◌}
use Prim.Native.Nat.{ℕ, suc, ◌+◌, ◌≤◌, ◌<◌, zero-le}
use native.Mathlib.Nat.{add-zero, le_refl}
use native.Mathlib.Omega.{arith}
use lib.Dec.{eqb}
use lib.ListN.{length, get_or, drop, length-drop}
use lib.Seq.{drop-cons, get_or-drop}
use borrow.Author.Tests.{eqb-true, eq-eqb}
use Rattle.closures.proofs.NumberLaws.{first_mono, first_most, after_at, after_end, after_added, after_high, decode, same_item}
use Rattle.closures.specs.Numbers.{first_of, after_of}
use Rattle.closures.specs.Sets.{Alike}
use Rattle.grammar.proofs.CardLaws.{WellFormed, start_mono, right_is, right_added, right_length}
use Rattle.grammar.specs.Card.{terminals, nonterminals, productions, left_of, length_of, symbol_of, start_of, right_of, grammar_of}
use Rattle.items.specs.Item.{item}
use Rattle.sets.proofs.HasLaws.{lt_or_ge}
use Rattle.sets.proofs.ListLaws.{ones_at}
use Rattle.lr.proofs.Automaton.{CoreClosure, given, opened, CoreStart, core_start, CoreAdvanced, advanced, Goes as GoesOn, goes}
use Rattle.closures.specs.Sets.{Reach, base, step, Closed, Advanced, Stays, Goes, Start}

drop_head : (d : ℕ) (l : List ℕ) {x : ℕ} {β : List ℕ} → drop d l ≡ x ∷ β → (d < length l) × (get_or l d 0 ≡ x)
drop_head d l {x} {β} e =
    let n : length (drop d l) ≡ suc (length β) = ap length e in
    (omega (arith, length-drop d l), ap (λ (i : ℕ). get_or l i 0) (sym (add-zero d)) ∙ sym (get_or-drop d l 0 0) ∙ ap (λ (k : List ℕ). get_or k 0 0) e)

-- the item of production r with its dot behind d symbols is one of the grammar
pub record Valid (c : List ℕ) (r d : ℕ) : Type 0 where
  pub production : r ≤ productions c
  pub dot : d ≤ length (right_of c r)

-- item i stands before x
pub record Before (c : List ℕ) (i x : ℕ) : Type 0 where
  pub production : ℕ
  pub dot : ℕ
  pub valid : Valid c production dot
  pub rest : List ℕ
  pub symbol : drop dot (right_of c production) ≡ x ∷ rest
  pub is : i ≡ first_of c production + dot

-- number k is that of an item
pub record Decoded (c : List ℕ) (k : ℕ) : Type 0 where
  pub production : ℕ
  pub dot : ℕ
  pub valid : Valid c production dot
  pub is : k ≡ first_of c production + dot

-- the set s has the item
pub record In (c s : List ℕ) (r d : ℕ) : Type 0 where
  pub valid : Valid c r d
  pub there : item s (first_of c r + d) ≡ true

module _ (c : List ℕ) (f : WellFormed c) where
  at_most : (r : ℕ) → r ≤ productions c → (r < productions c) ⊎ (r ≡ productions c)
  at_most r h = ⊎_elim inl (λ (l : productions c ≤ r). inr (omega arith)) (lt_or_ge r (productions c))

  right_at : (r d : ℕ) → r < productions c → d < length_of c r → get_or (right_of c r) d 0 ≡ symbol_of c (start_of c r + d)
  right_at r d h l = rw (right_is c r h) (ones_at (length_of c r) (λ d. symbol_of c (start_of c r + d)) d l)

  added_length : length (right_of c (productions c)) ≡ 1
  added_length = ap length (right_added c)

  -- the symbol after the dot, by the right side
  pub after_of_is : (r d : ℕ) {x : ℕ} {β : List ℕ} → r ≤ productions c → drop d (right_of c r) ≡ x ∷ β → after_of c (first_of c r + d) ≡ x
  after_of_is r d {x} h e =
      let t = drop_head d (right_of c r) e in
      let t0 : d < length (right_of c r) = t.0 in
      ⊎_elim
      (λ (l : r < productions c). let n : d < length_of c r = rw (right_length c r l) at t0 in after_at c r d l n ∙ sym (right_at r d l n) ∙ t.1)
      (λ (l : r ≡ productions c).
      let n : d ≡ 0 = omega (arith, rw (l, added_length) at t0) in
      let y : get_or (right_of c r) d 0 ≡ terminals c = rw (l, right_added c, n) in
      rw (l, n, add-zero (first_of c (productions c))) (after_added c ∙ sym y ∙ t.1))
      (at_most r h)

  pub of_after : (r d x : ℕ) → Valid c r d → after_of c (first_of c r + d) ≡ x → 0 < x → (β : List ℕ) × (drop d (right_of c r) ≡ x ∷ β)
  of_after r d x v a p =
      ⊎_elim
      (λ (l : r < productions c).
      let n : length (right_of c r) ≡ length_of c r = right_length c r l in
      ⊎_elim
      (λ (k : d < length_of c r). (drop (suc d) (right_of c r), drop-cons (right_of c r) d 0 (rw n k) ∙ ap (λ (y : ℕ). y ∷ drop (suc d) (right_of c r)) (right_at r d l k ∙ sym (after_at c r d l k) ∙ a)))
      (λ (k : length_of c r ≤ d).
      let e : d ≡ length_of c r = omega (arith, v.dot) in
      absurd (let z : x ≡ 0 = sym a ∙ rw e (after_end c r l) in let y : ⊥ = omega arith in y))
      (lt_or_ge d (length_of c r)))
      (λ (l : r ≡ productions c).
      ⊎_elim
      (λ (k : d < 1).
      let e : d ≡ 0 = omega arith in
      let y : terminals c ≡ x = sym (after_added c) ∙ ap (after_of c) (rw (l, e) (sym (add-zero (first_of c (productions c))))) ∙ a in
      ([], rw (l, right_added c, e, y)))
      (λ (k : 1 ≤ d).
      absurd (let z : x ≡ 0 = sym a ∙ after_high c (first_of c r + d) (rw l (omega arith)) in let y : ⊥ = omega arith in y))
      (lt_or_ge d 1))
      (at_most r v.production)

  -- an item before a symbol is one of the grammar
  pub before : (i x : ℕ) → after_of c i ≡ x → 0 < x → Before c i x
  before i x a p =
      ⊎_elim
      (λ (l : i < first_of c (productions c)).
      let t = decode c (productions c) i l in
      let t0 : t.production < productions c = t.low in
      let v : Valid c t.production t.dot = record { production = omega arith; dot = rw (right_length c t.production t0) t.most } in
      let u = of_after t.production t.dot x v (ap (after_of c) (sym t.is) ∙ a) p in
      record { production = t.production; dot = t.dot; valid = v; rest = u.0; symbol = u.1; is = t.is })
      (λ (l : first_of c (productions c) ≤ i).
      ⊎_elim
      (λ (k : first_of c (productions c) < i). absurd (let z : x ≡ 0 = sym a ∙ after_high c i k in let y : ⊥ = omega arith in y))
      (λ (k : i ≤ first_of c (productions c)).
      let e : i ≡ first_of c (productions c) + 0 = omega arith in
      let v : Valid c (productions c) 0 = record { production = le_refl (productions c); dot = zero-le } in
      let u = of_after (productions c) 0 x v (ap (after_of c) (sym e) ∙ a) p in
      record { production = productions c; dot = 0; valid = v; rest = u.0; symbol = u.1; is = e })
      (lt_or_ge (first_of c (productions c)) i))
      (lt_or_ge i (first_of c (productions c)))

  -- the dot moved on
  next_valid : (r d : ℕ) {x : ℕ} {β : List ℕ} → r ≤ productions c → drop d (right_of c r) ≡ x ∷ β → Valid c r (suc d)
  next_valid r d h e = record { production = h; dot = (drop_head d (right_of c r) e).0 }

  first_valid : (r : ℕ) → r ≤ productions c → Valid c r 0
  first_valid r h = record { production = h; dot = zero-le }

  -- numbers of items are below 704
  pub number_low : (r d : ℕ) → Valid c r d → first_of c r + d < 642
  number_low r d v =
      ⊎_elim
      (λ (l : r < productions c). omega (arith, v.dot, right_length c r l, first_mono c (productions c) r l, first_most c f))
      (λ (l : r ≡ productions c). let b : d ≤ 1 = rw (l, added_length) at v.dot in rw l (omega (arith, first_most c f)))
      (at_most r v.production)

  -- and one to one
  pub one_number : (r d q e : ℕ) → Valid c r d → Valid c q e → first_of c r + d ≡ first_of c q + e → (r ≡ q) × (d ≡ e)
  one_number r d q e v w s = go (at_most r v.production) (at_most q w.production)
    where
      low : (r d : ℕ) → r < productions c → Valid c r d → first_of c r + d < first_of c (productions c)
      low r d l v = omega (arith, v.dot, right_length c r l, first_mono c (productions c) r l)

      go : (r < productions c) ⊎ (r ≡ productions c) → (q < productions c) ⊎ (q ≡ productions c) → (r ≡ q) × (d ≡ e)
      go (inl a) (inl b) = same_item c r d q e (rw (right_length c r a) at v.dot) (rw (right_length c q b) at w.dot) s
      go (inl a) (inr b) = absurd (let z = low r d a v in let y : first_of c q ≡ first_of c (productions c) = ap (first_of c) b in let x : ⊥ = omega arith in x)
      go (inr a) (inl b) = absurd (let z = low q e b w in let y : first_of c r ≡ first_of c (productions c) = ap (first_of c) a in let x : ⊥ = omega arith in x)
      go (inr a) (inr b) = (a ∙ sym b, (let y : first_of c r ≡ first_of c q = ap (first_of c) (a ∙ sym b) in omega arith))

  in_same : {s : List ℕ} {r d q e : ℕ} → r ≡ q → d ≡ e → In c s r d → In c s q e
  in_same a b i = rw (← a, ← b) i

  -- ---- the closure

  -- every number of a set is that of an item
  abbrev pub AllValid : List ℕ → Type 0
  AllValid s = (k : ℕ) → item s k ≡ true → Decoded c k

  left_pos : (q : ℕ) → q < productions c → 0 < left_of c q
  left_pos q h = let l = f.lefts q h in let l0 : terminals c ≤ left_of c q = l.0 in omega (arith, f.limits.terminals_from)

  reach_decoded : (s : List ℕ) → AllValid s → (k : ℕ) → Reach c s k → Decoded c k
  reach_decoded s v k (base _ e) = v k e
  reach_decoded s v k (step i q _ r h l e) = record { production = q; dot = 0; valid = first_valid q (omega arith); is = sym e ∙ sym (add-zero (first_of c q)) }

  pub closed_valid : (s u : List ℕ) → AllValid s → Closed c s u → AllValid u
  closed_valid s u v cl k e = reach_decoded s v k (cl.from k e)

  reach_core : (s : List ℕ) → AllValid s → (k : ℕ) → Reach c s k → (r d : ℕ) → Valid c r d → k ≡ first_of c r + d → CoreClosure (grammar_of c) (In c s) r d
  reach_core s v k (base _ e) r d w n = given (record { valid = w; there = rw (← n) e })
  reach_core s v k (step i q _ x h l e) r d w n =
      let t = one_number q 0 r d (first_valid q (omega arith)) w (add-zero (first_of c q) ∙ e ∙ n) in
      let b = before i (left_of c q) (sym l) (left_pos q h) in
      at t.0 t.1 (opened (reach_core s v i x b.production b.dot b.valid b.is) b.symbol h)
    where
      at : {q r e d : ℕ} → q ≡ r → e ≡ d → CoreClosure (grammar_of c) (In c s) q e → CoreClosure (grammar_of c) (In c s) r d
      at a b y = rw (← a, ← b) y

  pub closed_core : (s u : List ℕ) → AllValid s → Closed c s u → (r d : ℕ) → In c u r d ↔ CoreClosure (grammar_of c) (In c s) r d
  closed_core s u v cl r d = (λ i. reach_core s v (first_of c r + d) (cl.from (first_of c r + d) i.there) r d i.valid refl, back)
    where
      back : {r d : ℕ} → CoreClosure (grammar_of c) (In c s) r d → In c u r d
      back (given i) = record { valid = i.valid; there = cl.kept _ i.there }
      back (opened {r} {d} {s = q} x e h) =
          let i = back x in
          record {
            valid = first_valid q (omega arith);
            there = rw (add-zero (first_of c q)) (cl.all (first_of c r + d) q (omega (arith, number_low r d i.valid)) i.there h (sym (after_of_is r d i.valid.production e)));
          }

  -- what opens in a closed set is in it
  pub closed_opened : (s u : List ℕ) → Closed c s u → {r d q : ℕ} {β : List ℕ} → In c u r d → drop d (right_of c r) ≡ left_of c q ∷ β → q < productions c → In c u q 0
  closed_opened s u cl {r} {d} {q} i e h =
      record {
        valid = first_valid q (omega arith);
        there = rw (add-zero (first_of c q)) (cl.all (first_of c r + d) q (omega (arith, number_low r d i.valid)) i.there h (sym (after_of_is r d i.valid.production e)));
      }

  -- ---- the first set

  start_core : (s : List ℕ) → ((k : ℕ) → item s k ≡ eqb (first_of c (productions c)) k) → (r d : ℕ) → In c s r d ↔ CoreStart (grammar_of c) r d
  start_core s only r d = (to, back)
    where
      at : {q r e d : ℕ} → q ≡ r → e ≡ d → CoreStart (grammar_of c) q e → CoreStart (grammar_of c) r d
      at a b y = rw (← a, ← b) y

      to : In c s r d → CoreStart (grammar_of c) r d
      to i =
          let t = one_number (productions c) 0 r d (first_valid (productions c) (le_refl (productions c))) i.valid (add-zero (first_of c (productions c)) ∙ eqb-true (first_of c (productions c)) (first_of c r + d) (sym (only (first_of c r + d)) ∙ i.there)) in
          at t.0 t.1 core_start

      back : {r d : ℕ} → CoreStart (grammar_of c) r d → In c s r d
      back core_start = record { valid = first_valid (productions c) (le_refl (productions c)); there = only (first_of c (productions c) + 0) ∙ eq-eqb _ _ (sym (add-zero (first_of c (productions c)))) }

  pub closure_map : {k k' : ℕ → ℕ → Type 0} → ((r d : ℕ) → k r d → k' r d) → {r d : ℕ} → CoreClosure (grammar_of c) k r d → CoreClosure (grammar_of c) k' r d
  closure_map m (given h) = given (m _ _ h)
  closure_map m (opened x e h) = opened (closure_map m x) e h

  start_valid : (s : List ℕ) → ((k : ℕ) → item s k ≡ eqb (first_of c (productions c)) k) → AllValid s
  start_valid s only k e = record { production = productions c; dot = 0; valid = first_valid (productions c) (le_refl (productions c)); is = sym (eqb-true (first_of c (productions c)) k (sym (only k) ∙ e)) ∙ sym (add-zero (first_of c (productions c))) }

  pub start_items : (s : List ℕ) → Start c s → (r d : ℕ) → In c s r d ↔ CoreClosure (grammar_of c) (CoreStart (grammar_of c)) r d
  start_items s st r d =
      let x = closed_core st.core s (start_valid st.core st.only) st.closed r d in
      (λ i. closure_map (λ q e. (start_core st.core st.only q e).0) (x.0 i), λ i. x.1 (closure_map (λ q e. (start_core st.core st.only q e).1) i))

  pub start_all : (s : List ℕ) → Start c s → AllValid s
  start_all s st = closed_valid st.core s (start_valid st.core st.only) st.closed

  -- ---- transitions

  advanced_core : (s : List ℕ) (x : ℕ) (u : List ℕ) → 0 < x → Advanced c s x u → (r d : ℕ) → In c u r d ↔ CoreAdvanced (grammar_of c) (In c s) x r d
  advanced_core s x u p a r d = (to, back)
    where
      at : {q r e d : ℕ} → q ≡ r → e ≡ d → CoreAdvanced (grammar_of c) (In c s) x q e → CoreAdvanced (grammar_of c) (In c s) x r d
      at g h y = rw (← g, ← h) y

      to : In c u r d → CoreAdvanced (grammar_of c) (In c s) x r d
      to i =
          let t = a.from (first_of c r + d) i.there in
          let b = before t.0 x t.2 p in
          let n = one_number b.production (suc b.dot) r d (next_valid b.production b.dot b.valid.production b.symbol) i.valid (let z : first_of c r + d ≡ t.0 + 1 = t.3 in omega (arith, b.is)) in
          at n.0 n.1 (advanced (record { valid = b.valid; there = rw (← b.is) t.1 }) b.symbol)

      back : {r d : ℕ} → CoreAdvanced (grammar_of c) (In c s) x r d → In c u r d
      back (advanced {r} {d} i e) =
          let z : first_of c r + suc d ≡ first_of c r + d + 1 = omega arith in
          record { valid = next_valid r d i.valid.production e; there = rw z (a.all (first_of c r + d) (omega (arith, number_low r d i.valid)) i.there (after_of_is r d i.valid.production e)) }

  advanced_valid : (s : List ℕ) (x : ℕ) (u : List ℕ) → 0 < x → Advanced c s x u → AllValid u
  advanced_valid s x u p a k e =
      let t = a.from k e in
      let b = before t.0 x t.2 p in
      record { production = b.production; dot = suc b.dot; valid = next_valid b.production b.dot b.valid.production b.symbol; is = (let z : k ≡ t.0 + 1 = t.3 in omega (arith, b.is)) }

  pub goes_items : (s : List ℕ) (x : ℕ) (u : List ℕ) → 0 < x → Goes c s x u → (r d : ℕ) → In c u r d ↔ CoreClosure (grammar_of c) (CoreAdvanced (grammar_of c) (In c s) x) r d
  goes_items s x u p g r d =
      let y = closed_core g.core u (advanced_valid s x g.core p g.advanced) g.closed r d in
      (λ i. closure_map (λ q e. (advanced_core s x g.core p g.advanced q e).0) (y.0 i), λ i. y.1 (closure_map (λ q e. (advanced_core s x g.core p g.advanced q e).1) i))

  pub goes_valid : (s : List ℕ) (x : ℕ) (u : List ℕ) → 0 < x → Goes c s x u → AllValid u
  goes_valid s x u p g = closed_valid g.core u (advanced_valid s x g.core p g.advanced) g.closed

  pub goes_on : (s : List ℕ) (x : ℕ) (u : List ℕ) → 0 < x → Goes c s x u → GoesOn (grammar_of c) (In c s) x
  goes_on s x u p g =
      let t = g.some in
      let v = advanced_valid s x g.core p g.advanced t.0 t.2 in
      go ((advanced_core s x g.core p g.advanced v.production v.dot).0 (record { valid = v.valid; there = rw (← v.is) t.2 }))
    where
      go : {r d : ℕ} → CoreAdvanced (grammar_of c) (In c s) x r d → GoesOn (grammar_of c) (In c s) x
      go (advanced i e) = goes i e

  pub stays_put : (s : List ℕ) (x : ℕ) → Stays c s x → GoesOn (grammar_of c) (In c s) x → ⊥
  stays_put s x st (goes {r} {d} i e) = st (first_of c r + d) (omega (arith, number_low r d i.valid)) i.there (after_of_is r d i.valid.production e)

  -- no symbol but those of the grammar stands after a dot
  pub goes_symbol : (s : List ℕ) (x : ℕ) → GoesOn (grammar_of c) (In c s) x → (0 < x) × (x < terminals c + nonterminals c)
  goes_symbol s x (goes {r} {d} i e) = go (at_most r i.valid.production)
    where
      go : (r < productions c) ⊎ (r ≡ productions c) → (0 < x) × (x < terminals c + nonterminals c)
      go (inl l) =
          let t = drop_head d (right_of c r) e in
          let n : d < length_of c r = rw (right_length c r l) at t.0 in
          let b = f.rights (start_of c r + d) (omega (arith, start_mono c (productions c) r l, f.sum)) in
          let y : symbol_of c (start_of c r + d) ≡ x = sym (right_at r d l n) ∙ t.1 in
          (rw (← y) b.0, rw (← y) b.1)
      go (inr l) =
          let t = drop_head d (right_of c r) e in
          let t0 : d < 1 = rw (l, added_length) at t.0 in
          let n : d ≡ 0 = omega arith in
          let g : get_or (right_of c r) d 0 ≡ terminals c = rw (l, right_added c, n) in
          let y : terminals c ≡ x = sym g ∙ t.1 in
          (omega (arith, f.limits.terminals_from), omega (arith, f.limits.nonterminals_from))

  -- the same items: the same numbers
  pub alike : (s u : List ℕ) → AllValid s → AllValid u → ((r d : ℕ) → In c s r d ↔ In c u r d) → Alike s u
  alike s u v w e k h = go (item s k) refl (item u k) refl
    where
      to : {s u : List ℕ} → AllValid s → ((r d : ℕ) → In c s r d → In c u r d) → item s k ≡ true → item u k ≡ true
      to {s} {u} v e t =
          let d = v k t in
          rw d.is (e d.production d.dot (record { valid = d.valid; there = rw (← d.is) t })).there

      go : (a : Bool) → item s k ≡ a → (b : Bool) → item u k ≡ b → item s k ≡ item u k
      go true x b y = x ∙ sym (to v (λ r d i. (e r d).0 i) x)
      go false x true y = to w (λ r d i. (e r d).1 i) y ∙ sym y
      go false x false y = x ∙ sym y
