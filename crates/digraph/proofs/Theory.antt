-- The mathematics of the walk, over states that are functions. Assumes nothing.
use mathlib.Core.Path.{◌≡◌, refl, sym, ap, ◌∙◌, subst, subst₂}
use mathlib.Core.Logic.{◌⊎◌, inl, inr, ⊎_elim}
use Prim.Native.Nat.{ℕ, zero, suc, ◌+◌, ◌-◌, ◌≤◌, ◌<◌, min}
use native.Mathlib.Omega.{arith}
use lib.Bits.{bit_or}
use Rattle.sets.specs.Bit.{Has}
use Rattle.sets.proofs.HasLaws.{lt_or_ge, below_suc, eq_or, has_or, or_has_l, or_has_r}
use Rattle.transitions.specs.Places.{transition_limit}
use Rattle.sets.specs.Reach.{Reaches}
use Rattle.completion.specs.Completion.{Join}
use Rattle.sets.specs.Reach.Reaches.{here, step}
use Rattle.completion.proofs.Laws.{reaches_trans, join_reaches}
use Rattle.digraph.specs.Walk.{Inv, Covered, Segment, None, Frame, Scan, Ended, Met}

pub frame_refl : {num stk F : ℕ → ℕ} {d : ℕ} → Frame num stk F num stk F d
frame_refl = record { stack = λ p h. refl; number = λ p h. refl; set = λ p h. refl }

pub frame_trans : {num stk F num1 stk1 F1 num2 stk2 F2 : ℕ → ℕ} {d e : ℕ} → e ≤ d → Frame num stk F num1 stk1 F1 d → Frame num1 stk1 F1 num2 stk2 F2 e → Frame num stk F num2 stk2 F2 e
frame_trans {num1} {F1} {num2} {F2} {d} {e} de a c = record {
  stack = λ p h. c.stack p h ∙ a.stack p (omega arith);
  number = λ p h. ap num2 (sym (a.stack p (omega arith))) ∙ c.number p h ∙ ap num1 (a.stack p (omega arith)) ∙ a.number p (omega arith);
  set = λ p h. ap F2 (sym (a.stack p (omega arith))) ∙ c.set p h ∙ ap F1 (a.stack p (omega arith)) ∙ a.set p (omega arith);
}

module _ (E : ℕ → ℕ → Type 0) (k : ℕ) (start : ℕ → ℕ) where
  -- ---- segments
  seg_weaken : {stk F : ℕ → ℕ} {top top' left : ℕ → Type 0} {low low' b d f e : ℕ} → ((m : ℕ) → top m → top' m) → low' ≤ low
      → Segment E start stk F top left low b d f e → Segment E start stk F top' left low' b d f e
  seg_weaken {low} {low'} t l s = record {
    within = λ p m h g i. t m (s.within p m h g i);
    back = λ p h g. let q = s.back p h g in (q.0, q.1, omega (arith, q.2), q.3);
    edges = λ p w h g e c. ⊎_elim (λ j. inl (λ m x. t m (j m x))) (λ q. inr (q.0, q.1, q.2, omega (arith, q.3))) (s.edges p w h g e c);
  }

  seg_frame : {stk F stk' F' : ℕ → ℕ} {top left : ℕ → Type 0} {low b d f e e' : ℕ} → d ≤ e → e ≤ e'
      → ((p : ℕ) → p < e → stk' p ≡ stk p) → ((p : ℕ) → p < d → F' (stk p) ≡ F (stk p))
      → Segment E start stk F top left low b d f e → Segment E start stk' F' top left low b d f e'
  seg_frame {stk} {F} {stk'} {F'} {d} {e} {e'} de ee hs hf s = record {
    within = λ p m h g i. s.within p m h g (subst (λ (x : ℕ). Has x m) (hf p g) (subst (λ (x : ℕ). Has (F' x) m) (hs p (omega arith)) i));
    back = λ p h g. let q = s.back p h g in (q.0, q.1, q.2, subst₂ (Reaches E) (sym (hs p (omega arith))) (sym (hs q.0 (omega (arith, q.1)))) q.3);
    edges = λ p w h g i c. ⊎_elim (λ j. inl j) (λ q. inr (q.0, omega (arith, q.1), hs q.0 q.1 ∙ q.2, q.3))
        (s.edges p w h g (subst (λ (x : ℕ). E x w) (hs p (omega arith)) i) c);
  }

  seg_concat : {stk F : ℕ → ℕ} {top left : ℕ → Type 0} {low b d d1 f e : ℕ} → b < d
      → Segment E start stk F top left low b d f e → Segment E start stk F top None low d d1 d e → Segment E start stk F top left low b d1 f e
  seg_concat {d} bd s r = record {
    within = λ p m h g i. ⊎_elim (λ l. s.within p m h l i) (λ l. r.within p m l g i) (lt_or_ge p d);
    back = λ p h g. ⊎_elim (λ l. s.back p h l) (λ l. r.back p l g) (lt_or_ge p d);
    edges = λ p w h g i c. ⊎_elim (λ l. s.edges p w h l i c) (λ l. r.edges p w l g i (λ _ a. a)) (lt_or_ge p d);
  }

  -- the edge to y is accounted for
  seg_edge : {stk F : ℕ → ℕ} {top left left' : ℕ → Type 0} {low b d f e y : ℕ} → ((w : ℕ) → left w → (w ≡ y) ⊎ left' w) → Covered E start stk top low e y
      → Segment E start stk F top left low b d f e → Segment E start stk F top left' low b d f e
  seg_edge {stk} {top} {low} {e} {y} next cov s = record {
    within = s.within;
    back = s.back;
    edges = λ p w h g i c. ⊎_elim (λ q. subst (λ (z : ℕ). Covered E start stk top low e z) (sym q) cov)
        (λ q. s.edges p w h g i (λ z l. ⊎_elim q (c z) (next w l))) (eq_or w y);
  }

  seg_sets : {stk F F' : ℕ → ℕ} {top top' left : ℕ → Type 0} {low b d f e : ℕ} → ((m : ℕ) → top m → top' m)
      → ((p m : ℕ) → p < d → Has (F' (stk p)) m → Has (F (stk p)) m ⊎ top' m)
      → Segment E start stk F top left low b d f e → Segment E start stk F' top' left low b d f e
  seg_sets t hf s = record {
    within = λ p m h g i. ⊎_elim (λ j. t m (s.within p m h g j)) (λ j. j) (hf p m g i);
    back = s.back;
    edges = λ p w h g e c. ⊎_elim (λ j. inl (λ m x. t m (j m x))) (λ q. inr q) (s.edges p w h g e c);
  }

  -- more may be left
  pub scan_left : {num stk F : ℕ → ℕ} {b d x : ℕ} {left left' : ℕ → Type 0} → ((w : ℕ) → left w → left' w)
      → Scan E k start num stk F b d x left → Scan E k start num stk F b d x left'
  scan_left more S = record {
    inv = S.inv;
    here = S.here;
    this = S.this;
    seg = record { within = S.seg.within; back = S.seg.back; edges = λ p w h g i c. S.seg.edges p w h g i (λ z l. c z (more w l)) };
  }

  -- ---- a node is pushed: all its edges are left
  module _ (num stk F num' stk' F' : ℕ → ℕ) (d x : ℕ) (I : Inv E k start num stk F d) (xk : x < k) (x0 : num x ≡ 0) (small : d < transition_limit)
      (nx : num' x ≡ d + 1) (no : (v : ℕ) → v < k → (v ≡ x → ⊥) → num' v ≡ num v) (sd : stk' d ≡ x) (so : (p : ℕ) → p < d → stk' p ≡ stk p)
      (fs : (v : ℕ) → v < k → F' v ≡ F v) where
    fresh : (p : ℕ) → p < d → stk p ≡ x → ⊥
    fresh p h q = omega (arith, I.low_pos p h, ap num q)

    same : (p : ℕ) → p < d → num' (stk' p) ≡ num (stk p)
    same p h = ap num' (so p h) ∙ no (stk p) (I.node p h) (fresh p h)

    top_num : num' (stk' d) ≡ d + 1
    top_num = ap num' sd ∙ nx

    inv : Inv E k start num' stk' F' (d + 1)
    inv = record {
      node = λ p h. ⊎_elim (λ l. subst (λ (z : ℕ). z < k) (sym (so p l)) (I.node p l)) (λ q. subst (λ (z : ℕ). z < k) (sym (ap stk' q ∙ sd)) xk) (below_suc h);
      low_pos = λ p h. ⊎_elim (λ l. omega (arith, same p l, I.low_pos p l)) (λ q. omega (arith, ap (λ (z : ℕ). num' (stk' z)) q, top_num)) (below_suc h);
      low_le = λ p h. ⊎_elim (λ l. omega (arith, same p l, I.low_le p l)) (λ q. omega (arith, ap (λ (z : ℕ). num' (stk' z)) q, top_num)) (below_suc h);
      low_reach = λ p h. ⊎_elim
          (λ l. subst₂ (Reaches E) (sym (so p l))
          (sym (ap (λ (z : ℕ). stk' (z - 1)) (same p l) ∙ so (num (stk p) - 1) (omega (arith, I.low_le p l, I.low_pos p l)))) (I.low_reach p l))
          (λ q. subst (λ (z : ℕ). Reaches E (stk' p) (stk' z)) (omega (arith, ap (λ (z : ℕ). num' (stk' z)) q, top_num, q)) here) (below_suc h);
      apart = λ p q pq h e. ⊎_elim (λ l. I.apart p q pq l (sym (so p (omega arith)) ∙ e ∙ so q l)) (λ z. fresh p (omega arith) (sym (so p (omega arith)) ∙ e ∙ ap stk' z ∙ sd)) (below_suc h);
      found = λ v h a c. ⊎_elim (λ q. (d, omega arith, sd ∙ sym q))
          (λ q. let r = I.found v h (λ z. a (no v h q ∙ z)) (λ z. c (no v h q ∙ z)) in (r.0, omega (arith, r.1), so r.0 r.1 ∙ r.2)) (eq_or v x);
      sound = λ v m h i. I.sound v m h (subst (λ (z : ℕ). Has z m) (fs v h) i);
      starts = λ v m h i. subst (λ (z : ℕ). Has z m) (sym (fs v h)) (I.starts v m h i);
      full = λ v m h q j. ⊎_elim (λ z. let e : num' v ≡ d + 1 = ap num' z ∙ nx in absurd (omega arith))
          (λ z. subst (λ (y : ℕ). Has y m) (sym (fs v h)) (I.full v m h (sym (no v h z) ∙ q) j)) (eq_or v x);
    }

    pub pushed : Scan E k start num' stk' F' d (d + 1) x (E x)
    pushed = record {
      inv = inv;
      here = omega arith;
      this = sd;
      seg = record {
        within = λ p m h g i. let q : p ≡ d = omega arith in subst (λ (z : ℕ). Has (F' z) m) (ap stk' q ∙ sd) i;
        back = λ p h g. absurd (omega arith);
        edges = λ p w h g i c. let q : p ≡ d = omega arith in absurd (c q (subst (λ (z : ℕ). E z w) (ap stk' q ∙ sd) i));
      };
    }

    pub push_frame : Frame num stk F num' stk' F' d
    push_frame = record { stack = so; number = λ p h. no (stk p) (I.node p h) (fresh p h); set = λ p h. fs (stk p) (I.node p h) }

  -- ---- an edge from x to y is taken: x, at position b, takes over y's set and number
  module _ (num stk F num1 stk1 F1 num2 F2 : ℕ → ℕ) (b d d1 x y : ℕ) (left left' : ℕ → Type 0) (S : Scan E k start num stk F b d x left)
      (I : Inv E k start num1 stk1 F1 d1) (fr : Frame num stk F num1 stk1 F1 d) (met : Met E start num1 stk1 F1 d d1 y)
      (yk : y < k) (xy : E x y) (next : (w : ℕ) → left w → (w ≡ y) ⊎ left' w) (small : d1 ≤ transition_limit) (y0 : num1 y ≡ 0 → ⊥)
      (nx : num2 x ≡ min (num1 x) (num1 y)) (no : (v : ℕ) → v < k → (v ≡ x → ⊥) → num2 v ≡ num1 v)
      (fx : F2 x ≡ bit_or (F1 x) (F1 y)) (fo : (v : ℕ) → v < k → (v ≡ x → ⊥) → F2 v ≡ F1 v) where
    dd : d ≤ d1
    dd = ⊎_elim (⊎_elim (λ a. omega (arith, a.1)) (λ a. omega (arith, a.0))) (λ a. omega (arith, a.3)) met

    this1 : stk1 b ≡ x
    this1 = fr.stack b S.here ∙ S.this

    num_x : num1 x ≡ num x
    num_x = ap num1 (sym S.this) ∙ fr.number b S.here ∙ ap num S.this

    f_x : F1 x ≡ F x
    f_x = ap F1 (sym S.this) ∙ fr.set b S.here ∙ ap F S.this

    xk : x < k
    xk = subst (λ (z : ℕ). z < k) this1 (I.node b (omega (arith, S.here, dd)))

    low_x : num1 x ≤ b + 1
    low_x = subst (λ (z : ℕ). num1 z ≤ b + 1) this1 (I.low_le b (omega (arith, S.here, dd)))

    pos_x : 1 ≤ num1 x
    pos_x = subst (λ (z : ℕ). 1 ≤ num1 z) this1 (I.low_pos b (omega (arith, S.here, dd)))

    top : ℕ → Type 0
    top m = Has (F1 x) m ⊎ Has (F1 y) m

    low : ℕ
    low = min (num1 x) (num1 y)

    mine : Segment E start stk1 F1 top left low b d (b + 1) d1
    unfolding top low
    mine = seg_weaken (λ m h. inl (subst (λ (z : ℕ). Has z m) (sym f_x) h)) (omega (arith, num_x)) (seg_frame (omega arith) dd fr.stack fr.set S.seg)

    alone : d1 ≡ d → Segment E start stk1 F1 top left low b d1 (b + 1) d1
    alone e = subst (λ (z : ℕ). Segment E start stk1 F1 top left low b z (b + 1) d1) (sym e) mine

    whole : Segment E start stk1 F1 top left low b d1 (b + 1) d1
    unfolding top low
    whole = ⊎_elim (⊎_elim (λ a. alone a.1) (λ a. seg_concat S.here mine (seg_weaken (λ m h. inr h) (omega arith) a.3))) (λ a. alone a.3) met

    stacked : (q : ℕ) → q < d1 → stk1 q ≡ y → Covered E start stk1 top low d1 y
    unfolding low
    stacked q h e = inr (q, h, e, omega (arith, subst (λ (z : ℕ). num1 z ≤ q + 1) e (I.low_le q h)))

    covered : Covered E start stk1 top low d1 y
    unfolding top
    covered = ⊎_elim (⊎_elim (λ a. inl (λ m j. inr (I.full y m yk a.0 j))) (λ a. stacked d a.0 a.1))
        (λ a. stacked a.0 (omega (arith, a.1, a.3)) a.2) met

    -- num2 at a position of the stack
    num_at : (P : ℕ → Type 0) (p : ℕ) → p < d1 → (stk1 p ≡ x → P (min (num1 x) (num1 y))) → P (num1 (stk1 p)) → P (num2 (stk1 p))
    num_at P p h f g = ⊎_elim (λ q. subst P (sym (ap num2 q ∙ nx)) (f q)) (λ q. subst P (sym (no (stk1 p) (I.node p h) q)) g) (eq_or (stk1 p) x)

    low_reach_at : (p v : ℕ) → p < d1 → stk1 p ≡ v → Reaches E v (stk1 (num1 v - 1))
    low_reach_at p v h e = subst (λ (z : ℕ). Reaches E z (stk1 (num1 z - 1))) e (I.low_reach p h)

    low_reach_x : Reaches E x (stk1 (min (num1 x) (num1 y) - 1))
    low_reach_x = ⊎_elim
        (λ l. let e : min (num1 x) (num1 y) ≡ num1 x = omega arith in
        subst (λ (z : ℕ). Reaches E x (stk1 (z - 1))) (sym e) (low_reach_at b x (omega (arith, S.here, dd)) this1))
        (λ l. let e : min (num1 x) (num1 y) ≡ num1 y = omega arith in
        let g = I.found y yk y0 (λ z. omega (arith, low_x, S.here, dd)) in
        subst (λ (z : ℕ). Reaches E x (stk1 (z - 1))) (sym e) (step xy (low_reach_at g.0 y g.1 g.2)))
        (lt_or_ge (num1 x) (num1 y))

    inv2 : Inv E k start num2 stk1 F2 d1
    inv2 = record {
      node = I.node;
      low_pos = λ p h. num_at (λ (z : ℕ). 1 ≤ z) p h (λ _. omega (arith, pos_x, y0)) (I.low_pos p h);
      low_le = λ p h. num_at (λ (z : ℕ). z ≤ p + 1) p h (λ q. omega (arith, subst (λ (z : ℕ). num1 z ≤ p + 1) q (I.low_le p h))) (I.low_le p h);
      low_reach = λ p h. num_at (λ (z : ℕ). Reaches E (stk1 p) (stk1 (z - 1))) p h (λ q. subst (λ (z : ℕ). Reaches E z (stk1 (min (num1 x) (num1 y) - 1))) (sym q) low_reach_x) (I.low_reach p h);
      apart = I.apart;
      found = λ v h a c. ⊎_elim (λ q. (b, omega (arith, S.here, dd), this1 ∙ sym q))
          (λ q. I.found v h (λ z. a (no v h q ∙ z)) (λ z. c (no v h q ∙ z))) (eq_or v x);
      sound = λ v m h i. ⊎_elim
          (λ q. subst (λ (z : ℕ). Join E start z m) (sym q)
          (⊎_elim (λ j. I.sound x m xk j) (λ j. join_reaches start m (step xy here) (I.sound y m yk j)) (has_or (F1 x) (F1 y) m (subst (λ (z : ℕ). Has z m) (ap F2 q ∙ fx) i))))
          (λ q. I.sound v m h (subst (λ (z : ℕ). Has z m) (fo v h q) i)) (eq_or v x);
      starts = λ v m h i. ⊎_elim
          (λ q. subst (λ (z : ℕ). Has z m) (sym (ap F2 q ∙ fx)) (or_has_l (F1 x) (F1 y) m (subst (λ (z : ℕ). Has (F1 z) m) q (I.starts v m h i))))
          (λ q. subst (λ (z : ℕ). Has z m) (sym (fo v h q)) (I.starts v m h i)) (eq_or v x);
      full = λ v m h e j. ⊎_elim (λ q. let z : min (num1 x) (num1 y) ≡ 65535 = sym nx ∙ ap num2 (sym q) ∙ e in absurd (omega (arith, low_x, S.here, dd)))
          (λ q. subst (λ (z : ℕ). Has z m) (sym (fo v h q)) (I.full v m h (sym (no v h q) ∙ e) j)) (eq_or v x);
    }

    pub taken : Scan E k start num2 stk1 F2 b d1 x left'
    unfolding top low
    taken = record {
      inv = inv2;
      here = omega (arith, S.here, dd);
      this = this1;
      seg = subst (λ (z : ℕ). Segment E start stk1 F2 (Has (F2 x)) left' z b d1 (b + 1) d1) (sym nx)
          (seg_sets
          (λ m. ⊎_elim (λ i. subst (λ (z : ℕ). Has z m) (sym fx) (or_has_l (F1 x) (F1 y) m i)) (λ i. subst (λ (z : ℕ). Has z m) (sym fx) (or_has_r (F1 x) (F1 y) m i)))
          (λ p m h i. ⊎_elim (λ q. inr (subst (λ (z : ℕ). Has (F2 z) m) q i)) (λ q. inl (subst (λ (z : ℕ). Has z m) (fo (stk1 p) (I.node p h) q) i)) (eq_or (stk1 p) x))
          (seg_edge next covered whole));
    }

    below_x : (p : ℕ) → p < b → stk1 p ≡ x → ⊥
    below_x p h q = I.apart p b h (omega (arith, S.here, dd)) (q ∙ sym this1)

    pub taken_frame : Frame num stk F num2 stk1 F2 b
    taken_frame = frame_trans (omega (arith, S.here)) fr (record {
      stack = λ p h. refl;
      number = λ p h. no (stk1 p) (I.node p (omega (arith, S.here, dd))) (below_x p h);
      set = λ p h. fo (stk1 p) (I.node p (omega (arith, S.here, dd))) (below_x p h);
    })

  -- ---- all edges of x are taken
  module _ (num stk F : ℕ → ℕ) (b d x : ℕ) (S : Scan E k start num stk F b d x None) where
    -- x stays on the stack
    pub stays : (num x ≡ b + 1 → ⊥) → Ended E start num stk F b d x
    stays ne =
        let low_x : num x ≤ b + 1 = subst (λ (z : ℕ). num z ≤ b + 1) S.this (S.inv.low_le b S.here) in
        let pos_x : 1 ≤ num x = subst (λ (z : ℕ). 1 ≤ num z) S.this (S.inv.low_pos b S.here) in
        inr (
          S.here,
          S.this,
          omega arith,
          record {
            within = S.seg.within;
            back = λ p h g. ⊎_elim (λ l. S.seg.back p (omega arith) g)
                (λ l. let q : p ≡ b = omega arith in
                (num x - 1, omega arith, omega arith, subst₂ (λ (u v : ℕ). Reaches E u (stk (v - 1))) (ap stk (sym q)) (ap num S.this) (S.inv.low_reach b S.here)))
                (lt_or_ge b p);
            edges = S.seg.edges;
          },
        )

    -- x is the lowest of its cycles: all from b on is complete
    module _ (nx : num x ≡ b + 1) (small : d ≤ transition_limit) where
      to_x : (f p : ℕ) → p < f → b ≤ p → p < d → Reaches E (stk p) x
      to_x zero p h g i = absurd (omega arith)
      to_x (suc f) p h g i =
          ⊎_elim (λ l. let q = S.seg.back p (omega arith) i in reaches_trans q.3 (to_x f q.0 (omega (arith, q.1)) (omega (arith, q.2)) (omega (arith, q.1))))
          (λ l. let q : p ≡ b = omega arith in subst (λ (z : ℕ). Reaches E (stk p) z) (ap stk q ∙ S.this) here) (lt_or_ge b p)

      in_x : {v u : ℕ} (m : ℕ) → Reaches E v u → (p : ℕ) → b ≤ p → p < d → stk p ≡ v → Has (start u) m → Has (F x) m
      in_x {v} m here p h g e i = S.seg.within p m h g (subst (λ (z : ℕ). Has (F z) m) (sym e) (S.inv.starts v m (subst (λ (z : ℕ). z < k) e (S.inv.node p g)) i))
      in_x m (step {b = w} {c = u} ed r) p h g e i =
          ⊎_elim (λ j. j m (u, r, i)) (λ q. in_x m r q.0 (omega (arith, q.3)) q.1 q.2 i)
          (S.seg.edges p w h g (subst (λ (z : ℕ). E z w) (sym e) ed) (λ _ a. a))

      Within : ℕ → Type 0
      Within v = (p : ℕ) × (b ≤ p) × (p < d) × (stk p ≡ v)

      is_within : (v : ℕ) → v < k → Within v ⊎ ((p : ℕ) → b ≤ p → p < d → stk p ≡ v → ⊥)
      unfolding Within
      is_within v h = ⊎_elim (λ z. inr (λ p g i e. omega (arith, S.inv.low_pos p i, ap num e)))
          (λ z. ⊎_elim (λ y. inr (λ p g i e. omega (arith, S.inv.low_le p i, ap num e)))
          (λ y. let q = S.inv.found v h z y in
          ⊎_elim (λ l. inr (λ p g i e. S.inv.apart q.0 p (omega arith) i (q.2 ∙ sym e))) (λ l. inl (q.0, l, q.1, q.2)) (lt_or_ge q.0 b))
          (eq_or (num v) 65535))
          (eq_or (num v) 0)

      module _ (num' F' : ℕ → ℕ) (gone : (p : ℕ) → b ≤ p → p < d → (num' (stk p) ≡ 65535) × (F' (stk p) ≡ F x))
          (kept : (v : ℕ) → v < k → ((p : ℕ) → b ≤ p → p < d → stk p ≡ v → ⊥) → (num' v ≡ num v) × (F' v ≡ F v)) where
        lower : (q : ℕ) → q < b → (num' (stk q) ≡ num (stk q)) × (F' (stk q) ≡ F (stk q))
        lower q h = kept (stk q) (S.inv.node q (omega (arith, S.here))) (λ p g i e. S.inv.apart q p (omega arith) i (sym e))

        n_in : {v : ℕ} → Within v → num' v ≡ 65535
        unfolding Within
        n_in s = ap num' (sym s.3) ∙ (gone s.0 s.1 s.2).0

        f_in : {v : ℕ} → Within v → F' v ≡ F x
        unfolding Within
        f_in s = ap F' (sym s.3) ∙ (gone s.0 s.1 s.2).1

        pub pop_inv : Inv E k start num' stk F' b
        unfolding Within
        pop_inv = record {
          node = λ p h. S.inv.node p (omega (arith, S.here));
          low_pos = λ p h. omega (arith, (lower p h).0, S.inv.low_pos p (omega (arith, S.here)));
          low_le = λ p h. omega (arith, (lower p h).0, S.inv.low_le p (omega (arith, S.here)));
          low_reach = λ p h. subst (λ (z : ℕ). Reaches E (stk p) (stk (z - 1))) (sym (lower p h).0) (S.inv.low_reach p (omega (arith, S.here)));
          apart = λ p q h g. S.inv.apart p q h (omega (arith, S.here));
          found = λ v h a c. ⊎_elim (λ s. absurd (c (n_in s)))
              (λ s. let r = S.inv.found v h (λ z. a ((kept v h s).0 ∙ z)) (λ z. c ((kept v h s).0 ∙ z)) in
              ⊎_elim (λ l. (r.0, l, r.2)) (λ l. absurd (s r.0 l r.1 r.2)) (lt_or_ge r.0 b)) (is_within v h);
          sound = λ v m h i. ⊎_elim
              (λ s. join_reaches start m (subst (λ (z : ℕ). Reaches E z x) s.3 (to_x (suc s.0) s.0 (omega arith) s.1 s.2))
              (S.inv.sound x m (subst (λ (z : ℕ). z < k) S.this (S.inv.node b S.here)) (subst (λ (z : ℕ). Has z m) (f_in s) i)))
              (λ s. S.inv.sound v m h (subst (λ (z : ℕ). Has z m) (kept v h s).1 i)) (is_within v h);
          starts = λ v m h i. ⊎_elim
              (λ s. subst (λ (z : ℕ). Has z m) (sym (f_in s)) (S.seg.within s.0 m s.1 s.2 (subst (λ (z : ℕ). Has (F z) m) (sym s.3) (S.inv.starts v m h i))))
              (λ s. subst (λ (z : ℕ). Has z m) (sym (kept v h s).1) (S.inv.starts v m h i)) (is_within v h);
          full = λ v m h e j. ⊎_elim
              (λ s. subst (λ (z : ℕ). Has z m) (sym (f_in s)) (in_x m j.1 s.0 s.1 s.2 s.3 j.2))
              (λ s. subst (λ (z : ℕ). Has z m) (sym (kept v h s).1) (S.inv.full v m h (sym (kept v h s).0 ∙ e) j)) (is_within v h);
        }

        pub pop_frame : Frame num stk F num' stk F' b
        pop_frame = record { stack = λ p h. refl; number = λ p h. (lower p h).0; set = λ p h. (lower p h).1 }

        pub pop_ended : Ended E start num' stk F' b b x
        pop_ended = inl (ap num' (sym S.this) ∙ (gone b (omega arith) S.here).0, refl)
