-- The lookaheads of a production in a state: joined over the states from which its right side leads there.
use Prim.Native.Nat.{ℕ, suc, ◌+◌, ◌-◌, ◌*◌, ◌/◌, ◌%◌, ◌≤◌, ◌<◌}
use mathlib.Core.Path.{◌≡◌, refl, sym, ap, ap₂, ◌∙◌, subst}
use mathlib.Core.Bool.{true, false, true≢false, false≢true}
use mathlib.Core.Logic.{◌≢◌, ◌⊎◌, inl, inr, ⊎_elim}
use mathlib.Core.List.{List}
use native.Mathlib.Omega.{arith}
use lib.Dec.{eqb}
use lib.ListN.{length, get_or, set, replicate, length-set, length-replicate, get_or-replicate, get_or-eq_default}
use lib.Seq.{get_or-set_same, get_or-set_other}
use lib.Bits.{bit_or}
use borrow.Author.Tests.{eq-eqb}
use Rattle.sets.specs.Bit.{bit}
use Rattle.sets.proofs.HasLaws.{lt_or_ge, below_suc, or_left, or_right, has_none, has_one, one_has, has_or, or_has_l, or_has_r}
use Rattle.items.specs.Item.{item, put}
use Rattle.items.proofs.ItemLaws.{item_put}
use Rattle.grammar.specs.Card.{productions, left_of, length_of, symbol_of, start_of, form_fault}
use Rattle.grammar.proofs.CardLaws.{well_formed}
use Rattle.transitions.specs.Area.{leaves_of, nonterminal_of, first_of, entering_of}
use Rattle.transitions.specs.Occurrences.{symbol_at}
use Rattle.transitions.specs.Data.{Ordered, Holds}
use Rattle.relations.specs.Path.{Path, Leads, States}
use Rattle.relations.specs.Path.Path.{here, step}
use Rattle.relations.specs.Steps.{Leaves}
use Rattle.sets.specs.Words.{First, Next}
use Rattle.std.specs.Prelude.{None}
use Rattle.transitions.proofs.SymbolLaws.{symbol_is, symbol_high}
use Rattle.relations.proofs.PathLaws.{path_end}
use Rattle.cells.specs.Words.{Live}
use Rattle.cells.proofs.WordLaws.{decided}
use Rattle.lookaheads.specs.LooksBack.{LooksBack, Looks}
use Rattle.lookaheads.specs.Joins.{Follows, Joins, Key, Keyed, Added, Candidates, Accepts}

pub holds_none : {P : ℕ → Type 0} → ((m : ℕ) → P m → ⊥) → Holds 0 P
holds_none n = record { only = λ m h. absurd (has_none m h); all = λ m h. absurd (n m h) }

-- ---- one transition

module _ (c w z : List ℕ) (k p x s i : ℕ) (at : Leaves w k p x i) where
  same : (m : ℕ) → (f : Follows w z k p x m) → f.transition ≡ i
  same m f = at.only f.transition f.below f.leaves f.symbol

  pub joins_some : Joins w z k p x s (bit_or s (get_or z i 0))
  joins_some = record {
    only = λ m g. ⊎_elim inl (λ b. inr (record { transition = i; below = at.inside; leaves = at.state; symbol = at.symbol; member = b })) (has_or s (get_or z i 0) m g);
    kept = λ m g. or_has_l s (get_or z i 0) m g;
    all = λ m f. or_has_r s (get_or z i 0) m (subst (λ (y : ℕ). bit (get_or z y 0) m ≡ true) (same m f) f.member);
  }

-- ---- the states from which the right side leads to q, in turn

-- s has the sets of the transitions by the left side from such states below `from`
pub record Looked (c w z : List ℕ) (k q r from s : ℕ) : Type 0 where
  pub only : (m : ℕ) → bit s m ≡ true → LooksBack c w z k q r m
  pub all : (p m : ℕ) → p < from → Leads c w r (length_of c r) q p → Follows w z k p (left_of c r) m → bit s m ≡ true

module _ (c w z : List ℕ) (k q r : ℕ) where
  pub looked_none : Looked c w z k q r 0 0
  looked_none = record { only = λ m h. absurd (has_none m h); all = λ p m h. absurd (omega arith) }

  looks : (p m : ℕ) → Leads c w r (length_of c r) q p → Follows w z k p (left_of c r) m → LooksBack c w z k q r m
  looks p m l f = record {
    transition = f.transition;
    below = f.below;
    left = f.symbol;
    leads = subst (Leads c w r (length_of c r) q) (sym f.leaves) l;
    follows = f.member;
  }

  -- an empty right side leads from q to q alone
  pub looked_empty : (x d s : ℕ) → x ≡ left_of c r → d ≡ length_of c r → d ≡ 0 → Joins w z k q x 0 s → Holds s (LooksBack c w z k q r)
  looked_empty x d s e f g j' = record {
    only = λ m h. ⊎_elim (λ a. absurd (has_none m a)) (looks q m (here (sym g ∙ f) refl)) (j.only m h);
    all = λ m y. j.all m (record { transition = y.transition; below = y.below; leaves = path_end y.leads (sym g ∙ f); symbol = y.left; member = y.follows });
  }
    where
      j : Joins w z k q (left_of c r) 0 s
      j = subst (λ (y : ℕ). Joins w z k q y 0 s) e j'

  -- `left` has the states from which the right side leads to q
  module _ (r' d : ℕ) (left : List ℕ) (er : r' ≡ r) (ed : d ≡ length_of c r) (given : States left (Leads c w r' d q)) (from s : ℕ) (l : Looked c w z k q r from s) where
    states : States left (Leads c w r (length_of c r) q)
    states = subst (λ (y : ℕ). States left (Leads c w r y q)) ed (subst (λ (y : ℕ). States left (Leads c w y d q)) er given)

    pub looked_more : (x p s' : ℕ) → x ≡ left_of c r → First left from p → p < 256 → Joins w z k p x s s' → Looked c w z k q r (p + 1) s'
    looked_more x p s' e f h j' = record {
      only = λ m g. ⊎_elim (l.only m) (looks p m (states.only p h f.here)) (j.only m g);
      all = λ i m g y n.
          ⊎_elim
          (λ (a : i < from). j.kept m (l.all i m a y n))
          (λ (a : from ≤ i).
          ⊎_elim
          (λ (b : i < p). absurd (false≢true (sym (f.gap i a b) ∙ states.all i (omega arith) y)))
          (λ (b : i ≡ p). j.all m (subst (λ (a : ℕ). Follows w z k a (left_of c r) m) b n))
          (below_suc g))
          (lt_or_ge i from);
    }
      where
        j : Joins w z k p (left_of c r) s s'
        j = subst (λ (y : ℕ). Joins w z k p y s s') e j'

    pub looked_end : Ordered c w k → Next left from None → Holds s (LooksBack c w z k q r)
    looked_end o none = record {
      only = l.only;
      all = λ m y.
          let b : leaves_of w y.transition < 256 = o.leaves y.transition y.below in
          ⊎_elim
          (λ a. l.all (leaves_of w y.transition) m a y.leads (record { transition = y.transition; below = y.below; leaves = refl; symbol = y.left; member = y.follows }))
          (λ a. absurd (false≢true (sym (none (leaves_of w y.transition) a) ∙ states.all (leaves_of w y.transition) b y.leads)))
          (lt_or_ge (leaves_of w y.transition) from);
    }

-- ---- productions that are passed over

-- the last step of a path that has one
module _ {G : ℕ → ℕ → ℕ → Type 0} {f : ℕ → ℕ} {d q : ℕ} where
  last_step : {i p : ℕ} → Path G f d q i p → i < d → (s : ℕ) × G s (f (d - 1)) q
  last_step (here e k) h = absurd (omega arith)
  last_step (step {i} {p} s g r) h = go (lt_or_ge (suc i) d) (last_step r)
    where
      go : (suc i < d) ⊎ (d ≤ suc i) → (suc i < d → (s : ℕ) × G s (f (d - 1)) q) → (s : ℕ) × G s (f (d - 1)) q
      go (inl b) more = more b
      go (inr b) more =
          let e : i ≡ d - 1 = omega arith in
          let k : suc i ≡ d = omega arith in
          (p, subst (G p (f (d - 1))) (path_end r k) (subst (λ (y : ℕ). G p (f y) s) e g))

-- a production that is not in the set has no lookaheads
pub never_looks : (c w z : List ℕ) (k q r : ℕ) (live : List ℕ) → Candidates c w k q live → r < productions c → item live r ≡ false → Holds 0 (LooksBack c w z k q r)
never_looks c w z k q r live s h f = holds_none (λ m y. false≢true (sym f ∙ here' y (lt_or_ge 0 (length_of c r))))
  where
    here' : {m : ℕ} → LooksBack c w z k q r m → (0 < length_of c r) ⊎ (length_of c r ≤ 0) → item live r ≡ true
    here' y (inl l) = s.ending r h l (sym (last_step y.leads l).1.symbol)
    here' y (inr l) =
        let e : 0 ≡ length_of c r = omega arith in
        s.empty r y.transition h (sym e) y.below (path_end y.leads e) y.left

-- ---- productions by their keys

pub few : (c w : List ℕ) (k : ℕ) → Ordered c w k → productions c ≤ 128
few c w k o = (well_formed c o.formed).limits.productions_to

pub key_some : (c : List ℕ) (r d b v v' : ℕ) → d ≡ length_of c r → (d ≡ 0 → ⊥) → b ≡ start_of c r → v ≡ symbol_of c (b + (d - 1)) → v' ≡ v → Key c r v'
key_some c r d b v v' ed n eb ev ev' = record {
  none = λ h. absurd (n (ed ∙ h));
  some = λ h. ev' ∙ symbol_is c r b (d - 1) v eb ev ∙ ap (λ (y : ℕ). symbol_at c r (y - 1)) ed;
}

-- there is one key, and it is below 256
key_one : (c : List ℕ) (r v u : ℕ) → Key c r v → Key c r u → v ≡ u
key_one c r v u a b = ⊎_elim (λ h. a.some h ∙ sym (b.some h)) (λ h. a.none (omega arith) ∙ sym (b.none (omega arith))) (lt_or_ge 0 (length_of c r))

pub key_below : (c : List ℕ) (r v : ℕ) → form_fault c ≡ 0 → r < productions c → Key c r v → v < 256
key_below c r v f h a =
    let w = well_formed c f in
    let t = w.limits.terminals_to in
    let n = w.limits.nonterminals_to in
    ⊎_elim
    (λ (g : 0 < length_of c r). let e = a.some g in let s = symbol_high c r (length_of c r - 1) f h (omega arith) in omega arith)
    (λ (g : length_of c r ≤ 0). let e = a.none (omega arith) in let s = (w.lefts r h).1 in omega arith)
    (lt_or_ge 0 (length_of c r))

-- the place of its bit
pub key_place : (c : List ℕ) (r v : ℕ) → form_fault c ≡ 0 → r < productions c → Key c r v → 128 * v + r < 32768
key_place c r v f h a = omega (arith, key_below c r v f h a, (well_formed c f).limits.productions_to)

pub keyed_more : (c s : List ℕ) (r v i : ℕ) → Key c r v → i ≡ 128 * v + r → i / 64 < length s → Keyed c s r → Keyed c (put s i) (r + 1)
keyed_more c s r v i a e h old r' v' l b =
    item_put s i (128 * v' + r') h
    ∙ ⊎_elim
    (λ (g : r' < r). or_left (item s (128 * v' + r')) (eqb i (128 * v' + r')) (old r' v' g b))
    (λ (g : r' ≡ r).
    let u : v ≡ v' = key_one c r v v' a (subst (λ (y : ℕ). Key c y v') g b) in
    or_right (item s (128 * v' + r')) (eqb i (128 * v' + r')) (eq-eqb i (128 * v' + r') (omega arith)))
    (below_suc l)

-- two words more
module _ (keyed s : List ℕ) (v i : ℕ) (two : length s ≡ 2) (e : i ≡ 2 * v) where
  first : ℕ
  first = bit_or (get_or s 0 0) (get_or keyed i 0)

  second : ℕ
  second = bit_or (get_or (set s 0 (bit_or (get_or s 0 0) (get_or keyed i 0))) 1 0) (get_or keyed (i + 1) 0)

  after : List ℕ
  after = set (set s 0 (bit_or (get_or s 0 0) (get_or keyed i 0))) 1 (bit_or (get_or (set s 0 (bit_or (get_or s 0 0) (get_or keyed i 0))) 1 0) (get_or keyed (i + 1) 0))

  at : (h : ℕ) → h < 2 → get_or after h 0 ≡ bit_or (get_or s h 0) (get_or keyed (i + h) 0)
  unfolding after first second
  at h l = ⊎_elim
      (λ (z : h ≡ 0). rw z
      (get_or-set_other (set s 0 first) 1 0 second 0 (λ x. omega arith) ∙ get_or-set_same s 0 first 0 (omega arith)
      ∙ ap (λ (y : ℕ). bit_or (get_or s 0 0) (get_or keyed y 0)) (let u : i ≡ i + 0 = omega arith in u)))
      (λ (z : h ≡ 1). rw z (get_or-set_same (set s 0 first) 1 second 0 (omega (arith, length-set s 0 first)) ∙ ap (λ (y : ℕ). bit_or y (get_or keyed (i + 1) 0)) (get_or-set_other s 0 1 first 0 (λ x. omega arith))))
      (zero_or_one h l)
    where
      zero_or_one : (h : ℕ) → h < 2 → (h ≡ 0) ⊎ (h ≡ 1)
      zero_or_one h l = ⊎_elim (λ (g : h < 1). inl (omega arith)) (λ (g : 1 ≤ h). inr (omega arith)) (lt_or_ge h 1)

  pub added_some : (t : List ℕ) → t ≡ set (set s 0 (bit_or (get_or s 0 0) (get_or keyed i 0))) 1 (bit_or (get_or (set s 0 (bit_or (get_or s 0 0) (get_or keyed i 0))) 1 0) (get_or keyed (i + 1) 0)) → Added keyed v s t
  unfolding after item
  added_some t et r l x =
      ap (λ (y : List ℕ). bit (get_or y (r / 64) 0) (r % 64)) et ∙ ap (λ (y : ℕ). bit y (r % 64)) (at (r / 64) (omega arith))
      ∙ ⊎_elim
      (λ a. or_has_l (get_or s (r / 64) 0) (get_or keyed (i + r / 64) 0) (r % 64) a)
      (λ a. or_has_r (get_or s (r / 64) 0) (get_or keyed (i + r / 64) 0) (r % 64) (ap₂ (λ (y m : ℕ). bit (get_or keyed y 0) m) (let u : i + r / 64 ≡ (128 * v + r) / 64 = omega arith in u) (let u : r % 64 ≡ (128 * v + r) % 64 = omega arith in u) ∙ a.1))
      x

pub added_none : (keyed s : List ℕ) (v : ℕ) → 256 ≤ v → Added keyed v s s
added_none keyed s v h r l (inl a) = a
added_none keyed s v h r l (inr a) = absurd (omega (arith, a.0))

-- s has what is kept under the symbol under which q is entered, and the empty productions of the transitions from the first of q to i
pub record Gathered (w keyed : List ℕ) (q i : ℕ) (s : List ℕ) : Type 0 where
  pub from : first_of w q ≤ i
  pub ending : (r : ℕ) → r < 128 → entering_of w q < 256 → item keyed (128 * entering_of w q + r) ≡ true → item s r ≡ true
  pub empty : (r j : ℕ) → r < 128 → first_of w q ≤ j → j < i → 128 + nonterminal_of w j < 256 → item keyed (128 * (128 + nonterminal_of w j) + r) ≡ true → item s r ≡ true

pub gathered_end : (c w keyed : List ℕ) (k q i end : ℕ) (s : List ℕ) → Ordered c w k → Keyed c keyed (productions c) → end ≡ first_of w (q + 1) → end ≤ i → Gathered w keyed q i s → Candidates c w k q s
gathered_end c w keyed k q i end s o kept e le g = record {
  ending = λ r h l x.
      let a : Key c r (entering_of w q) = record { none = λ z. absurd (omega arith); some = λ z. sym x } in
      g.ending r (omega (arith, few c w k o)) (key_below c r (entering_of w q) o.formed h a) (kept r (entering_of w q) h a);
  empty = λ r j h z b l n.
      let t = subst (λ (y : ℕ). (first_of w y ≤ j) × (j < first_of w (y + 1))) l (o.to j b) in
      let a : Key c r (128 + nonterminal_of w j) = record { none = λ y. ap (λ (y : ℕ). 128 + y) n; some = λ y. absurd (omega arith) } in
      g.empty r j (omega (arith, few c w k o)) t.0 (omega (arith, t.1)) (key_below c r (128 + nonterminal_of w j) o.formed h a) (kept r (128 + nonterminal_of w j) h a);
}

-- ---- the words of a state

pub live_as : (n n' : ℕ) (s live : List ℕ) → n ≡ n' → Live n' s live → Live n s live
live_as n n' s live e l = subst (λ (y : ℕ). Live y s live) (sym e) l

pub live_none : (n : ℕ) (live : List ℕ) → Live n (replicate 128 0) live
live_none n live = record { none = λ r h. zeros r; beyond = λ r h. zeros r }
  where
    zeros : (r : ℕ) → ◌≡◌ {A = ℕ} (get_or (replicate 128 0) r 0) 0
    zeros r = ⊎_elim (λ h. get_or-replicate 128 r 0 0 h) (λ h. get_or-eq_default (replicate 128 0) 0 {n = r} (omega (arith, length-replicate {A = ℕ} 128 0))) (lt_or_ge r 128)

-- the word of production r, one of n and the first in the set from `from` on, is stored
module _ (live s : List ℕ) (n from r v : ℕ) (f : First live from r) (h : r < n) where
  pub live_more : Live n s live → Live n (set s r v) live
  live_more l = record {
    none = λ i e. get_or-set_other s r i v 0 (λ x. true≢false (sym f.here ∙ ap (item live) (sym x) ∙ e)) ∙ l.none i e;
    beyond = λ i e. get_or-set_other s r i v 0 (λ x. omega arith) ∙ l.beyond i e;
  }

  pub stored : (P : ℕ → ℕ → Type 0) → r < length s → P r v → ((i : ℕ) → i < from → item live i ≡ true → P i (get_or s i 0)) → (i : ℕ) → i < r + 1 → item live i ≡ true → P i (get_or (set s r v) i 0)
  stored P fits p old i l y =
      ⊎_elim
      (λ (a : i < r).
      ⊎_elim
      (λ (b : i < from). subst (P i) (sym (get_or-set_other s r i v 0 (λ e. omega arith))) (old i b y))
      (λ (b : from ≤ i). absurd (true≢false (sym y ∙ f.gap i b a)))
      (lt_or_ge i from))
      (λ (a : i ≡ r). subst (λ (y : ℕ). P y (get_or (set s r v) y 0)) (sym a) (subst (P r) (sym (get_or-set_same s r v 0 fits)) p))
      (below_suc l)

-- the words of all productions: none of them from `from` on is in the set
pub words_all : (c w z : List ℕ) (k q from : ℕ) (live s : List ℕ) → Candidates c w k q live → Live (productions c) s live → ((i : ℕ) → from ≤ i → i < productions c → item live i ≡ false)
    → ((i : ℕ) → i < from → item live i ≡ true → Holds (get_or s i 0) (LooksBack c w z k q i)) → Looks c w z k q s
words_all c w z k q from live s cs l rest done i b =
    ⊎_elim (λ t. ⊎_elim (λ a. done i a t) (λ a. absurd (true≢false (sym t ∙ rest i a b))) (lt_or_ge i from))
    (λ f. subst (λ (y : ℕ). Holds y (LooksBack c w z k q i)) (sym (l.none i f)) (never_looks c w z k q i live cs b f)) (decided (item live i))

-- ---- acceptance

pub accepts_zero : (a q : ℕ) → q ≡ 0 → Holds 0 (Accepts a q)
accepts_zero a q e = holds_none (λ m y. y.some e)

pub accepts_other : (a q : ℕ) → (a ≡ q → ⊥) → Holds 0 (Accepts a q)
accepts_other a q n = holds_none (λ m y. n y.target)

pub accepts_one : (a q : ℕ) → q ≢ 0 → a ≡ q → Holds 1 (Accepts a q)
accepts_one a q n e = record {
  only = λ m h. record { end_marker = sym (has_one 0 m h); target = e; some = n };
  all = λ m y. subst (λ (x : ℕ). bit 1 x ≡ true) (sym y.end_marker) (one_has 0);
}
