-- The nonterminals that begin what a nonterminal becomes, by words; and from them the closures of the nonterminals.
use mathlib.Core.Bool.{Bool, true, false, ◌||◌, false≢true}
use mathlib.Core.List.{List}
use mathlib.Core.Logic.{◌⊎◌, inl, inr, ⊎_elim}
use mathlib.Core.Path.{◌≡◌, refl, sym, ap, ◌∙◌}
use Prim.Native.Nat.{ℕ, ◌+◌, ◌-◌, ◌*◌, ◌%◌, ◌^◌, ◌≤◌, ◌<◌}
use native.Mathlib.Nat.{not-suc-le-zero}
use native.Mathlib.Omega.{arith}
use lib.Bits.{bit_or}
use lib.Dec.{eqb}
use lib.ListN.{length, get_or, set, replicate, length-set, length-replicate, get_or-replicate, get_or-eq_default}
use lib.Seq.{get_or-set_same, get_or-set_other}
use borrow.Author.Tests.{eqb-true, eq-eqb}
use Rattle.closures.proofs.NumberLaws.{after_most}
use Rattle.closures.specs.Areas.{closures_at, Leads, own, next, Begun, Through, Widened, Led, Firsts, Closures, Added}
use Rattle.closures.specs.Numbers.{first_of, after_of}
use Rattle.closures.specs.Sets.{Reach, base, step}
use Rattle.grammar.proofs.CardLaws.{WellFormed}
use Rattle.grammar.specs.Card.{terminals, nonterminals, productions, left_of}
use Rattle.items.specs.Item.{item, Put, Empty}
use Rattle.sets.proofs.BitLaws.{bit_of_or, bit_zero, bit_pow, one_shl}
use Rattle.sets.proofs.HasLaws.{lt_or_ge, eq_or, or_cases, or_left, or_right, has_one, one_has, has_or, or_has_l, or_has_r}
use Rattle.sets.specs.Bit.{bit}

leads_then : (c : List ℕ) (j m k : ℕ) → Leads c j m → Leads c m k → Leads c j k
leads_then c j m k a (own _ e) = rw e at a
leads_then c j m k a (next i r _ l h e f) = next i r k (leads_then c j m i a l) h e f

zero_word : (n j : ℕ) → ◌≡◌ {A = ℕ} (get_or (replicate n 0) j 0) 0
zero_word n j =
    ⊎_elim (λ (h : j < n). get_or-replicate n j 0 0 h)
    (λ (h : n ≤ j). get_or-eq_default (replicate n 0) 0 {n = j} (omega (arith, length-replicate {A = ℕ} n 0))) (lt_or_ge j n)

-- ---- the nonterminals that begin productions

pub begun_start : (c : List ℕ) → Begun c (replicate 60 0) 0
begun_start c = record {
  long = refl;
  all = λ r k h. absurd (not-suc-le-zero h);
  from = λ j k e. absurd (false≢true (sym (ap (λ (x : ℕ). bit x k) (zero_word 60 j) ∙ bit_zero k) ∙ e));
}

pub begun_skip : (c w : List ℕ) (r x t : ℕ) → Begun c w r → x ≡ after_of c (first_of c r) → t ≡ terminals c → x < t → Begun c w (r + 1)
begun_skip c w r x t b ex et h = record {
  long = b.long;
  all = λ q k l e.
      ⊎_elim (λ (g : q < r). b.all q k g e)
      (λ (g : r ≤ q).
      let z : after_of c (first_of c r) ≡ terminals c + k = ap (λ (i : ℕ). after_of c (first_of c i)) (let y : r ≡ q = omega arith in y) ∙ e in
      absurd (let y : ⊥ = omega arith in y)) (lt_or_ge q r);
  from = b.from;
}

pub begun_take : (c w : List ℕ) (r x t j m : ℕ) → WellFormed c → Begun c w r → r < productions c → x ≡ after_of c (first_of c r) → t ≡ terminals c → t ≤ x → j ≡ left_of c r - terminals c → m ≡ x - t
    → Begun c (set w j (bit_or (get_or w j 0) ((1 * 2 ^ m) % 2 ^ 64))) (r + 1)
begun_take c w r x t j m f b h ex et l ej em =
    let v = bit_or (get_or w j 0) (2 ^ m) in
    let am : after_of c (first_of c r) < terminals c + nonterminals c = after_most c f (first_of c r) in
    let lr = f.lefts r h in
    let l0 : terminals c ≤ left_of c r = lr.0 in
    let l1 : left_of c r < terminals c + nonterminals c = lr.1 in
    let jl : j < length w = omega (arith, b.long, f.limits.nonterminals_to) in
    let here : (k : ℕ) → bit (get_or (set w j v) j 0) k ≡ (bit (get_or w j 0) k || eqb m k) = λ k.
    ap (λ (y : ℕ). bit y k) (get_or-set_same w j v 0 jl) ∙ bit_of_or (get_or w j 0) (2 ^ m) k ∙ ap (λ (y : Bool). bit (get_or w j 0) k || y) (bit_pow m k) in
    let other : (i : ℕ) → (i ≡ j → ⊥) → get_or (set w j v) i 0 ≡ get_or w i 0 = λ i n. get_or-set_other w j i v 0 n in
    rw (one_shl 64 m (omega (arith, f.limits.nonterminals_to)))
    (record {
      long = simp length-set b.long;
      all = λ q k g e.
          ⊎_elim
          (λ (y : left_of c q - terminals c ≡ j).
          rw (y, here k)
          (⊎_elim (λ (u : q < r). or_left (bit (get_or w j 0) k) (eqb m k) (rw y at (b.all q k u e)))
          (λ (u : r ≤ q).
          let z : after_of c (first_of c r) ≡ terminals c + k = ap (λ (i : ℕ). after_of c (first_of c i)) (let y : r ≡ q = omega arith in y) ∙ e in
          or_right (bit (get_or w j 0) k) (eqb m k) (eq-eqb m k (omega arith))) (lt_or_ge q r)))
          (λ n.
          ⊎_elim (λ (u : q < r). rw (other (left_of c q - terminals c) n) (b.all q k u e))
          (λ (u : r ≤ q). absurd (n (ap (λ (i : ℕ). left_of c i - terminals c) (let y : q ≡ r = omega arith in y) ∙ sym ej))) (lt_or_ge q r))
          (eq_or (left_of c q - terminals c) j);
      from = λ i k e.
          ⊎_elim
          (λ (y : i ≡ j).
          rw y
          (⊎_elim (λ u. b.from j k u)
          (λ u. let z : m ≡ k = eqb-true m k u in next j r k (own j refl) h (omega arith) (sym ex ∙ omega arith))
          (or_cases (bit (get_or w j 0) k) (eqb m k) (sym (here k) ∙ rw y at e))))
          (λ n. b.from i k (rw (other i n) at e))
          (eq_or i j);
    })

-- ---- one more nonterminal to go through

pub through_taken : (a k b : ℕ) → bit a k ≡ true → Through a k b (bit_or a b)
through_taken a k b e = record {
  kept = λ m h. or_has_l a b m h;
  all = λ m u h. or_has_r a b m h;
  from = λ m h. ⊎_elim inl (λ u. inr (e, u)) (has_or a b m h);
}

-- ---- all of them

-- what is reached through the nonterminals below k is there
pub record Leading (c t : List ℕ) (k : ℕ) : Type 0 where
  pub long : length t ≡ 60
  pub edges : (r m : ℕ) → r < productions c → after_of c (first_of c r) ≡ terminals c + m → bit (get_or t (left_of c r - terminals c) 0) m ≡ true
  pub closed : (j m l : ℕ) → j < nonterminals c → m < k → bit (get_or t j 0) m ≡ true → bit (get_or t m 0) l ≡ true → bit (get_or t j 0) l ≡ true
  pub from : (j m : ℕ) → bit (get_or t j 0) m ≡ true → Leads c j m

module _ (c t : List ℕ) (k : ℕ) (u : List ℕ) (f : WellFormed c) (p : Leading c t k) (d : Widened t (nonterminals c) k u) (h : k < nonterminals c) where
  abbrev In : ℕ → ℕ → Type 0
  In j m = bit (get_or t j 0) m ≡ true

  abbrev In' : ℕ → ℕ → Type 0
  In' j m = bit (get_or u j 0) m ≡ true

  pub lead_more : Leading c u (k + 1)
  lead_more = record {
    long = d.long;
    edges = λ r m hr e.
        let lr = f.lefts r hr in
        let l0 : terminals c ≤ left_of c r = lr.0 in
        let l1 : left_of c r < terminals c + nonterminals c = lr.1 in
        (d.through (left_of c r - terminals c) (omega arith)).kept m (p.edges r m hr e);
    closed = λ j m l hj hm a b. ⊎_elim (λ (g : m < k). below j m l hj g a b) (λ (g : k ≤ m). let z : m ≡ k = omega arith in at j l hj (rw z at a) (rw z at b)) (lt_or_ge m k);
    from = λ j m e.
        ⊎_elim
        (λ (hj : j < nonterminals c).
        ⊎_elim (p.from j m) (λ w. leads_then c j k m (p.from j k w.0) (p.from k m w.1)) ((d.through j hj).from m e))
        (λ (hj : nonterminals c ≤ j). p.from j m (rw (d.rest j hj) at e))
        (lt_or_ge j (nonterminals c));
  }
    where
      below : (j m l : ℕ) → j < nonterminals c → m < k → In' j m → In' m l → In' j l
      below j m l hj g a b = go ((d.through j hj).from m a) ((d.through m (omega arith)).from l b)
        where
          go : In j m ⊎ (In j k × In k m) → In m l ⊎ (In m k × In k l) → In' j l
          go (inl x) (inl y) = (d.through j hj).kept l (p.closed j m l hj g x y)
          go (inl x) (inr y) = (d.through j hj).all l (p.closed j m k hj g x y.0) y.1
          go (inr x) (inl y) = (d.through j hj).all l x.0 (p.closed k m l h g x.1 y)
          go (inr x) (inr y) = (d.through j hj).all l x.0 y.1

      at : (j l : ℕ) → j < nonterminals c → In' j k → In' k l → In' j l
      at j l hj a b =
          (d.through j hj).all l (⊎_elim (λ x. x) (λ x. x.0) ((d.through j hj).from k a)) (⊎_elim (λ x. x) (λ x. x.1) ((d.through k h).from l b))

pub lead_end : (c t : List ℕ) (k : ℕ) → WellFormed c → Leading c t k → nonterminals c ≤ k → Led c t
lead_end c t k f p h = record { long = p.long; all = λ j m hj l. all j m hj l; from = p.from }
  where
    all : (j m : ℕ) → j < nonterminals c → Leads c j m → (j ≡ m) ⊎ (bit (get_or t j 0) m ≡ true)
    all j m hj (own _ e) = inl e
    all j m hj (next i r _ l hr e a) =
        let lr = f.lefts r hr in
        let l1 : left_of c r < terminals c + nonterminals c = lr.1 in
        let z : left_of c r - terminals c ≡ i = omega arith in
        let y : bit (get_or t i 0) m ≡ true = rw z at (p.edges r m hr a) in
        inr (⊎_elim (λ (w : j ≡ i). rw w y) (λ w. p.closed j i m hj (omega arith) w y) (all j i hj l))

-- ---- first items

pub firsts_start : (c : List ℕ) (w : ℕ) (s : List ℕ) → Empty s → Firsts c w 0 s
firsts_start c w s e = record { all = λ q h. absurd (not-suc-le-zero h); from = λ k h. absurd (false≢true (sym (e.items k) ∙ h)) }

pub firsts_skip : (c : List ℕ) (w n : ℕ) (s : List ℕ) → Firsts c w n s → bit w (left_of c n - terminals c) ≡ false → Firsts c w (n + 1) s
firsts_skip c w n s o ne = record {
  all = λ q h e. ⊎_elim (λ (g : q < n). o.all q g e)
      (λ (g : n ≤ q). absurd (false≢true (sym ne ∙ ap (λ (i : ℕ). bit w (left_of c i - terminals c)) (let z : n ≡ q = omega arith in z) ∙ e))) (lt_or_ge q n);
  from = λ k h. let t = o.from k h in (t.0, (let z : t.0 < n = t.1 in omega arith), t.2, t.3);
}

pub firsts_take : (c : List ℕ) (w n : ℕ) (s u : List ℕ) → Firsts c w n s → bit w (left_of c n - terminals c) ≡ true → Put s (first_of c n) u → Firsts c w (n + 1) u
firsts_take c w n s u o y p = record {
  all = λ q h e.
      p.items (first_of c q)
      ∙ ⊎_elim (λ (g : q < n). or_left (item s (first_of c q)) _ (o.all q g e))
      (λ (g : n ≤ q). or_right (item s (first_of c q)) _ (eq-eqb _ _ (ap (first_of c) (let z : n ≡ q = omega arith in z)))) (lt_or_ge q n);
  from = λ k h.
      ⊎_elim
      (λ g. let t = o.from k g in (t.0, (let z : t.0 < n = t.1 in omega arith), t.2, t.3))
      (λ g. (n, omega arith, y, eqb-true _ _ g))
      (or_cases (item s k) (eqb (first_of c n) k) (sym (p.items k) ∙ h));
}

-- ---- the closures of the nonterminals

-- what nonterminals that begin T + j bring is brought by an item before T + j
brought : (c s : List ℕ) (i j m : ℕ) → item s i ≡ true → after_of c i ≡ terminals c + j → Leads c j m → (q : ℕ) → q < productions c → left_of c q ≡ terminals c + m → Reach c s (first_of c q)
brought c s i j m h a (own _ e) q hq el = step i q _ (base i h) hq (el ∙ ap (λ (x : ℕ). terminals c + x) (sym e) ∙ sym a) refl
brought c s i j m h a (next n r _ l hr er ea) q hq el = step (first_of c r) q _ (brought c s i j n h a l r hr er) hq (el ∙ sym ea) refl

module _ (c z y w : List ℕ) (j : ℕ) (r : List ℕ) (f : WellFormed c) (p : Closures c z j) (d : Led c w) (h : j < nonterminals c)
    (o : Firsts c (bit_or (get_or w j 0) (2 ^ j)) (productions c) r) (ad : Added z (closures_at + j) r y) where
  leads_of : (k : ℕ) → bit (bit_or (get_or w j 0) (2 ^ j)) k ≡ true → Leads c j k
  leads_of k e = ⊎_elim (λ u. d.from j k u) (λ u. own k (has_one j k u)) (has_or (get_or w j 0) (2 ^ j) k e)

  of_leads : (k : ℕ) → Leads c j k → bit (bit_or (get_or w j 0) (2 ^ j)) k ≡ true
  of_leads k l = ⊎_elim (λ (e : j ≡ k). rw (← e) (or_has_r (get_or w j 0) (2 ^ j) j (one_has j))) (λ u. or_has_l (get_or w j 0) (2 ^ j) k u) (d.all j k h l)

  left_is : (q : ℕ) → q < productions c → left_of c q ≡ terminals c + (left_of c q - terminals c)
  left_is q hq = let l = f.lefts q hq in let l0 : terminals c ≤ left_of c q = l.0 in omega arith

  first_of_is : (q : ℕ) → q < productions c → Leads c j (left_of c q - terminals c) → item r (first_of c q) ≡ true
  first_of_is q hq l = o.all q hq (of_leads (left_of c q - terminals c) l)

  shut : (i q : ℕ) → item r i ≡ true → q < productions c → left_of c q ≡ after_of c i → item r (first_of c q) ≡ true
  shut i q e hq a =
      let t = o.from i e in
      let n = t.0 in
      first_of_is q hq
      (next (left_of c n - terminals c) n (left_of c q - terminals c) (leads_of (left_of c n - terminals c) t.2) t.1 (left_is n t.1)
      (ap (after_of c) t.3 ∙ sym a ∙ left_is q hq))

  pub closures_more : Closures c y (j + 1)
  closures_more = record {
    starts = λ i q l b e.
        ⊎_elim (λ (g : i < j). rw (ad.low (closures_at + i) (omega arith)) (p.starts i q g b e))
        (λ (g : j ≤ i).
        let v : i ≡ j = omega arith in
        rw (v, ad.new) (first_of_is q b (own _ (let u : j ≡ left_of c q - terminals c = omega arith in u)))) (lt_or_ge i j);
    all = λ i k q l e b a.
        ⊎_elim (λ (g : i < j). rw (ad.low (closures_at + i) (omega arith)) (p.all i k q g (rw (ad.low (closures_at + i) (omega arith)) at e) b a))
        (λ (g : j ≤ i). let v : i ≡ j = omega arith in rw (v, ad.new) (shut k q (rw (v, ad.new) at e) b a)) (lt_or_ge i j);
    from = λ i k l e s n b a.
        ⊎_elim (λ (g : i < j). p.from i k g (rw (ad.low (closures_at + i) (omega arith)) at e) s n b a)
        (λ (g : j ≤ i).
        let v : i ≡ j = omega arith in
        let t = o.from k (rw (v, ad.new) at e) in
        rw (← t.3) (brought c s n j (left_of c t.0 - terminals c) b (a ∙ ap (λ (x : ℕ). terminals c + x) v) (leads_of _ t.2) t.0 t.1 (left_is t.0 t.1))) (lt_or_ge i j);
  }
