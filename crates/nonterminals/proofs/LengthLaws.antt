-- Lengths that no production lessens are the shortest ones, and each production that lessens one makes a line of that length.
use mathlib.Core.Path.{◌≡◌, refl, sym, ap, subst, ◌∙◌}
use mathlib.Core.Bool.{Bool, true, false, not, false≢true}
use mathlib.Core.List.{List, [], ◌∷◌, ◌++◌, append-nil}
use mathlib.Core.Logic.{◌⊎◌, inl, inr, ⊎_elim}
use Prim.Native.Nat.{ℕ, zero, suc, ◌+◌, ◌-◌, ◌^◌, ◌≤◌, ◌<◌}
use native.Mathlib.Omega.{arith}
use native.Mathlib.Nat.{eq-or-lt_of_le}
use lib.ListN.{length, get_or, set, length-append, length-set, replicate, length-replicate, get_or-replicate}
use lib.Seq.{get_or-set_same, get_or-set_other}
use lib.Dec.{eqb}
use borrow.Author.Tests.{lt-ltb, le-ltb, eqb-true}
use lib.Bits.{bit_and, bit_or}
use Rattle.sets.specs.Lists.{each}
use Rattle.sets.specs.Bit.{bit, Has, Within}
use Rattle.sets.proofs.BitLaws.{bit_of_and}
use Rattle.sets.proofs.TestLaws.{and_true}
use Rattle.sets.proofs.HasLaws.{lt_or_ge, eq_or, has_none, one_has, has_or, or_has_l, or_has_r}
use Rattle.grammar.specs.Grammar.{Symbols, Formed}
use Rattle.grammar.specs.Card.{terminals, nonterminals, productions, left_of, length_of, right_of, symbol_of, start_of, grammar_of, form_fault}
use Rattle.grammar.specs.Shortest.{length_cap, DerivesLength, ShortestLengths}
use Rattle.grammar.proofs.CardLaws.{well_formed, formed, right_is}
use Rattle.grammar.proofs.Yield.{Yields, nil, terminal, nonterminal, append, yield_terminals}
use Rattle.grammar.proofs.Derive.{derives_yields, yields_derives}
use Rattle.nonterminals.specs.Gathering.{word_of, join_of}
use Rattle.nonterminals.specs.Lessening.{count_of, total_of, Below, Witnessed, left_number, Still, Lessened, kept, less, Due, LessenedDue, looked, passed_over, DueBy, LessenedTo, mass, Lower, same, lower}
use Rattle.nonterminals.proofs.WordLaws.{word_nonterminal}

module _ (c e : List ℕ) where
  pub count_terminal : (x : ℕ) → x < terminals c → count_of c e x ≡ 1
  unfolding count_of
  count_terminal x h = rw (lt-ltb x (terminals c) h)

  pub count_nonterminal : (x : ℕ) → terminals c ≤ x → count_of c e x ≡ get_or e (x - terminals c) 0
  unfolding count_of
  count_nonterminal x h = rw (le-ltb x (terminals c) h)

  total_append : (l k : List ℕ) → total_of c e (l ++ k) ≡ total_of c e l + total_of c e k
  unfolding total_of
  total_append [] k = omega arith
  total_append (x ∷ l) k = let h = total_append l k in omega arith

  pub total_last : (l : List ℕ) (x : ℕ) → total_of c e (l ++ x ∷ []) ≡ total_of c e l + count_of c e x
  unfolding total_of
  total_last l x = let h : total_of c e (x ∷ []) ≡ count_of c e x = omega arith in omega (arith, total_append l (x ∷ []))

  -- the sum of the first d symbols of production r
  abbrev pub part_of : ℕ → ℕ → ℕ
  part_of r d = total_of c e (each d (λ i. symbol_of c (start_of c r + i) ∷ []))

  part_grows : (r d n : ℕ) → d ≤ n → part_of r d ≤ part_of r n
  part_grows r d zero h = let e : d ≡ 0 = omega arith in rw e (omega arith)
  part_grows r d (suc n) h =
      ⊎_elim
      (λ (e : d ≡ suc n). rw e (omega arith))
      (λ (k : d < suc n). omega (arith, part_grows r d n (omega arith), total_last (each n (λ i. symbol_of c (start_of c r + i) ∷ [])) (symbol_of c (start_of c r + n))))
      (eq-or-lt_of_le h)

  module _ (r d : ℕ) (h : r < productions c) where
    -- a part that reaches m, and the whole, as far as it is below m
    pub part_far : (m : ℕ) → d ≤ length_of c r → m ≤ part_of r d → Below (total_of c e (right_of c r)) m (part_of r d)
    part_far m l k = record { value = λ b. absurd (omega arith); far = λ b. rw (right_is c r h) (omega (arith, part_grows r d (length_of c r) l)) }

    pub part_whole : (m : ℕ) → d ≡ length_of c r → Below (total_of c e (right_of c r)) m (part_of r d)
    part_whole m l = rw (right_is c r h, l) (record { value = λ b. refl; far = λ b. b })

  -- ---- one production

  -- its sum, as far as it is below the length of its left side
  module _ (r j m v : ℕ) (at : j ≡ left_number c r) (is : m ≡ get_or e j 0) (sum : Below (total_of c e (right_of c r)) m v) where
    pub lessen_less : v < m → Lessened c e r (set e j v) (2 ^ j)
    lessen_less h = rw (at, sum.value h) (less (omega (arith, rw at at is, sum.value h)))

    pub lessen_kept : m ≤ v → Lessened c e r e 0
    lessen_kept h = kept (omega (arith, rw at at is, sum.far h))

-- a number lessened in a list
pub mass_set : (e : List ℕ) (j v : ℕ) → v < get_or e j 0 → mass (set e j v) < mass e
unfolding mass
mass_set [] j v h = absurd (omega arith)
mass_set (x ∷ e) zero v h = omega arith
mass_set (x ∷ e) (suc j) v h = omega (arith, mass_set e j v h)

module _ (c e : List ℕ) (fault : form_fault c ≡ 0) where
  f : Formed (grammar_of c)
  f = formed c (well_formed c fault)

  -- ---- no derived line is shorter

  module _ (still : (r : ℕ) → r < productions c → Still c e r) where
    no_shorter : {β p w : List ℕ} → Yields (grammar_of c) β p w → total_of c e β ≤ length w
    unfolding total_of
    no_shorter nil = omega arith
    no_shorter (terminal {a} h k y) = omega (arith, no_shorter y, count_terminal c e a k)
    no_shorter (nonterminal {u = u} {v = v} r h x y) =
        omega (arith, no_shorter x, no_shorter y, still r h, count_nonterminal c e (left_of c r) (f.left_nonterminal r h), length-append u v)

    all_shortest : Witnessed c e → ShortestLengths (grammar_of c) 60 (λ j. get_or e j 0)
    unfolding total_of
    all_shortest s j h =
        record {
          most = s.most j;
          some = s.lines j h;
          least = λ line.
              let o : terminals c + j - terminals c ≡ j = omega arith in
              let n : count_of c e (terminals c + j) ≡ get_or e j 0 = count_nonterminal c e (terminals c + j) (omega arith) ∙ ap (λ (i : ℕ). get_or e i 0) o in
              omega (arith, n, no_shorter (derives_yields (grammar_of c) line.derived line.terminals).1);
        }

  -- ---- and one of that length is derived

  module _ (s : Witnessed c e) where
    -- a string of n terminals comes from l
    abbrev Makes : List ℕ → ℕ → Type 0
    Makes l n = (w : List ℕ) × (p : List ℕ) × Yields (grammar_of c) l p w × (length w ≡ n)

    of_number : (j x : ℕ) → terminals c + j ≡ x → j < 60 → get_or e j 0 < length_cap → Makes (x ∷ []) (get_or e j 0)
    of_number j x o b h =
        let t = s.lines j b h in
        rw (← o) (t.0.made, (derives_yields (grammar_of c) t.0.derived t.0.terminals).0, (derives_yields (grammar_of c) t.0.derived t.0.terminals).1, t.1)

    of_symbol : (x : ℕ) → 0 < x → x < terminals c + nonterminals c → count_of c e x < length_cap → Makes (x ∷ []) (count_of c e x)
    of_symbol x z b h =
        ⊎_elim
        (λ (m : x < terminals c). (_, _, terminal z m nil, sym (count_terminal c e x m)))
        (λ (m : terminals c ≤ x).
        let n = count_nonterminal c e x m in
        rw n (of_number (x - terminals c) x (omega arith) (omega (arith, (well_formed c fault).limits.nonterminals_to)) (omega arith)))
        (lt_or_ge x (terminals c))

    joined : {l : List ℕ} → Symbols (terminals c + nonterminals c) l → total_of c e l < length_cap → Makes l (total_of c e l)
    unfolding total_of
    joined Symbols.none h = ([], [], nil, refl)
    joined (Symbols.more {a = x} z b y) h =
        let t = of_symbol x z b (omega arith) in
        let u = joined y (omega arith) in
        (_, _, append (grammar_of c) t.2 u.2, omega (arith, length-append t.0 u.0, t.3, u.3))

    -- the line of a production
    line_of : (r : ℕ) → r < productions c → total_of c e (right_of c r) < length_cap → DerivesLength (grammar_of c) (left_of c r) (total_of c e (right_of c r))
    line_of r h k =
        let t = joined (f.right_symbols r h) k in
        (record { made = t.0; terminals = yield_terminals (grammar_of c) t.2; derived = yields_derives (grammar_of c) (rw append-nil at (nonterminal r h t.2 nil)) }, t.3)

    -- a length lessened to the sum of a production
    module _ (r : ℕ) (h : r < productions c) (k : total_of c e (right_of c r) < get_or e (left_number c r) 0) where
      abbrev sum : ℕ
      sum = total_of c e (right_of c r)

      here : (j : ℕ) → j ≡ left_number c r → get_or (set e (left_number c r) (total_of c e (right_of c r))) j 0 ≡ total_of c e (right_of c r)
      here j i = rw i (get_or-set_same e (left_number c r) sum 0 (omega (arith, s.long, f.left_below r h, (well_formed c fault).limits.nonterminals_to)))

      other : (j : ℕ) → (j ≡ left_number c r → ⊥) → get_or (set e (left_number c r) (total_of c e (right_of c r))) j 0 ≡ get_or e j 0
      other j i = get_or-set_other e (left_number c r) j sum 0 i

      witnessed_less : Witnessed c (set e (left_number c r) (total_of c e (right_of c r)))
      witnessed_less =
          record {
            long = length-set e (left_number c r) sum ∙ s.long;
            most = λ j. ⊎_elim (λ i. rw (here j i) (omega (arith, s.most (left_number c r)))) (λ i. rw (other j i) (s.most j)) (eq_or j (left_number c r));
            lines = λ j b l.
                ⊎_elim
                (λ (i : j ≡ left_number c r). let o : terminals c + j ≡ left_of c r = omega (arith, f.left_nonterminal r h) in rw (o, here j i) (line_of r h (omega (arith, s.most (left_number c r)))))
                (λ i. rw (other j i) (s.lines j b (rw (other j i) at l)))
                (eq_or j (left_number c r));
          }

-- ---- at the beginning

pub at_most : (n j a : ℕ) → get_or (replicate n a) j 0 ≤ a
at_most zero j a = omega arith
at_most (suc n) zero a = omega arith
at_most (suc n) (suc j) a = at_most n j a

-- no line is known
no_witness : (c : List ℕ) → Witnessed c (replicate 60 length_cap)
no_witness c =
    record {
      long = length-replicate 60 length_cap;
      most = λ j. at_most 60 j length_cap;
      lines = λ j h k. absurd (omega (arith, get_or-replicate 60 j length_cap 0 h));
    }

-- ---- a round

due_more : (c : List ℕ) {w v r : ℕ} → Within w v → Due c w r → Due c v r
due_more c i d = record { number = d.number; right = d.right; lessened = i d.number d.lessened }

-- every production is due in the first round
pub first_due : (c : List ℕ) → DueBy c (replicate 60 length_cap) (2 ^ 63)
first_due c =
    record {
      witnessed = no_witness c;
      still = λ r h. inr (record { number = 63; right = or_has_r (join_of c (right_of c r)) (2 ^ 63) 63 (one_has 63); lessened = one_has 63 });
    }

-- a word of the right side and bit 63 tell a production that is due
pub due_told : (c : List ℕ) (w r x : ℕ) → x ≡ join_of c (right_of c r) → Due c w r → not (eqb (bit_and (bit_or x (2 ^ 63)) w) 0) ≡ true
due_told c w r x e d = go (eqb (bit_and (bit_or x (2 ^ 63)) w) 0) refl
  where
    go : (b : Bool) → eqb (bit_and (bit_or x (2 ^ 63)) w) 0 ≡ b → not b ≡ true
    go false i = refl
    go true i =
        absurd
        (has_none d.number
        (subst (λ (n : ℕ). Has n d.number) (eqb-true (bit_and (bit_or x (2 ^ 63)) w) 0 i)
        (bit_of_and (bit_or x (2 ^ 63)) w d.number ∙ and_true (subst (λ (n : ℕ). Has (bit_or n (2 ^ 63)) d.number) (sym e) d.right) d.lessened)))

module _ (c e : List ℕ) (fault : form_fault c ≡ 0) (n : ℕ) (h : n < productions c) where
  abbrev j : ℕ
  j = left_number c n

  abbrev e' : List ℕ
  e' = set e (left_number c n) (total_of c e (right_of c n))

  -- a string without the left side has the sum that it had
  count_same : (x : ℕ) → (Has (word_of c x) (left_number c n) → ⊥) → count_of c (set e (left_number c n) (total_of c e (right_of c n))) x ≡ count_of c e x
  count_same x i =
      ⊎_elim
      (λ (m : x < terminals c). count_terminal c e' x m ∙ sym (count_terminal c e x m))
      (λ (m : terminals c ≤ x).
      count_nonterminal c e' x m
      ∙ get_or-set_other e j (x - terminals c) (total_of c e (right_of c n)) 0 (λ z. i (rw (word_nonterminal c x m, z) (one_has j)))
      ∙ sym (count_nonterminal c e x m))
      (lt_or_ge x (terminals c))

  total_same : (l : List ℕ) → (Has (join_of c l) (left_number c n) → ⊥) → total_of c (set e (left_number c n) (total_of c e (right_of c n))) l ≡ total_of c e l
  unfolding total_of join_of
  total_same [] i = refl
  total_same (x ∷ l) i =
      omega (arith, count_same x (λ z. i (or_has_l (word_of c x) (join_of c l) j z)), total_same l (λ z. i (or_has_r (word_of c x) (join_of c l) j z)))

  module _ (s : Witnessed c e) (k : total_of c e (right_of c n) < get_or e (left_number c n) 0) where
    -- the length of the left side of r is no more than it was, and for the production itself the sum
    lower_at : (r : ℕ) → (r ≡ n) ⊎ Still c e r → get_or (set e (left_number c n) (total_of c e (right_of c n))) (left_number c r) 0 ≤ total_of c e (right_of c r)
    lower_at r (inl i) = rw i (omega (arith, here c e fault s n h k (left_number c n) refl))
    lower_at r (inr t) =
        ⊎_elim
        (λ (i : left_number c r ≡ left_number c n). let q : get_or e (left_number c r) 0 ≡ get_or e (left_number c n) 0 = ap (λ (m : ℕ). get_or e m 0) i in omega (arith, here c e fault s n h k (left_number c r) i))
        (λ i. omega (arith, other c e fault s n h k (left_number c r) i))
        (eq_or (left_number c r) (left_number c n))

    -- after production n has lessened e
    after : (w r : ℕ) → ((r ≡ n) ⊎ Still c e r) ⊎ Due c w r → Still c (set e (left_number c n) (total_of c e (right_of c n))) r ⊎ Due c (bit_or w (2 ^ left_number c n)) r
    after w r (inr d) = inr (due_more c (λ m i. or_has_l w (2 ^ j) m i) d)
    after w r (inl t) = go (bit (join_of c (right_of c r)) (left_number c n)) refl
      where
        go : (b : Bool) → bit (join_of c (right_of c r)) (left_number c n) ≡ b → Still c (set e (left_number c n) (total_of c e (right_of c n))) r ⊎ Due c (bit_or w (2 ^ left_number c n)) r
        go true i = inr (record { number = j; right = or_has_l (join_of c (right_of c r)) (2 ^ 63) j i; lessened = or_has_r w (2 ^ j) j (one_has j) })
        go false i = inl (omega (arith, lower_at r t, total_same (right_of c r) (λ z. false≢true (sym i ∙ z))))

-- in the course of a round that began with w
module _ (c : List ℕ) (w : ℕ) where
  pub to_start : {e : List ℕ} → DueBy c e w → LessenedTo c w (productions c) e 0
  to_start t =
      record {
        witnessed = t.witnessed;
        passed = λ r h l. absurd (omega arith);
        ahead = λ r h l. ⊎_elim (λ i. inl i) (λ d. inr (due_more c (λ m i. or_has_l w 0 m i) d)) (t.still r h);
      }

  module _ {n u : ℕ} {e : List ℕ} (t : LessenedTo c w (n + 1) e u) (h : n < productions c) where
    -- production n, or one behind it
    here_or : {A : Type 0} (r : ℕ) → n ≤ r → (r ≡ n → A) → (n + 1 ≤ r → A) → A
    here_or r k a b = ⊎_elim (λ (i : n ≡ r). a (sym i)) (λ (l : n < r). b (omega arith)) (eq-or-lt_of_le k)

    to_still : Still c e n → LessenedTo c w n e (bit_or u 0)
    to_still still =
        record {
          witnessed = t.witnessed;
          passed = λ r b k. here_or r k (λ i. inl (rw i still)) (λ l. ⊎_elim (λ s. inl s) (λ d. inr (due_more c (λ m i. or_has_l u 0 m i) d)) (t.passed r b l));
          ahead = λ r b k. ⊎_elim (λ s. inl s) (λ d. inr (due_more c grown d)) (t.ahead r b (omega arith));
        }
      where
        grown : Within (bit_or w u) (bit_or w (bit_or u 0))
        grown m i = ⊎_elim (λ a. or_has_l w (bit_or u 0) m a) (λ a. or_has_r w (bit_or u 0) m (or_has_l u 0 m a)) (has_or w u m i)

    to_look : form_fault c ≡ 0 → {e' : List ℕ} {v : ℕ} → Lessened c e n e' v → LessenedTo c w n e' (bit_or u v)
    to_look fault (kept still) = to_still still
    to_look fault (less k) =
        record {
          witnessed = witnessed_less c e fault t.witnessed n h k;
          passed = λ r b l.
              here_or r l
              (λ i. after c e fault n h t.witnessed k u r (inl (inl i)))
              (λ l. after c e fault n h t.witnessed k u r (⊎_elim (λ s. inl (inr s)) (λ d. inr d) (t.passed r b l)));
          ahead = λ r b l.
              ⊎_elim (λ s. inl s) (λ d. inr (due_more c grown d))
              (after c e fault n h t.witnessed k (bit_or w u) r (⊎_elim (λ s. inl (inr s)) (λ d. inr d) (t.ahead r b (omega arith))));
        }
      where
        grown : Within (bit_or (bit_or w u) (2 ^ left_number c n)) (bit_or w (bit_or u (2 ^ left_number c n)))
        grown m i =
            ⊎_elim
            (λ a. ⊎_elim (λ a. or_has_l w (bit_or u (2 ^ left_number c n)) m a) (λ a. or_has_r w (bit_or u (2 ^ left_number c n)) m (or_has_l u (2 ^ left_number c n) m a)) (has_or w u m a))
            (λ a. or_has_r w (bit_or u (2 ^ left_number c n)) m (or_has_r u (2 ^ left_number c n) m a))
            (has_or (bit_or w u) (2 ^ left_number c n) m i)

    pub to_more : form_fault c ≡ 0 → {e' : List ℕ} {v : ℕ} → LessenedDue c e n (bit_or w u) e' v → LessenedTo c w n e' (bit_or u v)
    to_more fault (looked l) = to_look fault l
    to_more fault (passed_over never i z) = rw (i, z) (to_still (⊎_elim (λ s. s) (λ d. absurd (never d)) (t.ahead n h (omega arith))))

-- ---- the sum of all lengths

lower_look : {e₀ e : List ℕ} {u : ℕ} → Lower e₀ e u → (c : List ℕ) {n : ℕ} {e' : List ℕ} {v : ℕ} → Lessened c e n e' v → Lower e₀ e' (bit_or u v)
lower_look (same z q) c (kept still) = same (rw z refl) q
lower_look (lower l) c (kept still) = lower l
lower_look {e₀} {e} (same z q) c {n} (less k) = lower (omega (arith, mass_set e (left_number c n) (total_of c e (right_of c n)) k, ap mass q))
lower_look {e₀} {e} (lower l) c {n} (less k) = lower (omega (arith, mass_set e (left_number c n) (total_of c e (right_of c n)) k))

pub lower_more : {e₀ e : List ℕ} {u : ℕ} → Lower e₀ e u → (c : List ℕ) {n w : ℕ} {e' : List ℕ} {v : ℕ} → LessenedDue c e n w e' v → Lower e₀ e' (bit_or u v)
lower_more t c (looked l) = lower_look t c l
lower_more (same z q) c (passed_over never i y) = same (rw (z, y) refl) (i ∙ q)
lower_more {u = u} (lower l) c (passed_over never i y) = lower (rw i l)

-- nothing was lessened
pub lessened_none : (c e : List ℕ) (u : ℕ) → form_fault c ≡ 0 → DueBy c e u → u ≡ 0 → ShortestLengths (grammar_of c) 60 (λ j. get_or e j 0)
lessened_none c e u fault t z =
    all_shortest c e fault (λ r h. ⊎_elim (λ s. s) (λ (d : Due c u r). absurd (has_none d.number (subst (λ (n : ℕ). Has n d.number) z d.lessened))) (t.still r h)) t.witnessed
