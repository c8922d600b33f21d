-- The numbers of a state by its words: where two meet, the two lowest, and what is written.
use Prim.Native.Nat.{ℕ, ◌+◌, ◌-◌, ◌≤◌, ◌<◌, ◌^◌}
use mathlib.Core.Path.{◌≡◌, refl, sym, ap, ◌∙◌, subst}
use mathlib.Core.Bool.{Bool, true, false, ◌&&◌, true≢false}
use mathlib.Core.Logic.{◌↔◌, ◌≢◌, ◌⊎◌, inl, inr, ⊎_elim}
use mathlib.Core.List.{List}
use Rattle.std.specs.Prelude.{Option, Some, None, MatchOption}
use native.Mathlib.Omega.{arith}
use native.Mathlib.Nat.{lt_of_le_of_lt}
use lib.ListN.{length, get_or, set, length-set}
use lib.Seq.{get_or-set_same, get_or-set_other}
use lib.Bits.{bit_or, bit_and, and_le_l}
use lib.Count.{count_trailing_zeros}
use Rattle.sets.specs.Bit.{bit}
use Rattle.sets.proofs.TestLaws.{and_both}
use Rattle.sets.proofs.BitLaws.{bit_of_and, bit_zero, lowest_in, lowest_lt}
use Rattle.sets.proofs.HasLaws.{lt_or_ge, below_suc, has_or, or_has_l, or_has_r, has_none, cleared, clear_cases}
use Rattle.tables.specs.Conflicts.{Single, Lowest}
use Rattle.cells.specs.Actions.{IsCell}
use Rattle.items.specs.Item.{item}
use Rattle.sets.specs.Words as Words
use Rattle.sets.specs.Words.{First}
use Rattle.cells.specs.Words.{Numbers, Live, Two, Sought, number_of, Put, Written, kept, reduced, accepted, Row}

-- ---- below r + 1, and tests

pub decided : (b : Bool) → (b ≡ true) ⊎ (b ≡ false)
decided true = inl refl
decided false = inr refl

and_has : (a b m : ℕ) → bit (bit_and a b) m ≡ true → (bit a m ≡ true) × (bit b m ≡ true)
and_has a b m h = and_both (bit a m) (bit b m) (sym (bit_of_and a b m) ∙ h)

has_and : (a b m : ℕ) → bit a m ≡ true → bit b m ≡ true → bit (bit_and a b) m ≡ true
has_and a b m h k = bit_of_and a b m ∙ both h k
  where
    both : bit a m ≡ true → bit b m ≡ true → (bit a m && bit b m) ≡ true
    both h k = rw (h, k) refl

-- ---- where two meet

-- some number has A
pub record AnyNumber (A : ℕ → Type 0) : Type 0 where
  pub number : ℕ
  pub here : A number

-- `seen` has m where some number has A, `twice` where two have
pub record Counted (A : ℕ → Type 0) (seen twice m : ℕ) : Type 0 where
  pub some : (bit seen m ≡ true) ↔ AnyNumber A
  pub two : (bit twice m ≡ true) ↔ Two A

-- one number more, k, which the word v has at m; all before it are lower
module _ (A B : ℕ → Type 0) (k v m : ℕ) (old : (u : ℕ) → A u → B u) (new : bit v m ≡ true → B k)
    (cases : (u : ℕ) → B u → A u ⊎ ((u ≡ k) × (bit v m ≡ true))) (below : (u : ℕ) → A u → u < k) where
  some_of : AnyNumber A → AnyNumber B
  some_of s = record { number = s.number; here = old s.number s.here }

  two_of : Two A → Two B
  two_of t = record { lower = t.lower; upper = t.upper; first = old t.lower t.first; second = old t.upper t.second; order = t.order }

  two_new : AnyNumber A → bit v m ≡ true → Two B
  two_new s h = record { lower = s.number; upper = k; first = old s.number s.here; second = new h; order = below s.number s.here }

  some_back : AnyNumber B → AnyNumber A ⊎ (bit v m ≡ true)
  some_back s = ⊎_elim (λ a. inl (record { number = s.number; here = a })) (λ e. inr e.1) (cases s.number s.here)

  two_back : Two B → Two A ⊎ (AnyNumber A × (bit v m ≡ true))
  two_back t = go (cases t.lower t.first) (cases t.upper t.second)
    where
      go : A t.lower ⊎ ((t.lower ≡ k) × (bit v m ≡ true)) → A t.upper ⊎ ((t.upper ≡ k) × (bit v m ≡ true)) → Two A ⊎ (AnyNumber A × (bit v m ≡ true))
      go (inl a) (inl b) = inl (record { lower = t.lower; upper = t.upper; first = a; second = b; order = t.order })
      go (inl a) (inr b) = inr (record { number = t.lower; here = a }, b.1)
      go (inr a) (inl b) = absurd (omega (arith, below t.upper b, t.order, a.0))
      go (inr a) (inr b) = absurd (omega (arith, t.order, a.0, b.0))

  pub counted_more : (seen twice : ℕ) → Counted A seen twice m → Counted B (bit_or seen v) (bit_or twice (bit_and seen v)) m
  counted_more seen twice c = record {
    some = (
      λ h. ⊎_elim (λ a. some_of (c.some.0 a)) (λ b. record { number = k; here = new b }) (has_or seen v m h),
      λ s. ⊎_elim (λ a. or_has_l seen v m (c.some.1 a)) (λ b. or_has_r seen v m b) (some_back s),
    );
    two = (
      λ h. ⊎_elim (λ a. two_of (c.two.0 a)) (λ b. two_new (c.some.0 (and_has seen v m b).0) (and_has seen v m b).1) (has_or twice (bit_and seen v) m h),
      λ t. ⊎_elim (λ a. or_has_l twice (bit_and seen v) m (c.two.1 a)) (λ b. or_has_r twice (bit_and seen v) m (has_and seen v m (c.some.1 b.0) b.1)) (two_back t),
    );
  }

-- the same numbers have A and B
module _ (A B : ℕ → Type 0) (to : (u : ℕ) → A u → B u) (from : (u : ℕ) → B u → A u) where
  pub counted_as : (seen twice m : ℕ) → Counted A seen twice m → Counted B seen twice m
  counted_as seen twice m c = record {
    some = (λ h. let s = c.some.0 h in record { number = s.number; here = to s.number s.here }, λ s. c.some.1 (record { number = s.number; here = from s.number s.here }));
    two = (
      λ h. let t = c.two.0 h in record { lower = t.lower; upper = t.upper; first = to t.lower t.first; second = to t.upper t.second; order = t.order },
      λ t. c.two.1 (record { lower = t.lower; upper = t.upper; first = from t.lower t.first; second = from t.upper t.second; order = t.order }),
    );
  }

-- the productions from a to b have no lookaheads
abbrev pub Quiet : List ℕ → ℕ → ℕ → Type 0
Quiet words a b = (i : ℕ) → a ≤ i → i < b → get_or words i 0 ≡ 0

-- as `items` says it
in_set : (live : List ℕ) (i : ℕ) → item live i ≡ Words.item live i
unfolding item
in_set live i = refl

-- up to the next in the set, and from where there is none on
pub quiet_next : (p : ℕ) (words live : List ℕ) (start r : ℕ) → Live p words live → First live start r → Quiet words start r
quiet_next p words live start r l n i h k = l.none i (in_set live i ∙ n.gap i h k)

pub quiet_rest : (p : ℕ) (words live : List ℕ) (start : ℕ) → Live p words live → Words.Next live start None → (i : ℕ) → start ≤ i → get_or words i 0 ≡ 0
quiet_rest p words live start l n i h = l.none i (in_set live i ∙ n i h)

quiet_none : (words : List ℕ) (i m : ℕ) → get_or words i 0 ≡ 0 → bit (get_or words i 0) m ≡ true → ⊥
quiet_none words i m e h = has_none m (subst (λ (x : ℕ). bit x m ≡ true) e h)

-- the numbers of the first p productions, and then those of one more
module _ (s : ℕ) (words : List ℕ) (m : ℕ) where
  -- before the first production, only the shift
  none_two : {u v : ℕ} → Numbers 0 s words 0 m u → Numbers 0 s words 0 m v → u < v → ⊥
  none_two (Numbers.shifts h) (Numbers.shifts k) l = omega arith
  none_two (Numbers.shifts h) (Numbers.reduces r b k) l = omega arith
  none_two (Numbers.shifts h) (Numbers.accepts k) l = has_none m k
  none_two (Numbers.reduces r b k) y l = omega arith
  none_two (Numbers.accepts k) y l = has_none m k

  shift_some : {u : ℕ} → Numbers 0 s words 0 m u → s ≢ 0
  shift_some (Numbers.shifts h) = h
  shift_some (Numbers.reduces r b k) = absurd (omega arith)
  shift_some (Numbers.accepts k) = absurd (has_none m k)

  pub counted_none : (shifts : ℕ) → (bit shifts m ≡ true) ↔ (s ≢ 0) → Counted (Numbers 0 s words 0 m) shifts 0 m
  counted_none shifts e = record {
    some = (λ h. record { number = s; here = Numbers.shifts (e.0 h) }, λ x. e.1 (shift_some x.here));
    two = (λ h. absurd (has_none m h), λ x. absurd (none_two x.first x.second x.order));
  }

  -- productions without lookaheads add no number
  module _ (a b : ℕ) (le : a ≤ b) (quiet : Quiet words a b) where
    numbers_up : {u : ℕ} → Numbers a s words 0 m u → Numbers b s words 0 m u
    numbers_up (Numbers.shifts h) = Numbers.shifts h
    numbers_up (Numbers.reduces k l h) = Numbers.reduces k (omega arith) h
    numbers_up (Numbers.accepts h) = Numbers.accepts h

    numbers_down : {u : ℕ} → Numbers b s words 0 m u → Numbers a s words 0 m u
    numbers_down (Numbers.shifts h) = Numbers.shifts h
    numbers_down (Numbers.reduces k l h) = ⊎_elim (λ g. Numbers.reduces k g h) (λ g. absurd (quiet_none words k m (quiet k g l) h)) (lt_or_ge k a)
    numbers_down (Numbers.accepts h) = Numbers.accepts h

    pub counted_up : (seen twice : ℕ) → Counted (Numbers a s words 0 m) seen twice m → Counted (Numbers b s words 0 m) seen twice m
    counted_up seen twice c = counted_as (Numbers a s words 0 m) (Numbers b s words 0 m) (λ u x. numbers_up x) (λ u x. numbers_down x) seen twice m c

    pub counted_down : (seen twice : ℕ) → Counted (Numbers b s words 0 m) seen twice m → Counted (Numbers a s words 0 m) seen twice m
    counted_down seen twice c = counted_as (Numbers b s words 0 m) (Numbers a s words 0 m) (λ u x. numbers_down x) (λ u x. numbers_up x) seen twice m c

  -- where neither a first productions nor b have others behind them
  pub counted_all : (a b seen twice : ℕ) → ((i : ℕ) → a ≤ i → get_or words i 0 ≡ 0) → ((i : ℕ) → b ≤ i → get_or words i 0 ≡ 0) → Counted (Numbers a s words 0 m) seen twice m → Counted (Numbers b s words 0 m) seen twice m
  counted_all a b seen twice qa qb c =
      ⊎_elim (λ l. counted_up a b (omega arith) (λ i h k. qa i h) seen twice c) (λ g. counted_down b a g (λ i h k. qb i h) seen twice c) (lt_or_ge a b)

  old_one : (r : ℕ) {u : ℕ} → Numbers r s words 0 m u → Numbers (r + 1) s words 0 m u
  old_one r (Numbers.shifts h) = Numbers.shifts h
  old_one r (Numbers.reduces k b h) = Numbers.reduces k (omega arith) h
  old_one r (Numbers.accepts h) = Numbers.accepts h

  one_cases : (r : ℕ) {u : ℕ} → Numbers (r + 1) s words 0 m u → Numbers r s words 0 m u ⊎ ((u ≡ 1024 + r) × (bit (get_or words r 0) m ≡ true))
  one_cases r (Numbers.shifts h) = inl (Numbers.shifts h)
  one_cases r (Numbers.reduces k b h) = ⊎_elim (λ l. inl (Numbers.reduces k l h)) (λ e. inr (ap (λ (x : ℕ). 1024 + x) e, subst (λ (x : ℕ). bit (get_or words x 0) m ≡ true) e h)) (below_suc b)
  one_cases r (Numbers.accepts h) = inl (Numbers.accepts h)

  module _ (small : s < 1024) where
    one_below : (r : ℕ) {u : ℕ} → Numbers r s words 0 m u → u < 1024 + r
    one_below r (Numbers.shifts h) = omega arith
    one_below r (Numbers.reduces k b h) = omega arith
    one_below r (Numbers.accepts h) = absurd (has_none m h)

    pub counted_one : (r seen twice : ℕ) → Counted (Numbers r s words 0 m) seen twice m
        → Counted (Numbers (r + 1) s words 0 m) (bit_or seen (get_or words r 0)) (bit_or twice (bit_and seen (get_or words r 0))) m
    counted_one r seen twice c =
        counted_more (Numbers r s words 0 m) (Numbers (r + 1) s words 0 m) (1024 + r) (get_or words r 0) m (λ u x. old_one r x) (λ h. Numbers.reduces r (omega arith) h)
        (λ u x. one_cases r x) (λ u x. one_below r x) seen twice c

    old_last : (p a : ℕ) {u : ℕ} → Numbers p s words 0 m u → Numbers p s words a m u
    old_last p a (Numbers.shifts h) = Numbers.shifts h
    old_last p a (Numbers.reduces k b h) = Numbers.reduces k b h
    old_last p a (Numbers.accepts h) = absurd (has_none m h)

    last_cases : (p a : ℕ) {u : ℕ} → Numbers p s words a m u → Numbers p s words 0 m u ⊎ ((u ≡ 4096) × (bit a m ≡ true))
    last_cases p a (Numbers.shifts h) = inl (Numbers.shifts h)
    last_cases p a (Numbers.reduces k b h) = inl (Numbers.reduces k b h)
    last_cases p a (Numbers.accepts h) = inr (refl, h)

    pub counted_last : (p a seen twice : ℕ) → p ≤ 128 → Counted (Numbers p s words 0 m) seen twice m → (bit (bit_or twice (bit_and seen a)) m ≡ true) ↔ Two (Numbers p s words a m)
    counted_last p a seen twice few c =
        (counted_more (Numbers p s words 0 m) (Numbers p s words a m) 4096 a m (λ u x. old_last p a x) (λ h. Numbers.accepts h) (λ u x. last_cases p a x)
        (λ u x. let z = one_below p x in omega arith) seen twice c).two

-- ---- the two lowest

pub sought_least : (p : ℕ) (words : List ℕ) (m start : ℕ) (a : Option ℕ) → Sought p words m start a → 1024 ≤ number_of a
sought_least p words m start (Some r) y = omega arith
sought_least p words m start None y = omega arith

module _ (p s : ℕ) (words : List ℕ) (accept m : ℕ) (few : p ≤ 128) (small : s < 1024) where
  high : {v : ℕ} → Numbers p s words accept m v → v ≢ s → 1024 ≤ v
  high (Numbers.shifts h) ne = absurd (ne refl)
  high (Numbers.reduces r b h) ne = omega arith
  high (Numbers.accepts h) ne = omega arith

  -- what is found from `start` on is the lowest number from 1024 + start on, if there is one at all
  module _ (start : ℕ) where
    sought_here : (a : Option ℕ) → Sought p words m start a → (u : ℕ) → Numbers p s words accept m u → 1024 + start ≤ u → Numbers p s words accept m (number_of a)
    sought_here (Some r) y u x l = Numbers.reduces r y.1 y.2
    sought_here None gap u x l = at x l
      where
        at : {u : ℕ} → Numbers p s words accept m u → 1024 + start ≤ u → Numbers p s words accept m 4096
        at (Numbers.shifts h) l = absurd (omega arith)
        at (Numbers.reduces r b h) l = absurd (gap r (omega arith) b h)
        at (Numbers.accepts h) l = Numbers.accepts h

    sought_most : (a : Option ℕ) → Sought p words m start a → {u : ℕ} → Numbers p s words accept m u → 1024 + start ≤ u → number_of a ≤ u
    sought_most a y (Numbers.shifts h) l = absurd (omega arith)
    sought_most (Some r) y (Numbers.reduces q d g) l = ⊎_elim (λ e. absurd (y.3 q (omega arith) e g)) (λ e. omega arith) (lt_or_ge q r)
    sought_most None gap (Numbers.reduces q d g) l = absurd (gap q (omega arith) d g)
    sought_most (Some r) y (Numbers.accepts g) l = omega arith
    sought_most None gap (Numbers.accepts g) l = omega arith

    sought_from : (a : Option ℕ) → Sought p words m start a → (1024 + start ≤ number_of a) ⊎ (number_of a ≡ 4096)
    sought_from (Some r) y = inl (omega arith)
    sought_from None gap = inr refl

  -- m is shifted: the shift is the lower one
  pub lowest_shift : (a : Option ℕ) → s ≢ 0 → Sought p words m 0 a → Two (Numbers p s words accept m) → Lowest (Numbers p s words accept m) s (number_of a)
  lowest_shift a some y t = record {
    first = Numbers.shifts some;
    second = sought_here 0 a y t.upper t.second (omega (arith, upper));
    lower = omega (arith, sought_least p words m 0 a y);
    lowest = λ u x ne. sought_most 0 a y x (omega (arith, high x ne));
  }
    where
      upper : 1024 ≤ t.upper
      upper = go t.first t.second t.order
        where
          go : {u v : ℕ} → Numbers p s words accept m u → Numbers p s words accept m v → u < v → 1024 ≤ v
          go x (Numbers.shifts h) l = low x l
            where
              low : {u : ℕ} → Numbers p s words accept m u → u < s → 1024 ≤ s
              low (Numbers.shifts k) l = omega arith
              low (Numbers.reduces r b k) l = omega arith
              low (Numbers.accepts k) l = omega arith
          go x (Numbers.reduces r b h) l = omega arith
          go x (Numbers.accepts h) l = omega arith

  -- m is not shifted: the two lowest of the others, where the second is sought behind the first
  pub sought_behind : (a b : Option ℕ) → MatchOption a (b ≡ None) (λ r. Sought p words m (r + 1) b) → Sought p words m (number_of a - 1023) b
  sought_behind (Some r) b z = let e : r + 1 ≡ 1024 + r - 1023 = omega arith in subst (λ (x : ℕ). Sought p words m x b) e z
  sought_behind None b e = rw e (λ k h l g. absurd (omega arith))

  module _ (a b : Option ℕ) (none : s ≡ 0) (y : Sought p words m 0 a) (z : Sought p words m (number_of a - 1023) b) (t : Two (Numbers p s words accept m)) where
    big : {u : ℕ} → Numbers p s words accept m u → 1024 + 0 ≤ u
    big (Numbers.shifts h) = absurd (h none)
    big (Numbers.reduces r k h) = omega arith
    big (Numbers.accepts h) = omega arith

    least : (u : ℕ) → Numbers p s words accept m u → number_of a ≤ u
    least u x = sought_most 0 a y x (big x)

    next : (u : ℕ) → Numbers p s words accept m u → u ≢ number_of a → 1024 + (number_of a - 1023) ≤ u
    next u x ne = let l = least u x in let k = sought_least p words m 0 a y in omega arith

    above : 1024 + (number_of a - 1023) ≤ t.upper
    above = let l = least t.lower t.first in let k = sought_least p words m 0 a y in let o = t.order in omega arith

    apart : number_of a < number_of b
    apart = ⊎_elim (λ l. let k = sought_least p words m 0 a y in omega arith) (λ e. let l = above in let k = sought_most (number_of a - 1023) b z t.second above in let h = last t.second in omega arith) (sought_from (number_of a - 1023) b z)
      where
        last : {u : ℕ} → Numbers p s words accept m u → u ≤ 4096
        last (Numbers.shifts h) = omega arith
        last (Numbers.reduces r k h) = omega arith
        last (Numbers.accepts h) = omega arith

    pub lowest_others : Lowest (Numbers p s words accept m) (number_of a) (number_of b)
    lowest_others = record {
      first = sought_here 0 a y t.lower t.first (big t.first);
      second = sought_here (number_of a - 1023) b z t.upper t.second above;
      lower = apart;
      lowest = λ u x ne. sought_most (number_of a - 1023) b z x (next u x ne);
    }

-- ---- writing

-- the places of a word are written in turn; what is left has not been
pub record Putting (b word v left : ℕ) (t t' : List ℕ) : Type 0 where
  pub fits : left < 2 ^ 64
  pub long : length t' ≡ length t
  pub sub : (m : ℕ) → bit left m ≡ true → bit word m ≡ true
  pub here : (m : ℕ) → bit word m ≡ true → (bit left m ≡ true) ⊎ (get_or t' (b + m) 0 ≡ v)
  pub away : (m : ℕ) → bit word m ≡ false → get_or t' (b + m) 0 ≡ get_or t (b + m) 0
  pub before : (i : ℕ) → i < b → get_or t' i 0 ≡ get_or t i 0

module _ (b word v : ℕ) (t : List ℕ) where
  pub putting_none : word < 2 ^ 64 → Putting b word v word t t
  putting_none f = record { fits = f; long = refl; sub = λ m h. h; here = λ m h. inl h; away = λ m h. refl; before = λ i h. refl }

  pub putting_fits : (left : ℕ) (t' : List ℕ) → left ≢ 0 → b + 64 ≤ length t → Putting b word v left t t' → b + count_trailing_zeros 64 left < length t'
  putting_fits left t' ne room p = let l = lowest_lt 64 left (omega arith) p.fits in let e = p.long in omega arith

  pub putting_more : (left : ℕ) (t' : List ℕ) → left ≢ 0 → b + 64 ≤ length t → Putting b word v left t t' → Putting b word v (bit_and left (left - 1)) t (set t' (b + count_trailing_zeros 64 left) v)
  putting_more left t' ne room p = record {
    fits = lt_of_le_of_lt (and_le_l left (left - 1)) p.fits;
    long = length-set t' (b + k) v ∙ p.long;
    sub = λ m h. p.sub m (cleared 64 left some p.fits m h);
    here = λ m h. ⊎_elim (λ l. ⊎_elim inl (λ (e : k ≡ m). inr (subst (λ (x : ℕ). get_or (set t' (b + k) v) (b + x) 0 ≡ v) e at)) (clear_cases 64 left some p.fits m l))
        (λ g. inr (⊎_elim (λ (e : k ≡ m). subst (λ (x : ℕ). get_or (set t' (b + k) v) (b + x) 0 ≡ v) e at) (λ (d : k ≢ m). get_or-set_other t' (b + k) (b + m) v 0 (λ e. d (omega arith)) ∙ g) (same k m)))
        (p.here m h);
    away = λ m h. get_or-set_other t' (b + k) (b + m) v 0 (λ e. true≢false (sym (p.sub k low) ∙ ap (λ (x : ℕ). bit word x) (apart m e) ∙ h)) ∙ p.away m h;
    before = λ i h. get_or-set_other t' (b + k) i v 0 (λ e. omega arith) ∙ p.before i h;
  }
    where
      k : ℕ
      k = count_trailing_zeros 64 left

      some : 0 < left
      some = omega arith

      low : bit left (count_trailing_zeros 64 left) ≡ true
      low = lowest_in 64 left (omega arith) p.fits

      at : get_or (set t' (b + count_trailing_zeros 64 left) v) (b + count_trailing_zeros 64 left) 0 ≡ v
      at = get_or-set_same t' (b + count_trailing_zeros 64 left) v 0 (putting_fits left t' ne room p)

      apart : (m : ℕ) → b + m ≡ b + count_trailing_zeros 64 left → count_trailing_zeros 64 left ≡ m
      apart m e = omega arith

      same : (i j : ℕ) → (i ≡ j) ⊎ (i ≢ j)
      same i j = ⊎_elim (λ l. inr (λ e. omega arith)) (λ g. ⊎_elim (λ l. inr (λ e. omega arith)) (λ h. inl (omega arith)) (lt_or_ge j i)) (lt_or_ge i j)

  pub putting_end : (left : ℕ) (t' : List ℕ) → left ≡ 0 → Putting b word v left t t' → Put b word v t t'
  putting_end left t' e p = record {
    long = p.long;
    here = λ m h. ⊎_elim (λ l. absurd (has_none m (subst (λ (x : ℕ). bit x m ≡ true) e l))) (λ g. g) (p.here m h);
    away = p.away;
    before = p.before;
  }

module _ (b : ℕ) (words : List ℕ) (t : List ℕ) where
  pub row_none : Row b 0 words 0 t t
  row_none = record { long = refl; cells = λ m. kept (λ r h. absurd (omega arith)) (bit_zero m); before = λ i h. refl }

  old_row : (r s m : ℕ) {v : ℕ} → bit (get_or words r 0) m ≡ false → Written r s words 0 m v → Written (r + 1) s words 0 m v
  old_row r s m e (kept h k) = kept (λ i l. ⊎_elim (h i) (λ (f : i ≡ r). subst (λ (x : ℕ). bit (get_or words x 0) m ≡ false) (sym f) e) (below_suc l)) k
  old_row r s m e (reduced i l h) = reduced i (omega arith) h
  old_row r s m e (accepted h) = accepted h

  pub row_one : (r : ℕ) (t₁ t₂ : List ℕ) → Row b r words 0 t t₁ → Put b (get_or words r 0) (1024 + r) t₁ t₂ → Row b (r + 1) words 0 t t₂
  row_one r t₁ t₂ w p = record {
    long = p.long ∙ w.long;
    cells = λ m. ⊎_elim
        (λ h. subst (Written (r + 1) (get_or t (b + m) 0) words 0 m) (sym (p.here m h)) (reduced r (omega arith) h))
        (λ h. subst (Written (r + 1) (get_or t (b + m) 0) words 0 m) (sym (p.away m h)) (old_row r (get_or t (b + m) 0) m h (w.cells m)))
        (decided (bit (get_or words r 0) m));
    before = λ i h. p.before i h ∙ w.before i h;
  }

  module _ (a d : ℕ) (le : a ≤ d) (quiet : Quiet words a d) where
    written_up : (s m : ℕ) {v : ℕ} → Written a s words 0 m v → Written d s words 0 m v
    written_up s m (kept h k) = kept (λ i l. ⊎_elim (h i) (λ g. ap (λ (x : ℕ). bit x m) (quiet i g l) ∙ bit_zero m) (lt_or_ge i a)) k
    written_up s m (reduced i l h) = reduced i (omega arith) h
    written_up s m (accepted h) = accepted h

    written_down : (s m : ℕ) {v : ℕ} → Written d s words 0 m v → Written a s words 0 m v
    written_down s m (kept h k) = kept (λ i l. h i (omega arith)) k
    written_down s m (reduced i l h) = ⊎_elim (λ g. reduced i g h) (λ g. absurd (quiet_none words i m (quiet i g l) h)) (lt_or_ge i a)
    written_down s m (accepted h) = accepted h

    pub row_up : (t' : List ℕ) → Row b a words 0 t t' → Row b d words 0 t t'
    row_up t' w = record { long = w.long; cells = λ m. written_up (get_or t (b + m) 0) m (w.cells m); before = w.before }

    pub row_down : (t' : List ℕ) → Row b d words 0 t t' → Row b a words 0 t t'
    row_down t' w = record { long = w.long; cells = λ m. written_down (get_or t (b + m) 0) m (w.cells m); before = w.before }

  pub row_all : (a d : ℕ) → ((i : ℕ) → a ≤ i → get_or words i 0 ≡ 0) → ((i : ℕ) → d ≤ i → get_or words i 0 ≡ 0) → (t' : List ℕ) → Row b a words 0 t t' → Row b d words 0 t t'
  row_all a d qa qd t' w = ⊎_elim (λ l. row_up a d (omega arith) (λ i h k. qa i h) t' w) (λ g. row_down d a g (λ i h k. qd i h) t' w) (lt_or_ge a d)

  old_last_row : (p a s m : ℕ) {v : ℕ} → bit a m ≡ false → Written p s words 0 m v → Written p s words a m v
  old_last_row p a s m e (kept h k) = kept h e
  old_last_row p a s m e (reduced i l h) = reduced i l h
  old_last_row p a s m e (accepted h) = absurd (has_none m h)

  pub row_last : (p a : ℕ) (t₁ t₂ : List ℕ) → Row b p words 0 t t₁ → Put b a 4096 t₁ t₂ → Row b p words a t t₂
  row_last p a t₁ t₂ w u = record {
    long = u.long ∙ w.long;
    cells = λ m. ⊎_elim
        (λ h. subst (Written p (get_or t (b + m) 0) words a m) (sym (u.here m h)) (accepted h))
        (λ h. subst (Written p (get_or t (b + m) 0) words a m) (sym (u.away m h)) (old_last_row p a (get_or t (b + m) 0) m h (w.cells m)))
        (decided (bit a m));
    before = λ i h. u.before i h ∙ w.before i h;
  }

-- what is written is the one number
pub written_cell : (p s : ℕ) (words : List ℕ) (accept m v : ℕ) → Single (Numbers p s words accept m) → Written p s words accept m v → IsCell (Numbers p s words accept m) v
written_cell p s words accept m v single w = go w
  where
    none : ((r : ℕ) → r < p → bit (get_or words r 0) m ≡ false) → bit accept m ≡ false → {u : ℕ} → Numbers p s words accept m u → u ≡ s
    none h k (Numbers.shifts e) = refl
    none h k (Numbers.reduces r l e) = absurd (true≢false (sym e ∙ h r l))
    none h k (Numbers.accepts e) = absurd (true≢false (sym e ∙ k))

    one : {v : ℕ} → Numbers p s words accept m v → IsCell (Numbers p s words accept m) v
    one {v} x = record { some = λ h. x; only = λ u y. single.only u v y x }

    go : {v : ℕ} → Written p s words accept m v → IsCell (Numbers p s words accept m) v
    go (kept h k) = record { some = Numbers.shifts; only = λ u x. none h k x }
    go (reduced r l h) = one (Numbers.reduces r l h)
    go (accepted h) = one (Numbers.accepts h)
