-- The computed run goes along the LR machine's path: the areas hold the machine's configurations, and it ends where the machine stops.
use Prim.Native.Nat.{ℕ, zero, suc, ◌+◌, ◌-◌, ◌<◌, ◌≤◌, max}
use mathlib.Core.Path.{◌≡◌, refl, sym, ap, ◌∙◌}
use mathlib.Core.Logic.{◌≢◌}
use mathlib.Core.List.{List, [], ◌∷◌, ◌++◌, reverse, reverse-append, reverse-cons, append_assoc}
use lib.ListN.{length, drop, take, get_or, set, replicate, length-append, take-append-drop, length-drop, length-set, length-reverse, replicate-append-replicate}
use lib.Seq.{length-take-le, get_or_at, get_or-take, take-set-le, drop-set-lt, take_at, drop-cons, get_or-set_same}
use native.Mathlib.Nat.{add-zero}
use native.Mathlib.Omega.{arith}
use Rattle.sets.specs.Lists.{peek, rest, covered}
use Rattle.sets.proofs.CoveredLaws.{covered_length, covered_front, covered_behind, covered_push}
use Rattle.tables.specs.Layout.{states, cell_of, left_of, length_of, reduction, accept}
use Rattle.machine.specs.ComputedRun.{Machine, Next, ended, moved, popped, top_of, action_of, reduced_to, reduced, moved_by, after, run, start}
use Rattle.machine.specs.Faithful.{Stops, accepted_here, wrong_here, no_steps, list_full, broken_here, stack_full}
use Rattle.machine.proofs.Checked.{Passed}
use Rattle.machine.proofs.LrMachineLaws.{Config, conf, depth, listed, reduces, Step, Path, Broken, pops_all, no_next, accepts, wrong, broken, own_steps, path_depth, path_lists}
use Rattle.machine.proofs.Shifts.{Below, none, more, peek_drop, rest_drop, shift_in, after_shift, after_reduce}
use Rattle.machine.proofs.RunLaws.{shifted_goes, shifted_full, reduced_to_none, reduced_to_full, reduced_to_goes, reduced_full, reduced_broken, reduced_to_is, moved_shift, moved_accept, moved_reduce, run_wrong, run_none, run_more}

-- the machine m holds a configuration that the LR machine comes to by n steps, with most stack places in use on the way; st and li are the areas before
pub record Holds (t l st li : List ℕ) (n most : ℕ) (m : Machine) (qs x out : List ℕ) : Type 0 where
  pub stacked : m.stack ≡ covered most (reverse qs) st
  pub listing : m.list ≡ covered (length out) out li
  pub deep : m.depth ≡ length qs
  pub many : m.listed ≡ length out
  pub made : m.steps ≡ n
  -- each step passes a terminal or lists a production
  pub spent : m.steps ≡ m.position + m.listed
  pub ahead : drop m.position l ≡ x
  pub place : m.position + length x ≡ length l
  pub used : length qs ≤ most
  pub within : most ≤ length st
  pub room : length out ≤ length li
  pub below : Below (states t) qs

pub data Held (t l st li : List ℕ) (n most : ℕ) (m : Machine) : Config → Type 0 where
  held : {q : ℕ} {qs x out : List ℕ} → Holds t l st li n most m (q ∷ qs) x out → Held t l st li n most m (conf (q ∷ qs) x out)

-- i steps of the run from m lead to a machine that holds the configuration c
pub record Leads (t l st li : List ℕ) (n most : ℕ) (m : Machine) (i : ℕ) (c : Config) : Type 0 where
  pub next : Machine
  pub holds : Held t l st li n most next c
  pub runs : (k : ℕ) → run t l (i + k) m ≡ run t l k next

-- ---- lists

rest_length : (x : List ℕ) → 0 < peek x → suc (length (rest x)) ≡ length x
rest_length [] h = absurd (omega arith)
rest_length (a ∷ x) h = refl

-- what stays under n popped states
pub reverse_drop : (n : ℕ) (qs : List ℕ) → n ≤ length qs → take (length qs - n) (reverse qs) ≡ reverse (drop n qs)
reverse_drop n qs h = go (take n qs) (drop n qs) (take-append-drop n qs) (length-take-le n qs h)
  where
    go : (u v : List ℕ) → u ++ v ≡ qs → length u ≡ n → take (length qs - n) (reverse qs) ≡ reverse v
    go u v e k =
        let le : length u + length v ≡ length qs = sym (length-append u v) ∙ ap length e in
        let er : reverse v ++ reverse u ≡ reverse qs = sym (reverse-append u v) ∙ ap reverse e in
        let en : length v ≡ length qs - n = omega (arith, le, k) in
        rw (← er) (take_at (reverse v) (reverse u) (length qs - n) (length-reverse v ∙ en))

-- "a place popped becomes 0", all n at once
popped_is : (s : List ℕ) (d n : ℕ) → n ≤ d → d ≤ length s → popped s d n ≡ take (d - n) s ++ (replicate n 0 ++ drop d s)
unfolding popped
popped_is s d zero h k = let e : d - 0 ≡ d = omega arith in rw e (sym (take-append-drop d s))
popped_is s zero (suc n) h k = absurd (omega arith)
popped_is s (suc d) (suc n) h k =
    let e₁ : suc d - 1 ≡ d = omega arith in
    let e₂ : suc d - suc n ≡ d - n = omega arith in
    let b : d < length (set s d 0) = rw length-set k in
    let e₃ : drop d (set s d 0) ≡ 0 ∷ drop (suc d) s = drop-cons (set s d 0) d 0 b ∙ rw (get_or-set_same s d 0 0 k, drop-set-lt (suc d) s d 0 (omega arith)) in
    let e₄ : replicate n 0 ++ 0 ∷ drop (suc d) s ≡ replicate (suc n) 0 ++ drop (suc d) s = one_more n (drop (suc d) s) in
    rw (e₁, e₂) (popped_is (set s d 0) d n (omega arith) (omega arith) ∙ rw (take-set-le (d - n) s d 0 (omega arith), e₃, e₄))
  where
    one_more : (n : ℕ) (v : List ℕ) → replicate n 0 ++ 0 ∷ v ≡ replicate (suc n) 0 ++ v
    one_more zero v = refl
    one_more (suc n) v = ap (λ (z : List ℕ). 0 ∷ z) (one_more n v)

popped_covered : (most n : ℕ) (u st : List ℕ) → n ≤ length u → length u ≤ most → most ≤ length st → popped (covered most u st) (length u) n ≡ covered most (take (length u - n) u) st
unfolding covered
popped_covered most n u st h k b =
    let e₁ = popped_is (covered most u st) (length u) n h (rw (covered_length most u st k b) (omega arith)) in
    let e₂ = covered_front most u st (length u - n) (omega arith) in
    let e₃ = covered_behind most u st in
    let lt : length (take (length u - n) u) ≡ length u - n = length-take-le (length u - n) u (omega arith) in
    let en : n + (most - length u) ≡ most - (length u - n) = omega arith in
    e₁ ∙ rw (e₂, e₃, lt, ← en, ← replicate-append-replicate {A = ℕ} n (most - length u) 0, append_assoc)

pub top_at : (s : List ℕ) (k p : ℕ) (ps : List ℕ) → take k s ≡ reverse (p ∷ ps) → k ≡ length (p ∷ ps) → top_of s k ≡ p
unfolding top_of
top_at s k p ps e d =
    let ed : k - 1 ≡ length ps = omega (arith, d) in
    let e₁ : get_or (take k s) (length ps) 0 ≡ get_or s (length ps) 0 = get_or-take k s (length ps) 0 (omega (arith, d)) in
    rw ed (sym e₁ ∙ ap (λ (z : List ℕ). get_or z (length ps) 0) (e ∙ reverse-cons p ps) ∙ get_or_at (reverse ps) p [] 0 (length ps) (length-reverse ps))

abbrev shift_to : ℕ → Machine → Machine
shift_to s m = record { stack = set m.stack m.depth s; list = m.list; depth = m.depth + 1; listed = m.listed; position = m.position + 1; steps = m.steps + 1 }

abbrev reduce_to : ℕ → ℕ → ℕ → ℕ → Machine → Machine
reduce_to r n d s m = record { stack = set (popped m.stack m.depth n) d s; list = set m.list m.listed r; depth = d + 1; listed = m.listed + 1; position = m.position; steps = m.steps + 1 }

-- the machine as an end leaves it: accept counts as a step
abbrev pub at_end : ℕ → Machine → Machine
at_end zero m = record { stack = m.stack; list = m.list; depth = m.depth; listed = m.listed; position = m.position; steps = m.steps + 1 }
at_end (suc n) m = m

pub counted : (i : ℕ) (m : Machine)
    → at_end i m ≡ record { stack = m.stack; list = m.list; depth = m.depth; listed = m.listed; position = m.position; steps = m.steps + own_steps i }
counted zero m = refl
counted (suc i) m = rw (add-zero m.steps)

-- the stack starts with state 0
pub held_start : {t l : List ℕ} (st li : List ℕ) → Passed t l (length st) → Held t l st li 0 1 (start st li) (conf (0 ∷ []) l [])
unfolding start covered
held_start [] li pa = let p = pa.places in absurd (omega arith)
held_start (a ∷ st) li pa =
    let z = pa.table.sizes.states_are.0 in
    held {qs = []} {out = []} (record {
      stacked = refl;
      listing = refl;
      deep = refl;
      many = refl;
      made = refl;
      spent = refl;
      ahead = refl;
      place = omega arith;
      used = omega arith;
      within = omega arith;
      room = omega arith;
      below = more z none;
    })

module _ {t l st li : List ℕ} (pa : Passed t l (length st)) {n most : ℕ} {m : Machine} {q : ℕ} {qs x out : List ℕ} (h : Holds t l st li n most m (q ∷ qs) x out) where
  stack_long : length m.stack ≡ length st
  stack_long = rw h.stacked (covered_length most (reverse (q ∷ qs)) st (rw length-reverse h.used) h.within)

  list_long : length m.list ≡ length li
  list_long = rw h.listing (covered_length (length out) out li (omega arith) h.room)

  -- n states popped leave p ∷ ps
  pub left_under : (n p : ℕ) (ps : List ℕ) → drop n (q ∷ qs) ≡ p ∷ ps → (n < m.depth) × (m.depth - n ≡ length (p ∷ ps)) × (take (m.depth - n) m.stack ≡ reverse (p ∷ ps))
  left_under n p ps e =
      let d = h.deep in
      let e₁ : length (p ∷ ps) ≡ length (q ∷ qs) - n = ap length (sym e) ∙ length-drop n (q ∷ qs) in
      let b : n < length (q ∷ qs) = omega (arith, e₁) in
      let l : length (reverse (q ∷ qs)) ≡ length (q ∷ qs) = length-reverse (q ∷ qs) in
      let e₂ = covered_front most (reverse (q ∷ qs)) st (length (q ∷ qs) - n) (omega (arith, l)) in
      (omega (arith, d), omega (arith, d, e₁), rw (d, h.stacked) (e₂ ∙ reverse_drop n (q ∷ qs) (omega arith) ∙ ap reverse e))

  under_of : (n p : ℕ) (ps : List ℕ) → drop n (q ∷ qs) ≡ p ∷ ps → top_of m.stack (m.depth - n) ≡ p
  under_of n p ps e = let u = left_under n p ps e in top_at m.stack (m.depth - n) p ps u.2 u.1

  pub top_is : top_of m.stack m.depth ≡ q
  top_is = let e : m.depth - 0 ≡ m.depth = omega arith in rw e at (under_of 0 q qs refl)

  act : action_of t l m ≡ cell_of t q (peek x)
  unfolding action_of
  act = rw top_is (ap (cell_of t q) (sym (peek_drop m.position l) ∙ ap peek h.ahead))

  shift_holds : (s : ℕ) → cell_of t q (peek x) ≡ s → 0 < s → s < 1024 → length (q ∷ qs) < length st
      → Holds t l st li (suc n) (max most (suc (length (q ∷ qs)))) (shift_to s m) (s ∷ q ∷ qs) (rest x) out
  shift_holds s e z b k =
      let er = rest_length x (shift_in pa h.below m.position h.ahead (omega (arith, e)) (omega (arith, e))).1 in
      let lr : length (reverse (q ∷ qs)) ≡ length (q ∷ qs) = length-reverse (q ∷ qs) in
      let pushed = covered_push most (reverse (q ∷ qs)) st s (omega (arith, lr, h.used)) (omega (arith, lr)) in
      record {
        stacked = rw (h.stacked, h.deep, reverse-cons s (q ∷ qs)) (rw lr at pushed);
        listing = h.listing;
        deep = omega (arith, h.deep);
        many = h.many;
        made = omega (arith, h.made);
        spent = omega (arith, h.spent);
        ahead = sym (rest_drop m.position l) ∙ ap rest h.ahead;
        place = omega (arith, h.place, er);
        used = omega arith;
        within = omega (arith, h.within);
        room = h.room;
        below = after_shift pa h.below m.position h.ahead e z b;
      }

  reduce_holds : (r p : ℕ) (ps : List ℕ) (s : ℕ) → cell_of t q (peek x) ≡ reduction r → reduction r ≢ accept → drop (length_of t r) (q ∷ qs) ≡ p ∷ ps → cell_of t p (left_of t r) ≡ s
      → length out < length li → length (p ∷ ps) < length st
      → Holds t l st li (suc n) (max most (suc (length (p ∷ ps)))) (reduce_to r (length_of t r) (m.depth - length_of t r) s m) (s ∷ p ∷ ps) x (out ++ r ∷ [])
  reduce_holds r p ps s e ne d f kl k =
      let u = left_under (length_of t r) p ps d in
      let lr : length (reverse (q ∷ qs)) ≡ length (q ∷ qs) = length-reverse (q ∷ qs) in
      let lp' : length (reverse (p ∷ ps)) ≡ length (p ∷ ps) = length-reverse (p ∷ ps) in
      let uh : length_of t r ≤ length (q ∷ qs) = omega (arith, h.deep, u.0) in
      let up : take (length (q ∷ qs) - length_of t r) (reverse (q ∷ qs)) ≡ reverse (p ∷ ps) = reverse_drop (length_of t r) (q ∷ qs) uh ∙ ap reverse d in
      let pops = popped_covered most (length_of t r) (reverse (q ∷ qs)) st (omega (arith, lr)) (omega (arith, lr, h.used)) h.within in
      let pops' : popped m.stack m.depth (length_of t r) ≡ covered most (reverse (p ∷ ps)) st = rw (h.stacked, h.deep) (rw (lr, up) at pops) in
      let le = length-append out (r ∷ []) in
      let pushed = covered_push most (reverse (p ∷ ps)) st s (omega (arith, lp', h.used, h.deep, u.1)) (omega (arith, lp')) in
      let listed' = covered_push (length out) out li r (omega arith) kl in
      let lm : max (length out) (suc (length out)) ≡ length (out ++ r ∷ []) = omega (arith, le) in
      record {
        stacked = rw (pops', u.1, reverse-cons s (p ∷ ps)) (rw lp' at pushed);
        listing = rw (h.listing, h.many) (rw lm at listed');
        deep = omega (arith, u.1);
        many = omega (arith, h.many, le);
        made = omega (arith, h.made);
        spent = omega (arith, h.spent);
        ahead = h.ahead;
        place = h.place;
        used = omega arith;
        within = omega (arith, h.within);
        room = omega (arith, le);
        below = after_reduce pa h.below m.position h.ahead r e ne d f;
      }

  -- ---- the run from here, by what the cell asks for

  asks : {a : ℕ} {z : Next} (k : ℕ) → 0 < k → cell_of t q (peek x) ≡ a → a ≢ 0 → moved_by t a m ≡ z → run t l k m ≡ after (run t l (k - 1)) z
  asks {a} {z} k b e nz f =
      run_more t l m k b (λ v. nz (sym e ∙ sym act ∙ v)) ∙ ap (after (run t l (k - 1))) (ap (λ (v : ℕ). moved_by t v m) (act ∙ e) ∙ f)

  goes_on : {a : ℕ} {m' : Machine} → cell_of t q (peek x) ≡ a → a ≢ 0 → moved_by t a m ≡ moved m' → (k : ℕ) → run t l (1 + k) m ≡ run t l k m'
  unfolding after
  goes_on {a} {m'} e nz f k = asks (1 + k) (omega arith) e nz f ∙ ap (λ (i : ℕ). run t l i m') (omega arith)

  reduces_by : (r : ℕ) → reduction r ≢ accept → moved_by t (reduction r) m ≡ reduced t r m
  reduces_by r ne = let e : reduction r - 1024 ≡ r = omega arith in moved_reduce t (reduction r) m (omega arith) ne ∙ rw e

  -- the reduction that the machine makes, or does not
  reduces_to : (r p : ℕ) (ps : List ℕ) → drop (length_of t r) (q ∷ qs) ≡ p ∷ ps → length out < length li
      → reduced t r m ≡ reduced_to r (length_of t r) (m.depth - length_of t r) (cell_of t p (left_of t r)) m
  reduces_to r p ps d kl =
      let u = left_under (length_of t r) p ps d in
      let e = under_of (length_of t r) p ps d in
      let g : cell_of t p (left_of t r) ≡ cell_of t (top_of m.stack (m.depth - length_of t r)) (left_of t r) = rw e in
      sym (reduced_to_is t r m (length_of t r) (left_of t r) (cell_of t p (left_of t r)) refl refl g (omega (arith, h.many, list_long)) u.0)

  -- one step of the LR machine within both areas is one of the run
  advances : {c : Config} → Step t (conf (q ∷ qs) x out) c → depth c ≤ length st → listed c ≤ length li → Leads t l st li (suc n) (max most (depth c)) m 1 c
  advances (Step.shift s e z b) ks kl =
      let moves = moved_shift t s m b ∙ shifted_goes s m (omega (arith, h.deep, stack_long)) in
      record { next = shift_to s m; holds = held (shift_holds s e z b (omega arith)); runs = goes_on e (omega arith) moves }
  advances (Step.reduce r p ps s e ne d f z) ks kl =
      let le = length-append out (r ∷ []) in
      let u = left_under (length_of t r) p ps d in
      let room : length out < length li = omega (arith, le) in
      let deep : m.depth - length_of t r < length m.stack = omega (arith, u.1, stack_long) in
      let moves = reduces_by r ne ∙ reduces_to r p ps d room ∙ ap (λ (v : ℕ). reduced_to r (length_of t r) (m.depth - length_of t r) v m) f ∙ sym (reduced_to_goes r (length_of t r) (m.depth - length_of t r) s m _ refl (omega arith) deep) in
      record { next = reduce_to r (length_of t r) (m.depth - length_of t r) s m; holds = held (reduce_holds r p ps s e ne d f room (omega arith)); runs = goes_on e (omega arith) moves }

  -- ---- the run ends where the machine stops

  ends_by : {a i : ℕ} → cell_of t q (peek x) ≡ a → a ≢ 0 → moved_by t a m ≡ ended i m → (k : ℕ) → 0 < k → run t l k m ≡ record { number = i; final = m }
  unfolding after
  ends_by e nz f k b = asks k b e nz f

  breaks : (r : ℕ) → Broken t r (q ∷ qs) → length out < length li → reduced t r m ≡ ended 35 m
  breaks r (pops_all d) kl =
      let e : 0 ≡ length (q ∷ qs) - length_of t r = ap length (sym d) ∙ length-drop (length_of t r) (q ∷ qs) in
      reduced_broken t r m (omega (arith, h.many, list_long)) (omega (arith, h.deep, e))
  breaks r (no_next p ps d f) kl = reduces_to r p ps d kl ∙ reduced_to_none r (length_of t r) (m.depth - length_of t r) (cell_of t p (left_of t r)) m f

  fills : {c : Config} → Step t (conf (q ∷ qs) x out) c → listed c ≤ length li → depth c ≡ suc (length st) → (k : ℕ) → 0 < k → run t l k m ≡ record { number = 33; final = m }
  fills (Step.shift s e z b) kl ks k i = ends_by e (omega arith) (moved_shift t s m b ∙ shifted_full s m (omega (arith, h.deep, stack_long))) k i
  fills (Step.reduce r p ps s e ne d f z) kl ks k i =
      let le = length-append out (r ∷ []) in
      let u = left_under (length_of t r) p ps d in
      let deep : length m.stack ≤ m.depth - length_of t r = omega (arith, u.1, stack_long) in
      ends_by e (omega arith)
      (reduces_by r ne ∙ reduces_to r p ps d (omega (arith, le)) ∙ reduced_to_full r (length_of t r) (m.depth - length_of t r) (cell_of t p (left_of t r)) m (λ v. omega (arith, f, v)) deep)
      k i

  pub ends_at : {k i : ℕ} → Stops t (record { steps = k; stack = length st; list = length li }) (conf (q ∷ qs) x out) i → run t l k m ≡ record { number = i; final = at_end i m }
  unfolding after
  ends_at {k} (accepted_here (accepts e) b) = asks k b e (λ z. omega (arith, z)) (moved_accept t accept m (omega arith) refl)
  ends_at {k} (wrong_here (wrong e)) = run_wrong t l m k (act ∙ e)
  ends_at {k} (no_steps nw e) = run_none t l m k e (λ z. nw (wrong (sym act ∙ z)))
  ends_at {k} (list_full {r} (reduces e ne) b el) = ends_by e (omega arith) (reduces_by r ne ∙ reduced_full t r m (omega (arith, h.many, list_long, el))) k b
  ends_at {k} (broken_here (broken r e ne br) b el) = ends_by e (omega arith) (reduces_by r ne ∙ breaks r br el) k b
  ends_at {k} (stack_full s b el es) = fills s el es k b

-- one step more in front
before : {t l st li : List ℕ} {n n' most most' i : ℕ} {m m' : Machine} {c : Config} → n ≡ n' → most ≡ most' → ((k : ℕ) → run t l (1 + k) m ≡ run t l k m')
    → Leads t l st li n most m' i c → Leads t l st li n' most' m (suc i) c
before {t} {l} {i = i} {m = m} en em r f =
    record { next = f.next; holds = rw (en, em) at f.holds; runs = λ k. ap (λ (j : ℕ). run t l j m) (omega arith) ∙ r (i + k) ∙ f.runs k }

-- the run along a path
pub follows : {t l st li : List ℕ} → Passed t l (length st) → {i p n most : ℕ} {c c' : Config} {m : Machine} → Path t i p c c' → Held t l st li n most m c
    → max most p ≤ length st → listed c' ≤ length li → Leads t l st li (n + i) (max most p) m i c'
follows {t} {l} pa {n = n} {most} {m = m} Path.none (held {q} {qs} h) b r =
    let e₁ : n + 0 ≡ n = omega arith in
    let e₂ : max most (length (q ∷ qs)) ≡ most = omega (arith, h.used) in
    record { next = m; holds = rw (e₁, e₂) (held h); runs = λ k. ap (λ (j : ℕ). run t l j m) (omega arith) }
follows {t} {l} {st} {li} pa {n = n} {most} {c' = c₂} {m = m} (Path.more {n = i} {m = p} {c' = c₁} s w) (held {q} {qs} h) b r =
    let d = path_depth t w in
    let g = path_lists t w in
    go (advances pa h s (omega arith) (omega arith)) (λ m' h'. follows pa {m = m'} w h' (omega (arith, h.used, h.within)) r)
  where
    go : Leads t l st li (suc n) (max most (depth c₁)) m 1 c₁
        → ((m' : Machine) → Held t l st li (suc n) (max most (depth c₁)) m' c₁ → Leads t l st li (suc n + i) (max (max most (depth c₁)) p) m' i c₂)
        → Leads t l st li (n + suc i) (max most (max (length (q ∷ qs)) p)) m (suc i) c₂
    go a ih =
        let d = path_depth t w in
        let u = h.used in
        before (omega arith) (omega arith) a.runs (ih a.next a.holds)
