-- From every configuration the LR machine comes to a stop within what a reading may use.
use Prim.Native.Nat.{ℕ, zero, suc, ◌+◌, ◌<◌, ◌≤◌}
use mathlib.Core.Path.{◌≡◌, refl}
use mathlib.Core.Logic.{◌≢◌}
use mathlib.Core.List.{List, [], ◌∷◌}
use lib.ListN.{length, drop, length-append, drop_of_length-le}
use native.Mathlib.Omega.{arith}
use native.Mathlib.Decide.{dec_lt}
use Rattle.sets.specs.Lists.{peek, rest}
use Rattle.tables.specs.Layout.{cell_of, left_of, length_of, reduction, accept}
use Rattle.machine.specs.Faithful.{Allowed, Stops, accepted_here, wrong_here, no_steps, list_full, broken_here, stack_full}
use Rattle.machine.proofs.LrMachineLaws.{Kind, kind, is_wrong, is_shift, is_accept, is_reduce, Config, conf, depth, reduces, Step, Path, pops_all, no_next, Ends, accepts, wrong, broken, one_deeper}

-- the terminals still to be read
abbrev pub unread : Config → ℕ
unread (conf qs x out) = length x

drop_some : (n : ℕ) (qs : List ℕ) → n < length qs → (p : ℕ) × (ps : List ℕ) × (drop n qs ≡ p ∷ ps)
drop_some n [] h = absurd (omega arith)
drop_some zero (q ∷ qs) h = (q, qs, refl)
drop_some (suc n) (q ∷ qs) h = drop_some n qs (omega arith)

rest_shorter : (x : List ℕ) → length (rest x) ≤ length x
rest_shorter [] = omega arith
rest_shorter (a ∷ x) = omega arith

module _ (t : List ℕ) where
  reads_on : {c c' : Config} → Step t c c' → unread c' ≤ unread c
  reads_on (Step.shift {x = x} s e h k) = rest_shorter x
  reads_on (Step.reduce r p ps s e n d f h) = omega arith

  pub path_unread : {n m : ℕ} {c c' : Config} → Path t n m c c' → unread c' ≤ unread c
  path_unread Path.none = omega arith
  path_unread (Path.more s p) = let a = reads_on s in let b = path_unread p in omega arith

module _ (t : List ℕ) (places room : ℕ) where
  abbrev allowed : ℕ → Allowed
  allowed k = record { steps = k; stack = places; list = room }

  -- with k steps left: the end, or a step within both areas
  data Goes (k : ℕ) (c : Config) : Type 0 where
    stops : {n : ℕ} → Stops t (allowed k) c n → Goes k c
    steps_on : {q : ℕ} {qs x out : List ℕ} → 0 < k → Step t c (conf (q ∷ qs) x out) → length (q ∷ qs) ≤ places → length out ≤ room → Goes k c

  module _ (k : ℕ) {q : ℕ} {qs x out : List ℕ} (within : length (q ∷ qs) ≤ places) (fits : length out ≤ room) where
    pushes : {p : ℕ} {ps y out' : List ℕ} → 0 < k → Step t (conf (q ∷ qs) x out) (conf (p ∷ ps) y out') → length out' ≤ room → Goes k (conf (q ∷ qs) x out)
    pushes {ps = ps} h s l = go (dec_lt (length ps) places)
      where
        go : Dec (length ps < places) → Goes k (conf (q ∷ qs) x out)
        go (yes b) = steps_on h s b l
        go (no b) = let d = one_deeper t s in stops (stack_full s h l (omega (arith, b, d)))

    reducing : (r : ℕ) → 0 < k → cell_of t q (peek x) ≡ reduction r → reduction r ≢ accept → Dec (length out < room) → Dec (length_of t r < length (q ∷ qs)) → Goes k (conf (q ∷ qs) x out)
    reducing r h e n (no b) _ = stops (list_full (reduces e n) h (omega (arith, b)))
    reducing r h e n (yes b) (no d) = stops (broken_here (broken r e n (pops_all (drop_of_length-le (q ∷ qs) {i = length_of t r} (omega (arith, d))))) h b)
    reducing r h e n (yes b) (yes d) = let u = drop_some (length_of t r) (q ∷ qs) d in go u.0 u.1 u.2 (cell_of t u.0 (left_of t r)) refl
      where
        go : (p : ℕ) (ps : List ℕ) → drop (length_of t r) (q ∷ qs) ≡ p ∷ ps → (s : ℕ) → cell_of t p (left_of t r) ≡ s → Goes k (conf (q ∷ qs) x out)
        go p ps u zero f = stops (broken_here (broken r e n (no_next p ps u f)) h b)
        go p ps u (suc s) f = pushes h (Step.reduce r p ps (suc s) e n u f (omega arith)) (let l = length-append out (r ∷ []) in omega (arith, l))

    goes : Goes k (conf (q ∷ qs) x out)
    goes = go (kind (cell_of t q (peek x))) (dec_lt 0 k) refl
      where
        spent : cell_of t q (peek x) ≢ 0 → (0 < k → ⊥) → Goes k (conf (q ∷ qs) x out)
        spent n h = stops (no_steps not_wrong (omega (arith, h)))
          where
            not_wrong : Ends t (conf (q ∷ qs) x out) 31 → ⊥
            not_wrong (wrong e) = n e

        go : {a : ℕ} → Kind a → Dec (0 < k) → cell_of t q (peek x) ≡ a → Goes k (conf (q ∷ qs) x out)
        go is_wrong _ e = stops (wrong_here (wrong e))
        go (is_shift s z b) (yes h) e = pushes h (Step.shift s e z b) fits
        go (is_shift s z b) (no h) e = spent (λ f. omega (arith, e, f)) h
        go is_accept (yes h) e = stops (accepted_here (accepts e) h)
        go is_accept (no h) e = spent (λ f. omega (arith, e, f)) h
        go (is_reduce r n) (yes h) e = reducing r h e n (dec_lt (length out) room) (dec_lt (length_of t r) (length (q ∷ qs)))
        go (is_reduce r n) (no h) e = spent (λ f. omega (arith, e, f)) h

  -- where the machine stops
  pub record Settled (k : ℕ) (c : Config) : Type 0 where
    pub steps : ℕ
    pub most : ℕ
    pub states : List ℕ
    pub ahead : List ℕ
    pub productions : List ℕ
    pub path : Path t steps most c (conf states ahead productions)
    pub within : most ≤ places
    pub fits : length productions ≤ room
    pub left : ℕ
    pub budget : steps + left ≡ k
    pub number : ℕ
    pub why : Stops t (allowed left) (conf states ahead productions) number
    pub shorter : length ahead ≤ unread c

  here : (k : ℕ) {n : ℕ} {qs x out : List ℕ} → length qs ≤ places → length out ≤ room → Stops t (allowed k) (conf qs x out) n → Settled k (conf qs x out)
  here k {n} {qs} {x} {out} h l w =
      record { steps = 0; most = length qs; states = qs; ahead = x; productions = out; path = Path.none; within = h; fits = l; left = k; budget = omega arith; number = n; why = w; shorter = omega arith }

  further : {k : ℕ} {c c' : Config} → depth c ≤ places → Step t c c' → Settled k c' → Settled (suc k) c
  further h s d =
      let b = reads_on t s in
      record {
        steps = suc d.steps;
        most = _;
        states = d.states;
        ahead = d.ahead;
        productions = d.productions;
        path = Path.more s d.path;
        within = omega (arith, d.within);
        fits = d.fits;
        left = d.left;
        budget = omega (arith, d.budget);
        number = d.number;
        why = d.why;
        shorter = omega (arith, d.shorter);
      }

  pub settles : (k q : ℕ) (qs x out : List ℕ) → length (q ∷ qs) ≤ places → length out ≤ room → Settled k (conf (q ∷ qs) x out)
  settles zero q qs x out h l = go (goes zero h l)
    where
      go : Goes zero (conf (q ∷ qs) x out) → Settled zero (conf (q ∷ qs) x out)
      go (stops w) = here zero h l w
      go (steps_on z s b c) = absurd (omega arith)
  settles (suc k) q qs x out h l = go (goes (suc k) h l) (λ q qs x out h l. settles k q qs x out h l)
    where
      go : Goes (suc k) (conf (q ∷ qs) x out) → ((q : ℕ) (qs x out : List ℕ) → length (q ∷ qs) ≤ places → length out ≤ room → Settled k (conf (q ∷ qs) x out)) → Settled (suc k) (conf (q ∷ qs) x out)
      go (stops w) ih = here (suc k) h l w
      go (steps_on {q = p} {qs = ps} {x = y} {out = o} z s b c) ih = further h s (ih p ps y o b c)
