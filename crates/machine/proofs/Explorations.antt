-- Laws of the fresh readings: each ends in just one way, which is the computed one, and none with a full list.
use Prim.Native.Nat.{ℕ, zero, suc, ◌+◌, ◌<◌, ◌≤◌, max}
use mathlib.Core.Path.{◌≡◌, refl, sym, ap, ◌∙◌}
use mathlib.Core.Logic.{◌≢◌, ◌↔◌}
use mathlib.Core.Bool.{Bool, true, false, ◌&&◌}
use mathlib.Core.List.{List, [], ◌∷◌, ◌++◌}
use lib.ListN.{length, take, get_or, replicate, length-append, length-replicate, get_or-append}
use lib.Seq.{length-take-le, get_or-take, get_or-append_seam}
use lib.Dec.{eqb}
use borrow.Author.Tests.{lt-ltb, le-ltb, eq-eqb, eqb-true}
use native.Mathlib.Omega.{arith}
use native.Mathlib.Decide.{dec_lt, ℕ_discrete}
use Rattle.sets.specs.Bit.{Has}
use Rattle.sets.specs.Tests.{all_below}
use Rattle.sets.proofs.TestLaws.{all_at, all_true}
use Rattle.tables.specs.Layout.{terminals}
use Rattle.machine.specs.Checks.{input_ok, terminal_ok}
use Rattle.machine.specs.Stops.{Stops, accepted_here, wrong_here, no_steps, list_full, broken_here, stack_full}
pub use Rattle.machine.specs.Exploration.{Comes, unlisted, Explored, shifts, stops, reads, Cut, no_steps_left, no_place_left, broken_off, Offer, CutShort}
use Rattle.machine.specs.ComputedRun.{Machine, Next, ended, moved, accepted, action_of, moved_by, Outcome, after, run, start, with_next, fresh, fresh_number, decided, expected_word, word_of}
use Rattle.machine.proofs.Checked.{Checked, Passed}
use Rattle.machine.proofs.LrMachineLaws.{Config, conf, listed, Step, Path}
use Rattle.machine.proofs.RunLaws.{either, step_each}
use Rattle.machine.proofs.Settles.{unread, Settled, settles}
use Rattle.machine.proofs.Areas.{Held, held, Leads, ends_at, at_end, counted, held_start, follows}
use Rattle.machine.proofs.Offers.{same_members, word_members}

-- a test that fails for some number below n fails there
all_finds : (p : ℕ → Bool) (n : ℕ) → all_below n p ≡ false → (i : ℕ) × (i < n) × (p i ≡ false)
unfolding all_below
all_finds p zero e = let z : ◌≡◌ {A = ℕ} 0 1 = cc in absurd (omega arith)
all_finds p (suc n) e = go (all_below n p) refl (all_finds p n) e
  where
    go : (b : Bool) → all_below n p ≡ b → (all_below n p ≡ false → (i : ℕ) × (i < n) × (p i ≡ false)) → (b && p n) ≡ false → (i : ℕ) × (i < suc n) × (p i ≡ false)
    go true h ih e = (n, omega arith, e)
    go false h ih e = let z = ih h in (z.0, omega (arith, z.1), z.2)

-- ---- no list is ever full

module _ (t : List ℕ) where
  -- each production listed is a step
  step_lists : {c c' : Config} → Step t c c' → listed c' ≤ suc (listed c)
  step_lists (Step.shift s e h k) = omega arith
  step_lists (Step.reduce {out = out} r p ps s e n d f h) = let z = length-append out (r ∷ []) in omega (arith, z)

  pub path_listed : {n m : ℕ} {c c' : Config} → Path t n m c c' → listed c' ≤ listed c + n
  path_listed Path.none = omega arith
  path_listed (Path.more s p) = let a = step_lists s in let b = path_listed p in omega arith

  pub comes_listed : {a k left : ℕ} {l : List ℕ} {c : Config} → Comes t a k l c left → listed c + left ≤ a
  comes_listed w = let b = path_listed w.path in omega (arith, w.budget)

  -- so 34 never comes
  pub never_full : {a k left n : ℕ} {l : List ℕ} {c : Config} → Comes t a k l c left → Stops t (unlisted a k left) c n → n ≢ 34
  never_full w (accepted_here _ _) e = omega arith
  never_full w (wrong_here _) e = omega arith
  never_full w (no_steps _ _) e = omega arith
  never_full w (list_full _ h f) e = let b = comes_listed w in omega arith
  never_full w (broken_here _ _ _) e = omega arith
  never_full w (stack_full _ _ _ _) e = omega arith

-- ---- the position never falls

abbrev OnFrom : ℕ → Next → Type 0
OnFrom n (ended i m) = n ≤ m.position
OnFrom n (moved m) = n ≤ m.position
OnFrom n (accepted m) = n ≤ m.position

step_on : (t : List ℕ) (a : ℕ) (m : Machine) → OnFrom m.position (moved_by t a m)
step_on t a m = step_each (OnFrom m.position) t a m (λ n. omega arith) (λ m' _ h. h) (λ m' _ h. h)

module _ (t l : List ℕ) where
  pub run_on : (k : ℕ) (m : Machine) → m.position ≤ (run t l k m).final.position
  unfolding run after
  run_on zero m = either (λ (o : Outcome). m.position ≤ o.final.position) (eqb (action_of t l m) 0) (λ _. omega arith) (λ _. omega arith)
  run_on (suc k) m = either (λ (o : Outcome). m.position ≤ o.final.position) (eqb (action_of t l m) 0) (λ _. omega arith) (λ _. go (moved_by t (action_of t l m) m) (step_on t (action_of t l m) m) (λ m'. run_on k m'))
    where
      go : (x : Next) → OnFrom m.position x → ((m' : Machine) → m'.position ≤ (run t l k m').final.position) → m.position ≤ (after (run t l k) x).final.position
      go (ended i m') h ih = h
      go (moved m') h ih = let z = ih m' in omega arith
      go (accepted m') h ih = h

-- ---- the terminals of a fresh reading pass the check

module _ (t : List ℕ) where
  -- those before any place do
  pub input_front : (i : ℕ) (l : List ℕ) → i ≤ length l → input_ok t l ≡ true → input_ok t (take i l) ≡ true
  unfolding input_ok
  input_front i l h e =
      let n = length-take-le i l h in
      all_true (λ j. terminal_ok t (get_or (take i l) j 0)) (length (take i l))
      (λ j k. ap (terminal_ok t) (get_or-take i l j 0 (omega arith)) ∙ all_at (λ j. terminal_ok t (get_or l j 0)) (length l) e j (omega arith))

  terminal_check_passed : (m : ℕ) → m ≢ 0 → m < terminals t → terminal_ok t m ≡ true
  unfolding terminal_ok
  terminal_check_passed m nz h = rw (lt-ltb 0 m (omega (arith, nz)), lt-ltb m (terminals t) h) refl

  pub input_more : (line : List ℕ) (m : ℕ) → m ≢ 0 → m < terminals t → input_ok t line ≡ true → input_ok t (line ++ m ∷ []) ≡ true
  unfolding input_ok
  input_more line m nz h e = all_true (λ j. terminal_ok t (get_or (line ++ m ∷ []) j 0)) (length (line ++ m ∷ [])) (λ j k. go j k (dec_lt j (length line)))
    where
      go : (j : ℕ) → j < length (line ++ m ∷ []) → Dec (j < length line) → terminal_ok t (get_or (line ++ m ∷ []) j 0) ≡ true
      go j k (yes b) = ap (terminal_ok t) (get_or-append line (m ∷ []) 0 j b) ∙ all_at (λ j. terminal_ok t (get_or line j 0)) (length line) e j b
      go j k (no b) =
          let n = length-append line (m ∷ []) in
          let ej : j ≡ length line = omega (arith, b, n) in
          ap (terminal_ok t) (ap (λ (i : ℕ). get_or (line ++ m ∷ []) i 0) ej ∙ get_or-append_seam line m [] 0) ∙ terminal_check_passed m nz h

  next_ok : (line : List ℕ) (m : ℕ) → m < terminals t → input_ok t line ≡ true → input_ok t (with_next line m) ≡ true
  next_ok line zero h e = e
  next_ok line (suc m) h e = input_more line (suc m) (λ z. omega arith) h e

-- ---- the computed fresh reading

abbrev zeros : ℕ → List ℕ
zeros n = replicate n 0

long : (n : ℕ) → length (zeros n) ≡ n
long n = length-replicate n 0

pub position_kept : (n : ℕ) (m : Machine) → (at_end n m).position ≡ m.position
position_kept n m = ap (λ (z : Machine). z.position) (counted n m)

module _ (t line : List ℕ) (a k : ℕ) (ch : Checked t) (ok : input_ok t line ≡ true) (some : 0 < k) (m : ℕ) (h : m < terminals t) where
  pa : Passed t (with_next line m) (length (zeros k))
  pa = record { table = ch; input_passed = next_ok t line m h ok; places = rw (long k) some }

  -- where a fresh reading comes, the run comes
  leads : {c : Config} {left : ℕ} (w : Comes t a k (with_next line m) c left)
      → Leads t (with_next line m) (zeros k) (zeros a) (0 + w.steps) (max 1 w.most) (start (zeros k) (zeros a)) w.steps c
  leads w =
      let b = comes_listed t w in
      follows pa w.path (held_start (zeros k) (zeros a) pa) (omega (arith, w.within, long k, some)) (omega (arith, long a))

  -- what the run then gives, by the machine that it has come to
  number_at : {i most n left : ℕ} {c : Config} (x : Machine) → Held t (with_next line m) (zeros k) (zeros a) i most x c → run t (with_next line m) a (start (zeros k) (zeros a)) ≡ run t (with_next line m) left x
      → Stops t (unlisted a k left) c n → length (with_next line m) ≤ length line + unread c → fresh_number t a k line m ≡ n
  unfolding fresh_number fresh
  number_at {n = n} {left} v (held {q} {qs} {x} {out} g) e s b =
      let s' : Stops t (unlisted (length (zeros a)) (length (zeros k)) left) (conf (q ∷ qs) x out) n = rw (long a, long k) s in
      let eo = e ∙ ends_at pa g s' in
      let f : (at_end n v).position ≤ length line = omega (arith, position_kept n v, g.place) in
      rw (eo, le-ltb (length line) (at_end n v).position f) refl

  at_stop : {n left : ℕ} {c : Config} → length (with_next line m) ≤ length line + unread c → Comes t a k (with_next line m) c left → Stops t (unlisted a k left) c n → fresh_number t a k line m ≡ n
  at_stop {left = left} b w s =
      let d = leads w in
      number_at d.next d.holds (rw w.budget at (d.runs left)) s b

  -- past m the number is 0
  past : {i most : ℕ} (left : ℕ) {c : Config} (x : Machine) → Held t (with_next line m) (zeros k) (zeros a) i most x c → run t (with_next line m) a (start (zeros k) (zeros a)) ≡ run t (with_next line m) left x
      → length line + unread c < length (with_next line m) → fresh_number t a k line m ≡ 0
  unfolding fresh_number fresh
  past left x (held g) e b =
      let z = run_on t (with_next line m) left x in
      let f : length line < (run t (with_next line m) left x).final.position = omega (arith, z, g.place) in
      rw (e, lt-ltb (length line) (run t (with_next line m) left x).final.position f) refl

  at_shift : {left : ℕ} {c : Config} → length line + unread c < length (with_next line m) → Comes t a k (with_next line m) c left → fresh_number t a k line m ≡ 0
  at_shift {left} b w = let d = leads w in past left d.next d.holds (rw w.budget at (d.runs left)) b

-- ---- each fresh reading ends in just one way

next_is : (line : List ℕ) (m : ℕ) → m ≢ 0 → with_next line m ≡ line ++ m ∷ []
next_is line zero nz = absurd (nz refl)
next_is line (suc m) nz = refl

pub some_long : (x : List ℕ) → x ≢ [] → 0 < length x
some_long [] n = absurd (n refl)
some_long (a ∷ x) n = omega arith

next_long : (line : List ℕ) (m : ℕ) → m ≢ 0 → length (with_next line m) ≡ length line + 1
next_long line m nz = ap length (next_is line m nz) ∙ length-append line (m ∷ [])

-- each comes to an end
pub ends_somehow : (t line : List ℕ) (a k : ℕ) → 0 < k → (m : ℕ) → (n : ℕ) × Explored t a k line m n
ends_somehow t line a k some m = go (ℕ_discrete m 0)
  where
    comes : {l : List ℕ} (s : Settled t k a a (conf (0 ∷ []) l [])) → Comes t a k l (conf s.states s.ahead s.productions) s.left
    comes s = record { steps = s.steps; most = s.most; path = s.path; within = s.within; budget = s.budget }

    over : m ≢ 0 → {x : List ℕ} (s : Settled t k a a (conf (0 ∷ []) (line ++ m ∷ []) [])) → s.ahead ≡ x → (n : ℕ) × Explored t a k line m n
    over nz {x = []} s e = let w : Comes t a k (line ++ m ∷ []) (conf s.states [] s.productions) s.left = rw e at (comes s) in (0, shifts nz w)
    over nz {x = y ∷ x} s e = (s.number, stops nz (λ z. let b : ◌≡◌ {A = List ℕ} [] (y ∷ x) = sym z ∙ e in let c : ◌≡◌ {A = ℕ} 0 1 = cc in omega arith) (comes s) s.why)

    go : Dec (m ≡ 0) → (n : ℕ) × Explored t a k line m n
    go (yes e) =
        let s = settles t k a a 0 [] line [] (omega arith) (omega arith) in
        let z : Explored t a k line 0 s.number = reads (comes s) s.why in
        (s.number, rw e z)
    go (no nz) = over nz (settles t k a a 0 [] (line ++ m ∷ []) [] (omega arith) (omega arith)) refl

module _ (t line : List ℕ) (a k : ℕ) (ch : Checked t) (ok : input_ok t line ≡ true) (some : 0 < k) where
  pub explored_is : {m n : ℕ} → m < terminals t → Explored t a k line m n → fresh_number t a k line m ≡ n
  explored_is {m} h (shifts {left} {qs} {out} nz w) =
      let e = next_long line m nz in
      at_shift t line a k ch ok some m h {left = left} {c = conf qs [] out} (omega (arith, e)) (rw (next_is line m nz) w)
  explored_is {m} h (stops {left} {qs} {x} {out} nz nx w s) =
      let e = next_long line m nz in
      let l = some_long x nx in
      at_stop t line a k ch ok some m h {left = left} {c = conf qs x out} (omega (arith, e, l)) (rw (next_is line m nz) w) s
  explored_is h (reads w s) = at_stop t line a k ch ok some 0 h (omega arith) w s

  pub explored : (m : ℕ) → m < terminals t → Explored t a k line m (fresh_number t a k line m)
  explored m h = let z = ends_somehow t line a k some m in rw (explored_is h z.1) z.1

  pub explored_same : {m i j : ℕ} → m < terminals t → Explored t a k line m i → Explored t a k line m j → i ≡ j
  explored_same h v w = sym (explored_is h v) ∙ explored_is h w

-- ---- the offer

-- how a fresh reading can end
pub data Way : ℕ → Type 0 where
  found : Way 0
  wrong : Way 31
  cut_off : {n : ℕ} → Cut n → Way n

way_of : {t l : List ℕ} {a k left n : ℕ} {c : Config} → Comes t a k l c left → Stops t (unlisted a k left) c n → Way n
way_of w (accepted_here _ _) = found
way_of w (wrong_here _) = wrong
way_of w (no_steps _ _) = cut_off no_steps_left
way_of {t} w (list_full p h f) = absurd (never_full t w (list_full p h f) refl)
way_of w (broken_here _ _ _) = cut_off broken_off
way_of w (stack_full _ _ _ _) = cut_off no_place_left

pub way : {t line : List ℕ} {a k m n : ℕ} → Explored t a k line m n → Way n
way (shifts _ _) = found
way (stops _ _ w s) = way_of w s
way (reads w s) = way_of w s

pub cut_other : {n : ℕ} → Cut n → n ≢ 31
cut_other no_steps_left e = omega arith
cut_other no_place_left e = omega arith
cut_other broken_off e = omega arith

cut_open : {n : ℕ} → Cut n → decided n ≡ false
unfolding decided
cut_open no_steps_left = refl
cut_open no_place_left = refl
cut_open broken_off = refl

true_false : {b : Bool} → b ≡ true → b ≡ false → ⊥
true_false e f = let z : ◌≡◌ {A = ℕ} 0 1 = cc in omega arith

-- the offer is one word
pub offer_same : {t line : List ℕ} {a k v w : ℕ} → Offer t a k line v → Offer t a k line w → v ≡ w
offer_same {v = v} {w} p q = same_members v w (λ m. (λ h. (q.members m).1 ((p.members m).0 h), λ h. (p.members m).1 ((q.members m).0 h)))

pub offer_whole : {t line : List ℕ} {a k w : ℕ} → Offer t a k line w → CutShort t a k line → ⊥
offer_whole p c = p.uncut c.terminal c.number c.below c.ends c.cut

module _ {t line : List ℕ} {a k : ℕ} (ch : Checked t) (ok : input_ok t line ≡ true) (some : 0 < k) where
  number : {m n : ℕ} → m < terminals t → Explored t a k line m n → fresh_number t a k line m ≡ n
  number h e = explored_is t line a k ch ok some h e

  ends : (m : ℕ) → m < terminals t → Explored t a k line m (fresh_number t a k line m)
  ends m h = explored t line a k ch ok some m h

  pub offered : all_below (terminals t) (λ x. decided (fresh_number t a k line x)) ≡ true → Offer t a k line (expected_word t a k line)
  unfolding expected_word
  offered e = record { members = λ m. (λ h. in_word m ((members m).0 h), λ z. (members m).1 (z.0, eq-eqb (fresh_number t a k line m) 0 (number z.0 z.1))); uncut = whole }
    where
      members : (m : ℕ) → Has (word_of (λ m. eqb (fresh_number t a k line m) 0) (terminals t)) m ↔ ((m < terminals t) × (eqb (fresh_number t a k line m) 0 ≡ true))
      members m = word_members (λ m. eqb (fresh_number t a k line m) 0) (terminals t) m

      in_word : (m : ℕ) → (m < terminals t) × (eqb (fresh_number t a k line m) 0 ≡ true) → (m < terminals t) × Explored t a k line m 0
      in_word m z = (z.0, rw (eqb-true (fresh_number t a k line m) 0 z.1) at (ends m z.0))

      whole : (m n : ℕ) → m < terminals t → Explored t a k line m n → Cut n → ⊥
      whole m n h x c = true_false (rw (number h x) at (all_at (λ x. decided (fresh_number t a k line x)) (terminals t) e m h)) (cut_open c)

  pub cut_short : all_below (terminals t) (λ x. decided (fresh_number t a k line x)) ≡ false → CutShort t a k line
  unfolding decided
  cut_short e = let z = all_finds (λ x. decided (fresh_number t a k line x)) (terminals t) e in go z.0 z.1 z.2 (fresh_number t a k line z.0) refl (way (ends z.0 z.1))
    where
      go : (m : ℕ) → m < terminals t → decided (fresh_number t a k line m) ≡ false → (n : ℕ) → fresh_number t a k line m ≡ n → Way n → CutShort t a k line
      go m h f n en found = absurd (true_false (ap decided en) f)
      go m h f n en wrong = absurd (true_false (ap decided en) f)
      go m h f n en (cut_off c) = record { terminal = m; number = n; below = h; ends = rw en at (ends m h); cut = c }
