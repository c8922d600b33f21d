-- The definition of a reading has exactly one reading for every table, input, step limit and three areas: the computed one.
use Prim.Native.Nat.{ℕ, ◌+◌, ◌<◌, ◌≤◌, max}
use mathlib.Core.Path.{◌≡◌, refl, sym, ap, ◌∙◌}
use mathlib.Core.Logic.{◌≢◌, ◌↔◌}
use mathlib.Core.Bool.{Bool, true, false, cond}
use mathlib.Core.List.{List, [], ◌∷◌, ◌++◌, reverse, append_cancel_right}
use lib.ListN.{length, drop, take, replicate, length-append, take-append-drop, drop_of_length-le}
use lib.Count.{ones}
use borrow.Author.Tests.{eq-eqb, ne_eqb}
use native.Mathlib.Omega.{arith}
use native.Mathlib.Decide.{dec_lt, ℕ_discrete}
use Rattle.sets.specs.Bit.{bit, count}
use Rattle.sets.specs.Lists.{covered}
use Rattle.sets.specs.Tests.{all_below}
use Rattle.sets.proofs.BitLaws.{ones_count}
use Rattle.sets.proofs.CoveredLaws.{covered_exact}
use Rattle.tables.specs.Layout.{terminals}
use Rattle.machine.specs.Checks.{input_ok, refusal_of}
use Rattle.machine.specs.Report.{Report, refused, wrong_at_is, unknown_at_is, Reading}
use Rattle.machine.specs.Exploration.{Offer, CutShort}
use Rattle.machine.specs.Faithful.{Allowed, Stops, accepted_here, wrong_here, no_steps, list_full, broken_here, stack_full, Reports, counts, expects, unknown, Faithful}
use Rattle.machine.specs.Reads.{Reads, refuses, reads}
use Rattle.machine.specs.ComputedRun.{Machine, Outcome, run, start, fresh_number, decided, expected_word, expected_at, unknown_at, wrong_at, report_of, reading_of, reading}
use Rattle.machine.proofs.Checked.{Checked, Passed, taken}
use Rattle.machine.proofs.LrMachineLaws.{Config, conf, path_depth}
use Rattle.machine.proofs.Shifts.{Sound, sound, start_sound, path_sound}
use Rattle.machine.proofs.Offers.{word_below}
use Rattle.machine.proofs.Settles.{unread, Settled, settles}
use Rattle.machine.proofs.Areas.{Holds, Held, held, Leads, ends_at, at_end, counted, held_start, follows}
use Rattle.machine.proofs.Explorations.{position_kept, input_front, offer_same, offer_whole, offered, cut_short}

-- ---- what is reported is what is computed

-- the line before a position is what the reading has passed
line_is : (l line x : List ℕ) (i : ℕ) → line ++ x ≡ l → drop i l ≡ x → take i l ≡ line
line_is l line x i e d = append_cancel_right (take i l) line x (ap (λ (z : List ℕ). take i l ++ z) (sym d) ∙ take-append-drop i l ∙ sym e)

module _ (t l : List ℕ) (a k : ℕ) (ch : Checked t) (ok : input_ok t l ≡ true) (places : 0 < k) (m : Machine) (short : m.position ≤ length l) where
  front : input_ok t (take m.position l) ≡ true
  front = input_front t m.position l short ok

  -- an offer is the one that is computed
  pub known_is : (word : ℕ) → Offer t a k (take m.position l) word → wrong_at t l a k m ≡ expected_at word m
  unfolding wrong_at
  known_is word o = go (all_below (terminals t) (λ x. decided (fresh_number t a k (take m.position l) x))) refl
    where
      go : (b : Bool) → all_below (terminals t) (λ x. decided (fresh_number t a k (take m.position l) x)) ≡ b
          → cond b (expected_at (expected_word t a k (take m.position l)) m) (unknown_at m) ≡ expected_at word m
      go true e = ap (λ (w : ℕ). expected_at w m) (offer_same (offered ch front places e) o)
      go false e = absurd (offer_whole o (cut_short ch front places e))

  pub unknown_is : CutShort t a k (take m.position l) → wrong_at t l a k m ≡ unknown_at m
  unfolding wrong_at
  unknown_is c = go (all_below (terminals t) (λ x. decided (fresh_number t a k (take m.position l) x))) refl
    where
      go : (b : Bool) → all_below (terminals t) (λ x. decided (fresh_number t a k (take m.position l) x)) ≡ b
          → cond b (expected_at (expected_word t a k (take m.position l)) m) (unknown_at m) ≡ unknown_at m
      go true e = absurd (offer_whole (offered ch front places e) c)
      go false e = refl

-- how many an offer has
offer_size : {t line : List ℕ} {a k word : ℕ} → Offer t a k line word → ones word ≡ count (bit word) (terminals t)
offer_size {t} {word = word} o = ones_count (terminals t) word (word_below word (terminals t) (λ m h. ((o.members m).0 h).0))

module _ {t l st li : List ℕ} {n most : ℕ} {m : Machine} {qs x out : List ℕ} (h : Holds t l st li n most m qs x out) (line : List ℕ) (e : line ++ x ≡ l) where
  before : take m.position l ≡ line
  before = line_is l line x m.position e h.ahead

  passed_so_far : m.position ≡ length line
  passed_so_far = let z = sym (length-append line x) ∙ ap length e in omega (arith, z, h.place)

  short : m.position ≤ length l
  short = omega (arith, h.place)

module _ {t l st li : List ℕ} (a k : ℕ) (pa : Passed t l (length st)) (places : 0 < k) {n most : ℕ} {m : Machine} where
  module _ {qs x out : List ℕ} (h : Holds t l st li n most m qs x out) (line : List ℕ) (e : line ++ x ≡ l) where
    wrong_is : (word : ℕ) → Offer t a k line word → wrong_at_is n (length qs) (length out) (length line) word (count (bit word) (terminals t)) ≡ wrong_at t l a k m
    unfolding expected_at
    wrong_is word o =
        rw (known_is t l a k pa.table pa.input_passed places m (short h line e) word (rw (before h line e) o), passed_so_far h line e, h.made, h.deep, h.many, offer_size o) refl

    cut_is : CutShort t a k line → unknown_at_is n (length qs) (length out) (length line) ≡ wrong_at t l a k m
    unfolding unknown_at
    cut_is c = rw (unknown_is t l a k pa.table pa.input_passed places m (short h line e) (rw (before h line e) c), passed_so_far h line e, h.made, h.deep, h.many) refl

  report_is : {c : Config} {i : ℕ} {r : Report} → Held t l st li n most m c → Reports t l a k n c i r → r ≡ report_of t l a k (record { number = i; final = at_end i m })
  unfolding report_of
  report_is (held h) (counts i ne) = rw (counted i m, ne_eqb i 31 ne, h.made, h.deep, h.many)
  report_is (held h) (expects line word e o) = wrong_is h line e word o
  report_is (held h) (unknown line e c) = cut_is h line e c

-- ---- where a run ends

module _ (t l st li : List ℕ) (a : ℕ) (pa : Passed t l (length st)) where
  -- where the machine stops to which it comes
  pub ends_there : {n most left i : ℕ} {c : Config} {m : Machine} → Held t l st li n most m c → Stops t (record { steps = left; stack = length st; list = length li }) c i
      → run t l a (start st li) ≡ run t l left m → (run t l a (start st li)).final.position + unread c ≡ length l
  ends_there {i = i} {m = m} (held h) why e = rw (e ∙ ends_at pa h why, position_kept i m) h.place

  -- within its input
  pub ends_within : (run t l a (start st li)).final.position ≤ length l
  ends_within =
      let s = settles t (length st) (length li) a 0 [] l [] pa.places (omega arith) in
      let w = follows pa s.path (held_start st li pa) (omega (arith, s.within, pa.places)) s.fits in
      let z = ends_there w.holds s.why (rw s.budget at (w.runs s.left)) in
      omega (arith, z)

-- ---- a faithful reading is the computed one

same_reading : {r : Reading} {p : Report} {s l z : List ℕ} → r.report ≡ p → r.stack ≡ s → r.list ≡ l → r.second ≡ z → r ≡ record { report = p; stack = s; list = l; second = z }
same_reading ep es el ez = rw (← ep, ← es, ← el, ← ez)

module _ (t l st li se : List ℕ) (a : ℕ) where
  pub unrefused : refusal_of t l (length st) (length se) ≡ 0 → (o : Outcome) → run t l a (start st li) ≡ o → reading t l st li se a ≡ reading_of t l a (length se) o
  unfolding reading
  unrefused e o eo = rw (eq-eqb (refusal_of t l (length st) (length se)) 0 e, eo)

  pub refused_is : (n : ℕ) → refusal_of t l (length st) (length se) ≡ n → n ≢ 0 → reading t l st li se a ≡ record { report = refused n; stack = st; list = li; second = se }
  unfolding reading
  refused_is n e ne = rw (e, ne_eqb n 0 ne)

  module _ (e : refusal_of t l (length st) (length se) ≡ 0) where
    pa : Passed t l (length st)
    pa = (taken t l (length st) (length se) e).passed

    places : 0 < length se
    places = omega (arith, pa.places, (taken t l (length st) (length se) e).second)

    -- where the path ends
    at_last : {steps most left i : ℕ} {m : Machine} {qs x out : List ℕ} (r : Reading) → Held t l st li steps most m (conf qs x out)
        → Stops t (record { steps = left; stack = length st; list = length li }) (conf qs x out) i → Reports t l a (length se) steps (conf qs x out) i r.report
        → r.stack ≡ covered most (reverse qs) st → r.list ≡ out ++ drop (length out) li → r.second ≡ replicate (length se) 0 → run t l a (start st li) ≡ run t l left m → r ≡ reading t l st li se a
    unfolding reading_of
    at_last {i = i} {m} {out = out} r (held h) why rep es el ez er =
        let k = counted i m in
        rw (unrefused e (record { number = i; final = at_end i m }) (er ∙ ends_at pa h why))
        (same_reading (report_is a (length se) pa places (held h) rep) (es ∙ sym h.stacked ∙ ap (λ (z : Machine). z.stack) (sym k)) (el ∙ sym (covered_exact out li) ∙ sym h.listing ∙ ap (λ (z : Machine). z.list) (sym k)) ez)

    pub only_reading : {r : Reading} → Faithful t l st li se a r → r ≡ reading t l st li se a
    only_reading {r} f = go (follows pa f.path (held_start st li pa) (omega (arith, f.within, pa.places)) f.room)
      where
        go : Leads t l st li (0 + f.steps) (max 1 f.most) (start st li) f.steps (conf f.states f.ahead f.productions) → r ≡ reading t l st li se a
        go w =
            let d = path_depth t f.path in
            let e₁ : 0 + f.steps ≡ f.steps = omega arith in
            let e₂ : max 1 f.most ≡ f.most = omega arith in
            at_last r (rw (e₁, e₂) at w.holds) f.why f.reported f.stacked f.listing f.cleared (rw f.budget at (w.runs f.left))

    -- ---- and there is one

    -- what is explored behind a line that the input begins with
    explored_at : (steps i : ℕ) {qs x out : List ℕ} → i ≤ length l → drop i l ≡ x → (r : Report) × Reports t l a (length se) steps (conf qs x out) 31 r
    explored_at steps i {qs} {x} {out} h e = go (all_below (terminals t) (λ x. decided (fresh_number t a (length se) (take i l) x))) refl
      where
        whole : take i l ++ x ≡ l
        whole = ap (λ (z : List ℕ). take i l ++ z) (sym e) ∙ take-append-drop i l

        go : (b : Bool) → all_below (terminals t) (λ x. decided (fresh_number t a (length se) (take i l) x)) ≡ b → (r : Report) × Reports t l a (length se) steps (conf qs x out) 31 r
        go true b = (_, expects {qs = qs} {x = x} {out = out} (take i l) (expected_word t a (length se) (take i l)) whole (offered pa.table (input_front t i l h pa.input_passed) places b))
        go false b = (_, unknown {qs = qs} {x = x} {out = out} (take i l) whole (cut_short pa.table (input_front t i l h pa.input_passed) places b))

    -- past the end nothing is ahead
    at_31 : (steps : ℕ) {c : Config} → Sound t l c → (r : Report) × Reports t l a (length se) steps c 31 r
    at_31 steps (sound {q} {qs} {x} {out} i b e) = go (dec_lt i (length l))
      where
        go : Dec (i < length l) → (r : Report) × Reports t l a (length se) steps (conf (q ∷ qs) x out) 31 r
        go (yes k) = explored_at steps i (omega arith) e
        go (no k) = explored_at steps (length l) (omega arith) (drop_of_length-le l {i = length l} (omega arith) ∙ sym (drop_of_length-le l {i = i} (omega (arith, k))) ∙ e)

    pub some_report : (steps : ℕ) {b : Allowed} {c : Config} {i : ℕ} → Sound t l c → Stops t b c i → (r : Report) × Reports t l a (length se) steps c i r
    some_report steps h (accepted_here _ _) = (_, counts 0 (λ z. omega arith))
    some_report steps h (wrong_here _) = at_31 steps h
    some_report steps h (no_steps _ _) = (_, counts 32 (λ z. omega arith))
    some_report steps h (list_full _ _ _) = (_, counts 34 (λ z. omega arith))
    some_report steps h (broken_here _ _ _) = (_, counts 35 (λ z. omega arith))
    some_report steps h (stack_full _ _ _ _) = (_, counts 33 (λ z. omega arith))

    pub faithful : Faithful t l st li se a (reading t l st li se a)
    faithful = go (settles t (length st) (length li) a 0 [] l [] pa.places (omega arith))
      where
        go : Settled t (length st) (length li) a (conf (0 ∷ []) l []) → Faithful t l st li se a (reading t l st li se a)
        go s =
            let p = some_report s.steps (path_sound t l (length st) pa (start_sound t l (length st) pa) s.path) s.why in
            let f : Faithful t l st li se a (record { report = p.0; stack = covered s.most (reverse s.states) st; list = s.productions ++ drop (length s.productions) li; second = replicate (length se) 0 }) =
            record {
              steps = s.steps;
              most = s.most;
              states = s.states;
              ahead = s.ahead;
              productions = s.productions;
              path = s.path;
              within = s.within;
              room = s.fits;
              left = s.left;
              budget = s.budget;
              number = s.number;
              why = s.why;
              reported = p.1;
              stacked = refl;
              listing = refl;
              cleared = refl;
            } in
            rw (only_reading f) at f

  -- ---- the whole: refused or read

  reads_one : {r : Reading} → Reads t l st li se a r → r ≡ reading t l st li se a
  reads_one (refuses {n} e ne) = sym (refused_is n e ne)
  reads_one (reads e f) = only_reading e f

  pub reads_some : Reads t l st li se a (reading t l st li se a)
  reads_some = go (ℕ_discrete (refusal_of t l (length st) (length se)) 0)
    where
      go : Dec (refusal_of t l (length st) (length se) ≡ 0) → Reads t l st li se a (reading t l st li se a)
      go (yes e) = reads e (faithful e)
      go (no n) = rw (refused_is (refusal_of t l (length st) (length se)) refl n) (refuses refl n)

  pub reads_exactly : (r : Reading) → Reads t l st li se a r ↔ (r ≡ reading t l st li se a)
  reads_exactly r = (λ h. reads_one h, λ e. rw e reads_some)
