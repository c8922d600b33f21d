-- Card 10: how a choir's reading ends beside a publisher's, for every table.
use Prim.Native.Nat.{ℕ, zero, suc, ◌+◌, ◌-◌, ◌<◌, ◌≤◌, max}
use mathlib.Core.Path.{◌≡◌, refl, sym, ap, ◌∙◌}
use mathlib.Core.Logic.{◌≢◌, ◌↔◌, ◌⊎◌, inl, inr, ⊎_elim}
use mathlib.Core.Bool.{Bool, true, false, false≢true}
use mathlib.Core.List.{List, [], ◌∷◌}
use lib.ListN.{length, get_or, take, length-append}
use lib.Seq.{length-take-le, get_or-take}
use native.Mathlib.Omega.{arith}
use native.Mathlib.Decide.{dec_lt}
use Rattle.sets.specs.Bit.{bit, Has}
use Rattle.sets.specs.Lists.{peek}
use Rattle.tables.specs.Layout.{terminals}
use Rattle.machine.specs.Checks.{closed_ok, refusal_of, restricted_refusal}
use Rattle.machine.specs.Stops.{Allowed, Stops, accepted_here, wrong_here, no_steps, list_full, broken_here, stack_full}
use Rattle.machine.specs.Exploration.{Explored, Cut, Offer}
use Rattle.machine.specs.Report.{Report, numbers_of, Reading}
use Rattle.machine.specs.Faithful.{Reports, Faithful}
use Rattle.machine.specs.Restricted.{Open, OpenLine, FirstClosed, OpenStops, closed_here, as_ever, OpenOffer, OpenReports, RestrictedFaithful}
use Rattle.machine.specs.Compared.{SameEnd, alike, narrowed, relieved, EndsAlike, passed_of, Stopped, wrong, wrong_unknown, steps_out, stack_out, list_out, broken, Earlier, EndsBy, at_closed, earlier}
use Rattle.machine.specs.ComputedRun.{Machine, run, start, reading, restricted_reading}
use Rattle.machine.proofs.Checked.{Passed, taken, taken_passes}
use Rattle.machine.proofs.MaskedLaws.{masked_taken}
use Rattle.machine.proofs.LrMachineLaws.{Config, conf, listed, Path, own_steps}
use Rattle.machine.proofs.Shifts.{behind_line, Sound, start_sound, path_sound}
use Rattle.machine.proofs.Settles.{unread}
use Rattle.machine.proofs.Areas.{Held, held, Leads, held_start, follows}
use Rattle.machine.proofs.Explorations.{run_on}
use Rattle.machine.proofs.ReadsLaws.{ends_there, some_report, only_reading, faithful}
use Rattle.machine.proofs.ReportLaws.{Shown, as_is, in_place, number_is, count_is, listed_is}
use Rattle.machine.proofs.OpenPaths.{open_none, open_more, ahead, Passes, passes_open, open_forget, open_next}
use Rattle.machine.proofs.OpenOffers.{no_accept}
use Rattle.machine.proofs.RestrictedLaws.{same_line, line_taken, as_faithful, restricted_faithful}

-- ---- closed terminals of a line

module _ (closed : ℕ) where
  closed_or_open : (m : ℕ) → Has closed m ⊎ Open closed m
  closed_or_open m = go (bit closed m) refl
    where
      go : (b : Bool) → bit closed m ≡ b → Has closed m ⊎ Open closed m
      go true e = inl e
      go false e = inr (λ h. false≢true (sym e ∙ h))

  -- a line has no closed terminal, or a first one
  pub first_closed : (l : List ℕ) → OpenLine closed l ⊎ ((place : ℕ) × FirstClosed closed l place)
  first_closed [] = inl (open_none closed)
  first_closed (a ∷ l) = go (closed_or_open a) (first_closed l)
    where
      go : Has closed a ⊎ Open closed a → OpenLine closed l ⊎ ((place : ℕ) × FirstClosed closed l place) → OpenLine closed (a ∷ l) ⊎ ((place : ℕ) × FirstClosed closed (a ∷ l) place)
      go (inl h) _ = inr (0, record { inside = omega arith; before = open_none closed; there = h })
      go (inr o) (inl u) = inl (open_more closed a l o u)
      go (inr o) (inr (place, f)) = inr (suc place, record { inside = omega (arith, f.inside); before = open_more closed a (take place l) o f.before; there = f.there })

  -- a closed terminal stands at or behind a place that has none before it
  not_before : (l : List ℕ) (i j : ℕ) → i ≤ length l → OpenLine closed (take i l) → Has closed (get_or l j 0) → i ≤ j
  not_before l i j h u c = go (dec_lt j i)
    where
      go : Dec (j < i) → i ≤ j
      go (yes b) = absurd (u j (rw (length-take-le i l h) b) (rw (get_or-take i l j 0 b) c))
      go (no b) = omega (arith, b)

-- ---- what both report

module _ {t : List ℕ} {closed a k : ℕ} where
  -- behind one line
  same_offer : {line : List ℕ} {v w : ℕ} → Offer t a k line v → OpenOffer t closed a k line w → (m : ℕ) → Has w m ↔ (Has v m × Open closed m)
  same_offer p c m = (
    λ h. let z = (c.members m).0 h in ((p.members m).1 (z.0, z.2), z.1),
    λ z. let y = (p.members m).0 z.0 in (c.members m).1 (y.0, z.1, y.1),
  )

  -- what is cut short is closed where no open terminal is cut short
  only_closed : {line : List ℕ} {w : ℕ} → OpenOffer t closed a k line w → (m n : ℕ) → m < terminals t → Explored t a k line m n → Cut n → Has closed m
  only_closed c m n h e b = ⊎_elim (λ (z : Has closed m). z) (λ (o : Open closed m). absurd (c.uncut m n h o e b)) (closed_or_open closed m)

  module _ {l : List ℕ} {steps : ℕ} where
    same_end : {c : Config} {n : ℕ} {p r : Report} → Reports t l a k steps c n p → OpenReports t closed l a k steps c n r → SameEnd t closed l a k p r
    same_end (Reports.counts n ne) (OpenReports.counts _ _) = alike n _ _ _
    same_end (Reports.counts n ne) (OpenReports.expects _ _ _ _) = absurd (ne refl)
    same_end (Reports.counts n ne) (OpenReports.unknown _ _ _) = absurd (ne refl)
    same_end (Reports.expects _ _ _ _) (OpenReports.counts n ne) = absurd (ne refl)
    same_end (Reports.unknown _ _ _) (OpenReports.counts n ne) = absurd (ne refl)
    same_end (Reports.expects {x = x} u v e o) (OpenReports.expects u' w e' o') =
        let z = same_line u u' x e e' in
        rw z (narrowed (same_offer (rw z at o) o'))
    same_end (Reports.expects {x = x} u v e o) (OpenReports.unknown u' e' s) =
        let z = same_line u u' x e e' in
        absurd ((rw z at o).uncut s.terminal s.number s.below s.ends s.cut)
    same_end (Reports.unknown {x = x} u e s) (OpenReports.expects u' w e' o') =
        let z = same_line u u' x e e' in
        let y = line_taken u' x e' in
        rw z (relieved {place = length u'} {word = w} (rw y (only_closed o')) (rw y o'))
    same_end (Reports.unknown {x = x} u e s) (OpenReports.unknown u' e' s') =
        let z = same_line u u' x e e' in
        let y = line_taken u' x e' in
        rw z (SameEnd.unknown {place = length u'} (rw y s'))

-- ---- how a reading ends, and how far it comes

-- 31 or 46, with the position before what is ahead
wrong_there : {t l : List ℕ} {closed a k steps : ℕ} {c : Config} {n : ℕ} {r : Report} → OpenReports t closed l a k steps c n r → n ≡ 31
    → ((get_or (numbers_of r) 0 0 ≡ 31) ⊎ (get_or (numbers_of r) 0 0 ≡ 46)) × (get_or (numbers_of r) 4 0 + length (ahead c) ≡ length l)
wrong_there (OpenReports.counts n ne) z = absurd (ne z)
wrong_there (OpenReports.expects {x = x} u w e o) _ = (inl refl, sym (length-append u x) ∙ ap length e)
wrong_there (OpenReports.unknown {x = x} u e s) _ = (inr refl, sym (length-append u x) ∙ ap length e)

stopped_at : {t : List ℕ} {b : Allowed} {c : Config} {n i : ℕ} → Stops t b c n → n ≢ 0 → Shown n i → Stopped i
stopped_at (accepted_here _ _) ne s = absurd (ne refl)
stopped_at (wrong_here _) ne as_is = wrong
stopped_at (wrong_here _) ne in_place = wrong_unknown
stopped_at (no_steps _ _) ne as_is = steps_out
stopped_at (list_full _ _ _) ne as_is = list_out
stopped_at (broken_here _ _ _) ne as_is = broken
stopped_at (stack_full _ _ _ _) ne as_is = stack_out

-- then nothing is accepted
not_accepted : {n i : ℕ} → Stopped i → Shown n i → n ≢ 0
not_accepted wrong as_is z = omega arith
not_accepted wrong_unknown as_is z = omega arith
not_accepted wrong_unknown in_place z = omega arith
not_accepted steps_out as_is z = omega arith
not_accepted stack_out as_is z = omega arith
not_accepted list_out as_is z = omega arith
not_accepted broken as_is z = omega arith

-- each step passes a terminal or lists a production
each_step : {t l st li : List ℕ} {n most : ℕ} {m : Machine} {c : Config} → Held t l st li n most m c → n - listed c + unread c ≡ length l
each_step (held h) = omega (arith, h.made, h.spent, h.many, h.place)

-- a run does not end before a machine to which it comes
no_nearer : {t l st li : List ℕ} {n most : ℕ} {m : Machine} {c : Config} (a left : ℕ) → Held t l st li n most m c → run t l a (start st li) ≡ run t l left m
    → length l ≤ (run t l a (start st li)).final.position + unread c
no_nearer {t} {l} {m = m} a left (held h) e = let b = run_on t l left m in rw e (omega (arith, h.place, b))

module _ {t l st li : List ℕ} (pa : Passed t l (length st)) where
  -- the run along a path from the start
  along : {steps most : ℕ} {c : Config} → Path t steps most (conf (0 ∷ []) l []) c → most ≤ length st → listed c ≤ length li
      → Leads t l st li (0 + steps) (max 1 most) (start st li) steps c
  along path within room = follows pa path (held_start st li pa) (omega (arith, within, pa.places)) room

  module _ {se : List ℕ} {a : ℕ} {r : Reading} (f : Faithful t l st li se a r) where
    -- the terminals that a reading has passed, where it does not accept
    passed_is : f.number ≢ 0 → passed_of r + length f.ahead ≡ length l
    passed_is ne =
        let z : 0 + f.steps - length f.productions + length f.ahead ≡ length l = each_step (along f.path f.within f.room).holds in
        let own = none f.number ne in
        omega (arith, z, own, count_is f, listed_is f)
      where
        none : (n : ℕ) → n ≢ 0 → own_steps n ≡ 0
        none zero ne = absurd (ne refl)
        none (suc n) ne = refl

    -- it comes as far as any path within its areas and its step limit
    as_far : {steps most : ℕ} {c : Config} (left : ℕ) → Path t steps most (conf (0 ∷ []) l []) c → most ≤ length st → listed c ≤ length li → steps + left ≡ a → length f.ahead ≤ unread c
    as_far left path within room budget =
        let w = along path within room in
        let v = along f.path f.within f.room in
        let far = no_nearer a left w.holds (rw budget at (w.runs left)) in
        let near = ends_there t l st li a pa v.holds f.why (rw f.budget at (v.runs f.left)) in
        omega (arith, far, near)

-- ---- a choir's reading beside the publisher's

module _ {t : List ℕ} {closed : ℕ} {l st li se : List ℕ} {a : ℕ} (e : refusal_of t l (length st) (length se) ≡ 0) (ok : closed_ok t closed ≡ true) {r : Reading}
    (f : RestrictedFaithful t closed l st li se a r) where
  abbrev here : Config
  here = conf f.states f.ahead f.productions

  abbrev allowed : Allowed
  allowed = record { steps = f.left; stack = length st; list = length li }

  abbrev Told : ℕ → Type 0
  Told n = OpenReports t closed l a (length se) f.steps here n r.report

  abbrev Alike : Type 0
  Alike = EndsAlike t closed l a (length se) (reading t l st li se a) r

  passed : Passed t l (length st)
  passed = (taken t l (length st) (length se) e).passed

  path : Path t f.steps f.most (conf (0 ∷ []) l []) here
  path = open_forget f.path

  comes : Sound t l here
  comes = path_sound t l (length st) passed (start_sound t l (length st) passed) path

  -- where the choir's machine stops as ever, the publisher's stops there too
  stops_alike : {n : ℕ} → Stops t allowed here n → Told n → Alike
  stops_alike why told =
      let p = some_report t l st li se a e f.steps comes why in
      rw (← only_reading t l st li se a e (as_faithful f path why p.1)) (record { end = same_end p.1 told; stack = refl; list = refl; second = refl })

  alike_open : OpenLine closed l → Alike
  alike_open u = go f.why f.reported
    where
      go : {n : ℕ} → OpenStops t closed allowed here n → Told n → Alike
      go (closed_here h) told = absurd (open_next closed passed ok u comes h)
      go (as_ever o why) told = stops_alike why told

  -- the line that has been read, and the place behind it
  read : Passes closed (conf (0 ∷ []) l []) here
  read = passes_open f.path

  abbrev at : ℕ
  at = length read.line

  counted : at + length f.ahead ≡ length l
  counted = sym (length-append read.line f.ahead) ∙ ap length read.whole

  next_is : get_or l at 0 ≡ peek f.ahead
  next_is = ap (λ (y : List ℕ). get_or y at 0) (sym read.whole) ∙ behind_line read.line f.ahead

  module _ (place : ℕ) (first : FirstClosed closed l place) where
    not_past : at ≤ place
    not_past = not_before closed l at place (omega (arith, counted)) (rw (line_taken read.line f.ahead read.whole) read.free) first.there

    -- where the choir's reading stops before the place, so does the publisher's
    earlier_by : {n : ℕ} → at < place → Stops t allowed here n → Earlier (reading t l st li se a) place
    unfolding as_faithful
    earlier_by h why =
        let g = as_faithful f path why (some_report t l st li se a e f.steps comes why).1 in
        let ne = no_accept {a = allowed} passed comes (λ z. let w = ap length z in omega (arith, w, counted)) why in
        rw (← only_reading t l st li se a e g) (record { stopped = stopped_at why ne (number_is g); before = omega (arith, h, counted, passed_is passed g ne) })

    -- where the choir's comes to the place, the publisher's does not stop before
    not_earlier : at ≡ place → Earlier (reading t l st li se a) place → ⊥
    not_earlier h z =
        let g = faithful t l st li se a e in
        let p = passed_is passed g (not_accepted z.stopped (number_is g)) in
        let q = as_far passed g f.left path f.within f.room f.budget in
        omega (arith, h, counted, p, q, z.before)

    by_closed : EndsBy t closed l a (length se) place (reading t l st li se a) r
    by_closed = go f.why f.reported
      where
        go : {n : ℕ} → OpenStops t closed allowed here n → Told n → EndsBy t closed l a (length se) place (reading t l st li se a) r
        go (closed_here h) told =
            let b = not_before closed l place at (omega (arith, first.inside)) first.before (rw next_is h) in
            let w = wrong_there told refl in
            at_closed (not_earlier (omega (arith, b, not_past))) w.0 (omega (arith, w.1, counted, b, not_past))
        go (as_ever o why) told =
            let ne : at ≢ place = λ z. o (rw (← next_is, z) first.there) in
            earlier (earlier_by (omega (arith, ne, not_past)) why) (stops_alike why told)

module _ (t : List ℕ) (closed : ℕ) (l st li se : List ℕ) (a : ℕ) (e : restricted_refusal t closed l (length st) (length se) ≡ 0) where
  unrefused : refusal_of t l (length st) (length se) ≡ 0
  unrefused = taken_passes (masked_taken t closed l (length st) (length se) e).0

  allows : closed_ok t closed ≡ true
  allows = (masked_taken t closed l (length st) (length se) e).1

  -- "A choir's line without closed marks ends just as a publisher's does, apart from the offer and from a 46 that only a closed mark caused"
  pub ends_alike : OpenLine closed l → EndsAlike t closed l a (length se) (reading t l st li se a) (restricted_reading t closed l st li se a)
  ends_alike u = alike_open unrefused allows (restricted_faithful t closed l st li se a e) u

  -- "Otherwise it ends at the first closed mark, or earlier where the marks before it end in a wrong mark, a limit or 35"
  pub ends_by : (place : ℕ) → FirstClosed closed l place → EndsBy t closed l a (length se) place (reading t l st li se a) (restricted_reading t closed l st li se a)
  ends_by place h = by_closed unrefused allows (restricted_faithful t closed l st li se a e) place h
