-- The definition of the choir's reading has exactly one reading for every table, word of closed terminals, input, step limit and three areas: the computed one, which
-- is the publisher's over the table with 0 in the closed columns. With no closed terminal it is the publisher's over the table.
use Prim.Native.Nat.{ℕ, zero, suc, ◌<◌, ◌≤◌}
use mathlib.Core.Path.{◌≡◌, refl, sym, ap, ◌∙◌}
use mathlib.Core.Logic.{◌≢◌, ◌↔◌}
use mathlib.Core.Bool.{true}
use mathlib.Core.List.{List, [], ◌∷◌, ◌++◌, append_cancel_right}
use lib.ListN.{length, take, length-append}
use lib.Seq.{take_at}
use borrow.Author.Tests.{eq-eqb, ne_eqb}
use native.Mathlib.Omega.{arith}
use native.Mathlib.Decide.{ℕ_discrete}
use Rattle.sets.specs.Tests.{first_refusal}
use Rattle.sets.proofs.HasLaws.{has_none}
use Rattle.machine.specs.Checks.{input_ok, closed_ok, refusal_of, restricted_refusal}
use Rattle.machine.specs.Exploration.{Offer, CutShort}
use Rattle.machine.specs.Report.{Report, refused, Reading}
use Rattle.machine.specs.Faithful.{Stops, Reports, counts, expects, unknown, Faithful}
use Rattle.machine.specs.Restricted.{OpenLine, OpenOffer, OpenCutShort, OpenReports, RestrictedFaithful, RestrictedReads, refuses, reads}
use Rattle.machine.specs.ComputedRun.{Machine, expected_at, unknown_at, wrong_at, reading, masked, restricted_reading}
use Rattle.machine.proofs.Checked.{Checked, Passed}
use Rattle.machine.proofs.MaskedLaws.{closed_zero, masked_terminals, masked_input, masked_checked, masked_taken}
use Rattle.machine.proofs.LrMachineLaws.{Config, conf, Path}
use Rattle.machine.proofs.Shifts.{Sound, start_sound, path_sound}
use Rattle.machine.proofs.Explorations.{input_front}
use Rattle.machine.proofs.ReportLaws.{stack_long, list_long, second_long}
use Rattle.machine.proofs.ReadsLaws.{known_is, unknown_is, unrefused, refused_is, only_reading, faithful}
use Rattle.machine.proofs.OpenPaths.{Passes, passes_open, open_forget, mask_path, unmask_path, mask_stops, unmask_stops}
use Rattle.machine.proofs.OpenOffers.{open_stops, mask_cut, unmask_cut, mask_offer, unmask_offer}

-- ---- the line before what is ahead

pub same_line : {l : List ℕ} (u v x : List ℕ) → u ++ x ≡ l → v ++ x ≡ l → u ≡ v
same_line u v x e f = append_cancel_right u v x (e ∙ sym f)

pub line_taken : {l : List ℕ} (line x : List ℕ) → line ++ x ≡ l → take (length line) l ≡ line
line_taken line x e = ap (take (length line)) (sym e) ∙ take_at line x (length line) refl

-- ---- an offer of open terminals is what is computed with 0 in the closed columns

module _ {t : List ℕ} {closed : ℕ} (l : List ℕ) (a k : ℕ) (ch : Checked t) (ok : closed_ok t closed ≡ true) (input : input_ok t l ≡ true) (places : 0 < k) (m : Machine)
    (short : m.position ≤ length l) (free : OpenLine closed (take m.position l)) where
  pub open_known : (word : ℕ) → OpenOffer t closed a k (take m.position l) word → wrong_at (masked closed t) l a k m ≡ expected_at word m
  open_known word o =
      known_is (masked closed t) l a k (masked_checked t closed ch) (masked_input t closed l ∙ input) places m short word
      (mask_offer t closed a k ch ok places (take m.position l) (input_front t m.position l short input) free o)

  pub open_unknown : OpenCutShort t closed a k (take m.position l) → wrong_at (masked closed t) l a k m ≡ unknown_at m
  open_unknown c =
      unknown_is (masked closed t) l a k (masked_checked t closed ch) (masked_input t closed l ∙ input) places m short
      (mask_cut t closed a k ch ok places (take m.position l) (input_front t m.position l short input) free c)

-- ---- the choir's reading is the publisher's with 0 in the closed columns

module _ (t : List ℕ) (closed : ℕ) (l : List ℕ) (a k : ℕ) {n : ℕ} (pa : Passed t l n) (ok : closed_ok t closed ≡ true) (places : 0 < k) where
  -- what a reading has passed has no closed terminal
  module _ {qs x out : List ℕ} (ps : Passes closed (conf (0 ∷ []) l []) (conf qs x out)) (line : List ℕ) (e : line ++ x ≡ l) where
    line_open : OpenLine closed line
    line_open = rw (same_line line ps.line x e ps.whole) ps.free

    line_ok : input_ok t line ≡ true
    line_ok =
        let i = sym (length-append line x) ∙ ap length e in
        rw (line_taken line x e) at (input_front t (length line) l (omega (arith, i)) pa.input_passed)

  module _ {steps : ℕ} where
    mask_report : {c : Config} {i : ℕ} {r : Report} → Passes closed (conf (0 ∷ []) l []) c → OpenReports t closed l a k steps c i r → Reports (masked closed t) l a k steps c i r
    mask_report ps (OpenReports.counts i ne) = counts i ne
    mask_report ps (OpenReports.expects line word e o) =
        rw (← masked_terminals t closed)
        (expects line word e (mask_offer t closed a k pa.table ok places line (line_ok ps line e) (line_open ps line e) o))
    mask_report ps (OpenReports.unknown line e c) = unknown line e (mask_cut t closed a k pa.table ok places line (line_ok ps line e) (line_open ps line e) c)

    unmask_report : {c : Config} {i : ℕ} {r : Report} → Passes closed (conf (0 ∷ []) l []) c → Reports (masked closed t) l a k steps c i r → OpenReports t closed l a k steps c i r
    unmask_report ps (counts i ne) = OpenReports.counts i ne
    unmask_report ps (expects line word e o) =
        rw (masked_terminals t closed)
        (OpenReports.expects line word e (unmask_offer t closed a k pa.table ok places line (line_ok ps line e) (line_open ps line e) o))
    unmask_report ps (unknown line e c) = OpenReports.unknown line e (unmask_cut t closed a k pa.table ok places line (line_ok ps line e) (line_open ps line e) c)

-- a choir's reading as one over another table, by its path, its stop and its report there
unfoldable pub as_faithful : {t u l st li se : List ℕ} {closed a n : ℕ} {p : Report} {r : Reading} (f : RestrictedFaithful t closed l st li se a r)
    → Path u f.steps f.most (conf (0 ∷ []) l []) (conf f.states f.ahead f.productions)
    → Stops u (record { steps = f.left; stack = length st; list = length li }) (conf f.states f.ahead f.productions) n
    → Reports u l a (length se) f.steps (conf f.states f.ahead f.productions) n p
    → Faithful u l st li se a (record { report = p; stack = r.stack; list = r.list; second = r.second })
as_faithful {n = n} f path why reported = record {
  steps = f.steps;
  most = f.most;
  states = f.states;
  ahead = f.ahead;
  productions = f.productions;
  path = path;
  within = f.within;
  room = f.room;
  left = f.left;
  budget = f.budget;
  number = n;
  why = why;
  reported = reported;
  stacked = f.stacked;
  listing = f.listing;
  cleared = f.cleared;
}

module _ (t : List ℕ) (closed : ℕ) (l st li se : List ℕ) (a : ℕ) where
  module _ (e : restricted_refusal t closed l (length st) (length se) ≡ 0) where
    ok : closed_ok t closed ≡ true
    ok = (masked_taken t closed l (length st) (length se) e).1

    pa : Passed t l (length st)
    pa = (masked_taken t closed l (length st) (length se) e).0.passed

    places : 0 < length se
    places = omega (arith, pa.places, (masked_taken t closed l (length st) (length se) e).0.second)

    begins : Sound t l (conf (0 ∷ []) l [])
    begins = start_sound t l (length st) pa

    mask_faithful : {r : Reading} → RestrictedFaithful t closed l st li se a r → Faithful (masked closed t) l st li se a r
    mask_faithful f =
        as_faithful f (mask_path closed pa ok begins f.path) (mask_stops closed pa ok (path_sound t l (length st) pa begins (open_forget f.path)) f.why)
        (mask_report t closed l a (length se) pa ok places (passes_open f.path) f.reported)

    unmask_faithful : {r : Reading} → Faithful (masked closed t) l st li se a r → RestrictedFaithful t closed l st li se a r
    unmask_faithful f =
        let p = unmask_path closed pa ok begins f.path in
        let s = path_sound t l (length st) pa begins (open_forget p) in
        record {
          steps = f.steps;
          most = f.most;
          states = f.states;
          ahead = f.ahead;
          productions = f.productions;
          path = p;
          within = f.within;
          room = f.room;
          left = f.left;
          budget = f.budget;
          number = f.number;
          why = unmask_stops closed pa ok s f.why;
          reported = unmask_report t closed l a (length se) pa ok places (passes_open p) f.reported;
          stacked = f.stacked;
          listing = f.listing;
          cleared = f.cleared;
        }

    masked_unrefused : refusal_of (masked closed t) l (length st) (length se) ≡ 0
    masked_unrefused = (masked_taken t closed l (length st) (length se) e).2

    masked_is : reading (masked closed t) l st li se a ≡ restricted_reading t closed l st li se a
    unfolding restricted_reading
    masked_is = unrefused (masked closed t) l st li se a masked_unrefused _ refl ∙ rw (eq-eqb (restricted_refusal t closed l (length st) (length se)) 0 e) refl

    pub restricted_faithful : RestrictedFaithful t closed l st li se a (restricted_reading t closed l st li se a)
    restricted_faithful = unmask_faithful (rw masked_is at (faithful (masked closed t) l st li se a masked_unrefused))

    pub only_restricted : {r : Reading} → RestrictedFaithful t closed l st li se a r → r ≡ restricted_reading t closed l st li se a
    only_restricted f = only_reading (masked closed t) l st li se a masked_unrefused (mask_faithful f) ∙ masked_is

    -- the areas keep their lengths
    pub restricted_long : {r : Reading} → RestrictedFaithful t closed l st li se a r
        → (length r.stack ≡ length st) × (length r.list ≡ length li) × (length r.second ≡ length se)
    restricted_long f = let g = mask_faithful f in (stack_long g, list_long g, second_long g)

  pub restricted_refused : (n : ℕ) → restricted_refusal t closed l (length st) (length se) ≡ n → n ≢ 0
      → restricted_reading t closed l st li se a ≡ record { report = refused n; stack = st; list = li; second = se }
  unfolding restricted_reading
  restricted_refused n e ne = rw (e, ne_eqb n 0 ne)

  -- ---- the whole: refused or read

  reads_one : {r : Reading} → RestrictedReads t closed l st li se a r → r ≡ restricted_reading t closed l st li se a
  reads_one (refuses {n} e ne) = sym (restricted_refused n e ne)
  reads_one (reads e f) = only_restricted e f

  pub restricted_reads : RestrictedReads t closed l st li se a (restricted_reading t closed l st li se a)
  restricted_reads = go (ℕ_discrete (restricted_refusal t closed l (length st) (length se)) 0)
    where
      go : Dec (restricted_refusal t closed l (length st) (length se) ≡ 0) → RestrictedReads t closed l st li se a (restricted_reading t closed l st li se a)
      go (yes e) = reads e (restricted_faithful e)
      go (no n) = rw (restricted_refused (restricted_refusal t closed l (length st) (length se)) refl n) (refuses refl n)

  pub restricted_exactly : (r : Reading) → RestrictedReads t closed l st li se a r ↔ (r ≡ restricted_reading t closed l st li se a)
  restricted_exactly r = (λ h. reads_one h, λ e. rw e restricted_reads)

-- ---- the word 0 closes nothing

pub none_offer : {t line : List ℕ} {a k word : ℕ} → OpenOffer t 0 a k line word → Offer t a k line word
none_offer o = record { members = λ m. (λ h. let z = (o.members m).0 h in (z.0, z.2), λ z. (o.members m).1 (z.0, has_none m, z.1)); uncut = λ m n b x c. o.uncut m n b (has_none m) x c }

pub none_cut : {t line : List ℕ} {a k : ℕ} → OpenCutShort t 0 a k line → CutShort t a k line
none_cut c = record { terminal = c.terminal; number = c.number; below = c.below; ends = c.ends; cut = c.cut }

none_report : {t l : List ℕ} {a k steps i : ℕ} {c : Config} {r : Report} → OpenReports t 0 l a k steps c i r → Reports t l a k steps c i r
none_report (OpenReports.counts i ne) = counts i ne
none_report (OpenReports.expects line word e o) = expects line word e (none_offer o)
none_report (OpenReports.unknown line e c) = unknown line e (none_cut c)

none_faithful : {t l st li se : List ℕ} {a : ℕ} {r : Reading} → RestrictedFaithful t 0 l st li se a r → Faithful t l st li se a r
none_faithful f = as_faithful f (open_forget f.path) (open_stops (has_none _) f.why) (none_report f.reported)

none_refusal : (t l : List ℕ) (n k : ℕ) → restricted_refusal t 0 l n k ≡ refusal_of t l n k
unfolding restricted_refusal
none_refusal t l n k = rw (closed_zero t) (same (refusal_of t l n k))
  where
    same : (i : ℕ) → first_refusal i 0 ≡ i
    same zero = refl
    same (suc i) = refl

-- so the choir's reading is then the publisher's
pub restricted_none : (t l st li se : List ℕ) (a : ℕ) → restricted_reading t 0 l st li se a ≡ reading t l st li se a
restricted_none t l st li se a = go (ℕ_discrete (refusal_of t l (length st) (length se)) 0)
  where
    go : Dec (refusal_of t l (length st) (length se) ≡ 0) → restricted_reading t 0 l st li se a ≡ reading t l st li se a
    go (yes e) = only_reading t l st li se a e (none_faithful (restricted_faithful t 0 l st li se a (none_refusal t l (length st) (length se) ∙ e)))
    go (no n) =
        restricted_refused t 0 l st li se a (refusal_of t l (length st) (length se)) (none_refusal t l (length st) (length se)) n
        ∙ sym (refused_is t l st li se a (refusal_of t l (length st) (length se)) refl n)
