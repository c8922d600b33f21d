-- Demand 3 for a choir's reading, proved for every table that means the grammar.
use Prim.Native.Nat.{ℕ, suc, ◌+◌, ◌<◌}
use mathlib.Core.Path.{◌≡◌, refl, sym, ap, ◌∙◌}
use mathlib.Core.Logic.{◌≢◌}
use mathlib.Core.Bool.{Bool, true, false}
use mathlib.Core.List.{List, [], ◌∷◌, ◌++◌, append-nil}
use lib.ListN.{length, take, get_or, length-append}
use lib.Seq.{take_at, take_all, get_or_at}
use native.Mathlib.Omega.{arith}
use Rattle.grammar.specs.Grammar.{Grammar, Formed, Symbols, none, more}
use Rattle.lr.proofs.ItemLaws.{AllProductive}
use Rattle.lr.proofs.ErrorPosition.{Begins, take_append_one}
use Rattle.sets.specs.Bit.{bit, Has, count}
use Rattle.sets.specs.Lists.{peek}
use Rattle.sets.specs.Tests.{unless}
use Rattle.tables.specs.Layout.{terminals}
use Rattle.machine.specs.Checks.{refusal_of, closed_ok, restricted_refusal, RestrictedRefusal, as_ever, closed_wrong}
use Rattle.machine.specs.Stops.{Allowed}
use Rattle.machine.specs.Restricted.{Open, OpenLine, FirstClosed, OpenPath, OpenStops, OpenOffer, OpenReports, counts, expects, unknown, RestrictedFaithful}
use Rattle.machine.specs.Report.{Report}
use Rattle.machine.specs.ComputedRun.{restricted_reading}
use Rattle.machine.proofs.LrMachineLaws.{conf}
use Rattle.machine.proofs.ReportLaws.{Reading, number_of, position_of, productions_of, expected_of, part, Shown, as_is, in_place, shown_is}
use Rattle.machine.proofs.RefusalLaws.{first_is}
use Rattle.machine.proofs.MaskedLaws.{open_end}
use Rattle.machine.proofs.OpenPaths.{open_behind, passes_open, open_forget}
use Rattle.machine.proofs.RestrictedLaws.{line_taken, restricted_faithful, restricted_refused}
use Rattle.claim.specs.RestrictedClaim.{at_closed, RestrictedOffer, RestrictedDemand3}
use Rattle.claim.proofs.Means.{Limits, TableMeans}
use Rattle.claim.proofs.Refusals.{refusals}
use Rattle.claim.proofs.Endings.{ended, all_read, read_begins}
use Rattle.claim.proofs.Offers.{restricted_offer}
use Rattle.claim.proofs.Answers.{Plain, plain, Offers, refusal, wrong, as_publisher, Asked, stopped, passed, asked}

-- what a line of terminals begins with are terminals
symbols_front : {n : ℕ} (u v : List ℕ) → Symbols n (u ++ v) → Symbols n u
symbols_front [] v m = none
symbols_front (a ∷ u) v (more h k m) = more h k (symbols_front u v m)

-- ---- the report

-- the line before the position, and what is ahead, are the input
record Located (t : List ℕ) (closed : ℕ) (l : List ℕ) (a k : ℕ) (x : List ℕ) (r : Report) : Type 0 where
  line : List ℕ
  whole : line ++ x ≡ l
  place : part r 4 ≡ length line
  -- 31 carries the offer behind that line
  offer : part r 0 ≡ 31 → OpenOffer t closed a k line (part r 5) × (part r 6 ≡ count (bit (part r 5)) (terminals t))

-- the parts of the report of an end
record Reported (t : List ℕ) (closed : ℕ) (l : List ℕ) (a k : ℕ) (x out : List ℕ) (n : ℕ) (r : Report) : Type 0 where
  number : Shown n (part r 0)
  listed : part r 3 ≡ length out
  located : n ≡ 31 → Located t closed l a k x r

reported : {t l : List ℕ} {closed a k steps n : ℕ} {qs x out : List ℕ} {r : Report} → OpenReports t closed l a k steps (conf qs x out) n r → Reported t closed l a k x out n r
reported (counts n ne) = record { number = as_is; listed = refl; located = λ z. absurd (ne z) }
reported (expects u w e o) = record { number = as_is; listed = refl; located = λ _. record { line = u; whole = e; place = refl; offer = λ _. (o, refl) } }
reported (unknown u e s) = record { number = in_place; listed = refl; located = λ _. record { line = u; whole = e; place = refl; offer = λ z. absurd (omega arith) } }

-- ---- 50 comes behind the publisher's refusals

module _ (t : List ℕ) (closed : ℕ) (l : List ℕ) (n k : ℕ) where
  refused_as_ever : {i : ℕ} → refusal_of t l n k ≡ i → i ≢ 0 → restricted_refusal t closed l n k ≡ i
  unfolding restricted_refusal
  refused_as_ever e h = first_is _ e h

  refused_closed : {b : Bool} → refusal_of t l n k ≡ 0 → closed_ok t closed ≡ b → restricted_refusal t closed l n k ≡ unless b 50 0
  unfolding restricted_refusal
  refused_closed e h = rw (e, h)

module _ (g : Grammar) (f : Formed g) (pr : AllProductive g) (li : Limits g) (t : List ℕ) (tm : TableMeans g t) (closed : ℕ) where
  -- ---- how a choir's run ends

  module _ {l : List ℕ} (m : Symbols g.terminals l) {steps most : ℕ} {qs x out : List ℕ} (op : OpenPath t closed steps most (conf (0 ∷ []) l []) (conf qs x out)) where
    -- a closed terminal is named where it stands; the end marker is open
    closed_place : Open closed 0 → Has closed (peek x) → (i : ℕ) → i + length x ≡ length l → FirstClosed closed l i × Begins g (take i l)
    closed_place = go x (passes_open op).line (passes_open op).whole (passes_open op).free (read_begins g f pr li t tm m (open_forget op) (passes_open op).line (passes_open op).whole)
      where
        go : (x line : List ℕ) → line ++ x ≡ l → OpenLine closed line → Begins g line → Open closed 0 → Has closed (peek x) → (i : ℕ) → i + length x ≡ length l
            → FirstClosed closed l i × Begins g (take i l)
        go [] line w o b z h i e = absurd (z h)
        go (a ∷ x) line w o b z h i e =
            let k = sym (length-append line (a ∷ x)) ∙ ap length w in
            let ei : length line ≡ i = omega (arith, e, k) in
            let et : take i l ≡ line = rw (← w) (take_at line (a ∷ x) i ei) in
            let h' : Has closed (get_or l i 0) = rw (← w, get_or_at line a x 0 i ei) h in
            (record { inside = omega (arith, k, ei); before = rw et o; there = h' }, rw et b)

    -- where the next terminal is open too, so is the line with it, and at the end the whole input
    open_place : Open closed (peek x) → (i : ℕ) → i + length x ≡ length l → OpenLine closed (take (suc i) l)
    open_place = go x (passes_open op).line (passes_open op).whole (passes_open op).free
      where
        go : (x line : List ℕ) → line ++ x ≡ l → OpenLine closed line → Open closed (peek x) → (i : ℕ) → i + length x ≡ length l → OpenLine closed (take (suc i) l)
        go [] line w h o i e =
            let k = sym (length-append line []) ∙ ap length w in
            rw (← w, append-nil, take_all (suc i) line (omega (arith, e, k))) h
        go (a ∷ x) line w h o i e =
            let k = sym (length-append line (a ∷ x)) ∙ ap length w in
            let ei : i ≡ length line = omega (arith, e, k) in
            rw (← w, ei, take_append_one line a x) (open_behind closed line a h o)

    -- where nothing is ahead all of the input is open
    all_open : x ≡ [] → OpenLine closed l
    all_open e = let p = passes_open op in rw (sym (append-nil p.line) ∙ ap (λ (y : List ℕ). p.line ++ y) (sym e) ∙ p.whole) at p.free

  -- ---- the reading

  module _ {l st la se : List ℕ} {a : ℕ} {r : Reading} (m : Symbols g.terminals l) (h : 0 < length se) (z : Open closed 0) (fd : RestrictedFaithful t closed l st la se a r) where
    parts : Reported t closed l a (length se) fd.ahead fd.productions fd.number r.report
    parts = reported fd.reported

    -- the offer is the grammar's, of open terminals
    offers_of : Offers g closed l r
    offers_of = record { offers = λ e. offered (at e) e; many = λ e. ((at e).offer e).1 ∙ ap (count (bit (expected_of r))) tm.terminals_are }
      where
        at : number_of r ≡ 31 → Located t closed l a (length se) fd.ahead r.report
        at e = parts.located (shown_is parts.number e (λ z. omega arith))

        offered : Located t closed l a (length se) fd.ahead r.report → number_of r ≡ 31 → RestrictedOffer g closed (take (position_of r) l) (expected_of r)
        offered w e =
            rw (w.place, line_taken w.line fd.ahead w.whole)
            (restricted_offer g f pr li t tm (symbols_front w.line fd.ahead (rw w.whole m)) h z (w.offer e).0)

    productions_are : productions_of r ≡ fd.productions
    productions_are = rw (parts.listed, fd.listing) (take_at fd.productions _ _ refl)

    position_is : fd.number ≡ 31 → position_of r + length fd.ahead ≡ length l
    position_is e =
        let w = parts.located e in
        let k = sym (length-append w.line fd.ahead) ∙ ap length w.whole in
        omega (arith, w.place, k)

    read : RestrictedDemand3 g closed l r
    read = go fd.why parts.number position_is
      where
        go : {b : Allowed} {n : ℕ} → OpenStops t closed b (conf fd.states fd.ahead fd.productions) n → Shown n (number_of r) → (n ≡ 31 → position_of r + length fd.ahead ≡ length l)
            → RestrictedDemand3 g closed l r
        go (OpenStops.closed_here c) w e =
            let p = closed_place m fd.path z c (position_of r) (e refl) in
            wrong g closed l r w (λ s. s.1 (position_of r) p.0.inside p.0.there) (at_closed p.0 p.1) offers_of
        go (OpenStops.as_ever o v) w e =
            as_publisher g closed l r w refl productions_are (ended g f pr li t tm m (open_forget fd.path) v (position_of r) e)
            (λ n. all_open m fd.path (all_read g f pr li t tm m (open_forget fd.path) (rw n at v))) (λ n. open_place m fd.path o (position_of r) (e n)) offers_of

  module _ (l st la se : List ℕ) (a : ℕ) where
    stops : {n : ℕ} → restricted_refusal t closed l (length st) (length se) ≡ n → RestrictedRefusal n → Plain n → RestrictedDemand3 g closed l (restricted_reading t closed l st la se a)
    stops {n} e h p = refusal g closed l (restricted_reading t closed l st la se a) (ap number_of (restricted_refused t closed l st la se a n e p.no_accept)) p h

    -- the claim
    pub restricted_demand_3 : RestrictedDemand3 g closed l (restricted_reading t closed l st la se a)
    restricted_demand_3 = go (asked g f pr li t tm (refusals g f pr li t tm l (length st) (length se))) refl
      where
        test : Symbols g.terminals l → 0 < length se → refusal_of t l (length st) (length se) ≡ 0 → (b : Bool) → closed_ok t closed ≡ b
            → RestrictedDemand3 g closed l (restricted_reading t closed l st la se a)
        test m h e true k = read m h (open_end t closed k) (restricted_faithful t closed l st la se a (refused_closed t closed l (length st) (length se) e k))
        test m h e false k =
            stops (refused_closed t closed l (length st) (length se) e k) closed_wrong (plain (λ z. elim z [ ]) (λ z. omega arith) (λ z. omega arith) (λ z. omega arith))

        go : {n : ℕ} → Asked g f pr li t tm l (length st) (length se) n → refusal_of t l (length st) (length se) ≡ n → RestrictedDemand3 g closed l (restricted_reading t closed l st la se a)
        go (stopped h p) e = stops (refused_as_ever t closed l (length st) (length se) e p.no_accept) (as_ever h) p
        go (passed m k s) e = test m (omega arith) e (closed_ok t closed) refl
