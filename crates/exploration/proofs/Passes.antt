-- What the loop of `pass` keeps, and the laws of its parts and ways out, in the values that the code has.
use Prim.Native.Nat.{ℕ, zero, suc, ◌+◌, ◌-◌, ◌*◌, ◌^◌, ◌<◌, ◌≤◌}
use mathlib.Core.Path.{◌≡◌, refl, sym, ap, ◌∙◌}
use mathlib.Core.Bool.{Bool, true, false, false≢true}
use mathlib.Core.Logic.{◌≢◌, ⊎_elim}
use mathlib.Core.List.{List, [], ◌∷◌, ◌++◌}
use native.Mathlib.Omega.{arith}
use lib.ListN.{length, get_or}
use lib.Bits.{bit_or}
use Rattle.sets.specs.Bit.{bit, Has}
use Rattle.sets.specs.Lists.{peek}
use Rattle.sets.proofs.HasLaws.{has_none, has_or, or_has_l, or_has_r}
use Rattle.tables.specs.Layout.{states, terminals, productions, cell_of, reduction, accept}
use Rattle.tables.specs.declared.Shape.{Shape}
use Rattle.machine.specs.Stops.{Stops, accepted_here, wrong_here}
use Rattle.machine.specs.Exploration.{Comes, unlisted, Explored, shifts, Cut, no_steps_left, no_place_left}
use Rattle.machine.proofs.Checked.{shift_passed, reduce_passed}
use Rattle.machine.proofs.LrMachineLaws.{conf, Step, accepts, wrong}
use Rattle.unlisted_steps.specs.Spot.{Readable, Stands, Standing, Reduces}
use Rattle.unlisted_steps.specs.declared.Spot.{Spot}
use Rattle.machine.proofs.Shifts.{below_top}
use Rattle.std.specs.Prelude.{Result, Ok, Err}
use Rattle.unlisted_steps.specs.declared.Stop.{Stop}
use Rattle.exploration.specs.Reaches.{Reaches}
use Rattle.exploration.specs.Phases.{Short, no_steps, no_place, Found, Apart, Stuck, Decides, PassCut, behind_line}
use Rattle.exploration.specs.declared.Sorted.{Sorted}
use Rattle.exploration.proofs.Fresh.{alone, peek_alone, comes_step, stops_spent, stops_full, explored, cut_for}
use Rattle.exploration.proofs.Moves.{reduced, reduce_comes, reduce_stops}
use Rattle.exploration.proofs.Words.{lowest_member}
use Rattle.exploration.proofs.Cells.{accept_passed, cell_fits, cell_is}

-- the fresh readings of the group stand at the spot s, each with its terminal next; the other terminals of todo are found, left for later, or wrong
pub record Passing (t : List ℕ) (limit places : ℕ) (line : List ℕ) (todo : ℕ) (st : List ℕ) (s : Spot) (group found later : ℕ) : Type 0 where
  pub state : ℕ
  pub under : List ℕ
  pub listed : List ℕ
  pub long : length st ≡ places
  pub stands : Stands t st s state under
  pub comes : (m : ℕ) → Has group m → Comes t limit places (line ++ alone m) (conf (state ∷ under) (alone m) listed) s.left
  pub member : (m : ℕ) → Has group m → Has todo m
  pub offered : (m : ℕ) → Has found m → Has todo m × Explored t limit places line m 0
  pub behind : (m : ℕ) → Has later m → Has todo m × (j : ℕ) × (j < m) × Has todo j
  pub left_out : (m : ℕ) → Has todo m → (Has found m → ⊥) → (Has group m → ⊥) → (Has later m → ⊥) → Explored t limit places line m 31

pub passing_start : {t line st : List ℕ} {limit places : ℕ} {s : Spot} (todo : ℕ) → Reaches t limit places line st [] s → Passing t limit (length st) line todo st s todo 0 0
passing_start todo r = rw r.long (record {
  state = r.state;
  under = r.under;
  listed = r.listed;
  long = r.long;
  stands = r.stands;
  comes = λ m h. r.comes (alone m);
  member = λ m h. h;
  offered = λ m h. absurd (has_none m h);
  behind = λ m h. absurd (has_none m h);
  left_out = λ m h _ n _. absurd (n h);
})

-- the row that `sort` reads
abbrev row_of : List ℕ → Shape → Spot → ℕ → ℕ
row_of cs z s m = get_or cs (s.top * z.width + m) 0

not_empty : (m : ℕ) → m ≢ 0 → alone m ≢ []
not_empty zero n e = n refl
not_empty (suc m) n e = let z : ◌≡◌ {A = ℕ} 0 1 = cc in omega arith

module _ {t line cs st : List ℕ} {limit places todo : ℕ} {z : Shape} {s : Spot} {group found later : ℕ} (rd : Readable t cs z)
    (small : (m : ℕ) → Has todo m → m < terminals t) (p : Passing t limit places line todo st s group found later) where
  over : group ≡ 0 → Decides t limit places line todo found later
  over e = record { offered = p.offered; behind = p.behind; left_out = λ m h nf nl. p.left_out m h nf (λ g. has_none m (rw e at g)) nl }

  top_in : p.state < states t
  top_in = below_top p.stands.below

  -- what `sort` asks for
  pub sort_asks : (s.top * z.width + z.terminals ≤ length cs) × ((m : ℕ) → Has group m → m < z.terminals)
  sort_asks =
      let e = rd.shaped.terminals_are in
      let one = rd.checked.sizes.terminals_are.0 in
      let b = cell_fits rd p.state (terminals t - 1) top_in (omega arith) in
      (rw p.stands.top_is (omega (arith, e, b)), λ m h. rw e (small m (p.member m h)))

  row_is : (m : ℕ) → Has group m → row_of cs z s m ≡ cell_of t p.state m
  row_is m h = ap (λ (q : ℕ). get_or cs (q * z.width + m) 0) p.stands.top_is ∙ cell_is rd p.state m top_in (small m (p.member m h))

  cell : (m : ℕ) → Has group m → {a : ℕ} → row_of cs z s m ≡ a → cell_of t p.state (peek (alone m)) ≡ a
  cell m h e = ap (cell_of t p.state) (peek_alone m) ∙ sym (row_is m h) ∙ e

  stops_at : (m : ℕ) {n : ℕ} → Has group m → Stops t (unlisted limit places s.left) (conf (p.state ∷ p.under) (alone m) p.listed) n → Explored t limit places line m n
  stops_at m h w = explored (not_empty m) (p.comes m h) w

  cut_at : (m : ℕ) {n : ℕ} → Has group m → Stops t (unlisted limit places s.left) (conf (p.state ∷ p.under) (alone m) p.listed) n → Cut n → PassCut t limit places line todo
  cut_at m h w c = behind_line (p.member m h) (cut_for (not_empty m) (p.comes m h) w c)

  is_wrong : (m : ℕ) → Has group m → row_of cs z s m ≡ 0 → Explored t limit places line m 31
  is_wrong m h e = stops_at m h (wrong_here (wrong (cell m h e)))

  is_found : (m : ℕ) → Has group m → Found s places (row_of cs z s m) → Explored t limit places line m 0
  is_found zero h (Found.shifts more b k room) =
      let e = row_is zero h in
      absurd (let y = (shift_passed rd.checked p.state zero top_in (small zero (p.member zero h)) (omega (arith, e)) (omega (arith, e))).1 in omega arith)
  is_found (suc m) h (Found.shifts more b k room) =
      let d = p.stands.deep in
      shifts {m = suc m} {left = s.left - 1} (λ e. omega (arith, e)) (comes_step (p.comes (suc m) h) (Step.shift _ (cell (suc m) h refl) b k) (omega (arith, d)) (omega arith))
  is_found zero h (Found.accepts more e) = stops_at zero h (accepted_here (accepts (cell zero h e)) more)
  is_found (suc m) h (Found.accepts more e) =
      absurd (let y = accept_passed rd.checked p.state (suc m) top_in (small (suc m) (p.member (suc m) h)) (sym (row_is (suc m) h) ∙ e) in omega (arith, y))

  -- a terminal of the group cannot go on
  pub pass_stuck : Stuck (row_of cs z s) s (length st) group → PassCut t limit places line todo
  pass_stuck x = go (rw p.long at x.why)
    where
      go : Short s places (row_of cs z s x.terminal) → PassCut t limit places line todo
      go (no_steps e) = cut_at x.terminal x.member (stops_spent (p.comes _ x.member) (λ y. x.some (sym (cell x.terminal x.member refl) ∙ y)) e) no_steps_left
      go (no_place more k b) =
          let d = p.stands.deep in
          let w = p.stands.within in
          let l = p.long in
          cut_at x.terminal x.member (stops_full (p.comes _ x.member) (Step.shift _ (cell x.terminal x.member refl) (omega (arith, x.some)) k) more (omega arith)) no_place_left

  -- the group is sorted: it becomes the terminals that ask for one reduction
  sorted_into : {x : Sorted} → Apart (row_of cs z s) s places group x → Passing t limit places line todo st s x.same (bit_or found x.found) (bit_or later x.later)
  sorted_into {x} a = record {
    state = p.state;
    under = p.under;
    listed = p.listed;
    long = p.long;
    stands = p.stands;
    comes = λ m h. p.comes m (a.asks m h).0;
    member = λ m h. p.member m (a.asks m h).0;
    offered = λ m h. ⊎_elim (p.offered m) (λ g. let e = a.ends m g in (p.member m e.0, is_found m e.0 e.1)) (has_or found x.found m h);
    behind = λ m h.
        ⊎_elim (p.behind m) (λ g. let b = a.behind m g in (p.member m b.0, b.1, b.2, p.member b.1 b.3)) (has_or later x.later m h);
    left_out = λ m h nf ng nl. left_out m h (λ y. nf (or_has_l found x.found m y)) (λ y. nf (or_has_r found x.found m y)) ng (λ y. nl (or_has_l later x.later m y)) (λ y. nl (or_has_r later x.later m y)) (bit group m) refl;
  }
    where
      left_out : (m : ℕ) → Has todo m → (Has found m → ⊥) → (Has x.found m → ⊥) → (Has x.same m → ⊥) → (Has later m → ⊥) → (Has x.later m → ⊥)
          → (b : Bool) → bit group m ≡ b → Explored t limit places line m 31
      left_out m h f g n k l true e = is_wrong m e (a.none m e g n l)
      left_out m h f g n k l false e = p.left_out m h f (λ i. false≢true (sym e ∙ i)) k

  -- the whole group asks for the reduction by production r
  module _ (r : ℕ) (asks : (m : ℕ) → Has group m → (0 < s.left) × (row_of cs z s m ≡ reduction r) × (reduction r ≢ accept)) (some : group ≡ 0 → ⊥) (fits : group < 2 ^ 64) where
    first : (m : ℕ) × Has group m
    first = (_, lowest_member (omega (arith, some)) fits)

    asked : (0 < s.left) × (row_of cs z s first.0 ≡ reduction r) × (reduction r ≢ accept)
    asked = asks first.0 first.1

    all_ask : Readable t cs z × Standing t st s × (r < productions t) × (0 < s.left)
    all_ask =
        let e : cell_of t p.state first.0 ≡ reduction r = sym (row_is first.0 first.1) ∙ asked.1 in
        let b = reduce_passed rd.checked p.state first.0 top_in (small _ (p.member _ first.1)) (omega (arith, e)) (λ y. asked.2 (sym e ∙ y)) in
        (rd, record { state = _; under = _; stands = p.stands }, omega (arith, b, e), asked.0)

    module _ {y : Result Spot Stop} {st' : List ℕ} (long : length st' ≡ length st) (f : (q : ℕ) (qs : List ℕ) → Stands t st s q qs → Reduces t st' s q qs r y) where
      all_go : {n : Spot} → y ≡ Ok n → Passing t limit places line todo st' n group found later × (n.left < s.left)
      all_go ey =
          let d = reduced (f _ _ p.stands) ey in (
            record {
              state = _;
              under = d.under ∷ d.below;
              listed = p.listed ++ r ∷ [];
              long = long ∙ p.long;
              stands = d.stands;
              comes = λ m h. reduce_comes s (p.comes m h) (long ∙ p.long) (cell m h (asks m h).1) (asks m h).2 d;
              member = p.member;
              offered = p.offered;
              behind = p.behind;
              left_out = p.left_out;
            },
            omega (arith, d.less),
          )

      all_cut : {g : Stop} → y ≡ Err g → PassCut t limit places line todo
      all_cut ey =
          let w = reduce_stops s (p.comes _ first.1) (long ∙ p.long) (cell first.0 first.1 asked.1) asked.2 asked.0 (f _ _ p.stands) ey in
          cut_at first.0 first.1 w.stops w.cut

-- after the group is sorted
module _ {t line cs st : List ℕ} {limit places todo : ℕ} {z : Shape} {s : Spot} {group found later : ℕ} (rd : Readable t cs z)
    (small : (m : ℕ) → Has todo m → m < terminals t) (p : Passing t limit places line todo st s group found later)
    {x : Sorted} (a : Apart (row_of cs z s) s (length st) group x) {found' later' : ℕ} (ef : found' ≡ bit_or found x.found) (el : later' ≡ bit_or later x.later) where
  sorted : Passing t limit places line todo st s x.same found' later'
  sorted = rw (ef, el) (sorted_into rd small p (rw p.long at a))

  pub pass_over : x.same ≡ 0 → Decides t limit places line todo found' later'
  pass_over e = over rd small sorted e

  module _ (some : x.same ≡ 0 → ⊥) (fits : x.same < 2 ^ 64) where
    asks : (m : ℕ) → Has x.same m → (0 < s.left) × (row_of cs z s m ≡ reduction x.production) × (reduction x.production ≢ accept)
    asks m h = let k = a.asks m h in (k.1, k.2, k.3)

    -- what `reduce` asks for
    pub pass_asks : Readable t cs z × Standing t st s × (x.production < productions t) × (0 < s.left)
    pass_asks = all_ask rd small sorted x.production asks some fits

    module _ {y : Result Spot Stop} {st' : List ℕ} (long : length st' ≡ length st) (f : (q : ℕ) (qs : List ℕ) → Stands t st s q qs → Reduces t st' s q qs x.production y) where
      pub pass_goes : {n : Spot} → y ≡ Ok n → Passing t limit places line todo st' n x.same found' later' × (n.left < s.left)
      pass_goes ey = all_go rd small sorted x.production asks some fits long f ey

      pub pass_cut : {g : Stop} → y ≡ Err g → PassCut t limit places line todo
      pass_cut ey = all_cut rd small sorted x.production asks some fits long f ey
