-- Where the run over an input has come, a fresh reading over the line before any later place comes, whatever stands behind that line.
use Prim.Native.Nat.{ℕ, suc, ◌+◌, ◌-◌, ◌<◌, ◌≤◌, max}
use mathlib.Core.Path.{◌≡◌, refl, sym, ap, ◌∙◌}
use mathlib.Core.List.{List, [], ◌∷◌, ◌++◌, reverse, append_cancel_right}
use lib.ListN.{length, drop, take, take-append-drop, length-drop}
use lib.Seq.{length-take-le, drop-append-le}
use native.Mathlib.Omega.{arith}
use Rattle.sets.specs.Lists.{peek, rest}
use Rattle.tables.specs.Layout.{states, cell_of}
use Rattle.machine.specs.Stops.{Stops}
use Rattle.machine.specs.Exploration.{Comes}
use Rattle.machine.specs.ComputedRun.{Machine, Outcome, top_of, run, start}
use Rattle.machine.proofs.Checked.{Passed}
use Rattle.machine.proofs.LrMachineLaws.{Config, conf, Step, Path}
use Rattle.machine.proofs.Shifts.{Below}
use Rattle.machine.proofs.Settles.{unread, path_unread, Settled, settles}
use Rattle.machine.proofs.Areas.{Holds, Held, held, left_under, top_is, ends_at, at_end, held_start, follows}

-- ---- a path that leaves the tail x of its input unread is one with any tail y

-- the same configuration with y as the tail in place of x
data Other (x y : List ℕ) : Config → Config → Type 0 where
  other : {qs v w out : List ℕ} (u : List ℕ) → v ≡ u ++ x → w ≡ u ++ y → Other x y (conf qs v out) (conf qs w out)

module _ (t x y : List ℕ) where
  record Stepped (c d : Config) : Type 0 where
    pub next : Config
    pub step : Step t d next
    pub same : Other x y c next

  record Along (n most : ℕ) (c d : Config) : Type 0 where
    pub last : Config
    pub path : Path t n most d last
    pub same : Other x y c last

  -- a step looks at no terminal but the first
  other_step : {c c' d : Config} → Step t c c' → Other x y c d → length x < unread c → Stepped c' d
  other_step (Step.shift {q} s e z b) (other [] ev ew) h = let k = ap length ev in absurd (omega arith)
  other_step (Step.shift {q} {qs} {out = out} s e z b) (other {w = w} (a ∷ u) ev ew) h =
      let ep : peek w ≡ a = ap peek ew in
      let eq : cell_of t q (peek w) ≡ s = ap (cell_of t q) (ep ∙ sym (ap peek ev)) ∙ e in
      record { next = conf (s ∷ q ∷ qs) (rest w) out; step = Step.shift s eq z b; same = other u (ap rest ev) (ap rest ew) }
  other_step (Step.reduce r p ps s e n d f z) (other [] ev ew) h = let k = ap length ev in absurd (omega arith)
  other_step (Step.reduce {q} {out = out} r p ps s e n d f z) (other {w = w} (a ∷ u) ev ew) h =
      let ep : peek w ≡ a = ap peek ew in
      let eq = ap (cell_of t q) (ep ∙ sym (ap peek ev)) ∙ e in
      record { next = conf (s ∷ p ∷ ps) w (out ++ r ∷ []); step = Step.reduce r p ps s eq n d f z; same = other (a ∷ u) ev ew }

  one_more : {n most : ℕ} {c₁ c₂ d : Config} {qs v out : List ℕ} → Other x y (conf qs v out) d → (s : Stepped c₁ d) → Along n most c₂ s.next → Along (suc n) (max (length qs) most) c₂ d
  one_more (other u ev ew) s p = record { last = p.last; path = Path.more s.step p.path; same = p.same }

  other_path : {n most : ℕ} {c c' d : Config} → Path t n most c c' → Other x y c d → length x < unread c' → Along n most c' d
  other_path {d = d} Path.none (other u ev ew) h = record { last = d; path = Path.none; same = other u ev ew }
  other_path (Path.more {c = conf qs v out} s p) o h =
      let b = path_unread t p in
      let b' = path_unread t (Path.more s Path.none) in
      let o' = other_step s o (omega arith) in
      one_more o o' (other_path p o'.same h)

  last_is : {n most : ℕ} {c d : Config} {qs v out : List ℕ} (u : List ℕ) → Path t n most c d → Other x y (conf qs v out) d → v ≡ u ++ x → Path t n most c (conf qs (u ++ y) out)
  last_is u p (other u' ev ew) e = let eu : u' ≡ u = append_cancel_right u' u x (sym ev ∙ e) in rw (ew, eu) at p

  pub other_tail : {n most : ℕ} {qs qs' w z out out' : List ℕ} (u v : List ℕ) → w ≡ u ++ x → z ≡ v ++ x → length x < length z → Path t n most (conf qs w out) (conf qs' z out')
      → Path t n most (conf qs (u ++ y) out) (conf qs' (v ++ y) out')
  other_tail u v ew ez h p = let o = other_path p (other u ew refl) h in last_is v o.path o.same ez

-- ---- where a run has come

-- the stack that the machine m holds, and the fresh readings over the line before a place that come to it
pub record Come (t l : List ℕ) (limit second place : ℕ) (m : Machine) : Type 0 where
  pub state : ℕ
  pub under : List ℕ
  pub listed : List ℕ
  pub deep : m.depth ≡ length (state ∷ under)
  pub stacked : take m.depth m.stack ≡ reverse (state ∷ under)
  pub top_is : top_of m.stack m.depth ≡ state
  pub below : Below (states t) (state ∷ under)
  pub left : ℕ
  pub budget : m.steps + left ≡ limit
  pub comes : (y : List ℕ) → Comes t limit second (take place l ++ y) (conf (state ∷ under) (drop m.position (take place l) ++ y) listed) left

module _ {t l : List ℕ} (st li : List ℕ) (k limit second place : ℕ) (m : Machine) (pa : Passed t l (length st)) (all : m.steps ≡ k) (within : k ≤ limit) (fits : length st ≤ second)
    (before : m.position < place) (short : place ≤ length l) where
  -- the input from the position on, cut at the place
  cut : drop m.position l ≡ drop m.position (take place l) ++ drop place l
  cut =
      let n = length-take-le place l short in
      ap (drop m.position) (sym (take-append-drop place l)) ∙ drop-append-le m.position (take place l) (drop place l) (omega arith)

  module _ {n most p q : ℕ} {qs x out : List ℕ} (h : Holds t l st li n most m (q ∷ qs) x out) (w : Path t n p (conf (0 ∷ []) l []) (conf (q ∷ qs) x out)) (few : p ≤ length st) where
    come_path : (y : List ℕ) → Path t n p (conf (0 ∷ []) (take place l ++ y) []) (conf (q ∷ qs) (drop m.position (take place l) ++ y) out)
    come_path y =
        let b = length-drop place l in
        other_tail t (drop place l) y (take place l) (drop m.position (take place l)) (sym (take-append-drop place l)) (sym h.ahead ∙ cut) (omega (arith, b, h.place)) w

    come_held : Come t l limit second place m
    come_held =
        let e : m.depth - 0 ≡ m.depth = omega arith in
        record {
          state = q;
          under = qs;
          listed = out;
          deep = h.deep;
          stacked = rw e at (left_under pa h 0 q qs refl).2;
          top_is = top_is pa h;
          below = h.below;
          left = limit - k;
          budget = omega arith;
          comes = λ y. record { steps = n; most = p; path = come_path y; within = omega arith; budget = omega (arith, h.made) };
        }

  -- the machine that holds the configuration where the path stops is m
  at_last : {n most p left i : ℕ} {c : Config} {v : Machine} → Held t l st li n most v c → Path t n p (conf (0 ∷ []) l []) c → p ≤ length st
      → Stops t (record { steps = left; stack = length st; list = length li }) c i → run t l k (start st li) ≡ run t l left v → run t l k (start st li) ≡ record { number = 32; final = m }
      → Come t l limit second place m
  at_last {i = i} {v = v} (held h) w few why e f =
      let eo : ◌≡◌ {A = Outcome} (record { number = i; final = at_end i v }) (record { number = 32; final = m }) = sym (ends_at pa h why) ∙ sym e ∙ f in
      let ei : i ≡ 32 = ap (λ (z : Outcome). z.number) eo in
      let em : v ≡ m = ap (λ (j : ℕ). at_end j v) (sym ei) ∙ ap (λ (z : Outcome). z.final) eo in
      come_held (rw em at h) w few

pub come : {t l : List ℕ} (st li : List ℕ) (k limit second place : ℕ) (m : Machine) → Passed t l (length st) → run t l k (start st li) ≡ record { number = 32; final = m } → m.steps ≡ k
    → k ≤ limit → length st ≤ second → m.position < place → place ≤ length l → Come t l limit second place m
come {t} {l} st li k limit second place m pa e all within fits before short = go (settles t (length st) (length li) k 0 [] l [] pa.places (omega arith))
  where
    go : Settled t (length st) (length li) k (conf (0 ∷ []) l []) → Come t l limit second place m
    go s =
        let w = follows pa s.path (held_start st li pa) (omega (arith, s.within, pa.places)) s.fits in
        let n : 0 + s.steps ≡ s.steps = omega arith in
        at_last st li k limit second place m pa all within fits before short (rw n at w.holds) s.path s.within s.why (rw s.budget at (w.runs s.left)) e
