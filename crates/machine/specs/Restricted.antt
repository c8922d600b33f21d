-- Card 10: the choir's reading, restricted by a word of closed terminals. The publisher's is that of Reads.antt.
-- `restricted_reading` of ComputedRun.antt is the one reading of this kind: `restricted_exactly` of proofs/RestrictedLaws.antt.
use Rattle.std.specs.Prelude.{ℕ, suc, ◌+◌, ◌<◌, ◌≤◌, max, ◌≡◌, ◌≢◌, ◌↔◌, List, [], ◌∷◌, ◌++◌, reverse, length, get_or, take, drop, replicate}
use Rattle.sets.specs.Bit.{bit, Has, count}
use Rattle.sets.specs.Lists.{peek, covered}
use Rattle.tables.specs.Layout.{terminals}
use Rattle.machine.specs.LrMachine.{Config, conf, depth, listed, Step, own_steps}
use Rattle.machine.specs.Checks.{restricted_refusal}
use Rattle.machine.specs.Stops.{Allowed, Stops}
use Rattle.machine.specs.Exploration.{Explored, Cut}
use Rattle.machine.specs.Report.{Report, refused, ended, wrong_at_is, unknown_at_is, Reading}

-- "One 64-bit word names them, bit m for mark m": terminal m is open where it is not among the closed ones
abbrev pub Open : ℕ → ℕ → Type 0
Open closed m = Has closed m → ⊥

-- a line without closed terminals
abbrev pub OpenLine : ℕ → List ℕ → Type 0
OpenLine closed line = (i : ℕ) → i < length line → Open closed (get_or line i 0)

-- the place of the first closed terminal of a line
pub record FirstClosed (closed : ℕ) (line : List ℕ) (place : ℕ) : Type 0 where
  pub inside : place < length line
  pub before : OpenLine closed (take place line)
  pub there : Has closed (get_or line place 0)

-- the next terminal, which is the end marker 0 behind the input
abbrev pub next : Config → ℕ
next (conf qs x out) = peek x

module _ (t : List ℕ) (closed : ℕ) where
  -- steps of the LR machine as in `Path`, each made while the next terminal is open
  pub data OpenPath : (steps most : ℕ) → Config → Config → Type 0 where
    none : {c : Config} → OpenPath 0 (depth c) c c
    more : {n m : ℕ} {c c' c'' : Config} → Open closed (next c) → Step t c c' → OpenPath n m c' c'' → OpenPath (suc n) (max (depth c) m) c c''

  -- why a choir's reading stops: it "treats a closed next mark as wrong before any reduction under it", whatever else is left; else as the publisher's.
  -- 31 is tested first: a closed next terminal is 31 even where no step is left, or the list or the stack is full
  pub data OpenStops (a : Allowed) (c : Config) : ℕ → Type 0 where
    closed_here : Has closed (next c) → OpenStops a c 31
    as_ever : {n : ℕ} → Open closed (next c) → Stops t a c n → OpenStops a c n

  -- "and leaves closed marks out of offers": the offer is of the open terminals, and only their fresh readings are made.
  -- They are the publisher's: the line before the place has no closed terminal
  pub record OpenOffer (limit second : ℕ) (line : List ℕ) (word : ℕ) : Type 0 where
    pub members : (m : ℕ) → Has word m ↔ ((m < terminals t) × Open closed m × Explored t limit second line m 0)
    pub uncut : (m n : ℕ) → m < terminals t → Open closed m → Explored t limit second line m n → Cut n → ⊥

  -- some fresh reading of an open terminal is cut short
  pub record OpenCutShort (limit second : ℕ) (line : List ℕ) : Type 0 where
    pub terminal : ℕ
    pub number : ℕ
    pub below : terminal < terminals t
    pub unclosed : Open closed terminal
    pub ends : Explored t limit second line terminal number
    pub cut : Cut number

  -- what is reported, as in `Reports`
  pub data OpenReports (input : List ℕ) (limit k steps : ℕ) : Config → ℕ → Report → Type 0 where
    counts : {c : Config} (n : ℕ) → n ≢ 31 → OpenReports input limit k steps c n (ended n (steps + own_steps n) (depth c) (listed c))
    expects : {qs x out : List ℕ} (line : List ℕ) (word : ℕ) → line ++ x ≡ input → OpenOffer limit k line word
        → OpenReports input limit k steps (conf qs x out) 31 (wrong_at_is steps (length qs) (length out) (length line) word (count (bit word) (terminals t)))
    unknown : {qs x out : List ℕ} (line : List ℕ) → line ++ x ≡ input → OpenCutShort limit k line
        → OpenReports input limit k steps (conf qs x out) 31 (unknown_at_is steps (length qs) (length out) (length line))

  -- the reading, as in `Faithful`, where nothing is refused
  pub record RestrictedFaithful (input stack list second : List ℕ) (limit : ℕ) (r : Reading) : Type 0 where
    pub steps : ℕ
    pub most : ℕ
    pub states : List ℕ
    pub ahead : List ℕ
    pub productions : List ℕ
    pub path : OpenPath steps most (conf (0 ∷ []) input []) (conf states ahead productions)
    pub within : most ≤ length stack
    pub room : length productions ≤ length list
    pub left : ℕ
    pub budget : steps + left ≡ limit
    pub number : ℕ
    pub why : OpenStops (record { steps = left; stack = length stack; list = length list }) (conf states ahead productions) number
    pub reported : OpenReports input limit (length second) steps (conf states ahead productions) number r.report
    pub stacked : r.stack ≡ covered most (reverse states) stack
    pub listing : r.list ≡ productions ++ drop (length productions) list
    pub cleared : r.second ≡ replicate (length second) 0

-- every table, word, input, step limit and three areas are answered: refused, "changing nothing", or read
pub data RestrictedReads (t : List ℕ) (closed : ℕ) (input stack list second : List ℕ) (limit : ℕ) : Reading → Type 0 where
  refuses : {n : ℕ} → restricted_refusal t closed input (length stack) (length second) ≡ n → n ≢ 0
      → RestrictedReads t closed input stack list second limit (record { report = refused n; stack = stack; list = list; second = second })
  reads : {r : Reading} → restricted_refusal t closed input (length stack) (length second) ≡ 0 → RestrictedFaithful t closed input stack list second limit r
      → RestrictedReads t closed input stack list second limit r
