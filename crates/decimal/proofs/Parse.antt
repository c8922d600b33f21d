-- A text has the numbers that a parse without limits finds in it, and no others.
use mathlib.Core.Path.{◌≡◌, refl, sym, ap, ◌∙◌}
use mathlib.Core.List.{List, [], ◌∷◌, ◌++◌, map, append_assoc, append-nil}
use mathlib.Core.Bool.{Bool, true, false, cond}
use Rattle.std.specs.Prelude.{Option, Some, None}
use Prim.Native.Nat.{ℕ, ◌+◌, ◌-◌, ◌*◌, ◌<◌, ◌≤◌}
use native.Mathlib.Omega.{arith}
use borrow.Author.Tests.{ne_eqb, le-leb, leb-true, eqb-true}
use lib.Dec.{leb, eqb}
use Rattle.decimal.specs.declared.scanner.Class.{Class}
use Rattle.decimal.specs.declared.scanner.Class.TheVariants.{Space, Digit, Other}
use Rattle.decimal.specs.Scanning.{class_of}
use Rattle.decimal.specs.Form.{Separator, blank, line_feed, Separators, nil, cons, Numeral, digit, longer, Text, empty, last, next}

-- a number before those found behind it
abbrev pub before : ℕ → Option (List ℕ) → Option (List ℕ)
before v None = None
before v (Some ns) = cond (leb v 65535) (Some (v ∷ ns)) None

-- the numbers behind a place between numbers, or inside one with its value so far
abbrev pub parse : Option ℕ → List Class → Option (List ℕ)
parse None [] = Some []
parse None (Space ∷ ks) = parse None ks
parse None (Digit d ∷ ks) = parse (Some d) ks
parse None (Other ∷ ks) = None
parse (Some v) [] = before v (Some [])
parse (Some v) (Space ∷ ks) = before v (parse None ks)
parse (Some v) (Digit d ∷ ks) = parse (Some (v * 10 + d)) ks
parse (Some v) (Other ∷ ks) = None

-- the class of a byte
data Seen : ℕ → Class → Type 0 where
  space : {b : ℕ} → Separator b → Seen b Space
  figure : {d : ℕ} → d < 10 → Seen (48 + d) (Digit d)
  other : {b : ℕ} → Seen b Other

seen : (b : ℕ) → Seen b (class_of b)
seen b = go (eqb b 32) (eqb b 10) (leb 48 b) (leb b 57) refl refl refl refl
  where
    go : (o p q r : Bool) → eqb b 32 ≡ o → eqb b 10 ≡ p → leb 48 b ≡ q → leb b 57 ≡ r
        → Seen b (cond o Space (cond p Space (cond q (cond r (Digit (b - 48)) Other) Other)))
    go true p q r e f g h = rw (eqb-true b 32 e) (space blank)
    go false true q r e f g h = rw (eqb-true b 10 f) (space line_feed)
    go false false true true e f g h =
        let le : 48 ≤ b = leb-true 48 b g in
        let me : b ≤ 57 = leb-true b 57 h in
        let n : 48 + (b - 48) ≡ b = omega arith in
        rw n at (figure {d = b - 48} (omega arith))
    go false false true false e f g h = other
    go false false false r e f g h = other

class_separator : {b : ℕ} → Separator b → class_of b ≡ Space
class_separator blank = refl
class_separator line_feed = refl

class_digit : (d : ℕ) → d < 10 → class_of (48 + d) ≡ Digit d
class_digit d h =
    let e : 48 + d - 48 ≡ d = omega arith in
    rw (ne_eqb (48 + d) 32 (λ e. omega arith), ne_eqb (48 + d) 10 (λ e. omega arith), le-leb 48 (48 + d) (omega arith), le-leb (48 + d) 57 (omega arith), e)

skips : {ws : List ℕ} → Separators ws → (bs : List ℕ) → parse None (map class_of (ws ++ bs)) ≡ parse None (map class_of bs)
skips nil bs = refl
skips (cons s ss) bs = rw (class_separator s) (skips ss bs)

reads : {ds : List ℕ} {n : ℕ} → Numeral ds n → (bs : List ℕ) → parse None (map class_of (ds ++ bs)) ≡ parse (Some n) (map class_of bs)
reads (digit {d} h) bs = rw (class_digit d h)
reads (longer {ds} {n} {d} x h) bs = rw (append_assoc) (reads x ((48 + d) ∷ bs) ∙ rw (class_digit d h) refl)

-- a text's numbers are found
pub parses : {bs ns : List ℕ} → Text bs ns → parse None (map class_of bs) ≡ Some ns
parses (empty {ws} s) = ap (λ (l : List ℕ). parse None (map class_of l)) (sym (append-nil ws)) ∙ skips s []
parses (last {ws} {ds} {n} s x h) =
    skips s ds ∙ ap (λ (l : List ℕ). parse None (map class_of l)) (sym (append-nil ds)) ∙ reads x [] ∙ rw (le-leb n 65535 h) refl
parses (next {ws} {ds} {bs} {n} {b} s x h y t) =
    skips s (ds ++ b ∷ bs) ∙ reads x (b ∷ bs) ∙ rw (class_separator y, parses t, le-leb n 65535 h) refl

-- so the numbers of a text are the only ones
pub text_unique : {bs ns ms : List ℕ} → Text bs ns → Text bs ms → ns ≡ ms
text_unique t u = cc (parses t, parses u)

-- what was read of a number
data Begun : Option ℕ → List ℕ → Type 0 where
  idle : Begun None []
  begun : {v : ℕ} {ds : List ℕ} → Numeral ds v → Begun (Some v) ds

pub led_text : {b : ℕ} {bs ns : List ℕ} → Separator b → Text bs ns → Text (b ∷ bs) ns
led_text s (empty ss) = empty (cons s ss)
led_text s (last ss x h) = last (cons s ss) x h
led_text s (next ss x h y t) = next (cons s ss) x h y t

-- how a number can stand before others
data Before (v : ℕ) : Option (List ℕ) → List ℕ → Type 0 where
  fits : {ns : List ℕ} → v ≤ 65535 → Before v (Some ns) (v ∷ ns)

before_some : (v : ℕ) (o : Option (List ℕ)) {ns : List ℕ} → before v o ≡ Some ns → Before v o ns
before_some v None e = let z : ◌≡◌ {A = ℕ} 0 1 = cc in absurd (omega arith)
before_some v (Some ms) {ns} e = go (leb v 65535) refl e
  where
    go : (t : Bool) → leb v 65535 ≡ t → cond t (Some (v ∷ ms)) None ≡ Some ns → Before v (Some ms) ns
    go true h f = let g : v ∷ ms ≡ ns = cc in rw (← g) (fits (leb-true v 65535 h))
    go false h f = let z : ◌≡◌ {A = ℕ} 0 1 = cc in absurd (omega arith)

-- what is found behind a number's beginning, and that the beginning with those bytes is a text
abbrev Found : List ℕ → Type 0
Found bs = (o : Option ℕ) (ds ns : List ℕ) → Begun o ds → parse o (map class_of bs) ≡ Some ns → Text (ds ++ bs) ns

ended : {v : ℕ} {ds ns : List ℕ} → Numeral ds v → Before v (Some []) ns → Text (ds ++ []) ns
ended {ds = ds} x (fits h) = rw (append-nil ds) (last nil x h)

parted : {v b : ℕ} {ds bs ns : List ℕ} {o : Option (List ℕ)} → Numeral ds v → Separator b → ((ms : List ℕ) → o ≡ Some ms → Text bs ms) → Before v o ns
    → Text (ds ++ b ∷ bs) ns
parted x s f (fits {ns} h) = next nil x h s (f ns refl)

found_none : Found []
found_none None ds ns idle e = let g : [] ≡ ns = cc in rw (← g) (empty nil)
found_none (Some v) ds ns (begun x) e = ended x (before_some v (Some []) e)

found_more : {b : ℕ} {k : Class} {bs : List ℕ} {o : Option ℕ} {ds ns : List ℕ}
    → Found bs → Seen b k → Begun o ds → parse o (k ∷ map class_of bs) ≡ Some ns → Text (ds ++ b ∷ bs) ns
found_more {ns = ns} f (space s) idle e = led_text s (f None [] ns idle e)
found_more {ns = ns} f (figure {d} h) idle e = f (Some d) ((48 + d) ∷ []) ns (begun (digit h)) e
found_more f other idle e = let z : ◌≡◌ {A = ℕ} 0 1 = cc in absurd (omega arith)
found_more {bs = bs} f (space s) (begun {v} x) e = parted x s (λ ms g. f None [] ms idle g) (before_some v (parse None (map class_of bs)) e)
found_more {bs = bs} {ns = ns} f (figure {d} h) (begun {v} {ds} x) e =
    rw append_assoc at (f (Some (v * 10 + d)) (ds ++ (48 + d) ∷ []) ns (begun (longer x h)) e)
found_more f other (begun x) e = let z : ◌≡◌ {A = ℕ} 0 1 = cc in absurd (omega arith)

found : (bs : List ℕ) → Found bs
found [] = found_none
found (b ∷ bs) = λ o ds ns x e. found_more (found bs) (seen b) x e

-- what is found in a text is its numbers
pub texts : (bs ns : List ℕ) → parse None (map class_of bs) ≡ Some ns → Text bs ns
texts bs ns e = found bs None [] ns idle e
