-- The scan of an input, byte by byte, into an area of 772 numbers.
use Rattle.std.specs.Prelude.{ℕ, ◌+◌, ◌-◌, ◌*◌, List, [], ◌∷◌, get_or, set, take, ltb, leb, eqb, cond, Option, Some, None}
use Rattle.decimal.specs.declared.scanner.Class.{Class}
use Rattle.decimal.specs.declared.scanner.Class.TheVariants.{Space, Digit, Other}
use Rattle.decimal.specs.declared.scanner.Scan.{Scan}
use Rattle.decimal.specs.declared.scanner.Scan.TheVariants.{Between, Inside, Bad}

-- the area, and where the scan stands: between numbers with n of them read, inside number n, or past a fault
pub record Fed : Type 0 where
  pub area : List ℕ
  pub scan : Scan

abbrev pub fed_of : List ℕ → Scan → Fed
fed_of a s = record { area = a; scan = s }

-- a blank or a line feed, a digit, or anything else
abbrev pub class_of : ℕ → Class
class_of b = cond (eqb b 32) Space (cond (eqb b 10) Space (cond (leb 48 b) (cond (leb b 57) (Digit (b - 48)) Other) Other))

-- v put at place n, if both are within their limits
abbrev pub entered : List ℕ → ℕ → ℕ → Fed
entered a n v = cond (ltb n 772) (cond (leb v 65535) (fed_of (set a n v) (Inside n)) (fed_of a Bad)) (fed_of a Bad)

-- one byte, by its class
abbrev pub fed_in : List ℕ → Scan → Class → Fed
fed_in a Bad k = fed_of a Bad
fed_in a (Between n) Space = fed_of a (Between n)
fed_in a (Between n) (Digit d) = entered a n d
fed_in a (Between n) Other = fed_of a Bad
fed_in a (Inside n) Space = cond (ltb n 772) (fed_of a (Between (n + 1))) (fed_of a Bad)
fed_in a (Inside n) (Digit d) = entered a n (get_or a n 0 * 10 + d)
fed_in a (Inside n) Other = fed_of a Bad

abbrev pub fed_by : Fed → ℕ → Fed
fed_by f b = fed_in f.area f.scan (class_of b)

-- a list of bytes
unfoldable pub fed : Fed → List ℕ → Fed
fed f [] = f
fed f (b ∷ bs) = fed (fed_by f b) bs

-- what the end of the input makes of a scan: how many numbers were read, or no card
abbrev pub found_of : Scan → Option ℕ
found_of (Between n) = cond (leb n 772) (Some n) None
found_of (Inside n) = cond (ltb n 772) (Some (n + 1)) None
found_of Bad = None

abbrev pub numbers_in : List ℕ → Option ℕ → Option (List ℕ)
numbers_in a (Some n) = Some (take n a)
numbers_in a None = None

-- the numbers of the card, if it is one
abbrev pub card_of : Fed → Option (List ℕ)
card_of f = numbers_in f.area (found_of f.scan)

-- the scan of a whole input, which starts between numbers with none of them read
abbrev pub scanned : List ℕ → List ℕ → Option (List ℕ)
scanned a bs = card_of (fed (fed_of a (Between 0)) bs)
