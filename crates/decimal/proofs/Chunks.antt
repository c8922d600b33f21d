-- Chunks do not matter: feeding a list in parts is feeding it whole. And the area keeps its length.
use mathlib.Core.Path.{◌≡◌, refl, ap, ◌∙◌}
use mathlib.Core.List.{List, [], ◌∷◌, ◌++◌}
use mathlib.Core.Bool.{Bool, true, false, cond}
use Prim.Native.Nat.{ℕ, ◌+◌, ◌*◌, ◌<◌, ◌≤◌}
use borrow.Author.Tests.{le-ltb}
use lib.ListN.{length, get_or, set, take, length-set}
use lib.Dec.{leb, ltb}
use Rattle.std.proofs.lemmas.List.{take_more}
use Rattle.decimal.specs.declared.scanner.Class.{Class}
use Rattle.decimal.specs.declared.scanner.Class.TheVariants.{Space, Digit, Other}
use Rattle.decimal.specs.declared.scanner.Scan.{Scan}
use Rattle.decimal.specs.declared.scanner.Scan.TheVariants.{Between, Inside, Bad}
use Rattle.decimal.specs.Scanning.{Fed, fed_of, class_of, entered, fed_in, fed_by, fed}

pub fed_append : (f : Fed) (xs ys : List ℕ) → fed f (xs ++ ys) ≡ fed (fed f xs) ys
unfolding fed
fed_append f [] ys = refl
fed_append f (x ∷ xs) ys = fed_append (fed_by f x) xs ys

-- one byte more
pub fed_next : (f g h : Fed) (bs : List ℕ) (i : ℕ) → i < length bs → g ≡ fed f (take i bs) → h ≡ fed_by g (get_or bs i 0) → h ≡ fed f (take (i + 1) bs)
unfolding fed
fed_next f g h bs i l d e = rw (take_more bs i 0 l, fed_append) (e ∙ ap (λ (k : Fed). fed_by k (get_or bs i 0)) d)

-- no place behind the area is a number's
pub outside : (a : List ℕ) (n : ℕ) (k : Class) → 772 ≤ n → fed_of a Bad ≡ fed_in a (Inside n) k
outside a n Space h = rw (le-ltb n 772 h) refl
outside a n (Digit d) h = rw (le-ltb n 772 h) refl
outside a n Other h = refl

entered_length : (a : List ℕ) (n v : ℕ) → length (entered a n v).area ≡ length a
entered_length a n v = go (ltb n 772) (leb v 65535)
  where
    go : (p q : Bool) → length (cond p (cond q (fed_of (set a n v) (Inside n)) (fed_of a Bad)) (fed_of a Bad)).area ≡ length a
    go true true = simp length-set
    go true false = refl
    go false q = refl

one_length : (a : List ℕ) (s : Scan) (k : Class) → length (fed_in a s k).area ≡ length a
one_length a (Between n) Space = refl
one_length a (Between n) (Digit d) = entered_length a n d
one_length a (Between n) Other = refl
one_length a (Inside n) Space = go (ltb n 772)
  where
    go : (p : Bool) → length (cond p (fed_of a (Between (n + 1))) (fed_of a Bad)).area ≡ length a
    go true = refl
    go false = refl
one_length a (Inside n) (Digit d) = entered_length a n (get_or a n 0 * 10 + d)
one_length a (Inside n) Other = refl
one_length a Bad k = refl

-- the area keeps its length
pub fed_length : (bs : List ℕ) (f : Fed) → length (fed f bs).area ≡ length f.area
unfolding fed
fed_length [] f = refl
fed_length (b ∷ bs) f = fed_length bs (fed_by f b) ∙ one_length f.area f.scan (class_of b)
