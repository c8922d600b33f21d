-- The scan of a whole input finds a card exactly if the input has the form of one, and then its numbers.
use mathlib.Core.Path.{◌≡◌, refl, sym, ap, ◌∙◌}
use mathlib.Core.Logic.{◌↔◌}
use mathlib.Core.List.{List, [], ◌∷◌, ◌++◌, map, append_assoc, append-nil}
use mathlib.Core.Bool.{Bool, true, false, cond}
use Rattle.std.specs.Prelude.{Option, Some, None}
use Prim.Native.Nat.{ℕ, suc, ◌+◌, ◌*◌, ◌<◌, ◌≤◌, zero-le}
use native.Mathlib.Numerals.{add-one}
use native.Mathlib.Nat.{add-zero}
use native.Mathlib.Omega.{arith}
use borrow.Author.Tests.{lt-ltb, le-leb, lt-leb, leb-true, leb-false, ltb-true, ltb-false}
use lib.Dec.{leb, ltb}
use lib.ListN.{length, take, get_or, set, length-set}
use lib.Seq.{take-suc, take-set-le, get_or-set_same}
use Rattle.decimal.specs.declared.scanner.Class.{Class}
use Rattle.decimal.specs.declared.scanner.Class.TheVariants.{Space, Digit, Other}
use Rattle.decimal.specs.declared.scanner.Scan.{Scan}
use Rattle.decimal.specs.declared.scanner.Scan.TheVariants.{Between, Inside, Bad}
use Rattle.decimal.specs.Scanning.{Fed, fed_of, class_of, entered, fed_in, fed, found_of, numbers_in, card_of, scanned}
use Rattle.decimal.specs.Form.{Card}
use Rattle.decimal.proofs.Chunks.{fed_length}
use Rattle.decimal.proofs.Parse.{before, parse, parses, texts}

-- the scan of a list of classes
abbrev fed_all : Fed → List Class → Fed
fed_all f [] = f
fed_all f (k ∷ ks) = fed_all (fed_in f.area f.scan k) ks

fed_classes : (bs : List ℕ) (f : Fed) → fed f bs ≡ fed_all f (map class_of bs)
unfolding fed
fed_classes [] f = refl
fed_classes (b ∷ bs) f = fed_classes bs (fed_in f.area f.scan (class_of b))

-- numbers behind the n first of an area, if there is room for them
abbrev limited : List ℕ → ℕ → Option (List ℕ) → Option (List ℕ)
limited a n None = None
limited a n (Some ns) = cond (leb (n + length ns) 772) (Some (take n a ++ ns)) None

-- where the scan stands, and where the parse does
data Stands (a : List ℕ) (n : ℕ) : Scan → Option ℕ → Type 0 where
  between : n ≤ 772 → Stands a n (Between n) None
  inside : {v : ℕ} → n < 772 → v ≤ 65535 → get_or a n 0 ≡ v → Stands a n (Inside n) (Some v)

bad : (a : List ℕ) (ks : List Class) → None ≡ card_of (fed_all (fed_of a Bad) ks)
bad a [] = refl
bad a (k ∷ ks) = bad a ks

large_before : (v : ℕ) (o : Option (List ℕ)) → 65535 < v → before v o ≡ None
large_before v None h = refl
large_before v (Some ns) h = rw (lt-leb v 65535 h) refl

-- too large a number gives none, whatever follows
large : (v : ℕ) (ks : List Class) → 65535 < v → parse (Some v) ks ≡ None
large v [] h = large_before v (Some []) h
large v (Space ∷ ks) h = large_before v (parse None ks) h
large v (Digit d ∷ ks) h = large (v * 10 + d) ks (omega arith)
large v (Other ∷ ks) h = refl

full_before : (a : List ℕ) (n v : ℕ) (o : Option (List ℕ)) → 772 ≤ n → limited a n (before v o) ≡ None
full_before a n v None h = refl
full_before a n v (Some ns) h = go (leb v 65535)
  where
    go : (t : Bool) → limited a n (cond t (Some (v ∷ ns)) None) ≡ None
    go true = rw (lt-leb (n + suc (length ns)) 772 (omega arith)) refl
    go false = refl

-- and a number behind the last place gives none
full : (a : List ℕ) (n v : ℕ) (ks : List Class) → 772 ≤ n → limited a n (parse (Some v) ks) ≡ None
full a n v [] h = full_before a n v (Some []) h
full a n v (Space ∷ ks) h = full_before a n v (parse None ks) h
full a n v (Digit d ∷ ks) h = full a n (v * 10 + d) ks h
full a n v (Other ∷ ks) h = refl

-- a store at place n is behind the n first
kept : (a : List ℕ) (n v : ℕ) (o : Option (List ℕ)) → limited (set a n v) n o ≡ limited a n o
kept a n v None = refl
kept a n v (Some ns) = rw (take-set-le n a n v (omega arith)) refl

-- the number at place n counts to those before
passed : (a : List ℕ) (n v : ℕ) (o : Option (List ℕ)) → length a ≡ 772 → n < 772 → v ≤ 65535 → get_or a n 0 ≡ v
    → limited a (n + 1) o ≡ limited a n (before v o)
passed a n v None l h m e = refl
passed a n v (Some ns) l h m e =
    let s : n + 1 + length ns ≡ n + suc (length ns) = omega arith in
    let t : take (n + 1) a ++ ns ≡ take n a ++ v ∷ ns = rw (add-one, take-suc a n 0 (omega arith), e, append_assoc) refl in
    rw (le-leb v 65535 m, s, t) refl

stored : (a : List ℕ) (n v : ℕ) → length a ≡ 772 → n < 772 → v ≤ 65535 → Stands (set a n v) n (Inside n) (Some v)
stored a n v l h m = inside h m (get_or-set_same a n v 0 (omega arith))

-- that they agree on what follows
abbrev Agree : List Class → List ℕ → ℕ → Scan → Option ℕ → Type 0
Agree ks a n s o = limited a n (parse o ks) ≡ card_of (fed_all (fed_of a s) ks)

enters : (ks : List Class) (a : List ℕ) (n v : ℕ) → length a ≡ 772
    → ((c : List ℕ) → length c ≡ 772 → Stands c n (Inside n) (Some v) → Agree ks c n (Inside n) (Some v))
    → limited a n (parse (Some v) ks) ≡ card_of (fed_all (entered a n v) ks)
enters ks a n v l f = go (ltb n 772) (leb v 65535) refl refl
  where
    go : (p q : Bool) → ltb n 772 ≡ p → leb v 65535 ≡ q
        → limited a n (parse (Some v) ks) ≡ card_of (fed_all (cond p (cond q (fed_of (set a n v) (Inside n)) (fed_of a Bad)) (fed_of a Bad)) ks)
    go true true h m =
        sym (kept a n v (parse (Some v) ks)) ∙ f (set a n v) (simp length-set l) (stored a n v l (ltb-true n 772 h) (leb-true v 65535 m))
    go true false h m = ap (limited a n) (large v ks (leb-false v 65535 m)) ∙ bad a ks
    go false q h m = full a n v ks (ltb-false n 772 h) ∙ bad a ks

ended : (a : List ℕ) (n : ℕ) → n < 772 → fed_of a (Between (n + 1)) ≡ fed_in a (Inside n) Space
ended a n h = rw (lt-ltb n 772 h) refl

agrees : (ks : List Class) (a : List ℕ) (n : ℕ) {s : Scan} {o : Option ℕ} → length a ≡ 772 → Stands a n s o → Agree ks a n s o
agrees [] a n l (between h) = rw (add-zero, append-nil, le-leb n 772 h) refl
agrees (Space ∷ ks) a n l (between h) = agrees ks a n l (between h)
agrees (Digit d ∷ ks) a n l (between h) = enters ks a n d l (λ c m s. agrees ks c n m s)
agrees (Other ∷ ks) a n l (between h) = bad a ks
agrees [] a n l (inside {v} h m e) = sym (passed a n v (Some []) l h m e) ∙ rw (add-zero, append-nil, lt-ltb n 772 h, le-leb (n + 1) 772 (omega arith)) refl
agrees (Space ∷ ks) a n l (inside {v} h m e) =
    sym (passed a n v (parse None ks) l h m e) ∙ agrees ks a (n + 1) l (between (omega arith)) ∙ ap (λ (f : Fed). card_of (fed_all f ks)) (ended a n h)
agrees (Digit d ∷ ks) a n l (inside {v} h m e) =
    enters ks a n (v * 10 + d) l (λ c m s. agrees ks c n m s) ∙ ap (λ (w : ℕ). card_of (fed_all (entered a n (w * 10 + d)) ks)) (sym e)
agrees (Other ∷ ks) a n l (inside {v} h m e) = bad a ks

limited_card : (a bs ns : List ℕ) (o : Option (List ℕ)) → parse None (map class_of bs) ≡ o → limited a 0 o ≡ Some ns → Card bs ns
limited_card a bs ns None e f = let z : ◌≡◌ {A = ℕ} 0 1 = cc in absurd (omega arith)
limited_card a bs ns (Some ms) e f = go (leb (0 + length ms) 772) refl f
  where
    go : (t : Bool) → leb (0 + length ms) 772 ≡ t → cond t (Some ms) None ≡ Some ns → Card bs ns
    go true h g =
        let i : ms ≡ ns = cc in
        let j : length ms ≤ 772 = omega (arith, leb-true (0 + length ms) 772 h) in
        record { text = texts bs ns (cc); most = rw i at j }
    go false h g = let z : ◌≡◌ {A = ℕ} 0 1 = cc in absurd (omega arith)

module _ (a : List ℕ) (room : length a ≡ 772) (bs : List ℕ) where
  limits : limited a 0 (parse None (map class_of bs)) ≡ scanned a bs
  limits = agrees (map class_of bs) a 0 room (between zero-le) ∙ ap card_of (sym (fed_classes bs (fed_of a (Between 0))))

  -- it finds a card with the numbers ns exactly if the input is one
  pub scanned_card : (ns : List ℕ) → (scanned a bs ≡ Some ns) ↔ Card bs ns
  scanned_card ns = (λ e. limited_card a bs ns (parse None (map class_of bs)) refl (limits ∙ e), λ c. sym limits ∙ rw (parses c.text, le-leb (0 + length ns) 772 (omega (arith, c.most))) refl)

  -- and no card exactly if the input is none
  pub scanned_none : (scanned a bs ≡ None) ↔ ((ns : List ℕ) → Card bs ns → ⊥)
  scanned_none = (λ e ns c. none_some ns (sym e ∙ (scanned_card ns).1 c), λ f. go f (scanned a bs) refl)
    where
      none_some : (ns : List ℕ) → None ≡ Some ns → ⊥
      none_some ns e = let z : ◌≡◌ {A = ℕ} 0 1 = cc in omega arith

      go : ((ns : List ℕ) → Card bs ns → ⊥) → (o : Option (List ℕ)) → scanned a bs ≡ o → scanned a bs ≡ None
      go f None e = e
      go f (Some ns) e = absurd (f ns ((scanned_card ns).0 e))

-- for a program: the area c and the scan s that an input leaves, and what `finish` says of s
module _ (a c bs : List ℕ) (s : Scan) (room : length a ≡ 772) (came : fed_of c s ≡ fed (fed_of a (Between 0)) bs) where
  pub finished_room : length c ≡ 772
  finished_room = ap (λ (f : Fed). length f.area) came ∙ fed_length bs (fed_of a (Between 0)) ∙ room

  left : numbers_in c (found_of s) ≡ scanned a bs
  left = ap card_of came

  pub finished_card : (n : ℕ) → found_of s ≡ Some n → Card bs (take n c)
  finished_card n e = (scanned_card a room bs (take n c)).0 (sym left ∙ ap (numbers_in c) e)

  pub finished_none : found_of s ≡ None → (ns : List ℕ) → Card bs ns → ⊥
  finished_none e = (scanned_none a room bs).0 (sym left ∙ ap (numbers_in c) e)
