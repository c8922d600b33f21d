-- Writing a text in parts is writing it whole, and what is written from the front is the text.
use mathlib.Core.Path.{◌≡◌, refl, sym, ap, ◌∙◌}
use mathlib.Core.List.{List, [], ◌∷◌, ◌++◌, append_assoc, append-nil}
use Prim.Native.Nat.{ℕ, suc, ◌+◌, ◌<◌, ◌≤◌, min}
use native.Mathlib.Numerals.{add-one}
use native.Mathlib.Omega.{arith}
use borrow.Author.Tests.{lt-ltb, le-ltb}
use lib.ListN.{length, get_or, take, drop, length-append, length-take, length-drop, drop_of_length-le}
use Rattle.std.proofs.lemmas.List.{take_more}
use base.Fml.{GName}
use lib.Seq.{drop-cons, take_all, take-append-le, take-append_seam, length-take-le, set_at}
use Rattle.decimal.specs.declared.writer.Page.{Page as Lent}
use Rattle.decimal.specs.Page.{Page, page_of, Used, page, wrote_byte, wrote}
use Rattle.decimal.specs.Writing.{page_in, Wrote}
use Rattle.decimal.proofs.Cases.{cases_lt}

pub wrote_append : (p : Page) (xs ys : List ℕ) → wrote (wrote p xs) ys ≡ wrote p (xs ++ ys)
unfolding wrote
wrote_append p [] ys = refl
wrote_append p (x ∷ xs) ys = wrote_append (wrote_byte p x) xs ys

-- nothing is written
pub wrote_none : (p : Lent) → Wrote p [] p
unfolding wrote
wrote_none p = record { buffer = refl; page = refl }

-- a text and another one behind it
pub wrote_both : {p q r : Lent} {xs ys : List ℕ} → Wrote p xs q → Wrote q ys r → Wrote p (xs ++ ys) r
wrote_both {p} {xs = xs} {ys = ys} h k = record { buffer = k.buffer ∙ h.buffer; page = k.page ∙ rw h.page (wrote_append (page_in p) xs ys) }

-- one byte more of a list
pub wrote_next : (bs : List ℕ) (i : ℕ) {p q r : Lent} → i < length bs → Wrote p (take i bs) q → Wrote q (get_or bs i 0 ∷ []) r → Wrote p (take (i + 1) bs) r
wrote_next bs i l h k = rw (take_more bs i 0 l) (wrote_both h k)

-- a text with room for it, and one with none to spare
pub page_fits : (out xs : List ℕ) → length xs ≤ length out → page out xs ≡ page_of (xs ++ drop (length xs) out) (length xs)
unfolding page
page_fits out xs h =
    let e : min (length xs) (length out) ≡ length xs = omega arith in
    rw (take_all (length out) xs h, e) refl

pub page_full : (out xs : List ℕ) → length out ≤ length xs → page out xs ≡ page_of (take (length out) xs) (length out)
unfolding page
page_full out xs h =
    let e : min (length xs) (length out) ≡ length out = omega arith in
    rw (drop_of_length-le out h, append-nil, e) refl

-- the bytes used
pub page_used : (out xs bs : List ℕ) (n : ℕ) → page_of bs n ≡ page out xs → Used n bs
page_used out xs bs n e =
    cases_lt (length xs) (length out)
    (λ h.
    let f : page_of bs n ≡ page_of (xs ++ drop (length xs) out) (length xs) = e ∙ page_fits out xs (omega arith) in
    used (ap (λ (p : Page). p.bytes) f) (ap (λ (p : Page). p.used) f) (simp length-append (omega arith)))
    (λ h.
    let f : page_of bs n ≡ page_of (take (length out) xs) (length out) = e ∙ page_full out xs h in
    used (ap (λ (p : Page). p.bytes) f) (ap (λ (p : Page). p.used) f) (simp length-take (omega arith)))
  where
    used : {ys : List ℕ} {m : ℕ} → bs ≡ ys → n ≡ m → m ≤ length ys → Used n bs
    used {ys} {m} f g h = rw (f, g) (h, sym (length-take-le m ys h))

-- which are the text, where there is room for it
pub page_text : (out xs bs : List ℕ) (n : ℕ) → page_of bs n ≡ page out xs → length xs ≤ length out → take n bs ≡ xs
page_text out xs bs n e h =
    let f : page_of bs n ≡ page_of (xs ++ drop (length xs) out) (length xs) = e ∙ page_fits out xs h in
    rw (ap (λ (p : Page). p.bytes) f, ap (λ (p : Page). p.used) f) (take-append_seam xs (drop (length xs) out))

byte_fits : (out xs : List ℕ) (b : ℕ) → length xs < length out
    → wrote_byte (page_of (xs ++ drop (length xs) out) (length xs)) b ≡ page_of ((xs ++ b ∷ []) ++ drop (length (xs ++ b ∷ [])) out) (length (xs ++ b ∷ []))
unfolding wrote_byte
byte_fits out xs b h =
    let l : length xs < length (xs ++ drop (length xs) out) = simp (length-append, length-drop) (omega arith) in
    let n : length (xs ++ b ∷ []) ≡ length xs + 1 = simp length-append in
    rw (lt-ltb (length xs) (length (xs ++ drop (length xs) out)) l, n, drop-cons out (length xs) 0 h, set_at xs (get_or out (length xs) 0) (drop (suc (length xs)) out) b (length xs) refl, append_assoc, add-one) refl

byte_full : (out xs : List ℕ) (b : ℕ) → length out ≤ length xs → wrote_byte (page_of (take (length out) xs) (length out)) b ≡ page_of (take (length out) xs) (length out)
unfolding wrote_byte
byte_full out xs b h =
    let l : length (take (length out) xs) ≤ length out = simp length-take (omega arith) in
    rw (le-ltb (length out) (length (take (length out) xs)) l) refl

page_more : (out xs : List ℕ) (b : ℕ) → wrote_byte (page out xs) b ≡ page out (xs ++ b ∷ [])
page_more out xs b =
    cases_lt (length xs) (length out)
    (λ h.
    rw (page_fits out xs (omega arith), page_fits out (xs ++ b ∷ []) (simp length-append (omega arith))) (byte_fits out xs b h))
    (λ h.
    rw (page_full out xs h, page_full out (xs ++ b ∷ []) (simp length-append (omega arith)), take-append-le (length out) xs (b ∷ []) h)
    (byte_full out xs b h))

wrote_page : (out xs bs : List ℕ) → wrote (page out xs) bs ≡ page out (xs ++ bs)
unfolding wrote
wrote_page out xs [] = rw append-nil refl
wrote_page out xs (b ∷ bs) = rw (page_more out xs b) (wrote_page out (xs ++ b ∷ []) bs ∙ rw append_assoc refl)

-- what is written from the front is the text, as much of it as there is room for
pub wrote_front : (out bs : List ℕ) → wrote (page_of out 0) bs ≡ page out bs
wrote_front out bs = rw (← page_fits out [] (omega arith)) (wrote_page out [] bs)

-- a page of a buffer, from its start to its end, when the buffer is no longer lent
pub page_written : {p q : Lent} {out bs after : List ℕ} {n : ℕ} {name : GName} → Wrote p bs q → p.out.ghost_name ≡ name → page_in p ≡ page_of out 0 → n ≡ q.used
    → (name ≡ q.out.ghost_name → after ≡ q.out.now) → page_of after n ≡ page out bs
page_written {out = out} {bs = bs} h b e f g = rw (f, g (sym b ∙ sym h.buffer)) (h.page ∙ rw e (wrote_front out bs))

-- and so many of its bytes are used
pub used_written : {p q : Lent} {out bs after : List ℕ} {n : ℕ} {name : GName} → Wrote p bs q → p.out.ghost_name ≡ name → page_in p ≡ page_of out 0 → n ≡ q.used
    → (name ≡ q.out.ghost_name → after ≡ q.out.now) → Used n after
used_written {out = out} {bs = bs} {after = after} {n = n} h b e f g = page_used out bs after n (page_written h b e f g)
