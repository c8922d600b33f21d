-- What was fed in two parts was fed as one, the end of the input feeds nothing, and what it makes of the scan.
use Rattle.std.proofs.Common.{◌≡◌, refl, sym, ap, ◌∙◌, List, [], ◌++◌, ℕ, ◌≤◌, length, IfSome, subst, arith}
use Rattle.std.specs.Prelude.{Option, Some, None, Ok}
use Rattle.std.specs.Io.KnownBytes.{Keeps, IsAtEnd}
use Rattle.std.proofs.KnownBytes.{Consumes-nil, Consumes-kept, Consumes-trans, Consumes-whole}
use lib.Seq.{length-take-le}
use Rattle.decimal.specs.declared.scanner.Scan.{Scan}
use Rattle.decimal.specs.declared.scanner.Scan.TheVariants.{Between}
use Rattle.decimal.specs.Scanning.{Fed, fed_of, fed, found_of}
use Rattle.decimal.proofs.Chunks.{fed_append}
use Rattle.decimal.proofs.Scanned.{finished_room, finished_card, finished_none}
use Rattle.card_input.specs.Reading.{card_size, FedMore, Came}

pub none : (old : Option (List ℕ)) (f : Fed) → FedMore old old f f
unfolding fed
none old f = ([], refl, Consumes-nil old)

-- a read that brought nothing
pub kept : (old new : Option (List ℕ)) (f : Fed) → Keeps old new → FedMore old new f f
unfolding fed
kept old new f k = ([], refl, Consumes-kept old old new [] (Consumes-nil old) k)

pub joined : (old mid new : Option (List ℕ)) (f g h : Fed) → FedMore old mid f g → FedMore mid new g h → FedMore old new f h
joined old mid new f g h a b = (
  a.0 ++ b.0,
  b.1 ∙ ap (λ (k : Fed). fed k b.0) a.1 ∙ sym (fed_append f a.0 b.0),
  Consumes-trans old mid new a.0 b.0 a.2 b.2,
)

-- the end of the input
pub ended : (old mid new : Option (List ℕ)) (f : Fed) (a b : List ℕ) (s : Scan) → FedMore old mid f (fed_of a s) → b ≡ a → Keeps mid new → IsAtEnd new
    → (bs : List ℕ) × (fed_of b s ≡ fed f bs) × IfSome old (λ xs. bs ≡ xs)
ended old mid new f a b s x e k end = (
  x.0,
  rw e x.1,
  Consumes-whole old new x.0 (λ xs. x.0 ≡ xs) (Consumes-kept old mid new x.0 x.2 k) end refl,
)

-- what holds of the bytes that left a reader which is at its end holds of those that it had
pub known : (old : Option (List ℕ)) (bs : List ℕ) (P : List ℕ → Type 0) → IfSome old (λ xs. bs ≡ xs) → P bs → IfSome old P
known None bs P e p = tt
known (Some xs) bs P e p = subst P e p

-- a scan that ended, and what `finish` says of it
module _ (s : Scan) (a b bs : List ℕ) (room : length a ≡ card_size) (came : fed_of b s ≡ fed (fed_of a (Between 0)) bs) where
  pub answered : (r : Option ℕ) → r ≡ found_of s → IfSome r (λ n. n ≤ card_size) → Came bs b (Ok r)
  answered (Some n) e h =
      let l : length b ≡ card_size = finished_room a b bs s room came in
      let u : n ≤ length b = omega arith in
      record { card = finished_card a b bs s room came n (sym e); used = (u, sym (length-take-le n b u)) }
  answered None e h = finished_none a b bs s room came (sym e)
