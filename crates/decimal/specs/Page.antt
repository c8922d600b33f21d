-- Writing into a lent buffer.
use Rattle.std.specs.Prelude.{ℕ, ◌+◌, ◌≤◌, min, ◌≡◌, List, [], ◌∷◌, ◌++◌, length, set, take, drop, ltb, cond}

-- the buffer, and how many of its bytes are used
pub record Page : Type 0 where
  pub bytes : List ℕ
  pub used : ℕ

abbrev pub page_of : List ℕ → ℕ → Page
page_of bs n = record { bytes = bs; used = n }

-- so many bytes are used, and lent as a part they are so many
abbrev pub Used : ℕ → List ℕ → Type 0
Used n bs = (n ≤ length bs) × (n ≡ length (take n bs))

-- a text in a buffer from the front, as much of it as there is room for; behind it nothing changes
unfoldable pub page : List ℕ → List ℕ → Page
page out text = page_of (take (length out) text ++ drop (length text) out) (min (length text) (length out))

-- a byte behind those used, if there is room
unfoldable pub wrote_byte : Page → ℕ → Page
wrote_byte p b = cond (ltb p.used (length p.bytes)) (page_of (set p.bytes p.used b) (p.used + 1)) p

-- a list of bytes
unfoldable pub wrote : Page → List ℕ → Page
wrote p [] = p
wrote p (b ∷ bs) = wrote (wrote_byte p b) bs
