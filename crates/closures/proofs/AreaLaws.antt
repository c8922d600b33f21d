-- What storing leaves of an area.
use mathlib.Core.List.{List}
use mathlib.Core.Path.{◌≡◌, refl, ap, ◌∙◌}
use Prim.Native.Nat.{ℕ, ◌+◌, ◌*◌, ◌≤◌, ◌<◌}
use native.Mathlib.Omega.{arith}
use lib.ListN.{length, get_or, take, drop, set, length-set}
use lib.Seq.{get_or-set_other, paste, length-paste}
use Rattle.std.proofs.lemmas.List.{drop-set-add}
use Rattle.std.proofs.Math.Seq.{take-set-lt}
use Rattle.items.specs.Item.{set_size}
use Rattle.closures.specs.Areas.{slot, Kept, Added}
use Rattle.items.proofs.AreaLaws.{paste_low, paste_high, part_eq, part_new}

pub kept_same : (l : List ℕ) (n : ℕ) → Kept l n l
kept_same l n = record { kept = λ k h. refl }

pub kept_set : (l₀ l : List ℕ) (n i v : ℕ) → Kept l₀ n l → i < n → Kept l₀ n (set l i v)
kept_set l₀ l n i v p h = record { kept = λ k g. get_or-set_other l i k v 0 (λ e. omega arith) ∙ p.kept k g }

pub kept_then : {l₀ l₁ l₂ : List ℕ} {m n : ℕ} → Kept l₀ n l₁ → Kept l₁ m l₂ → m ≤ n → Kept l₀ n l₂
kept_then a b h = record { kept = λ k g. b.kept k (omega arith) ∙ a.kept k g }

pub added : (z : List ℕ) (n : ℕ) (s : List ℕ) → length s ≡ set_size → n * set_size + set_size ≤ length z → Added z n s (paste z (n * set_size) s set_size)
added z n s ls fit =
    let lp : length (paste z (n * set_size) s set_size) ≡ length z = length-paste z (n * set_size) s set_size fit (omega arith) in
    record {
      new = rw ls at (part_new z (n * set_size) s (omega arith));
      low = λ q l. part_eq (q * set_size) set_size _ z (omega arith) (omega arith) (λ k h. paste_low z (n * set_size) s set_size fit (omega arith) (q * set_size + k) (omega arith));
      high = λ q h f. part_eq (q * set_size) set_size _ z (omega arith) (omega arith) (λ k g. paste_high z (n * set_size) s set_size fit (omega arith) (q * set_size + k) (omega arith));
      behind = record { kept = λ k h. paste_high z (n * set_size) s set_size fit (omega arith) k h };
    }

-- one word of a set is written
pub word_added : (z : List ℕ) (n k v : ℕ) → k < set_size → n * set_size + set_size ≤ length z → Added z n (set (slot z n) k v) (set z (n * set_size + k) v)
word_added z n k v h fit =
    let at = n * set_size + k in
    let ls : length (set z at v) ≡ length z = length-set z at v in
    let other : (j : ℕ) → (j ≡ at → ⊥) → get_or (set z at v) j 0 ≡ get_or z j 0 = λ j e. get_or-set_other z at j v 0 e in
    record {
      new = ap (take set_size) (drop-set-add (n * set_size) z k v) ∙ take-set-lt set_size (drop (n * set_size) z) k v h;
      low = λ q l. part_eq (q * set_size) set_size _ z (omega arith) (omega arith) (λ j g. other (q * set_size + j) (λ e. omega arith));
      high = λ q l f. part_eq (q * set_size) set_size _ z (omega arith) (omega arith) (λ j g. other (q * set_size + j) (λ e. omega arith));
      behind = record { kept = λ j g. other j (λ e. omega arith) };
    }
