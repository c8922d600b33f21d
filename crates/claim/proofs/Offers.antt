-- What fresh readings say of the grammar: over a table that means it, where no limit cuts the reading short, a terminal is shifted behind a line just where
-- line and terminal begin a sentence, and the line is accepted just where it is one.
use Prim.Native.Nat.{ℕ, ◌-◌, ◌<◌}
use mathlib.Core.Path.{◌≡◌, refl}
use mathlib.Core.Logic.{◌≢◌, ◌↔◌}
use mathlib.Core.List.{List, [], ◌∷◌, ◌++◌, append-nil, append_assoc}
use lib.ListN.{length}
use native.Mathlib.Omega.{arith}
use Rattle.grammar.specs.Grammar.{Grammar, Formed, Symbols, none, more, Sentence}
use Rattle.grammar.proofs.Yield.{symbols_append, symbols_back}
use Rattle.lr.proofs.ItemLaws.{AllProductive}
use Rattle.lr.proofs.ErrorPosition.{Begins}
use Rattle.tables.specs.Layout.{terminals}
use Rattle.machine.specs.Exploration.{Comes, unlisted, Explored, shifts, stops, reads, Cut}
use Rattle.machine.specs.Restricted.{Open, OpenOffer}
use Rattle.machine.proofs.LrMachineLaws.{conf}
use Rattle.machine.proofs.ReportLaws.{Stops}
use Rattle.machine.proofs.Settles.{path_unread}
use Rattle.machine.proofs.Explorations.{some_long, ends_somehow, Way, found, wrong, cut_off, way}
use Rattle.claim.specs.RestrictedClaim.{RestrictedOffer}
use Rattle.claim.proofs.Means.{Limits, TableMeans}
use Rattle.claim.proofs.Endings.{Ended, sentence, no_sentence, out_32, out_33, out_34, ended, read_begins, end_is}

-- ---- for any table

-- the fresh reading of terminal m is not cut short
abbrev Uncut : (t : List ℕ) (limit second : ℕ) (line : List ℕ) (m : ℕ) → Type 0
Uncut t limit second line m = m < terminals t → (n : ℕ) → Explored t limit second line m n → Cut n → ⊥

-- where it does not stop on 31 either it shifts its terminal, or accepts
explores : {t line : List ℕ} {limit second m : ℕ} → 0 < second → m < terminals t → Uncut t limit second line m → (Explored t limit second line m 31 → ⊥) → Explored t limit second line m 0
explores {t} {line} {limit} {second} {m} h b uncut z = let x = ends_somehow t line limit second h m in go (way x.1) x.1
  where
    go : {n : ℕ} → Way n → Explored t limit second line m n → Explored t limit second line m 0
    go found x = x
    go wrong x = absurd (z x)
    go (cut_off c) x = absurd (uncut b _ x c)

-- ---- for a table that means a grammar

-- what a stop with number n says of the grammar, of the input l and of what is still to be read of it, x
record Says (g : Grammar) (l x : List ℕ) (n : ℕ) : Type 0 where
  accepted : n ≡ 0 → Sentence g l
  not_accepted : n ≡ 31 → Sentence g l → ⊥
  not_begun : n ≡ 31 → x ≢ [] → Begins g l → ⊥
  not_broken : n ≢ 35

nothing : {g : Grammar} {l x : List ℕ} {n : ℕ} → n ≢ 0 → n ≢ 31 → n ≢ 35 → Says g l x n
nothing a b c = record { accepted = λ e. absurd (a e); not_accepted = λ e. absurd (b e); not_begun = λ e. absurd (b e); not_broken = c }

with_terminal : {n m : ℕ} {line : List ℕ} → Symbols n line → m ≢ 0 → m < n → Symbols n (line ++ m ∷ [])
with_terminal s z h = symbols_append s (more (omega (arith, z)) h none)

-- what begins a sentence are terminals
begins_terminal : (g : Grammar) (line : List ℕ) (m : ℕ) → Begins g (line ++ m ∷ []) → m < g.terminals
begins_terminal g line m b = go (symbols_back line (rw append_assoc at b.whole.terminals))
  where
    go : {x : List ℕ} → Symbols g.terminals (m ∷ x) → m < g.terminals
    go (more h k _) = k

sentence_begins : {g : Grammar} {l : List ℕ} → Sentence g l → Begins g l
sentence_begins s = record { completion = []; whole = rw append-nil s }

module _ (g : Grammar) (f : Formed g) (pr : AllProductive g) (li : Limits g) (t : List ℕ) (tm : TableMeans g t) where
  below : {m : ℕ} → m < terminals t → m < g.terminals
  below b = rw tm.terminals_are at b

  above : {m : ℕ} → m < g.terminals → m < terminals t
  above b = rw tm.terminals_are b

  module _ {limit second left : ℕ} {l qs x out : List ℕ} (sl : Symbols g.terminals l) (c : Comes t limit second l (conf qs x out) left) where
    says : {n : ℕ} → Stops t (unlisted limit second left) (conf qs x out) n → Says g l x n
    says w = go (ended g f pr li t tm sl c.path w (length l - length x) (λ _. omega (arith, path_unread t c.path)))
      where
        go : {n : ℕ} → Ended g l (length l - length x) out n → Says g l x n
        go (sentence s _ _) = record { accepted = λ _. s; not_accepted = λ e. absurd (omega arith); not_begun = λ e. absurd (omega arith); not_broken = λ e. omega arith }
        go (no_sentence s p) =
            record {
              accepted = λ e. absurd (omega arith);
              not_accepted = λ _. s;
              not_begun = λ _ n b. omega (arith, some_long x n, path_unread t c.path, (end_is g l (length l - length x) p).1 (b, s));
              not_broken = λ e. omega arith;
            }
        go out_32 = nothing (λ e. omega arith) (λ e. omega arith) (λ e. omega arith)
        go out_33 = nothing (λ e. omega arith) (λ e. omega arith) (λ e. omega arith)
        go out_34 = nothing (λ e. omega arith) (λ e. omega arith) (λ e. omega arith)

  module _ {limit second : ℕ} {line : List ℕ} (sl : Symbols g.terminals line) where
    -- a terminal that is shifted goes on to a sentence
    pub shifted_begins : {m : ℕ} → m ≢ 0 → m < g.terminals → Explored t limit second line m 0 → Begins g (line ++ m ∷ [])
    shifted_begins z b x = go z b x refl
      where
        go : {m n : ℕ} → m ≢ 0 → m < g.terminals → Explored t limit second line m n → n ≡ 0 → Begins g (line ++ m ∷ [])
        go {m} z b (shifts _ c) e = read_begins g f pr li t tm (with_terminal sl z b) c.path (line ++ m ∷ []) (append-nil (line ++ m ∷ []))
        go z b (stops _ _ c w) e = sentence_begins ((says (with_terminal sl z b) c w).accepted e)
        go z b (reads c w) e = absurd (z refl)

    -- and one on which the reading stops with 31 does not
    pub wrong_begins_none : {m : ℕ} → m ≢ 0 → m < g.terminals → Explored t limit second line m 31 → Begins g (line ++ m ∷ []) → ⊥
    wrong_begins_none z b x = go z b x refl
      where
        go : {m n : ℕ} → m ≢ 0 → m < g.terminals → Explored t limit second line m n → n ≡ 31 → Begins g (line ++ m ∷ []) → ⊥
        go z b (shifts _ c) e = absurd (omega arith)
        go z b (stops _ n c w) e = (says (with_terminal sl z b) c w).not_begun e n
        go z b (reads c w) e = absurd (z refl)

    -- a line that is accepted is a sentence
    pub accepted_sentence : Explored t limit second line 0 0 → Sentence g line
    accepted_sentence x = go x refl refl
      where
        go : {m n : ℕ} → Explored t limit second line m n → m ≡ 0 → n ≡ 0 → Sentence g line
        go (shifts z c) em e = absurd (z em)
        go (stops z _ c w) em e = absurd (z em)
        go (reads {c = conf qs x out} c w) em e = (says sl c w).accepted e

    -- and one on which the reading stops with 31 is none
    pub wrong_sentence_none : Explored t limit second line 0 31 → Sentence g line → ⊥
    wrong_sentence_none x = go x refl refl
      where
        go : {m n : ℕ} → Explored t limit second line m n → m ≡ 0 → n ≡ 31 → Sentence g line → ⊥
        go (shifts z c) em e = absurd (z em)
        go (stops z _ c w) em e = absurd (z em)
        go (reads {c = conf qs x out} c w) em e = (says sl c w).not_accepted e

    -- "with the maker's table 35 never comes"
    pub unbroken : {m : ℕ} → m < g.terminals → Explored t limit second line m 35 → ⊥
    unbroken b x = go b x refl
      where
        go : {m n : ℕ} → m < g.terminals → Explored t limit second line m n → n ≢ 35
        go b (shifts z c) e = omega arith
        go b (stops z _ c w) e = (says (with_terminal sl z b) c w).not_broken e
        go b (reads {c = conf qs x out} c w) e = (says sl c w).not_broken e

    module _ (h : 0 < second) where
      -- where terminal m's fresh reading is not cut short it shifts m just where m goes on to a sentence
      pub follower : {m : ℕ} → m ≢ 0 → Uncut t limit second line m → ((m < terminals t) × Explored t limit second line m 0) ↔ Begins g (line ++ m ∷ [])
      follower {m} z u = (
        λ p. shifted_begins z (below p.0) p.1,
        λ p. let b = begins_terminal g line m p in (above b, explores h (above b) u (λ x. wrong_begins_none z b x p)),
      )

      -- and accepts just where the line is a sentence
      pub finish : Uncut t limit second line 0 → ((0 < terminals t) × Explored t limit second line 0 0) ↔ Sentence g line
      finish u = (λ p. accepted_sentence p.1, λ s. (above f.end_marker, explores h (above f.end_marker) u (λ x. wrong_sentence_none x s)))

      -- the offer is the grammar's, "and leaves closed marks out of offers"
      pub restricted_offer : {closed word : ℕ} → Open closed 0 → OpenOffer t closed limit second line word → RestrictedOffer g closed line word
      restricted_offer {closed} {word} c o =
          record {
            followers = λ m z. (
              λ i. let p = (o.members m).0 i in (p.1, (follower z (λ b n. o.uncut m n b p.1)).0 (p.0, p.2)),
              λ p. let q = (follower z (λ b n. o.uncut m n b p.0)).1 p.1 in (o.members m).1 (q.0, p.0, q.1),
            );
            end = (
              λ i. let p = (o.members 0).0 i in (finish (λ b n. o.uncut 0 n b c)).0 (p.0, p.2),
              λ s. let q = (finish (λ b n. o.uncut 0 n b c)).1 s in (o.members 0).1 (q.0, c, q.1),
            );
          }
