-- How a run of the LR machine over a table that means a grammar ends, in the grammar's words.
use Prim.Native.Nat.{ℕ, suc, ◌+◌}
use mathlib.Core.Path.{◌≡◌, refl, sym}
use mathlib.Core.Logic.{◌↔◌}
use mathlib.Core.List.{List, [], ◌∷◌, ◌++◌, append_cancel_right, reverse}
use lib.ListN.{length, drop, take, take-append-drop}
use native.Mathlib.Omega.{arith}
use Rattle.grammar.specs.Grammar.{Grammar, Formed, Symbols, Sentence, Rightmost}
use Rattle.grammar.proofs.Yield.{nil}
use Rattle.lr.proofs.Runs
use Rattle.lr.proofs.Canonical.{start_viable, by_path}
use Rattle.lr.specs.Items
use Rattle.lr.proofs.ItemLaws.{AllProductive, begins}
use Rattle.lr.proofs.MachineLaws.{accepted, refused, Read, read, sound}
use Rattle.lr.proofs.ErrorPosition.{Begins, ErrorPosition, at_terminal, at_end_is, place_of, begins_front, extends_begins}
use Rattle.sets.specs.Lists.{peek}
use Rattle.machine.specs.Stops.{Allowed, Stops, accepted_here, wrong_here, no_steps, list_full, broken_here, stack_full}
use Rattle.machine.proofs.LrMachineLaws.{Config, conf, Path}
use Rattle.claim.proofs.Means.{Limits, TableMeans}
use Rattle.claim.proofs.Follow.{act, tab, on, follows, Followed, followed, ends_accept, ends_wrong, never_broken}

-- the end is named just where the input begins a sentence and is none
pub end_is : (g : Grammar) (l : List ℕ) (i : ℕ) → ErrorPosition g l i → (i ≡ length l) ↔ (Begins g l × (Sentence g l → ⊥))
end_is g l i (at_terminal h b n) = (
  λ e. absurd (omega arith),
  λ t. absurd (n (begins_front g (take (suc i) l) (drop (suc i) l) (rw take-append-drop t.0))),
)
end_is g l i (at_end_is e b n) = (λ _. (b, n), λ _. e)

-- how a run that was not refused ends, the productions p being listed, and the place i named where the input is wrong
pub data Ended (g : Grammar) (l : List ℕ) (i : ℕ) (p : List ℕ) : ℕ → Type 0 where
  sentence : Sentence g l → Rightmost g (g.terminals ∷ []) (reverse p) l → ((q : List ℕ) → Rightmost g (g.terminals ∷ []) q l → q ≡ reverse p) → Ended g l i p 0
  no_sentence : (Sentence g l → ⊥) → ErrorPosition g l i → Ended g l i p 31
  out_32 : Ended g l i p 32
  out_33 : Ended g l i p 33
  out_34 : Ended g l i p 34

module _ (g : Grammar) (f : Formed g) (pr : AllProductive g) (li : Limits g) (t : List ℕ) (tm : TableMeans g t) where
  -- a path from the start over input l, as a run along a path γ of the grammar
  record Along (l qs x out : List ℕ) : Type 0 where
    γ : List ℕ
    run : Runs.Run g (act g f pr li t tm) [] l out γ x
    viable : Items.Viable g γ
    terminals : Symbols g.terminals x
    stack : qs ≡ on g f pr li t tm γ

  module _ {l : List ℕ} (m : Symbols g.terminals l) {steps most : ℕ} {qs x out : List ℕ} (mv : Path t steps most (conf (0 ∷ []) l []) (conf qs x out)) where
    along : Along l qs x out
    along = go (follows g f pr li t tm mv [] l [] refl (start_viable g) m) refl
      where
        go : {c : Config} → Followed g f pr li t tm [] l [] steps c → c ≡ conf qs x out → Along l qs x out
        go (followed {γ'} {x'} {p} s v mx e) ec =
            let ex : x' ≡ x = cc in
            let eo : p ≡ out = cc in
            record { γ = γ'; run = rw (ex, eo) at s; viable = v; terminals = rw ex at mx; stack = cc }

    pub ended : {a : Allowed} {n : ℕ} → Stops t a (conf qs x out) n → (i : ℕ) → (n ≡ 31 → i + length x ≡ length l) → Ended g l i out n
    ended {a} w i hi = finish along hi w
      where
        finish : {qs x out : List ℕ} → Along l qs x out → {n : ℕ} → (n ≡ 31 → i + length x ≡ length l) → Stops t a (conf qs x out) n → Ended g l i out n
        finish s ei (accepted_here h _) =
            let a = accepted g f (act g f pr li t tm) (tab g f pr li t tm) m s.run (ends_accept g f pr li t tm s.γ s.terminals s.stack h refl) in
            sentence a.sentence a.derivation a.only
        finish s ei (wrong_here h) =
            let z = place_of g (refused g f (act g f pr li t tm) (tab g f pr li t tm) pr m s.run (ends_wrong g f pr li t tm s.γ s.terminals s.stack h refl)) in
            let ez : z.0 ≡ i = omega (arith, z.1, ei refl) in
            no_sentence z.2 (rw ez at z.3)
        finish s ei (no_steps _ _) = out_32
        finish s ei (list_full _ _ _) = out_34
        finish s ei (broken_here h _ _) = absurd (never_broken g f pr li t tm s.viable s.terminals s.stack h refl)
        finish s ei (stack_full _ _ _ _) = out_33

    -- acceptance comes with nothing left to read
    pub all_read : {a : Allowed} → Stops t a (conf qs x out) 0 → x ≡ []
    all_read (accepted_here h _) =
        let s = along in
        go s.terminals ((tab g f pr li t tm).accept_from s.viable (ends_accept g f pr li t tm s.γ s.terminals s.stack h refl)).0
      where
        go : {x : List ℕ} → Symbols g.terminals x → peek x ≡ 0 → x ≡ []
        go Symbols.none z = refl
        go (Symbols.more h k _) z = absurd (omega arith)

    -- what has been read begins a sentence
    pub read_begins : (u : List ℕ) → u ++ x ≡ l → Begins g u
    read_begins u e = let s = along in go (sound g f (act g f pr li t tm) (tab g f pr li t tm) s.run m (start_viable g) nil) (sym e)
      where
        go : {p γ w : List ℕ} → Read g f (act g f pr li t tm) (tab g f pr li t tm) p γ x w → w ≡ u ++ x → Begins g u
        go (read {u = u'} (Items.by_item (Items.with_lookahead _ i)) y) e = rw (append_cancel_right u' u x e) at (extends_begins g (begins g f pr (by_path i) y))
