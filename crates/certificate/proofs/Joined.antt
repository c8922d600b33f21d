-- Card 12: the maker and the reader with a card that was merged of two.
use Prim.Native.Nat.{ℕ, ◌+◌}
use mathlib.Core.Path.{◌≡◌, refl}
use mathlib.Core.Logic.{◌↔◌, ◌⊎◌, inl, inr}
use mathlib.Core.List.{List, [], ◌∷◌, map, reverse}
use lib.ListN.{take}
use Rattle.sets.specs.Bit.{bit}
use Rattle.sets.specs.Tests.{all_below, between}
use Rattle.grammar.specs.Grammar.{Symbols, Sentence, Rightmost}
use Rattle.grammar.specs.Card
use Rattle.grammar.specs.Card.{productions, grammar_of, symbols, symbol_of, start_of, right_of, is_nonterminal, is_symbol, lefts_ok, rights_ok, form_fault}
use Rattle.lalr.specs.Answer.{Answer, made, conflict, numbers_of}
use Rattle.lalr.specs.Meaning.{Judged, useless, many, wide, clash, fine}
use Rattle.lalr.specs.ComputedNonterminals.{nullables, productive, reachable, useless_nonterminal, firsts}
use Rattle.lalr.specs.ComputedStates
use Rattle.lalr.specs.ComputedStates.{facts, closure, advance, goto}
use Rattle.lalr.specs.ComputedAnswer.{card_answer}
use Rattle.lalr.specs.ComputedGenerator.{generated}
use Rattle.lalr.specs.Demand2.{Room}
use Rattle.lalr.proofs.Demand2.{demand_2}
use Rattle.machine.specs.Report.{Reading, number_of, productions_of}
use Rattle.machine.specs.ComputedRun.{reading}
use Rattle.claim.specs.Claim.{Settled, Demand3}
use Rattle.merged_card.specs.Merged.{moved, merged_card}
use Rattle.merged_card.specs.Joined.{FromFirst, FromSecond, Joins}
use Rattle.merged_card.proofs.Embedding.{sentence_rightmost}
use Rattle.merge.specs.Answer.{Merges}
use Rattle.std.specs.Prelude.{Ok}
use Rattle.merge.proofs.Example.{card_b}
use Rattle.merge.proofs.OneMerge.{area_joins}
use Rattle.certificate.specs.PastTen.{PastTen, table, states, transitions, two_actions}
use Rattle.certificate.specs.Rows.{card_a}
use Rattle.certificate.proofs.Demands.{demand_3}
use Rattle.certificate.proofs.Examples.{settled}

-- a and b were merged into an area: its first n numbers are the merged card. The maker is handed these, with its areas t, z and w
module _ (a b old : List ℕ) {n : ℕ} {new : List ℕ} (merge : Merges a b old (Ok n) new) (t z w : List ℕ) where
  joins : Joins a b (take n new)
  joins = area_joins a b old merge

  -- with areas of full length it answers with 11, 12, 13 or a table
  pub merged_answer : Room t z w → PastTen (generated t z w (take n new)).answer
  merged_answer o = go (demand_2 t z w (take n new) o joins.formed).answer
    where
      go : {r : Answer} → Judged (grammar_of (take n new)) r → PastTen r
      go (useless {x} n u l) = absurd (u (joins.useful x n))
      go (many u s) = states
      go (wide c x u s f h) = transitions
      go (clash c x s h) = two_actions
      go (fine c x s h) = table

  -- where it makes a table, and the reader is handed that
  module _ (e : numbers_of (generated t z w (take n new)).answer ≡ 0 ∷ []) (input stack list second : List ℕ) (limit : ℕ) where
    abbrev read : Reading
    read = reading (generated t z w (take n new)).table input stack list second limit

    claim : Demand3 (grammar_of (take n new)) input read
    claim = demand_3 t z w (take n new) e input stack list second limit

    -- "Its sentences are those of either card": the reader accepts just these, where it takes the input and does not run out
    pub merged_accepts : Settled (number_of read) → (number_of read ≡ 0) ↔ (Sentence (grammar_of a) input ⊎ Sentence (grammar_of b) input)
    merged_accepts s =
        let d = claim.accepts s in
        let k = joins.sentences input in
        (λ h. k.0 (d.0 h), λ h. d.1 (k.1 h))

    -- of a sentence of the first card it lists, backwards, production 0 and then a derivation of that card, of one of the second 1 and then a derivation of
    -- that: the last production listed tells the card
    pub merged_lists : number_of read ≡ 0 → (Sentence (grammar_of a) input → FromFirst a (reverse (productions_of read)) input) × (Sentence (grammar_of b) input → FromSecond a b (reverse (productions_of read)) input)
    merged_lists h = (λ s. first (sentence_rightmost (grammar_of a) s), λ s. second' (sentence_rightmost (grammar_of b) s))
      where
        terminals : Symbols (grammar_of (take n new)).terminals input
        terminals = ((claim.accepts (settled (inl h))).0 h).terminals

        first : (q : List ℕ) × Rightmost (grammar_of a) ((grammar_of a).terminals ∷ []) q input → FromFirst a (reverse (productions_of read)) input
        first q =
            let p : FromFirst a (0 ∷ map (λ r. 2 + r) q.0) input = record { within = q.0; is = refl; derivation = q.1 } in
            rw (claim.only h _ ((joins.derivations _ input terminals).1 (inl p))) at p

        second' : (q : List ℕ) × Rightmost (grammar_of b) ((grammar_of b).terminals ∷ []) q input → FromSecond a b (reverse (productions_of read)) input
        second' q =
            let p : FromSecond a b (1 ∷ map (λ r. 2 + productions a + r) q.0) input = record { within = q.0; is = refl; derivation = q.1 } in
            rw (claim.only h _ ((joins.derivations _ input terminals).1 (inr p))) at p

-- "The maker may still find a conflict in it": card A with itself; and with a card whose one sentence is 1 2 it gets a table
pub a_twice : card_answer (merged_card card_a card_a) ≡ conflict 1 0 1027 1029
unfolding bit all_below between Card.terminals Card.nonterminals Card.productions symbols Card.left_of Card.length_of symbol_of start_of right_of Card.sizes_ok is_nonterminal is_symbol lefts_ok rights_ok form_fault nullables productive reachable useless_nonterminal firsts ComputedStates.states facts closure advance goto ComputedStates.start merged_card moved
a_twice = refl

pub a_and_another : card_answer (merged_card card_a card_b) ≡ made
unfolding bit all_below between Card.terminals Card.nonterminals Card.productions symbols Card.left_of Card.length_of symbol_of start_of right_of Card.sizes_ok is_nonterminal is_symbol lefts_ok rights_ok form_fault nullables productive reachable useless_nonterminal firsts ComputedStates.states facts closure advance goto ComputedStates.start merged_card moved
a_and_another = refl
