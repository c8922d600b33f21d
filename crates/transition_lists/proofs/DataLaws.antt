-- What both passes leave in the area is what the relations are read from.
use mathlib.Core.Path.{◌≡◌, sym, ap, ap₂, ◌∙◌, subst}
use mathlib.Core.List.{List}
use mathlib.Core.Bool.{true}
use mathlib.Core.Logic.{⊎_elim, ◌≢◌}
use Prim.Native.Nat.{ℕ, ◌+◌, ◌-◌, ◌≤◌, ◌<◌}
use native.Mathlib.Omega.{arith}
use native.Mathlib.Nat.{eq-or-lt_of_le}
use lib.ListN.{get_or}
use Rattle.sets.specs.Bit.{count}
use Rattle.sets.proofs.HasLaws.{lt_or_ge}
use Rattle.grammar.specs.Card.{terminals, productions, start_of, form_fault}
use Rattle.tables.specs.Conflicts.{Before, lower_state, lower_symbol}
use Rattle.transitions.specs.Places.{transition_limit, entering_at, starts_at, lasts_at, productions_at, dots_at, links_at, occurrences_at, lengths_at}
use Rattle.transitions.specs.Area.{leaves_of, nonterminal_of, first_of, entering_of, precedes, starting_of, last_of, link_of, occurrences_of, shortest_of}
use Rattle.transitions.specs.Next.{Goes, Numbered, moves, transition_count}
use Rattle.transitions.specs.Occurrences.{symbol_at, occurring_of, Occurrences}
use Rattle.transitions.specs.Data.{Enters, Data, Built}
use Rattle.transitions.proofs.WriteLaws.{shortest_same}
use Rattle.occurrences.proofs.StoreLaws.{Cleared}
use Rattle.transition_lists.specs.Passes.{Listing, Firsts, Passed, Come}
use Rattle.occurrences.specs.Gathers.{Prepared}
use Rattle.transition_lists.proofs.PassLaws.{lower}
use Rattle.occurrences.proofs.GatherLaws.{latest_same}

-- ---- the card's part, where the places from starts_at on are the same

module _ (c w w' : List ℕ) (same : (i : ℕ) → starts_at ≤ i → get_or w' i 0 ≡ get_or w i 0) where
  occurring_same : (o : ℕ) → occurring_of c w' o ≡ occurring_of c w o
  unfolding occurring_of
  occurring_same o = ap₂ (symbol_at c) (same (productions_at + o) (omega arith)) (same (dots_at + o) (omega arith))

  listed_same : (e : ℕ → ℕ) → Occurrences c e w → Occurrences c e w'
  listed_same e O =
      let m : occurrences_of w' ≡ occurrences_of w = same occurrences_at (omega arith) in
      record {
        most = rw m O.most;
        occurs = λ o h. rw (same (productions_at + o) (omega arith), same (dots_at + o) (omega arith)) (O.occurs o (rw m at h));
        all = λ r d s. let a = O.all r d s in (a.0, rw m a.1, same (productions_at + a.0) (omega arith) ∙ a.2, same (dots_at + a.0) (omega arith) ∙ a.3);
        last = λ j h. rw (m, same (lasts_at + j) (omega arith)) (latest_same c w w' (terminals c + j) (occurrences_of w) (last_of w j) (λ o l. occurring_same o) (O.last j h));
        link = λ o h. rw (same (links_at + o) (omega arith), occurring_same o) (latest_same c w w' (occurring_of c w o) o (link_of w o) (λ o l. occurring_same o) (O.link o (rw m at h)));
      }

  occurrences_same : Occurrences c (shortest_of w) w → Occurrences c (shortest_of w') w'
  occurrences_same O = rw (shortest_same w w' (λ i h. same i (omega arith))) (listed_same (shortest_of w) O)

-- ---- the table's part

never : (p y : ℕ) → Before p y p y → ⊥
never p y (lower_state h) = omega arith
never p y (lower_symbol h l) = omega arith

module _ (c : List ℕ) (n : ℕ) (next : ℕ → ℕ → ℕ) (N : Numbered c n next) (t : 1 ≤ terminals c) (w : List ℕ) (k : ℕ) (P : Passed c next w n 1 k 257) (few : k ≤ transition_limit) where
  L : Listing c next w n 1 k
  L = P.listing few

  F : Firsts w k 257
  F = P.firsts few

  leaves : (i : ℕ) → i < k → leaves_of w i < n
  leaves i h = lower c n next t w n k L i h

  high : (i : ℕ) → i < k → leaves_of w i < 256
  high i h = let a = leaves i h in omega (arith, N.most)

  total : first_of w 256 ≡ k
  total =
      ⊎_elim
      (λ (h : first_of w 256 < k). absurd (let a = F.from 256 (first_of w 256) (omega arith) h (high (first_of w 256) h) in let z : ⊥ = omega arith in z))
      (λ (h : k ≤ first_of w 256). let a = P.most 256 (omega arith) in let z : first_of w 256 ≡ k = omega arith in z)
      (lt_or_ge (first_of w 256) k)

  from : (q i : ℕ) → q < 256 → first_of w q ≤ i → i < first_of w (q + 1) → (i < k) × (leaves_of w i ≡ q)
  from q i hq l g =
      let m = P.most (q + 1) (omega arith) in
      let h : i < k = omega arith in
      let a = F.below (q + 1) i (omega arith) h g in
      (h, ⊎_elim (λ (b : leaves_of w i < q). absurd (let d = F.from q i (omega arith) h b in let z : ⊥ = omega arith in z)) (λ (b : q ≤ leaves_of w i). let z : leaves_of w i ≡ q = omega arith in z) (lt_or_ge (leaves_of w i) q))

  to : (i : ℕ) → i < k → (first_of w (leaves_of w i) ≤ i) × (i < first_of w (leaves_of w i + 1))
  to i h =
      let a = high i h in (
        ⊎_elim (λ (b : i < first_of w (leaves_of w i)). absurd (let d = F.below (leaves_of w i) i (omega arith) h b in let z : ⊥ = omega arith in z)) (λ b. b) (lt_or_ge i (first_of w (leaves_of w i))),
        F.from (leaves_of w i + 1) i (omega arith) h (omega arith),
      )

  once : (i j : ℕ) → i < j → j < k → leaves_of w i ≡ leaves_of w j → nonterminal_of w i ≡ nonterminal_of w j → ⊥
  once i j l h a b = never (leaves_of w j) (nonterminal_of w j) (rw (a, b) at (L.order i j l h))

  one : (i j : ℕ) → i < k → j < k → leaves_of w i ≡ leaves_of w j → nonterminal_of w i ≡ nonterminal_of w j → i ≡ j
  one i j hi hj a b =
      ⊎_elim
      (λ (l : i < j). absurd (once i j l hj a b))
      (λ (l : j ≤ i). ⊎_elim (λ (z : j ≡ i). sym z) (λ (z : j < i). absurd (once j i z hi (sym a) (sym b))) (eq-or-lt_of_le l))
      (lt_or_ge i j)

  goes : (p x q : ℕ) → Goes next p x q → Enters w p x q
  goes p x q g =
      let nz : next p x ≢ 0 = λ z. g.some (sym g.target ∙ z) in
      let hp = N.from p x nz in
      let hq = N.target p x in
      let eq = g.target in
      record {
        from = omega (arith, N.most);
        into = omega (arith, N.most);
        before = subst (λ (z : ℕ). precedes w z p ≡ true) g.target (P.seen.before p x (lower_state hp) nz);
        symbol = subst (λ (z : ℕ). entering_of w z ≡ x) g.target (P.seen.symbol p x (lower_state hp) nz);
      }

  enters : (p x q : ℕ) → Enters w p x q → Goes next p x q
  enters p x q g =
      let o = P.seen.only q p g.into g.from g.before in
      let y = o.0 in
      let nz : next p y ≢ 0 = λ z. o.3 (sym o.2 ∙ z) in
      let ey : y ≡ x = sym (P.seen.symbol p y o.1 nz) ∙ ap (entering_of w) o.2 ∙ g.symbol in
      record { target = ap (next p) (sym ey) ∙ o.2; some = o.3 }

  module _ (ff : form_fault c ≡ 0) (starts : (r : ℕ) → r < productions c → starting_of w r ≡ start_of c r) (O : Occurrences c (shortest_of w) w) (ck : k ≡ transition_count c next n) where
    data_of : Data c w n k next
    data_of = record {
      ordered = record {
        formed = ff;
        few = few;
        total = total;
        leaves = high;
        enters = λ i h. let a = N.target (leaves_of w i) (nonterminal_of w i) in let b = L.target i h in omega (arith, N.most);
        low = L.low;
        high = λ i h. N.high (leaves_of w i) (nonterminal_of w i) (L.some i h);
        from = from;
        to = to;
        one = one;
        starts = starts;
        occurrences = O;
      };
      count = ck;
      states = leaves;
      target = L.target;
      some = L.some;
      listed = λ p x s z. L.all p x s (lower_state (N.from p x z)) z;
      goes = goes;
      enters = enters;
      start = P.seen.start;
    }

-- ---- both

pub built : (c : List ℕ) (n : ℕ) (next : ℕ → ℕ → ℕ) → Numbered c n next → 1 ≤ terminals c → form_fault c ≡ 0 → (k : ℕ) (e w₀ w₁ w₂ w₃ w₄ : List ℕ)
    → Prepared c e w₀ w₁ → Cleared w₁ entering_at starts_at w₂ → Come c next w₂ w₃ n 1 k n → Come c next w₃ w₄ n 1 k 257 → Built c w₀ w₄ n k e next
unfolding count
built c n next N t ff k e w₀ w₁ w₂ w₃ w₄ R Z A B = record {
  count = ck;
  holds = λ h. data_of c n next N t w₄ k B.passed h ff (λ r g. same (starts_at + r) (omega arith) ∙ R.starts.starts r g) (occurrences_same c w₁ w₄ same R.occurrences) ck;
  lengths = λ j h. same (lengths_at + j) (omega arith) ∙ R.lengths j h;
  long = B.rest.long ∙ A.rest.long ∙ Z.long ∙ R.long;
  rest = λ i h. same i (omega arith) ∙ R.high i h;
}
  where
    same : (i : ℕ) → starts_at ≤ i → get_or w₄ i 0 ≡ get_or w₁ i 0
    same i h = B.rest.high i h ∙ A.rest.high i h ∙ Z.high i h

    ck : k ≡ transition_count c next n
    ck =
        let b : 1 - terminals c ≡ 0 = omega arith in
        let a : k ≡ transition_count c next n + count (moves c next n) (1 - terminals c) = B.passed.count in
        (rw b at a) ∙ (let z : transition_count c next n + 0 ≡ transition_count c next n = omega arith in z)
