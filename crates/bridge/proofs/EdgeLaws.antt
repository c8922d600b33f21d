-- The edges between the listed transitions are the relations reads and includes, and these lead to listed transitions alone.
use Prim.Native.Nat.{ℕ, suc, ◌≤◌, ◌<◌}
use mathlib.Core.Path.{◌≡◌, refl, sym, ap, ap₂, ◌∙◌}
use mathlib.Core.Logic.{◌↔◌, ◌≢◌}
use mathlib.Core.List.{List, ◌∷◌, ◌++◌}
use lib.ListN.{length, drop, take, take-append-drop}
use lib.Seq.{split_at, length-take-le, drop-append_seam}
use native.Mathlib.Omega.{arith}
use Rattle.grammar.specs.Card.{terminals, productions, right_of, grammar_of}
use Rattle.grammar.proofs.CardLaws.{right_length}
use Rattle.lr.specs.Relations
use Rattle.lr.specs.Relations.{Transition}
use Rattle.lr.proofs.ItemLaws.{drop_next, symbols_drop}
use Rattle.transitions.specs.Area.{leaves_of, nonterminal_of, shortest_of}
use Rattle.transitions.specs.Occurrences.{symbol_at, Nullable}
use Rattle.relations.specs.Edge.{Edge}
use Rattle.relations.specs.declared.Relation.TheVariants as relation
use Rattle.bridge.specs.Premises.{Followed, transition_of}
use Rattle.bridge.proofs.Numbering.{card_formed, card_productive}
use Rattle.bridge.proofs.RightSides.{right_symbol, dot_below, dot_symbol, list_all, all_list}
use Rattle.bridge.proofs.Nullability.{nullable_empty, all_empty, empty_all, empty_one}
use Rattle.bridge.proofs.LeadsLaws.{leads_is}

module _ {c w : List ℕ} {n k : ℕ} {next : ℕ → ℕ → ℕ} {z : List ℕ} (h : Followed c w n k next z) where
  -- a nonterminal transition is listed
  pub listed_at : (u : Transition) → terminals c ≤ u.symbol → next u.state u.symbol ≢ 0 → (j : ℕ) × (j < k) × (transition_of w j ≡ u)
  listed_at u l nz = let t = h.listed.listed u.state u.symbol l nz in (t.0, t.1, ap₂ (λ (p x : ℕ). record { state = p; symbol = x }) t.2 t.3)

  -- ---- reads

  pub reads_listed : {t u : Transition} → Relations.Reads (grammar_of c) next t u → (j : ℕ) × (j < k) × (transition_of w j ≡ u)
  reads_listed {u = u} r = listed_at u (empty_one h r.nullable).nonterminal r.move

  pub reads_is : (i j : ℕ) → i < k → j < k → Edge relation.Reads c w k i j ↔ Relations.Reads (grammar_of c) next (transition_of w i) (transition_of w j)
  reads_is i j hi hj = (
    λ x. (let r = x.related in
        record {
          enters = sym (h.listed.target i hi) ∙ sym r.state;
          some = h.listed.some i hi;
          move = h.listed.some j hj;
          nullable = nullable_empty h (h.listed.ordered.high j hj) r.nullable;
        }),
    λ r.
        record {
          inside = hj;
          related =
              record {
                state = sym r.enters ∙ sym (h.listed.target i hi);
                nullable = empty_one h r.nullable;
              };
        },
  )

  -- ---- includes

  pub includes_listed : {t u : Transition} → Relations.Includes (grammar_of c) next t u → (j : ℕ) × (j < k) × (transition_of w j ≡ u)
  includes_listed {u = u} r = listed_at u (rw r.left ((card_formed h.stated).left_nonterminal r.production r.below)) r.move

  edge_includes : (i j : ℕ) → i < k → j < k → Edge relation.Includes c w k i j → Relations.Includes (grammar_of c) next (transition_of w i) (transition_of w j)
  edge_includes i j hi hj x =
      let r = x.related in
      let b : r.production < productions c = r.occurs.production in
      let l : r.dot < length (right_of c r.production) = rw (right_length c r.production b) r.occurs.within in
      let front = take r.dot (right_of c r.production) in
      let behind = drop (suc r.dot) (right_of c r.production) in
      record {
        production = r.production;
        front = front;
        behind = behind;
        below = b;
        right = split_at (right_of c r.production) r.dot 0 l ∙ ap (λ (x : ℕ). front ++ x ∷ behind) (right_symbol c r.production b r.dot r.occurs.within ∙ r.symbol);
        nullable = all_empty h
            (symbols_drop (grammar_of c) (card_formed h.stated) (card_productive h.stated) (suc r.dot) ((card_formed h.stated).right_symbols r.production b))
            (list_all c r.production b (Nullable c (shortest_of w)) (suc r.dot) behind refl r.occurs.tail);
        leads = (leads_is h.stated h.listed r.production b (leaves_of w j) (leaves_of w i) r.dot (rw r.left (h.listed.some j hj)) front (drop r.dot (right_of c r.production))
            (sym (take-append-drop r.dot (right_of c r.production))) (length-take-le r.dot (right_of c r.production) (omega arith))).0 r.leads;
        left = sym r.left;
        move = h.listed.some j hj;
      }

  includes_edge : (i j : ℕ) → i < k → j < k → Relations.Includes (grammar_of c) next (transition_of w i) (transition_of w j) → Edge relation.Includes c w k i j
  includes_edge i j hi hj r =
      let d = length r.front in
      let at-dot : drop (length r.front) (right_of c r.production) ≡ nonterminal_of w i ∷ r.behind = ap (drop (length r.front)) r.right ∙ drop-append_seam r.front (nonterminal_of w i ∷ r.behind) in
      let symbol : symbol_at c r.production (length r.front) ≡ nonterminal_of w i = dot_symbol c r.production r.below (length r.front) at-dot in
      record {
        inside = hj;
        related =
            record {
              production = r.production;
              dot = d;
              occurs =
                  record {
                    production = r.below;
                    within = dot_below c r.production r.below d at-dot;
                    nonterminal = rw symbol (h.listed.ordered.low i hi);
                    tail = all_list c r.production r.below (Nullable c (shortest_of w)) (suc d) (drop_next d (right_of c r.production) at-dot) (empty_all h r.nullable);
                  };
              symbol = symbol;
              left = sym r.left;
              leads = (leads_is h.stated h.listed r.production r.below (leaves_of w j) (leaves_of w i) d (rw (← r.left) (h.listed.some j hj)) r.front (nonterminal_of w i ∷ r.behind) r.right refl).1 r.leads;
            };
      }

  pub includes_is : (i j : ℕ) → i < k → j < k → Edge relation.Includes c w k i j ↔ Relations.Includes (grammar_of c) next (transition_of w i) (transition_of w j)
  includes_is i j hi hj = (edge_includes i j hi hj, includes_edge i j hi hj)
