-- Zeros behind what stands in front, at any width of number; rows moved up; the header; and a table area as one list.
use Prim.Native.Nat.{ℕ, suc, ◌+◌, ◌-◌, ◌≤◌, ◌<◌}
use mathlib.Core.Path.{◌≡◌, refl, sym, ap, ◌∙◌}
use mathlib.Core.List.{List, [], ◌∷◌, ◌++◌, append_assoc}
use native.Mathlib.Omega.{arith}
use native.Mathlib.Numerals.{add-one}
use lib.ListN.{length, get_or, set, take, drop, replicate, length-append, length-drop, length-replicate, length-set, replicate-append-replicate}
use lib.Seq.{length-take-le, drop-cons, set_at, get_or-take, get_or-drop, get_or-set_same, get_or-set_other, ext_get_or}
use Rattle.grammar.specs.Card as card
use Rattle.tables.specs.Layout.{states, terminals, nonterminals, productions, width, left_at, length_at, header_size, entered_at, row_at, left_of, length_of, entered_of, cell_of, size_of, build}
use Rattle.areas.specs.Areas.{table_size, row_of}
use Rattle.areas.proofs.RowLaws.{row_table, row_header, row_mono}
use Rattle.tables.proofs.LayoutLaws.{one_list, built_sizes, built_left, built_length, built_entered, built_cell, built_long}
use Rattle.cells.specs.Actions.{IsCell}
use Rattle.sets.specs.Lists.{covered}
use Rattle.cells.specs.Areas.{table_area, Inserted, Arrays, Header, Tabled}
use Rattle.std.specs.List.{CopiedTo, SameFrom}
use Rattle.std.proofs.lemmas.Grind.{common_steps}
use Rattle.std.proofs.lemmas.List.{places}
use borrow.Rule.Slice.PartMut.{mid_of, put_mid}

-- ---- zeros

-- what `t[..n].fill(0)` leaves, and `t[a..k].fill(0)`
pub covered_filled : (n : ℕ) (t u : List ℕ) → n ≤ length t → u ≡ replicate (length (take n t)) 0 → u ++ drop n t ≡ covered n [] t
unfolding covered
covered_filled n t u h e = let z : n - 0 ≡ n = omega arith in rw (e, length-take-le n t h, z) refl

pub covered_behind : (a k : ℕ) (t u : List ℕ) → a ≤ k → k ≤ length t → u ≡ replicate (length (mid_of a (k - a) t)) 0 → put_mid a (k - a) t u ≡ covered k (take a t) t
unfolding covered
covered_behind a k t u h room e = grind (arith, common_steps)

-- one zero more
pub covered_more : (i : ℕ) (l t : List ℕ) → length l ≤ i → i < length t → set (covered i l t) i 0 ≡ covered (i + 1) l t
unfolding covered
covered_more i l t h k =
    let j = i - length l in
    let z : List ℕ = replicate j 0 in
    let e : i + 1 - length l ≡ i - length l + 1 = omega arith in
    let len : length (l ++ replicate {A = ℕ} (i - length l) 0) ≡ i =
    omega (arith, length-append l (replicate {A = ℕ} (i - length l) 0), length-replicate {A = ℕ} (i - length l) 0)
    in
    ap (λ (x : List ℕ). set x i 0) (sym (append_assoc l z (drop i t)) ∙ ap (λ (x : List ℕ). (l ++ z) ++ x) (drop-cons t i 0 k))
    ∙ set_at (l ++ z) (get_or t i 0) (drop (suc i) t) 0 i len
    ∙ append_assoc l z (0 ∷ drop (suc i) t)
    ∙ ap (λ (x : List ℕ). l ++ x) (sym (append_assoc z (0 ∷ []) (drop (suc i) t)) ∙ rw (e, add-one i, ← replicate-append-replicate {A = ℕ} j 1 0) refl)

-- the places from k on are the same
pub same_behind : (k : ℕ) (t t' : List ℕ) → length t' ≡ length t → ((i : ℕ) → k ≤ i → get_or t' i 0 ≡ get_or t i 0) → drop k t' ≡ drop k t
same_behind k t t' e h =
    ext_get_or 0 (drop k t') (drop k t) (length-drop k t' ∙ ap (λ (x : ℕ). x - k) e ∙ sym (length-drop k t)) (λ i g. get_or-drop k t' i 0 ∙ h (k + i) (omega arith) ∙ sym (get_or-drop k t i 0))

pub covered_same : (k : ℕ) (l t t' : List ℕ) → length t' ≡ length t → ((i : ℕ) → k ≤ i → get_or t' i 0 ≡ get_or t i 0) → covered k l t' ≡ covered k l t
unfolding covered
covered_same k l t t' e h = rw (same_behind k t t' e h)

-- ---- rows moved up, and numbers written in front of them

pub row_first : (c : List ℕ) → row_of c 0 ≡ header_size (card.productions c)
unfolding row_of
row_first c = omega arith

-- what `t.copy_within(a..b, a + n)` leaves is t₁; what `t[a..a + n].copy_from_slice(&e[..n])` leaves of that holds u there
module _ (c : List ℕ) (n a b : ℕ) (e t t₁ u : List ℕ) (ea : a ≡ row_of c 0) (eb : b ≡ row_of c n) (room : b + n ≤ length t) (few : n ≤ length e)
    (long : length t₁ ≡ length t) (moved : CopiedTo t t₁ a (a + n) (b - a)) (behind : SameFrom t t₁ (a + n + (b - a))) (written : u ≡ take n e) where
  abbrev after : List ℕ
  after = put_mid a (a + n - a) t₁ u

  start : a ≡ header_size (card.productions c)
  start = ea ∙ row_first c

  order : a ≤ b
  order = omega (arith, start, row_header c n)

  u_long : length u ≡ n
  u_long = rw written (length-take-le n e few)

  in_part : (q : ℕ) → q < n → get_or after (a + q) 0 ≡ get_or u q 0
  in_part q h = let o = order in let l = u_long in grind (arith, places)

  past_part : (i : ℕ) → a + n ≤ i → get_or after i 0 ≡ get_or t₁ i 0
  past_part i h = let o = order in let l = u_long in grind (arith, places)

  pub inserted : Inserted c n e t after
  inserted = let o = order in let l = u_long in let f = start in record {
    long = grind (arith, places);
    entries = λ q h. let p : entered_at (card.productions c) q ≡ a + q = omega arith in rw (p, in_part q h, written) (get_or-take n e q 0 h);
    moved = λ i h k. let p : a + (i + n - (a + n)) ≡ i = omega arith in past_part (i + n) (omega arith) ∙ moved (i + n) 0 (omega arith) (omega arith) ∙ ap (λ (j : ℕ). get_or t j 0) p;
    behind = λ i h. past_part i (omega arith) ∙ behind i 0 (omega arith);
  }

-- ---- the header

module _ (c : List ℕ) (t : List ℕ) where
  pub headed : (n x y p : ℕ) (t' : List ℕ) → x ≡ card.terminals c → y ≡ card.nonterminals c → p ≡ card.productions c → header_size (card.productions c) ≤ length t
      → Arrays c (card.productions c) (set (set (set (set t 0 n) 1 x) 2 y) 3 p) t' → Header c n t t'
  unfolding states terminals nonterminals productions left_of length_of
  headed n x y p t' ex ey ep room a = record {
    long = a.long ∙ simp length-set;
    count = a.before 0 (omega arith) ∙ at₀;
    sizes = (a.before 1 (omega arith) ∙ at₁ ∙ ex, a.before 2 (omega arith) ∙ at₂ ∙ ey, a.before 3 (omega arith) ∙ at₃ ∙ ep);
    lefts = a.lefts;
    lengths = λ r h. rw (a.before 3 (omega arith) ∙ at₃ ∙ ep) (a.lengths r h);
    behind = λ i h. a.behind i h ∙ other i (λ e. omega arith) (λ e. omega arith) (λ e. omega arith) (λ e. omega arith);
  }
    where
      other : (i : ℕ) → (i ≡ 0 → ⊥) → (i ≡ 1 → ⊥) → (i ≡ 2 → ⊥) → (i ≡ 3 → ⊥) → get_or (set (set (set (set t 0 n) 1 x) 2 y) 3 p) i 0 ≡ get_or t i 0
      other i a b d e = get_or-set_other (set (set (set t 0 n) 1 x) 2 y) 3 i p 0 e ∙ get_or-set_other (set (set t 0 n) 1 x) 2 i y 0 d ∙ get_or-set_other (set t 0 n) 1 i x 0 b ∙ get_or-set_other t 0 i n 0 a

      at₃ : get_or (set (set (set (set t 0 n) 1 x) 2 y) 3 p) 3 0 ≡ p
      at₃ = get_or-set_same (set (set (set t 0 n) 1 x) 2 y) 3 p 0 (simp length-set (omega arith))

      at₂ : get_or (set (set (set (set t 0 n) 1 x) 2 y) 3 p) 2 0 ≡ y
      at₂ = get_or-set_other (set (set (set t 0 n) 1 x) 2 y) 3 2 p 0 (λ e. omega arith) ∙ get_or-set_same (set (set t 0 n) 1 x) 2 y 0 (simp length-set (omega arith))

      at₁ : get_or (set (set (set (set t 0 n) 1 x) 2 y) 3 p) 1 0 ≡ x
      at₁ = get_or-set_other (set (set (set t 0 n) 1 x) 2 y) 3 1 p 0 (λ e. omega arith) ∙ get_or-set_other (set (set t 0 n) 1 x) 2 1 y 0 (λ e. omega arith)
          ∙ get_or-set_same (set t 0 n) 1 x 0 (simp length-set (omega arith))

      at₀ : get_or (set (set (set (set t 0 n) 1 x) 2 y) 3 p) 0 0 ≡ n
      at₀ = get_or-set_other (set (set (set t 0 n) 1 x) 2 y) 3 0 p 0 (λ e. omega arith) ∙ get_or-set_other (set (set t 0 n) 1 x) 2 0 y 0 (λ e. omega arith)
          ∙ get_or-set_other (set t 0 n) 1 0 x 0 (λ e. omega arith) ∙ get_or-set_same t 0 n 0 (omega arith)

-- ---- the table area

module _ (c : List ℕ) (n : ℕ) (e t₀ t₁ t₂ : List ℕ) (wide : 0 < card.terminals c) (room : row_of c n + n ≤ length t₀) (p : Inserted c n e t₀ t₁) (h : Header c n t₁ t₂) where
  -- what stands in front, by the places of the cells
  abbrev cell_at : ℕ → ℕ → ℕ
  cell_at q x = get_or t₀ (row_of c q + x) 0

  abbrev entry : ℕ → ℕ
  entry q = get_or e q 0

  abbrev front : List ℕ
  front = take (row_of c n + n) t₂

  abbrev whole : List ℕ
  whole = build n (card.terminals c) (card.nonterminals c) (card.productions c) (card.left_of c) (card.length_of c) entry cell_at

  at_front : (i : ℕ) → i < row_of c n + n → get_or front i 0 ≡ get_or t₂ i 0
  at_front i g = get_or-take (row_of c n + n) t₂ i 0 g

  in_header : (i : ℕ) → i < header_size (card.productions c) → get_or front i 0 ≡ get_or t₂ i 0
  in_header i g = at_front i (omega (arith, row_header c n))

  front_states : states front ≡ n
  unfolding states
  front_states = in_header 0 (omega arith) ∙ h.count

  front_terminals : terminals front ≡ card.terminals c
  unfolding terminals
  front_terminals = in_header 1 (omega arith) ∙ h.sizes.0

  front_nonterminals : nonterminals front ≡ card.nonterminals c
  unfolding nonterminals
  front_nonterminals = in_header 2 (omega arith) ∙ h.sizes.1

  front_productions : productions front ≡ card.productions c
  unfolding productions
  front_productions = in_header 3 (omega arith) ∙ h.sizes.2

  front_width : width front ≡ card.terminals c + card.nonterminals c
  unfolding width
  front_width = rw (front_terminals, front_nonterminals)

  front_long : length front ≡ size_of front
  unfolding size_of
  front_long = length-take-le (row_of c n + n) t₂ (omega (arith, h.long, p.long)) ∙ rw (front_states, front_width, front_productions) (sym (row_table c n n))

  front_left : (r : ℕ) → r < productions front → left_of front r ≡ left_of whole r
  unfolding left_of
  front_left r g =
      let g' : r < card.productions c = rw front_productions at g in
      in_header (left_at r) (omega arith) ∙ h.lefts r g' ∙ sym (built_left n (card.terminals c) (card.nonterminals c) (card.productions c) (card.left_of c) (card.length_of c) entry cell_at r g')

  length_front : (r : ℕ) → r < card.productions c → length_of front r ≡ length_of t₂ r
  unfolding length_of
  length_front r g =
      let e : productions t₂ ≡ card.productions c = h.sizes.2 in
      rw (front_productions, e) (in_header (length_at (card.productions c) r) (omega arith))

  front_length : (r : ℕ) → r < productions front → length_of front r ≡ length_of whole r
  front_length r g =
      let g' : r < card.productions c = rw front_productions at g in
      length_front r g' ∙ h.lengths r g' ∙ sym (built_length n (card.terminals c) (card.nonterminals c) (card.productions c) (card.left_of c) (card.length_of c) entry cell_at r g')

  front_entered : (q : ℕ) → q < states front → entered_of front q ≡ entered_of whole q
  unfolding entered_of
  front_entered q g =
      let g' : q < n = rw front_states at g in
      rw front_productions (at_front (entered_at (card.productions c) q) (omega (arith, row_header c n)) ∙ h.behind (entered_at (card.productions c) q) (omega arith) ∙ p.entries q g')
      ∙ sym (built_entered n (card.terminals c) (card.nonterminals c) (card.productions c) (card.left_of c) (card.length_of c) entry cell_at q g')

  cell_moved : (q x i : ℕ) → q < n → x < card.terminals c + card.nonterminals c → i ≡ row_of c q + x + n → get_or front i 0 ≡ cell_at q x
  cell_moved q x i g k e =
      let m = row_mono c q n g in
      rw e (at_front (row_of c q + x + n) (omega arith) ∙ h.behind (row_of c q + x + n) (omega (arith, row_header c q)) ∙ p.moved (row_of c q + x) (omega (arith, row_header c q)) (omega arith))

  front_cell : (q x : ℕ) → q < states front → x < width front → cell_of front q x ≡ cell_of whole q x
  unfolding cell_of
  front_cell q x g k =
      let g' : q < n = rw front_states at g in
      let k' : x < card.terminals c + card.nonterminals c = rw front_width at k in
      rw (front_productions, front_states, front_width) (cell_moved q x (row_at (card.productions c) n (card.terminals c + card.nonterminals c) q + x) g' k' (omega (arith, row_table c n q)))
      ∙ sym (built_cell n (card.terminals c) (card.nonterminals c) (card.productions c) (card.left_of c) (card.length_of c) entry cell_at q x g' k')

  front_whole : front ≡ whole
  front_whole =
      let s = built_sizes n (card.terminals c) (card.nonterminals c) (card.productions c) (card.left_of c) (card.length_of c) entry cell_at in
      one_list front whole (rw front_width (omega arith)) front_long (built_long n (card.terminals c) (card.nonterminals c) (card.productions c) (card.left_of c) (card.length_of c) entry cell_at)
      (front_states ∙ sym s.0) (front_terminals ∙ sym s.1) (front_nonterminals ∙ sym s.2) (front_productions ∙ sym s.3) front_left front_length front_entered front_cell

  -- the rows and the entering symbols, the header, then zeros behind the rows
  pub finished : (d : ℕ) (t₃ : List ℕ) → d ≡ row_of c n + n → row_of c n + n ≤ table_size → t₃ ≡ covered table_size (take d t₂) t₂ → t₃ ≡ table_area c n e t₀
  unfolding table_area
  finished d t₃ s few k =
      k ∙ ap (λ (x : ℕ). covered table_size (take x t₂) t₂) s ∙ ap (λ (l : List ℕ). covered table_size l t₂) front_whole
      ∙ covered_same table_size whole t₀ t₂ (h.long ∙ p.long) (λ i g. h.behind i (omega (arith, row_header c n)) ∙ p.behind i (omega arith))

-- rows written in an area that was t₀, then all that belongs to the table: the table
pub tabled : (c : List ℕ) (n : ℕ) (next : ℕ → ℕ → ℕ) (A : ℕ → ℕ → ℕ → Type 0) (E : ℕ → ℕ) (e t₀ t₁ t₂ : List ℕ) → length t₁ ≡ length t₀ → ((i : ℕ) → table_size ≤ i → get_or t₁ i 0 ≡ get_or t₀ i 0)
    → ((q : ℕ) → q < n → get_or e q 0 ≡ E q)
    → ((q m : ℕ) → q < n → m < card.terminals c → IsCell (A q m) (get_or t₁ (row_of c q + m) 0))
    → ((q x : ℕ) → q < n → card.terminals c ≤ x → x < card.terminals c + card.nonterminals c → get_or t₁ (row_of c q + x) 0 ≡ next q x)
    → t₂ ≡ table_area c n e t₁ → Tabled c n next A E t₀ t₂
unfolding table_area
tabled c n next A E e t₀ t₁ t₂ long beyond entries actions nexts k = record {
  entered = λ q. get_or e q 0;
  cell = λ q x. get_or t₁ (row_of c q + x) 0;
  area = k ∙ covered_same table_size _ t₀ t₁ long beyond;
  entries = entries;
  actions = actions;
  nexts = nexts;
}
