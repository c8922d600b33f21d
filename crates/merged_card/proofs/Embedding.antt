-- A grammar that stands inside another: what it derives, reaches and makes the other does, and of its symbols the other derives no more. The union of two.
use Prim.Native.Nat.{ℕ, zero, suc, ◌+◌, ◌≤◌, ◌<◌}
use mathlib.Core.Path.{◌≡◌, refl, sym, ap, ap₂, ◌∙◌}
use mathlib.Core.Logic.{◌↔◌, ◌⊎◌, inl, inr, ⊎_elim, ⊎_map}
use mathlib.Core.List.{List, [], ◌∷◌, ◌++◌, append-nil, nil≢cons, cons≢nil, append-ne-nil_of_right_ne-nil, head-eq_of_cons-eq, tail-eq_of_cons-eq, map, map-append, reverse, reverse-reverse}
use mathlib.Mathlib.Data.List.Basic.{map-reverse_aux}
use native.Mathlib.Omega.{arith}
use Rattle.sets.proofs.HasLaws.{lt_or_ge}
use Rattle.grammar.specs.Grammar.{Grammar, Symbols, none, more, Derives, Sentence, Rightmost, Formed}
use Rattle.grammar.specs.Useful.{Reachable, Productive, Useful}
use Rattle.merged_card.specs.Joined.{Through}
use Rattle.grammar.proofs.Yield.{Yields, nil, terminal, nonterminal}
use Rattle.grammar.proofs.Derive.{derives_yields, rightmost_yields, yields_rightmost, rightmost_derives}
use Rattle.grammar.proofs.Closed.{All, all_head, productive_left, reachable_start, reachable_right, reachable_least}

-- production r is the image of a production with the left side x
pub record Image (k : Grammar) (s : ℕ → ℕ) (r x : ℕ) : Type 0 where
  pub of : ℕ
  pub below : of < k.productions
  pub same : r ≡ s of
  pub left : k.left of ≡ x

-- k stands inside g: h gives its symbols, s its productions
pub record Embeds (k g : Grammar) (h s : ℕ → ℕ) : Type 0 where
  pub same_terminals : g.terminals ≡ k.terminals
  -- terminals stay, nonterminals become nonterminals
  pub fixes : (x : ℕ) → x < k.terminals → h x ≡ x
  pub moves : (x : ℕ) → k.terminals ≤ x → k.terminals ≤ h x
  pub inside : (r : ℕ) → r < k.productions → s r < g.productions
  pub left : (r : ℕ) → r < k.productions → g.left (s r) ≡ h (k.left r)
  pub right : (r : ℕ) → r < k.productions → g.right (s r) ≡ map h (k.right r)
  -- no other production of g has a left side of k's
  pub only : (r x : ℕ) → r < g.productions → k.terminals ≤ x → x < k.terminals + k.nonterminals → g.left r ≡ h x → Image k s r x

-- the start is a symbol
start_symbol : {k : Grammar} → Formed k → Symbols (k.terminals + k.nonterminals) (k.terminals ∷ [])
start_symbol f = more f.end_marker (omega (arith, f.start_nonterminal)) none

-- what is made is made rightmost
made_rightmost : (k : Grammar) {α p w : List ℕ} → Yields k α p w → Rightmost k α (reverse p) w
made_rightmost k y = simp append-nil at (yields_rightmost k [] [] none y)

-- a sentence has a rightmost derivation
pub sentence_rightmost : (k : Grammar) {w : List ℕ} → Sentence k w → (p : List ℕ) × Rightmost k (k.terminals ∷ []) p w
sentence_rightmost k t = (_, made_rightmost k (derives_yields k t.derived t.terminals).1)

-- a symbol alone has nothing around it
alone : (a b : List ℕ) {x : ℕ} (y : ℕ) → x ∷ [] ≡ a ++ y ∷ b → (a ≡ []) × (b ≡ []) × (x ≡ y)
alone [] b y c = (refl, sym (tail-eq_of_cons-eq c), head-eq_of_cons-eq c)
alone (z ∷ a) b y c = absurd (append-ne-nil_of_right_ne-nil a {t = y ∷ b} cons≢nil (sym (tail-eq_of_cons-eq c)))

-- k makes w of α by productions whose images are p
abbrev pub Back : Grammar → (ℕ → ℕ) → List ℕ → List ℕ → List ℕ → Type 0
Back k s α p w = (q : List ℕ) × (p ≡ map s q) × Yields k α q w

module _ {k : Grammar} {s : ℕ → ℕ} where
  -- one terminal more
  back_terminal : {a x : ℕ} {α p w : List ℕ} → 0 < x → x < k.terminals → a ≡ x → Back k s α p w → Back k s (x ∷ α) p (a ∷ w)
  back_terminal i l c t = (t.0, t.1, rw c (terminal i l t.2))

  -- one production more
  back_nonterminal : {r x : ℕ} {α p u q v : List ℕ} (o : Image k s r x) → Back k s (k.right o.of) p u → Back k s α q v → Back k s (x ∷ α) (p ++ r ∷ q) (u ++ v)
  back_nonterminal o t t' =
      (t.0 ++ o.of ∷ t'.0, rw (t.1, t'.1, o.same) (sym (map-append s t.0 (o.of ∷ t'.0))), rw o.left at (nonterminal o.of o.below t.2 t'.2))

module _ {k g : Grammar} {h s : ℕ → ℕ} (e : Embeds k g h s) where
  -- terminals stand for themselves
  pub terminals_fixed : {w : List ℕ} → Symbols k.terminals w → map h w ≡ w
  terminals_fixed none = refl
  terminals_fixed (more i j m) = ap₂ (λ (x : ℕ) (l : List ℕ). x ∷ l) (e.fixes _ j) (terminals_fixed m)

  -- a left side with symbols around it
  left_in : (a b : List ℕ) (r : ℕ) → r < k.productions → map h (a ++ k.left r ∷ b) ≡ map h a ++ g.left (s r) ∷ map h b
  left_in a b r i = rw (e.left r i) (map-append h a (k.left r ∷ b))

  -- a right side with symbols around it
  right_in : (a b : List ℕ) (r : ℕ) → r < k.productions → map h (a ++ (k.right r ++ b)) ≡ map h a ++ (g.right (s r) ++ map h b)
  right_in a b r i = rw (e.right r i) (simp map-append)

  -- what k derives g derives
  pub derives_in : {a b : List ℕ} → Derives k a b → Derives g (map h a) (map h b)
  derives_in Derives.stop = Derives.stop
  derives_in (Derives.step a b r i q d) = Derives.step (map h a) (map h b) (s r) (e.inside r i) (ap (map h) q ∙ left_in a b r i) (rw (right_in a b r i) at (derives_in d))

  -- the same, rightmost, by the images of the productions
  pub rightmost_in : {a p b : List ℕ} → Rightmost k a p b → Rightmost g (map h a) (map s p) (map h b)
  rightmost_in Rightmost.stop = Rightmost.stop
  rightmost_in (Rightmost.step a b r i m q d) =
      Rightmost.step (map h a) (map h b) (s r) (e.inside r i) (rw (terminals_fixed m, e.same_terminals) m) (ap (map h) q ∙ left_in a b r i) (rw (right_in a b r i) at (rightmost_in d))

  -- what a symbol of k makes in k it makes in g
  pub productive_in : {x : ℕ} → Productive k x → Productive g (h x)
  productive_in t = record { made = t.made; terminals = rw e.same_terminals t.terminals; derived = rw (terminals_fixed t.terminals) at (derives_in t.derived) }

  -- where g reaches the start of k it reaches what k reaches
  pub reachable_in : Reachable g (h k.terminals) → {x : ℕ} → Reachable k x → Reachable g (h x)
  reachable_in i t = reachable_least k (λ x. Reachable g (h x)) (λ r j m. all_of (k.right r) (rw (e.right r j) at (reachable_right g (s r) (e.inside r j) (rw (e.left r j) m)))) i t
    where
      all_of : (l : List ℕ) → All (Reachable g) (map h l) → All (λ x. Reachable g (h x)) l
      all_of [] a = All.none
      all_of (x ∷ l) (All.more m a) = All.more m (all_of l a)

  -- and what is useful in k is useful in g
  pub useful_in : Reachable g (h k.terminals) → {x : ℕ} → Useful k x → Useful g (h x)
  useful_in i t = record { reachable = reachable_in i t.reachable; productive = productive_in t.productive }

  module _ (fk : Formed k) (fg : Formed g) where
    -- terminals that g makes from symbols of k are made by k, too, by the images of its productions
    pub yields_back : {β p w α : List ℕ} → Yields g β p w → Symbols (k.terminals + k.nonterminals) α → β ≡ map h α → Back k s α p w
    yields_back nil none c = ([], refl, nil)
    yields_back nil (more i j m) c = absurd (nil≢cons c)
    yields_back (terminal i j y) none c = absurd (cons≢nil c)
    yields_back (terminal i j y) (more {a = x} i' j' m) c =
        ⊎_elim
        (λ (l : x < k.terminals). back_terminal i' l (head-eq_of_cons-eq c ∙ e.fixes x l) (yields_back y m (tail-eq_of_cons-eq c)))
        (λ (l : k.terminals ≤ x). absurd (omega (arith, head-eq_of_cons-eq c, e.moves x l, e.same_terminals)))
        (lt_or_ge x k.terminals)
    yields_back (nonterminal r i y z) none c = absurd (cons≢nil c)
    yields_back (nonterminal r i y z) (more {a = x} i' j' m) c =
        ⊎_elim
        (λ (l : x < k.terminals). absurd (omega (arith, head-eq_of_cons-eq c, e.fixes x l, e.same_terminals, fg.left_nonterminal r i)))
        (λ (l : k.terminals ≤ x).
        let o = e.only r x i l j' (head-eq_of_cons-eq c) in
        back_nonterminal o (yields_back y (fk.right_symbols o.of o.below) (ap g.right o.same ∙ e.right o.of o.below)) (yields_back z m (tail-eq_of_cons-eq c)))
        (lt_or_ge x k.terminals)

    -- a rightmost derivation of terminals in g from symbols of k is one in k, by the images of its productions
    pub rightmost_back : {α p w : List ℕ} → Symbols (k.terminals + k.nonterminals) α → Symbols g.terminals w → Rightmost g (map h α) p w → (q : List ℕ) × (p ≡ map s q) × Rightmost k α q w
    rightmost_back {p = p} m n d =
        let t = yields_back (rightmost_yields g fg d n) m refl in
        (reverse t.0, sym (reverse-reverse p) ∙ ap reverse t.1 ∙ sym (map-reverse_aux s t.0 []), made_rightmost k t.2)

-- production i leads from the start of g to the start of k, which stands inside g
pub record Alternative (k g : Grammar) (h s : ℕ → ℕ) (i : ℕ) : Type 0 where
  pub embeds : Embeds k g h s
  pub formed : Formed k
  pub below : i < g.productions
  pub left : g.left i ≡ g.terminals
  pub right : g.right i ≡ h k.terminals ∷ []

-- g is the union of k₁ and k₂: production 0 leads to the one, 1 to the other, and no other has the start for its left side
pub record Union (k₁ k₂ g : Grammar) (h₁ s₁ h₂ s₂ : ℕ → ℕ) : Type 0 where
  pub first : Alternative k₁ g h₁ s₁ 0
  pub second : Alternative k₂ g h₂ s₂ 1
  pub formed : Formed g
  pub others : (r : ℕ) → 2 ≤ r → r < g.productions → g.left r ≡ g.terminals → ⊥

module _ {k g : Grammar} {h s : ℕ → ℕ} {i : ℕ} (a : Alternative k g h s i) where
  -- g reaches the start of k
  pub start_reached : Reachable g (h k.terminals)
  start_reached = all_head (rw a.right at (reachable_right g i a.below (rw a.left (reachable_start g))))

  -- the start of g is useful where that of k makes something
  pub start_useful : Productive k k.terminals → Useful g g.terminals
  start_useful t = record { reachable = reachable_start g; productive = rw a.left at (productive_left g i a.below (rw a.right (All.more (productive_in a.embeds t) All.none))) }

  -- what g derives behind production i k derives
  through : Formed g → {p w : List ℕ} → Symbols g.terminals w → Rightmost g (g.right i ++ []) p w → Through k s i (i ∷ p) w
  through f m d = let t = rightmost_back a.embeds a.formed f (start_symbol a.formed) m (rw a.right at d) in record { within = t.0; is = ap (λ (l : List ℕ). i ∷ l) t.1; derivation = t.2 }

  -- what k derives g derives, by production i first
  from_through : {p w : List ℕ} → Symbols g.terminals w → Through k s i p w → Rightmost g (g.terminals ∷ []) p w
  from_through {w = w} m t =
      let c : g.terminals ∷ [] ≡ g.left i ∷ [] = rw a.left in
      let d : Rightmost g (g.right i ++ []) (map s t.within) w = rw a.right (rw (terminals_fixed a.embeds (rw a.embeds.same_terminals at m)) at (rightmost_in a.embeds t.derivation)) in
      rw t.is (Rightmost.step [] [] i a.below none c d)

  -- terminals that k derives are a sentence of k
  through_sentence : {p w : List ℕ} → Symbols g.terminals w → Through k s i p w → Sentence k w
  through_sentence m t = record { terminals = rw a.embeds.same_terminals at m; derived = rightmost_derives k t.derivation }

  -- a sentence of k is one of g
  sentence_in : {w : List ℕ} → Sentence k w → Sentence g w
  sentence_in {w} t =
      let d = sentence_rightmost k t in
      let m : Symbols g.terminals w = rw a.embeds.same_terminals t.terminals in
      record { terminals = m; derived = rightmost_derives g (from_through m (record { within = d.0; is = refl; derivation = d.1 })) }

module _ {k₁ k₂ g : Grammar} {h₁ s₁ h₂ s₂ : ℕ → ℕ} (u : Union k₁ k₂ g h₁ s₁ h₂ s₂) where
  -- g reaches the starts of both
  pub union_reachable : Reachable g (h₁ k₁.terminals) × Reachable g (h₂ k₂.terminals)
  union_reachable = (start_reached u.first, start_reached u.second)

  -- the start of g is useful where that of one of them makes something
  pub union_start_useful : Productive k₁ k₁.terminals ⊎ Productive k₂ k₂.terminals → Useful g g.terminals
  union_start_useful = ⊎_elim (start_useful u.first) (start_useful u.second)

  -- a rightmost derivation of terminals in g is production 0 and one in k₁, or 1 and one in k₂
  pub union_rightmost : (p w : List ℕ) → Symbols g.terminals w → Rightmost g (g.terminals ∷ []) p w ↔ (Through k₁ s₁ 0 p w ⊎ Through k₂ s₂ 1 p w)
  union_rightmost p w m = (λ d. forth d m, ⊎_elim (from_through u.first m) (from_through u.second m))
    where
      pick : {p w : List ℕ} (r : ℕ) → r < g.productions → g.terminals ≡ g.left r → Symbols g.terminals w → Rightmost g (g.right r ++ []) p w → Through k₁ s₁ 0 (r ∷ p) w ⊎ Through k₂ s₂ 1 (r ∷ p) w
      pick zero i c m d = inl (through u.first u.formed m d)
      pick (suc zero) i c m d = inr (through u.second u.formed m d)
      pick (suc (suc r)) i c m d = absurd (u.others (suc (suc r)) (omega arith) i (sym c))

      forth : {p w : List ℕ} → Rightmost g (g.terminals ∷ []) p w → Symbols g.terminals w → Through k₁ s₁ 0 p w ⊎ Through k₂ s₂ 1 p w
      forth Rightmost.stop (more i j m) = absurd (omega arith)
      forth (Rightmost.step a b r i m' c d) m = let t = alone a b (g.left r) c in pick r i t.2 m (rw (t.0, t.1) at d)

  -- the sentences of g are those of k₁ and those of k₂
  pub union_sentence : (w : List ℕ) → Sentence g w ↔ (Sentence k₁ w ⊎ Sentence k₂ w)
  union_sentence w = (forth, ⊎_elim (sentence_in u.first) (sentence_in u.second))
    where
      forth : Sentence g w → Sentence k₁ w ⊎ Sentence k₂ w
      forth t = let d = sentence_rightmost g t in ⊎_map (through_sentence u.first t.terminals) (through_sentence u.second t.terminals) ((union_rightmost d.0 w t.terminals).0 d.1)
