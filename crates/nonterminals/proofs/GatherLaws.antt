-- A set that the rounds leave: only what is meant is in it, and all of it.
use mathlib.Core.Path.{◌≡◌}
use mathlib.Core.List.{List}
use mathlib.Core.Logic.{⊎_elim}
use Prim.Native.Nat.{ℕ, ◌+◌, ◌-◌, ◌^◌, ◌≤◌, ◌<◌}
use native.Mathlib.Omega.{arith}
use native.Mathlib.Nat.{eq-or-lt_of_le, le_of_suc-le-suc}
use native.Mathlib.Numerals.{add-one}
use lib.Bits.{bit_or}
use Rattle.sets.specs.Bit.{bit, Has, Within}
use Rattle.sets.proofs.BitLaws.{bit_bound}
use Rattle.sets.proofs.HasLaws.{has_none, has_one, one_has, has_or, or_has_l, or_has_r, lt_or_ge, no_bit}
use Rattle.grammar.specs.Grammar.{Symbols, Formed}
use Rattle.grammar.specs.Card.{terminals, nonterminals, productions, left_of, right_of, grammar_of, form_fault}
use Rattle.grammar.specs.Useful
use Rattle.grammar.proofs.CardLaws.{well_formed, formed}
use Rattle.grammar.proofs.Closed.{All, none, more, productive_left, productive_terminal, reachable_start, reachable_right, productive_least, reachable_least}
use Rattle.nonterminals.specs.Sets.{NonterminalSet}
use Rattle.nonterminals.specs.Gathering.{Kind, Productive, Reachable, Means, word_of, join_of, needs_of, gives_of, Sound, Round, Settled}
use Rattle.nonterminals.proofs.WordLaws.{within_le, word_terminal, word_nonterminal, join_all, all_join}

module _ (c : List ℕ) (v : ℕ) where
  -- symbol x is in v, as each terminal is
  abbrev In : ℕ → Type 0
  In x = Within (word_of c x) v

  has_in : (x : ℕ) → terminals c ≤ x → In x → Has v (x - terminals c)
  has_in x h i = i (x - terminals c) (rw (word_nonterminal c x h) (one_has (x - terminals c)))

  in_has : (x : ℕ) → terminals c ≤ x → Has v (x - terminals c) → In x
  in_has x h i m e = rw (← has_one (x - terminals c) m (rw (word_nonterminal c x h) at e)) i

  in_terminal : (x : ℕ) → x < terminals c → In x
  in_terminal x h m e = absurd (has_none m (rw (word_terminal c x h) at e))

module _ (c : List ℕ) (fault : form_fault c ≡ 0) where
  f : Formed (grammar_of c)
  f = formed c (well_formed c fault)

  few : nonterminals c ≤ 60
  few = (well_formed c fault).limits.nonterminals_to

  module _ (k : Kind) where
    means_at : (v x : ℕ) → Sound c k v → terminals c ≤ x → Has v (x - terminals c) → Means (grammar_of c) k x
    means_at v x s h i = let e : terminals c + (x - terminals c) ≡ x = omega arith in rw e at (s (x - terminals c) i).1

    -- a string of which each symbol is in the set, where terminals are meant
    all_mean : (v : ℕ) → Sound c k v → ((x : ℕ) → 0 < x → x < terminals c → Means (grammar_of c) k x) → {l : List ℕ} → Symbols (terminals c + nonterminals c) l → All (In c v) l → All (Means (grammar_of c) k) l
    all_mean v s h Symbols.none none = none
    all_mean v s h (Symbols.more {a = x} z b y) (more i a) =
        more (⊎_elim (λ (m : x < terminals c). h x z m) (λ (m : terminals c ≤ x). means_at v x s m (has_in c v x m i)) (lt_or_ge x (terminals c))) (all_mean v s h y a)

    sound_or : (a b : ℕ) → Sound c k a → Sound c k b → Sound c k (bit_or a b)
    sound_or a b s r j e = ⊎_elim (λ i. s j i) (λ i. r j i) (has_or a b j e)

    sound_none : Sound c k 0
    sound_none j e = absurd (has_none j e)

    sound_word : (x : ℕ) → x < terminals c + nonterminals c → Means (grammar_of c) k x → Sound c k (word_of c x)
    sound_word x b p j = ⊎_elim low high (lt_or_ge x (terminals c))
      where
        low : x < terminals c → Has (word_of c x) j → (j < nonterminals c) × Means (grammar_of c) k (terminals c + j)
        low m e = absurd (has_none j (rw (word_terminal c x m) at e))

        high : terminals c ≤ x → Has (word_of c x) j → (j < nonterminals c) × Means (grammar_of c) k (terminals c + j)
        high m e =
            let q : x - terminals c ≡ j = has_one (x - terminals c) j (rw (word_nonterminal c x m) at e) in
            let o : terminals c + j ≡ x = omega arith in
            (omega arith, rw o p)

    sound_join : {l : List ℕ} → Symbols (terminals c + nonterminals c) l → All (Means (grammar_of c) k) l → Sound c k (join_of c l)
    unfolding join_of
    sound_join Symbols.none none = sound_none
    sound_join (Symbols.more {a = x} {w = l} z b y) (more p a) = sound_or (word_of c x) (join_of c l) (sound_word x b p) (sound_join y a)

  -- what a production adds is meant
  adds : (k : Kind) (v r : ℕ) → r < productions c → Sound c k v → Within (needs_of c k r) v → Sound c k (gives_of c k r)
  adds Productive v r h s n =
      sound_word Productive (left_of c r) (f.left_below r h)
      (productive_left (grammar_of c) r h (all_mean Productive v s (λ x z m. productive_terminal (grammar_of c) x z m) (f.right_symbols r h) (join_all c v (right_of c r) n)))
  adds Reachable v r h s n =
      sound_join Reachable (f.right_symbols r h)
      (reachable_right (grammar_of c) r h (means_at Reachable v (left_of c r) s (f.left_nonterminal r h) (has_in c v (left_of c r) (f.left_nonterminal r h) n)))

  -- ---- a round

  module _ (k : Kind) (w : ℕ) where
    next : {v u n : ℕ} → Round c k w n v → Within v u → Sound c k u → (Within (needs_of c k n) w → Within (gives_of c k n) u) → Round c k w (n + 1) u
    next {v} {u} {n} t i s g =
        record {
          more = λ m e. i m (t.more m e);
          sound = s;
          all = λ r h. ⊎_elim (λ (e : r ≡ n). rw e g) (λ (l : r < n) d m o. i m (t.all r l d m o)) (eq-or-lt_of_le (le_of_suc-le-suc (rw add-one at h)));
        }

    pub round_adds : {v n : ℕ} → Round c k w n v → n < productions c → Within (needs_of c k n) v → Round c k w (n + 1) (bit_or v (gives_of c k n))
    round_adds {v} {n} t h i =
        next t (λ m e. or_has_l v (gives_of c k n) m e) (sound_or k v (gives_of c k n) t.sound (adds k v n h t.sound i)) (λ d m e. or_has_r v (gives_of c k n) m e)

    pub round_keeps : {v n : ℕ} → Round c k w n v → (Within (needs_of c k n) v → ⊥) → Round c k w (n + 1) v
    round_keeps {v} {n} t i = next t (λ m e. e) t.sound (λ d. absurd (i (λ m e. t.more m (d m e))))

  -- ---- rounds until nothing is new

  module _ (k : Kind) where
    small : (v : ℕ) → Sound c k v → v < 2 ^ nonterminals c
    small v s = bit_bound (nonterminals c) v (λ m h. no_bit (bit v m) (λ e. absurd (let b = (s m e).0 in omega arith)))

    pub round_less : (v u : ℕ) → Sound c k v → Round c k v (productions c) u → (u ≡ v → ⊥) → 2 ^ nonterminals c - u < 2 ^ nonterminals c - v
    round_less v u s t d = omega (arith, small v s, small u t.sound, within_le v u t.more, d)

    -- all that is meant is in v: then v is the set
    whole : (v : ℕ) → Sound c k v → ((x : ℕ) → Means (grammar_of c) k x → In c v x) → NonterminalSet (grammar_of c) (Means (grammar_of c) k) v
    whole v s h =
        record {
          tells = λ j b. record { yes = λ e. (s j e).1; so = λ m. let o : terminals c + j - terminals c ≡ j = omega arith in rw o at (has_in c v (terminals c + j) (omega arith) (h (terminals c + j) m)) };
          above = λ j b. no_bit (bit v j) (λ e. absurd (let l = (s j e).0 in omega arith));
        }

  pub start_sound : Sound c Reachable 1
  start_sound j e =
      let q : 0 ≡ j = has_one 0 j e in
      let o : terminals c + j ≡ terminals c = omega arith in
      (omega (arith, f.start_nonterminal), rw o (reachable_start (grammar_of c)))

  pub productive_set : {v : ℕ} → Settled c Productive 0 v → NonterminalSet (grammar_of c) (Useful.Productive (grammar_of c)) v
  productive_set {v} t =
      whole Productive v t.still.sound
      (λ x d. productive_least (grammar_of c) (In c v) (λ r h a. t.still.all r h (all_join c v a)) (λ a z h. in_terminal c v a h) d)

  pub reachable_set : {v : ℕ} → Settled c Reachable 1 v → NonterminalSet (grammar_of c) (Useful.Reachable (grammar_of c)) v
  reachable_set {v} t =
      whole Reachable v t.still.sound
      (λ x d. reachable_least (grammar_of c) (In c v) (λ r h i. join_all c v (right_of c r) (t.still.all r h i))
      (in_has c v (terminals c) (omega arith) (t.more (terminals c - terminals c) (rw (let o : terminals c - terminals c ≡ 0 = omega arith in o) (one_has 0)))) d)
