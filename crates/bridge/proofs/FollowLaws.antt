-- The sets that the two walks complete are Read and Follow, and what looks back to them are the lookaheads.
use Prim.Native.Nat.{ℕ, ◌<◌}
use mathlib.Core.Path.{◌≡◌, refl, sym, ap, ◌∙◌}
use mathlib.Core.Logic.{◌↔◌, ◌≢◌, inl, inr}
use mathlib.Core.List.{List, [], append-nil}
use lib.ListN.{get_or}
use Rattle.sets.specs.Bit.{Has}
use Rattle.grammar.specs.Card.{productions, left_of, length_of, right_of, grammar_of}
use Rattle.grammar.proofs.CardLaws.{right_length}
use Rattle.lr.specs.Items.{walk, Lookahead}
use Rattle.lr.specs.Relations
use Rattle.lr.specs.Relations.{Union, union, Transition, Read, Follow, LA}
use Rattle.lr.specs.Relations.Direct.{shifted, ended}
use Rattle.lr.proofs.ShortWay.{short_way}
use Rattle.transitions.specs.Area.{leaves_of, nonterminal_of}
use Rattle.transitions.specs.Data.{Direct}
use Rattle.relations.specs.Path.{Leads}
use Rattle.sets.specs.Reach.{Reaches}
use Rattle.completion.specs.Completion.{Join, Completed}
use Rattle.sets.specs.Reach.Reaches.{here, step}
use Rattle.digraph.specs.Walked.{at}
use Rattle.lookaheads.specs.LooksBack.{LooksBack}
use Rattle.bridge.specs.Premises.{Followed, transition_of}
use Rattle.bridge.proofs.Numbering.{card_formed, card_productive}
use Rattle.bridge.proofs.LeadsLaws.{leads_is}
use Rattle.bridge.proofs.EdgeLaws.{listed_at, reads_listed, reads_is, includes_listed, includes_is}

-- the numbers below k are nodes; R leads to nodes alone, and E is R between them: the sets completed along E are the unions along R
module _ {A : Type 0} (node : ℕ → A) (k : ℕ) (E : ℕ → ℕ → Type 0) (R : A → A → Type 0)
    (edge : (i j : ℕ) → i < k → j < k → E i j ↔ R (node i) (node j))
    (inside : (i j : ℕ) → E i j → j < k)
    (listed : (a b : A) → R a b → (j : ℕ) × (j < k) × (node j ≡ b))
    (F F' : ℕ → ℕ) (S : A → ℕ → Type 0) (sets : (i m : ℕ) → i < k → Has (F i) m ↔ S (node i) m) (done : Completed E k F F') where
  up : {i j m : ℕ} → i < k → Reaches E i j → Has (F j) m → Union R S (node i) m
  up {i} {m = m} h here b = union here ((sets i m h).0 b)
  up {i} h (step x s) b = go ((edge i _ h (inside i _ x)).0 x) (up (inside i _ x) s b)
    where
      go : {a b : A} {m : ℕ} → R a b → Union R S b m → Union R S a m
      go r (union s f) = union (step r s) f

  down : {a b : A} {m : ℕ} → Reaches R a b → S b m → (i : ℕ) → i < k → node i ≡ a → Join E F i m
  down {m = m} here f i h e = (i, here, (sets i m h).1 (rw e f))
  down (step {a} {b} r s) f i h e =
      let t = listed a b r in
      let j = down s f t.0 t.1 t.2 in
      (j.0, step ((edge i t.0 h t.1).1 (rw (e, t.2) r)) j.1, j.2)

  pub union_is : (i m : ℕ) → i < k → Has (F' i) m ↔ Union R S (node i) m
  union_is i m h = (λ b. (let j = done.only i m h b in up h j.1 j.2), λ u. done.all i m h (go u))
    where
      go : Union R S (node i) m → Join E F i m
      go (union s f) = down s f i h refl

module _ {c w : List ℕ} {n k : ℕ} {next : ℕ → ℕ → ℕ} {z : List ℕ} (h : Followed c w n k next z) where
  direct_is : (i m : ℕ) → i < k → Has (get_or h.begun i 0) m ↔ Relations.Direct (grammar_of c) next (transition_of w i) m
  direct_is i m l = (λ b. to ((h.direct i l).only m b), λ d. (h.direct i l).all m (from d))
    where
      to : Direct c w next i m → Relations.Direct (grammar_of c) next (transition_of w i) m
      to (inl d) = ended d.1.state d.1.start d.0
      to (inr d) = shifted d.low d.high (rw (← h.listed.target i l) d.some)

      from : Relations.Direct (grammar_of c) next (transition_of w i) m → Direct c w next i m
      from (shifted a b d) = inr (record { low = a; high = b; some = rw (h.listed.target i l) d })
      from (ended a b d) = inl (d, record { state = a; start = b })

  -- after the first walk, Read
  pub read_is : (i m : ℕ) → i < k → Has (get_or h.between i 0) m ↔ Read (grammar_of c) next (transition_of w i) m
  read_is =
      union_is (transition_of w) k _ (Relations.Reads (grammar_of c) next) (reads_is h) (λ i j x. x.inside) (λ t u r. reads_listed h r)
      (at h.begun) (at h.between) (Relations.Direct (grammar_of c) next) direct_is h.reads

  -- after the second, Follow
  pub follow_is : (i m : ℕ) → i < k → Has (get_or z i 0) m ↔ Follow (grammar_of c) next (transition_of w i) m
  follow_is =
      union_is (transition_of w) k _ (Relations.Includes (grammar_of c) next) (includes_is h) (λ i j x. x.inside) (λ t u r. includes_listed h r)
      (at h.between) (at z) (Read (grammar_of c) next) read_is h.includes

  module _ (r : ℕ) (b : r < productions c) where
    right_leads : (p q : ℕ) → next p (left_of c r) ≢ 0 → Leads c w r (length_of c r) q p ↔ (walk next p (right_of c r) ≡ q)
    right_leads p q nz = leads_is h.stated h.listed r b p q (length_of c r) nz (right_of c r) [] (sym (append-nil (right_of c r))) (right_length c r b)

    look_la : (q m : ℕ) → LooksBack c w z k q r m ↔ LA (grammar_of c) next q r m
    look_la q m = (
      λ l. (let nz : next (leaves_of w l.transition) (nonterminal_of w l.transition) ≢ 0 = h.listed.some l.transition l.below in
          record {
            transition = transition_of w l.transition;
            looks = record { below = b; left = l.left; move = nz; leads = (right_leads (leaves_of w l.transition) q (rw (← l.left) nz)).0 l.leads };
            follows = (follow_is l.transition m l.below).0 l.follows;
          }),
      λ l. (let o = l.looks in let nz : next l.transition.state (left_of c r) ≢ 0 = rw o.left at o.move in
          let t = listed_at h l.transition (rw o.left ((card_formed h.stated).left_nonterminal r b)) o.move in
          record {
            transition = t.0;
            below = t.1;
            left = ap (λ (u : Transition). u.symbol) t.2 ∙ o.left;
            leads = rw (ap (λ (u : Transition). u.state) t.2) ((right_leads l.transition.state q nz).1 o.leads);
            follows = (follow_is t.0 m t.1).1 (rw t.2 l.follows);
          }),
    )

    pub look_is : (q m : ℕ) → LooksBack c w z k q r m ↔ Lookahead (grammar_of c) next q r m
    look_is q m =
        let l = look_la q m in
        let a = short_way (grammar_of c) (card_formed h.stated) (card_productive h.stated) n next h.stated.states h.stated.inside q r m b in
        (λ x. a.1 (l.0 x), λ x. l.1 (a.0 x))
