-- Behind a line without closed terminals: the offer of open terminals over a table is the offer over the table with 0 in the closed columns, and the one is cut
-- short where the other is.
use Prim.Native.Nat.{ℕ, suc, ◌<◌, ◌≤◌}
use mathlib.Core.Path.{◌≡◌, refl, sym, ap, ◌∙◌}
use mathlib.Core.Logic.{◌≢◌, ◌⊎◌, inl, inr, ⊎_elim}
use mathlib.Core.Bool.{Bool, true, false, false≢true}
use mathlib.Core.List.{List, [], ◌∷◌, ◌++◌, append-nil}
use lib.ListN.{length, drop, length-append, drop_of_length-le}
use lib.Seq.{drop-append-le, get_or-append_seam}
use native.Mathlib.Omega.{arith}
use Rattle.sets.specs.Bit.{bit, Has}
use Rattle.sets.specs.Lists.{peek}
use Rattle.sets.proofs.HasLaws.{lt_or_ge}
use Rattle.tables.specs.Layout.{terminals, cell_of}
use Rattle.machine.specs.Checks.{input_ok, closed_ok}
use Rattle.machine.specs.Stops.{Allowed, Stops, accepted_here, wrong_here, no_steps, list_full, broken_here, stack_full}
use Rattle.machine.specs.Restricted.{Open, OpenLine, next, OpenStops, closed_here, as_ever, OpenOffer, OpenCutShort}
use Rattle.machine.specs.ComputedRun.{masked}
use Rattle.machine.proofs.Checked.{Checked, Passed}
use Rattle.machine.proofs.MaskedLaws.{open_end, masked_terminals, masked_passed}
use Rattle.machine.proofs.LrMachineLaws.{Config, conf, Path, accepts}
use Rattle.machine.proofs.Shifts.{Sound, sound, start_sound, path_sound, accepts_last}
use Rattle.machine.proofs.Explorations.{Comes, unlisted, Explored, shifts, stops, reads, Offer, CutShort, input_more, cut_other}
use Rattle.machine.proofs.Checkpoints.{other_tail}
use Rattle.machine.proofs.OpenPaths.{stops_alike, open_behind, ahead, passes_open, open_forget, mask_path, unmask_path, mask_stops, unmask_stops, open_next, all_open}

-- ---- two tables whose machines go the same way over an input have the same fresh readings

record Carries (t u : List ℕ) (a k : ℕ) (l : List ℕ) : Type 0 where
  pub comes : (c : Config) (left : ℕ) → Comes t a k l c left → Comes u a k l c left
  pub ends : (c : Config) (left n : ℕ) → Comes t a k l c left → Stops t (unlisted a k left) c n → Stops u (unlisted a k left) c n

carried : {t u line : List ℕ} {a k m n : ℕ} → (m ≢ 0 → Carries t u a k (line ++ m ∷ [])) → Carries t u a k line → Explored t a k line m n → Explored u a k line m n
carried f g (shifts {left} {qs} {out} nz w) = shifts nz ((f nz).comes (conf qs [] out) left w)
carried f g (stops {n} {left} {qs} {x} {out} nz nx w s) = stops nz nx ((f nz).comes (conf qs x out) left w) ((f nz).ends (conf qs x out) left n w s)
carried f g (reads {n} {left} {c} w s) = reads (g.comes c left w) (g.ends c left n w s)

-- ---- stops under open and closed terminals

module _ {t : List ℕ} {closed : ℕ} {a : Allowed} {c : Config} where
  pub open_stops : {n : ℕ} → Open closed (next c) → OpenStops t closed a c n → Stops t a c n
  open_stops o (closed_here h) = absurd (o h)
  open_stops o (as_ever o' s) = s

  closed_stops : {n : ℕ} → Has closed (next c) → OpenStops t closed a c n → n ≡ 31
  closed_stops h (closed_here h') = refl
  closed_stops h (as_ever o s) = absurd (o h)

-- with terminals ahead it is not acceptance
pub no_accept : {t l : List ℕ} {i n : ℕ} {a : Allowed} {c : Config} → Passed t l i → Sound t l c → ahead c ≢ [] → Stops t a c n → n ≢ 0
no_accept {t} {l} {i} pa s nx (accepted_here (accepts e) h) z = nx (accepts_last t l i pa s e)
no_accept pa s nx (wrong_here e) z = omega arith
no_accept pa s nx (no_steps f e) z = omega arith
no_accept pa s nx (list_full r h e) z = omega arith
no_accept pa s nx (broken_here e h f) z = omega arith
no_accept pa s nx (stack_full e h f g) z = omega arith

module _ (t : List ℕ) (closed a k : ℕ) (ch : Checked t) (ok : closed_ok t closed ≡ true) (places : 0 < k) where
  -- ---- over an input without closed terminals

  module _ (l : List ℕ) (input : input_ok t l ≡ true) where
    pa : Passed t l k
    pa = record { table = ch; input_passed = input; places = places }

    begins : Sound t l (conf (0 ∷ []) l [])
    begins = start_sound t l k pa

    module _ (free : OpenLine closed l) where
      mask_comes : Carries t (masked closed t) a k l
      mask_comes = record {
        comes = λ c left w. record { steps = w.steps; most = w.most; path = mask_path closed pa ok begins (all_open closed pa ok free begins w.path); within = w.within; budget = w.budget };
        ends = λ c left n w s. let h = path_sound t l k pa begins w.path in mask_stops closed pa ok h (as_ever (open_next closed pa ok free h) s);
      }

      unmask_comes : Carries (masked closed t) t a k l
      unmask_comes = record {
        comes = λ c left w. record { steps = w.steps; most = w.most; path = open_forget (unmask_path closed pa ok begins w.path); within = w.within; budget = w.budget };
        ends = λ c left n w s.
            let h = path_sound t l k pa begins (open_forget (unmask_path closed pa ok begins w.path)) in
            open_stops (open_next closed pa ok free h) (unmask_stops closed pa ok h s);
      }

  module _ (line : List ℕ) (input : input_ok t line ≡ true) where
    -- ---- the fresh reading for a closed terminal: it is wrong there, or it ends within the line, and so does that for 0

    module _ (m : ℕ) (h : Has closed m) (below : m < terminals t) (nz : m ≢ 0) where
      behind : input_ok t (line ++ m ∷ []) ≡ true
      behind = input_more t line m nz below input

      -- it is not shifted
      unread : {i most : ℕ} {qs out : List ℕ} → Path (masked closed t) i most (conf (0 ∷ []) (line ++ m ∷ []) []) (conf qs [] out) → ⊥
      unread w =
          let p = passes_open (unmask_path closed (pa (line ++ m ∷ []) behind) ok (begins (line ++ m ∷ []) behind) w) in
          let e : p.line ≡ line ++ m ∷ [] = sym (append-nil p.line) ∙ p.whole in
          let n = length-append line (m ∷ []) in
          let f : OpenLine closed (line ++ m ∷ []) = rw e at p.free in
          (rw (get_or-append_seam line m [] 0) at (f (length line) (omega (arith, n)))) h

      ends_before : {n left : ℕ} {c : Config} → Sound t (line ++ m ∷ []) c → ahead c ≢ [] → Comes (masked closed t) a k (line ++ m ∷ []) c left
          → Stops (masked closed t) (unlisted a k left) c n → (n ≡ 31) ⊎ ((n ≢ 0) × Explored (masked closed t) a k line 0 n)
      ends_before {n} {left} (sound {q} {qs} {x} {out} i b e) nx w s = go (drop i line) whole
        where
          whole : x ≡ drop i line ++ m ∷ []
          whole =
              ⊎_elim
              (λ (g : length line < i). let z = length-append line (m ∷ []) in absurd (nx (sym e ∙ drop_of_length-le (line ++ m ∷ []) {i = i} (omega (arith, z)))))
              (λ (g : i ≤ length line). sym e ∙ drop-append-le i line (m ∷ []) g)
              (lt_or_ge (length line) i)

          reached : Sound (masked closed t) (line ++ m ∷ []) (conf (q ∷ qs) x out)
          reached =
              let pb = masked_passed t closed (pa (line ++ m ∷ []) behind) in
              path_sound (masked closed t) (line ++ m ∷ []) k pb (start_sound (masked closed t) (line ++ m ∷ []) k pb) w.path

          alone : (v : ℕ) (u : List ℕ) → x ≡ v ∷ u ++ m ∷ [] → Comes (masked closed t) a k line (conf (q ∷ qs) (v ∷ u) out) left
          alone v u ex =
              let z = ap length ex ∙ ap suc (length-append u (m ∷ [])) in
              let p = other_tail (masked closed t) (m ∷ []) [] line (v ∷ u) refl ex (omega (arith, z)) w.path in
              record { steps = w.steps; most = w.most; path = rw (append-nil line, append-nil u) at p; within = w.within; budget = w.budget }

          go : (u : List ℕ) → x ≡ u ++ m ∷ [] → (n ≡ 31) ⊎ ((n ≢ 0) × Explored (masked closed t) a k line 0 n)
          go [] ex = inl (closed_stops (rw (ap peek ex) h) (unmask_stops closed (pa (line ++ m ∷ []) behind) ok (sound i b e) s))
          go (v ∷ u) ex =
              let same : cell_of (masked closed t) q (peek x) ≡ cell_of (masked closed t) q v = ap (cell_of (masked closed t) q) (ap peek ex) in
              inr (no_accept (masked_passed t closed (pa (line ++ m ∷ []) behind)) reached nx s, reads (alone v u ex) (stops_alike (record { cell = same; lengths = λ r f ne. refl; gotos = λ r p ps f ne d. refl }) s))

    closed_ends : {m n : ℕ} → Has closed m → m < terminals t → Explored (masked closed t) a k line m n → (n ≡ 31) ⊎ ((n ≢ 0) × Explored (masked closed t) a k line 0 n)
    closed_ends {m} h b (shifts nz w) = absurd (unread m h b nz w.path)
    closed_ends {m} h b (stops nz nx w s) =
        let pb = pa (line ++ m ∷ []) (behind m h b nz) in
        let g = begins (line ++ m ∷ []) (behind m h b nz) in
        ends_before m h b nz (path_sound t (line ++ m ∷ []) k pb g (open_forget (unmask_path closed pb ok g w.path))) nx w s
    closed_ends h b (reads w s) = absurd (open_end t closed ok h)

    -- ---- behind a line without closed terminals

    module _ (free : OpenLine closed line) where
      mask_explored : {m n : ℕ} → m < terminals t → Open closed m → Explored t a k line m n → Explored (masked closed t) a k line m n
      mask_explored {m} b o x = carried (λ nz. mask_comes (line ++ m ∷ []) (input_more t line m nz b input) (open_behind closed line m free o)) (mask_comes line input free) x

      unmask_explored : {m n : ℕ} → m < terminals t → Open closed m → Explored (masked closed t) a k line m n → Explored t a k line m n
      unmask_explored {m} b o x = carried (λ nz. unmask_comes (line ++ m ∷ []) (input_more t line m nz b input) (open_behind closed line m free o)) (unmask_comes line input free) x

      -- no closed terminal is offered
      found_open : {m : ℕ} → m < terminals t → Explored (masked closed t) a k line m 0 → Open closed m
      found_open b x h = ⊎_elim (λ e. omega (arith, e)) (λ z. z.0 refl) (closed_ends h b x)

      pub mask_cut : OpenCutShort t closed a k line → CutShort (masked closed t) a k line
      mask_cut c = record { terminal = c.terminal; number = c.number; below = rw (masked_terminals t closed) c.below; ends = mask_explored c.below c.unclosed c.ends; cut = c.cut }

      pub unmask_cut : CutShort (masked closed t) a k line → OpenCutShort t closed a k line
      unmask_cut c = go (bit closed c.terminal) refl
        where
          below : c.terminal < terminals t
          below = rw (masked_terminals t closed) at c.below

          at : (m : ℕ) → m < terminals t → Open closed m → Explored (masked closed t) a k line m c.number → OpenCutShort t closed a k line
          at m b o x = record { terminal = m; number = c.number; below = b; unclosed = o; ends = unmask_explored b o x; cut = c.cut }

          go : (v : Bool) → bit closed c.terminal ≡ v → OpenCutShort t closed a k line
          go false e = at c.terminal below (λ h. false≢true (sym e ∙ h)) c.ends
          go true e =
              ⊎_elim (λ z. absurd (cut_other c.cut z)) (λ z. at 0 ch.sizes.terminals_are.0 (open_end t closed ok) z.1) (closed_ends e below c.ends)

      pub mask_offer : {word : ℕ} → OpenOffer t closed a k line word → Offer (masked closed t) a k line word
      mask_offer {word} o = record {
        members = λ m. (λ h. into m ((o.members m).0 h), λ z. out m (rw (masked_terminals t closed) at z.0) z.1);
        uncut = λ m n b x c.
            let s = unmask_cut (record { terminal = m; number = n; below = b; ends = x; cut = c }) in
            o.uncut s.terminal s.number s.below s.unclosed s.ends s.cut;
      }
        where
          into : (m : ℕ) → (m < terminals t) × Open closed m × Explored t a k line m 0 → (m < terminals (masked closed t)) × Explored (masked closed t) a k line m 0
          into m z = (rw (masked_terminals t closed) z.0, mask_explored z.0 z.1 z.2)

          out : (m : ℕ) → m < terminals t → Explored (masked closed t) a k line m 0 → Has word m
          out m b x = let f = found_open b x in (o.members m).1 (b, f, unmask_explored b f x)

      pub unmask_offer : {word : ℕ} → Offer (masked closed t) a k line word → OpenOffer t closed a k line word
      unmask_offer {word} o = record {
        members = λ m. (λ h. into m ((o.members m).0 h), λ z. (o.members m).1 (rw (masked_terminals t closed) z.0, mask_explored z.0 z.1 z.2));
        uncut = λ m n b f x c. o.uncut m n (rw (masked_terminals t closed) b) (mask_explored b f x) c;
      }
        where
          into : (m : ℕ) → (m < terminals (masked closed t)) × Explored (masked closed t) a k line m 0 → (m < terminals t) × Open closed m × Explored t a k line m 0
          into m z =
              let b : m < terminals t = rw (masked_terminals t closed) at z.0 in
              let f = found_open b z.1 in
              (b, f, unmask_explored b f z.1)
