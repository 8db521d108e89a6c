-- Calls on an open alone, who holds a gate, and who has joined a line: he stands there until he is over.
use Rattle.std.proofs.Common.{◌≡◌, ◌≢◌, ℕ, zero, suc, ◌<◌, ◌^◌, Bool, true, false, cond, List, [], ◌∷◌, ◌++◌, ◌-◌, drop, slice_get, Option, Some, None, refl, sym, ap, subst, ◌∙◌, ◌⊎◌, inl, inr, arith}
use Rattle.exec_driver_laws.{proofs.{Words.{Contains, option_map, is_none, cases_lt, Contains-append_left, Contains-push, gate_of, gate_in, holder_at, joined, open_at, open_named, passed, with_named, with_open, WaiterKey, set_there, same_some, Driving, OpenState, Waiter, request_at}, Once.stays_gone, Sharing.{call_lines, line_up_always}, Standing.{open_tells, joined_holds}}, specs.Sharing.{Call, Join, Leave, Gates, IsRun, StandsAt, StandsIn, joined_by, key_of, passed_on}}

module _ {S F : Type 0} where
  pub holds_on : (worker : ℕ) (old new : Driving S F) (g g' : Gates) → Call worker old new g g' → (file : ℕ) (key : WaiterKey) → g.leaving file ≡ None → holder_at g.opens file ≡ Some key → holder_at g'.opens file ≡ Some key
  holds_on worker old new g g' (Join id fits same is) file key stays holds = grind (arith, open_tells, joined_holds)
  holds_on worker old new g g' (Leave id gate leaves same is) file key stays holds = grind (arith, open_tells)
  holds_on worker old new g g' other file key stays holds = (call_lines worker old new g g' other refl).holder file ∙ holds

-- ONE OPEN: who stands in its line stays there

still : (other : WaiterKey) (o : OpenState) (key : WaiterKey) → StandsIn key (Some o) → StandsIn key (Some (joined other o))
still other o key stands = by (is_none o.holder) refl stands
  where
    by : (b : Bool) → is_none o.holder ≡ b → StandsIn key (Some o) → StandsIn key (Some (cond b (record o { coming = o.coming - 1; holder = Some other }) (record o { coming = o.coming - 1; waiting = o.waiting ++ other ∷ [] })))
    by true free (inl holds) = absurd (let held : is_none (Some key) ≡ true = ap is_none (sym holds) ∙ free in cc)
    by true free (inr waits) = inr waits
    by false held (inl holds) = inl holds
    by false held (inr waits) = inr (Contains-append_left o.waiting (other ∷ []) key waits)

here : (key : WaiterKey) (o : OpenState) → StandsIn key (Some (joined key o))
here key o = by (is_none o.holder)
  where
    by : (b : Bool) → StandsIn key (Some (cond b (record o { coming = o.coming - 1; holder = Some key }) (record o { coming = o.coming - 1; waiting = o.waiting ++ key ∷ [] })))
    by true = inl refl
    by false = inr (Contains-push o.waiting key)

next_or_behind : (waiting : List WaiterKey) (key : WaiterKey) → Contains waiting key → (slice_get waiting 0 ≡ Some key) ⊎ Contains (drop 1 waiting) key
next_or_behind [] key waits = let within = waits.1 in absurd (omega (arith, within))
next_or_behind (x ∷ rest) key (zero, within, is) = inl (ap Some is)
next_or_behind (x ∷ rest) key (suc k, within, is) = inr (k, omega (arith, within), is)

-- THE OPENS

name_stands : (opens : List OpenState) (file : ℕ) (name : Option ℕ) (change : OpenState → OpenState) (key : WaiterKey) → ((o : OpenState) → StandsIn key (Some o) → StandsIn key (Some (change o))) → StandsAt opens file key
    → StandsAt (with_named opens name change) file key
name_stands = grind (arith, open_tells)

by_gates : (g' g : Gates) (file : ℕ) (key : WaiterKey) → g' ≡ g → StandsAt g.opens file key → StandsAt g'.opens file key
by_gates g' g file key same stands = subst (λ (h : Gates). StandsAt h.opens file key) (sym same) stands

-- its holder alone leaves
passed_stands : (opens : List OpenState) (file gate : ℕ) (key : WaiterKey) → (file ≡ gate → holder_at opens file ≡ Some key → ⊥) → StandsAt opens file key → StandsAt (with_open opens gate passed) file key
passed_stands = grind (arith, open_tells, next_or_behind)

-- it joins the line of an open that is there
joins_line : (opens : List OpenState) (gate : Option ℕ) (who key : WaiterKey) → option_map (λ (o : OpenState). who) (open_named opens gate) ≡ Some key → (who ≡ key) × ((file : ℕ) × StandsAt (with_named opens gate (joined who)) file who)
joins_line opens None who key is = absurd (cc)
joins_line opens (Some file) who key is = by (open_at opens file) refl
  where
    by : (o : Option OpenState) → open_at opens file ≡ o → (who ≡ key) × ((f : ℕ) × StandsAt (with_open opens file (joined who)) f who)
    by None none = absurd (let never : None ≡ Some key = sym (ap (option_map (λ (o : OpenState). who)) none) ∙ is in cc)
    by (Some o) some =
        let same : Some who ≡ Some key = sym (ap (option_map (λ (x : OpenState). who)) some) ∙ is in
        (cc, (file, rw some (subst (StandsIn who) (sym (set_there opens file o (joined who o) some)) (here who o))))

-- who is to leave a gate holds it
abbrev Hold : Gates → Type 0
Hold g = (k : WaiterKey) (gate : ℕ) → g.leaving gate ≡ Some k → holder_at g.opens gate ≡ Some k

module _ {S F : Type 0} where
  pub stands_on : (worker : ℕ) (old new : Driving S F) (g g' : Gates) → Call worker old new g g' → Hold g → (file : ℕ) (key : WaiterKey) → g.leaving file ≢ Some key → StandsAt g.opens file key → StandsAt g'.opens file key
  stands_on worker old new g g' (Join id fits same is) hold file key stays stands =
      by_gates g' _ file key is (name_stands g.opens file (gate_in (request_at old id)) (joined (key_of worker id)) key (λ o has. still (key_of worker id) o key has) stands)
  stands_on worker old new g g' (Leave id gate leaves same is) hold file key stays stands =
      let other : file ≡ gate → holder_at g.opens file ≡ Some key → ⊥ = λ here holds. stays (ap g.leaving here ∙ leaves ∙ sym (hold (key_of worker id) gate leaves) ∙ ap (holder_at g.opens) (sym here) ∙ holds) in
      by_gates g' (passed_on g gate) file key is (passed_stands g.opens file gate key other stands)
  stands_on worker old new g g' other hold file key stays stands = (call_lines worker old new g g' other refl).stood file key stands

  -- a request of the worker that is there stands in a line after the call
  record JoinsHere (worker : ℕ) (old : Driving S F) (g' : Gates) (key : WaiterKey) : Type 0 where
    pub own : key.worker ≡ worker
    pub fits : key.id.0.generation < 2 ^ 64
    pub w : Waiter S F
    pub at : request_at old key.id ≡ Some w
    pub file : ℕ
    pub stands : StandsAt g'.opens file key

  joins_here : (worker : ℕ) (old new : Driving S F) (g g' : Gates) (call : Call worker old new g g') (key : WaiterKey) → joined_by call ≡ Some key → JoinsHere worker old g' key
  joins_here worker old new g g' (Join id fits same is) key joins =
      let line = joins_line g.opens (gate_in (request_at old id)) (key_of worker id) key joins in
      let there = gated (request_at old id) joins in
      subst (JoinsHere worker old g') line.0 (record { own = refl; fits = fits; w = there.0; at = there.1; file = line.1.0; stands = by_gates g' _ line.1.0 (key_of worker id) is line.1.1 })
    where
      gated : (o : Option (Waiter S F)) → option_map (λ (x : OpenState). key_of worker id) (open_named g.opens (gate_in o)) ≡ Some key → (w : Waiter S F) × (o ≡ Some w)
      gated None never = absurd (cc)
      gated (Some w) joins = (w, refl)
  joins_here worker old new g g' other key joins = absurd (cc)

  -- OVER A RUN

  stands_since : (drivers : ℕ → ℕ → Driving S F) (gates : ℕ → Gates) (run : IsRun drivers gates) (k n : ℕ) (key : WaiterKey) (w : Waiter S F) → k < n → joined_by (run.next k).call ≡ Some key → request_at (drivers n key.worker) key.id ≡ Some w
      → (file : ℕ) × StandsAt (gates n).opens file key
  stands_since drivers gates run k zero key w since joins at = absurd (omega (arith, since))
  stands_since drivers gates run k (suc m) key w since joins at =
      elim (cases_lt k m) [
        | inl before ↦ goes_on before (λ v there. stands_since drivers gates run k m key v before joins there) (request_at (drivers m key.worker) key.id) refl
        | inr last ↦ let same : k ≡ m = omega (arith, since, last) in subst (λ (i : ℕ). (file : ℕ) × StandsAt (gates (suc i)).opens file key) same (first.file, first.stands)
      ]
    where
      first : JoinsHere (run.next k).worker (drivers k (run.next k).worker) (gates (suc k)) key
      first = joins_here (run.next k).worker _ _ (gates k) (gates (suc k)) (run.next k).call key joins

      goes_on : k < m → ((v : Waiter S F) → request_at (drivers m key.worker) key.id ≡ Some v → (f : ℕ) × StandsAt (gates m).opens f key) → (o : Option (Waiter S F)) → request_at (drivers m key.worker) key.id ≡ o → (file : ℕ) × StandsAt (gates (suc m)).opens file key
      goes_on before stood None none =
          let was = ap (λ (i : ℕ). request_at (drivers k i) key.id) first.own ∙ first.at in
          let gone = stays_gone drivers gates run k m (suc m) (omega (arith, before)) (omega arith) key first.w first.fits was none in
          absurd (let never : None ≡ Some w = sym gone ∙ at in cc)
      goes_on before stood (Some v) there =
          let line = stood v there in
          let up = line_up_always drivers gates run m in
          let stays : (gates m).leaving line.0 ≢ Some key = λ leaves. let never : None ≡ Some v = sym (up.over key line.0 leaves) ∙ there in cc in
          (line.0, stands_on (run.next m).worker _ _ (gates m) (gates (suc m)) (run.next m).call up.holds line.0 key stays line.1)

  pub stands_always : (drivers : ℕ → ℕ → Driving S F) (gates : ℕ → Gates) (run : IsRun drivers gates) (k n : ℕ) (key : WaiterKey) (w : Waiter S F) (file : ℕ) → k < n → joined_by (run.next k).call ≡ Some key
      → request_at (drivers n key.worker) key.id ≡ Some w → gate_of w.request ≡ Some file → StandsAt (gates n).opens file key
  stands_always drivers gates run k n key w file since joins at gate =
      let stood = stands_since drivers gates run k n key w since joins at in
      let own = same_some (gate_of w.request) stood.0 file ((line_up_always drivers gates run n).lines key w stood.0 at stood.1) gate in
      subst (λ (i : ℕ). StandsAt (gates n).opens i key) own stood.1
