-- The requests of a worker stand in its lists after each event that changes one of them, or makes one.
use Rattle.std.proofs.{Common.{◌≡◌, ℕ, ◌+◌, ◌==◌, ◌&&◌, ◌||◌, Bool, true, false, List, [], ◌∷◌, ◌++◌, length, map, set, get_or, drop, Option, Some, None, if◌then◌else◌, ◌∙◌, refl, sym, ap, subst, arith}, lemmas.Bool.{true≢false, false≢true, eqb-true}, Math.ListN.get_or-map}
use Rattle.exec_outcomes.specs.{declared.outcome.{Outcome.Outcome, OpResult.OpResult, Kind.Kind}, Accounts.is_durable}
use Rattle.exec_machine.specs.{declared.{config.{Configuration.Configuration, ScriptWord.ScriptWord}, event.Event.{Event, Event as event}, state.{Request.Request, Operation.Operation, RequestPhase.RequestPhase as phase}}, After.{own_after, common_after}, Allowed.Allowed, Choice.Choice, Deadlines.expired, Requests.{asked_now, dropped, ends_by_drop, first_phase, flown, granted, is_cancelled_by_drop, new_request, operation_asked, operation_or_none, own_after_drop, own_after_end, reaped, resolved_if, with_seen}, Same.is_none, Tests.{is_in_flight, is_landed, is_resolved}, Words.{next_word, polled_task}, World.{Own as Books, Common, no_request, request_of, seat_of}}
use Rattle.exec_books.{specs.Listed.{IsListed, is_in}, proofs.{Listed.{KeepsIn, in_last, kept_drop, kept_joined, kept_left, over_listed}, MineLists.{AllMine, SameLists, books, keeps_same, new_mine, one_mine, same_lists}, MinePhases.{cancelled_listed, drop_listed, enrolled_listed, flown_listed, gated_open, landed_open, no_more, not_cancelled, put_unenrolled, queued_open, ready_listed, told_staged}, MineDrops.keeps_drop}}
use Rattle.exec_rest.proofs.Events.{landed_by}
use Rattle.exec_machine.specs.declared.state.Next.TheVariants as next

-- an operation that waits at a gate has no deadline
durable_undated : (c : Configuration) (sampled : ℕ) (w : ScriptWord) → is_durable (operation_or_none (operation_asked c sampled w)).kind ≡ true → is_none (operation_or_none (operation_asked c sampled w)).deadline ≡ true
durable_undated = grind arith

-- what is left of a request that joins a gate is in no list
gated_listed : (me : Books) (landed : List ℕ) (k : ℕ) (y : Request) → y.phase ≡ phase.Gated → y.operation.deadline ≡ None → IsListed me landed k y
gated_listed = grind arith

-- what stood in the lists of others than r stands there still where r is over
keeps_end : (me me' : Books) (landed landed' : List ℕ) (r k : ℕ) → SameLists (own_after_end true r me) me' → (k == r) ≡ false → (is_in k landed ≡ true → is_in k landed' ≡ true) → KeepsIn k me me' landed landed'
keeps_end me me' landed landed' r k same other there =
    record {
      ready = λ h. rw same.ready (kept_left true k r me.ready other h);
      landed_in = there;
      unenrolled = λ h. rw same.unenrolled (kept_left true k r me.unenrolled other h);
      cancels = λ h. rw same.cancels (kept_left true k r me.cancels other h);
      ended = λ h. rw same.ended (kept_joined true k r me.ended h);
    }

-- EACH EVENT

module _ (c : Configuration) (me : Books) (s : Common) (i : ℕ) (mine : AllMine i me (seat_of s i).landed s.requests) where
  abbrev landed : List ℕ
  landed = (seat_of s i).landed

  abbrev After : Event → Choice → Type 0
  After e choice = AllMine i (own_after c me s i e choice) (landed_by e landed) (common_after c me s i e choice).requests

  -- one changes
  changes : (me' : Books) (r : ℕ) (y : Request) → ((k : ℕ) → (k == r) ≡ false → KeepsIn k me me' landed landed) → IsListed me' landed r y → AllMine i me' landed (set s.requests r y)
  changes me' r y keeps new = one_mine i me me' landed landed s.requests r y mine keeps (λ whose. new)

  pub grants : (r : ℕ) (o : Option Outcome) (choice : Choice) → (request_of s r).worker ≡ i → Allowed c me s i (event.Grant r o) choice → After (event.Grant r o) choice
  grants r (Some o) choice own may =
      let me' = own_after c me s i (event.Grant r (Some o)) choice in
      changes me' r (granted (Some o) (request_of s r))
      (λ k other. keeps_end me me' landed landed r k (same_lists refl refl refl refl) other (λ h. h))
      (over_listed me' landed r (granted (Some o) (request_of s r)) o refl (in_last r me.ended))
  grants r None choice own may =
      let me' = own_after c me s i (event.Grant r None) choice in
      let it = request_of s r in
      changes me' r (granted None it)
      (λ k other. record { ready = kept_joined true k r me.ready; landed_in = λ h. h; unenrolled = λ h. h; cancels = λ h. h; ended = λ h. h })
      (ready_listed me landed r it (mine r own) me' landed (granted None it) (gated_open it.phase may.1.1.0) refl refl refl refl (in_last r me.ready) refl)

  pub enrols : (r : ℕ) (o : Option Outcome) (choice : Choice) → (request_of s r).worker ≡ i → Allowed c me s i (event.Enrol r o) choice → After (event.Enrol r o) choice
  enrols = grind (arith, changes, kept_left, kept_drop, kept_joined, over_listed, in_last, enrolled_listed)

  pub expires : (r : ℕ) (o : Option Outcome) (choice : Choice) → (request_of s r).worker ≡ i → After (event.Expire r o) choice
  expires r (Some o) choice own =
      let me' = own_after c me s i (event.Expire r (Some o)) choice in
      changes me' r (expired (Some o) (request_of s r))
      (λ k other. keeps_end me me' landed landed r k (same_lists refl refl refl refl) other (λ h. h))
      (over_listed me' landed r (expired (Some o) (request_of s r)) o refl (in_last r me.ended))
  expires r None choice own =
      let me' = own_after c me s i (event.Expire r None) choice in
      changes me' r (expired None (request_of s r))
      (λ k other. record { ready = λ h. h; landed_in = λ h. h; unenrolled = λ h. h; cancels = kept_joined true k r me.cancels; ended = λ h. h })
      (cancelled_listed me landed r (request_of s r) (mine r own) me' (expired None (request_of s r)) refl refl refl refl (in_last r me.cancels) refl)

  pub stages : (r : ℕ) (choice : Choice) → (request_of s r).worker ≡ i → Allowed c me s i (event.Stage r) choice → After (event.Stage r) choice
  stages = grind (arith, changes, kept_drop, false≢true, put_unenrolled, queued_open, not_cancelled)

  pub cancels_one : (r : ℕ) (choice : Choice) → (request_of s r).worker ≡ i → Allowed c me s i (event.Cancel r) choice → After (event.Cancel r) choice
  cancels_one = grind (arith, changes, kept_drop, told_staged)

  pub releases : (r : ℕ) (choice : Choice) → (request_of s r).worker ≡ i → Allowed c me s i (event.Release r) choice → After (event.Release r) choice
  releases = grind (arith, changes, kept_drop, no_more)

  -- somebody lets go of one: by a word, by a message, or as the worker closes
  pub lets_go : (r : ℕ) → (request_of s r).worker ≡ i → AllMine i (own_after_drop me s r) landed (set s.requests r (dropped (request_of s r)))
  lets_go r own =
      let it = request_of s r in
      changes (own_after_drop me s r) r (dropped it) (keeps_drop me s landed r) (drop_listed me landed r it (ends_by_drop it) (is_cancelled_by_drop it) refl refl (mine r own))

  pub reaps : (r : ℕ) (n : OpResult) (o : Option Outcome) (choice : Choice) → (request_of s r).worker ≡ i → Allowed c me s i (event.Reap r n o) choice → After (event.Reap r n o) choice
  reaps r n (Some x) choice own may =
      let me' = own_after c me s i (event.Reap r n (Some x)) choice in
      one_mine i me me' landed (drop 1 landed) s.requests r (reaped n (Some x) (request_of s r)) mine
      (λ k other. keeps_end me me' landed (drop 1 landed) r k (same_lists refl refl refl refl) other (kept_drop k r landed may.1.0 other))
      (λ whose. over_listed me' (drop 1 landed) r (reaped n (Some x) (request_of s r)) x refl (in_last r me.ended))
  reaps r n None choice own may =
      let me' = own_after c me s i (event.Reap r n None) choice in
      let it = request_of s r in
      one_mine i me me' landed (drop 1 landed) s.requests r (reaped n None it) mine
      (λ k other. record { ready = kept_joined true k r me.ready; landed_in = λ h. kept_drop k r landed may.1.0 other h; unenrolled = λ h. h; cancels = λ h. h; ended = λ h. h })
      (λ whose. ready_listed me landed r it (mine r own) me' (drop 1 landed) (reaped n None it) (landed_open n it.phase may.1.1.1.0) refl refl refl refl (in_last r me.ready) refl)

  flown_worker : (it : Request) → (flown i it).worker ≡ it.worker
  flown_worker = grind arith

  flown_none : flown i no_request ≡ no_request
  flown_none = grind arith

  pub enters : (choice : Choice) → After event.Enter choice
  enters choice k =
      let same = sym (get_or-map (flown i) s.requests k no_request) ∙ ap (λ (none : Request). get_or (map (flown i) s.requests) k none) flown_none in
      subst (λ (y : Request). y.worker ≡ i → IsListed (own_after c me s i event.Enter choice) landed k y) same
      (λ whose. books me (own_after c me s i event.Enter choice) landed k (flown i (request_of s k)) (same_lists refl refl refl refl)
      (flown_listed me landed k (request_of s k) (mine k (sym (flown_worker (request_of s k)) ∙ whose)) i))

  -- ADMIT

  same_kind_seen : (o : Operation) → ((with_seen o s).kind ≡ o.kind) × ((with_seen o s).deadline ≡ o.deadline)
  same_kind_seen = grind arith

  pub admits : (r : ℕ) (kind : Kind) (o : Option Outcome) (choice : Choice) → Allowed c me s i (event.Admit r kind o) choice → After (event.Admit r kind o) choice
  admits r kind (Some x) choice may =
      let me' = own_after c me s i (event.Admit r kind (Some x)) choice in
      let y = resolved_if (Some x) (new_request i (with_seen (asked_now c me s) s)) in
      let is = eqb-true r (length s.requests) may.1.1.0 in
      new_mine i me me' landed landed s.requests y mine
      (λ k other. let apart = subst (λ j. (k == j) ≡ false) (sym is) other in
      keeps_end me me' landed landed r k (same_lists refl refl refl refl) apart (λ h. h))
      (subst (λ j. IsListed me' landed j y) is (over_listed me' landed r y x refl (in_last r me.ended)))
  admits r kind None choice may = by (is_durable (asked_now c me s).kind) refl
    where
      o : Operation
      o = asked_now c me s

      y : Request
      y = new_request i (with_seen o s)

      by : (b : Bool) → is_durable o.kind ≡ b
          → AllMine i (record (if b then record me { next = next.Joins r; unreleased = me.unreleased + 1 }
          else record me { ready = me.ready ++ r ∷ []; unenrolled = (if is_none o.deadline then me.unenrolled else me.unenrolled ++ r ∷ []); unreleased = me.unreleased + 1 }) { serving = false })
          landed (s.requests ++ y ∷ [])
      by true durable =
          let me' = record me { next = next.Joins r; unreleased = me.unreleased + 1; serving = false } in
          new_mine i me me' landed landed s.requests y mine (λ k other. keeps_same landed (same_lists refl refl refl refl) k)
          (gated_listed me' landed (length s.requests) y (ap first_phase (same_kind_seen o).0 ∙ (rw durable refl))
          ((same_kind_seen o).1 ∙ undated o.deadline (durable_undated c me.sampled (next_word s (polled_task me s)) durable)))
        where
          undated : (d : Option ℕ) → is_none d ≡ true → d ≡ None
          undated None h = refl
          undated (Some m) h = absurd (false≢true h)
      by false queueing =
          let seen = same_kind_seen o in
          let me' = record me { ready = me.ready ++ r ∷ []; unenrolled = (if is_none o.deadline then me.unenrolled else me.unenrolled ++ r ∷ []); unreleased = me.unreleased + 1; serving = false } in
          let is = eqb-true r (length s.requests) may.1.1.0 in
          let queued : y.phase ≡ phase.Queued = ap first_phase seen.0 ∙ (rw queueing refl) in
          new_mine i me me' landed landed s.requests y mine
          (λ k other. record { ready = kept_joined true k r me.ready; landed_in = λ h. h; unenrolled = unenrolled k (is_none o.deadline); cancels = λ h. h; ended = λ h. h })
          (subst (λ j. IsListed me' landed j y) is (record {
            queued = λ h. in_last r me.ready;
            landed_in = λ h. absurd (false≢true (subst (λ p. is_landed p ≡ true) queued h));
            unenrolled = λ h. joined (is_none o.deadline) (ap is_none (sym seen.1) ∙ subst (λ p. (is_resolved p || false || false || is_none y.operation.deadline) ≡ false) queued h);
            cancels = λ h. absurd (false≢true (subst (λ p. (is_in_flight p && false && true) ≡ true) queued h));
            over = λ h. absurd (false≢true (subst (λ p. (is_resolved p && true) ≡ true) queued h));
          }))
        where
          unenrolled : (k : ℕ) (b : Bool) → is_in k me.unenrolled ≡ true → is_in k (if b then me.unenrolled else me.unenrolled ++ r ∷ []) ≡ true
          unenrolled k true h = h
          unenrolled k false h = kept_joined true k r me.unenrolled h

          joined : (b : Bool) → b ≡ false → is_in r (if b then me.unenrolled else me.unenrolled ++ r ∷ []) ≡ true
          joined true h = absurd (true≢false h)
          joined false h = in_last r me.unenrolled
