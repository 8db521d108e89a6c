-- A message of the batch says that a request is waited for elsewhere, case by case: its end came and went, its output is kept, or it isn't over.
use Rattle.std.proofs.{Common.{◌≡◌, ◌⊎◌, inl, ℕ, ◌+◌, ◌≤◌, ◌||◌, true, false, not, List, [], ◌∷◌, ◌++◌, slice_index_or, Option, Some, None, IsSome, Result, Ok, Err, refl, sym, ap, subst, ◌∙◌, arith, slice_get, if◌then◌else◌}, lemmas.{Bool.false≢true, List.{append-nil, length-set}}}
use Rattle.exec_base.specs.{Slab.{Slab, is_live, value_at, written, removed, freed}, declared.{error.Error.{Error, TheVariants.Closed}, slab.{Id.Id, Slot.{Slot, TheVariants.{Live, Vacant, Retired}}}, task_no.TaskNo.TaskNo}}
use Rattle.exec_request.specs.declared.output.RequestOutput.{RequestOutput}
use Rattle.exec_waiters.{specs.{Events.{answered, forwarded_from, told_by_forward}, States.{awaits_tick, flying_count, is_held_by, is_local, pending_count, tick_of, waiter_at, waiter_of}, Told.{Tells, nothing_told}, declared.{deferred.{Answer.Answer, Deferred.Deferred}, observer.Observer.{Observer, TheVariants.{Local, Forwarded, DetachedSync, Orphaned}}, waiter.{Entry.{Entry, TheVariants.{Pending, Ready}}, Waiter.Waiter}, waiter_id.WaiterId.WaiterId}}, proofs.Changes.one_if}
use Rattle.exec_driver.specs.{Driving.Driving, Punctual.IsPunctual}
use Rattle.exec_lists.specs.Lists.{is_among}
use Rattle.exec_machine.specs.{declared.state.{Forwarding.TheVariants.{Applied, Sent}}, Tests.is_resolved}
use Rattle.exec_moves.specs.{declared.handing.Heard.Heard, Slots.{is_in_slots, is_some_slot, vacated}, Told.awaits_no_more}
use Rattle.exec_parts.{specs.{declared.parts.{mail.Reply.Reply, record.Record.Record, shared.Shared.Shared, worker.Worker.Worker}, Calls.{forward_applied, IsTold}, MailTakes.{TakesForward, reply_for}, Records.{number_in, outcome_in}, Serving.changed_at, View.{awaited_from, awaits_entry, desk_of, driver_of, results_in, slots_seen}}, proofs.Facts.{false_from_ne_true, same_Some}}
use Rattle.exec_invariants.{specs.{Gates.AreLinedUp, Holding.{IsAnswerOf, thing_of}, Rooted.{IsNear, goes_elsewhere}, Sound.served_in, Names.{IsAlike, tellers}}, proofs.{Changing.{changes_one, flying_after, pending_still}, HeldCounts.held_written, LetRooted.told_one, LetSeen.{not_in, value_live}, LetSlab.{one_held_less, other_entry, past_back, same_flying, same_pending, same_waiters, still_there}, Orders.{Eases, alike_self, past_removed}, Resolving.{places_fewer, wide_ended}, ServingHolds.KeepsSpare, Slotted.{awaited_over, awaited_removed, slot_in, slots_vacated, slots_written}, Watching.{Rewatched, Watched, still_pending, watched}}}
use Rattle.exec_messages.proofs.{MailSent.rooted_sent, MailForwards.{SeenForward, alike_forwarded, apart_at, by_record, by_watched, completed_same, desk_by, due_none, final, forward_shape, kept_as, kept_else, kept_here, last_seen, number, one_is, one_slot, outputs_same, own_by, rooted_now, shows_by, told_then, unapplied, unique_at, wakes_same, wheel_at, wide_then, with_reply}}

module _ {B : Type 0} (k : ℕ) (w v : Worker) (s s' : Shared B) (idle : served_in w.place ≡ None) (gates : AreLinedUp s.opens s.requests.items) (spare : ℕ) (keeps : KeepsSpare (spare + 1) w s) (takes : TakesForward k w v s s') (mine : takes.r.shown.worker ≡ w.index) (sent : takes.r.shown.forwarding ≡ Sent) where
  abbrev d : Driving Reply Reply
  d = driver_of w

  abbrev n : List ℕ
  n = w.names.requests.items

  abbrev rs : List Record
  rs = s.requests.items

  abbrev r : Record
  r = takes.r

  abbrev id : Id
  id = takes.r.id.0

  abbrev kk : ℕ
  kk = number_in w.names.requests.items takes.r.id.0

  abbrev reply : Reply
  reply = reply_for takes.forwards.t (Heard.Request k)

  abbrev left : Deferred Reply Reply
  left = v.home.deferred

  abbrev left0 : Deferred Reply Reply
  left0 = w.home.deferred

  abbrev the_answer : Result RequestOutput Error → Answer Reply
  the_answer x = record { id = record { 0 = takes.r.id.0 }; sender = reply; result = x }

  -- ITS END CAME, AND WENT
  seen_gone : value_at d.requests id ≡ None → SeenForward k w v s s' idle gates spare keeps takes mine sent
  seen_gone none =
      let drv : driver_of v ≡ d = takes.forwards.driver ∙ ap (λ o. record d { requests = forwarded_from d.requests id reply o }) none in
      let tells : Tells left0 left (answered id reply (Err Closed)) = subst (λ o. Tells left0 left (told_by_forward id reply o)) none takes.forwards.tells in
      let over : is_resolved r.shown.phase ≡ true = keeps.named.over k r takes.request mine (ap waiter_of none) in
      let unseen : r.shown.observed ≡ false = false_from_ne_true r.shown.observed (λ seen. absurd (false≢true (subst (λ o. IsSome o) none (keeps.rooted.ready k r takes.request mine over seen (unapplied k w v s s' idle gates spare keeps takes mine sent)).live))) in
      let apart : (x : Id) → IsSome (value_at d.requests x) → number_in n x ≡ k → ⊥ = λ x some is. absurd (false≢true (subst (λ o. IsSome o) (ap (value_at d.requests) (apart_at k w v s s' idle gates spare keeps takes mine sent k takes.request x some is) ∙ none) some)) in
      let elsewhere : goes_elsewhere (forward_applied r) ≡ true = ap (λ b. b || not r.shown.observed) over in
      let added : left.results.items ≡ left0.results.items ++ the_answer (Err Closed) ∷ [] = tells.results_added in
      let rooted = rooted_now k w v s s' idle gates spare keeps takes mine sent k takes.request refl (Err Closed) added unseen elsewhere d (λ x differs. refl)
      (λ told at. let no : None ≡ Some (Ready told) = sym none ∙ at in absurd (cc)) (λ it f at forwarded. let no : None ≡ Some it = sym (ap waiter_of none) ∙ at in absurd (cc)) (completed_same k w v s s' idle gates spare keeps takes mine sent (Err Closed) tells) in
      let absent : is_in_slots k (slots_seen n d.requests) ≡ false = ap is_some_slot (not_in k 0 n d.requests.slots (λ j x at alive same. no_slot none j x at alive (ap (λ m. slice_index_or n m 0) (let e : j ≡ 0 + j = omega arith in e) ∙ same))) in
      record {
        keeps_on = final k w v s s' idle gates spare keeps takes mine sent k refl d drv (by_record k w v s s' idle gates spare keeps takes mine sent k takes.request apart rooted (told_then k w v s s' idle gates spare keeps takes mine sent (Err Closed) tells d.requests (omega arith)) (wide_then k w v s s' idle gates spare keeps takes mine sent (Err Closed) tells d.requests (omega arith)) (wakes_same k w v s s' idle gates spare keeps takes mine sent (Err Closed) tells));
        desk = desk_by k w v s s' idle gates spare keeps takes mine sent d.requests drv (wakes_same k w v s s' idle gates spare keeps takes mine sent (Err Closed) tells) (completed_same k w v s s' idle gates spare keeps takes mine sent (Err Closed) tells) (outputs_same k w v s s' idle gates spare keeps takes mine sent (Err Closed) tells)
            ∙ ap (λ ns. record (desk_of w) { results = ns }) (last_seen k w v s s' idle gates spare keeps takes mine sent (Err Closed) added)
            ∙ sym (ap (λ b. forward_shape b (is_resolved r.shown.phase) r.shown.observed k (desk_of w)) absent);
        own = own_by k w v s s' idle gates spare keeps takes mine sent d.requests drv refl;
        shows = shows_by k w v s s' idle gates spare keeps takes mine sent d.requests drv;
      }
    where
      no_slot : value_at d.requests id ≡ None → (j : ℕ) (x : Slot (Entry Reply Reply)) → slice_get d.requests.slots j ≡ Some x → is_live x ≡ true → slice_index_or n j 0 ≡ k → ⊥
      no_slot none j (Live g e) at alive same =
          let other : Id = record { index = j; generation = g } in
          let value = value_live d.requests j g e at in
          let is : other ≡ id = apart_at k w v s s' idle gates spare keeps takes mine sent k takes.request other (rw value refl) same in
          let no : Some e ≡ None = sym value ∙ ap (value_at d.requests) is ∙ none in
          absurd (cc)
      no_slot none j (Vacant g) at alive same = false≢true alive
      no_slot none j Retired at alive same = false≢true alive

  -- ITS OUTPUT IS KEPT: it is sent
  seen_over : (told : RequestOutput) → value_at d.requests id ≡ Some (Ready told) → SeenForward k w v s s' idle gates spare keeps takes mine sent
  seen_over told ready =
      let s0 = d.requests in
      let zs = w.home.timers in
      let some : IsSome (value_at s0 id) = rw ready refl in
      let is = number k w v s s' idle gates spare keeps takes mine sent some in
      let at : slice_get rs kk ≡ Some r = ap (slice_get rs) is ∙ takes.request in
      let kept = keeps.rooted.kept id told r ready at in
      let d' : Driving Reply Reply = record d { requests = removed s0 id } in
      let drv : driver_of v ≡ d' = takes.forwards.driver ∙ ap (λ o. record d { requests = forwarded_from s0 id reply o }) ready in
      let tells : Tells left0 left (answered id reply (Ok told)) = subst (λ o. Tells left0 left (told_by_forward id reply o)) ready takes.forwards.tells in
      let over : is_resolved r.shown.phase ≡ true = ap is_resolved kept.over in
      let elsewhere : goes_elsewhere (forward_applied r) ≡ true = ap (λ b. b || not r.shown.observed) over in
      let added : left.results.items ≡ left0.results.items ++ the_answer (Ok told) ∷ [] = tells.results_added in
      let answer : IsAnswerOf (Ok told) (thing_of r) = ap outcome_in kept.over in
      let small = (keeps.known.past k r takes.request mine).0 in
      let none_waits : waiter_at (removed s0 id) id ≡ None = same_waiters s0 id told ready id ∙ ap waiter_of ready in
      let none : (out : RequestOutput) → value_at (removed s0 id) id ≡ Some (Ready out) → ⊥ = λ out e. (other_entry s0 id told ready id (rw e refl)).0 refl in
      let waits : Rewatched (waiter_at s0 id) (waiter_at (removed s0 id) id) = subst (λ o. Rewatched o (waiter_at (removed s0 id) id)) (sym (ap waiter_of ready)) none_waits in
      let alike : (x : Waiter Reply Reply) → waiter_at (removed s0 id) id ≡ Some x → IsAlike d.wheel.start d.wheel.tick x (forward_applied r).shown = λ x live. let no : None ≡ Some x = sym none_waits ∙ live in absurd (cc) in
      let eases : Eases s0 (removed s0 id) = record {
        ticks = λ x t h. ap tick_of (sym (same_waiters s0 id told ready x)) ∙ h;
        taken = λ x past none. ap awaits_tick (same_waiters s0 id told ready x) ∙ none;
        past = past_removed s0 id some;
      } in
      let timer : is_resolved r.shown.phase ≡ true → (forward_applied r).shown.timer ≡ r.shown.timer = λ over. refl in
      let cancels : (x : WaiterId) → is_among x d.lists.cancels ≡ true → (is_among x d.lists.cancels ≡ true) ⊎ ((x.0 ≡ id) × (r.shown.cancel_staged ≡ false)) = λ x among. inl among in
      let by : Watched w.names d d' rs (changed_at rs kk forward_applied) id r forward_applied = assumption (at, some, timer, waits, alike, eases, cancels, still_there s0 id told ready, past_back s0 id told ready small, alike_self d.wheel, length-set s0.slots id.index (freed id.generation)) in
      let rooted = rooted_now k w v s s' idle gates spare keeps takes mine sent kk at is (Ok told) added answer elsewhere d' (still_there s0 id told ready) none
      (λ it f at forwarded. let no : None ≡ Some it = sym none_waits ∙ at in absurd (cc)) (completed_same k w v s s' idle gates spare keeps takes mine sent (Ok told) tells) in
      let pending = same_pending s0 id told ready in
      let held = one_held_less s0 id told ready in
      let fewer : tellers (removed s0 id) zs ≤ tellers s0 zs = omega (arith, pending, held) in
      let one = one_slot k w v s s' idle gates spare keeps takes mine sent (Ready told) ready in
      let unawaited : awaits_entry one.e ≡ false = ap awaits_entry (one_is k w v s s' idle gates spare keeps takes mine sent (Ready told) ready) in
      record {
        keeps_on = final k w v s s' idle gates spare keeps takes mine sent kk is d' drv (by_watched k w v s s' idle gates spare keeps takes mine sent d' by rooted (told_then k w v s s' idle gates spare keeps takes mine sent (Ok told) tells (removed s0 id) fewer) (wide_then k w v s s' idle gates spare keeps takes mine sent (Ok told) tells (removed s0 id) fewer) (wakes_same k w v s s' idle gates spare keeps takes mine sent (Ok told) tells) pending
            (subst IsPunctual drv (takes.forwards.punctual keeps.due.punctual)) (due_none k w v s s' idle gates spare keeps takes mine sent) (wheel_at k w v s s' idle gates spare keeps takes mine sent));
        desk = desk_by k w v s s' idle gates spare keeps takes mine sent (removed s0 id) drv (wakes_same k w v s s' idle gates spare keeps takes mine sent (Ok told) tells) (completed_same k w v s s' idle gates spare keeps takes mine sent (Ok told) tells) (outputs_same k w v s s' idle gates spare keeps takes mine sent (Ok told) tells)
            ∙ ap (λ ns. record (desk_of w) { results = ns; requests = slots_seen n (removed s0 id); awaited = awaited_from 0 n (removed s0 id).slots }) (last_seen k w v s s' idle gates spare keeps takes mine sent (Ok told) added)
            ∙ ap (λ xs. record (desk_of w) { results = (desk_of w).results ++ k ∷ []; requests = xs; awaited = awaited_from 0 n (removed s0 id).slots }) (slots_vacated n s0 id one)
            ∙ ap (λ xs. record (desk_of w) { results = (desk_of w).results ++ k ∷ []; requests = vacated kk (desk_of w).requests; awaited = xs }) (awaited_removed n s0 id one unawaited)
            ∙ ap (λ q. record (desk_of w) { results = (desk_of w).results ++ k ∷ []; requests = vacated q (desk_of w).requests }) is
            ∙ sym (ap (λ b. forward_shape b (is_resolved r.shown.phase) r.shown.observed k (desk_of w)) (ap (λ q. is_in_slots q (desk_of w).requests) (sym is) ∙ slot_in n s0 id one) ∙ ap (λ b. forward_shape true b r.shown.observed k (desk_of w)) over);
        own = own_by k w v s s' idle gates spare keeps takes mine sent (removed s0 id) drv (same_flying s0 id told ready);
        shows = shows_by k w v s s' idle gates spare keeps takes mine sent (removed s0 id) drv;
      }

  -- IT ISN'T OVER
  module _ (it : Waiter Reply Reply) (value : value_at d.requests id ≡ Some (Pending it)) where
    some_there : IsSome (value_at d.requests id)
    some_there = rw value refl

    at_number : slice_get rs kk ≡ Some r
    at_number = ap (slice_get rs) (number k w v s s' idle gates spare keeps takes mine sent some_there) ∙ takes.request

    alike_it : IsAlike d.wheel.start d.wheel.tick it r.shown
    alike_it = keeps.named.alike id it r (ap waiter_of value) at_number

    in_slots : is_in_slots k (desk_of w).requests ≡ true
    in_slots = ap (λ q. is_in_slots q (desk_of w).requests) (sym (number k w v s s' idle gates spare keeps takes mine sent some_there)) ∙ slot_in n d.requests id (one_slot k w v s s' idle gates spare keeps takes mine sent (Pending it) value)

    -- a task of its worker waited for it: the one elsewhere does from now on
    seen_local : (waker : Option TaskNo) → it.observer ≡ Local waker → SeenForward k w v s s' idle gates spare keeps takes mine sent
    seen_local waker who =
        let s0 = d.requests in
        let zs = w.home.timers in
        let a = alike_it in
        let at = at_number in
        let is = number k w v s s' idle gates spare keeps takes mine sent some_there in
        let it' = with_reply reply it in
        let live : waiter_at s0 id ≡ Some it = ap waiter_of value in
        let seen : r.shown.observed ≡ true = a.observed ∙ ap is_held_by who in
        let slab : Slab (Entry Reply Reply) = written s0 id (Pending it') in
        let d' : Driving Reply Reply = record d { requests = slab } in
        let drv : driver_of v ≡ d' = takes.forwards.driver ∙ ap (λ o. record d { requests = forwarded_from s0 id reply o }) value ∙ ap (λ (o : Observer Reply Reply). record d { requests = if is_local o then slab else s0 }) who in
        let tells : Tells left0 left nothing_told = subst (λ (o : Observer Reply Reply). Tells left0 left (if is_local o then nothing_told else answered id reply (Err Closed))) who (subst (λ o. Tells left0 left (told_by_forward id reply o)) value takes.forwards.tells) in
        let wakes : left.notes.wakes.items ≡ left0.notes.wakes.items = tells.notes.wakes_added ∙ append-nil left0.notes.wakes.items in
        let completed : left.notes.completions.items ≡ left0.notes.completions.items = tells.notes.completions_added ∙ append-nil left0.notes.completions.items in
        let outputs : left.outputs.items ≡ left0.outputs.items = tells.outputs_added ∙ append-nil left0.outputs.items in
        let added : left.results.items ≡ left0.results.items = tells.results_added ∙ append-nil left0.results.items in
        let still : goes_elsewhere (forward_applied r) ≡ false = ap (λ b. b || not r.shown.observed) a.open_still ∙ ap not seen in
        let by = watched w.names d d' rs id it it' r forward_applied live at refl refl a.open_still refl refl refl (λ h. h) (λ h. h) (λ t h. h) (alike_forwarded d.wheel.start d.wheel.tick it reply r seen a) refl refl refl refl (alike_self d.wheel) refl refl (λ x among. inl among) in
        let now : waiter_at slab id ≡ Some it' = (changes_one s0 id it it' live).is_at in
        let rooted = rooted_sent w.index w.names d d' zs left0 left rs s.sleepers.items kk r at (record {
          mine = mine;
          apart = apart_at k w v s s' idle gates spare keeps takes mine sent kk at;
          unique = λ j x there of_i same. unique_at k w v s s' idle gates spare keeps takes mine sent j x there of_i same ∙ sym is;
          others = λ x differs. by.others x differs;
          none = still_pending s0 slab id it it' live refl;
          here = λ x f at forwarded.
              let same : it' ≡ x = same_Some it' x (sym now ∙ at) in
              let which : Forwarded reply ≡ Forwarded f = ap (λ (y : Waiter Reply Reply). y.observer) same ∙ forwarded in
              let it_is : reply ≡ f = cc in
              (refl, record { of = ap (λ (y : Reply). y.of) (sym it_is) ∙ ap (λ m. Heard.Request m) (sym is); task = takes.forwards.waited ∙ ap (λ (y : Reply). Some y.task.0) it_is });
          results = kept_as k w v s s' idle gates spare keeps takes mine sent kk at is added still;
          results_else = kept_else k w v s s' idle gates spare keeps takes mine sent kk at is added still;
          sent = kept_here k w v s s' idle gates spare keeps takes mine sent kk at is added still;
          completions = completed;
        }) keeps.rooted in
        let pending : pending_count slab ≡ pending_count s0 = pending_still s0 id it it' live in
        let moved = held_written s0 id (Pending it) (Pending it') value in
        let was : one_if (is_held_by it.observer) ≡ 1 = ap (λ (o : Observer Reply Reply). one_if (is_held_by o)) who in
        let same : tellers slab zs ≤ tellers s0 zs = omega (arith, pending, moved, was) in
        let one = one_slot k w v s s' idle gates spare keeps takes mine sent (Pending it) value in
        let over = awaited_over n s0 id one (Pending it') refl in
        record {
          keeps_on = final k w v s s' idle gates spare keeps takes mine sent kk is d' drv (by_watched k w v s s' idle gates spare keeps takes mine sent d' by rooted
              (told_none (tellers slab zs) same tells)
              (wide_ended (tellers s0 zs + 64) (tellers slab zs + 64) left0 left nothing_told (omega (arith, same)) tells keeps.wide) wakes pending
              (subst IsPunctual drv (takes.forwards.punctual keeps.due.punctual)) (due_none k w v s s' idle gates spare keeps takes mine sent) (wheel_at k w v s s' idle gates spare keeps takes mine sent));
          desk = desk_by k w v s s' idle gates spare keeps takes mine sent slab drv wakes completed outputs
              ∙ ap (λ xs. record (desk_of w) { results = results_in xs; requests = slots_seen n slab; awaited = awaited_from 0 n slab.slots }) added
              ∙ ap (λ xs. record (desk_of w) { requests = xs; awaited = awaited_from 0 n slab.slots }) (slots_written n s0 id (Pending it) (Pending it') value)
              ∙ ap (λ xs. record (desk_of w) { awaited = xs }) over.0
              ∙ ap (λ q. awaits_no_more q (desk_of w)) is
              ∙ sym (ap (λ b. forward_shape b (is_resolved r.shown.phase) r.shown.observed k (desk_of w)) in_slots ∙ ap (λ b. forward_shape true b r.shown.observed k (desk_of w)) a.open_still ∙ ap (λ b. forward_shape true false b k (desk_of w)) seen);
          own = own_by k w v s s' idle gates spare keeps takes mine sent slab drv flying;
          shows = shows_by k w v s s' idle gates spare keeps takes mine sent slab drv;
        }
      where
        flying : flying_count (written d.requests id (Pending (with_reply reply it))) ≡ flying_count d.requests
        flying = let moved = flying_after d.requests id it (with_reply reply it) (ap waiter_of value) in omega (arith, moved)

        told_none : (m : ℕ) → m ≤ tellers d.requests w.home.timers → Tells left0 left nothing_told → IsTold w.names.ended.items left (m + spare)
        told_none m less tells = told_one w.names.ended.items (m + spare) left0 left nothing_told tells (record { wakes = omega arith; outputs = omega arith; resources = refl; completions = omega arith; results = omega arith }) (places_fewer (omega (arith, less)) keeps.told)

    -- nobody did, and nobody holds it
    seen_alone : it.observer ≡ Orphaned → SeenForward k w v s s' idle gates spare keeps takes mine sent
    seen_alone who =
        let s0 = d.requests in
        let zs = w.home.timers in
        let a = alike_it in
        let at = at_number in
        let is = number k w v s s' idle gates spare keeps takes mine sent some_there in
        let live : waiter_at s0 id ≡ Some it = ap waiter_of value in
        let unseen : r.shown.observed ≡ false = a.observed ∙ ap is_held_by who in
        let drv : driver_of v ≡ d = takes.forwards.driver ∙ ap (λ o. record d { requests = forwarded_from s0 id reply o }) value ∙ ap (λ (o : Observer Reply Reply). record d { requests = if is_local o then written s0 id (Pending (with_reply reply it)) else s0 }) who in
        let tells : Tells left0 left (answered id reply (Err Closed)) = subst (λ (o : Observer Reply Reply). Tells left0 left (if is_local o then nothing_told else answered id reply (Err Closed))) who (subst (λ o. Tells left0 left (told_by_forward id reply o)) value takes.forwards.tells) in
        let added : left.results.items ≡ left0.results.items ++ the_answer (Err Closed) ∷ [] = tells.results_added in
        let elsewhere : goes_elsewhere (forward_applied r) ≡ true = ap (λ b. b || not r.shown.observed) a.open_still ∙ ap not unseen in
        let by : Watched w.names d d rs (changed_at rs kk forward_applied) id r forward_applied = grind (arith, alike_self, alike_alone) in
        let rooted = rooted_now k w v s s' idle gates spare keeps takes mine sent kk at is (Err Closed) added unseen elsewhere d (λ x differs. refl)
        (λ told there. let no : Some (Pending it) ≡ Some (Ready told) = sym value ∙ there in absurd (cc))
        (λ x f there forwarded.
        let same : it ≡ x = same_Some it x (sym live ∙ there) in
        let no : Orphaned ≡ Forwarded f = sym who ∙ ap (λ (y : Waiter Reply Reply). y.observer) same ∙ forwarded in
        absurd (cc))
        (completed_same k w v s s' idle gates spare keeps takes mine sent (Err Closed) tells) in
        record {
          keeps_on = final k w v s s' idle gates spare keeps takes mine sent kk is d drv (by_watched k w v s s' idle gates spare keeps takes mine sent d by rooted (told_then k w v s s' idle gates spare keeps takes mine sent (Err Closed) tells s0 (omega arith)) (wide_then k w v s s' idle gates spare keeps takes mine sent (Err Closed) tells s0 (omega arith)) (wakes_same k w v s s' idle gates spare keeps takes mine sent (Err Closed) tells) refl keeps.due.punctual (due_none k w v s s' idle gates spare keeps takes mine sent) (wheel_at k w v s s' idle gates spare keeps takes mine sent));
          desk = desk_by k w v s s' idle gates spare keeps takes mine sent s0 drv (wakes_same k w v s s' idle gates spare keeps takes mine sent (Err Closed) tells) (completed_same k w v s s' idle gates spare keeps takes mine sent (Err Closed) tells) (outputs_same k w v s s' idle gates spare keeps takes mine sent (Err Closed) tells)
              ∙ ap (λ ns. record (desk_of w) { results = ns }) (last_seen k w v s s' idle gates spare keeps takes mine sent (Err Closed) added)
              ∙ sym (ap (λ b. forward_shape b (is_resolved r.shown.phase) r.shown.observed k (desk_of w)) in_slots ∙ ap (λ b. forward_shape true b r.shown.observed k (desk_of w)) a.open_still ∙ ap (λ b. forward_shape true false b k (desk_of w)) unseen);
          own = own_by k w v s s' idle gates spare keeps takes mine sent s0 drv refl;
          shows = shows_by k w v s s' idle gates spare keeps takes mine sent s0 drv;
        }
      where
        alike_alone : it.observer ≡ Orphaned → IsAlike d.wheel.start d.wheel.tick it r.shown → IsAlike d.wheel.start d.wheel.tick it (forward_applied r).shown
        alike_alone who a =
            let near : IsNear it.observer Applied = subst (λ (o : Observer Reply Reply). IsNear o Applied) (sym who) tt in
            assumption (near, a)

    by_observer : (o : Observer Reply Reply) → it.observer ≡ o → IsNear o r.shown.forwarding → SeenForward k w v s s' idle gates spare keeps takes mine sent
    by_observer (Local waker) who near = seen_local waker who
    by_observer (Forwarded f) who near = absurd (false≢true (sym (unapplied k w v s s' idle gates spare keeps takes mine sent) ∙ near))
    by_observer (DetachedSync f) who near = absurd near
    by_observer Orphaned who near = seen_alone who

  pub forward_seen : SeenForward k w v s s' idle gates spare keeps takes mine sent
  forward_seen =
      elim (value_at d.requests id) as (λ o. value_at d.requests id ≡ o → SeenForward k w v s s' idle gates spare keeps takes mine sent) [
        | None ↦ λ none. seen_gone none
        | Some (Ready told) ↦ λ ready. seen_over told ready
        | Some (Pending it) ↦ λ pending. by_observer it pending it.observer refl (alike_it it pending).near
      ] refl
