-- The steps of a service: completions, deadlines, permits.
use Rattle.std.{proofs.{Common.{◌≡◌, ℕ, ◌+◌, ◌^◌, ◌<◌, ◌≤◌, eqb, ltb, Bool, true, false, not, ◌&&◌, ◌||◌, cond, List, [], ◌∷◌, length, Option, Some, None, refl, sym, ap, subst, ◌∙◌, inr, arith}, lemmas.Bool.false≢true}, specs.{Prelude.{is_some, is_none}, Option.{IfSome, IfNone, SomeIff}}}
use Rattle.exec_driver.{proofs.{Words.{and_from, and_parts, cases_Bool}, Endings.{one_changed, one_finished}, Granting.gated_there, Entering.{IsEntered, enters}, Serving.{Eases, Answers, eases_both, eases_is, eases_ring, eases_swept, eases_written, eases_judged, after_reap, reaps_ring, room_still, room_judged, room_ended, keeps_one, like_unscheduled, serves_by, serves_itself, done_itself}, Stepping.{first_in, first_there, first_tells, no_first}, Telling.room_within, Advancing.is_itself}, specs.{Driving.{Driving, request_at, is_enrolled, is_queued, is_full, may_stage_one, has_pending}, Sound.IsSound, Steps.{noted, swept, swept_from, taken_out, queued_or_ended, permitted, ReapsNext, completed_in, lawful_of, if_lawful, expired, told_by_cancel, timed_out, cancelling, ended, Grants, StagesOne, with_staged, entered, lower, lowest_gate}, Turns.{Serves, StaysDone, waiting, unreaped, unstaged, made_way, may_wait}, declared.driver.{reaping.Reaped.Reaped, staging.Granted.Granted}}}
use Rattle.exec_lists.{proofs.Names.fewer_without, specs.Lists.{has_first, first_of, rest_of, without, after_due, after_queued}}
use Rattle.exec_base.specs.{Slab.{Slab, written}, declared.slab.Id.Id}
use Rattle.exec_outcomes.specs.{Accounts.Account, declared.outcome.OpResult.OpResult}
use Rattle.exec_request.specs.{States.asks_cancel, declared.results.WaiterState.WaiterState}
use Rattle.exec_ring.specs.{Completions.result_in, Kernels.{is_quiet, has_none, next_completion, next_in, posted_left, wakes_left, reaped}, declared.completion.{Completion.Completion, Posted.Posted}}
use Rattle.exec_waiters.{specs.{Events.{cancelled, with_permit}, States.{waiter_at, flying_count, tick_in, file_of, gate_in}, Told.Tells, declared.{deferred.Deferred.Deferred, waiter.{Waiter.Waiter, Entry.{Entry, TheVariants.Pending}}, waiter_id.WaiterId.WaiterId}}, proofs.Changes.one_if}
use Rattle.exec_opens.specs.Opens.{OpenState, account_in}

-- HOW MANY COMPLETIONS

fewer_reaped : (ps : List Posted) (w : ℕ) (c : Completion) → next_in ps w ≡ Some c → waiting (posted_left ps) (wakes_left ps w) < waiting ps w
fewer_reaped = grind arith

some_waiting : (ps : List Posted) (w : ℕ) → (has_none ps && eqb w 0) ≡ false → 0 < waiting ps w
some_waiting = grind arith

without_first : (ids : List WaiterId) (id : WaiterId) → first_of ids ≡ Some id → without id (rest_of ids) ≡ without id ids
without_first ids id first = rw (first_tells ids id first, is_itself id) refl

-- who asked for its cancel has no deadline in the wheel
no_tick : (s : WaiterState) → asks_cancel s ≡ true → is_some (tick_in s) ≡ false
no_tick = grind arith

lower_from : (from : ℕ) (least o : Option ℕ) → ((f : ℕ) → least ≡ Some f → from ≤ f) → (f : ℕ) → lower from least o ≡ Some f → from ≤ f
lower_from = grind arith

-- what a sum that fits is
pub added_tells : (a : ℕ) (o : Option ℕ) (b : ℕ) → SomeIff o (a + 1 < 2 ^ 32) (a + 1) → o ≡ Some b → (a + 1 < 2 ^ 32) × (b ≡ a + 1)
added_tells = grind arith

module _ {S F : Type 0} where
  waiting_swept : (ps : List Posted) (d : Driving S F) → unreaped (swept_from ps d).ring ≤ waiting ps d.ring.wakes
  waiting_swept [] d = omega arith
  waiting_swept (p ∷ ps) d = grind (arith, cases_Bool, waiting_swept ps (noted p.completion d))

  waiting_is : (d d' : Driving S F) → d' ≡ record (swept d) { landings = d'.landings } → unreaped d'.ring ≤ unreaped d.ring
  waiting_is = grind (arith, waiting_swept)

  -- whose operation is over is there
  pub if_tells : (id id' : Id) (o : Option (Waiter S F)) (given : OpResult) → if_lawful id o given ≡ Some id' → (w : Waiter S F) × (o ≡ Some w) × (id ≡ id')
  if_tells = grind arith

  pub completed_there : (s : Slab (Entry S F)) (given : OpResult) (o : Option Id) (id : Id) → lawful_of s given o ≡ Some id → (w : Waiter S F) × (waiter_at s id ≡ Some w)
  completed_there s given None id is = absurd (cc)
  completed_there s given (Some other) id is = let t = if_tells other id (waiter_at s other) given is in (t.0, ap (λ (n : Id). waiter_at s n) (sym t.2) ∙ t.1)

  -- what a reap does once all before the next completion of an operation was swept
  record Reaches (d d' : Driving S F) (x y : Deferred S F) : Type 0 where
    pub answers : Answers d d' x y
    pub fewer : 0 < unreaped d.ring → unreaped d'.ring < unreaped d.ring
    pub no_more : unreaped d'.ring ≤ unreaped d.ring

  reap_of : (old new : Driving S F) (opens opens' : List OpenState) (x y : Deferred S F) (told : Option Reaped) (r : ReapsNext old new opens opens' x y told) (c : Completion) (o : Option Id) → next_completion r.first.ring ≡ Some c → completed_in r.first c ≡ o → Reaches r.first new x y
  reap_of old new opens opens' x y told r c None next is =
      let n = r.stale c next is in
      let e = eases_is r.first (swept (taken_out r.first)) new n.0 (eases_both r.first (taken_out r.first) _ (eases_ring r.first (taken_out r.first) refl refl refl refl (λ b. b)) (eases_swept (taken_out r.first).ring.posted (taken_out r.first))) in
      let less = fewer_reaped r.first.ring.posted r.first.ring.wakes c next in
      let after = waiting_is (taken_out r.first) new n.0 in
      grind arith
  reap_of old new opens opens' x y told r c (Some id) next is =
      let there = completed_there r.first.requests (result_in c.result) _ id is in
      let f = r.some c id there.0 next is there.1 in
      let mid = after_reap r.first f.second opens opens' x y (record { 0 = id }) there.0 (result_in c.result) told there.1 f.reaps in
      let last = eases_is f.second (swept f.second) new f.swept_last (eases_swept f.second.ring.posted f.second) in
      let less = fewer_reaped r.first.ring.posted r.first.ring.wakes c next in
      let same : unreaped f.second.ring ≡ unreaped (reaped r.first.ring) = ap unreaped (reaps_ring r.first f.second opens opens' x y (record { 0 = id }) there.0 (result_in c.result) told f.reaps) in
      let after = waiting_is f.second new f.swept_last in
      record {
        answers = record { eases = eases_both _ _ _ mid.eases last; room = λ room. room_within _ _ y (omega (arith, last.keeps.pending)) (mid.room room) };
        fewer = λ some. omega (arith, less, same, after);
        no_more = omega (arith, less, same, after);
      }

  reap_from : (old new : Driving S F) (opens opens' : List OpenState) (x y : Deferred S F) (told : Option Reaped) (r : ReapsNext old new opens opens' x y told) (o : Option Completion) → next_completion r.first.ring ≡ o → Reaches r.first new x y
  reap_from old new opens opens' x y told r None is = grind arith
  reap_from old new opens opens' x y told r (Some c) is = reap_of old new opens opens' x y told r c (completed_in r.first c) is refl

  -- A reap keeps what a service needs, and leaves fewer completions.
  pub reap_serves : (old new : Driving S F) (opens opens' : List OpenState) (x y : Deferred S F) (told : Option Reaped) → ReapsNext old new opens opens' x y told → Serves old new x y × StaysDone old new × (is_quiet old.ring ≡ false → unreaped new.ring < unreaped old.ring)
  reap_serves old new opens opens' x y told r =
      let start = eases_is old (swept old) r.first r.swept_first (eases_swept old.ring.posted old) in
      let rest = reap_from old new opens opens' x y told r (next_completion r.first.ring) refl in
      let all = eases_both _ _ _ start rest.answers.eases in
      let less = waiting_is old r.first r.swept_first in (
        serves_by old new x y all.keeps (λ room. rest.answers.room (room_within _ _ x (omega (arith, start.keeps.pending)) room)),
        all.done,
        λ loud.
            let some = some_waiting old.ring.posted old.ring.wakes loud in
            grind arith,
      )

  -- PERMITS

  pub grant_serves : (old new : Driving S F) (opens opens' : List OpenState) (x y : Deferred S F) (worker file : ℕ) (g : Granted) → IsSound old → Grants old new opens opens' x y worker file g → Serves old new x y × StaysDone old new
  grant_serves old new opens opens' x y worker file g sound grants =
      let there = gated_there old g.id sound grants.waits in
      let w = there.w in
      let how = grants.grants w there.at in
      let w' = with_permit w in
      let e = permitted old g.id w in
      let first = eases_written old e g.id w w' there.at refl refl refl refl refl refl refl refl in
      let at : request_at e g.id ≡ Some w' = (one_changed old.requests g.id.0 w w' there.at).is_at in
      let last = eases_judged e g.id w' g.ended (account_in opens (file_of w.request)) at in
      let is : new ≡ queued_or_ended e g.id w' g.ended (account_in opens (file_of w.request)) = how.driver in
      let all = subst (λ (d : Driving S F). Eases old d) (sym is) (eases_both old e _ first last) in
      (serves_by old new x y all.keeps (λ room. rw is (room_judged e g.id w' g.ended _ x y at how.tells (room_within _ _ x (omega (arith, first.keeps.pending)) room))), all.done)

  -- WHAT IS DUE

  -- what an expiry leaves
  pub record Expires (d d' : Driving S F) (x y : Deferred S F) : Type 0 where
    pub serves : Serves d d' x y
    pub fewer : length d'.lists.due < length d.lists.due

  expires : (d e d' : Driving S F) (id : WaiterId) (x y : Deferred S F) → d' ≡ e → first_of d.lists.due ≡ Some id → e.lists.due ≡ without id (rest_of d.lists.due) → Serves d e x y → Expires d d' x y
  expires = grind (arith, first_tells, fewer_without)

  expire_by : (d d' : Driving S F) (id : WaiterId) (w : Waiter S F) (x y : Deferred S F) (flies asks : Bool) → request_at d id ≡ Some w → w.in_flight ≡ flies → asks_cancel w.state ≡ asks → is_some (tick_in w.state) ≡ true → first_of d.lists.due ≡ Some id → d' ≡ expired d id → Tells x y (told_by_cancel id (request_at d id)) → Expires d d' x y
  expire_by d d' id w x y false asks at idle asked ticks first is tells =
      let due : Driving S F = record d { lists = after_due d.lists } in
      let e = ended due id w timed_out None in
      let same : expired d id ≡ e = rw (at, idle) refl in
      let one = one_finished d.requests id.0 w timed_out None at in
      let keeps = keeps_one d e id w None one (λ t no. absurd (cc)) (inr (without_first d.lists.due id first)) (like_unscheduled d.wheel (tick_in w.state)) refl refl in
      expires d e d' id x y (is ∙ same) first refl (serves_by d e x y keeps (room_ended due id w timed_out None None x y at (rw (at, idle) at tells)))
  expire_by d d' id w x y true true at flies asked ticks first is tells = absurd (false≢true (sym (no_tick w.state asked) ∙ ticks))
  expire_by d d' id w x y true false at flies asked ticks first is tells =
      let due : Driving S F = record d { lists = after_due d.lists } in
      let e = cancelling due id w in
      let same : expired d id ≡ e = rw (at, flies, asked) refl in
      let one = one_changed d.requests id.0 w (cancelled w) at in
      let keeps = keeps_one d e id w (Some (cancelled w)) one (λ t no. absurd (cc)) (inr (without_first d.lists.due id first)) (like_unscheduled d.wheel (tick_in w.state)) refl refl in
      expires d e d' id x y (is ∙ same) first refl (serves_by d e x y keeps (room_still x y _ _ (rw (at, flies) at tells) keeps.pending))

  pub expire_serves : (d d' : Driving S F) (o : Option WaiterId) (x y : Deferred S F) → IsSound d → has_first d.lists.due ≡ true → o ≡ first_of d.lists.due → IfSome o (λ id. d' ≡ expired d id) → IfSome o (λ id. Tells x y (told_by_cancel id (request_at d id))) → Expires d d' x y
  expire_serves d d' None x y sound some first is tells = absurd (no_first d.lists.due some (sym first))
  expire_serves d d' (Some id) x y sound some first is tells =
      let there = first_there is_enrolled refl d.requests d.lists.due id (sym first) sound.due in
      let ticks : is_some (tick_in there.0.state) ≡ true = rw there.1 at (first_in is_enrolled d.requests d.lists.due id (sym first) sound.due) in
      expire_by d d' id there.0 x y there.0.in_flight (asks_cancel there.0.state) there.1 refl refl ticks (sym first) is tells

  pub grant_any : (old new : Driving S F) (opens opens' : List OpenState) (x y : Deferred S F) (worker file : ℕ) (o : Option Granted) → IsSound old → IfSome o (λ g. Grants old new opens opens' x y worker file g) → IfNone o ((new ≡ old) × (opens' ≡ opens) × (y ≡ x)) → Serves old new x y × StaysDone old new
  grant_any old new opens opens' x y worker file None sound some none = rw (none.0, none.2) (serves_itself old x, done_itself old)
  grant_any old new opens opens' x y worker file (Some g) sound some none = grant_serves old new opens opens' x y worker file g sound some

  -- STAGING

  pub record Stages (d d' : Driving S F) : Type 0 where
    pub eases : Eases d d'
    pub no_more : unstaged d' ≤ unstaged d

  pub stage_serves : (old new : Driving S F) (id : WaiterId) (w : Waiter S F) (account : Option Account) → request_at old id ≡ Some w → first_of old.lists.queued ≡ Some id → StagesOne old new id w account → Stages old new × (unstaged new < unstaged old)
  stage_serves old new id w account at first s =
      let w' : Waiter S F = record w { in_flight = true; request = s.request } in
      let list = ap length (first_tells old.lists.queued id first) in
      let lists = ap (λ (d : Driving S F). unstaged d) s.driver in
      let e : Driving S F = with_staged (record old { requests = written old.requests id.0 (Pending w'); lists = after_queued old.lists }) s.entry in
      (record { eases = eases_is old e new s.driver (eases_written old e id w w' at refl refl refl refl refl refl refl refl); no_more = omega (arith, list, lists) }, omega (arith, list, lists))

  stage_any : (d d' : Driving S F) (o : Option WaiterId) (account : Waiter S F → Option Account) → IsSound d → may_stage_one d ≡ true → o ≡ first_of d.lists.queued → IfSome o (λ id. (w : Waiter S F) → request_at d id ≡ Some w → StagesOne d d' id w (account w)) → Stages d d' × (unstaged d' < unstaged d)
  stage_any d d' None account sound may first staged = absurd (no_first d.lists.queued (and_parts _ _ may).0 (sym first))
  stage_any d d' (Some id) account sound may first staged =
      let there = first_there is_queued refl d.requests d.lists.queued id (sym first) sound.queued in
      stage_serves d d' id there.0 (account there.0) there.1 (sym first) (staged there.0 there.1)

  no_cancel : (d : Driving S F) (ids : List WaiterId) → None ≡ first_of ids → (has_first ids || may_stage_one d) ≡ true → may_stage_one d ≡ true
  no_cancel = grind arith

  -- and nothing changed where there was none
  pub none_staged : (d d' : Driving S F) (o : Option WaiterId) → is_none o ≡ true → o ≡ first_of d.lists.cancels → IfNone o (d' ≡ d) → (has_first d.lists.cancels || may_stage_one d) ≡ true → (d' ≡ d) × (may_stage_one d ≡ true)
  none_staged = grind (arith, no_cancel)

  -- where no cancel is to be staged, a request is
  pub stage_none : (d e f : Driving S F) (o p : Option WaiterId) (account : Waiter S F → Option Account) → is_none o ≡ true → o ≡ first_of d.lists.cancels → IfNone o (e ≡ d) → (has_first d.lists.cancels || may_stage_one d) ≡ true → IsSound d → p ≡ first_of e.lists.queued → IfSome p (λ id. (w : Waiter S F) → request_at e id ≡ Some w → StagesOne e f id w (account w)) → Stages d f × (unstaged f < unstaged d)
  stage_none = grind (arith, none_staged, stage_any)

  -- an enter stages nothing, and leaves an empty queue unless the kernel is busy
  pub enter_any : (d d' : Driving S F) → d' ≡ record (entered d) { landings = d'.landings } → Stages d d' × IsEntered d.ring d'.ring
  enter_any = grind (arith, enters, eases_is, eases_ring)

  -- a queue that was filled and entered is not full again with less staged
  pub filled_less : (d e f : Driving S F) → unstaged e ≤ unstaged d → (is_full d ≡ false → unstaged e < unstaged d) → unstaged f ≤ unstaged e → is_full f ≡ false → unstaged f + unstaged f + one_if (is_full f) < unstaged d + unstaged d + one_if (is_full d)
  filled_less = grind arith

  pub not_full : (d : Driving S F) → 0 < d.ring.size → d.ring.staged ≡ [] → is_full d ≡ false
  not_full = grind arith

  -- GATES

  -- the lowest gate from a number on isn't below it
  pub gate_from : (from : ℕ) (s : Slab (Entry S F)) (ids : List WaiterId) (least : Option ℕ) → ((f : ℕ) → least ≡ Some f → from ≤ f) → (f : ℕ) → lowest_gate from s ids least ≡ Some f → from ≤ f
  gate_from from s [] least so f is = so f is
  gate_from from s (id ∷ ids) least so f is = gate_from from s ids (lower from least (gate_in (waiter_at s id.0))) (lower_from from least (gate_in (waiter_at s id.0)) so) f is

  -- PARK

  pending_entered : (b : Bool) (d : Driving S F) → has_pending (cond b (entered d) d) ≡ has_pending d
  pending_entered true d = ap (λ (n : ℕ). has_first d.lists.enrolments || has_first d.lists.cancels || has_first d.lists.queued && ltb (flying_count d.requests) n) (enters d.landings d.ring).size
  pending_entered false d = refl

  armed_entered : (b : Bool) (d : Driving S F) → (cond b (entered d) d).armed ≡ d.armed
  armed_entered = grind arith

  -- a queue that is entered where it is full leaves as much pending
  pub way_may : (d d' : Driving S F) → d' ≡ record (made_way d) { landings = d'.landings } → may_wait d ≡ (not (has_pending d') && (d'.armed || not (is_full d')))
  way_may = grind (arith, pending_entered, armed_entered)

  pub wait_pending : (d d' : Driving S F) (x : Bool) → d' ≡ record (made_way d) { landings = d'.landings } → has_pending d' ≡ true → false ≡ (may_wait d && x)
  wait_pending d d' x is pending = sym (ap (λ (b : Bool). b && x) (way_may d d' is ∙ ap (λ (b : Bool). not b && (d'.armed || not (is_full d'))) pending))

  pub wait_calm : (d d' : Driving S F) (x y : Bool) → d' ≡ record (made_way d) { landings = d'.landings } → has_pending d' ≡ false → (d'.armed || not (is_full d')) ≡ true → y ≡ x → y ≡ (may_wait d && x)
  wait_calm d d' x y is pending room calm = calm ∙ sym (ap (λ (b : Bool). b && x) (way_may d d' is ∙ and_from _ _ (ap not pending) room))
