-- A completion that is taken in keeps a driver as it should be.
use Rattle.std.proofs.Common.{◌≡◌, ℕ, ◌<◌, Bool, true, false, ◌&&◌, cond, List, [], ◌∷◌, ◌++◌, length, Option, Some, None, refl, sym, ap, ◌∙◌, inr, arith, append-nil}
use Rattle.exec_driver.{proofs.{Words.{is_some, Slab, written, Asked, Kind, OpResult, may_complete, told_by_finish, Id, deadline_of, Ended, asks_cancel, Request, Landing, next_completion, Completion, Account, result_in, waiter_at, is_flying, needs_permit, Tells, Deferred, Waiter, Entry, Pending, WaiterId, Driving, request_at, is_queued, is_gated, is_unenrolled, is_enrolled, is_cancelled, with_queued, IsSound, IsHeld, is_unpermitted, is_undated, is_at_tick, may_cancel, OpenState, account_in, with_account, is_control, taken_out, open_after, ended}, Endings.one_changed, Stepping.stays, Entering.{less_reaped, no_wake}}, specs.{Steps.{landed_at, lawful_of}, declared.driver.reaping.Reaped.Reaped}}
use Rattle.exec_lists.proofs.{Counting.{pending_is, flying_is}, Shifts.{Kept, Joined, shifted, nowhere, room_for}}
use Rattle.exec_opens.proofs.Lines.{set_there}
use Rattle.exec_outcomes.specs.{Outcomes.{Cursor, outcome_next, outcome_by as answer_by, outcome_by_stop}, declared.outcome.{Judged.Judged, Outcome.Outcome}}
use Rattle.exec_waiters.specs.{Events.{is_lawful_for, outcome_by}, declared.completed.CompletionOutcome.TheVariants.{Requeue, Complete}, States.{name_of, named}, Told.nothing_told}

-- where no result decides, nobody asked for the cancel
by_none : (kind : Kind) (b : Bool) (o : Option (Judged × ℕ)) → answer_by kind b o ≡ None → b ≡ false
by_none = grind arith

choice : (c : Bool) (x y : Option Outcome) (b : Bool) → (x ≡ None → b ≡ false) → (y ≡ None → b ≡ false) → cond c x y ≡ None → b ≡ false
choice = grind arith

by_stop : (asked : Asked) (b : Bool) (o : Option (Judged × ℕ)) (later : List Judged) → outcome_by_stop asked b o later ≡ None → b ≡ false
by_stop = grind arith

pub goes_on_uncancelled : (asked : Asked) (cursor : Cursor) (r : Judged) → outcome_next asked cursor r ≡ None → r.cancelled ≡ false
goes_on_uncancelled asked cursor r is = choice cursor.switched _ _ r.cancelled (λ e. by_none _ r.cancelled _ e) (λ e. by_stop asked r.cancelled _ _ e) is

false_and : (a b : Bool) → a ≡ true → (a && b) ≡ false → b ≡ false
false_and = grind arith

-- what an outcome says of the answer, and of whose it is
pub requeue_tells : (id : Id) (answer : Option Ended) (other : WaiterId) → outcome_by id answer ≡ Requeue other → (answer ≡ None) × (record { 0 = id } ≡ other)
requeue_tells = grind arith

pub complete_tells : (id : Id) (answer : Option Ended) (other : WaiterId) (how : Ended) → outcome_by id answer ≡ Complete other how → (answer ≡ Some how) × (record { 0 = id } ≡ other)
complete_tells = grind arith

-- what is told of its end
pub told_over : (a b : WaiterId) (given : OpResult) (how how' : Ended) (p q : Option ℕ) → a ≡ b → how ≡ how' → p ≡ q → let t : Reaped = record { id = b; given = given; ended = Some how; permit = p } in let t' : Reaped = record { id = a; given = given; ended = Some how'; permit = q } in Some t ≡ Some t'
told_over a b given how how' p q same ended permit = rw (same, ended, permit) refl

module _ {S F : Type 0} where
  -- a completion that is taken in names a request in flight, which may give this
  pub record IsNamed (s : Slab (Entry S F)) (user_data : ℕ) (id : Id) (given : OpResult) : Type 0 where
    pub w : Waiter S F
    pub is : named s user_data ≡ Some id
    pub at : waiter_at s id ≡ Some w
    pub lawful : is_lawful_for w given ≡ true
    pub flies : w.in_flight ≡ true

  pub named_there : (s : Slab (Entry S F)) (user_data : ℕ) (given : OpResult) (name : Option WaiterId) (may : Bool) (id : WaiterId) → name ≡ name_of (named s user_data) → name ≡ Some id → may ≡ may_complete (waiter_at s id.0) given → may ≡ true → IsNamed s user_data id.0 given
  named_there = grind arith

  -- AN OPERATION IS OVER

  abbrev pub landed_of : Waiter S F → Request → Waiter S F
  landed_of w request = record w { in_flight = false; request = request }

  pub permit_of : (d : Driving S F) (id : WaiterId) (w : Waiter S F) → request_at d id ≡ Some w → w.in_flight ≡ true → IsSound d → needs_permit w ≡ false
  permit_of d id w at flies sound = false_and w.in_flight (needs_permit w) flies (ap is_unpermitted (sym at) ∙ sound.permits id.0)

  pub held_landed : (d : Driving S F) (id : WaiterId) (w : Waiter S F) (request : Request) (c : Completion) (ls : List Landing) (room most spots : ℕ) → request_at d id ≡ Some w → w.in_flight ≡ true → deadline_of request ≡ deadline_of w.request → next_completion d.ring ≡ Some c → is_control c ≡ false → IsHeld d room most spots → IsHeld (record (landed_at (taken_out d) id (landed_of w request)) { landings = ls }) room most spots
  held_landed d id w request c ls room most spots at flies dated next operation held =
      let sound = held.sound in
      let w' = landed_of w request in
      let one = one_changed d.requests id.0 w w' at in
      let same = one.numbers is_some refl in
      let flying = rw flies at (one.numbers is_flying refl) in
      let uncancelled = one.numbers may_cancel refl in
      let s' = written d.requests id.0 (Pending w') in
      let less = less_reaped d.ring c next (no_wake c operation) in
      record {
        sound = record {
          queued = shifted is_queued _ _ id _ _ _ _ one (Kept refl (inr (rw flies refl))) sound.queued;
          gated = shifted is_gated _ _ id _ _ _ _ one (Kept refl (inr (rw flies refl))) sound.gated;
          enrolments = shifted is_unenrolled _ _ id _ _ _ _ one (Kept refl (inr (rw flies refl))) sound.enrolments;
          due = shifted is_enrolled _ _ id _ _ _ _ one (stays is_enrolled (Some w) (Some w') id _ refl) sound.due;
          cancels = shifted is_cancelled _ _ id _ _ _ _ one (stays is_cancelled (Some w) (Some w') id _ refl) sound.cancels;
          permits = nowhere is_unpermitted _ _ id.0 _ _ one refl sound.permits;
          dated = nowhere is_undated _ _ id.0 _ _ one (rw dated (ap is_undated (sym one.was_at) ∙ sound.dated id.0)) sound.dated;
          ticks = λ t. let n = one.numbers (is_at_tick t) refl in omega (arith, n, sound.ticks t);
          drained = sound.drained;
          entries = omega (arith, sound.entries, flying, less, flying_is d.requests, flying_is s');
          places = omega (arith, sound.places, same, uncancelled, pending_is d.requests, pending_is s');
        };
        room = omega (arith, held.room, same, pending_is d.requests, pending_is s');
        wheel_room = held.wheel_room;
        limit = held.limit;
        places = held.places;
      }

  -- it goes on at the end of what is queued
  pub held_requeued : (d : Driving S F) (id : WaiterId) (w : Waiter S F) (request : Request) (c : Completion) (ls : List Landing) (room most spots : ℕ) → request_at d id ≡ Some w → w.in_flight ≡ true → asks_cancel w.state ≡ false → needs_permit (landed_of w request) ≡ false → deadline_of request ≡ deadline_of w.request → next_completion d.ring ≡ Some c → is_control c ≡ false → IsHeld d room most spots → IsHeld (record (landed_at (taken_out d) id (landed_of w request)) { lists = with_queued id d.lists; landings = ls }) room most spots
  held_requeued d id w request c ls room most spots at flies active permit dated next operation held =
      let before = held_landed d id w request c ls room most spots at flies dated next operation held in
      let one = one_changed d.requests id.0 w (landed_of w request) at in
      let queued = shifted is_queued _ _ id _ _ _ (d.lists.queued ++ id ∷ []) one (Joined refl (rw flies refl) (rw (active, permit) refl)) held.sound.queued in
      assumption (before, queued)

  pub room_to_queue : (d : Driving S F) (id : WaiterId) (w : Waiter S F) (request : Request) (room most spots : ℕ) → request_at d id ≡ Some w → w.in_flight ≡ true → asks_cancel w.state ≡ false → needs_permit (landed_of w request) ≡ false → IsHeld d room most spots → length d.lists.queued < d.lists.room
  room_to_queue d id w request room most spots at flies active permit held =
      let one = one_changed d.requests id.0 w (landed_of w request) at in
      let same = one.numbers is_some refl in
      let s' = written d.requests id.0 (Pending (landed_of w request)) in
      room_for is_queued d.requests s' id (Some w) (landed_of w request) d.lists.queued d.lists.room refl one (rw flies refl) (rw (active, permit) refl) held.sound.queued (omega (arith, held.room, same, pending_is d.requests, pending_is s'))

  pub some_given : (s : Slab (Entry S F)) (c : Completion) (id : Id) (given : OpResult) → IsNamed s c.user_data id given → given ≡ result_in c.result → lawful_of s (result_in c.result) (named s c.user_data) ≡ Some id
  some_given s c id given there is = rw (there.is, there.at, ← is, there.lawful) refl

  pub tells_nothing : (d : Deferred S F) → Tells d d nothing_told
  tells_nothing d =
      record {
        notes = record { wakes_added = sym (append-nil _); completions_added = sym (append-nil _); wakes_memory = omega arith; completions_memory = omega arith };
        outputs_added = sym (append-nil _);
        resources_added = sym (append-nil _);
        results_added = sym (append-nil _);
        outputs_memory = omega arith;
        resources_memory = omega arith;
        results_memory = omega arith;
      }

  -- WHAT IS KEPT OF THE OPEN
  no_account : (w : Waiter S F) (given : OpResult) → open_after w given None ≡ None
  no_account = grind arith

  pub kept_of_open : (w : Waiter S F) (given : OpResult) (opens : List OpenState) (file : Option ℕ) → account_in (with_account opens file (open_after w given (account_in opens file))) file ≡ open_after w given (account_in opens file)
  kept_of_open w given opens file = grind (arith, no_account, open_after, set_there opens)

  -- it ends, by its name as the part gives it
  pub ended_over : (old d d' : Driving S F) (a b : WaiterId) (w : Waiter S F) (how : Ended) (account account' : Option Account) → a ≡ b → d' ≡ ended d b w how account → d ≡ record (landed_at (taken_out old) a w) { landings = d.landings } → account ≡ account' → d' ≡ record (ended (landed_at (taken_out old) a w) a w how account') { landings = d'.landings }
  ended_over = grind arith

  pub tells_over : (before after : Deferred S F) (a b : WaiterId) (w : Waiter S F) (how : Ended) (account account' : Option Account) → a ≡ b → account ≡ account' → Tells before after (told_by_finish b.0 w how account) → Tells before after (told_by_finish a.0 w how account')
  tells_over before after a b w how account account' same kept tells = rw (← same, kept) at tells
