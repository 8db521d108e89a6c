-- The enrolment of a deadline is a step.
use Rattle.exec_invariants.{proofs.{Names.{◌≡◌, ℕ, ◌^◌, ◌<◌, ◌&&◌, arith, Bool, true, false, not, Option, Some, None, refl, sym, ap, ◌∙◌, slice_get, is_some, false≢true, unwrap_or, deque_capacity, value_at, Error, is_durable, asked_of, deadline_of, Asking, waiter_at, takes_tick, Waiter, WaiterId, entry_of, request_at, is_unenrolled, IsPunctual, EnrolsAs, first_of, Event, Enrol, RequestPhase, enrolled, joined_if, is_kept, Reply, Record, Shared, Worker, number_in, changed_at, first_tick, outcome_of_error, driver_of, some_of}, Known.low_there, ReapKinds.durable_kept, Staging.among_first, Starting.queued_phase}, specs.{Names.IsAlike, Submits.IsNewIn}}

-- THE FIRST NEW DEADLINE

-- what has a deadline is no write and no sync, so it needs no permit
pub timed_kept : (q : Asking) → is_some (deadline_of q) ≡ true → is_kept (asked_of q).kind ≡ false
timed_kept = grind arith

pub timed_free : (q : Asking) → is_some (deadline_of q) ≡ true → is_durable (asked_of q).kind ≡ false
timed_free q h = durable_kept (asked_of q).kind (timed_kept q h)

new_parts : (a b c : Bool) → (not a && b && c) ≡ true → (a ≡ false) × (b ≡ true) × (c ≡ true)
new_parts = grind arith

-- whose it is
pub record NewAt {B : Type 0} (w : Worker) (s : Shared B) (id : WaiterId) : Type 0 where
  pub it : Waiter Reply Reply
  pub r : Record
  pub deadline : ℕ
  pub live : waiter_at (driver_of w).requests id.0 ≡ Some it
  pub there : slice_get s.requests.items (number_in w.names.requests.items id.0) ≡ Some r
  pub named : r.id.0 ≡ id.0
  pub worker : r.shown.worker ≡ w.index
  pub alike : IsAlike (driver_of w).wheel.start (driver_of w).wheel.tick it r.shown
  pub idle : it.in_flight ≡ false
  pub takes : takes_tick it.state ≡ true
  pub asked : deadline_of it.request ≡ Some deadline
  pub told : r.shown.operation.deadline ≡ Some deadline
  pub queued : r.shown.phase ≡ RequestPhase.Queued
  pub small : id.0.generation < 2 ^ 64

module _ {B : Type 0} (w : Worker) (s : Shared B) (new : IsNewIn w s) (id : WaiterId) (first : first_of (driver_of w).lists.enrolments ≡ Some id) where
  new_by : (o : Option (Waiter Reply Reply)) → request_at (driver_of w) id ≡ o → NewAt w s id
  new_by None gone = absurd (false≢true (ap is_unenrolled (sym gone) ∙ new.submits.lists.enrolments id (among_first id (driver_of w).lists.enrolments first)))
  new_by (Some it) live =
      let sound = new.submits.sound in
      let parts = new_parts it.in_flight (takes_tick it.state) (is_some (deadline_of it.request)) (ap is_unenrolled (sym live) ∙ new.submits.lists.enrolments id (among_first id (driver_of w).lists.enrolments first)) in
      let r = sound.named.requests id.0 (rw (entry_of (value_at (driver_of w).requests id.0) it live) refl) in
      let a = sound.named.alike id.0 it r.0 live r.1 in
      let d = some_of (deadline_of it.request) parts.2 in
      record {
        it = it;
        r = r.0;
        deadline = d.0;
        live = live;
        there = r.1;
        named = r.2;
        worker = r.3;
        alike = a;
        idle = parts.0;
        takes = parts.1;
        asked = d.1;
        told = a.deadline ∙ d.1;
        queued = queued_phase r.0.shown.phase (a.flying ∙ parts.0) a.open_still (a.permit ∙ ap (λ b. b && not it.permit) (timed_free it.request parts.2));
        small = let low = low_there w.index w.names.requests.items (driver_of w).requests s.opens s.requests.items sound.known id.0 (rw (entry_of (value_at (driver_of w).requests id.0) it live) refl) in omega (arith, low);
      }

  pub new_first : NewAt w s id
  new_first = new_by (request_at (driver_of w) id) refl

-- what an enrolment does
pub record HasEnrolled {B : Type 0} (w w' : Worker) (s s' : Shared B) (e : Event) (id : WaiterId) (told : Option Error) : Type 0 where
  pub event : e ≡ Enrol (number_in w.names.requests.items id.0) (outcome_of_error told)
  pub enrols : (it : Waiter Reply Reply) (deadline : ℕ) → request_at (driver_of w) id ≡ Some it → deadline_of it.request ≡ Some deadline → EnrolsAs (driver_of w) (driver_of w') w.home.deferred w'.home.deferred id it deadline w.moments.sampled told
  pub punctual : IsPunctual (driver_of w')
  pub bounded : id.0.generation < 2 ^ 64
  pub records : s'.requests.items ≡ changed_at s.requests.items (number_in w.names.requests.items id.0) (λ r. record r { shown = enrolled (first_tick w.moments.start s.config.tick (unwrap_or r.shown.operation.deadline 0)) (outcome_of_error told) r.shown })
  pub ended : w'.names.ended.items ≡ joined_if (is_some told) w.names.ended.items (number_in w.names.requests.items id.0)
  pub capacity : deque_capacity w'.names.ended ≡ deque_capacity w.names.ended
  pub worker : w' ≡ record w { home = record w.home { driver = w'.home.driver; deferred = w'.home.deferred }; names = record w.names { ended = w'.names.ended } }
  pub shared : s' ≡ record s { requests = s'.requests }
