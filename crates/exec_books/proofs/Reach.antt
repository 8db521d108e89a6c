-- A line of a worker leaves what is common, but for its own and what the line tells.
use Rattle.std.{proofs.{Common.{◌≡◌, ◌≢◌, ℕ, ◌<◌, ◌==◌, true, false, List, [], ◌∷◌, length, map, Option, Some, None, refl, arith, get_or, set}, lemmas.{Bool.{eqb-true, true≢false}, List.{get_or_append_left, get_or_push, get_or-set_other, get_or-set_same, length-append, length-map, length-set}}}, specs.Prelude.slice_get}
use Rattle.exec_outcomes.specs.declared.outcome.{OpResult.OpResult, Outcome.Outcome}
use Rattle.exec_machine.specs.{declared.{config.Configuration.Configuration, event.Event.{Event, Event as event}, state.{MailMessage.MailMessage, Operation.Operation, Request.Request, Sleeper.Sleeper}}, After.{after, common_after}, Allowed.Allowed, Choice.Choice, Closing.gone_with, Requests.{common_after_refusal, flown, opens_after_end, reaped}, Same.same_message, Tasks.requests_after_drops, World.{Common, Own as Books, World, no_open, no_request, no_sleeper, open_of, own_of, request_of, seat_of, sleeper_of, task_of}}
use Rattle.exec_rest.proofs.Others.{map_like, set_like}
use Rattle.exec_books.{specs.{Booked.{FirstIsOwn, IsOwnMessage}, Reach.{OnlyReaches, names_open, names_task, request_elsewhere, sleeper_elsewhere}}, proofs.{Own.{IsOwn, first_message, own_by_allowed}, Spares.new_one}}

drops_long : (i : ℕ) (held : List ℕ) (rs : List Request) → length (requests_after_drops i held rs) ≡ length rs
drops_long i [] rs = refl
drops_long i (r ∷ held) rs = grind (arith, length-set, drops_long i held)

-- what a worker drops is its own
drops_left : (i : ℕ) (held : List ℕ) (rs : List Request) (k : ℕ) → (get_or rs k no_request).worker ≢ i → get_or (requests_after_drops i held rs) k no_request ≡ get_or rs k no_request
drops_left i [] rs k apart = refl
drops_left i (r ∷ held) rs k apart = grind (arith, get_or-set_other, eqb-true, drops_left i held)

flown_left : (i : ℕ) (rs : List Request) (k : ℕ) → (get_or rs k no_request).worker ≢ i → get_or (map (flown i) rs) k no_request ≡ get_or rs k no_request
flown_left i = map_like (λ x y. x.worker ≢ i → y ≡ x) (flown i) no_request (λ apart. refl) (grind arith)

gone_left : (i : ℕ) (zs : List Sleeper) (k : ℕ) → (get_or zs k no_sleeper).worker ≢ i → get_or (map (gone_with i) zs) k no_sleeper ≡ get_or zs k no_sleeper
gone_left i = map_like (λ x y. x.worker ≢ i → y ≡ x) (gone_with i) no_sleeper (λ apart. refl) (grind arith)

-- OPENS

target_set : (rs : List Request) (r : ℕ) (y : Request) → y.operation.target ≡ (get_or rs r no_request).operation.target → (get_or (set rs r y) r no_request).operation.target ≡ (get_or rs r no_request).operation.target
target_set rs r y = set_like (λ x z. z.operation.target ≡ x.operation.target) (λ x. refl) rs r r y no_request

end_long : (o : Operation) (outcome : Option Outcome) (s : Common) → length (opens_after_end o outcome s) ≡ length s.opens
end_long = grind (arith, length-set)

refusal_long : (s : Common) (r : Request) (n : OpResult) → length (common_after_refusal s r n).opens ≡ length s.opens
refusal_long = grind (arith, length-set)

end_left : (o : Operation) (outcome : Option Outcome) (s : Common) (f : ℕ) → (o.target == f) ≡ false → get_or (opens_after_end o outcome s) f no_open ≡ open_of s f
end_left = grind (arith, get_or-set_other)

refusal_left : (s : Common) (r : Request) (n : OpResult) (f : ℕ) → (r.operation.target == f) ≡ false → open_of (common_after_refusal s r n) f ≡ open_of s f
refusal_left = grind (arith, get_or-set_other)

reaped_target : (n : OpResult) (outcome : Option Outcome) (r : Request) → (reaped n outcome r).operation.target ≡ r.operation.target
reaped_target = grind arith

-- the message that is applied is of its own
same_own : (s : Common) (i : ℕ) (m first : MailMessage) → same_message m first ≡ true → IsOwnMessage s i first → IsOwnMessage s i m
same_own = grind arith

abbrev IsMine : Common → ℕ → Event → Type 0
IsMine s i (event.Apply m) = IsOwnMessage s i m
IsMine s i (event.Wait (Some r)) = (request_of s r).worker ≡ i
IsMine s i e = IsOwn s i e

mine : (c : Configuration) (me : Books) (s : Common) (i : ℕ) (e : Event) (choice : Choice) → FirstIsOwn s i → Allowed c me s i e choice → IsMine s i e
mine c me s i (event.Apply m) choice first may =
    let it = first_message m (seat_of s i) (slice_get (seat_of s i).inbox 0) refl may.1.1.0 in same_own s i m it.0 it.2 (first it.0 it.1)
mine c me s i (event.Wait (Some r)) choice first may = eqb-true (request_of s r).worker i may.1.1.0
mine c me s i (event.Wait None) choice first may = tt
mine c me s i e choice first may = own_by_allowed c me s i e choice may refl

module _ (c : Configuration) (it : Books) (s : Common) (i : ℕ) where
  abbrev at : Option ℕ → Books
  at polls = record it { polls = polls }

  pub opens_long : (polls : Option ℕ) (e : Event) (choice : Choice) → length (common_after c (at polls) s i e choice).opens ≡ length s.opens
  opens_long = grind (arith, length-set, end_long, refusal_long)

  pub opens_left : (polls : Option ℕ) (e : Event) (choice : Choice) → Allowed c (at polls) s i e choice → (f : ℕ) → names_open (at polls) (common_after c (at polls) s i e choice) e f ≡ false
      → open_of (common_after c (at polls) s i e choice) f ≡ open_of s f
  opens_left polls (event.Admit r kind outcome) choice may f other = grind (arith, get_or-set_other, get_or_push)
  opens_left polls e choice _ f other = grind (arith, get_or-set_other, target_set, reaped_target, end_left, refusal_left)

  tasks_left : (polls : Option ℕ) (e : Event) (choice : Choice) → Allowed c (at polls) s i e choice → (k : ℕ) → k < length s.tasks → polls ≢ Some k → names_task it e k ≡ false
      → task_of (common_after c (at polls) s i e choice) k ≡ task_of s k
  tasks_left None = grind (arith, get_or-set_other, get_or_append_left, true≢false)
  tasks_left (Some t) = grind (arith, get_or-set_other, get_or_append_left, true≢false, length-set)

  requests_left : (polls : Option ℕ) (e : Event) (choice : Choice) → Allowed c (at polls) s i e choice → IsMine s i e → (k : ℕ) → k < length s.requests → (request_of s k).worker ≢ i
      → request_of (common_after c (at polls) s i e choice) k ≡ request_elsewhere (at polls) e choice k (request_of s k)
  requests_left polls (event.Send to m) choice may owned k within apart = grind (arith, get_or-set_other, get_or-set_same, eqb-true, true≢false)
  requests_left polls e choice _ owned k within apart = grind (arith, get_or-set_other, get_or-set_same, get_or_append_left, eqb-true, drops_left, flown_left)

  sleepers_left : (polls : Option ℕ) (e : Event) (choice : Choice) → Allowed c (at polls) s i e choice → IsMine s i e → (k : ℕ) → k < length s.sleepers → (sleeper_of s k).worker ≢ i
      → sleeper_of (common_after c (at polls) s i e choice) k ≡ sleeper_elsewhere e choice k (sleeper_of s k)
  sleepers_left polls (event.Send to m) choice may owned k within apart = grind (arith, get_or-set_other, get_or-set_same, eqb-true, true≢false)
  sleepers_left polls e choice _ owned k within apart = grind (arith, get_or-set_other, get_or-set_same, get_or_append_left, eqb-true, gone_left)

  reaches_by : (polls : Option ℕ) (e : Event) (choice : Choice) → Allowed c (at polls) s i e choice → IsMine s i e → OnlyReaches i (at polls) e choice s (common_after c (at polls) s i e choice)
  reaches_by polls e choice may owned =
      record {
        clock = grind arith;
        scripts = grind arith;
        root = grind arith;
        callers = grind arith;
        listeners = grind arith;
        next_socket = grind arith;
        many_seats = grind (arith, length-set, length-append);
        many_tasks = grind (arith, length-set, length-append);
        many_requests = grind (arith, length-set, length-map, length-append, drops_long);
        many_sleepers = grind (arith, length-set, length-map, length-append);
        many_opens = opens_long polls e choice;
        set_closed = grind arith;
        queue_closed = grind arith;
        stopped = grind arith;
        opens = opens_left polls e choice may;
        seats = grind (arith, get_or-set_other, get_or-set_same, get_or_append_left);
        tasks = tasks_left polls e choice may;
        requests = requests_left polls e choice may owned;
        requests_made = new_one c (at polls) s i e choice;
        sleepers = sleepers_left polls e choice may owned;
        sleepers_made = grind (arith, get_or_push, length-append, length-map, length-set);
      }

pub reaches : (c : Configuration) (w : World) (i : ℕ) (e : Event) (choice : Choice) → FirstIsOwn w.common i → Allowed c (own_of w i) w.common i e choice
    → OnlyReaches i (own_of w i) e choice w.common (after c w i e choice).common
reaches c w i e choice first may = let me = own_of w i in reaches_by c me w.common i me.polls e choice may (mine c me w.common i e choice first may)
