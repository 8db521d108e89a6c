-- What is left to be told as requests and sleepers of a worker end, or as nobody holds them any more.
--
-- A request keeps its slot until its output was taken, was let go, or is sent to who waits elsewhere; a sleeper until it is
-- over. Who waits here is woken, and of the rest one waits elsewhere, or nobody does.
use Rattle.std.specs.{Prelude.{ℕ, Bool, not, ◌+◌, ◌==◌, ◌&&◌, ◌||◌, ◌++◌, List, [], ◌∷◌, filter, nat_lt, Option, Some, None, if◌then◌else◌}, List.list_any}
use Rattle.exec_machine.specs.{declared.state.{Request.Request, Sleeper.Sleeper, Waiting.{Waiting, Waiting as waiting}, MailMessage.{MailMessage, TheVariants.{CancelRequest, CancelTimer}}}, World.{Task, Common, request_of, sleeper_of}, Tests.{is_applied, is_resolved}, Requests.ends_by_drop}
use Rattle.exec_moves.specs.{Slots.{entered, vacated, is_in_slots, numbers_in}, State.Desk}

-- the number is in the list
abbrev pub has_number : ℕ → List ℕ → Bool
has_number n ns = list_any (λ m. m == n) ns

-- the number comes into a list that is in order
abbrev pub in_order : ℕ → List ℕ → List ℕ
in_order n [] = n ∷ []
in_order n (m ∷ ms) = if nat_lt n m then n ∷ (m ∷ ms) else if n == m then m ∷ ms else m ∷ in_order n ms

-- REQUESTS

-- one is made; its slot is free again; its task waits for it here from now on, or does so no more (by slots)
abbrev pub with_request : ℕ → Desk → Desk
with_request r d = record d { requests = entered r d.requests }

abbrev pub without_request : ℕ → Desk → Desk
without_request r d = record d { requests = vacated r d.requests }

abbrev pub awaits : ℕ → Desk → Desk
awaits r d = record d { awaited = filter (λ q. (q == r) || has_number q d.awaited) (numbers_in d.requests.held) }

abbrev pub awaits_no_more : ℕ → Desk → Desk
awaits_no_more r d = record d { awaited = filter (λ q. not (q == r)) d.awaited }

-- an output is let go; an end is sent to who waits elsewhere
abbrev pub one_output : Desk → Desk
one_output d = record d { outputs = d.outputs + 1 }

abbrev pub one_result : ℕ → Desk → Desk
one_result r d = record d { results = d.results ++ r ∷ [] }

abbrev pub waker_of : Option ℕ → List ℕ
waker_of None = []
waker_of (Some t) = t ∷ []

-- the task that waits here is woken
abbrev pub woken_where_awaited : ℕ → Request → Desk → Desk
woken_where_awaited r it d = if has_number r d.awaited then record d { wakes = d.wakes ++ waker_of it.waiter } else d

-- a request ends
abbrev pub told_of_end : ℕ → Request → Desk → Desk
told_of_end r it d =
    if not it.observed then one_output (without_request r d)
    else if is_applied it.forwarding then one_result r (without_request r d)
    else awaits_no_more r (woken_where_awaited r it d)

-- the same where it has ended by this step
abbrev pub told_if_ended : {X : Type 0} → Option X → ℕ → Request → Desk → Desk
told_if_ended None r it d = d
told_if_ended (Some how) r it d = told_of_end r it d

-- who waits elsewhere is told that there is no end to wait for
abbrev pub turned_away : ℕ → Request → Desk → Desk
turned_away r it d = if is_applied it.forwarding then one_result r d else awaits_no_more r d

-- Nobody holds the request any more. The output of one that is over is let go, also where it is over by this.
abbrev pub told_of_drop : ℕ → Request → Desk → Desk
told_of_drop r it d =
    if not (it.observed && is_in_slots r d.requests) then d
    else if is_resolved it.phase then one_output (without_request r d)
    else if ends_by_drop it then one_output (without_request r (turned_away r it d))
    else turned_away r it d

-- It is waited for elsewhere from now on. The end of one that is over is sent at once; and of one that nobody holds, that
-- there is none.
abbrev pub told_of_forward : ℕ → Request → Desk → Desk
told_of_forward r it d =
    if not (is_in_slots r d.requests) then one_result r d
    else if is_resolved it.phase then one_result r (without_request r d)
    else if it.observed then awaits_no_more r d
    else one_result r d

-- SLEEPERS

abbrev pub with_timer : ℕ → Desk → Desk
with_timer z d = record d { timers = entered z d.timers }

abbrev pub without_timer : ℕ → Desk → Desk
without_timer z d = record d { timers = vacated z d.timers }

abbrev pub one_completion : ℕ → Desk → Desk
one_completion z d = record d { completions = d.completions ++ z ∷ [] }

-- one is over by itself, or by the closing of its worker: its task is woken, or is sent the end
abbrev pub told_of_fire : ℕ → Sleeper → Desk → Desk
told_of_fire z it d =
    if is_applied it.forwarding then one_completion z (without_timer z d)
    else record (without_timer z d) { wakes = d.wakes ++ it.task ∷ [] }

-- nobody waits for it any more; who waited elsewhere is told so
abbrev pub told_of_cancel : ℕ → Sleeper → Desk → Desk
told_of_cancel z it d =
    if not (is_in_slots z d.timers) then d
    else if is_applied it.forwarding then one_completion z (without_timer z d)
    else without_timer z d

-- It is waited for elsewhere from now on. The end of one that is over is sent at once.
abbrev pub told_of_timer_forward : ℕ → Desk → Desk
told_of_timer_forward z d = if is_in_slots z d.timers then d else one_completion z d

-- WHAT A TASK HELD THAT IS OVER: what is of worker i is let go, and each other worker is to be told

abbrev pub owes : ℕ → MailMessage → Desk → Desk
owes to message d = record d { letters = d.letters ++ record { to = to; message = message } ∷ [] }

abbrev pub lets_go_request : ℕ → ℕ → Request → Desk → Desk
lets_go_request i r it d = if it.worker == i then told_of_drop r it d else owes it.worker (CancelRequest r) d

abbrev pub lets_go_requests : ℕ → Common → List ℕ → Desk → Desk
lets_go_requests i s [] d = d
lets_go_requests i s (r ∷ held) d = lets_go_requests i s held (lets_go_request i r (request_of s r) d)

abbrev pub lets_go_timer : ℕ → ℕ → Sleeper → Desk → Desk
lets_go_timer i z it d = if it.worker == i then told_of_cancel z it d else owes it.worker (CancelTimer z) d

abbrev pub lets_go_sleep : ℕ → Common → Waiting → Desk → Desk
lets_go_sleep i s (waiting.Timer z) d = lets_go_timer i z (sleeper_of s z) d
lets_go_sleep i s _ d = d

abbrev pub lets_go_all : ℕ → Common → Task → Desk → Desk
lets_go_all i s it d = lets_go_sleep i s it.waiting (lets_go_requests i s it.held d)
