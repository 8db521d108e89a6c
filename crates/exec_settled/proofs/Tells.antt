-- What the move of a worker does as far as tasks are told of what they wait for. Each move does it; and whatever does it keeps what holds.
use Rattle.std.{proofs.Common.{◌≡◌, ℕ, true, false, Some}, specs.Prelude.◌⊎◌}
use Rattle.exec_machine.specs.{declared.{state.{Forwarding.TheVariants.{Applied, Unsent}, MailMessage.MailMessage as message, Waiting.Waiting as waiting}, event.Event.Event as event}, Tests.{is_applied, is_done, is_resolved}, World.{Common, request_of, sleeper_of, task_of}, Tasks.begun_waiting}
use Rattle.exec_outcomes.specs.declared.outcome.Outcome.{Outcome}
use Rattle.exec_moves.specs.{declared.{handing.{AfterCallbacks.AfterCallbacks, Heard.Heard}, place.{InCallbacks.InCallbacks, InPoll.InPoll, Place.Place}}, Poll.after_begin, Slots.{is_in_slots, numbers_in}, State.{Desk, Moved, Things}, Told.has_number}

-- The move of worker i from d over x; late is the common part after it.
module _ (i : ℕ) (s : Common) (d : Desk) (x : Things) (m : Moved Things) (late : Common) where
  -- this task is woken next by the worker, for this
  abbrev pub WakesNext : ℕ → Heard → Type 0
  WakesNext t of = (n : AfterCallbacks) × (m.desk.place ≡ Place.Callbacks (InCallbacks.WakeWaiter t of) n)

  pub record Tells : Type 0 where
    -- HERE: a request that is waited for here stays in the books, unless it is over, waited for elsewhere, or held by nobody
    pub awaited : (k : ℕ) → has_number k d.awaited ≡ true → has_number k (numbers_in d.requests.held) ≡ true → is_resolved (request_of late k).phase ≡ false
        → (request_of late k).forwarding ≡ Unsent → (request_of late k).observed ≡ true → has_number k m.desk.awaited ≡ true
    pub waits : (k : ℕ) → m.event ≡ event.Wait (Some k) → has_number k (numbers_in d.requests.held) ≡ true → has_number k m.desk.awaited ≡ true
    -- who is to be woken is so until it is
    pub wakes : (t : ℕ) → has_number t d.wakes ≡ true → (has_number t m.desk.wakes ≡ true) ⊎ (m.event ≡ event.Wake t)
    -- ELSEWHERE: an end that is to be sent is so until it is, and then its task is woken next
    pub results : (k : ℕ) → has_number k d.results ≡ true → (has_number k m.desk.results ≡ true)
        ⊎ ((has_number k m.thing.answers ≡ true) × ((t : ℕ) → (request_of s k).waiter ≡ Some t → is_done (task_of s t).phase ≡ false → WakesNext t (Heard.Request k)))
    pub completions : (z : ℕ) → has_number z d.completions ≡ true → (has_number z m.desk.completions ≡ true)
        ⊎ ((has_number z m.thing.alarms ≡ true) × (is_done (task_of s (sleeper_of s z).task).phase ≡ false → WakesNext (sleeper_of s z).task (Heard.Timer z)))
    pub waking : (t : ℕ) (of : Heard) (n : AfterCallbacks) → d.place ≡ Place.Callbacks (InCallbacks.WakeWaiter t of) n → m.event ≡ event.Wake t
    pub answers : (k : ℕ) → has_number k x.answers ≡ true → has_number k m.thing.answers ≡ true
    pub alarms : (z : ℕ) → has_number z x.alarms ≡ true → has_number z m.thing.alarms ≡ true
    -- A REQUEST THAT ENDS, while somebody holds it: its end is to be sent, or who waits here is to be woken
    pub ends_elsewhere : (k : ℕ) → is_resolved (request_of s k).phase ≡ false → is_resolved (request_of late k).phase ≡ true → (request_of s k).observed ≡ true → (request_of late k).observed ≡ true
        → is_applied (request_of s k).forwarding ≡ true → has_number k m.desk.results ≡ true
    pub ends_here : (k t : ℕ) → is_resolved (request_of s k).phase ≡ false → is_resolved (request_of late k).phase ≡ true → (request_of s k).observed ≡ true → (request_of late k).observed ≡ true
        → is_applied (request_of s k).forwarding ≡ false → has_number k d.awaited ≡ true → (request_of s k).waiter ≡ Some t → has_number t m.desk.wakes ≡ true
    -- A SLEEPER THAT FIRES
    pub fires_elsewhere : (z : ℕ) → (sleeper_of s z).fired ≡ false → (sleeper_of late z).fired ≡ true → is_applied (sleeper_of s z).forwarding ≡ true → has_number z m.desk.completions ≡ true
    pub fires_here : (z : ℕ) → (sleeper_of s z).fired ≡ false → (sleeper_of late z).fired ≡ true → is_applied (sleeper_of s z).forwarding ≡ false → has_number (sleeper_of s z).task m.desk.wakes ≡ true
    -- what is over already, as it is said to be waited for elsewhere
    pub applies : (k : ℕ) → m.event ≡ event.Apply (message.ForwardRequest k) → is_resolved (request_of s k).phase ≡ true → has_number k m.desk.results ≡ true
    pub applies_too : (z : ℕ) → m.event ≡ event.Apply (message.ForwardTimer z) → is_in_slots z d.timers ≡ false → has_number z m.desk.completions ≡ true
    -- POLLS: one that waits looks next, and finds what was sent
    pub begins : (t : ℕ) → m.event ≡ event.Begin t → m.desk.place ≡ Place.Poll t (after_begin (begun_waiting (task_of s t).waiting))
    pub resumes : (t k : ℕ) → d.place ≡ Place.Poll t InPoll.Resume → (task_of s t).waiting ≡ waiting.Request k → (request_of s k).forwarding ≡ Applied → has_number k x.answers ≡ true
        → is_resolved (request_of s k).phase ≡ true → (o : Outcome) × (m.event ≡ event.Got k o)
    pub resumes_too : (t z : ℕ) → d.place ≡ Place.Poll t InPoll.Resume → (task_of s t).waiting ≡ waiting.Timer z → (sleeper_of s z).forwarding ≡ Applied → has_number z x.alarms ≡ true
        → m.event ≡ event.GotTimer z
