-- What a move tells, in four parts; and moves that leave the lists of what is to be told as they are.
use Rattle.std.{proofs.Common.{◌≡◌, ℕ, Bool, true, false, not, ◌||◌, List, Some, if◌then◌else◌, arith}, specs.Prelude.◌⊎◌}
use Rattle.exec_outcomes.specs.declared.outcome.Outcome.{Outcome}
use Rattle.exec_machine.specs.{declared.{config.Configuration.Configuration, event.Event.{Event, TheVariants.{Apply, Begin, Got, GotTimer, Wait, Wake}}, state.{Forwarding.TheVariants.{Applied, Unsent}, MailMessage.TheVariants.{ForwardRequest, ForwardTimer}, Waiting.TheVariants.{Request, Timer}}}, After.common_after, Tasks.begun_waiting, Tests.{is_applied, is_done, is_resolved}, World.{Common, Own as Books, request_of, sleeper_of, task_of}}
use Rattle.exec_moves.specs.{declared.{handing.{AfterCallbacks.AfterCallbacks, Heard.Heard}, place.{InCallbacks.{InCallbacks, InCallbacks as callback}, InPoll.{InPoll, InPoll as poll}, Place.{Place, Place as at}}}, Poll.after_begin, Slots.{is_in_slots, numbers_in}, State.{Desk, Moved, Things}, Thing.puts, Told.has_number}
use Rattle.exec_settled.proofs.{Tells.{Tells, WakesNext}, TellsEvents.{AllLast, AllSleep, is_ending, is_firing, is_saying, asleep_by, last_by}}

-- who stands there looks at nothing that was sent, and wakes nobody to whom something was sent
abbrev pub is_apart : Place → Bool
is_apart (at.Callbacks (callback.WakeWaiter t of) n) = false
is_apart (at.Poll t poll.Resume) = false
is_apart _ = true

abbrev pub is_mute : Event → Bool
is_mute e = not (is_ending e || is_saying e)

pub mute_ends : (e : Event) → is_mute e ≡ true → is_ending e ≡ false
mute_ends = grind arith

pub mute_says : (e : Event) → is_mute e ≡ true → is_saying e ≡ false
mute_says = grind arith

pub mute_if : (b : Bool) (e f : Event) → is_mute e ≡ true → is_mute f ≡ true → is_mute (if b then e else f) ≡ true
mute_if = grind arith

unending_fires : (e : Event) → is_ending e ≡ false → is_firing e ≡ false
unending_fires = grind arith

-- the lists of what is to be told
pub record ListsOf : Type 0 where
  pub awaited : List ℕ
  pub wakes : List ℕ
  pub results : List ℕ
  pub completions : List ℕ
  pub answers : List ℕ
  pub alarms : List ℕ

abbrev pub lists_of : Desk → Things → ListsOf
lists_of d x = record { awaited = d.awaited; wakes = d.wakes; results = d.results; completions = d.completions; answers = x.answers; alarms = x.alarms }

pub lists_if : (b : Bool) (e f : Desk) (x : Things) (l : ListsOf) → lists_of e x ≡ l → lists_of f x ≡ l → lists_of (if b then e else f) x ≡ l
lists_if = grind arith

module _ (c : Configuration) (i : ℕ) (me : Books) (s : Common) (d : Desk) (x : Things) where
  abbrev pub late : Moved Things → Common
  late m = common_after c me s i m.event m.choice

  abbrev pub TellsAll : Moved Things → Type 0
  TellsAll m = Tells i s d x m (late m)

  -- the lists
  pub record Lists (m : Moved Things) : Type 0 where
    pub awaited : (k : ℕ) → has_number k d.awaited ≡ true → has_number k (numbers_in d.requests.held) ≡ true → is_resolved (request_of (late m) k).phase ≡ false
        → (request_of (late m) k).forwarding ≡ Unsent → (request_of (late m) k).observed ≡ true → has_number k m.desk.awaited ≡ true
    pub wakes : (t : ℕ) → has_number t d.wakes ≡ true → (has_number t m.desk.wakes ≡ true) ⊎ (m.event ≡ Wake t)
    pub results : (k : ℕ) → has_number k d.results ≡ true → (has_number k m.desk.results ≡ true)
        ⊎ ((has_number k m.thing.answers ≡ true) × ((t : ℕ) → (request_of s k).waiter ≡ Some t → is_done (task_of s t).phase ≡ false → WakesNext i s d x m (late m) t (Heard.Request k)))
    pub completions : (z : ℕ) → has_number z d.completions ≡ true → (has_number z m.desk.completions ≡ true)
        ⊎ ((has_number z m.thing.alarms ≡ true) × (is_done (task_of s (sleeper_of s z).task).phase ≡ false → WakesNext i s d x m (late m) (sleeper_of s z).task (Heard.Timer z)))
    pub answers : (k : ℕ) → has_number k x.answers ≡ true → has_number k m.thing.answers ≡ true
    pub alarms : (z : ℕ) → has_number z x.alarms ≡ true → has_number z m.thing.alarms ≡ true

  -- what ends and what fires
  pub record Ends (m : Moved Things) : Type 0 where
    pub ends_elsewhere : (k : ℕ) → is_resolved (request_of s k).phase ≡ false → is_resolved (request_of (late m) k).phase ≡ true → (request_of s k).observed ≡ true → (request_of (late m) k).observed ≡ true
        → is_applied (request_of s k).forwarding ≡ true → has_number k m.desk.results ≡ true
    pub ends_here : (k t : ℕ) → is_resolved (request_of s k).phase ≡ false → is_resolved (request_of (late m) k).phase ≡ true → (request_of s k).observed ≡ true → (request_of (late m) k).observed ≡ true
        → is_applied (request_of s k).forwarding ≡ false → has_number k d.awaited ≡ true → (request_of s k).waiter ≡ Some t → has_number t m.desk.wakes ≡ true
    pub fires_elsewhere : (z : ℕ) → (sleeper_of s z).fired ≡ false → (sleeper_of (late m) z).fired ≡ true → is_applied (sleeper_of s z).forwarding ≡ true → has_number z m.desk.completions ≡ true
    pub fires_here : (z : ℕ) → (sleeper_of s z).fired ≡ false → (sleeper_of (late m) z).fired ≡ true → is_applied (sleeper_of s z).forwarding ≡ false → has_number (sleeper_of s z).task m.desk.wakes ≡ true

  -- what the event says
  pub record Says (m : Moved Things) : Type 0 where
    pub waits : (k : ℕ) → m.event ≡ Wait (Some k) → has_number k (numbers_in d.requests.held) ≡ true → has_number k m.desk.awaited ≡ true
    pub applies : (k : ℕ) → m.event ≡ Apply (ForwardRequest k) → is_resolved (request_of s k).phase ≡ true → has_number k m.desk.results ≡ true
    pub applies_too : (z : ℕ) → m.event ≡ Apply (ForwardTimer z) → is_in_slots z d.timers ≡ false → has_number z m.desk.completions ≡ true
    pub begins : (t : ℕ) → m.event ≡ Begin t → m.desk.place ≡ Place.Poll t (after_begin (begun_waiting (task_of s t).waiting))

  -- from where it comes
  pub record From (m : Moved Things) : Type 0 where
    pub waking : (t : ℕ) (of : Heard) (n : AfterCallbacks) → d.place ≡ Place.Callbacks (InCallbacks.WakeWaiter t of) n → m.event ≡ Wake t
    pub resumes : (t k : ℕ) → d.place ≡ Place.Poll t InPoll.Resume → (task_of s t).waiting ≡ Request k → (request_of s k).forwarding ≡ Applied → has_number k x.answers ≡ true
        → is_resolved (request_of s k).phase ≡ true → (o : Outcome) × (m.event ≡ Got k o)
    pub resumes_too : (t z : ℕ) → d.place ≡ Place.Poll t InPoll.Resume → (task_of s t).waiting ≡ Timer z → (sleeper_of s z).forwarding ≡ Applied → has_number z x.alarms ≡ true
        → m.event ≡ GotTimer z

  pub all_told : (m : Moved Things) → Lists m → Ends m → Says m → From m → TellsAll m
  all_told = grind arith

  pub same_lists : (m : Moved Things) → lists_of m.desk m.thing ≡ lists_of d x → Lists m
  same_lists = grind arith

  -- neither ends anything that somebody holds nor fires
  pub ends_none : (m : Moved Things) → AllLast s.requests (late m).requests → AllSleep s.sleepers (late m).sleepers → Ends m
  ends_none = grind arith

  pub no_ends : (m : Moved Things) → is_ending m.event ≡ false → Ends m
  no_ends m ends = ends_none m (last_by c me s i m.choice m.event ends) (asleep_by c me s i m.choice m.event (unending_fires m.event ends))

  pub no_says : (m : Moved Things) → is_saying m.event ≡ false → Says m
  no_says = grind arith

  pub from_apart : (m : Moved Things) (p : Place) → d.place ≡ p → is_apart p ≡ true → From m
  from_apart = grind arith

  -- all but from where it comes
  pub record Mild (m : Moved Things) : Type 0 where
    pub lists : Lists m
    pub ends : Ends m
    pub says : Says m

  pub mildly : (m : Moved Things) → Lists m → is_mute m.event ≡ true → Mild m
  mildly m lists mute = record { lists = lists; ends = no_ends m (mute_ends m.event mute); says = no_says m (mute_says m.event mute) }

  -- A PLAIN MOVE: the lists stay, and its event is none of those that count
  pub record Quiet (m : Moved Things) : Type 0 where
    pub lists : lists_of m.desk m.thing ≡ lists_of d x
    pub mute : is_mute m.event ≡ true

  pub quiet : (m : Moved Things) → lists_of m.desk m.thing ≡ lists_of d x → is_mute m.event ≡ true → Quiet m
  quiet m lists mute = record { lists = lists; mute = mute }

  pub quiet_if : {T : Type 0} (back : T → Things) (b : Bool) (m n : Moved T) → Quiet (puts back m) → Quiet (puts back n) → Quiet (puts back (if b then m else n))
  quiet_if = grind arith

  pub mild : (m : Moved Things) → Quiet m → Mild m
  mild m it = mildly m (same_lists m it.lists) it.mute

  pub told_apart : (m : Moved Things) (p : Place) → d.place ≡ p → is_apart p ≡ true → Mild m → TellsAll m
  told_apart m p is apart it = all_told m it.lists it.ends it.says (from_apart m p is apart)

  pub plain_tells : (m : Moved Things) (p : Place) → d.place ≡ p → is_apart p ≡ true → Quiet m → TellsAll m
  plain_tells m p is apart it = told_apart m p is apart (mild m it)
