-- NO TASK WAITS FOR WHAT HAS COME: by who is to be woken next, and by whom.
--
-- A task waits for a request or a sleeper. Where it does so on that one's own worker, that worker wakes it as the thing ends.
-- Where it does so elsewhere it says so by a message; once that is applied the end is sent to it, and it is woken after that.
use Rattle.std.specs.Prelude.{◌≡◌, ℕ, true, false, ◌||◌, ◌⊎◌}
use Rattle.exec_machine.specs.{declared.{config.Configuration.Configuration, state.{Forwarding.TheVariants.{Applied, Unsent}, Waiting.Waiting as waiting}}, Progress.is_runnable, Tests.{is_ready, is_resolved}, World.{Common, request_of, sleeper_of, task_of}}
use Rattle.exec_moves.specs.{declared.{handing.{AfterCallbacks.AfterCallbacks, Heard.Heard}, place.{InCallbacks.InCallbacks, InPoll.InPoll, Place.Place}}, Plays.{Playing, desk_of}, Poll.is_noted, Told.has_number}
use Rattle.exec_rest.specs.Rested.{place_at}
use Rattle.exec_settled.specs.Given.{WaitsFor}

module _ (c : Configuration) (x : Playing) where
  abbrev s : Common
  s = x.world.common

  -- it is to be woken by worker i
  abbrev pub IsToBeWoken : ℕ → ℕ → Type 0
  IsToBeWoken i t = (is_runnable (task_of s t).phase ≡ true) ⊎ (has_number t (desk_of c x i).wakes ≡ true)

  -- the end of this was sent: its worker wakes the task next, or the task is to be polled, was woken in its poll, or looks at what was
  -- sent next
  abbrev pub IsToHear : ℕ → ℕ → Heard → Type 0
  IsToHear i t of =
      ((n : AfterCallbacks) × (place_at c x i ≡ Place.Callbacks (InCallbacks.WakeWaiter t of) n))
      ⊎ (((is_ready (task_of s t).phase || is_noted (task_of s t).phase) ≡ true) ⊎ ((j : ℕ) × (place_at c x j ≡ Place.Poll t InPoll.Resume)))

  pub record IsAwaited : Type 0 where
    -- HERE: a request is in the books of who waits for it here, and its end wakes the task
    pub here : (t k : ℕ) → WaitsFor s t (waiting.Request k) → (request_of s k).forwarding ≡ Unsent → is_resolved (request_of s k).phase ≡ false
        → has_number k (desk_of c x (request_of s k).worker).awaited ≡ true
    pub woken : (t k : ℕ) → WaitsFor s t (waiting.Request k) → (request_of s k).forwarding ≡ Unsent → is_resolved (request_of s k).phase ≡ true
        → IsToBeWoken (request_of s k).worker t
    pub fired : (t z : ℕ) → WaitsFor s t (waiting.Timer z) → (sleeper_of s z).forwarding ≡ Unsent → (sleeper_of s z).fired ≡ true
        → IsToBeWoken (sleeper_of s z).worker t
    -- ELSEWHERE: the end is to be sent, or was sent
    pub answered : (t k : ℕ) → WaitsFor s t (waiting.Request k) → (request_of s k).forwarding ≡ Applied → is_resolved (request_of s k).phase ≡ true
        → (has_number k (desk_of c x (request_of s k).worker).results ≡ true) ⊎ ((has_number k x.things.answers ≡ true) × IsToHear (request_of s k).worker t (Heard.Request k))
    pub alarmed : (t z : ℕ) → WaitsFor s t (waiting.Timer z) → (sleeper_of s z).forwarding ≡ Applied → (sleeper_of s z).fired ≡ true
        → (has_number z (desk_of c x (sleeper_of s z).worker).completions ≡ true) ⊎ ((has_number z x.things.alarms ≡ true) × IsToHear (sleeper_of s z).worker t (Heard.Timer z))
