-- What a worker is told as requests and sleepers end leaves its spinner as it is, and so does an enter.
use Rattle.std.{proofs.Common.{◌≡◌, ℕ, Bool, true, false, ◌==◌, ◌&&◌, ◌||◌, List, [], ◌∷◌, Option, refl, arith, ◌∙◌, if◌then◌else◌}, specs.Prelude.not}
use Rattle.exec_outcomes.specs.declared.outcome.Outcome.{Outcome}
use Rattle.exec_machine.specs.{declared.state.{Waiting.{Waiting, Waiting as waiting}, Request.Request, Sleeper.Sleeper}, Tests.{is_applied, is_resolved}, World.{Common, Own as Books, Task, request_of, sleeper_of}, Requests.ends_by_drop}
use Rattle.exec_moves.specs.{Callback.is_full, Serve.{Ring, enter}, State.Desk, Told.{lets_go_all, told_if_ended, told_of_drop, told_of_cancel, told_of_fire, lets_go_requests, lets_go_request, lets_go_sleep, turned_away}, Submit.with_poll, Slots.is_in_slots}

abbrev pub Same : Desk → Desk → Type 0
Same d e = e.spinner ≡ d.spinner

pub same_if : (d : Desk) (b : Bool) (e f : Desk) → Same d e → Same d f → Same d (if b then e else f)
same_if d true e f one other = one
same_if d false e f one other = other

pub ended_same : (o : Option Outcome) (r : ℕ) (it : Request) (d : Desk) → Same d (told_if_ended o r it d)
ended_same = grind arith

pub away_same : (r : ℕ) (it : Request) (d : Desk) → Same d (turned_away r it d)
away_same r it d = same_if d (is_applied it.forwarding) _ _ refl refl

pub drop_same : (r : ℕ) (it : Request) (d : Desk) → Same d (told_of_drop r it d)
drop_same r it d =
    same_if d (not (it.observed && is_in_slots r d.requests)) _ _ refl (same_if d (is_resolved it.phase) _ _ refl (same_if d (ends_by_drop it) _ _ (away_same r it d) (away_same r it d)))

pub fire_same : (z : ℕ) (it : Sleeper) (d : Desk) → Same d (told_of_fire z it d)
fire_same z it d = same_if d (is_applied it.forwarding) _ _ refl refl

pub cancel_same : (z : ℕ) (it : Sleeper) (d : Desk) → Same d (told_of_cancel z it d)
cancel_same z it d = same_if d (not (is_in_slots z d.timers)) _ _ refl (same_if d (is_applied it.forwarding) _ _ refl refl)

pub held_same : (i : ℕ) (s : Common) (held : List ℕ) (d : Desk) → Same d (lets_go_requests i s held d)
held_same i s [] d = refl
held_same i s (r ∷ held) d =
    held_same i s held (lets_go_request i r (request_of s r) d) ∙ same_if d ((request_of s r).worker == i) _ _ (drop_same r (request_of s r) d) refl

pub slept_same : (i : ℕ) (s : Common) (w : Waiting) (d : Desk) → Same d (lets_go_sleep i s w d)
slept_same i s (waiting.Timer z) d = same_if d ((sleeper_of s z).worker == i) _ _ (cancel_same z (sleeper_of s z) d) refl
slept_same i s _ d = refl

pub all_same : (i : ℕ) (s : Common) (it : Task) (d : Desk) → Same d (lets_go_all i s it d)
all_same i s it d = slept_same i s it.waiting (lets_go_requests i s it.held d) ∙ held_same i s it.held d

pub enter_same : (me : Books) (d : Desk) (r : Ring) → Same d (enter me d r).desk
enter_same = grind arith

pub poll_same : (size : ℕ) (d : Desk) → Same d (with_poll size d)
poll_same size d = same_if d (d.polled || is_full size d) _ _ refl refl

pub enter_at : (me : Books) (d : Desk) (r : Ring) → (enter me d r).desk.place ≡ d.place
enter_at = grind arith
