-- What is over stays so, along whole runs.
use Rattle.std.proofs.{Common.{◌≡◌, ℕ, zero, suc, ◌<◌, ◌≤◌, true, false, List, [], ◌∷◌, ◌++◌, Option, Some, None, length, refl, sym, ◌∙◌, ap, arith, get_or, set}, lemmas.{Bool.true≢false, List.{length-set, length_push, get_or_append_left}}}
use Rattle.exec_outcomes.specs.declared.outcome.{OpResult.OpResult, Outcome.Outcome}
use Rattle.exec_machine.{specs.{declared.{config.Configuration.Configuration, step.Action.{Action, Action as action}, event.{Event.{Event, Event as event}, StepResult.{StepResult, TheVariants.{Refused, Did}}, Line.Line}, state.{RequestPhase.{RequestPhase, RequestPhase as phase}, Request.Request}}, Choice.Choice, World.{World, own_of, request_of, no_request}, Tests.{is_landed_with, is_resolved}, Requests.{reaped, new_request, resolved_if, with_seen, asked_now}, Run.{Follows, RunsBy, after_event, after_line, world_after}}, proofs.Onward.{Lasts, AllOnward, by_event, by_other, none_changed}}

pub record Lasting (xs ys : List Request) : Type 0 where
  pub grows : length xs ≤ length ys
  pub each : (r : ℕ) → r < length xs → Lasts (get_or xs r no_request) (get_or ys r no_request)

Lasts-refl : {x : Request} → Lasts x x
Lasts-refl = record { over = λ o h. h; released = λ h. h }

onward_lasts : {xs ys : List Request} → AllOnward xs ys → Lasting xs ys
onward_lasts a = record { grows = omega (arith, a.same_length); each = λ r _. (a.each r).lasts }

pushed_lasts : (xs : List Request) (x : Request) → Lasting xs (xs ++ x ∷ [])
pushed_lasts = grind (arith, length_push, get_or_append_left, Lasts-refl)

set_lasts : (xs : List Request) (q : ℕ) (y : Request) (r : ℕ) → Lasts (get_or xs q no_request) y → Lasts (get_or xs r no_request) (get_or (set xs q y) r no_request)
set_lasts [] q y r h = Lasts-refl
set_lasts (x ∷ xs) zero y zero h = h
set_lasts (x ∷ xs) zero y (suc r) h = Lasts-refl
set_lasts (x ∷ xs) (suc q) y zero h = Lasts-refl
set_lasts (x ∷ xs) (suc q) y (suc r) h = set_lasts xs q y r h

pub landed_open : (n : OpResult) (p : RequestPhase) → is_landed_with n p ≡ true → is_resolved p ≡ false
landed_open n (phase.Landed m) h = refl
landed_open n p h = absurd (true≢false (sym h))

reaped_lasts : (n : OpResult) (outcome : Option Outcome) (x : Request) → is_resolved x.phase ≡ false → Lasts x (reaped n outcome x)
reaped_lasts n None x unresolved = record { over = λ o h. absurd (true≢false (sym (ap is_resolved h) ∙ unresolved)); released = λ h. h }
reaped_lasts n (Some outcome) x unresolved = record { over = λ o h. absurd (true≢false (sym (ap is_resolved h) ∙ unresolved)); released = λ h. h }

by_action : (c : Configuration) (w : World) (a : Action) (e : Event) (choice : Choice) → Follows c w a (Did e) choice → Lasting w.common.requests (after_event c w a e choice).common.requests
by_action c w (action.Work i) (event.Admit r kind outcome) choice f =
    pushed_lasts w.common.requests (resolved_if outcome (new_request i (with_seen (asked_now c (own_of w i) w.common) w.common)))
by_action c w (action.Work i) (event.Reap r n outcome) choice f = grind (arith, length-set, set_lasts, reaped_lasts, landed_open)
by_action c w (action.Work i) e choice f = onward_lasts (by_event c (own_of w i) w.common i e choice refl f.1)
by_action c w a e choice f = onward_lasts (by_other c w a e choice refl f)

by_line : (c : Configuration) (w : World) (a : Action) (said : StepResult) (choice : Choice) → Follows c w a said choice → Lasting w.common.requests (after_line c w a said choice).common.requests
by_line c w a Refused choice f = onward_lasts none_changed
by_line c w a (Did e) choice f = by_action c w a e choice f

Lasting-trans : {xs ys zs : List Request} → Lasting xs ys → Lasting ys zs → Lasting xs zs
Lasting-trans = grind arith

pub by_lines : (c : Configuration) (w : World) (lines : List Line) (choices : List Choice) → RunsBy c w lines choices → Lasting w.common.requests (world_after c w lines choices).common.requests
by_lines c w [] [] f = onward_lasts none_changed
by_lines c w [] (choice ∷ choices) f = absurd f
by_lines c w (l ∷ ls) [] f = absurd f
by_lines c w (l ∷ ls) (choice ∷ choices) f =
    Lasting-trans (by_line c w l.action l.said choice f.0) (by_lines c (after_line c w l.action l.said choice) ls choices f.1)

pub over : (c : Configuration) (w : World) (lines : List Line) (choices : List Choice) (r : ℕ) (outcome : Outcome)
    → RunsBy c w lines choices → r < length w.common.requests → (request_of w.common r).phase ≡ phase.Resolved outcome
    → (request_of (world_after c w lines choices).common r).phase ≡ phase.Resolved outcome
over c w lines choices r outcome f there = ((by_lines c w lines choices f).each r there).over outcome

pub released : (c : Configuration) (w : World) (lines : List Line) (choices : List Choice) (r : ℕ)
    → RunsBy c w lines choices → r < length w.common.requests → (request_of w.common r).released ≡ true
    → (request_of (world_after c w lines choices).common r).released ≡ true
released c w lines choices r f there = ((by_lines c w lines choices f).each r there).released
