-- A step that is no worker's changes no own part, and leaves of seats and tasks what a stop needs.
use Rattle.std.proofs.{Common.{◌≡◌, ℕ, ◌+◌, true, not, ◌||◌, [], ◌∷◌, ◌++◌, None, refl, sym, ap, ◌∙◌, inl, inr, arith, set}, lemmas.Bool.{false≢true, or_cases, or_left, or_right}}
use Rattle.exec_outcomes.specs.declared.outcome.OpResult.{OpResult}
use Rattle.exec_machine.specs.{declared.{config.Configuration.Configuration, event.Event.{Event, Event as event}, state.{Code.TheVariants.Script, MailMessage.MailMessage, Rest.Rest}, step.Action.{Action, TheVariants.Work, Action as action}}, Callers.{after_clock, after_going_on, after_landing, common_by}, Choice.Choice, Deadlines.roused_at, Mail.{after_post, has_root_message}, Run.after_event, Tasks.new_task, Tests.{has_ended, is_awake, is_open}, World.{Common, Seat, World, no_seat, own_of, request_of, seat_of}}
use Rattle.exec_shutdown.{specs.Stopping.{StopsAll, owes_root}, proofs.{StoppingSeats.{all_still, held_before, AllFirm, Firm, firm, firm_then, post_firm, roused_firm, seat_set, seats_same, through_still}, StoppingTasks.{AllPatient, one_more, post_same, none_changed, unchanged, wake_on}}}
use Rattle.exec_books.proofs.CountedTurns.{each_map}
use Rattle.exec_machine.specs.declared.state.Rest.TheVariants as rest

-- WHAT IT LEAVES

record Leaves (s late : Common) : Type 0 where
  pub seats : AllFirm s late
  pub tasks : (q : ℕ) → AllPatient q s.stopped s.tasks late.tasks
  pub stopped : late.stopped ≡ s.stopped

module _ (c : Configuration) (w : World) (late : Common) (left : Leaves w.common late) (held : StopsAll c w) where
  abbrev s : Common
  s = w.common

  firmly : (j : ℕ) → Firm (seat_of s j) (seat_of late j)
  firmly = left.seats.each

  before : (j : ℕ) → (seat_of late j).pool ≡ true → (seat_of s j).pool ≡ true
  before j pool = sym (firmly j).pool ∙ pool

  told_still : (j : ℕ) → (has_root_message (seat_of s j) || owes_root j (own_of w 0)) ≡ true → (has_root_message (seat_of late j) || owes_root j (own_of w 0)) ≡ true
  told_still j told = elim (or_cases (has_root_message (seat_of s j)) (owes_root j (own_of w 0)) told) [
    | inl posted ↦ or_left (has_root_message (seat_of late j)) (owes_root j (own_of w 0)) ((firmly j).told posted)
    | inr owes ↦ or_right (has_root_message (seat_of late j)) (owes_root j (own_of w 0)) owes
  ]

  stops_still : StopsAll c (record w { common = late })
  stops_still =
      record {
        pool = λ j pool. held.pool j (before j pool);
        zero = λ st. ap is_open (firmly 0).phase ∙ held.zero (sym left.stopped ∙ st);
        left = λ j pool gone. let was = held.left j (before j pool) (sym (firmly j).left ∙ gone) in (left.stopped ∙ was.0, ap is_open (firmly j).phase ∙ was.1);
        held = λ j waits. held.held j (held_before s late j (firmly j).pool (λ gone. sym (firmly j).left ∙ gone) (all_still s late (λ k pool. (before k pool, λ gone. (firmly k).left ∙ gone))) waits);
        shuts = λ j pool shuts. (firmly j).left ∙ held.shuts j (before j pool) shuts;
        shut = λ j pool shut. (firmly j).left ∙ held.shut j (before j pool) (sym (firmly j).shut ∙ shut);
        over = λ j pool over. (firmly j).left ∙ held.over j (before j pool) (ap has_ended (sym (firmly j).phase) ∙ over);
        sent = λ j through. held.sent j (through_still (firmly j) through);
        idle = λ j shut. held.idle j (ap is_open (sym (firmly j).phase) ∙ shut);
        roots = λ j pool some. ((left.tasks j).each (own_of w j).root).still (held.roots j (before j pool) some);
        closed = λ j pool some shut. ((left.tasks j).each (own_of w j).root).over (held.roots j (before j pool) some) (held.closed j (before j pool) some (ap is_open (sym (firmly j).phase) ∙ shut));
        told = λ j pool some st waits.
            let was = sym left.stopped ∙ st in
            told_still j (held.told j (before j pool) some was (((left.tasks j).each (own_of w j).root).told (held.roots j (before j pool) some) was waits));
      }

-- EACH STEP

beside : {s late : Common} → late.seats ≡ s.seats → late.tasks ≡ s.tasks → late.stopped ≡ s.stopped → Leaves s late
beside seats tasks stopped = record { seats = seats_same seats; tasks = λ q. none_changed tasks; stopped = stopped }

by_spawn : (s : Common) (k : ℕ) (e : Event) (j : ℕ) (choice : Choice) → Leaves s (common_by s (action.Spawn j k) e choice)
by_spawn s k (event.Spawn t script) j choice = record { seats = seats_same refl; tasks = λ q. one_more s.tasks (new_task (Script k) None); stopped = refl }
by_spawn s k e j choice = beside refl refl refl

post_stopped : (s : Common) (to : ℕ) (m : MailMessage) (choice : Choice) → (after_post s to m choice).stopped ≡ s.stopped
post_stopped = grind arith

by_wake : (s : Common) (t : ℕ) (e : Event) (j : ℕ) (choice : Choice) → Leaves s (common_by s (action.Wake j t) e choice)
by_wake s t (event.Wake other) j choice = record { seats = seats_same refl; tasks = λ q. wake_on s t; stopped = refl }
by_wake s t (event.Send to m) j choice = record { seats = firm_then (post_firm s to m choice) refl; tasks = λ q. none_changed (post_same s to m choice); stopped = post_stopped s to m choice }
by_wake s t e j choice = beside refl refl refl

-- a seat is as before, but for what has landed, whether it is busy, and that it is awake
by_seat : (s : Common) (k : ℕ) (y : Seat) → Firm (seat_of s k) y → Leaves s (record s { seats = set s.seats k y })
by_seat s k y same = record { seats = seat_set k y same; tasks = λ q. unchanged; stopped = refl }

by_going_on : (s : Common) (e : Event) (j : ℕ) → Leaves s (after_going_on s j e)
by_going_on s (event.Rouse other) j = by_seat s other (record (seat_of s other) { rest = rest.Awake }) (roused_firm (seat_of s other))
by_going_on s event.Return j = beside refl refl refl
by_going_on s e j = beside refl refl refl

rests_at : (clock : ℕ) (x : Seat) (r : Rest) → x.rest ≡ r → not (is_awake (roused_at clock x).rest) ≡ true → not (is_awake x.rest) ≡ true
rests_at = grind arith

by_clock : (s : Common) (d : ℕ) → Leaves s (after_clock s d)
by_clock s d =
    record {
      seats = record { each = each_map no_seat Firm (roused_at (s.clock + d)) (λ x. record { pool = refl; phase = refl; left = refl; shut = refl; rests = rests_at (s.clock + d) x x.rest refl; told = λ h. h }) firm s.seats };
      tasks = λ q. unchanged;
      stopped = refl;
    }

by_landing : (s : Common) (r : ℕ) (n : OpResult) → Leaves s (after_landing s r n)
by_landing s r n =
    let home = (request_of s r).worker in
    let y : Seat = record (seat_of s home) { landed = (seat_of s home).landed ++ r ∷ []; rest = rest.Awake } in
    record {
      seats = firm_then (seat_set {s = s} home y (record { pool = refl; phase = refl; left = refl; shut = refl; rests = λ h. absurd (false≢true h); told = λ h. h })) refl;
      tasks = λ q. unchanged;
      stopped = refl;
    }

leaves : (s : Common) (a : Action) (e : Event) (choice : Choice) → Leaves s (common_by s a e choice)
leaves s (action.Work i) e choice = beside refl refl refl
leaves s (action.Spawn j k) e choice = by_spawn s k e j choice
leaves s (action.Wake j t) e choice = by_wake s t e j choice
leaves s (action.GoOn j) e choice = by_going_on s e j
leaves s (action.Clock d) e choice = by_clock s d
leaves s (action.Land r n) e choice = by_landing s r n
leaves s (action.SetBusy i) e choice = by_seat s i (record (seat_of s i) { busy = true }) (record { pool = refl; phase = refl; left = refl; shut = refl; rests = λ h. h; told = λ h. h })
leaves s (action.EndPoll i) e choice = beside refl refl refl
leaves s (action.Stir i) e choice = by_seat s i (record (seat_of s i) { rest = rest.Awake }) (roused_firm (seat_of s i))
leaves s (action.Peer l) e choice = beside refl refl refl

pub stops_by_other : (c : Configuration) (w : World) (a : Action) (e : Event) (choice : Choice) → ((i : ℕ) → a ≡ Work i → ⊥) → StopsAll c w → StopsAll c (after_event c w a e choice)
stops_by_other c w (action.Work i) e choice other held = absurd (other i refl)
stops_by_other c w a e choice other held = stops_still c w (common_by w.common a e choice) (leaves w.common a e choice) held
