-- Each line of a run keeps the books.
use Rattle.std.proofs.{Common.{◌≡◌, ℕ, zero, suc, Bool, true, false, not, ◌&&◌, length, refl, sym, ap, ◌∙◌, get_or, arith}, lemmas.Bool.{true≢false, false≢true, and_parts, not-true}}
use Rattle.exec_machine.specs.{declared.{config.Configuration.Configuration, event.{Event.Event, StepResult.{StepResult, TheVariants.{Refused, Did}}}, state.Forwarding.{Forwarding, TheVariants.Sent}, step.Action.{Action, TheVariants.Work}}, After.after, Allowed.Allowed, Callers.{is_enabled, is_held}, Choice.Choice, Progress.{Plan, begin}, Run.{Follows, after_line, first_owns}, Tasks.new_seat, Tests.{has_ended, is_asleep, is_awake}, World.{Seat, World, no_open, no_own, no_seat, no_sleeper, own_of, seat_of}}
use Rattle.exec_books.{specs.{Listed.is_in, Booked.{FirstIsOwn, IsBooked, IsLed}}, proofs.{Listed.no_listed, Own.own_by_mail, Standing.listed_then, Counted.{counted_then, flying_then, let_go_then, over_then, requests_then, sleepers_then, timed_then, undated_then, untold_then}, Led.opens_led, Lined.lined_up_then, Mailed.{sent_then, sent_too_then}, Dues.dues_then, Others.booked_by_other}}
use Rattle.exec_rest.proofs.{FactsA.seated, First.of_equal}

-- THE FIRST STATE: no worker has anything, and each is awake

first_own : (n from i : ℕ) → ((get_or (first_owns n from) i no_own).unreleased ≡ 0) × ((get_or (first_owns n from) i no_own).in_flight ≡ 0) × ((k : ℕ) → is_in k (get_or (first_owns n from) i no_own).untold ≡ false)
first_own zero from i = (refl, refl, λ k. refl)
first_own (suc n) from zero = (refl, refl, λ k. refl)
first_own (suc n) from (suc i) = first_own n (suc from) i

nobody_asleep : (i : ℕ) → is_asleep i no_sleeper ≡ false
nobody_asleep = grind arith

abbrev is_sent : Forwarding → Bool
is_sent Sent = true
is_sent _ = false

pub first_booked : (p : Plan) → IsBooked (begin p)
first_booked p =
    record {
      listed = λ k. no_listed (own_of (begin p) 0) (seat_of (begin p).common 0).landed k;
      lined_up = λ k. record { durable = λ gated. absurd (false≢true gated); waits = λ gated within. absurd (false≢true gated); has = λ durable gated over within. absurd (true≢false over) };
      led = λ file. of_equal IsLed p.config.files file no_open no_open (λ none. refl) (λ none. refl);
      timed = λ k over. refl;
      undated = λ k file. absurd (false≢true file);
      let_go = λ k released. refl;
      counted = λ i. (first_own p.config.workers 0 i).0;
      flying = λ i. (first_own p.config.workers 0 i).1;
      untold = λ i k h. absurd (false≢true (sym ((first_own p.config.workers 0 i).2 k) ∙ h));
      over = λ i h. ((first_own p.config.workers 0 i).0, λ z. nobody_asleep i);
      requests = λ k within. absurd (omega (arith, within));
      sleepers = λ z within. absurd (omega (arith, within));
      sent = λ k sent. absurd (false≢true (ap is_sent sent));
      sent_too = λ z sent. absurd (false≢true (ap is_sent sent));
      dues = λ i asleep. absurd (true≢false (sym (of_equal (λ (seat : Seat). is_awake seat.rest ≡ true) p.config.workers i (new_seat true) no_seat refl refl) ∙ asleep));
    }

-- AN EVENT OF A WORKER, which is awake and has not ended

booked_by_work : (c : Configuration) (w : World) (i : ℕ) (e : Event) (choice : Choice) → length w.workers ≡ length w.common.seats → FirstIsOwn w.common i → is_enabled w.common (Work i) ≡ true
    → Allowed c (own_of w i) w.common i e choice → IsBooked w → IsBooked (after c w i e choice)
booked_by_work c w i e choice owns first enabled may held =
    let s = w.common in
    let seat = seat_of s i in
    let tests = and_parts (is_awake seat.rest) (not (has_ended seat.phase)) (and_parts (is_awake seat.rest && not (has_ended seat.phase)) (not (is_held s seat)) enabled).0 in
    let here = seated s (λ x. not (has_ended x.phase)) true false≢true i tests.1 in
    let own = own_by_mail c (own_of w i) s i e choice first may in
    record {
      listed = listed_then c w i e choice owns here may own held;
      lined_up = lined_up_then c w i e choice owns here may own held;
      led = λ file. opens_led c (own_of w i) s i e choice may file (held.led file);
      timed = timed_then c w i e choice owns here may own held;
      undated = undated_then c w i e choice owns here may own held;
      let_go = let_go_then c w i e choice owns here may own held;
      counted = counted_then c w i e choice owns here may own held;
      flying = flying_then c w i e choice owns here may own held;
      untold = untold_then c w i e choice owns here may own held;
      over = over_then c w i e choice owns here may own held (not-true (has_ended seat.phase) tests.1);
      requests = requests_then c w i e choice owns here may own held;
      sleepers = sleepers_then c w i e choice owns here may own held;
      sent = sent_then c w i e choice owns here may own held;
      sent_too = sent_too_then c w i e choice owns here may own held;
      dues = dues_then c w i e choice owns here tests.0 may own held;
    }

abbrev is_work : Action → Bool
is_work (Work i) = true
is_work _ = false

pub booked_then : (c : Configuration) (w : World) (a : Action) (said : StepResult) (choice : Choice) → length w.workers ≡ length w.common.seats → ((i : ℕ) → FirstIsOwn w.common i) → Follows c w a said choice
    → IsBooked w → IsBooked (after_line c w a said choice)
booked_then c w a Refused choice owns first follows held = held
booked_then c w (Work i) (Did e) choice owns first follows held = booked_by_work c w i e choice owns (first i) follows.0 follows.1 held
booked_then c w a (Did e) choice owns first follows held = booked_by_other c w a e choice (λ i is. false≢true (ap is_work is)) follows.0 held
