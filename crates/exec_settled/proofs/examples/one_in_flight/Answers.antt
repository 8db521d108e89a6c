use Rattle.std.{proofs.{Common.{◌≡◌, ℕ, zero, suc, ◌<◌, ◌||◌, Bool, true, false, [], None, unwrap_or, refl, sym, ap, subst, ◌∙◌, arith}, lemmas.{Bool.{true≢false, false≢true}, Option.none-some}}, specs.Prelude.slice_get}
use Rattle.exec_machine.specs.{declared.{config.Configuration.Configuration, state.{Forwarding.Forwarding, Waiting.{Waiting, Waiting as waiting}}}, Progress.{is_request_unfinished, is_runnable}, Tests.{is_closing, is_done, is_gated, is_landed, is_open, is_resolved, is_staged}, World.{Common, no_task, request_of, seat_of, task_of}}
use Rattle.exec_moves.specs.{Call.no_call, Plays.desk_of, State.queue_of, Told.has_number}
use Rattle.exec_books.{specs.{Booked.AreLinedUp, Examples.{its_own, one_asleep, one_send}, Listed.AreListed}, proofs.Listed.no_listed}
use Rattle.exec_rest.{proofs.First.of_equal, specs.Rested.sleeps}
use Rattle.exec_settled.{specs.{Given.{IsWaitedFor, WaitsFor}, Parked.{HasEnteredAll, HasNoneInHand, HasNothingToDo, IsHeldUp, IsParked}}, proofs.AwaitedTasks.is_for_thing}
use Rattle.exec_settled.proofs.examples.one_in_flight.Goals as goal

abbrev c : Configuration
c = one_send.config

abbrev s : Common
s = one_asleep.world.common

-- what is so of the one there is, and of all numbers past it
each : (P : ℕ → Type 0) → P 0 → ((i : ℕ) → P (suc i)) → (i : ℕ) → P i
each P here past zero = here
each P here past (suc i) = past i

-- ITS ROOT waits for its send, which isn't over, and nobody for a sleeper

abbrev number_of : Waiting → ℕ
number_of (waiting.Request k) = k
number_of _ = 0

abbrev is_for_sleeper : Waiting → Bool
is_for_sleeper (waiting.Timer z) = true
is_for_sleeper _ = false

abbrev is_sent : Forwarding → Bool
is_sent Forwarding.Sent = true
is_sent _ = false

of_the_send : (P : ℕ → ℕ → Type 0) → P 0 0 → (t k : ℕ) → WaitsFor s t (waiting.Request k) → P t k
of_the_send P here = each (λ t. (k : ℕ) → WaitsFor s t (waiting.Request k) → P t k)
    (λ k w. subst (P 0) (ap number_of w.waits) here) (λ t k w. absurd (false≢true (ap is_for_thing w.waits)))

flies : {T : Type 0} (t k : ℕ) → WaitsFor s t (waiting.Request k) → is_resolved (request_of s k).phase ≡ true → T
flies t k w over = absurd (false≢true (sym (of_the_send (λ t k. is_resolved (request_of s k).phase ≡ false) refl t k w) ∙ over))

none_slept : {T : Type 0} (t z : ℕ) → WaitsFor s t (waiting.Timer z) → T
none_slept t z w = absurd (false≢true (sym (each (λ t. is_for_sleeper (task_of s t).waiting ≡ false) refl (λ t. refl) t) ∙ ap is_for_sleeper w.waits))

idle : HasNothingToDo c one_asleep 0
idle =
    record {
      unsignalled = refl;
      messages = refl;
      queue = refl;
      root = λ t it there home. (
        sym (ap (λ o. is_runnable (unwrap_or o no_task).phase) there) ∙ each (λ t. is_runnable (unwrap_or (slice_get s.tasks t) no_task).phase ≡ false) refl (λ t. refl) t,
        sym (ap (λ o. is_done (unwrap_or o no_task).phase || (unwrap_or o no_task).fresh) there)
            ∙ each (λ t. let it = unwrap_or (slice_get s.tasks t) no_task in (is_done it.phase || it.fresh) ≡ true) refl (λ t. refl) t,
      );
      stays = refl;
      requests = λ k own. each (λ k. is_request_unfinished c one_asleep.world k (request_of s k) ≡ false) refl (λ k. refl) k;
      sleepers = λ z own. refl;
      came = λ t k w own. flies t k w;
      fired = λ t z w. none_slept t z w;
    }

pub returns-clause-parked : goal.returns-clause-parked
returns-clause-parked _ =
    record {
      parked = each (λ i. is_open (seat_of s i).phase ≡ true → IsParked c one_asleep i → HasNothingToDo c one_asleep i) (λ opened it. idle) (λ i opened. absurd (false≢true opened));
      closing = λ i closes. absurd (false≢true (sym (each (λ i. is_closing (seat_of s i).phase ≡ false) refl (λ i. refl) i) ∙ closes));
      held_up = each (λ k. is_resolved (request_of s k).phase ≡ false → IsParked c one_asleep (request_of s k).worker → IsHeldUp c one_asleep k) (λ going it. IsHeldUp.WithKernel refl) (λ k going. absurd (true≢false going));
      entered = each (λ i. sleeps c one_asleep i ≡ true → HasEnteredAll c one_asleep i)
          (λ asleep. record { requests = λ k own. each (λ k. (is_staged (request_of s k).phase ≡ false) × (is_landed (request_of s k).phase ≡ false)) (refl, refl) (λ k. (refl, refl)) k; cancels = refl })
          (λ i asleep. absurd (false≢true asleep));
      hands = λ i off. each (HasNoneInHand c one_asleep) (record { hand = refl; loot = refl; aside = refl }) (λ i. record { hand = refl; loot = refl; aside = refl }) i;
      calls = λ j out. of_equal (λ d. d.hand ≡ None) 16 j no_call no_call refl refl;
      bare = λ i other. each (λ i. (queue_of one_asleep.things i).values ≡ []) refl (λ i. refl) i;
      pool = λ opened some. absurd (some refl);
    }

listed : AreListed one_asleep.world
listed zero =
    record { queued = λ h. absurd (false≢true h); landed_in = λ h. absurd (false≢true h); unenrolled = λ h. absurd (true≢false h); cancels = λ h. absurd (false≢true h); over = λ h. absurd (false≢true h) }
listed (suc k) = no_listed its_own [] (suc k)

lined_up : AreLinedUp one_asleep.world
lined_up zero = record { durable = λ h. absurd (false≢true h); waits = λ h there. absurd (false≢true h); has = λ h gated over there. absurd (false≢true h) }
lined_up (suc k) = record { durable = λ h. absurd (false≢true h); waits = λ h there. absurd (false≢true h); has = λ h gated over there. absurd (false≢true h) }

not_gated : {T : Type 0} (k : ℕ) → is_gated (request_of s k).phase ≡ true → T
not_gated k h = absurd (false≢true (sym (each (λ k. is_gated (request_of s k).phase ≡ false) refl (λ k. refl) k) ∙ h))

pub returns-clause-unforgotten : goal.returns-clause-unforgotten
returns-clause-unforgotten _ =
    let lt : 0 < 1 = omega arith in
    record {
      listed = listed;
      lined_up = lined_up;
      there = λ k h. not_gated k h;
      led = λ file none. refl;
      permitted = record { passed = λ file k there gives. absurd (none-some k there); granted = λ k h holds. not_gated k h };
      waits = record { requests = of_the_send (IsWaitedFor s) (record { there = lt; waiter = refl; observed = refl; takes_mail = refl }); sleepers = λ t z w. none_slept t z w };
      sent = λ k is. absurd (false≢true (sym (each (λ k. is_sent (request_of s k).forwarding ≡ false) refl (λ k. refl) k) ∙ ap is_sent is));
      sent_too = λ z is. absurd (false≢true (ap is_sent is));
      awaited =
          record {
            here = λ t k w how going. of_the_send (λ t k. has_number k (desk_of c one_asleep (request_of s k).worker).awaited ≡ true) refl t k w;
            woken = λ t k w how. flies t k w;
            fired = λ t z w. none_slept t z w;
            answered = λ t k w how. flies t k w;
            alarmed = λ t z w. none_slept t z w;
          };
    }

pub returns-clause-untold : goal.returns-clause-untold
returns-clause-untold _ = λ it. true≢false (it.entered 0 refl).cancels
