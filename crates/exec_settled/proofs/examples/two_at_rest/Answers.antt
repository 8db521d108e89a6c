use Rattle.std.{proofs.{Common.{◌≡◌, ℕ, Bool, true, false, length, [], None, refl, sym, ap, ◌∙◌}, lemmas.{Bool.{true≢false, false≢true}, Option.none-some}}, specs.Prelude.slice_get}
use Rattle.exec_machine.specs.{declared.state.{Forwarding.Forwarding, Next.Next, Waiting.{Waiting, Waiting as waiting}}, Progress.{has_to_close, is_cancel_untold, is_task_unfinished, sleeps_for_nothing}, Tests.{is_closing, is_done, is_open}, World.{Common, open_of, own_of, seat_of, task_of}}
use Rattle.exec_moves.specs.{Call.no_call, Plays.desk_of, Seen.{next_at, polls_at}, Slots.is_in_slots, State.gate_of}
use Rattle.exec_rest.{specs.{Examples.{rested, two_waiting}, Places.{is_abed, is_to_sleep_on_ring}, Rested.{is_latched, place_at}, AtRest.stays_closing}, proofs.{First.of_equal, TwoAsleep.{at_rest, queue}}}
use Rattle.exec_books.specs.{Booked.AreLinedUp, Listed.AreListed}
use Rattle.exec_settled.{specs.{Awaited.IsAwaited, Permits.IsPermitted, Given.{IsGiven, WaitsFor, ends_in_search, in_line, passes_at}, Parked.{HasNoneInHand, HasNothingToDo}, Settled.{HasSubmitted, HasTold, ends_ring_wait}}, proofs.{AwaitedTasks.is_for_thing, TwoAsleep.{each, is_at, not_at}}}
use Rattle.exec_settled.proofs.examples.two_at_rest.Goals as goal

abbrev s : Common
s = rested.world.common

nobody : {T : Type 0} (t : ℕ) (what : Waiting) → is_for_thing what ≡ true → WaitsFor s t what → T
nobody t what some w = absurd (false≢true (sym (each (λ t. is_for_thing (task_of s t).waiting ≡ false) refl refl (λ t. refl) t) ∙ ap is_for_thing w.waits ∙ some))

-- lists and holders that aren't computed yet would be compared step by step
given : IsGiven two_waiting.config rested
given =
    let workers : length rested.world.workers ≡ 2 = refl in let seats : length s.seats ≡ 2 = refl in
    let gates : length rested.things.gates ≡ 0 = refl in let opens : length s.opens ≡ 0 = refl in
    let holder : (file : ℕ) → (open_of s file).holder ≡ None = λ file. refl in
    let first : (file : ℕ) → slice_get (in_line s (gate_of rested.things file)) 0 ≡ None = λ file. refl in
    record {
      owns = workers ∙ sym seats;
      gates = gates ∙ sym opens;
      polls = λ i. each (λ i. (own_of rested.world i).polls ≡ None) refl refl (λ i. refl) i ∙ sym (is_at polls_at None refl refl i);
      nexts = λ i. each (λ i. (own_of rested.world i).next ≡ Next.Free) refl refl (λ i. refl) i ∙ sym (is_at next_at Next.Free refl refl i);
      first = λ i m there. absurd (none-some m (sym (each (λ i. slice_get (seat_of s i).inbox 0 ≡ None) refl refl (λ i. refl) i) ∙ there));
      at_gate = λ file n k there. absurd (none-some k there);
      behind = λ file n k there. absurd (none-some k there);
      joins = λ i t k h. absurd (none-some t (sym (is_at polls_at None refl refl i) ∙ ap polls_at h));
      holder = λ file. holder file ∙ sym (first file);
      passes = λ i file h. absurd (none-some file (sym (is_at passes_at None refl refl i) ∙ h));
      gated = λ k h. absurd (false≢true h);
      waits = record { requests = λ t k. nobody t (waiting.Request k) refl; sleepers = λ t z. nobody t (waiting.Timer z) refl };
      slots = λ k h. absurd (true≢false h);
      beds = λ i z h. absurd (false≢true (sym (each (λ i. is_in_slots z (desk_of two_waiting.config rested i).timers ≡ false) refl refl (λ i. refl) i) ∙ h));
      back = is_at ends_in_search false refl refl;
      past = λ i. not_at stays_closing refl refl i;
      closing = λ i h. absurd (false≢true (sym (each (λ i. is_closing (seat_of s i).phase ≡ false) refl refl (λ i. refl) i) ∙ h));
      roots = each (λ i. is_open (seat_of s i).phase ≡ true → is_abed (place_at two_waiting.config rested i) ≡ true → is_done (task_of s (own_of rested.world i).root).phase ≡ false)
          (λ opened abed. refl) (λ opened abed. refl) (λ i opened. absurd (false≢true opened));
    }

done : (i : ℕ) → HasTold (own_of rested.world i) (desk_of two_waiting.config rested i) × HasSubmitted two_waiting.config (own_of rested.world i)
done =
    each (λ i. HasTold (own_of rested.world i) (desk_of two_waiting.config rested i) × HasSubmitted two_waiting.config (own_of rested.world i))
    (record { wakes = refl; outputs = refl; ended = refl; completions = refl; results = refl }, record { unenrolled = refl; cancels = refl; unstaged = refl })
    (record { wakes = refl; outputs = refl; ended = refl; completions = refl; results = refl }, record { unenrolled = refl; cancels = refl; unstaged = refl })
    (λ i. (record { wakes = refl; outputs = refl; ended = refl; completions = refl; results = refl }, record { unenrolled = refl; cancels = refl; unstaged = refl }))

permitted : IsPermitted two_waiting.config rested
permitted = record { passed = λ file k there gives. absurd (none-some k there); granted = λ k h holds. absurd (false≢true h) }

awaited : IsAwaited two_waiting.config rested
awaited =
    record {
      here = λ t k. nobody t (waiting.Request k) refl;
      woken = λ t k. nobody t (waiting.Request k) refl;
      fired = λ t z. nobody t (waiting.Timer z) refl;
      answered = λ t k. nobody t (waiting.Request k) refl;
      alarmed = λ t z. nobody t (waiting.Timer z) refl;
    }

abbrev is_sent : Forwarding → Bool
is_sent Forwarding.Sent = true
is_sent _ = false

listed : AreListed rested.world
listed k =
    record {
      queued = λ h. absurd (false≢true h);
      landed_in = λ h. absurd (false≢true h);
      unenrolled = λ h. absurd (true≢false h);
      cancels = λ h. absurd (false≢true h);
      over = λ h. absurd (false≢true h);
    }

lined_up : AreLinedUp rested.world
lined_up k = record { durable = λ h. absurd (false≢true h); waits = λ h there. absurd (false≢true h); has = λ h gated over there. absurd (false≢true h) }

idle : (i : ℕ) → HasNothingToDo two_waiting.config rested i
idle i =
    record {
      unsignalled = each (λ i. is_latched two_waiting.config rested i ≡ false) refl refl (λ i. refl) i;
      messages = each (λ i. (seat_of s i).inbox ≡ []) refl refl (λ i. refl) i;
      queue = queue i;
      root = λ t it there home. (at_rest.tasks t it there, at_rest.woken t it there);
      stays = each (λ i. has_to_close rested.world i (seat_of s i) ≡ false) refl refl (λ i. refl) i;
      requests = λ k own. refl;
      sleepers = λ z own. refl;
      came = λ t k waits. nobody t (waiting.Request k) refl waits;
      fired = λ t z waits. nobody t (waiting.Timer z) refl waits;
    }

pub returns : goal.returns
returns c =
    record {
      given = given;
      settled =
          record {
            told = λ i h. (done i).0;
            submitted = λ i h. (done i).1;
            free = λ i h. refl;
            busy = λ i. not_at stays_closing refl refl i;
            entered = λ i. not_at is_to_sleep_on_ring refl refl i;
            entered_then = λ i asleep. not_at ends_ring_wait refl refl i;
            landed = λ i asleep. not_at ends_ring_wait refl refl i;
          };
      permitted = permitted;
      awaited = awaited;
      asleep =
          record {
            asleep = λ all. record {
              tasks = each (λ t. is_task_unfinished s (task_of s t) ≡ false) refl refl (λ t. refl);
              messages = each (λ i. (seat_of s i).inbox ≡ []) refl refl (λ i. refl);
              requests = λ r. refl;
              sleepers = λ z. refl;
              cancels = each (λ i. is_cancel_untold s (own_of rested.world i) ≡ false) refl refl (λ i. refl);
              workers = each (λ i. has_to_close rested.world i (seat_of s i) ≡ false) refl refl (λ i. refl);
            };
            closing = each (λ i. sleeps_for_nothing s i (seat_of s i) ≡ false) refl refl (λ i. refl);
          };
      parked =
          record {
            parked = λ i opened it. idle i;
            closing = λ i closes. absurd (false≢true (sym (each (λ i. is_closing (seat_of s i).phase ≡ false) refl refl (λ i. refl) i) ∙ closes));
            held_up = λ k going. absurd (true≢false going);
            entered = λ i asleep. record { requests = λ k own. (refl, refl); cancels = each (λ i. is_cancel_untold s (own_of rested.world i) ≡ false) refl refl (λ i. refl) i };
            hands = λ i off. each (HasNoneInHand two_waiting.config rested) (record { hand = refl; loot = refl; aside = refl }) (record { hand = refl; loot = refl; aside = refl }) (λ i. record { hand = refl; loot = refl; aside = refl }) i;
            calls = λ j out. of_equal (λ d. d.hand ≡ None) 16 j no_call no_call refl refl;
            bare = λ i other. queue i;
            pool = λ opened some. absurd (some refl);
          };
      unforgotten = record { listed = listed; lined_up = lined_up; there = λ k h. absurd (false≢true h); led = λ file none. refl; permitted = permitted; waits = given.waits; sent = λ k is. absurd (false≢true (ap is_sent is)); sent_too = λ z is. absurd (false≢true (ap is_sent is)); awaited = awaited };
    }
