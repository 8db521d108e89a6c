-- Where all workers sleep nothing is unfinished.
use Rattle.std.{proofs.{Common.{◌≡◌, ℕ, ◌<◌, ◌==◌, ◌&&◌, ◌||◌, true, false, not, length, None, ◌∙◌, refl, sym, ap, subst, arith, inl, inr}, lemmas.{Bool.{true≢false, false≢true, and_parts, cases_Bool}, List.get_or_past, Option.{get_or_from_slice_get, slice_get_cases}}}, specs.{Prelude.nat_lt, List.{list_all, list_any}}}
use Rattle.exec_machine.specs.{declared.{config.Configuration.Configuration, state.{Forwarding.{Forwarding, Forwarding as forwarding}, MailMessage.{MailMessage, MailMessage as message}, Request.Request, Waiting.{Waiting, Waiting as waiting}, WorkerPhase.WorkerPhase}}, Deadlines.is_due, Progress.{IsRightlyAsleep, NothingUnfinished, all_asleep, has_come, has_to_close, is_request_unfinished, is_runnable, is_task_unfinished, sleeps_for_nothing}, Ranges.ring_size, Same.{is_none, is_number, same_message}, Tests.{has_ended, is_awake, is_closing, is_done, is_open, is_resolved}, World.{Common, Task, no_task, open_of, own_of, request_of, seat_of, sleeper_of, task_of}}
use Rattle.exec_moves.specs.{declared.{handing.Heard.Heard, place.Place.Place}, Plays.{Playing, desk_of}}
use Rattle.exec_settled.{proofs.{Undone.{eight, not_all, false_from_ne_true}, Parked.{need_not_close, no_number, request_done, runs_on}, Resting.{cancels_done, nobody_hands, nobody_looks, nobody_passes, nobody_wakes, over_of, over_phase, sleeper_done, told}}, specs.{Awaited.{IsAwaited, IsToBeWoken, IsToHear}, Given.{IsGiven, WaitsFor}, Parked.{IsBeingWoken, IsParked}, Permits.IsPermitted, Settled.IsSettled}}
use Rattle.exec_books.specs.Booked.{IsBooked, IsUnderWay}
use Rattle.exec_rest.{specs.{AtRest.{IsAtRest, IsPlaced, RestsWell, stays_closing}, Rested.{IsRestful, place_at, sleeps}}, proofs.Rest.{down, unraised, unsignalled}}

waits_there : (p : Place) → stays_closing p ≡ true → stays_closing p ≡ true
waits_there = grind (arith, false≢true)

not_both : (p : WorkerPhase) → is_open p ≡ true → has_ended p ≡ true → ⊥
not_both = grind arith

timeless : (i clock : ℕ) (it : Request) → it.timer ≡ None → is_due i clock it ≡ false
timeless i clock it none = elim (cases_Bool (it.worker == i)) [ inl own ↦ rw (own, none) refl | inr other ↦ rw other refl ]

-- who waits for nothing that has come is done for now
waiting_done : (s : Common) (t : Task) → is_runnable t.phase ≡ false → (is_done t.phase || t.fresh) ≡ true → (is_done t.phase ≡ false → has_come s t.waiting ≡ false) → is_task_unfinished s t ≡ false
waiting_done = grind arith

module _ (c : Configuration) (x : Playing) (placed : IsPlaced c x) (given : IsGiven c x) (held : IsRestful c x) (rests : RestsWell c x) (booked : IsBooked x.world) (settled : IsSettled c x)
    (permitted : IsPermitted c x) (awaited : IsAwaited c x) where
  abbrev s : Common
  s = x.world.common

  module _ (all : all_asleep x.world ≡ true) where
    -- A REQUEST

    unwoken : (i : ℕ) → IsBeingWoken c x i → ⊥
    unwoken i (IsBeingWoken.Signalled signalled) = unsignalled c x held all i signalled
    unwoken i (IsBeingWoken.Raised ring raised) = unraised c x held all i ring raised
    unwoken i (IsBeingWoken.Passed k (own, gated, holds, passes)) = nobody_passes c x placed held booked settled all passes.0 (request_of s k).operation.target passes.1
    unwoken i (IsBeingWoken.Handed handed) = nobody_hands c x placed held booked settled all handed.0 i handed.1

    parked : (i : ℕ) → sleeps c x i ≡ true → IsParked c x i
    parked i asleep = record { asleep = asleep; left = unwoken i }

    of_ended : (k : ℕ) → has_ended (seat_of s (request_of s k).worker).phase ≡ true → is_request_unfinished c x.world k (request_of s k) ≡ false
    of_ended k over =
        let it = request_of s k in
        let is = over_of c x placed held booked settled all it.worker over k refl in
        let p = over_phase it.phase is.0 in
        eight _ _ _ _ _ _ _ _
        (ap (λ b. b && is_number k (open_of s it.operation.target).holder) p.gated)
        (ap (λ b. b && not it.cancelled && nat_lt (own_of x.world it.worker).in_flight (ring_size c)) p.queued)
        p.staged p.landed
        (ap (λ b. not b && not it.cancelled && is_none it.timer && not (is_none it.operation.deadline)) is.0)
        (ap (λ b. b && it.cancelled && not it.cancel_staged) p.in_flight)
        (false_from_ne_true _ (λ h. false≢true (sym (ap not is.1) ∙ (and_parts (is_resolved it.phase) (not it.released) h).1)))
        (timeless it.worker s.clock it (booked.timed k is.0))

    request_finished : (k : ℕ) → is_request_unfinished c x.world k (request_of s k) ≡ false
    request_finished k = elim (down c x held all (request_of s k).worker) [
      | inl over ↦ of_ended k over
      | inr asleep ↦ request_done c x placed given held booked settled permitted k (parked (request_of s k).worker asleep.1)
    ]

    -- A TASK

    rested : IsAtRest c x
    rested = rests all

    -- not to be polled, nor in a poll
    still : (t : ℕ) → is_runnable (task_of s t).phase ≡ false
    still t = elim ((slice_get_cases s.tasks t).1) [
      | inl found ↦ subst (λ (it : Task). is_runnable it.phase ≡ false) (sym (get_or_from_slice_get s.tasks t found.0 no_task found.2)) (rested.tasks t found.0 found.2)
      | inr gone ↦ subst (λ (it : Task). is_runnable it.phase ≡ false) (sym (get_or_past s.tasks t no_task gone.0)) refl
    ]

    fresh : (t : ℕ) → (is_done (task_of s t).phase || (task_of s t).fresh) ≡ true
    fresh t = elim ((slice_get_cases s.tasks t).1) [
      | inl found ↦ subst (λ (it : Task). (is_done it.phase || it.fresh) ≡ true) (sym (get_or_from_slice_get s.tasks t found.0 no_task found.2)) (rested.woken t found.0 found.2)
      | inr gone ↦ subst (λ (it : Task). (is_done it.phase || it.fresh) ≡ true) (sym (get_or_past s.tasks t no_task gone.0)) refl
    ]

    no_wake : (i t : ℕ) → i < length x.desks → IsToBeWoken c x i t → ⊥
    no_wake i t within (inl runs) = true≢false (sym runs ∙ still t)
    no_wake i t within (inr wakes) = no_number t (desk_of c x i).wakes (told c x placed held booked settled all i within).wakes wakes

    no_news : (i t : ℕ) (of : Heard) → IsToHear c x i t of → ⊥
    no_news i t of (inl wakes) = nobody_wakes c x placed held booked settled all i t of wakes.0 wakes.1
    no_news i t of (inr (inl ready)) = true≢false (sym (runs_on (task_of s t).phase ready) ∙ still t)
    no_news i t of (inr (inr looks)) = nobody_looks c x placed held booked settled all looks.0 t looks.1

    no_message : (m : MailMessage) (i : ℕ) → (seat_of s i).mailbox_closed ≡ false → IsUnderWay m (seat_of s i) → ⊥
    no_message m i takes (inl there) = false≢true (subst (λ l. list_any (same_message m) l ≡ true) (rested.messages i) there)
    no_message m i takes (inr shut) = true≢false (sym shut ∙ takes)

    -- what is of another worker and came was told of there, or is under way there, or its worker told
    not_so : (m : MailMessage) (j t : ℕ) (f : Forwarding) → (seat_of s j).mailbox_closed ≡ false → j < length x.desks → (f ≡ forwarding.Unsent → IsToBeWoken c x j t) → (f ≡ forwarding.Sent → IsUnderWay m (seat_of s j)) → (f ≡ forwarding.Applied → ⊥) → ⊥
    not_so m j t forwarding.Unsent takes within woken sent told = no_wake j t within (woken refl)
    not_so m j t forwarding.Sent takes within woken sent told = no_message m j takes (sent refl)
    not_so m j t forwarding.Applied takes within woken sent told = told refl

    -- who waits for a request waits for one that isn't over
    no_request_came : (t k : ℕ) → WaitsFor s t (waiting.Request k) → is_resolved (request_of s k).phase ≡ true → ⊥
    no_request_came t k waits over =
        let within : (request_of s k).worker < length x.desks = omega (arith, booked.requests k (given.waits.requests t k waits).there, placed.laid.desks) in
        not_so (message.ForwardRequest k) (request_of s k).worker t (request_of s k).forwarding (given.waits.requests t k waits).takes_mail within (λ is. awaited.woken t k waits is over) (booked.sent k)
        (λ is. elim (awaited.answered t k waits is over) [
          | inl result ↦ no_number k _ (told c x placed held booked settled all (request_of s k).worker within).results result
          | inr sent ↦ no_news _ t (Heard.Request k) sent.1
        ])

    no_sleeper_came : (t z : ℕ) → WaitsFor s t (waiting.Timer z) → (sleeper_of s z).fired ≡ true → ⊥
    no_sleeper_came t z waits over =
        let within : (sleeper_of s z).worker < length x.desks = omega (arith, booked.sleepers z (given.waits.sleepers t z waits).there, placed.laid.desks) in
        not_so (message.ForwardTimer z) (sleeper_of s z).worker t (sleeper_of s z).forwarding (given.waits.sleepers t z waits).takes_mail within (λ is. awaited.fired t z waits is over) (booked.sent_too z)
        (λ is. elim (awaited.alarmed t z waits is over) [
          | inl completion ↦ no_number z _ (told c x placed held booked settled all (sleeper_of s z).worker within).completions completion
          | inr sent ↦ no_news _ t (Heard.Timer z) sent.1
        ])

    not_come : (t : ℕ) (what : Waiting) → (task_of s t).waiting ≡ what → is_done (task_of s t).phase ≡ false → has_come s what ≡ false
    not_come t (waiting.Request k) is going = false_from_ne_true _ (no_request_came t k (record { going = going; waits = is }))
    not_come t (waiting.Timer z) is going = false_from_ne_true _ (no_sleeper_came t z (record { going = going; waits = is }))
    not_come t waiting.Nothing is going = refl
    not_come t waiting.Wake is going = refl
    not_come t waiting.Woken is going = refl
    not_come t waiting.Yielded is going = refl

    task_finished : (t : ℕ) → is_task_unfinished s (task_of s t) ≡ false
    task_finished t = waiting_done s (task_of s t) (still t) (fresh t) (not_come t (task_of s t).waiting refl)

    -- A WORKER that is open has a root that isn't over
    closed_by : (i : ℕ) → has_to_close x.world i (seat_of s i) ≡ false
    closed_by i = elim (down c x held all i) [
      | inl over ↦ false_from_ne_true _ (λ h. not_both (seat_of s i).phase (and_parts (is_open (seat_of s i).phase) (is_done (task_of s (own_of x.world i).root).phase) h).0 over)
      | inr asleep ↦ need_not_close c x placed given held booked settled permitted i (parked i asleep.1)
    ]

    nothing : NothingUnfinished c x.world
    nothing =
        record {
          tasks = task_finished;
          messages = rested.messages;
          requests = request_finished;
          sleepers = sleeper_done c x placed held booked settled all;
          cancels = cancels_done c x placed held booked settled all;
          workers = closed_by;
        }

  -- a closing worker that sleeps waits on its ring, with a request that isn't over
  closing : (i : ℕ) → sleeps_for_nothing s i (seat_of s i) ≡ false
  closing i = false_from_ne_true _ (λ h.
      let seat = seat_of s i in
      let every = and_parts (is_closing seat.phase && not (is_awake seat.rest)) (list_all (λ r. not (r.worker == i) || is_resolved r.phase) s.requests) h in
      let both = and_parts (is_closing seat.phase) (not (is_awake seat.rest)) every.0 in
      let there = given.closing i both.0 (held.abed i both.1) in
      false≢true (sym (not_all i s.requests (settled.busy i (waits_there (place_at c x i) there))) ∙ every.1))

  pub rightly : IsRightlyAsleep c x.world
  rightly = record { asleep = nothing; closing = closing }
