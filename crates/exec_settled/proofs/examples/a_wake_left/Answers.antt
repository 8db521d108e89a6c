use Rattle.std.{proofs.{Common.{◌≡◌, ℕ, true, false, [], ◌∷◌, None, refl, sym, ◌∙◌, ap, inl, inr}, lemmas.{Bool.{true≢false, false≢true}, Option.none-some}}, specs.Prelude.is_some}
use Rattle.exec_machine.specs.{declared.{config.Configuration.Configuration, state.RequestPhase.TheVariants.Resolved}, Deadlines.new_sleeper, Tests.{is_empty, is_open}, World.{no_open, seat_of}}
use Rattle.exec_outcomes.specs.declared.outcome.Outcome.TheVariants.{Success}
use Rattle.exec_moves.specs.{MailLogs.a_write, Seen.polls_at}
use Rattle.exec_rest.{specs.{Examples.{rested, two_waiting, with_a_latch, with_a_message, with_a_runnable}, Rested.{Someone, is_in_pool, place_at, sleeps}}, proofs.TwoAsleep.{nobody, place}}
use Rattle.exec_settled.{specs.{Examples.{its_root, sleeps_here, waits_here, with_permit, with_queue, with_root, with_sleeper, with_write}, Parked.{IsBeingWoken, IsHeldUp, IsParked, NobodySleepsOnWork}}, proofs.TwoAsleep.{calls, each, undisturbed}}
use Rattle.exec_machine.specs.declared.state.TaskPhase.TheVariants as phase
use Rattle.exec_settled.proofs.examples.a_wake_left.Goals as goal

abbrev two : Configuration
two = two_waiting.config

left : IsParked two rested 1
left = record { asleep = refl; left = undisturbed rested.world rested.things 1 }

unread : NobodySleepsOnWork two with_a_message → ⊥
unread it =
    let parked : IsParked two with_a_message 1 = record { asleep = refl; left = undisturbed with_a_message.world with_a_message.things 1 } in
    false≢true (ap is_empty (it.parked 1 refl parked).messages)

unrung : NobodySleepsOnWork two with_a_latch → ⊥
unrung it =
    let parked : IsParked two with_a_latch 1 = record { asleep = refl; left = undisturbed with_a_latch.world with_a_latch.things 1 } in
    true≢false (it.parked 1 refl parked).unsignalled

ungranted : NobodySleepsOnWork two with_permit → ⊥
ungranted it =
    let parked : IsParked two with_permit 1 = record { asleep = refl; left = undisturbed with_permit.world with_permit.things 1 } in
    true≢false ((it.parked 1 refl parked).requests 0 refl)

unled : NobodySleepsOnWork two (with_write (a_write 1) (record no_open { waiting = 0 ∷ [] })) → ⊥
unled it =
    let x = with_write (a_write 1) (record no_open { waiting = 0 ∷ [] }) in
    by (it.held_up 0 refl (record { asleep = refl; left = undisturbed x.world x.things 1 }))
  where
    by : IsHeldUp two (with_write (a_write 1) (record no_open { waiting = 0 ∷ [] })) 0 → ⊥
    by (IsHeldUp.WithKernel flying) = false≢true flying
    by (IsHeldUp.WaitsForPlace is full) = false≢true is
    by (IsHeldUp.WaitsForPermit h gated is apart going) = false≢true (ap is_some is)

unreleased : NobodySleepsOnWork two (with_write (record (a_write 1) { phase = Resolved Success }) no_open) → ⊥
unreleased it =
    let x = with_write (record (a_write 1) { phase = Resolved Success }) no_open in
    let parked : IsParked two x 1 = record { asleep = refl; left = undisturbed x.world x.things 1 } in
    true≢false ((it.parked 1 refl parked).requests 0 refl)

unheard : NobodySleepsOnWork two waits_here → ⊥
unheard it =
    let parked : IsParked two waits_here 1 = record { asleep = refl; left = undisturbed waits_here.world waits_here.things 1 } in
    elim ((it.parked 1 refl parked).came 1 0 (record { going = refl; waits = refl }) refl refl) [
      | inl runs ↦ false≢true runs
      | inr looks ↦ none-some 1 (sym (polls_none looks.0) ∙ ap polls_at looks.1)
    ]
  where
    polls_none : (j : ℕ) → polls_at (place_at two waits_here j) ≡ None
    polls_none = each (λ j. polls_at (place_at two waits_here j) ≡ None) refl refl (λ j. refl)

unwoken : NobodySleepsOnWork two sleeps_here → ⊥
unwoken it =
    let parked : IsParked two sleeps_here 1 = record { asleep = refl; left = undisturbed sleeps_here.world sleeps_here.things 1 } in
    elim ((it.parked 1 refl parked).fired 1 0 (record { going = refl; waits = refl }) refl refl) [
      | inl runs ↦ false≢true runs
      | inr looks ↦ none-some 1 (sym (polls_none looks.0) ∙ ap polls_at looks.1)
    ]
  where
    polls_none : (j : ℕ) → polls_at (place_at two sleeps_here j) ≡ None
    polls_none = each (λ j. polls_at (place_at two sleeps_here j) ≡ None) refl refl (λ j. refl)

unpolled : NobodySleepsOnWork two (with_root (record its_root { phase = phase.Queued })) → ⊥
unpolled it =
    let x = with_root (record its_root { phase = phase.Queued }) in
    let parked : IsParked two x 1 = record { asleep = refl; left = undisturbed x.world x.things 1 } in
    true≢false ((it.parked 1 refl parked).root 1 (record its_root { phase = phase.Queued }) refl refl).0

unseen : NobodySleepsOnWork two (with_root (record its_root { fresh = false })) → ⊥
unseen it =
    let x = with_root (record its_root { fresh = false }) in
    let parked : IsParked two x 1 = record { asleep = refl; left = undisturbed x.world x.things 1 } in
    false≢true ((it.parked 1 refl parked).root 1 (record its_root { fresh = false }) refl refl).1

unclosed : NobodySleepsOnWork two (with_root (record its_root { phase = phase.Done })) → ⊥
unclosed it =
    let x = with_root (record its_root { phase = phase.Done }) in
    let parked : IsParked two x 1 = record { asleep = refl; left = undisturbed x.world x.things 1 } in
    true≢false (it.parked 1 refl parked).stays

unfired : NobodySleepsOnWork two (with_sleeper (new_sleeper 0 1 1)) → ⊥
unfired it =
    let x = with_sleeper (new_sleeper 0 1 1) in
    let parked : IsParked two x 1 = record { asleep = refl; left = undisturbed x.world x.things 1 } in
    true≢false ((it.parked 1 refl parked).sleepers 0 refl)

unpicked : NobodySleepsOnWork two with_queue → ⊥
unpicked it =
    let parked : IsParked two with_queue 1 = record { asleep = refl; left = undisturbed with_queue.world with_queue.things 1 } in
    false≢true (ap is_empty (it.parked 1 refl parked).queue)

-- all of the pool sleep, and nobody looks for one
uncovered : NobodySleepsOnWork two with_a_runnable → ⊥
uncovered it = elim (it.pool at_work (λ none. false≢true (ap is_empty none))) [
  | inl owed ↦ nobody with_a_runnable place (calls with_a_runnable.world with_a_runnable.things) false≢true false≢true false≢true owed
  | inr (i, pool, inl awake) ↦ all_asleep i pool awake
  | inr (i, pool, inr woken) ↦ undisturbed with_a_runnable.world with_a_runnable.things i woken
]
  where
    at_work : (i : ℕ) → is_in_pool two with_a_runnable i ≡ true → is_open (seat_of with_a_runnable.world.common i).phase ≡ true
    at_work = each (λ i. is_in_pool two with_a_runnable i ≡ true → is_open (seat_of with_a_runnable.world.common i).phase ≡ true) (λ pool. refl) (λ pool. refl) (λ i pool. absurd (false≢true pool))

    all_asleep : (i : ℕ) → is_in_pool two with_a_runnable i ≡ true → sleeps two with_a_runnable i ≡ false → ⊥
    all_asleep = each (λ i. is_in_pool two with_a_runnable i ≡ true → sleeps two with_a_runnable i ≡ false → ⊥) (λ pool awake. true≢false awake) (λ pool awake. true≢false awake) (λ i pool awake. false≢true pool)

pub returns : goal.returns
returns c =
    record {
      left = left;
      signalled = λ b. IsBeingWoken.Signalled (Someone.Worker 0 refl);
      raised = λ b. IsBeingWoken.Raised false (Someone.Worker 0 refl);
      passed = λ b v. IsBeingWoken.Passed 0 (refl, refl, refl, (0, refl));
      handed = λ b v. IsBeingWoken.Handed (0, refl);
      unread = unread;
      unrung = unrung;
      ungranted = ungranted;
      unled = unled;
      unreleased = unreleased;
      unheard = unheard;
      unwoken = unwoken;
      unpolled = unpolled;
      unseen = unseen;
      unclosed = unclosed;
      unfired = unfired;
      unpicked = unpicked;
      uncovered = uncovered;
    }
