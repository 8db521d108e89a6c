-- What an event leaves of what its worker has to do next and of what it owes, and when the pool is stopped.
use Rattle.std.{proofs.{Common.{◌≡◌, ℕ, zero, suc, ◌<◌, ◌==◌, Bool, true, false, List, [], ◌∷◌, length, Option, Some, None, refl, sym, ap, ◌∙◌, subst, inl, inr, arith, get_or, set, if◌then◌else◌}, lemmas.{Bool.{true≢false, false≢true, and_parts, cases_Bool, eqb-true, not-true, or_cases}, List.get_or-set_same}}, specs.{Prelude.{◌⊎◌, drop, slice_get}, List.list_any}}
use Rattle.exec_outcomes.specs.declared.outcome.Outcome.{Outcome}
use Rattle.exec_machine.specs.{declared.{config.{Configuration.Configuration, ScriptWord.ScriptWord}, event.Event.{Event, Event as event}, state.{Letter.Letter, MailMessage.{MailMessage, TheVariants.Root, MailMessage as message}, Next.{Next, Next as next}, Operation.Operation, Waiting.Waiting}}, After.{common_after, own_after}, Allowed.Allowed, Choice.{Choice, Choice.{Passes, Posts}}, Closing.{after_next, with_closed_mailbox}, Deadlines.sampled_now, Mail.{after_post, after_sending, has_root_message, is_left_out, is_root_message, own_after_apply, own_after_letter, posted}, Requests.{asked_now, own_after_admit}, Same.{is_letter, is_none}, Tasks.{polls_waiting, woken}, Tests.{is_closing, set_seat}, Words.acts, World.{Common, Own as Books, Seat, Task, no_seat, no_task, seat_of, task_of}}
use Rattle.exec_rest.proofs.Others.{set_like}
use Rattle.exec_shutdown.{specs.Stopping.{is_waiting, owes_root, waits_for_wake}, proofs.{StoppingOwn.{alike, clears, is_to, over, pends}, StoppingSeats.{takes_root, turns}, StoppingTasks.not_waiting}}
use Rattle.exec_books.proofs.CountedSeats.{in_last, sending_same}

-- WHAT THE NEXT LINE HAS TO DO

abbrev is_shutting : Next → Bool
is_shutting next.ClosesMailbox = true
is_shutting _ = false

close_next : (zeroth pool : Bool) → pool ≡ true → is_shutting (if zeroth then next.ClosesQueue else if pool then next.Free else next.ClosesMailbox) ≡ false
close_next = grind arith

admit_next : (o : Operation) (outcome : Option Outcome) (r : ℕ) (me : Books) → is_shutting (own_after_admit o outcome r me).next ≡ true → is_shutting me.next ≡ true
admit_next = grind arith

shutting_is : (n : Next) → is_shutting n ≡ true → n ≡ next.ClosesMailbox
shutting_is = grind (arith, false≢true)

apply_next : (me : Books) (s : Common) (m : MailMessage) → (own_after_apply me s m).next ≡ me.next
apply_next = grind arith

sample_next : (s : Common) (me : Books) → (sampled_now s me).next ≡ me.next
sample_next s me = elim (cases_Bool me.serving) [ inl on ↦ rw on refl | inr off ↦ rw off refl ]

letter_next : (me : Books) → (own_after_letter me).next ≡ me.next
letter_next me = elim (cases_Bool (is_none me.polls)) [ inl out ↦ rw out refl | inr in_it ↦ rw in_it refl ]

module _ (c : Configuration) (me : Books) (s : Common) (i : ℕ) where
  -- to close its mailbox, only where it had to before, or as it passes the barrier
  pub next_then : (e : Event) (choice : Choice) → Allowed c me s i e choice → (seat_of s i).pool ≡ true → i < length s.seats → (own_after c me s i e choice).next ≡ next.ClosesMailbox
      → (me.next ≡ next.ClosesMailbox) ⊎ ((seat_of (common_after c me s i e choice) i).left ≡ true)
  next_then event.Turn Passes h pool here now = inr (ap (λ (seat : Seat). seat.left) (get_or-set_same s.seats i (record (seat_of s i) { left = true }) no_seat here))
  next_then event.Turn choice h pool here now = absurd (false≢true (ap is_shutting now))
  next_then event.Serve choice h pool here now = inl (sym (sample_next s me) ∙ now)
  next_then (event.Pend t) choice h pool here now = inl (sym (pends s i me t).next ∙ now)
  next_then (event.Done t) choice h pool here now = inl (sym (over s i me t).next ∙ now)
  next_then (event.Fault t n) choice h pool here now = inl (sym (over s i me t).next ∙ now)
  next_then (event.Clear t) choice h pool here now = inl (sym (clears s i me t).next ∙ now)
  next_then (event.Admit r kind outcome) choice h pool here now = inl (shutting_is me.next (admit_next (asked_now c me s) outcome r me (ap is_shutting now)))
  next_then (event.Send to m) choice h pool here now = inl (sym (letter_next me) ∙ now)
  next_then (event.Apply m) choice h pool here now = inl (sym (apply_next me s m) ∙ now)
  next_then event.Close choice h pool here now = absurd (true≢false (sym (ap is_shutting now) ∙ close_next (i == 0) (seat_of s i).pool pool))
  next_then e choice h pool here now = inl now

  next_left : (n : Next) → (seat_of (after_next s i n) i).left ≡ (seat_of s i).left
  next_left next.ClosesMailbox = set_like (λ x y. y.left ≡ x.left) (λ x. refl) s.seats i i (with_closed_mailbox (seat_of s i)) no_seat refl
  next_left _ = refl

  -- who passes the barrier closes its mailbox by the next line
  pub barred_then : (e : Event) (choice : Choice) → (seat_of s i).left ≡ false → (seat_of (common_after c me s i e choice) i).left ≡ true → turns e ≡ true → (own_after c me s i e choice).next ≡ next.ClosesMailbox
  barred_then event.Turn Passes early left is = refl
  barred_then event.Turn choice early left is = absurd (false≢true (sym early ∙ sym (next_left me.next) ∙ left))
  barred_then e choice early left is = absurd (false≢true is)

-- WHEN THE POOL IS STOPPED

abbrev is_stop : Event → Bool
is_stop event.Stop = true
is_stop _ = false

module _ (c : Configuration) (me : Books) (s : Common) (i : ℕ) where
  same_stopped : (e : Event) (choice : Choice) → is_stop e ≡ false → (common_after c me s i e choice).stopped ≡ s.stopped
  same_stopped = grind arith

  -- by worker zero, as it closes, or before
  pub stopped_then : (e : Event) (choice : Choice) → Allowed c me s i e choice → (common_after c me s i e choice).stopped ≡ true
      → (s.stopped ≡ true) ⊎ ((e ≡ event.Stop) × (i ≡ 0) × (is_closing (seat_of s i).phase ≡ true))
  stopped_then event.Stop choice h now = inr (refl, eqb-true i 0 h.1.0, h.1.1.0)
  stopped_then e choice h now = inl (sym (same_stopped e choice refl) ∙ now)

  pub stopped_still : (e : Event) (choice : Choice) → s.stopped ≡ true → (common_after c me s i e choice).stopped ≡ true
  stopped_still event.Stop choice st = refl
  stopped_still e choice st = same_stopped e choice refl ∙ st

-- WHO IS TOLD doesn't wait

pub woken_there : (xs : List Task) (t : ℕ) → is_waiting (get_or (set xs t (woken (get_or xs t no_task))) t no_task) ≡ false
woken_there [] t = refl
woken_there (x ∷ xs) zero = not_waiting x.phase (waits_for_wake x.waiting)
woken_there (x ∷ xs) (suc t) = woken_there xs t

pub root_woken : (c : Configuration) (me : Books) (s : Common) (i : ℕ) (e : Event) (choice : Choice) → takes_root e ≡ true → is_waiting (task_of (common_after c me s i e choice) me.root) ≡ false
root_woken c me s i (event.Apply message.Root) choice is = woken_there s.tasks me.root
root_woken c me s i e choice is = absurd (false≢true is)

-- A LETTER is owed until it is sent

first_or_rest : (q : ℕ) (xs : List Letter) → list_any (is_to q) xs ≡ true → (is_letter q Root (slice_get xs 0) ≡ true) ⊎ (list_any (is_to q) (drop 1 xs) ≡ true)
first_or_rest q [] h = absurd (false≢true h)
first_or_rest q (x ∷ xs) h = or_cases (is_to q x) (list_any (is_to q) xs) h

same_letter : (q to : ℕ) (m : MailMessage) (o : Option Letter) → is_letter q Root o ≡ true → is_letter to m o ≡ true → (to ≡ q) × (m ≡ Root)
same_letter = grind (arith, false≢true)

module _ (c : Configuration) (me : Books) (s : Common) (i : ℕ) where
  act_idle : (test : ScriptWord → Bool) → me.polls ≡ None → acts me s test ≡ true → ⊥
  act_idle = grind (arith, false≢true)

  wait_idle : (test : Waiting → Bool) → me.polls ≡ None → polls_waiting me s test ≡ true → ⊥
  wait_idle = grind (arith, false≢true)

  first_letter : (to : ℕ) (m : MailMessage) (choice : Choice) → me.polls ≡ None → Allowed c me s i (event.Send to m) choice → is_letter to m (slice_get me.owed 0) ≡ true
  first_letter = grind (arith, act_idle, wait_idle, false≢true, or_cases, and_parts)

  -- a message to a root is left out only where there is one
  left_out_there : (to : ℕ) (choice : Choice) → Allowed c me s i (event.Send to message.Root) choice → is_left_out choice ≡ true → has_root_message (seat_of s to) ≡ true
  left_out_there to (Posts payer true) h out = h.1.1.1.0
  left_out_there to choice h out = absurd (false≢true out)

-- it is there then
post_there : (s : Common) (to : ℕ) (choice : Choice) → to < length s.seats → (is_left_out choice ≡ true → has_root_message (seat_of s to) ≡ true) → has_root_message (seat_of (after_post s to message.Root choice) to) ≡ true
post_there s to choice within there = by (is_left_out choice) there
  where
    by : (b : Bool) → (b ≡ true → has_root_message (seat_of s to) ≡ true) → has_root_message (seat_of (if b then s else set_seat s to (posted message.Root (seat_of s to))) to) ≡ true
    by true there = there refl
    by false there =
        ap has_root_message (get_or-set_same s.seats to (posted message.Root (seat_of s to)) no_seat within) ∙ in_last is_root_message message.Root (seat_of s to).inbox refl

module _ (c : Configuration) (me : Books) (s : Common) (i q : ℕ) where
  abbrev Told : Event → Choice → Type 0
  Told e choice = (owes_root q (own_after c me s i e choice) ≡ true) ⊎ (has_root_message (seat_of (common_after c me s i e choice) q) ≡ true)

  -- it is sent, or another one before it
  sends : (to : ℕ) (m : MailMessage) (choice : Choice) → Allowed c me s i (event.Send to m) choice → q < length s.seats → owes_root q me ≡ true → me.polls ≡ None → Told (event.Send to m) choice
  sends to m choice h within owes idle = elim (first_or_rest q me.owed owes) [
    | inr rest ↦ inl (rw (letter_owed idle) rest)
    | inl first ↦
        let is = same_letter q to m (slice_get me.owed 0) first (first_letter c me s i to m choice idle h) in
        inr (root_sent to m choice is.0 is.1 h)
  ]
    where
      letter_owed : me.polls ≡ None → (own_after_letter me).owed ≡ drop 1 me.owed
      letter_owed idle = rw idle refl

      root_sent : (to : ℕ) (m : MailMessage) (choice : Choice) → to ≡ q → m ≡ Root → Allowed c me s i (event.Send to m) choice → has_root_message (seat_of (common_after c me s i (event.Send to m) choice) q) ≡ true
      root_sent to message.Root choice at is h =
          let sent = after_sending s me.polls message.Root in
          let same : sent.seats ≡ s.seats = sending_same s me.polls message.Root in
          subst (λ n. has_root_message (seat_of (after_post sent to message.Root choice) n) ≡ true) at
          (post_there sent to choice (let long = ap length same in omega (arith, within, long, at)) (λ out. ap (λ seats. has_root_message (get_or seats to no_seat)) same ∙ left_out_there c me s i to choice h out))
      root_sent to m choice at is h = absurd (true≢false (ap is_root_message (sym is)))

  pub owes_then : (e : Event) (choice : Choice) → Allowed c me s i e choice → s.stopped ≡ true → q < length s.seats → owes_root q me ≡ true → Told e choice
  owes_then (event.Begin t) choice h st within owes = inl owes
  owes_then (event.Pend t) choice h st within owes = inl ((pends s i me t).owing q owes)
  owes_then (event.Done t) choice h st within owes = inl ((over s i me t).owing q owes)
  owes_then (event.Fault t n) choice h st within owes = inl ((over s i me t).owing q owes)
  owes_then (event.Clear t) choice h st within owes = inl ((clears s i me t).owing q owes)
  owes_then (event.Send to m) choice h st within owes = by me.polls refl
    where
      by : (polls : Option ℕ) → me.polls ≡ polls → Told (event.Send to m) choice
      by None idle = sends to m choice h within owes idle
      by (Some t) polls = inl (rw polls owes)
  owes_then event.Stop choice h st within owes = absurd (true≢false (sym st ∙ not-true s.stopped h.1.1.1.0))
  owes_then e choice h st within owes = inl (ap (list_any (is_to q)) (alike c me s i e choice refl).0 ∙ owes)
