-- Each line of a run lets a stop come to each worker of the pool.
use Rattle.std.{proofs.{Common.{◌≡◌, ◌≢◌, ℕ, zero, suc, ◌<◌, ◌+◌, Bool, true, false, not, ◌&&◌, ◌||◌, List, [], ◌∷◌, ◌++◌, length, Some, None, refl, sym, ap, ◌∙◌, subst, inl, inr, arith, get_or, replicate}, lemmas.{Bool.{true≢false, false≢true, and_parts, cases_eq, false_from_ne_true, not-true, or_cases, or_left, or_right}, List.{get_or_append_left, get_or-set_other, length-set}}}, specs.Prelude.◌⊎◌}
use Rattle.exec_machine.specs.{declared.{config.Configuration.Configuration, event.{Event.{Event, Event as event}, StepResult.{StepResult, TheVariants.{Refused, Did}}}, state.{Next.Next, TaskPhase.TaskPhase}, step.Action.{Action, TheVariants.Work}}, After.{after, made_by, own_after}, Allowed.Allowed, Callers.{is_enabled, is_held}, Choice.Choice, Mail.has_root_message, Progress.{Plan, begin}, Run.{Follows, after_line, first_owns, first_tasks}, Tasks.new_seat, Tests.{all_left, has_ended, is_awake, is_closing, is_done, is_idle, is_open}, World.{Common, Own as Books, Seat, Task, World, no_own, no_seat, no_task, own_of, seat_of, task_of}}
use Rattle.exec_rest.proofs.{FactsA.seated, First.of_equal}
use Rattle.exec_shutdown.{specs.Stopping.{StopsAll, WaitsForStop, is_running, is_waiting, owes_root, waits_for_wake}, proofs.{StoppingOthers.stops_by_other, StoppingOwn.{begins, begins_open, letters_there, owes_nothing, polls_none, rests_owing, root_stays}, StoppingSeats.{Sits, all_still, closes, closing_shut, goes_to_rest, held_before, is_through, seats_after}, StoppingSteps.{barred_then, next_then, owes_then, root_woken, stopped_still, stopped_then}, StoppingTasks.{Patient, tasks_after}}}
use Rattle.exec_books.proofs.CountedOwn.{own_own}
use Rattle.exec_machine.specs.declared.state.Next.TheVariants as next

-- OWN PARTS OF OTHERS

-- a worker that is made has nothing to do, as nobody has
record Still (x y : Books) : Type 0 where
  pub owed : y.owed ≡ x.owed
  pub polls : y.polls ≡ x.polls
  pub next : y.next ≡ x.next

made_still : (s : Common) (e : Event) (n : ℕ) → Still no_own (get_or (made_by s e) n no_own)
made_still = grind arith

more_still : (xs more : List Books) → ((n : ℕ) → Still no_own (get_or more n no_own)) → (j : ℕ) → Still (get_or xs j no_own) (get_or (xs ++ more) j no_own)
more_still [] more each j = each j
more_still (x ∷ xs) more each zero = record { owed = refl; polls = refl; next = refl }
more_still (x ∷ xs) more each (suc j) = more_still xs more each j

other_still : (c : Configuration) (w : World) (i : ℕ) (e : Event) (choice : Choice) (j : ℕ) → j ≢ i → Still (own_of w j) (own_of (after c w i e choice) j)
other_still = grind (arith, get_or-set_other, more_still, made_still)

-- one that was there is the same
own_apart : (c : Configuration) (w : World) (i j : ℕ) (e : Event) (choice : Choice) → j ≢ i → j < length w.workers → own_of (after c w i e choice) j ≡ own_of w j
own_apart = grind (arith, get_or_append_left, length-set, get_or-set_other)

-- who is over doesn't wait
done_waits : (p : TaskPhase) (b : Bool) → is_done p ≡ true → (is_idle p || (is_running p && b)) ≡ true → ⊥
done_waits = grind (arith, true≢false, false≢true)

through_by : (awake ended gone : Bool) → awake ≡ true → ended ≡ false → (not awake || ended || gone) ≡ true → gone ≡ true
through_by = grind arith

-- AN EVENT OF A WORKER

module _ (c : Configuration) (w : World) (i : ℕ) (e : Event) (choice : Choice) (owns : length w.workers ≡ length w.common.seats) (here : i < length w.common.seats)
    (awake : is_awake (seat_of w.common i).rest ≡ true) (live : has_ended (seat_of w.common i).phase ≡ false) (free : is_held w.common (seat_of w.common i) ≡ false) (may : Allowed c (own_of w i) w.common i e choice) (held : StopsAll c w) where
  abbrev late : World
  late = after c w i e choice

  abbrev s : Common
  s = w.common

  abbrev me : Books
  me = own_of w i

  abbrev mine : Books
  mine = own_after c me s i e choice

  sits : (j : ℕ) → Sits me s i e j (seat_of s j) (seat_of late.common j)
  sits j = (seats_after c me s i e choice may).each j

  own_here : own_of late i ≡ mine
  own_here = own_own c w i e choice (omega (arith, owns, here))

  pool_before : (j : ℕ) → (seat_of late.common j).pool ≡ true → (seat_of s j).pool ≡ true
  pool_before j pool = sym (sits j).pool ∙ pool

  -- who is of the pool was there before
  there : (j : ℕ) → (seat_of late.common j).pool ≡ true → j < length s.seats
  there j pool = seated s (λ seat. seat.pool) true false≢true j (pool_before j pool)

  root_same : (j : ℕ) → j < length s.seats → (own_of late j).root ≡ (own_of w j).root
  root_same j within = elim (cases_eq j i) [
    | inl is ↦ rw is (ap (λ (x : Books). x.root) own_here ∙ root_stays c me s i e choice)
    | inr apart ↦ ap (λ (x : Books). x.root) (own_apart c w i j e choice apart (omega (arith, owns, within)))
  ]

  first_seat : 0 < length s.seats
  first_seat = omega (arith, here)

  zero_then : late.common.stopped ≡ true → is_open (seat_of late.common 0).phase ≡ false
  zero_then st = (sits 0).shut_still first_seat (was (stopped_then c me s i e choice may st))
    where
      was : (s.stopped ≡ true) ⊎ ((e ≡ event.Stop) × (i ≡ 0) × (is_closing (seat_of s i).phase ≡ true)) → is_open (seat_of s 0).phase ≡ false
      was (inl before) = held.zero before
      was (inr is) = subst (λ n. is_open (seat_of s n).phase ≡ false) is.1 (closing_shut (seat_of s i).phase is.2)

  left_then : (j : ℕ) → (seat_of late.common j).pool ≡ true → (seat_of late.common j).left ≡ true → (late.common.stopped ≡ true) × (is_open (seat_of late.common j).phase ≡ false)
  left_then j pool left = elim ((sits j).left left) [
    | inl before ↦
        let was = held.left j (pool_before j pool) before in (stopped_still c me s i e choice was.0, (sits j).shut_still (there j pool) was.1)
    | inr is ↦ (stopped_still c me s i e choice is.1, (sits j).shut_still (there j pool) is.2)
  ]

  all_then : all_left s ≡ true → all_left late.common ≡ true
  all_then = all_still s late.common (λ j pool. (pool_before j pool, (sits j).left_still (there j pool)))

  held_then : (j : ℕ) → is_held late.common (seat_of late.common j) ≡ true → (own_of late j).next ≡ next.ClosesMailbox
  held_then j waits = elim (cases_eq j i) [
    | inl is ↦ ap (λ n. (own_of late n).next) is ∙ ap (λ (x : Books). x.next) own_here ∙ own (subst (λ n. is_held late.common (seat_of late.common n) ≡ true) is waits)
    | inr apart ↦ (other_still c w i e choice j apart).next ∙ held.held j (held_before s late.common j (sits j).pool (λ left. elim ((sits j).left left) [ inl before ↦ before | inr is ↦ absurd (apart is.0) ]) all_then waits)
  ]
    where
      -- it was not held before, so it passes the barrier by this line
      own : is_held late.common (seat_of late.common i) ≡ true → mine.next ≡ next.ClosesMailbox
      own waits =
          let seat = seat_of late.common i in
          let left = (and_parts seat.pool seat.left (and_parts (seat.pool && seat.left) (not (all_left late.common)) waits).0).1 in
          let early = false_from_ne_true (seat_of s i).left (λ before. false≢true (sym free ∙ held_before s late.common i (sits i).pool (λ left. before) all_then waits)) in
          elim ((sits i).left left) [ inl before ↦ absurd (false≢true (sym early ∙ before)) | inr is ↦ barred_then c me s i e choice early left is.3 ]

  shuts_then : (j : ℕ) → (seat_of late.common j).pool ≡ true → (own_of late j).next ≡ next.ClosesMailbox → (seat_of late.common j).left ≡ true
  shuts_then j pool now = elim (cases_eq j i) [
    | inl is ↦ subst (λ n. (seat_of late.common n).left ≡ true) (sym is) (own (subst (λ n. (seat_of s n).pool ≡ true) is (pool_before j pool)) (sym (ap (λ (x : Books). x.next) own_here) ∙ subst (λ n. (own_of late n).next ≡ next.ClosesMailbox) is now))
    | inr apart ↦ (sits j).left_still (there j pool) (held.shuts j (pool_before j pool) (sym (other_still c w i e choice j apart).next ∙ now))
  ]
    where
      own : (seat_of s i).pool ≡ true → mine.next ≡ next.ClosesMailbox → (seat_of late.common i).left ≡ true
      own pool now = elim (next_then c me s i e choice may pool here now) [ inl before ↦ (sits i).left_still here (held.shuts i pool before) | inr passed ↦ passed ]

  shut_then : (j : ℕ) → (seat_of late.common j).pool ≡ true → (seat_of late.common j).mailbox_closed ≡ true → (seat_of late.common j).left ≡ true
  shut_then j pool shut = (sits j).left_still (there j pool) (was ((sits j).mailbox shut))
    where
      was : ((seat_of s j).mailbox_closed ≡ true) ⊎ ((j ≡ i) × (me.next ≡ next.ClosesMailbox)) → (seat_of s j).left ≡ true
      was (inl before) = held.shut j (pool_before j pool) before
      was (inr is) = held.shuts j (pool_before j pool) (ap (λ n. (own_of w n).next) is.0 ∙ is.1)

  over_then : (j : ℕ) → (seat_of late.common j).pool ≡ true → has_ended (seat_of late.common j).phase ≡ true → (seat_of late.common j).left ≡ true
  over_then j pool over = (sits j).left_still (there j pool) (was ((sits j).ended over))
    where
      was : (has_ended (seat_of s j).phase ≡ true) ⊎ ((j ≡ i) × ((seat_of s j).mailbox_closed ≡ true)) → (seat_of s j).left ≡ true
      was (inl before) = held.over j (pool_before j pool) before
      was (inr is) = held.shut j (pool_before j pool) is.1

  idle_then : (j : ℕ) → is_open (seat_of late.common j).phase ≡ false → (own_of late j).polls ≡ None
  idle_then j shut = by ((sits j).shut shut)
    where
      own : begins e ≡ false → me.polls ≡ None → j ≡ i → (own_of late j).polls ≡ None
      own other none is = ap (λ n. (own_of late n).polls) is ∙ ap (λ (x : Books). x.polls) own_here ∙ polls_none c me s i e choice other none

      no_close : (e : Event) → closes e ≡ true → begins e ≡ false
      no_close event.Close is = refl
      no_close e is = absurd (false≢true is)

      no_begin : (b : Bool) → begins e ≡ b → is_open (seat_of s i).phase ≡ false → begins e ≡ false
      no_begin true is shut = absurd (false≢true (sym shut ∙ begins_open c me s i e choice may is))
      no_begin false is shut = is

      by : (is_open (seat_of s j).phase ≡ false) ⊎ ((j ≡ i) × (closes e ≡ true) × (me.polls ≡ None) × (is_done (task_of s me.root).phase ≡ true)) → (own_of late j).polls ≡ None
      by (inr is) = own (no_close e is.1) is.2 is.0
      by (inl before) = elim (cases_eq j i) [
        | inl is ↦ let shut = subst (λ n. is_open (seat_of s n).phase ≡ false) is before in own (no_begin (begins e) refl shut) (held.idle i shut) is
        | inr apart ↦ (other_still c w i e choice j apart).polls ∙ held.idle j before
      ]

  sent_then : (j : ℕ) → is_through (seat_of late.common j) ≡ true → (own_of late j).owed ≡ []
  sent_then j through = by ((sits j).through through)
    where
      own : mine.owed ≡ [] → j ≡ i → (own_of late j).owed ≡ []
      own none is = ap (λ n. (own_of late n).owed) is ∙ ap (λ (x : Books). x.owed) own_here ∙ none

      passed : is_through (seat_of s i) ≡ true → mine.owed ≡ []
      passed before =
          let seat = seat_of s i in
          let gone = and_parts seat.pool seat.left (through_by (is_awake seat.rest) (has_ended seat.phase) (seat.pool && seat.left) awake live before) in
          let was = held.left i gone.0 gone.1 in
          owes_nothing c me s i e choice may (held.idle i was.1) (held.sent i before) was.0 gone.1

      by : (is_through (seat_of s j) ≡ true) ⊎ ((j ≡ i) × (goes_to_rest e ≡ true) × (me.owed ≡ [])) → (own_of late j).owed ≡ []
      by (inr is) = own (rests_owing c me s i e choice is.1 ∙ is.2) is.0
      by (inl before) = elim (cases_eq j i) [
        | inl is ↦ own (passed (subst (λ n. is_through (seat_of s n) ≡ true) is before)) is
        | inr apart ↦ (other_still c w i e choice j apart).owed ∙ held.sent j before
      ]

  -- THE ROOT of a worker of the pool

  module _ (j : ℕ) (pool : (seat_of late.common j).pool ≡ true) (some : j ≢ 0) where
    abbrev t : ℕ
    t = (own_of w j).root

    root_before : WaitsForStop j (task_of s t)
    root_before = held.roots j (pool_before j pool) some

    turns : Patient j s.stopped (task_of s t) (task_of late.common t)
    turns = (tasks_after c me s i j e choice may).each t

    at_root : (P : Task → Type 0) → P (task_of late.common t) → P (task_of late.common (own_of late j).root)
    at_root P h = subst (λ n. P (task_of late.common n)) (sym (root_same j (there j pool))) h

    roots_then : WaitsForStop j (task_of late.common (own_of late j).root)
    roots_then = at_root (WaitsForStop j) (turns.still root_before)

    done_before : is_open (seat_of s j).phase ≡ false → is_done (task_of s t).phase ≡ true
    done_before = held.closed j (pool_before j pool) some

    closed_then : is_open (seat_of late.common j).phase ≡ false → is_done (task_of late.common (own_of late j).root).phase ≡ true
    closed_then shut = at_root (λ x. is_done x.phase ≡ true) (turns.over root_before (was ((sits j).shut shut)))
      where
        was : (is_open (seat_of s j).phase ≡ false) ⊎ ((j ≡ i) × (closes e ≡ true) × (me.polls ≡ None) × (is_done (task_of s me.root).phase ≡ true)) → is_done (task_of s t).phase ≡ true
        was (inl before) = done_before before
        was (inr is) = ap (λ n. is_done (task_of s (own_of w n).root).phase) is.0 ∙ is.3

    abbrev IsTold : Type 0
    IsTold = (has_root_message (seat_of late.common j) || owes_root j (own_of late 0)) ≡ true

    by_mail : has_root_message (seat_of late.common j) ≡ true → IsTold
    by_mail has = or_left (has_root_message (seat_of late.common j)) (owes_root j (own_of late 0)) has

    by_letter : owes_root j (own_of late 0) ≡ true → IsTold
    by_letter owes = or_right (has_root_message (seat_of late.common j)) (owes_root j (own_of late 0)) owes

    told_then : late.common.stopped ≡ true → is_waiting (task_of late.common (own_of late j).root) ≡ true → IsTold
    told_then st waits_late = by (stopped_then c me s i e choice may st)
      where
        waits : is_waiting (task_of late.common t) ≡ true
        waits = subst (λ n. is_waiting (task_of late.common n) ≡ true) (root_same j (there j pool)) waits_late

        waits_before : s.stopped ≡ true → is_waiting (task_of s t) ≡ true
        waits_before before = turns.told root_before before waits

        not_shut : s.stopped ≡ true → is_open (seat_of s j).phase ≡ false → ⊥
        not_shut before shut = done_waits (task_of s t).phase (waits_for_wake (task_of s t).waiting) (done_before shut) (waits_before before)

        -- a message was there
        has : s.stopped ≡ true → has_root_message (seat_of s j) ≡ true → IsTold
        has before posted = elim ((sits j).told posted) [
          | inl still ↦ by_mail still
          | inr is ↦ elim is.1 [
            | inl shut ↦ absurd (not_shut before shut)
            | inr later ↦ elim later [
              | inl shuts ↦ absurd (not_shut before (held.left j (pool_before j pool) (held.shuts j (pool_before j pool) (ap (λ n. (own_of w n).next) is.0 ∙ shuts))).1)
              | inr takes ↦ absurd (true≢false (sym waits ∙ ap (λ n. is_waiting (task_of late.common (own_of w n).root)) is.0 ∙ root_woken c me s i e choice takes))
            ]
          ]
        ]

        -- worker zero had yet to send it
        owed : s.stopped ≡ true → owes_root j (own_of w 0) ≡ true → IsTold
        owed before owes = elim (cases_eq i 0) [
          | inl is ↦ elim (owes_then c me s i j e choice may before (there j pool) (subst (λ n. owes_root j (own_of w n) ≡ true) (sym is) owes)) [
            | inl still ↦ by_letter (subst (λ n. owes_root j (own_of late n) ≡ true) is (ap (owes_root j) own_here ∙ still))
            | inr posted ↦ by_mail posted
          ]
          | inr apart ↦ by_letter (ap (owes_root j) (own_apart c w i 0 e choice (λ is. apart (sym is)) (omega (arith, owns, first_seat))) ∙ owes)
        ]

        stops : e ≡ event.Stop → i ≡ 0 → IsTold
        stops is first =
            let letters : owes_root j mine ≡ true = subst (λ x. owes_root j (own_after c me s i x choice) ≡ true) (sym is) (letters_there c me j some (held.pool j (pool_before j pool))) in
            by_letter (subst (λ n. owes_root j (own_of late n) ≡ true) first (ap (owes_root j) own_here ∙ letters))

        by : (s.stopped ≡ true) ⊎ ((e ≡ event.Stop) × (i ≡ 0) × (is_closing (seat_of s i).phase ≡ true)) → IsTold
        by (inr is) = stops is.0 is.1
        by (inl before) = elim (or_cases (has_root_message (seat_of s j)) (owes_root j (own_of w 0)) (held.told j (pool_before j pool) some before (waits_before before))) [
          | inl posted ↦ has before posted
          | inr owes ↦ owed before owes
        ]

  stops_by_event : StopsAll c late
  stops_by_event =
      record {
        pool = λ j pool. held.pool j (pool_before j pool);
        zero = zero_then;
        left = left_then;
        held = held_then;
        shuts = shuts_then;
        shut = shut_then;
        over = over_then;
        sent = sent_then;
        idle = idle_then;
        roots = roots_then;
        closed = closed_then;
        told = told_then;
      }

-- THE FIRST STATE: the pool isn't stopped, each worker is open, and each root but the first waits

pooled_first : (n i : ℕ) → (get_or (replicate n (new_seat true)) i no_seat).pool ≡ true → i < n
pooled_first zero i pool = absurd (false≢true pool)
pooled_first (suc n) zero pool = omega arith
pooled_first (suc n) (suc i) pool = let less = pooled_first n i pool in omega (arith, less)

own_first : (n from i : ℕ) → ((get_or (first_owns n from) i no_own).owed ≡ []) × ((get_or (first_owns n from) i no_own).polls ≡ None) × ((get_or (first_owns n from) i no_own).next ≡ next.Free)
own_first zero from i = (refl, refl, refl)
own_first (suc n) from zero = (refl, refl, refl)
own_first (suc n) from (suc i) = own_first n (suc from) i

root_first : (n from i : ℕ) → i < n → (get_or (first_owns n from) i no_own).root ≡ from + i
root_first zero from i within = absurd (omega (arith, within))
root_first (suc n) from zero within = omega arith
root_first (suc n) from (suc i) within = let next = root_first n (suc from) i (omega (arith, within)) in omega (arith, next)

task_first : (n from i k : ℕ) → k ≡ from + i → k ≢ 0 → i < n → WaitsForStop k (get_or (first_tasks n from) i no_task)
task_first zero from i k is some within = absurd (omega (arith, within))
task_first (suc n) zero zero k is some within = absurd (some (omega (arith, is)))
task_first (suc n) (suc from) zero k is some within = record { home = ap Some (let same : suc from ≡ k = omega (arith, is) in same); code = refl; held = refl; waits = refl }
task_first (suc n) from (suc i) k is some within = task_first n (suc from) i k (omega (arith, is)) some (omega (arith, within))

abbrev is_free : Next → Bool
is_free next.Free = true
is_free _ = false

-- what holds of each worker that begins
begins_so : (p : Plan) (P : Seat → Type 0) → P (new_seat true) → P no_seat → (i : ℕ) → P (seat_of (begin p).common i)
begins_so p P here past i = of_equal P p.config.workers i (new_seat true) no_seat here past

pub first_stops : (p : Plan) → StopsAll p.config (begin p)
first_stops p =
    record {
      pool = pooled_first p.config.workers;
      zero = λ st. absurd (false≢true st);
      left = λ i pool left. absurd (begins_so p (λ seat. seat.pool ≡ true → seat.left ≡ true → ⊥) (λ pool left. false≢true left) (λ pool left. false≢true pool) i pool left);
      held = λ i waits. let never = begins_so p (λ seat. (seat.pool && seat.left && not (all_left (begin p).common)) ≡ false) refl refl i in absurd (false≢true (sym never ∙ waits));
      shuts = λ i pool shuts. absurd (true≢false (sym (ap is_free (own_first p.config.workers 0 i).2) ∙ ap is_free shuts));
      shut = λ i pool shut. absurd (begins_so p (λ seat. seat.pool ≡ true → seat.mailbox_closed ≡ true → ⊥) (λ pool shut. false≢true shut) (λ pool shut. false≢true pool) i pool shut);
      over = λ i pool over. absurd (begins_so p (λ seat. seat.pool ≡ true → has_ended seat.phase ≡ true → ⊥) (λ pool over. false≢true over) (λ pool over. false≢true pool) i pool over);
      sent = λ i through. (own_first p.config.workers 0 i).0;
      idle = λ i shut. (own_first p.config.workers 0 i).1;
      roots = waits;
      closed = λ i pool some shut. absurd (begins_so p (λ seat. seat.pool ≡ true → is_open seat.phase ≡ false → ⊥) (λ pool shut. true≢false shut) (λ pool shut. false≢true pool) i pool shut);
      told = λ i pool some st waits. absurd (false≢true st);
    }
  where
    waits : (i : ℕ) → (seat_of (begin p).common i).pool ≡ true → i ≢ 0 → WaitsForStop i (task_of (begin p).common (own_of (begin p) i).root)
    waits i pool some =
        let within = pooled_first p.config.workers i pool in
        let root : (own_of (begin p) i).root ≡ i = let it = root_first p.config.workers 0 i within in omega (arith, it) in
        subst (λ t. WaitsForStop i (task_of (begin p).common t)) (sym root) (task_first p.config.workers 0 i i (omega arith) some within)

-- EACH LINE

stops_by_work : (c : Configuration) (w : World) (i : ℕ) (e : Event) (choice : Choice) → length w.workers ≡ length w.common.seats → is_enabled w.common (Work i) ≡ true → Allowed c (own_of w i) w.common i e choice
    → StopsAll c w → StopsAll c (after c w i e choice)
stops_by_work c w i e choice owns enabled may held =
    let seat = seat_of w.common i in
    let both = and_parts (is_awake seat.rest && not (has_ended seat.phase)) (not (is_held w.common seat)) enabled in
    let tests = and_parts (is_awake seat.rest) (not (has_ended seat.phase)) both.0 in
    let here = seated w.common (λ x. not (has_ended x.phase)) true false≢true i tests.1 in
    stops_by_event c w i e choice owns here tests.0 (not-true (has_ended seat.phase) tests.1) (not-true (is_held w.common seat) both.1) may held

abbrev is_work : Action → Bool
is_work (Work i) = true
is_work _ = false

pub stops_then : (c : Configuration) (w : World) (a : Action) (said : StepResult) (choice : Choice) → length w.workers ≡ length w.common.seats → Follows c w a said choice
    → StopsAll c w → StopsAll c (after_line c w a said choice)
stops_then c w a Refused choice owns follows held = held
stops_then c w (Work i) (Did e) choice owns follows held = stops_by_work c w i e choice owns follows.0 follows.1 held
stops_then c w a (Did e) choice owns follows held = stops_by_other c w a e choice (λ i is. false≢true (ap is_work is)) held
