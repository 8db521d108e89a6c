-- The global queue is closed only once the task set is: at first, and after each step of any party. Only worker zero has to close the queue
-- next, and it does so by the very event that closes the set; the set stays closed.
use Rattle.std.{proofs.{Common.{◌≡◌, ℕ, zero, suc, ◌==◌, Bool, true, false, ◌||◌, ◌&&◌, List, [], ◌∷◌, ◌++◌, Option, Some, None, get_or, set, refl, sym, ap, ◌∙◌, inl, inr, arith}, lemmas.Bool.{false≢true, cases_Bool, or_left}}, specs.Prelude.{◌⊎◌, if◌then◌else◌}}
use Rattle.exec_machine.specs.{declared.{config.Configuration.Configuration, event.Event.{Event, Event as event}, state.{MailMessage.MailMessage, Next.Next, Waiting.Waiting}, step.Action.Action}, After.{common_after, made_by, own_after}, Callers.{after_going_on, after_spawn_by_call, after_wake_by_call}, Choice.Choice, Closing.{after_clear, after_next, ends_by_clear}, Mail.{after_message, after_post, after_sending, is_left_out, is_root_message, own_after_apply}, Progress.Plan, Requests.own_after_drop, Run.first_owns, Tasks.{after_pend, after_wake, after_word, own_after_drops, own_after_over, own_after_waking_up, owes}, World.{Common, Own as Books, no_own, own_of, request_of, task_of}}
use Rattle.exec_moves.specs.{Plays.{Playing, by_action, by_move, by_step, first_playing}, State.{Moved, Things}}
use Rattle.exec_rest.{specs.AtRest.IsShut, proofs.Sides.put_cases}
use Rattle.exec_machine.specs.declared.state.MailMessage.TheVariants as message
use Rattle.exec_machine.specs.declared.state.Next.TheVariants as next

-- TWO FLAGS

-- both are the same
record Flags (s later : Common) : Type 0 where
  pub set : later.set_closed ≡ s.set_closed
  pub queue : later.queue_closed ≡ s.queue_closed

same : {s later : Common} → later.set_closed ≡ s.set_closed → later.queue_closed ≡ s.queue_closed → Flags s later
same set queue = record { set = set; queue = queue }

as_before : {s : Common} → Flags s s
as_before = same refl refl

one_of : {s one other : Common} (b : Bool) → Flags s one → Flags s other → Flags s (if b then one else other)
one_of true f g = f
one_of false f g = g

word_flags : (s : Common) (polls : Option ℕ) → Flags s (after_word s polls)
word_flags s None = as_before
word_flags s (Some t) = same refl refl

wake_flags : (me : Books) (s : Common) (t : ℕ) (choice : Choice) → Flags s (after_wake me s t choice)
wake_flags = grind arith

sending_flags : (s : Common) (polls : Option ℕ) (m : MailMessage) → Flags s (after_sending s polls m)
sending_flags = grind arith

post_flags : (s : Common) (to : ℕ) (m : MailMessage) (choice : Choice) → Flags s (after_post s to m choice)
post_flags s to m choice = one_of (is_root_message m && is_left_out choice) as_before (same refl refl)

message_flags : (me : Books) (s : Common) (m : MailMessage) → Flags s (after_message me s m)
message_flags = grind arith

pend_flags : (s : Common) (i t : ℕ) → Flags s (after_pend s i t)
pend_flags s i t = one_of (task_of s t).cleared (same refl refl) (same refl refl)

clear_flags : (s : Common) (i t : ℕ) → Flags s (after_clear s i t)
clear_flags s i t = one_of (ends_by_clear (task_of s t).phase) (same refl refl) (same refl refl)

-- WHAT A WORKER HAS TO DO NEXT

abbrev is_last : Next → Bool
is_last next.ClosesQueue = true
is_last _ = false

-- it is something else
no_last : {T : Type 0} {n : Next} → n ≡ next.ClosesQueue → is_last n ≡ false → T
no_last is not_so = absurd (false≢true (sym not_so ∙ ap is_last is))

one_next : (b : Bool) (one other : Books) {n : Next} → one.next ≡ n → other.next ≡ n → (if b then one else other).next ≡ n
one_next true one other p q = p
one_next false one other p q = q

drops_next : (s : Common) (i : ℕ) (held : List ℕ) (me : Books) → (own_after_drops s i held me).next ≡ me.next
drops_next s i [] me = refl
drops_next s i (r ∷ held) me =
    let home = (request_of s r).worker in
    let letter = owes me home (record { to = home; message = message.CancelRequest r }) in
    drops_next s i held (if home == i then own_after_drop me s r else letter) ∙ one_next (home == i) (own_after_drop me s r) letter refl refl

waking_up_next : (s : Common) (i : ℕ) (what : Waiting) (me : Books) → (own_after_waking_up s i what me).next ≡ me.next
waking_up_next = grind arith

over_next : (me : Books) (s : Common) (i t : ℕ) → (own_after_over me s i t).next ≡ me.next
over_next me s i t = waking_up_next s i (task_of s t).waiting (own_after_drops s i (task_of s t).held me) ∙ drops_next s i (task_of s t).held me

apply_next : (me : Books) (s : Common) (m : MailMessage) → (own_after_apply me s m).next ≡ me.next
apply_next me s (message.CancelRequest r) = refl
apply_next me s _ = refl

-- EVENTS OF A WORKER

-- An event of a worker leaves a closed set closed. The queue is closed by who had to close it, and who has to close it next had to before,
-- or has closed the set.
record Shuts (me own : Books) (s later : Common) : Type 0 where
  pub set : s.set_closed ≡ true → later.set_closed ≡ true
  pub queue : later.queue_closed ≡ true → (s.queue_closed ≡ true) ⊎ (me.next ≡ next.ClosesQueue)
  pub closes : own.next ≡ next.ClosesQueue → (me.next ≡ next.ClosesQueue) ⊎ (later.set_closed ≡ true)

plain : {me own : Books} {s later : Common} → Flags s later → own.next ≡ me.next → Shuts me own s later
plain f is = record { set = λ h. f.set ∙ h; queue = λ h. inl (sym f.queue ∙ h); closes = λ h. inl (sym is ∙ h) }

next_set : (s : Common) (i : ℕ) (n : Next) → (after_next s i n).set_closed ≡ s.set_closed
next_set = grind arith

next_queue : (s : Common) (i : ℕ) (n : Next) → (after_next s i n).queue_closed ≡ true → (s.queue_closed ≡ true) ⊎ (n ≡ next.ClosesQueue)
next_queue = grind arith

-- what was to be done is done
turned : {me own : Books} (s : Common) (i : ℕ) → is_last own.next ≡ false → Shuts me own s (after_next s i me.next)
turned {me} s i not_so = record { set = λ h. next_set s i me.next ∙ h; queue = λ h. next_queue s i me.next h; closes = λ h. no_last h not_so }

-- only worker zero has to close the queue once it closes
closing : (is_zero pool closed : Bool) → (if is_zero then next.ClosesQueue else if pool then next.Free else next.ClosesMailbox) ≡ next.ClosesQueue → (closed || is_zero) ≡ true
closing = grind arith

-- a durable request joins its gate next
admits : (b : Bool) (r : ℕ) (joins other me : Books) → joins.next ≡ next.Joins r → other.next ≡ me.next
    → (if b then joins else other).next ≡ next.ClosesQueue → me.next ≡ next.ClosesQueue
admits true r joins other me p q h = no_last (sym p ∙ h) refl
admits false r joins other me p q h = sym q ∙ h

module _ (c : Configuration) (me : Books) (s : Common) (i : ℕ) where
  shuts : (e : Event) (choice : Choice) → Shuts me (own_after c me s i e choice) s (common_after c me s i e choice)
  shuts = grind (arith, no_last, turned, plain, as_before, one_next, pend_flags, over_next, same, word_flags, clear_flags, admits, wake_flags, one_of, sending_flags, post_flags, message_flags, apply_next, or_left, closing)

-- THE WORKERS' OWN PARTS

-- what holds of each of both lists
of_both : (P : Books → Type 0) (xs more : List Books) → ((n : ℕ) → P (get_or xs n no_own)) → ((n : ℕ) → P (get_or more n no_own)) → (j : ℕ) → P (get_or (xs ++ more) j no_own)
of_both P [] more all also j = also j
of_both P (x ∷ xs) more all also zero = all zero
of_both P (x ∷ xs) more all also (suc j) = of_both P xs more (λ n. all (suc n)) also j

-- a worker that begins has nothing to do next
made_free : (s : Common) (e : Event) (n : ℕ) → (get_or (made_by s e) n no_own).next ≡ next.Free
made_free = grind arith

first_free : (n i j : ℕ) → (get_or (first_owns n i) j no_own).next ≡ next.Free
first_free zero i j = refl
first_free (suc n) i zero = refl
first_free (suc n) i (suc j) = first_free n (suc i) j

-- EACH STEP

pub shut_first : (p : Plan) → IsShut (first_playing p)
shut_first p = record { queue = λ h. absurd (false≢true h); next = λ i h. no_last (sym (first_free p.config.workers 0 i) ∙ h) refl }

spawn_flags : (s : Common) (k : ℕ) (e : Event) → Flags s (after_spawn_by_call s k e)
spawn_flags s k (event.Spawn t script) = same refl refl
spawn_flags s k _ = as_before

call_wake_flags : (s : Common) (t : ℕ) (e : Event) (choice : Choice) → Flags s (after_wake_by_call s t e choice)
call_wake_flags = grind arith

going_flags : (s : Common) (j : ℕ) (e : Event) → Flags s (after_going_on s j e)
going_flags = grind arith

module _ (c : Configuration) (x : Playing) (held : IsShut x) where
  abbrev s : Common
  s = x.world.common

  by_worker : (i : ℕ) (m : Moved Things) → IsShut (by_move c x i m).next
  by_worker i m =
      record {
        queue = λ h. it.set (elim (it.queue h) [ inl closed ↦ held.queue closed | inr last ↦ held.next i last ]);
        next = of_both Closes (set x.world.workers i own) (made_by s m.event) each (λ n h. no_last (sym (made_free s m.event n) ∙ h) refl);
      }
    where
      me : Books
      me = own_of x.world i

      own : Books
      own = own_after c me s i m.event m.choice

      it : Shuts me own s (common_after c me s i m.event m.choice)
      it = shuts c me s i m.event m.choice

      Closes : Books → Type 0
      Closes b = b.next ≡ next.ClosesQueue → (common_after c me s i m.event m.choice).set_closed ≡ true

      each : (j : ℕ) → Closes (get_or (set x.world.workers i own) j no_own)
      each j h = elim (put_cases x.world.workers i j own no_own) [
        | inl old ↦ it.set (held.next j (sym (ap (λ (b : Books). b.next) old) ∙ h))
        | inr new ↦ elim (it.closes (sym (ap (λ (b : Books). b.next) new.2) ∙ h)) [ inl last ↦ it.set (held.next i last) | inr closed ↦ closed ]
      ]

  -- the own parts and both flags stay
  stays : (y : Playing) → y.world.workers ≡ x.world.workers → Flags s y.world.common → IsShut y
  stays = grind arith

  by_any : (a : Action) → IsShut (by_action c x a).next
  by_any = grind (arith, by_worker, spawn_flags, stays, same, call_wake_flags, going_flags, as_before)

-- a step that is not enabled changes nothing
pub shut_goes_on : (c : Configuration) (x : Playing) → IsShut x → (a : Action) → IsShut (by_step c x a).next
shut_goes_on = grind (arith, cases_Bool, by_any)
