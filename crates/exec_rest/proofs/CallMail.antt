-- The steps of outside callers leave no message unheard: the first one of a batch publishes that, and is followed by a signal where
-- its worker waits and nobody has signalled it.
use Rattle.std.{proofs.{Common.{◌≡◌, ℕ, ◌<◌, Bool, true, false, List, [], length, get_or, Option, Some, None, refl, sym, ap, ◌∙◌, subst, inl, inr, arith}, lemmas.{Bool.{false≢true, and_parts, ltb-true, ltb-false, or_cases}, List.{get_or-set_other, get_or-set_same, set_past}}}, specs.Prelude.{◌⊎◌, nat_lt}}
use Rattle.exec_words.specs.{Word.is_armed, declared.word.WaitTarget.WaitTarget as target}
use Rattle.exec_machine.specs.{declared.{config.Configuration.Configuration, state.MailMessage.{MailMessage, TheVariants.Root}, step.Action.{Action, Action as action}}, Callers.{after_going_on, after_spawn_by_call, after_wake_by_call, half_done, is_enabled, may_call}, Choice.{Choice, Choice.Posts, Payer.ByCall}, World.{Common, task_of}}
use Rattle.exec_moves.specs.{declared.{handing.{CallPlace.{CallPlace, CallPlace as call}, InSignal.InSignal as signal}, place.Place.Place}, Call.{CallDesk, Called, after_posting}, MoveOfCaller.{call_on, call_spawn, call_wake}, Plays.{Playing, by_action, caller_of, desk_of, first_desk}, Send.{Mailbox, is_left_out, posting, posting_of}, State.{Things, inbox_of, no_word, word_of}, Thing.{mailbox_of, set_mailbox}}
use Rattle.exec_rest.{specs.{Places.{call_signals, is_to_enter, is_to_sleep_on_ring, signals, waits_on}, Posted.{IsNumbered, IsPosted, IsTold, is_early}, Rested.{IsLaidOut, IsRestful, place_at, sleeps}}, proofs.{CallFacts.{abed_armed, desk_there, enters_ring, next, now, cases_eq, sleeps_on_ring, slept, still}, CallHeeds.{CallHeeds, set_at}, CallMoves.{call_heeds, spawn_heeds, wake_heeds}, CallSeats.{Halved, Seated, begins_half, goes_half, going_seated, spawn_begun, wake_begun}, Calls.{at_nothing, is_call}}}

-- A MAILBOX before and after a message was sent to it, where it is asked for a signal or not

pub record Heard (m n : Mailbox) (asked : Bool) : Type 0 where
  pub numbered : (processed : ℕ) → IsNumbered m.word.batch processed m.messages → IsNumbered n.word.batch processed n.messages
  pub told : (n.messages ≡ [] → ⊥) → (m.messages ≡ [] → ⊥) ⊎ ((asked ≡ true) ⊎ ((m.word.latch ≡ true) ⊎ (m.word.target ≡ target.None)))

pub posting_heard : (s : Common) (j : ℕ) (message : MailMessage) (choice : Choice) (m : Mailbox) → (let it = posting_of s j message choice m in Heard m it.mailbox it.signals)
posting_heard = grind arith

-- ALL MAILBOXES before and after a step, where S says who is signalled next

pub record Mails (x y : Things) (S : ℕ → Type 0) : Type 0 where
  pub numbered : (i processed : ℕ) → IsNumbered (word_of x i).batch processed (inbox_of x i) → IsNumbered (word_of y i).batch processed (inbox_of y i)
  pub told : (i : ℕ) → (inbox_of y i ≡ [] → ⊥) → (inbox_of x i ≡ [] → ⊥) ⊎ (S i ⊎ (((word_of x i).latch ≡ true) ⊎ ((word_of x i).target ≡ target.None)))

pub numbered_like : (batch batch' processed : ℕ) (ms ms' : List MailMessage) → batch' ≡ batch → ms' ≡ ms → IsNumbered batch processed ms → IsNumbered batch' processed ms'
numbered_like batch batch' processed ms ms' same_batch same h =
    subst (λ b. IsNumbered b processed ms') (sym same_batch) (subst (λ (is : List MailMessage). IsNumbered batch processed is) (sym same) h)

-- no message, and no batch
pub no_message : (x y : Things) (S : ℕ → Type 0) → y.inboxes ≡ x.inboxes → ((i : ℕ) → (word_of y i).batch ≡ (word_of x i).batch) → Mails x y S
no_message = grind arith

module _ (x : Things) (k : ℕ) (n : Mailbox) (boxes : length x.inboxes ≡ length x.words) where
  abbrev y : Things
  y = set_mailbox k x n

  abbrev IsAt : ℕ → Type 0
  IsAt i = ((word_of y i ≡ word_of x i) × (inbox_of y i ≡ inbox_of x i)) ⊎ ((i ≡ k) × (word_of y i ≡ n.word) × (inbox_of y i ≡ n.messages))

  -- a worker has both of them, or none
  mail_at : (i : ℕ) → IsAt i
  mail_at i = elim (cases_eq i k) [
    | inl is ↦ subst IsAt (sym is) (here (nat_lt k (length x.words)) refl)
    | inr apart ↦ inl (get_or-set_other x.words k i n.word no_word apart, get_or-set_other x.inboxes k i n.messages [] apart)
  ]
    where
      here : (b : Bool) → nat_lt k (length x.words) ≡ b → IsAt k
      here true h =
          let within : k < length x.words = ltb-true k (length x.words) h in
          inr (refl, get_or-set_same x.words k n.word no_word within, get_or-set_same x.inboxes k n.messages [] (omega (arith, within, boxes)))
      here false h = grind (arith, ltb-false, set_past)

  pub mail_put : (asked : Bool) (S : ℕ → Type 0) → (asked ≡ true → S k) → Heard (mailbox_of x k) n asked → Mails x y S
  mail_put asked S signals heard =
      record {
        numbered = grind (arith, mail_at, numbered_like);
        told = λ i some. elim (mail_at i) [
          | inl same ↦ inl (λ none. some (same.1 ∙ none))
          | inr here ↦ subst Told (sym here.0) (at_k (heard.told (λ none. some (here.2 ∙ none))))
        ];
      }
    where
      Told : ℕ → Type 0
      Told i = (inbox_of x i ≡ [] → ⊥) ⊎ (S i ⊎ (((word_of x i).latch ≡ true) ⊎ ((word_of x i).target ≡ target.None)))

      at_k : (inbox_of x k ≡ [] → ⊥) ⊎ ((asked ≡ true) ⊎ (((word_of x k).latch ≡ true) ⊎ ((word_of x k).target ≡ target.None))) → Told k
      at_k = grind arith

-- EACH MOVE of an outside caller

abbrev pub CallMails : Things → Called Things → Type 0
CallMails x m = Mails x m.thing (λ i. call_signals m.desk.place ≡ Some i)

module _ (c : Configuration) (s : Common) (d : CallDesk) (x : Things) where
  -- no move but a message changes an inbox or publishes a batch
  untouched : (m : Called Things) → m.thing.inboxes ≡ x.inboxes → m.thing.words ≡ x.words → CallMails x m
  untouched m boxes words = no_message x m.thing (λ i. call_signals m.desk.place ≡ Some i) boxes (λ i. ap (λ ws. (get_or ws i no_word).batch) words)

  spawn_mails : (k : ℕ) → CallMails x (call_spawn c s d x k)
  spawn_mails k = untouched (call_spawn c s d x k) refl refl

  asked_for : (j : ℕ) (b : Bool) → b ≡ true → call_signals (after_posting j b) ≡ Some j
  asked_for j true h = refl
  asked_for j false h = absurd (false≢true h)

  wake_mails : length x.inboxes ≡ length x.words → (t : ℕ) (home : Option ℕ) → CallMails x (call_wake s d x t home)
  wake_mails boxes t None = untouched (call_wake s d x t None) refl refl
  wake_mails boxes t (Some home) =
      let it = posting s home ByCall (mailbox_of x home) in
      mail_put x home it.mailbox boxes it.signals (λ i. call_signals (after_posting home it.signals) ≡ Some i) (asked_for home it.signals)
      (posting_heard s home Root (Posts ByCall (is_left_out (mailbox_of x home))) (mailbox_of x home))

  latch_mails : (j : ℕ) → CallMails x (call_on s d x (call.Signal signal.SetLatch j))
  latch_mails = grind (arith, no_message, set_at)

  on_mails : (p : CallPlace) → CallMails x (call_on s d x p)
  on_mails = grind (arith, untouched, latch_mails)

-- THE STEP of caller j, which leaves t and what its move m does

early_armed : (p : Place) → is_early p ≡ true → is_armed (waits_on p) ≡ true
early_armed p h = elim (or_cases (is_to_enter p) (is_to_sleep_on_ring p) h) [ inl enters ↦ ap is_armed (enters_ring p enters) | inr rests ↦ ap is_armed (sleeps_on_ring p rests) ]

module _ (c : Configuration) (x : Playing) (laid : IsLaidOut c x) (held : IsRestful c x) (told : IsPosted c x) (j : ℕ) (t : Common) (m : Called Things)
    (heeds : CallHeeds x.world.common (caller_of x j) x.things m) (seated : Seated x.world.common.seats t.seats m.event) (halved : Halved x.world.common t j m.desk.place) (mails : CallMails x.things m) where
  abbrev after : Playing
  after = next c x laid held j t m heeds seated halved

  within : (i : ℕ) → is_armed (waits_on (place_at c x i)) ≡ true → i < length x.things.words
  within i waits = subst (λ n. i < n) (laid.desks ∙ sym laid.words) (desk_there x.desks i (first_desk c i) (λ e. is_armed (waits_on e.place)) refl waits)

  -- who signalled it does so, or has done so
  told_still : (i : ℕ) → is_armed (waits_on (place_at c x i)) ≡ true → IsTold c x i → IsTold c after i
  told_still i waits (inl latch) = inl (heeds.latch_kept i latch)
  told_still i waits (inr h) = elim (still c x laid held j t m heeds seated halved (λ p. signals p ≡ Some i) (λ p. call_signals p ≡ Some i) h) [
    | inl it ↦ inr it
    | inr mine ↦ inl (heeds.signalling i mine (within i waits))
  ]

  told_then : (i : ℕ) → is_armed (waits_on (place_at c x i)) ≡ true → ((inbox_of x.things i ≡ [] → ⊥) → IsTold c x i) → (inbox_of m.thing i ≡ [] → ⊥) → IsTold c after i
  told_then i waits was some = elim (mails.told i some) [
    | inl before ↦ told_still i waits (was before)
    | inr first ↦ elim first [
      | inl asked ↦ inr (now c x laid held j t m heeds seated halved (λ p. signals p ≡ Some i) (λ p. call_signals p ≡ Some i) asked)
      | inr unasked_for ↦ grind arith
    ]
  ]

  asleep_before : (i : ℕ) → sleeps c after i ≡ true → sleeps c x i ≡ true
  asleep_before i asleep = (slept c x laid held j t m heeds seated halved i asleep).0

  pub posted_then : IsPosted c after
  posted_then =
      record {
        numbered = λ i. mails.numbered i (desk_of c x i).processed (told.numbered i);
        posted = λ i asleep some. let was = asleep_before i asleep in told_then i (abed_armed (place_at c x i) (held.abed i was)) (told.posted i was) some;
        early = λ i at some. told_then i (early_armed (place_at c x i) at) (told.early i at) some;
        tested = told.tested;
      }

module _ (c : Configuration) (x : Playing) (laid : IsLaidOut c x) (boxes : length x.things.inboxes ≡ length x.world.common.seats) (held : IsRestful c x) (told : IsPosted c x) where
  abbrev s : Common
  s = x.world.common

  -- Each worker has an inbox: `IsLaidOut` says nothing of that.
  pub posted_by_caller : (a : Action) → is_call a ≡ true → is_enabled s a ≡ true → IsPosted c (by_action c x a).next
  posted_by_caller (action.Spawn j k) is may =
      let m = call_spawn c s (caller_of x j) x.things k in
      let begun = spawn_begun s k in
      posted_then c x laid held told j (half_done (after_spawn_by_call s k m.event) j) m
      (spawn_heeds c s (caller_of x j) x.things (at_nothing c x laid held j may) k) begun.seats
      (begins_half s (after_spawn_by_call s k m.event) j m.desk.place may begun.callers)
      (spawn_mails c s (caller_of x j) x.things k)
  posted_by_caller (action.Wake j t) is may =
      let m = call_wake s (caller_of x j) x.things t (task_of s t).home in
      let begun = wake_begun s (caller_of x j) x.things t (task_of s t).home in
      let free = (and_parts (may_call s j) (nat_lt t (length s.tasks)) may).0 in
      posted_then c x laid held told j (half_done (after_wake_by_call s t m.event m.choice) j) m
      (wake_heeds c s (caller_of x j) x.things (at_nothing c x laid held j free) t (task_of s t).home) begun.seats
      (begins_half s (after_wake_by_call s t m.event m.choice) j m.desk.place free begun.callers)
      (wake_mails c s (caller_of x j) x.things (boxes ∙ sym laid.words) t (task_of s t).home)
  posted_by_caller (action.GoOn j) is may =
      let p = (caller_of x j).place in
      let m = call_on s (caller_of x j) x.things p in
      posted_then c x laid held told j (after_going_on s j m.event) m
      (call_heeds c s (caller_of x j) x.things p refl) (going_seated s j m.event)
      (goes_half s (caller_of x j) x.things j p may)
      (on_mails c s (caller_of x j) x.things p)
  posted_by_caller (action.Work i) is may = absurd (false≢true is)
  posted_by_caller (action.Clock n) is may = absurd (false≢true is)
  posted_by_caller (action.Land r n) is may = absurd (false≢true is)
  posted_by_caller (action.SetBusy i) is may = absurd (false≢true is)
  posted_by_caller (action.EndPoll i) is may = absurd (false≢true is)
  posted_by_caller (action.Stir i) is may = absurd (false≢true is)
  posted_by_caller (action.Peer l) is may = absurd (false≢true is)
