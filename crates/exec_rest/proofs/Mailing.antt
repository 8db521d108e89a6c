-- Each move of a worker does to mailboxes what `MailHeeds` says. After such a move batches are numbered as before; and who sleeps,
-- or is about to on its ring, and has a message was signalled, or is signalled by somebody next.
use Rattle.std.{proofs.{Common.{◌≡◌, ◌≢◌, ℕ, ◌<◌, true, false, ◌&&◌, List, [], ◌∷◌, length, Option, Some, refl, sym, ap, ◌∙◌, subst, inl, inr, arith}, lemmas.{Bool.{true≢false, false≢true, and_parts, cases_Bool, cases_lt, or_cases}, List.get_or_past}}, specs.Prelude.{◌⊎◌, not}}
use Rattle.exec_words.specs.{Word.is_armed, declared.word.WaitTarget.WaitTarget as target}
use Rattle.exec_machine.specs.{declared.{step.Action.Action as action, config.Configuration.Configuration, event.Event.TheVariants.{Rouse, Sleep}, state.MailMessage.MailMessage}, Callers.{is_enabled, is_held}, Tests.{has_ended, is_awake}, World.{Common, Own as Books, own_of, seat_of}}
use Rattle.exec_moves.specs.{declared.place.{InClosing.InClosing as closing, InMail.InMail as mail, Place.{Place as at, Place}}, Close.{batches_closed, close_mailbox}, Mail.take_mail, Move.{move, move_at}, Plays.{Playing, by_move, desk_of}, State.{Desk, Moved, Things, inbox_of, word_of}}
use Rattle.exec_rest.{specs.{Places.{call_signals, is_abed, is_to_enter, is_to_sleep_on_ring, signals, waits_on}, Posted.{IsNumbered, IsPosted, IsTold, is_early}, Rested.{IsLaidOut, IsRestful, IsSignalled, Someone.Worker, is_latched, place_at, sleeps}}, proofs.{FactsA.{at_each, going, here, seated, stays}, FactsB.{abed_waits, is_waiting, not-true}, Frames.{asleep_after, desk_other, desk_own}, Heeds.Heeds, MailHeeds.{IsMatched, MailHeeds, Rests, taken, untaken}, MailMoves.mails_at, MailRests.{frees, is_free, is_of_wait}, Processed.{processed_kept, takes_mail}, CallFacts.{enters_ring, sleeps_on_ring}}}

-- EACH MOVE

early_waits : (p : Place) → is_early p ≡ true → waits_on p ≡ target.Ring
early_waits p h = elim (or_cases (is_to_enter p) (is_to_sleep_on_ring p) h) [ inl enter ↦ enters_ring p enter | inr sleep ↦ sleeps_on_ring p sleep ]

early_unfree : (p : Place) → is_early p ≡ true → is_free p ≡ false
early_unfree p h = ap (λ t. not (is_armed t)) (early_waits p h)

abed_unfree : (p : Place) → is_abed p ≡ true → is_free p ≡ false
abed_unfree = grind arith

module _ (c : Configuration) (i : ℕ) (me : Books) (s : Common) (d : Desk) (x : Things) where
  -- WHERE IT LEADS

  abbrev RestsAt : Place → Type 0
  RestsAt p = Rests i d x (move_at c i me s d x p)

  -- to no place of a wait
  rests_free : (m : Moved Things) → is_free m.desk.place ≡ true → ((until : Option ℕ) → m.event ≡ Sleep until → is_abed m.desk.place ≡ true) → Rests i d x m
  rests_free m free abed (inl early) h = absurd (false≢true (sym (early_unfree m.desk.place early) ∙ free))
  rests_free m free abed (inr sleep) h = absurd (false≢true (sym (abed_unfree m.desk.place (abed sleep.0 sleep.1)) ∙ free))

  of_wait : (p : Place) → d.place ≡ p → is_of_wait p ≡ true → RestsAt p
  of_wait = grind arith

  -- ALL OF IT

  take_none : (ms : List MailMessage) → (take_mail d ms).thing ≡ []
  take_none [] = refl
  take_none (m ∷ ms) = refl

  take_counted : (ms : List MailMessage) → (take_mail d ms).desk.processed ≡ batches_closed ms d.processed
  take_counted [] = refl
  take_counted (m ∷ ms) = refl

  takes : (p : Place) → takes_mail p ≡ true → RestsAt p → MailHeeds i d x (move_at c i me s d x p)
  takes (at.Mail mail.TakeMail) h rests = taken i d x (take_mail d (inbox_of x i)) (take_none (inbox_of x i)) (take_counted (inbox_of x i)) rests
  takes (at.Closing closing.CloseMailbox) h rests = taken i d x (close_mailbox i s d (inbox_of x i)) refl refl rests
  takes _ h rests = absurd (false≢true h)

  -- that a sleep leads to where it goes on from is of `Heeds`
  pub mail_heeds : (R : Type 0) → Heeds R i s d x (move c i me s d x) → MailHeeds i d x (move c i me s d x)
  mail_heeds R heeds = elim (cases_Bool (takes_mail d.place)) [
    | inl h ↦ takes d.place h rests
    | inr h ↦ untaken i d x (move c i me s d x) (mails_at c i me s d x d.place h) (processed_kept c i me s d x d.place h) rests
  ]
    where
      rests : RestsAt d.place
      rests = grind (arith, cases_Bool, is_of_wait, of_wait, rests_free, frees)

-- AFTER A MOVE OF WORKER i

module _ (c : Configuration) (x : Playing) (laid : IsLaidOut c x) (held : IsRestful c x) (i : ℕ) (may : is_enabled x.world.common (action.Work i) ≡ true) (m : Moved Things) (R : Type 0) (heeds : Heeds R i x.world.common (desk_of c x i) x.things m) (mails : MailHeeds i (desk_of c x i) x.things m) (match : IsMatched x.things) (before : IsPosted c x) where
  abbrev next : Playing
  next = (by_move c x i m).next

  abbrev s : Common
  s = x.world.common

  abbrev HasMail : ℕ → Type 0
  HasMail k = inbox_of next.things k ≡ [] → ⊥

  abbrev HadMail : ℕ → Type 0
  HadMail k = inbox_of x.things k ≡ [] → ⊥

  -- DESKS AND WORDS

  up : is_awake (seat_of s i).rest ≡ true
  up = (and_parts (is_awake (seat_of s i).rest) (not (has_ended (seat_of s i).phase)) (and_parts (is_awake (seat_of s i).rest && not (has_ended (seat_of s i).phase)) (not (is_held s (seat_of s i))) may).0).0

  own : desk_of c next i ≡ m.desk
  own = desk_own c x i m (subst (λ n. i < n) (sym laid.desks) (seated s (λ seat. has_ended seat.phase) false true≢false i (going c x laid held i may m R heeds)))

  other : (k : ℕ) → k ≢ i → desk_of c next k ≡ desk_of c x k
  other k apart = desk_other c x i m (λ t j born. heeds.born t j born ∙ sym laid.desks) k apart

  -- who sleeps has a wake word, and so has who is at another place than a new worker
  sleeper_within : (k : ℕ) → is_awake (seat_of s k).rest ≡ false → k < length x.things.words
  sleeper_within k asleep = subst (λ n. k < n) (sym laid.words) (seated s (λ seat. is_awake seat.rest) false true≢false k asleep)

  early_within : (k : ℕ) → is_early (place_at c x k) ≡ true → k < length x.things.words
  early_within = grind (arith, cases_lt, false≢true, get_or_past)

  -- BATCHES

  pub numbered_then : (k : ℕ) → IsNumbered (word_of next.things k).batch (desk_of c next k).processed (inbox_of next.things k)
  numbered_then =
      at_each i (λ k. IsNumbered (word_of next.things k).batch (desk_of c next k).processed (inbox_of next.things k))
      (subst (λ (d : Desk). IsNumbered (word_of m.thing i).batch d.processed (inbox_of m.thing i)) (sym own) (mails.own match (before.numbered i)))
      (λ k apart. subst (λ (d : Desk). IsNumbered (word_of m.thing k).batch d.processed (inbox_of m.thing k)) (sym (other k apart)) (mails.others match k apart (desk_of c x k).processed (before.numbered k)))

  -- WHO WAS TOLD

  -- it was signalled then, or is by the same party next
  signalled : (k : ℕ) → k < length x.things.words → IsSignalled c x k → IsTold c next k
  signalled k within who = elim (stays c x laid held i may m R heeds (λ p. signals p ≡ Some k) (λ p. call_signals p ≡ Some k) who) [
    | inl by_it ↦ inl (heeds.signalling k by_it within)
    | inr others ↦ inr others
  ]

  -- a latch goes only at its own worker
  latched : (k : ℕ) → k ≢ i → is_latched c x k ≡ true → is_latched c next k ≡ true
  latched k apart latch = elim (cases_Bool (is_latched c next k)) [ inl on ↦ on | inr gone ↦ absurd (apart (heeds.latch_out k latch gone).0) ]

  -- another worker, which waits
  told_other : (k : ℕ) → k ≢ i → k < length x.things.words → is_waiting (waits_on (place_at c x k)) ≡ true → (HadMail k → IsTold c x k) → HasMail k → IsTold c next k
  told_other k apart within waits was some = elim (mails.told k some) [
    | inl had ↦ elim (was had) [ inl latch ↦ inl (latched k apart latch) | inr who ↦ signalled k within who ]
    | inr (inl signal) ↦ inr (Worker i (ap signals (here c x laid held i may m R heeds) ∙ signal))
    | inr (inr (inl latch)) ↦ inl (latched k apart latch)
    | inr (inr (inr none)) ↦
        let armed = held.armed k (λ idle. true≢false (sym waits ∙ ap is_waiting idle)) in
        absurd (true≢false (sym waits ∙ ap is_waiting (sym armed ∙ none)))
  ]

  -- itself, where it sleeps then or is about to
  told_own : (is_early m.desk.place ≡ true) ⊎ ((until : Option ℕ) × (m.event ≡ Sleep until)) → HasMail i → IsTold c next i
  told_own rests some = elim (mails.rests rests (before.numbered i)) [
    | inl none ↦ absurd (some none)
    | inr left ↦ elim (before.early i left.0 (λ none. some (left.2 ∙ none))) [
      | inl latch ↦ inl (left.1 ∙ latch)
      | inr who ↦ signalled i (early_within i left.0) who
    ]
  ]

  pub early_then : (k : ℕ) → is_early (place_at c next k) ≡ true → (inbox_of next.things k ≡ [] → ⊥) → IsTold c next k
  early_then =
      at_each i (λ k. is_early (place_at c next k) ≡ true → HasMail k → IsTold c next k)
      (λ early. told_own (inl (subst (λ (d : Desk). is_early d.place ≡ true) own early)))
      (λ k apart early.
      let was = subst (λ (d : Desk). is_early d.place ≡ true) (other k apart) early in
      told_other k apart (early_within k was) (ap is_waiting (early_waits (place_at c x k) was)) (before.early k was))

  pub posted_then : (k : ℕ) → sleeps c next k ≡ true → (inbox_of next.things k ≡ [] → ⊥) → IsTold c next k
  posted_then k asleep = by (asleep_after c (own_of x.world i) s i m.event m.choice k (not-true (is_awake (seat_of next.world.common k).rest) asleep))
    where
      by : ((is_awake (seat_of s k).rest ≡ false) × (m.event ≢ Rouse k)) ⊎ ((k ≡ i) × ((until : Option ℕ) × (m.event ≡ Sleep until))) → HasMail k → IsTold c next k
      by (inl was) =
          told_other k (λ is. true≢false (sym up ∙ subst (λ j. is_awake (seat_of s j).rest ≡ false) is was.0)) (sleeper_within k was.0)
          (abed_waits (place_at c x k) (held.abed k (ap not was.0))) (before.posted k (ap not was.0))
      by (inr falls) = rw falls.0 (told_own (inr falls.1))
