-- NO MESSAGE IS LEFT: what holds of mailboxes in each state of an executor.
--
-- The first message of a batch publishes it in the wake word, and asks for a signal where its worker waits. A worker that is to
-- sleep looks whether a batch was published that it hasn't taken, once its wake word says that it waits.
use Rattle.std.specs.Prelude.{◌≡◌, ℕ, Bool, true, false, ◌||◌, ◌⊎◌, List, []}
use Rattle.exec_words.specs.Word.{next_batch}
use Rattle.exec_machine.specs.declared.{config.Configuration.Configuration, state.MailMessage.MailMessage}
use Rattle.exec_moves.specs.{declared.{idling.{AfterWait.AfterWait, Stay.Stay}, place.Place.Place}, Plays.{Playing, desk_of}, State.{inbox_of, word_of}}
use Rattle.exec_rest.specs.{Places.{is_to_enter, is_to_sleep_on_ring}, Rested.{IsSignalled, is_latched, place_at, sleeps}}

-- Its last test found nothing to do, and since then it was left to itself.
abbrev pub has_tested : Place → Bool
has_tested Place.ReadClock = true
has_tested (Place.Search x) = true
has_tested (Place.Scan x) = true
has_tested (Place.Look x) = true
has_tested (Place.RingWait x Stay.Turn) = true
has_tested (Place.WordWait x) = true
has_tested (Place.Withdraw AfterWait.Search) = true
has_tested _ = false

-- The batches that were published are those that were taken, and then the inbox is empty; or one more, which is in the inbox.
abbrev pub IsNumbered : ℕ → ℕ → List MailMessage → Type 0
IsNumbered batch processed inbox =
    ((batch ≡ processed) × (inbox ≡ [])) ⊎ ((batch ≡ next_batch processed) × (inbox ≡ [] → ⊥))

-- it looks no more at its wake word before it sleeps on its ring
abbrev pub is_early : Place → Bool
is_early p = is_to_enter p || is_to_sleep_on_ring p

module _ (c : Configuration) (x : Playing) where
  abbrev pub IsTold : ℕ → Type 0
  IsTold i = (is_latched c x i ≡ true) ⊎ IsSignalled c x i

  pub record IsPosted : Type 0 where
    pub numbered : (i : ℕ) → IsNumbered (word_of x.things i).batch (desk_of c x i).processed (inbox_of x.things i)
    -- who sleeps, or is about to on its ring, and has a message was signalled, or is signalled by somebody next
    pub posted : (i : ℕ) → sleeps c x i ≡ true → (inbox_of x.things i ≡ [] → ⊥) → IsTold i
    pub early : (i : ℕ) → is_early (place_at c x i) ≡ true → (inbox_of x.things i ≡ [] → ⊥) → IsTold i
    -- its root isn't to be polled, and it has applied all that it took
    pub tested : (i : ℕ) → has_tested (place_at c x i) ≡ true → ((desk_of c x i).root_ready ≡ false) × ((desk_of c x i).batch ≡ [])
