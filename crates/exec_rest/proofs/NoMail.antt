-- No message is left where all sleep: its worker would have been signalled, or somebody would signal it next. And what a worker took
-- it has applied, unless it sleeps while it closes.
use Rattle.std.proofs.Common.{◌≡◌, ℕ, true, false, [], inl, inr, arith}
use Rattle.exec_machine.specs.{declared.config.Configuration.Configuration, Progress.all_asleep, Tests.is_open, World.seat_of}
use Rattle.exec_moves.specs.{declared.place.Place.Place, Plays.{Playing, desk_of}, State.inbox_of}
use Rattle.exec_rest.{specs.{AtRest.stays_closing, Places.is_abed, Posted.{IsPosted, has_tested}, Rested.{IsRestful, place_at, sleeps}}, proofs.Rest.{none_or_some, unlatched, unsignalled}}

pub no_mail : (c : Configuration) (x : Playing) → IsRestful c x → IsPosted c x → all_asleep x.world ≡ true → (i : ℕ) → sleeps c x i ≡ true → inbox_of x.things i ≡ []
no_mail c x held told all i asleep = elim (none_or_some (inbox_of x.things i)) [
  | inl none ↦ none
  | inr some ↦ elim (told.posted i asleep some) [
    | inl latch ↦ absurd (unlatched c x held all i asleep latch)
    | inr signalled ↦ absurd (unsignalled c x held all i signalled)
  ]
]

-- who sleeps in a turn has made its last test
abed_tested : (p : Place) → is_abed p ≡ true → stays_closing p ≡ false → has_tested p ≡ true
abed_tested = grind arith

pub nothing_taken : (c : Configuration) (x : Playing) → IsRestful c x → IsPosted c x → (i : ℕ) → sleeps c x i ≡ true → stays_closing (place_at c x i) ≡ false
    → ((desk_of c x i).root_ready ≡ false) × ((desk_of c x i).batch ≡ [])
nothing_taken c x held told i asleep turn = told.tested i (abed_tested (place_at c x i) (held.abed i asleep) turn)

-- AN OPEN WORKER that sleeps where all do: its inbox is empty, its root isn't to be polled, and it has applied all that it took.
pub record IsMailed (c : Configuration) (x : Playing) (i : ℕ) : Type 0 where
  pub inbox : inbox_of x.things i ≡ []
  pub root : (desk_of c x i).root_ready ≡ false
  pub batch : (desk_of c x i).batch ≡ []

-- An open worker doesn't wait as one that closes: neither `IsRestful` nor `IsPosted` says that.
pub nothing_mailed : (c : Configuration) (x : Playing) → IsRestful c x → IsPosted c x → all_asleep x.world ≡ true
    → (open_stays : (i : ℕ) → is_open (seat_of x.world.common i).phase ≡ true → stays_closing (place_at c x i) ≡ false)
    → (i : ℕ) → is_open (seat_of x.world.common i).phase ≡ true → sleeps c x i ≡ true → IsMailed c x i
nothing_mailed = grind (arith, nothing_taken, no_mail)
