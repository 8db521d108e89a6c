-- What comes of the first new deadline is a step.
use Rattle.exec_invariants.{proofs.{Names.{◌≡◌, ℕ, ◌+◌, ◌^◌, ◌<◌, ◌≤◌, length, Option, Some, None, IfSome, refl, sym, ap, subst, ◌∙◌, arith, get_or, slice_get_within, deque_capacity, Error, WaiterId, first_of, tick_for, ended_by, Said, Event, Place, InService, Record, Shared, Worker, number_in, IsOnWheel, Spot, driver_of, own_of}, Enrolled.{HasEnrolled, new_first}, Enrolling.{enrolled_at, ended_not}, Late.enrol_ends, Timing.enrol_stays, Expiring.room_ends}, specs.{Submits.IsNewIn, Works.Steps}}
pub use Rattle.exec_invariants.proofs.LeafRecords.{found_is, set_changes}

pub room_by : (ended others unreleased most : ℕ) → ended + others ≡ unreleased → 0 < others → unreleased ≤ most → ended < most
room_by ended others unreleased most counted some fits = omega (arith, counted, some, fits)

pub one_pending : (n m : ℕ) → n + 1 ≡ m → 0 < m
one_pending n m is = omega (arith, is)

module _ {B : Type 0} (w : Worker) (s : Shared B) (new : IsNewIn w s) (id : WaiterId) (first : first_of (driver_of w).lists.enrolments ≡ Some id) where
  pub new_within : number_in w.names.requests.items id.0 < length s.requests.items
  new_within = let who = new_first w s new id first in slice_get_within s.requests.items (number_in w.names.requests.items id.0) who.r who.there

  pub new_room : length w.names.ended.items < deque_capacity w.names.ended
  new_room = let who = new_first w s new id first in room_ends _ w s new.submits.sound id.0 who.it who.small who.live

  pub new_timed : (j : ℕ) (old : Record) (told : Option Error) → j ≡ number_in w.names.requests.items id.0 → old ≡ get_or s.requests.items j old
      → ((d : ℕ) → d ≡ w.moments.sampled → told ≡ ended_by (tick_for (driver_of w).wheel (new_first w s new id first).deadline d)) → told ≡ None → IsOnWheel w.moments.start s.config.tick old.shown.operation.deadline
  new_timed j old told number found told_is none =
      let who = new_first w s new id first in
      let sound = new.submits.sound in
      let now = w.moments.sampled in
      let w0 : Worker = record w { place = (Place.Service (InService.Submit new.submits.gate) new.submits.service) } in
      let bounded : who.deadline < 2 ^ 63 = subst (λ o. IfSome o (λ m. m < 2 ^ 63)) who.told (sound.flown.plain (number_in w.names.requests.items id.0) who.r who.there who.worker).deadline in
      let within : who.deadline + s.config.tick < 2 ^ 64 = omega (arith, bounded, sound.config.tick) in
      let begun : w.moments.start ≤ now = omega (arith, sound.time.begun, sound.time.ordered) in
      let okay = ended_not (tick_for (driver_of w).wheel who.deadline now) (sym (told_is now refl) ∙ none) in
      let ahead : now < who.deadline = (enrolled_at s.config (own_of w0) (driver_of w).wheel now who.deadline sound.due.wheel refl sound.config.some_tick begun within okay.0 okay.1).1 in
      let asked : old.shown.operation.deadline ≡ Some who.deadline = ap (λ y. y.shown.operation.deadline) (found_is s.requests.items (number_in w.names.requests.items id.0) j who.r old number who.there found) ∙ who.told in
      subst (λ o. IsOnWheel w.moments.start s.config.tick o) (sym asked) (omega (arith, begun, ahead), within)

module _ {B L : Type 0} (left : B → L) (spot : L → Option Said → Spot) where
  pub enrol_steps : (told : Option Error) (w w' : Worker) (s s' : Shared B) (e : Event) (id : WaiterId) → (new : IsNewIn w s) → first_of (driver_of w).lists.enrolments ≡ Some id → HasEnrolled w w' s s' e id told → (told ≡ None → w'.names ≡ w.names) → Steps left spot w s e w' s'
  enrol_steps None w w' s s' e id new first by names = enrol_stays left spot w w' s s' e id new first by (names refl)
  enrol_steps (Some error) w w' s s' e id new first by names = enrol_ends left spot w w' s s' e id error new first by
