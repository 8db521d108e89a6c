-- Moves that change nothing of waking, where they may lead to a place of the callbacks' ends too.
use Rattle.std.proofs.Common.{◌≡◌, ℕ, Bool, true, false, length, Option, None, if◌then◌else◌, arith}
use Rattle.exec_machine.specs.{declared.event.Event.TheVariants.{Dedicated, End, Sleep}, World.{Common, seat_of}}
use Rattle.exec_moves.specs.{declared.place.Place.Place, State.{Desk, Moved, Things}, Thing.puts}
use Rattle.exec_rest.{specs.Places.{owes, owes_nothing, raises, signals}, proofs.{Heeds.{Heeds, landed_after}, Plain.{Aside, Calm, calm, is_calm, is_mute}, Continuing.{Nearly, near_calm}}}

-- what such a move does, from wherever
pub record Quiet (i : ℕ) (s : Common) (x : Things) (m : Moved Things) : Type 0 where
  pub near : Nearly s i m.desk.place
  pub aside : Aside i x m.thing
  pub landed : landed_after s i m.event ≡ (seat_of s i).landed
  pub sleep : (until : Option ℕ) → m.event ≡ Sleep until → ⊥
  pub ends : m.event ≡ End → owes_nothing m.desk.place ≡ true
  pub born : (t k : ℕ) → m.event ≡ Dedicated t k → k ≡ length s.seats

-- and from where it may come: a calm place of a worker that owes nothing
pub record Idles (p : Place) : Type 0 where
  pub calm : is_calm p ≡ true
  pub signals : signals p ≡ None
  pub raises : raises p ≡ None
  pub owes : owes p ≡ false

module _ (i : ℕ) (s : Common) (x : Things) where
  -- by a mute event
  pub quietly : (m : Moved Things) → Nearly s i m.desk.place → Aside i x m.thing → is_mute m.event ≡ true → Quiet i s x m
  quietly = grind arith

  -- the same to a calm place
  pub calmly : (m : Moved Things) → is_calm m.desk.place ≡ true → Aside i x m.thing → is_mute m.event ≡ true → Quiet i s x m
  calmly m h aside mute = quietly m (near_calm s i m.desk.place h) aside mute

  -- by a test, this or that: where the thing is put back behind it
  pub quiet_if : {T : Type 0} (back : T → Things) (b : Bool) (m n : Moved T) → Quiet i s x (puts back m) → Quiet i s x (puts back n) → Quiet i s x (puts back (if b then m else n))
  quiet_if = grind arith

module _ (R : Type 0) (i : ℕ) (s : Common) (d : Desk) (x : Things) (m : Moved Things) where
  -- the same by what the place before and the move are
  by_calm : Calm d.place → signals d.place ≡ None → raises d.place ≡ None → owes d.place ≡ false → Quiet i s x m → Heeds R i s d x m
  by_calm = grind arith

  pub quiet : (p : Place) → d.place ≡ p → Idles p → Quiet i s x m → Heeds R i s d x m
  quiet p is idles it = by_calm (rw is (calm p idles.calm)) (rw is idles.signals) (rw is idles.raises) (rw is idles.owes) it
