-- WHAT A WORKER HAS DONE before it sleeps stays done while it is left to itself.
use Rattle.std.specs.Prelude.{◌≡◌, ℕ, Bool, true, false, ◌||◌, []}
use Rattle.exec_machine.specs.{declared.config.Configuration.Configuration, Tests.{has_ended, is_resolved, is_staged}, World.{Common, Own, World, own_of, request_of, seat_of}}
use Rattle.exec_moves.specs.{declared.{idling.{InRingWait.InRingWait}, place.Place.Place}, Callback.has_requests, Load.may_stage, Plays.{Playing, desk_of}, State.Desk}
use Rattle.exec_rest.specs.{AtRest.{is_end, stays_closing}, Places.is_to_sleep_on_ring, Posted.has_tested, Rested.{place_at, sleeps}}

-- who has ended has let go of all its requests: each is over, and released
abbrev pub HaveLetGo : World → Type 0
HaveLetGo w =
    (i k : ℕ) → has_ended (seat_of w.common i).phase ≡ true → (request_of w.common k).worker ≡ i
    → (is_resolved (request_of w.common k).phase ≡ true) × ((request_of w.common k).released ≡ true)

-- nothing waits for the callbacks
pub record HasTold (me : Own) (d : Desk) : Type 0 where
  pub wakes : d.wakes ≡ []
  pub outputs : d.outputs ≡ 0
  pub ended : me.ended ≡ []
  pub completions : d.completions ≡ []
  pub results : d.results ≡ []

-- nothing waits for a service: no deadline is new, no cancel to be staged, and no request may be
pub record HasSubmitted (c : Configuration) (me : Own) : Type 0 where
  pub unenrolled : me.unenrolled ≡ []
  pub cancels : me.cancels ≡ []
  pub unstaged : may_stage c me ≡ false

-- the kernel has all that was staged, and was told all cancels
pub record HasEntered (i : ℕ) (me : Own) (s : Common) : Type 0 where
  pub untold : me.untold ≡ []
  pub staged : (k : ℕ) → (request_of s k).worker ≡ i → is_staged (request_of s k).phase ≡ false

-- it waits on its wake word; its wait on the ring ends next; it is past the test with which that began
abbrev pub waits_on_word : Place → Bool
waits_on_word (Place.WordWait p) = true
waits_on_word _ = false

abbrev pub ends_ring_wait : Place → Bool
ends_ring_wait (Place.RingWait (InRingWait.DisarmRing n) y) = true
ends_ring_wait _ = false

abbrev pub has_tested_ring : Place → Bool
has_tested_ring (Place.RingWait InRingWait.EnterFullRing y) = false
has_tested_ring (Place.RingWait InRingWait.TestRing y) = false
has_tested_ring (Place.RingWait p y) = true
has_tested_ring _ = false

-- Its last test, or the callbacks before its end or before a wait as one that closes, found nothing to tell; and that test, or the
-- one with which a wait on its ring begins, nothing to submit.
abbrev pub has_told : Place → Bool
has_told p = has_tested p || is_end p || stays_closing p

abbrev pub has_submitted : Place → Bool
has_submitted p = has_tested p || has_tested_ring p

module _ (c : Configuration) (x : Playing) where
  pub record IsSettled : Type 0 where
    pub told : (i : ℕ) → has_told (place_at c x i) ≡ true → HasTold (own_of x.world i) (desk_of c x i)
    pub submitted : (i : ℕ) → has_submitted (place_at c x i) ≡ true → HasSubmitted c (own_of x.world i)
    -- on its wake word it has no request that isn't over, and a closing one waits on its ring for one
    pub free : (i : ℕ) → waits_on_word (place_at c x i) ≡ true → has_requests i x.world.common ≡ false
    pub busy : (i : ℕ) → stays_closing (place_at c x i) ≡ true → has_requests i x.world.common ≡ true
    -- it sleeps on its ring after an enter, and nothing has landed while it sleeps
    pub entered : (i : ℕ) → is_to_sleep_on_ring (place_at c x i) ≡ true → HasEntered i (own_of x.world i) x.world.common
    pub entered_then : (i : ℕ) → sleeps c x i ≡ true → ends_ring_wait (place_at c x i) ≡ true → HasEntered i (own_of x.world i) x.world.common
    pub landed : (i : ℕ) → sleeps c x i ≡ true → ends_ring_wait (place_at c x i) ≡ true → (seat_of x.world.common i).landed ≡ []
