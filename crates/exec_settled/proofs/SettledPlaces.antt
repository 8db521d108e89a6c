-- What a worker has told and submitted, as its desk and its own part say it, and what is known of a place by which of its tests fail.
use Rattle.std.proofs.{Common.{◌≡◌, ℕ, Bool, true, false, List, Option, refl, sym, ap, ◌∙◌, arith}, lemmas.Bool.{false≢true, true≢false}}
use Rattle.exec_machine.specs.{declared.{config.Configuration.Configuration, event.Event.{Event, TheVariants.{Busy, Enter, Release, Rouse, Sleep, Turn, Wake}}}, World.Own as Books}
use Rattle.exec_moves.specs.{declared.{idling.{InRingWait.InRingWait, Stay.Stay}, place.{InClosing.InClosing, Place.{Place, Place as at}}}, Callback.has_callbacks, Load.has_submissions, State.Desk}
use Rattle.exec_rest.specs.{AtRest.{is_end, stays_closing}, Places.is_to_sleep_on_ring, Posted.has_tested}
use Rattle.exec_settled.{specs.Settled.{HasSubmitted, HasTold, ends_ring_wait, has_tested_ring, has_told, waits_on_word}, proofs.SettledParts.is_shut}
pub use Rattle.std.proofs.lemmas.Bool.{not-true}

-- WHAT THAT READS of a desk, and of an own part
pub record OfDesk : Type 0 where
  pub wakes : List ℕ
  pub outputs : ℕ
  pub completions : List ℕ
  pub results : List ℕ

abbrev pub kept : Desk → OfDesk
kept d = record { wakes = d.wakes; outputs = d.outputs; completions = d.completions; results = d.results }

pub record OfBooks : Type 0 where
  pub ended : List ℕ
  pub unenrolled : List ℕ
  pub cancels : List ℕ
  pub ready : List ℕ
  pub in_flight : ℕ

abbrev pub listed : Books → OfBooks
listed me = record { ended = me.ended; unenrolled = me.unenrolled; cancels = me.cancels; ready = me.ready; in_flight = me.in_flight }

pub told_with : (me mine : Books) (d e : Desk) → kept e ≡ kept d → mine.ended ≡ me.ended → HasTold me d → HasTold mine e
told_with = grind arith

pub submitted_with : (c : Configuration) (me mine : Books) → listed mine ≡ listed me → HasSubmitted c me → HasSubmitted c mine
submitted_with = grind arith

pub told_by : (me : Books) (d : Desk) → has_callbacks me d ≡ false → HasTold me d
told_by = grind arith

pub submitted_by : (c : Configuration) (me : Books) → has_submissions c me ≡ false → HasSubmitted c me
submitted_by = grind arith

-- PLACES

-- it sleeps on its ring next, or its wait there ends next
abbrev pub is_deep : Place → Bool
is_deep (Place.RingWait InRingWait.SleepOnRing y) = true
is_deep (Place.RingWait (InRingWait.DisarmRing n) y) = true
is_deep _ = false

pub word_tested : (p : Place) → has_tested p ≡ false → waits_on_word p ≡ false
word_tested = grind (arith, true≢false)

end_off : (p : InClosing) → is_shut (at.Closing p) ≡ false → is_end (at.Closing p) ≡ false
end_off = grind (arith, true≢false)

pub end_shut : (p : Place) → is_shut p ≡ false → is_end p ≡ false
end_shut = grind (arith, end_off)

pub closing_shut : (p : Place) → is_shut p ≡ false → stays_closing p ≡ false
closing_shut = grind arith

-- who is at none of these neither sleeps on its ring nor ends that
pub deep_off : (p : Place) → has_tested p ≡ false → is_shut p ≡ false → is_deep p ≡ false
deep_off = grind arith

-- nor is it past the test with which a wait there begins, nor has it told all
pub ring_off : (p : Place) → has_tested p ≡ false → is_shut p ≡ false → has_tested_ring p ≡ false
ring_off = grind arith

pub untold_off : (p : Place) → has_tested p ≡ false → is_shut p ≡ false → has_told p ≡ false
untold_off p out off = rw (out, end_shut p off, closing_shut p off) refl

-- before that test it sleeps there no more than elsewhere
pub deep_untested : (p : Place) → has_tested_ring p ≡ false → is_deep p ≡ false
deep_untested = grind arith

sleep_deep_ring : (p : InRingWait) (y : Stay) → is_deep (at.RingWait p y) ≡ false → (is_to_sleep_on_ring (at.RingWait p y) ≡ false) × (ends_ring_wait (at.RingWait p y) ≡ false)
sleep_deep_ring = grind arith

pub sleep_deep : (p : Place) → is_deep p ≡ false → (is_to_sleep_on_ring p ≡ false) × (ends_ring_wait p ≡ false)
sleep_deep = grind (arith, sleep_deep_ring)

-- EVENTS

-- no request is made by these, none ends, and none is staged
abbrev pub is_plain : Event → Bool
is_plain Turn = true
is_plain Enter = true
is_plain Busy = true
is_plain (Wake t) = true
is_plain (Release r) = true
is_plain (Rouse j) = true
is_plain (Sleep until) = true
is_plain _ = false

abbrev pub is_sleep : Event → Bool
is_sleep (Sleep until) = true
is_sleep _ = false

pub no_sleep : {T : Type 0} (e : Event) → is_sleep e ≡ false → (until : Option ℕ) → e ≡ Sleep until → T
no_sleep e calm until is = absurd (false≢true (sym calm ∙ ap is_sleep is))
