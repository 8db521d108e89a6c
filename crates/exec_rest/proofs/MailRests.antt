-- Where each move leads, as far as a wait goes: its wake word says that it waits only at places of a wait that it comes to from
-- others of that wait. So a worker comes with no message to where it sleeps.
use Rattle.std.{proofs.{Common.{◌≡◌, ℕ, ◌==◌, Bool, true, false, ◌||◌, List, [], ◌∷◌, Option, Some, None, refl, ap, if◌then◌else◌, nat_lt, nat_le, arith}, lemmas.Bool.true≢false}, specs.Prelude.{◌*◌, drop, not}}
use Rattle.exec_words.specs.{Idle.is_in, Word.{asks_signal, is_armed}}
use Rattle.exec_machine.specs.{declared.config.Configuration.Configuration, Choice.Choice.Plain, Deadlines.next_due, Tests.is_applied, World.{Common, Own as Books, seat_of, sleeper_of}}
use Rattle.exec_moves.specs.{declared.{handing.{AfterClaim.AfterClaim, AfterPush.AfterPush, AfterSignal.AfterSignal, InGlobal.{InGlobal, InGlobal as global}, InSignal.{InSignal, InSignal as signal}, AfterSend.AfterSend as send}, idling.{AfterWait.{AfterWait, AfterWait as next}, InLook.{InLook, InLook as looking}, InRingWait.InRingWait, InScan.InScan, InSearch.{InSearch, InSearch as searching}, InWordWait.InWordWait, Stay.{Stay, Stay as stay}}, place.{InLoads.{InLoads, InLoads as load}, InService.InService, Place.{Place, Place as at}, Reaping.Reaping, Round.{Round, Round as round}, Service.Service}}, Callback.is_of_pool, Claim.{Claimed, after_claim, claimed}, Global.has_any, Load.{has_come, has_submissions, is_ready, leaves_for_turn}, Look.{after_withdrawal, look_at_mirror, looks_from, past_own, searching_if}, Move.{move_at, move_global, move_loads, move_look, move_ring_wait, move_scan, move_search, move_service, move_signal, move_submit, move_word_wait}, Parts.after_signal, Send.first_letter, Serve.{after_service, end_service, first_to_fire, reap}, State.{Desk, Moved, Own, Things, turns, word_of}, Submit.Due, Thing.ring_of, Told.told_of_fire, Wait.{after_wait, first_search, goes_back, waits, withdraws}}
use Rattle.exec_rest.{specs.Places.waits_on, proofs.{Continuing.{Nearly, calm_after_return, calm_after_service, light_first_pick, light_leaves_for_turn, light_polls, near_after_push, near_after_signal, calm_light}, MovesA.{kicks_by, mails_by, picked, pops_by, pushes_by}, MovesB.{calls_by, closes, posts}, MovesC.polls_by, MovesLook.waits_at, Plain.{calm, is_calm}, Waiting.either}}

-- its wake word doesn't say that it waits
abbrev pub is_free : Place → Bool
is_free q = not (is_armed (waits_on q))

-- from there alone it comes to where it does
abbrev pub is_of_wait : Place → Bool
is_of_wait (Place.RingWait InRingWait.ArmRing y) = true
is_of_wait (Place.RingWait InRingWait.EnterRing y) = true
is_of_wait (Place.RingWait InRingWait.SleepOnRing y) = true
is_of_wait (Place.WordWait InWordWait.ArmWord) = true
is_of_wait (Place.WordWait InWordWait.SleepOnWord) = true
is_of_wait _ = false

by_calm : (q : Place) → is_calm q ≡ true → is_free q ≡ true
by_calm q h = ap (λ t. not (is_armed t)) (calm q h).waits

by_near : {s : Common} {i : ℕ} {q : Place} → Nearly s i q → is_free q ≡ true
by_near near = ap (λ t. not (is_armed t)) near.waits

-- by a test, this or that move, or desk
choose : {T : Type 0} (b : Bool) (m n : Moved T) → is_free m.desk.place ≡ true → is_free n.desk.place ≡ true → is_free (if b then m else n).desk.place ≡ true
choose true m n one other = one
choose false m n one other = other

desk_if : (b : Bool) (d e : Desk) → is_free d.place ≡ true → is_free e.place ≡ true → is_free (if b then d else e).place ≡ true
desk_if true d e one other = one
desk_if false d e one other = other

module _ (c : Configuration) (i : ℕ) (me : Books) (s : Common) (d : Desk) (x : Things) where
  abbrev Frees : Moved Things → Type 0
  Frees m = is_free m.desk.place ≡ true

  loads : (p : InLoads) (r : Round) → Frees (move_loads i me d x p r)
  loads (load.LoadOwnWord f) round.First = refl
  loads _ r = refl

  -- SERVICES

  reaps : (r : Reaping) (v : Service) (landed : List ℕ) → (seat_of s i).landed ≡ landed → is_free (reap i v r s d (ring_of s x i)).desk.place ≡ true
  reaps r v [] h = rw h refl
  reaps r v (q ∷ later) h = rw h refl

  fires : (z : ℕ) → is_free d.place ≡ true → is_free (told_of_fire z (sleeper_of s z) d).place ≡ true
  fires z here = desk_if (is_applied (sleeper_of s z).forwarding) _ _ here here

  ends_service : (v : Service) → is_free d.place ≡ true → (due : Option ℕ) → first_to_fire i me s d ≡ due → is_free (end_service i v me s d).desk.place ≡ true
  ends_service v here None h = rw h (by_calm (after_service v.back d) (calm_after_service v.back d))
  ends_service v here (Some z) h = rw h (fires z here)

  submits_on : (from : ℕ) (v : Service) (due : Due) → Frees (move_submit c i me s d x from v due)
  submits_on = grind arith

  services : (p : InService) (v : Service) → is_free d.place ≡ true → Frees (move_service c i me s d x p v)
  services = grind (arith, reaps, submits_on, ends_service)

  -- THE SEARCH

  searches : (p : InSearch) → Frees (move_search c d x p)
  searches searching.LoadSearchCount = either is_free (nat_le c.workers (2 * x.idle.count)) (at.Look looking.Publish) (at.Search searching.AddSearchCount) refl refl
  searches searching.AddSearchCount = refl

  scans : (p : InScan) → Frees (move_scan c i me s d x p)
  scans = grind arith

  -- THE LOOK

  waits_free : (e : Desk) → is_free (waits c i s e) ≡ true
  waits_free e = waits_at c i me s e is_free refl refl (λ n. refl) refl

  looks_on : (j : ℕ) → is_free (looks_from c i s j d) ≡ true
  looks_on j = either is_free (nat_lt (past_own i j) c.workers) (at.Look (looking.LookAtHead (past_own i j))) (waits c i s d) refl (waits_free d)

  mirrors : (last : Bool) (g : List ℕ) → is_free (look_at_mirror last d g).desk.place ≡ true
  mirrors last [] = refl
  mirrors last (t ∷ ts) = refl

  looks : (p : InLook) → Frees (move_look c i s d x p)
  looks = grind (arith, mirrors, either, looks_on, waits_free, choose)

  abbrev read : Desk
  read = record d { read = s.clock }

  -- after the clock was read
  first : is_free (first_search c i s read) ≡ true
  first = grind arith

  reads : (come : Bool) → is_free (if come then turns {T = Own} (leaves_for_turn c i me s d) read tt else turns {T = Own} (first_search c i s read) read tt).desk.place ≡ true
  reads true = by_calm _ (calm_light _ (light_leaves_for_turn c i me s d))
  reads false = first

  withdrawn : (came : Bool) (n : AfterWait) (e : Desk) → is_free (after_withdrawal c i me s came n e) ≡ true
  withdrawn = grind arith

  -- WAITS

  back_free : (n : AfterWait) → is_free (goes_back n) ≡ true
  back_free next.Serve = refl
  back_free _ = refl

  withdraws_free : (n : AfterWait) → is_free (withdraws s i n) ≡ true
  withdraws_free n = either is_free (is_of_pool s i) (at.Withdraw n) (goes_back n) refl (back_free n)

  after_wait_free : (y : Stay) (n : AfterWait) → is_free (after_wait s i y n) ≡ true
  after_wait_free stay.Turn n = withdraws_free n
  after_wait_free stay.Closing n = refl

  rings : (p : InRingWait) (y : Stay) → is_of_wait (at.RingWait p y) ≡ false → Frees (move_ring_wait c i me s d x p y)
  rings = grind (arith, choose, after_wait_free, true≢false)

  words : (p : InWordWait) → is_of_wait (at.WordWait p) ≡ false → Frees (move_word_wait i s d x p)
  words = grind arith

  -- WHAT IS HANDED ON

  globals : (p : InGlobal) (b : AfterPush) → Frees (move_global c i me s d x p b)
  globals global.Append b = either is_free s.queue_closed _ (at.Global global.LoadGlobalSet b) (by_near (near_after_push s i c me b d)) refl
  globals global.LoadGlobalSet b = either is_free (has_any x.idle) _ _ refl (by_near (near_after_push s i c me b d))
  globals (global.AddGlobalCount set) b = refl
  globals global.ReturnGlobalCount b = either is_free (x.idle.count == 1) (at.Global global.LoadGlobalSet b) _ refl (by_near (near_after_push s i c me b d))

  claims : (b : AfterClaim) (it : Claimed) → is_free (after_claim b it) ≡ true
  claims = grind arith

  latches : (p : InSignal) (j : ℕ) (b : AfterSignal) → Frees (move_signal c i me s d x p j b)
  latches signal.SetLatch j b = either is_free (asks_signal (word_of x j)) _ (after_signal c i me s b d) refl (by_near (near_after_signal s i c me b d))
  latches (signal.Raise ring) j b = by_near (near_after_signal s i c me b d)

  pub frees : (p : Place) → d.place ≡ p → is_of_wait p ≡ false → is_free (move_at c i me s d x p).desk.place ≡ true
  frees at.BeginTurn is h = by_calm _ (calm_light _ (light_first_pick s i))
  frees (at.Pick p) is h = by_near (picked ⊥ c i me s d x p).near
  frees at.TakeRootFlag is h = choose {T = Own} d.root_ready _ _ (by_calm _ (calm_light _ (light_polls me.root (record d { root_ready = false })))) refl
  frees (at.Poll t p) is h = by_near (polls_by c i me s d x (ap is_calm is) t p).near
  frees (at.Callbacks p n) is h = by_near (calls_by ⊥ c i me s d x p n).near
  frees (at.Loads p r) is h = loads p r
  frees (at.Service p v) is h = services p v (ap is_free is)
  frees (at.Mail p) is h = by_near (mails_by ⊥ c i me s d x p).near
  frees (at.TestForWork f) is h = choose {T = Own} (is_ready me f d || has_submissions c me) _ _ (by_calm _ (calm_light _ (light_leaves_for_turn c i me s d))) refl
  frees at.ReadClock is h = reads (has_come s.clock (next_due s i))
  frees (at.Search p) is h = searches p
  frees (at.Scan p) is h = scans p
  frees (at.Look p) is h = looks p
  frees (at.RingWait p y) is h = rings p y h
  frees (at.WordWait p) is h = words p h
  frees (at.Withdraw n) is h = let came = not (is_in x.idle.published i) in withdrawn came n (searching_if came d)
  frees (at.Closing p) is h = by_near (closes ⊥ c i me s d x p).near
  frees (at.Pop p b) is h = by_near (pops_by ⊥ c i me s d x p b).near
  frees (at.LeaveSearch b) is h = by_calm _ (calm_after_return c i me s (x.idle.count == 1) b d)
  frees (at.Push p b) is h = by_near (pushes_by ⊥ c i me s d x p b).near
  frees (at.Global p b) is h = globals p b
  frees (at.Kick p b) is h = by_near (kicks_by ⊥ c i me s d x p b).near
  frees (at.ClaimWorker set b) is h = claims b (claimed set x.idle)
  frees (at.Signal p j b) is h = latches p j b
  frees (at.SendCancel b) is h = by_near (posts c i s x (first_letter d).to (first_letter d).message Plain (send.Cancels b) (record d { letters = drop 1 d.letters })).near
