-- Who seeks holds a search count: so it is in the first state, and each step keeps it.
use Rattle.std.{proofs.{Common.{◌≡◌, ℕ, ◌*◌, ◌+◌, ◌==◌, ◌&&◌, ◌||◌, Bool, true, false, List, [], ◌∷◌, set, if◌then◌else◌, refl, arith}, lemmas.Bool.{cases_Bool, false≢true}}, specs.Prelude.{nat_le, nat_lt, not}}
use Rattle.exec_words.specs.{Head.is_stealable_at, Queue.{head_of, tail_of}, Word.{asks_signal, is_idle_at}}
use Rattle.exec_machine.specs.{declared.{config.Configuration.Configuration, step.Action.{Action, Action as action}}, Deadlines.next_due, Progress.Plan, Ranges.ring_size, World.{Common, Own as Books, own_of, request_of}}
use Rattle.exec_moves.specs.{declared.{idling.{AfterWait.{AfterWait, AfterWait as later}, InRingWait.{InRingWait, InRingWait as ring}, Stay.{Stay, Stay as stay}, InLook.InLook as look, InScan.InScan as scan, InSearch.InSearch as search, InWordWait.InWordWait as word}, place.{Place.{Place, Place as at}, InLoads.InLoads as load, InService.InService as step, Round.Round as round}, handing.InSignal.InSignal as signals}, Callback.{is_full, is_of_pool}, Load.{has_come, has_mail, has_submissions, is_ready, leaves_for_turn}, Look.{look_at_mirror, looks_from, past_own}, Move.{move, move_at}, Plays.{Playing, by_action, by_step, desk_of, first_desk, first_playing, newcomers}, Pop.same_head, Search.from_of, Serve.Ring, State.{Desk, Moved, Things, queue_of, word_of}, Thing.ring_of, Wait.{after_wait, enter_ring, has_completion, noting_sleep, waits}}
use Rattle.exec_rest.{specs.Posted.has_tested, proofs.{Away.{away_signal, calm_untested}, Bare.joined, BareMoves.put_in, Continuing.{calm_light, light_leaves_for_turn}, Untested.untested}}
use Rattle.exec_progress.{specs.{Going.is_seeking, Owed.quiet_items, Paced.HaveCounts}, proofs.{Pace.{each_first, newcomer}, PaceParts.{Calm, signalled, calm_there}, PaceMoves.in_place as tame, PaceSpins.enter_at}}

-- who seeks there holds a search count: of a place and whether one is held, of a desk, and of a move
abbrev Counts : Bool → Place → Type 0
Counts held p = is_seeking p ≡ true → held ≡ true

abbrev Has : Desk → Type 0
Has d = Counts d.searching d.place

abbrev Leads : {T : Type 0} → Moved T → Type 0
Leads m = Has m.desk

no : {T : Type 0} → false ≡ true → T
no h = absurd (false≢true h)

-- by a test, this or that
split : {A : Type 0} (P : A → Type 0) (b : Bool) (a z : A) → P a → P z → P (if b then a else z)
split P true a z one other = one
split P false a z one other = other

-- A MOVE

module _ (c : Configuration) (i : ℕ) (me : Books) (s : Common) (d : Desk) (x : Things) where
  -- whether a search count was held
  abbrev held : Bool
  held = d.searching

  -- nobody seeks at a calm place to which no test led
  off : (quiet : Bool) (q : Place) → has_tested q ≡ false → Calm (is_of_pool s i) d.spinner.budget quiet q → (b : Bool) → Counts b q
  off = grind arith

  leaves : Counts held (leaves_for_turn c i me s d)
  leaves = off true _ (calm_untested _ (calm_light _ (light_leaves_for_turn c i me s d))) (calm_there _ _ _ _ (light_leaves_for_turn c i me s d)) held

  waiting : (e : Desk) → Counts held (waits c i s e)
  waiting = grind arith

  looking : (j : ℕ) → Counts held (looks_from c i s j d)
  looking j = split (Counts held) (nat_lt (past_own i j) c.workers) _ _ no (waiting d)

  published : (b : Bool) → Counts b (at.Look (if b then look.ReturnLookCount else look.LookAtMirror false))
  published true = λ h. refl
  published false = no

  mirrored : (last : Bool) (g : List ℕ) → Leads (look_at_mirror last d g)
  mirrored last [] = no
  mirrored last (t ∷ ts) = no

  waited : (y : Stay) (n : AfterWait) (b : Bool) → Counts b (at.Withdraw n) → Counts b (after_wait s i y n)
  waited = grind arith

  ringing : (y : Stay) (b : Bool) (p q : InRingWait) → Counts held (at.RingWait p y) → Counts held (at.RingWait q y) → Counts held (at.RingWait (if b then p else q) y)
  ringing y b = split (λ p. Counts held (at.RingWait p y)) b

  entered : (y : Stay) (r : Ring) (b : Bool) → r.busy ≡ b → Leads (enter_ring y me d r)
  entered y r true h = rw h no
  entered y r false h = rw h (ringing y _ (ring.DisarmRing later.Begin) ring.SleepOnRing no no)

  -- of any place: all but these lead to calm ones
  in_place : (p : Place) → d.place ≡ p → Counts held p → Leads (move_at c i me s d x p)
  in_place (at.Loads load.LoadOwnHead r) here on = no
  in_place (at.Loads (load.LoadOwnMirror f) r) here on = no
  in_place (at.Loads (load.LoadOwnWord f) round.First) here on = no
  in_place (at.Loads (load.LoadOwnWord f) round.Second) here on = no
  in_place (at.Service (step.Signal j b) v) here on = no
  in_place (at.Signal signals.SetLatch j b) here on =
      split (Counts held) (asks_signal (word_of x j)) _ _ no (off true _ (away_signal c i me s b d) (signalled c i me s d.spinner.budget true b d (λ h. refl)) held)
  in_place (at.TestForWork f) here on = split Leads (is_ready me f d || has_submissions c me) _ _ leaves no
  in_place at.ReadClock here on = grind arith
  in_place (at.Search search.LoadSearchCount) here on = split (Counts held) (nat_le c.workers (2 * x.idle.count)) _ _ no no
  in_place (at.Search search.AddSearchCount) here on = λ h. refl
  in_place (at.Scan (scan.ClaimHalf y h tail)) here on = split Leads (same_head h (head_of (queue_of x (from_of c y)))) _ _ (λ k. on refl) (λ k. on refl)
  in_place (at.Scan (scan.ReleaseHalf from h)) here on = split Leads (same_head h (head_of (queue_of x from))) _ _ (λ k. on refl) (λ k. on refl)
  in_place (at.Scan p) here on = λ k. on refl
  in_place (at.Look look.Publish) here on = published held
  in_place (at.Look (look.LookAtMirror last)) here on = mirrored last x.global
  in_place (at.Look look.LookAtCount) here on = split (Counts held) (x.idle.count == 0) _ _ (looking 0) (waiting d)
  in_place (at.Look (look.LookAtTail j h)) here on = split (Counts held) (is_stealable_at h (tail_of (queue_of x j))) _ _ no (looking (j + 1))
  in_place (at.Look look.ExchangeLookCount) here on = split Leads (x.idle.count == 0) _ _ (λ h. refl) (waiting d)
  in_place (at.Look look.ReturnClaimed) here on = on
  in_place (at.Look p) here on = no
  in_place (at.Withdraw later.Search) here on = λ h. rw (on refl) refl
  in_place (at.RingWait ring.EnterFullRing y) here on = rw (enter_at me (record d { place = at.RingWait ring.TestRing y }) (ring_of s x i)) no
  in_place (at.RingWait ring.TestRing y) here on = split Leads (has_submissions c me || (not d.polled && is_full (ring_size c) d)) _ _ (waited y later.Serve held no) no
  in_place (at.RingWait ring.ArmRing y) here on = ringing y (is_idle_at (word_of x i) d.processed) _ _ no no
  in_place (at.RingWait ring.EnterRing y) here on = entered y (ring_of s x i) _ refl
  in_place (at.RingWait ring.SleepOnRing y) here on = split Leads (has_completion d (ring_of s x i)) _ _ no (split Leads (has_come s.clock (next_due s i)) _ _ no no)
  in_place (at.RingWait (ring.DisarmRing later.Search) y) here on = waited y later.Search held on
  in_place (at.RingWait (ring.DisarmRing n) y) here on = waited y n held no
  in_place (at.WordWait (word.SpinOnBatch left)) here on = split Has (has_mail d (word_of x i)) _ _ no no
  in_place (at.WordWait (word.SpinOnLatch left)) here on = split Has (word_of x i).latch _ _ no (split Has (nat_lt 1 left) _ _ no no)
  in_place (at.WordWait word.ArmWord) here on = no
  in_place (at.WordWait word.SleepOnWord) here on =
      split Leads (is_idle_at (word_of x i) d.processed) _ _ (split (λ m. Leads (noting_sleep s.clock m)) (has_come s.clock (next_due s i)) _ _ no no) no
  in_place (at.WordWait p) here on = waited stay.Turn later.Begin _ no
  in_place p here on =
      let m : Moved Things = move_at c i me s d x p in
      off (quiet_items m.desk == 0) m.desk.place (untested c i me s d x (rw here refl) p refl refl) (tame c i me s d x p here (λ h. no h) (λ h. no h) refl).1 _

-- THE FIRST STATE

pub counts_first : (p : Plan) → HaveCounts p.config (first_playing p)
counts_first p i = each_first Has p.config (λ k. no) p.config.workers 0 i (first_desk p.config i) no

-- EACH STEP

module _ (c : Configuration) (x : Playing) (counts : HaveCounts c x) where
  by_any : (a : Action) → HaveCounts c (by_action c x a).next
  by_any (action.Work i) j =
      let d = desk_of c x i in
      let me = own_of x.world i in
      let m : Moved Things = move c i me x.world.common d x.things in
      joined Has (set x.desks i m.desk) (newcomers c m.event) j (first_desk c j) (newcomer Has c (λ k. no) m.event j)
      (put_in Has x.desks i j m.desk (first_desk c j) (λ is. in_place c i me x.world.common d x.things d.place refl (counts i)) (counts j))
  by_any (action.Land r n) j = let k = (request_of x.world.common r).worker in put_in Has x.desks k j (record (desk_of c x k) { others = 0 }) (first_desk c j) (λ is. counts k) (counts j)
  by_any _ j = counts j

  -- a step that is not enabled changes nothing
  pub counts_then : (a : Action) → HaveCounts c (by_step c x a).next
  counts_then = grind (arith, cases_Bool, by_any, off)
