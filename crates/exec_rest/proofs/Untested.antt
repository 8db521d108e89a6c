-- Nobody comes to a place of those to which the test for work leads but from the test, or from another such place.
use Rattle.std.{proofs.{Common.{◌≡◌, ℕ, ◌-◌, Bool, true, false, List, [], ◌∷◌, length, Option, Some, None, refl, arith}, lemmas.Bool.true≢false}, specs.Prelude.slice_get}
use Rattle.exec_task.specs.declared.drain.Drain.{Drain}
use Rattle.exec_words.specs.{Queue.{Queue, head_of, tail_of}, Word.asks_signal}
use Rattle.exec_machine.specs.{declared.config.Configuration.Configuration, Tests.is_applied, World.{Common, sleeper_of, Own as Books}}
use Rattle.exec_moves.specs.{declared.{handing.{AfterKick.AfterKick, AfterPop.AfterPop, AfterPush.AfterPush, AfterSignal.AfterSignal, InGlobal.InGlobal, InKick.InKick, InPop.InPop, InPush.InPush, InSignal.{InSignal, InSignal as signals}}, idling.{InRingWait.InRingWait, Stay.Stay as stay}, place.{InClosing.InClosing, InLoads.InLoads, InMail.InMail, InPick.InPick, InService.InService, Place.Place, Reaping.Reaping, Round.Round, Service.Service}}, Close.{close_sleeper, first_asleep, first_held, orphan, visit}, Move.{move_at, move_closing, move_global, move_kick, move_loads, move_mail, move_pick, move_pop, move_push, move_ring_wait, move_service, move_signal, move_submit}, Pop.{load_pop_head, pops, shard_count}, Serve.{end_service, first_to_fire, reap}, State.{Desk, Things, WakePoll, word_of}, Submit.Due}
use Rattle.exec_rest.{specs.Posted.has_tested, proofs.{Continuing.{light_after_close, light_after_empty_pop, calm_after_fit, light_after_letting_go, light_after_pop, calm_after_return, calm_after_service, light_cancels_left, light_first_pick, light_judge_pop, light_polls, light_tells_from, calm_light}, Away.{IsAway, away_claim, away_desk_if, away_if, away_kick, away_made_up, away_moved_if, away_push, away_signal, calls, calm_untested, polls, posts, posts_root}}}

-- the test for work
abbrev pub is_test : Place → Bool
is_test (Place.TestForWork f) = true
is_test _ = false

-- EACH MOVE from another place that isn't the test, of a group by its place
module _ (c : Configuration) (i : ℕ) (me : Books) (s : Common) (d : Desk) (x : Things) (here : has_tested d.place ≡ false) where
  -- PICKS, POPS AND PUSHES

  picks : (p : InPick) → IsAway (move_pick c i d x p)
  picks = grind arith

  popped : (b : AfterPop) (q : Queue ℕ) (vs : List ℕ) → q.values ≡ vs → IsAway (pops c i b d q)
  popped b q [] h = rw h (calm_untested _ (calm_light _ (light_after_empty_pop c i b)))
  popped b q (t ∷ ts) h = rw h (calm_untested _ (calm_light _ (light_after_pop c b t d)))

  pop_loaded : (b : AfterPop) (q : Queue ℕ) → IsAway (load_pop_head c i b d q)
  pop_loaded b q = calm_untested _ (calm_light _ (light_judge_pop c i b (head_of q) (tail_of q - q.real)))

  pops_one : (p : InPop) (b : AfterPop) → IsAway (move_pop c i d x p b)
  pops_one = grind (arith, popped, pop_loaded, away_moved_if)

  pushes_one : (p : InPush) (b : AfterPush) → IsAway (move_push c i me s d x p b)
  pushes_one = grind (arith, calm_untested, calm_after_fit, away_if, away_push, away_moved_if)

  -- COUNTS AND SIGNALS
  globals : (p : InGlobal) (b : AfterPush) → IsAway (move_global c i me s d x p b)
  globals = grind (arith, away_if, away_push)

  kicks_one : (p : InKick) (b : AfterKick) → IsAway (move_kick c i me s d x p b)
  kicks_one = grind (arith, away_if, away_kick, away_moved_if)

  signals_one : (p : InSignal) (j : ℕ) (b : AfterSignal) → IsAway (move_signal c i me s d x p j b)
  signals_one signals.SetLatch j b = away_if (asks_signal (word_of x j)) _ _ refl (away_signal c i me s b d)
  signals_one (signals.Raise ring) j b = away_signal c i me s b d

  -- A SERVICE
  reaps : (v : Service) (r : Reaping) (busy : Bool) (landed : List ℕ) (wakes : WakePoll) → IsAway (reap i v r s d (record { busy = busy; landed = landed; wakes = wakes }))
  reaps v r busy [] wakes = refl
  reaps v r busy (q ∷ later) wakes = refl

  submits_one : (from : ℕ) (v : Service) (due : Due) → IsAway (move_submit c i me s d x from v due)
  submits_one = grind arith

  ends_service : (v : Service) (first : Option ℕ) → first_to_fire i me s d ≡ first → IsAway (end_service i v me s d)
  ends_service v None h = rw h (calm_untested _ (calm_after_service v.back d))
  ends_service v (Some z) h = rw h (away_desk_if (is_applied (sleeper_of s z).forwarding) _ _ here here)

  serves : (p : InService) (v : Service) → IsAway (move_service c i me s d x p v)
  serves = grind (arith, reaps, submits_one, ends_service)

  -- THE LOADS AND THE MAILBOX
  loads : (p : InLoads) (r : Round) → IsAway (move_loads i me d x p r)
  loads = grind arith

  mails : (p : InMail) → IsAway (move_mail i me s d x p)
  mails = grind arith

  waits_closing : (p : InRingWait) → IsAway (move_ring_wait c i me s d x p stay.Closing)
  waits_closing = grind arith

  -- A CLOSING
  visited : (drain : Drain) (shard : List ℕ) (newest : Option ℕ) → slice_get shard (length shard - 1) ≡ newest → IsAway (visit (shard_count c) drain d shard)
  visited drain shard None h = rw h refl
  visited drain shard (Some t) h = rw h refl

  orphaned : (first : Option ℕ) → first_held s d ≡ first → IsAway (orphan i s d)
  orphaned None h = rw h (calm_untested _ (calm_light _ (light_after_letting_go None _)))
  orphaned (Some r) h = rw h (calm_untested _ (calm_light _ (light_after_letting_go _ _)))

  sleeper_closed : (first : Option ℕ) → first_asleep i s d ≡ first → IsAway (close_sleeper i s d)
  sleeper_closed None h = rw h refl
  sleeper_closed (Some z) h = rw h (calm_untested _ (calm_light _ (light_after_letting_go None _)))

  closes : (p : InClosing) → IsAway (move_closing c i s d x p)
  closes = grind (arith, calm_light, calm_untested, light_after_close, light_tells_from, posts_root, visited, light_cancels_left, light_after_letting_go, orphaned, sleeper_closed)

  -- ANY OF THEM
  pub untested : (p : Place) → has_tested p ≡ false → is_test p ≡ false → IsAway (move_at c i me s d x p)
  untested = grind (arith, calm_light, calm_untested, light_first_pick, picks, away_moved_if, light_polls, polls, calls, loads, serves, mails, true≢false, waits_closing, away_made_up, closes, pops_one, calm_after_return, pushes_one, globals, kicks_one, away_claim, signals_one, posts)
