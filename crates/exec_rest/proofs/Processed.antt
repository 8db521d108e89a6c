-- No move but the taking of a batch and the closing of the mailbox changes how many batches a worker took.
use Rattle.std.{proofs.{Common.{◌≡◌, ℕ, Bool, true, false, List, [], ◌∷◌, Option, Some, None, refl, ◌∙◌, ◌-◌, if◌then◌else◌, arith}, lemmas.Bool.true≢false}, specs.Prelude.{length, slice_get}}
use Rattle.exec_task.specs.declared.drain.Drain.{Drain}
use Rattle.exec_words.specs.{Queue.Queue, declared.word.PureWord.PureWord}
use Rattle.exec_machine.specs.{declared.{config.Configuration.Configuration, event.Event.TheVariants.{Sleep, Turn}}, Deadlines.next_due, Requests.outcome_given, World.{Common, request_of, sleeper_of, Own as Books}}
use Rattle.exec_moves.specs.{declared.{handing.{AfterKick.AfterKick, AfterPop.AfterPop, AfterPush.AfterPush, AfterSignal.AfterSignal, InGlobal.InGlobal, InKick.InKick, InPop.InPop, InPush.InPush, InSignal.{InSignal, InSignal as signals}}, idling.{InLook.InLook, InRingWait.InRingWait, InScan.InScan, InSearch.{InSearch, InSearch as search}, InWordWait.InWordWait, Stay.Stay}, place.{InClosing.InClosing, InLoads.InLoads, InMail.InMail, InPick.InPick, InService.InService, Place.{Place, Place as at}, Reaping.Reaping, Round.Round, Service.Service}}, Close.{close_sleeper, first_asleep, first_held, orphan, visit}, Move.{move_at, move_closing, move_global, move_kick, move_loads, move_look, move_mail, move_pick, move_pop, move_push, move_ring_wait, move_scan, move_search, move_service, move_signal, move_submit, move_word_wait}, Pop.{pops, shard_count}, Serve.{Ring, end_service, enter, first_to_fire, others_after_reap, reap, result_in}, State.{Desk, Things, WakePoll, does}, Submit.Due, Told.woken_where_awaited, Wait.noting_sleep}
use Rattle.exec_rest.proofs.Counted.{Keeps, all_let_go, callbacks_kept, dropped, fired, if_ended, kept_if, moved_if, poll_kept, woken}

-- the moves that do
abbrev pub takes_mail : Place → Bool
takes_mail (Place.Mail InMail.TakeMail) = true
takes_mail (Place.Closing InClosing.CloseMailbox) = true
takes_mail _ = false

-- EACH MOVE, of a group by its place
module _ (c : Configuration) (i : ℕ) (me : Books) (s : Common) (d : Desk) (x : Things) where
  -- PICKS, POPS AND PUSHES

  pick_kept : (p : InPick) → Keeps d (move_pick c i d x p)
  pick_kept = grind arith

  popped : (b : AfterPop) (q : Queue ℕ) (vs : List ℕ) → q.values ≡ vs → Keeps d (pops c i b d q)
  popped = grind arith

  pop_kept : (p : InPop) (b : AfterPop) → Keeps d (move_pop c i d x p b)
  pop_kept = grind arith

  push_kept : (p : InPush) (b : AfterPush) → Keeps d (move_push c i me s d x p b)
  push_kept = grind arith

  -- COUNTS AND SIGNALS
  global_kept : (p : InGlobal) (b : AfterPush) → Keeps d (move_global c i me s d x p b)
  global_kept = grind arith

  kick_kept : (p : InKick) (b : AfterKick) → Keeps d (move_kick c i me s d x p b)
  kick_kept = grind arith

  signal_kept : (p : InSignal) (j : ℕ) (b : AfterSignal) → Keeps d (move_signal c i me s d x p j b)
  signal_kept signals.SetLatch j b = refl
  signal_kept (signals.Raise ring) j b = refl

  -- A SERVICE
  judged : (v : Service) (r : Reaping) (busy : Bool) (landed : List ℕ) (wakes : WakePoll) → Keeps d (reap i v r s d (record { busy = busy; landed = landed; wakes = wakes }))
  judged v r busy [] wakes = refl
  judged v r busy (q ∷ later) wakes = if_ended (outcome_given (request_of s q) (result_in (request_of s q).phase)) q (request_of s q) (others_after_reap later wakes d)

  entered : (e : Desk) (r : Ring) → (enter me e r).desk.processed ≡ e.processed
  entered e r = moved_if _ _ _ refl refl

  submit_kept : (from : ℕ) (v : Service) (due : Due) → Keeps d (move_submit c i me s d x from v due)
  submit_kept = grind arith

  ended : (v : Service) (first : Option ℕ) → first_to_fire i me s d ≡ first → Keeps d (end_service i v me s d)
  ended v None h = rw h refl
  ended v (Some z) h = rw h (fired z (sleeper_of s z) d)

  service_kept : (p : InService) (v : Service) → Keeps d (move_service c i me s d x p v)
  service_kept = grind (arith, judged, submit_kept, entered, ended)

  mail_kept : (p : InMail) → takes_mail (at.Mail p) ≡ false → Keeps d (move_mail i me s d x p)
  mail_kept = grind arith

  -- WHO SEARCHES, LOOKS AND WAITS
  loads_kept : (p : InLoads) (r : Round) → Keeps d (move_loads i me d x p r)
  loads_kept = grind arith

  search_kept : (p : InSearch) → Keeps d (move_search c d x p)
  search_kept search.LoadSearchCount = refl
  search_kept search.AddSearchCount = refl

  scan_kept : (p : InScan) → Keeps d (move_scan c i me s d x p)
  scan_kept = grind arith

  look_kept : (p : InLook) → Keeps d (move_look c i s d x p)
  look_kept = grind arith

  ring_wait_kept : (p : InRingWait) (y : Stay) → Keeps d (move_ring_wait c i me s d x p y)
  ring_wait_kept = grind arith

  -- on its wake word: the moment of a sleep is noted
  noted : (w : PureWord) (due : Bool) (e : Desk) → (noting_sleep s.clock (if due then does Turn e w else does (Sleep (next_due s i)) e w)).desk.processed ≡ e.processed
  noted w true e = refl
  noted w false e = refl

  word_wait_kept : (p : InWordWait) → Keeps d (move_word_wait i s d x p)
  word_wait_kept = grind arith

  -- A CLOSING, but for that of the mailbox
  visited : (drain : Drain) (shard : List ℕ) (newest : Option ℕ) → slice_get shard (length shard - 1) ≡ newest → Keeps d (visit (shard_count c) drain d shard)
  visited drain shard None h = rw h refl
  visited drain shard (Some t) h = rw h refl

  orphaned : (first : Option ℕ) → first_held s d ≡ first → Keeps d (orphan i s d)
  orphaned None h = rw h refl
  orphaned (Some r) h = rw h (dropped r (request_of s r) (woken_where_awaited r (request_of s r) d) ∙ woken r (request_of s r) d)

  sleeper_closed : (first : Option ℕ) → first_asleep i s d ≡ first → Keeps d (close_sleeper i s d)
  sleeper_closed None h = rw h refl
  sleeper_closed (Some z) h = rw h (fired z (sleeper_of s z) d)

  closing_kept : (p : InClosing) → takes_mail (at.Closing p) ≡ false → Keeps d (move_closing c i s d x p)
  closing_kept = grind (arith, visited, kept_if, all_let_go, true≢false, orphaned, sleeper_closed)

-- ANY MOVE
pub processed_kept : (c : Configuration) (i : ℕ) (me : Books) (s : Common) (d : Desk) (x : Things) (p : Place) → takes_mail p ≡ false → (move_at c i me s d x p).desk.processed ≡ d.processed
processed_kept = grind (arith, pick_kept, moved_if, poll_kept, callbacks_kept, loads_kept, service_kept, mail_kept, search_kept, scan_kept, look_kept, ring_wait_kept, word_wait_kept, closing_kept, pop_kept, push_kept, global_kept, kick_kept, signal_kept)
