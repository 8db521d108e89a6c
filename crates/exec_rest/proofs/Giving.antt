-- Where the parts lead: to a place at which a run queue is given a task that its worker made or woke comes only a worker of the
-- pool.
use Rattle.std.{proofs.{Common.{◌≡◌, ℕ, Bool, true, false, ◌-◌, ◌==◌, if◌then◌else◌, arith}, lemmas.Bool.false≢true}, specs.Prelude.{nat_le, nat_lt, not}}
use Rattle.exec_words.specs.declared.head.Head.{Head}
use Rattle.exec_machine.specs.{declared.{config.Configuration.Configuration, state.Waiting.Waiting}, Ranges.ring_size, World.{Common, Own as Books}}
use Rattle.exec_moves.specs.{declared.{handing.{AfterCallbacks.AfterCallbacks, AfterClaim.AfterClaim, AfterKick.AfterKick, AfterLeave.AfterLeave, AfterPush.AfterPush, AfterSignal.AfterSignal}, idling.{AfterWait.AfterWait, Scan.Scan, Stay.Stay}, place.{AfterService.AfterService, Found.Found, Place.{Place, Place as at}, Round.Round}}, Callback.{after_callbacks, has_callbacks, is_of_pool, next_callback, to_queue}, Claim.{Claimed, after_claim}, Load.after_loads, Look.{after_withdrawal, looks_from, past_own}, Parts.{after_kick, after_leave, after_push, after_return, after_signal}, Poll.after_begin, Search.{judge_head, judge_tail, looks_at, past, past_own_queue}, Send.after_spawn, Serve.after_service, State.{Desk, Moved}, Wait.{after_wait, first_search, waits, withdraws}}
use Rattle.exec_rest.{specs.AtRest.is_given, proofs.Continuing.{is_light, light_next_pick, light_after_send}}

module _ (c : Configuration) (i : ℕ) (me : Books) (s : Common) where
  -- if a task is given there, worker i is of the pool
  abbrev pub Fair : Place → Type 0
  Fair p = is_given p ≡ true → is_of_pool s i ≡ true

  -- none is given there
  pub none : false ≡ true → is_of_pool s i ≡ true
  none h = absurd (false≢true h)

  pub fair_light : (q : Place) → is_light q ≡ true → Fair q
  fair_light = grind arith

  -- by a test, this or that: of places, desks and moves
  pub fair_if : (b : Bool) (p q : Place) → Fair p → Fair q → Fair (if b then p else q)
  fair_if = grind arith

  pub desk_if : (b : Bool) (d e : Desk) → Fair d.place → Fair e.place → Fair (if b then d else e).place
  desk_if = grind arith

  pub move_if : {T : Type 0} (b : Bool) (m n : Moved T) → Fair m.desk.place → Fair n.desk.place → Fair (if b then m else n).desk.place
  move_if = grind arith

  -- WHERE THE PARTS LEAD

  -- what it made or woke goes into its own run queue, where it is of the pool
  pub queued : (b : AfterPush) → Fair (to_queue s i b)
  queued = grind arith

  pub spawned : (t : ℕ) → Fair (after_spawn c i s t)
  spawned = grind arith

  pub begun : (t : ℕ) (w : Waiting) → Fair (at.Poll t (after_begin w))
  begun = grind (arith, none)

  pub left : (b : AfterLeave) (d : Desk) → Fair (after_leave c i me s b d)
  left = grind arith

  pub returned : (last : Bool) (b : AfterLeave) (d : Desk) → Fair (after_return c i me s last b d)
  returned last b d = fair_if last _ _ none (left b d)

  pub called : (n : AfterCallbacks) (d : Desk) → Fair (after_callbacks (ring_size c) i s n d)
  called = grind arith

  pub calling : (books : Books) (n : AfterCallbacks) (d : Desk) → Fair (next_callback (ring_size c) i books s n d)
  calling books n d = fair_if (has_callbacks books d) _ _ none (called n d)

  pub pushed : (b : AfterPush) (d : Desk) → Fair (after_push c i me s b d)
  pushed = grind (arith, fair_light, none, light_next_pick, calling)

  pub kicked : (b : AfterKick) (d : Desk) → Fair (after_kick c i me s b d)
  kicked = grind (arith, left, pushed)

  pub signalled : (b : AfterSignal) (d : Desk) → Fair (after_signal c i me s b d)
  signalled = grind (arith, fair_light, kicked, pushed, light_after_send)

  pub claiming : (b : AfterClaim) (y : Claimed) → Fair (after_claim b y)
  claiming = grind arith

  pub loaded : (r : Round) (f : Found) (d : Desk) → Fair (after_loads me r f d)
  loaded = grind (arith, none)

  pub served : (b : AfterService) (d : Desk) → Fair (after_service b d)
  served = grind arith

  pub withdrawing : (n : AfterWait) → Fair (withdraws s i n)
  withdrawing = grind (arith, fair_if, none)

  pub waited : (y : Stay) (n : AfterWait) → Fair (after_wait s i y n)
  waited = grind (arith, withdrawing, none)

  pub waiting_on : (d : Desk) → Fair (waits c i s d)
  waiting_on = grind arith

  pub searching : (d : Desk) → Fair (first_search c i s d)
  searching d = fair_if (not (is_of_pool s i)) _ _ (waiting_on d) (fair_if (nat_le c.workers 1) _ _ none (fair_if d.searching _ _ none none))

  pub looking : (j : ℕ) (d : Desk) → Fair (looks_from c i s j d)
  looking j d = fair_if (nat_lt (past_own i j) c.workers) _ _ none (waiting_on d)

  pub withdrawn : (came : Bool) (n : AfterWait) (d : Desk) → Fair (after_withdrawal c i me s came n d)
  withdrawn = grind arith

  pub scanned : (y : Scan) → Fair (looks_at c i y)
  scanned y = fair_if (nat_lt (past_own_queue c i y).passed c.workers) _ _ none none

  pub headed : (y : Scan) (h : Head) → Fair (judge_head c i y h)
  headed y h = fair_if (h.gap == 0) _ _ none (scanned (past y))

  pub tailed : (y : Scan) (h : Head) (tail : ℕ) → Fair (judge_tail c i y h tail)
  tailed y h tail = fair_if (nat_lt 256 (tail - h.real)) _ _ none (fair_if (nat_lt (tail - h.real) 2) _ _ (scanned (past y)) none)
