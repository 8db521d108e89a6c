-- What a move leaves of the run queues: one in which nothing is stays so, but for the own one where its worker writes that.
use Rattle.std.proofs.{Common.{◌≡◌, ℕ, zero, suc, Bool, true, false, List, [], ◌∷◌, ◌++◌, drop, get_or, set, Option, Some, None, if◌then◌else◌, refl, ap, ◌∙◌, subst, arith}, lemmas.Bool.true≢false}
use Rattle.exec_words.specs.Queue.{Queue, claimed}
use Rattle.exec_machine.specs.{declared.config.{Configuration.Configuration, ScriptWord.ScriptWord}, World.{Common, Own as Books}}
use Rattle.exec_moves.specs.{declared.{handing.{AfterCallbacks.AfterCallbacks, AfterKick.AfterKick, AfterPop.AfterPop, AfterPush.AfterPush, AfterSend.AfterSend, AfterSignal.AfterSignal, CallPlace.CallPlace, InGlobal.{InGlobal, InGlobal as global}, InKick.{InKick, InKick as kick}, InPop.InPop, InPush.InPush, InSignal.{InSignal, InSignal as signals}}, idling.{InLook.InLook, InRingWait.{InRingWait, InRingWait as ring}, InScan.InScan, InSearch.{InSearch, InSearch as search}, InWordWait.{InWordWait, InWordWait as word}, Stay.Stay}, place.{InPick.InPick, InPoll.InPoll, InCallbacks.InCallbacks, InLoads.InLoads, InService.{InService, InService as step}, InMail.{InMail, InMail as mail}, InClosing.{InClosing, InClosing as closing}, Place.{Place, Place as at}, Round.Round, Service.Service}}, Call.CallDesk, Move.{move, move_act, move_at, move_callbacks, move_closing, move_global, move_kick, move_loads, move_look, move_look_at, move_mail, move_pick, move_poll, move_pop, move_push, move_ring_wait, move_scan, move_search, move_service, move_signal, move_submit, move_wake, move_word_wait}, MoveOfCaller.{call_on, call_wake}, Poll.Sight, State.{Desk, Moved, Own, Things, no_queue, queue_of}, Submit.{Due, due_next}, Thing.{aside, set_queue}}
use Rattle.exec_rest.specs.AtRest.{IsBare, is_fed, is_given}

-- A RUN QUEUE PUT BACK

-- of element j holds what held, and of the one that is put in what holds of that
pub put_in : {A : Type 0} (P : A → Type 0) (xs : List A) (k j : ℕ) (a d : A) → (j ≡ k → P a) → P (get_or xs j d) → P (get_or (set xs k a) j d)
put_in P [] k j a d here h = h
put_in P (x ∷ xs) zero zero a d here h = here refl
put_in P (x ∷ xs) zero (suc j) a d here h = h
put_in P (x ∷ xs) (suc k) zero a d here h = h
put_in P (x ∷ xs) (suc k) (suc j) a d here h = put_in P xs k j a d (λ is. here (ap suc is)) h

put : (k : ℕ) (x : Things) (q : Queue ℕ) → (IsBare (queue_of x k) → IsBare q) → (j : ℕ) → IsBare (queue_of x j) → IsBare (queue_of (set_queue k x q) j)
put k x q here j bare = put_in IsBare x.queues k j q no_queue (λ is. here (subst (λ n. IsBare (queue_of x n)) is bare)) bare

either : (q : Queue ℕ) (b : Bool) (m n : Moved (Queue ℕ)) → (IsBare q → IsBare m.thing) → (IsBare q → IsBare n.thing) → IsBare q → IsBare (if b then m else n).thing
either q true m n here there = here
either q false m n here there = there

pub none_dropped : (n : ℕ) → drop {A = ℕ} n [] ≡ []
none_dropped zero = refl
none_dropped (suc n) = refl

claimed_bare : (q : Queue ℕ) (n : ℕ) → IsBare q → IsBare (claimed q n)
claimed_bare q n bare = (ap (drop n) bare.0 ∙ none_dropped n, bare.1)

-- a worker that begins has no more than one that isn't there
past_end : (xs : List (Queue ℕ)) (j : ℕ) → IsBare (get_or xs j no_queue) → IsBare (get_or (xs ++ no_queue ∷ []) j no_queue)
past_end [] zero bare = bare
past_end [] (suc j) bare = bare
past_end (q ∷ xs) zero bare = bare
past_end (q ∷ xs) (suc j) bare = past_end xs j bare

-- A STEP OF A WORKER

module _ (c : Configuration) (i : ℕ) (me : Books) (s : Common) (d : Desk) (x : Things) (j : ℕ) where
  -- queue j is bare after this move, if it was so before
  abbrev StaysBare : Moved Things → Type 0
  StaysBare m = IsBare (queue_of x j) → IsBare (queue_of m.thing j)

  -- a load puts a queue back as it was
  loaded : (k : ℕ) → IsBare (queue_of x j) → IsBare (queue_of (set_queue k x (queue_of x k)) j)
  loaded k = put k x (queue_of x k) (λ h. h) j

  -- the own queue isn't another one
  own_put : (q : Queue ℕ) → (j ≡ i → true ≡ false) → IsBare (queue_of x j) → IsBare (queue_of (set_queue i x q) j)
  own_put q unfed = put_in IsBare x.queues i j q no_queue (λ is. absurd (true≢false (unfed is)))

  pick_bare : (p : InPick) → (j ≡ i → true ≡ false) → StaysBare (move_pick c i d x p)
  pick_bare = grind (arith, loaded, own_put)

  pop_bare : (p : InPop) (b : AfterPop) → (j ≡ i → true ≡ false) → StaysBare (move_pop c i d x p b)
  pop_bare = grind (arith, own_put)

  -- by what follows a push it is one of the two
  written : (p : InPush) (b : AfterPush) → (j ≡ i → is_fed (at.Push p b) ≡ false) → (j ≡ i → is_given (at.Push p b) ≡ false) → j ≡ i → true ≡ false
  written = grind arith

  push_bare : (p : InPush) (b : AfterPush) → (j ≡ i → true ≡ false) → StaysBare (move_push c i me s d x p b)
  push_bare = grind (arith, own_put)

  wake_bare : (t u : ℕ) (home : Option ℕ) → StaysBare (move_wake c i s d x t u home)
  wake_bare = grind arith

  look_at_bare : (t : ℕ) (b : AfterSend) (m : Moved Own) (y : Sight) → StaysBare (move_look_at c s d x t b (aside x m) y)
  look_at_bare = grind arith

  act_bare : (t : ℕ) (w : ScriptWord) → StaysBare (move_act c i me s d x t w)
  act_bare = grind (arith, wake_bare, past_end, look_at_bare)

  poll_bare : (t : ℕ) (p : InPoll) → StaysBare (move_poll c i me s d x t p)
  poll_bare = grind (arith, act_bare, look_at_bare, loaded)

  callbacks_bare : (p : InCallbacks) (n : AfterCallbacks) → StaysBare (move_callbacks c i me s d x p n)
  callbacks_bare = grind arith

  loads_bare : (p : InLoads) (r : Round) → StaysBare (move_loads i me d x p r)
  loads_bare = grind (arith, loaded)

  submit_bare : (from : ℕ) (v : Service) (due : Due) → StaysBare (move_submit c i me s d x from v due)
  submit_bare = grind arith

  service_bare : (p : InService) (v : Service) → StaysBare (move_service c i me s d x p v)
  service_bare (step.Submit from) v = submit_bare from v (due_next c i from me s d)
  service_bare _ v = λ h. h

  mail_bare : (p : InMail) → StaysBare (move_mail i me s d x p)
  mail_bare mail.TakeMail = λ h. h
  mail_bare _ = λ h. h

  search_bare : (p : InSearch) → StaysBare (move_search c d x p)
  search_bare search.LoadSearchCount = λ h. h
  search_bare _ = λ h. h

  -- of another worker's queue a claim takes values
  scan_bare : (p : InScan) → (j ≡ i → is_fed (at.Scan p) ≡ false) → StaysBare (move_scan c i me s d x p)
  scan_bare = grind (arith, loaded, put, either, claimed_bare, own_put)

  look_bare : (p : InLook) → StaysBare (move_look c i s d x p)
  look_bare = grind (arith, loaded)

  ring_wait_bare : (p : InRingWait) (y : Stay) → StaysBare (move_ring_wait c i me s d x p y)
  ring_wait_bare ring.TestRing y = λ h. h
  ring_wait_bare _ y = λ h. h

  word_wait_bare : (p : InWordWait) → StaysBare (move_word_wait i s d x p)
  word_wait_bare word.TakeLatch = λ h. h
  word_wait_bare _ = λ h. h

  closing_bare : (p : InClosing) → StaysBare (move_closing c i s d x p)
  closing_bare closing.Close = λ h. h
  closing_bare _ = λ h. h

  global_bare : (p : InGlobal) (b : AfterPush) → StaysBare (move_global c i me s d x p b)
  global_bare global.Append b = λ h. h
  global_bare _ b = λ h. h

  kick_bare : (p : InKick) (b : AfterKick) → StaysBare (move_kick c i me s d x p b)
  kick_bare kick.LoadKickCount b = λ h. h
  kick_bare _ b = λ h. h

  signal_bare : (p : InSignal) (k : ℕ) (b : AfterSignal) → StaysBare (move_signal c i me s d x p k b)
  signal_bare signals.SetLatch k b = λ h. h
  signal_bare _ k b = λ h. h

  at_bare : (p : Place) → (j ≡ i → is_fed p ≡ false) → (j ≡ i → is_given p ≡ false) → StaysBare (move_at c i me s d x p)
  at_bare = grind (arith, pick_bare, poll_bare, callbacks_bare, loads_bare, service_bare, mail_bare, search_bare, scan_bare, look_bare, ring_wait_bare, word_wait_bare, closing_bare, pop_bare, push_bare, written, global_bare, kick_bare, signal_bare)

  -- a bare queue stays so, but for the own one of a worker at a place at which it writes that
  pub worker_bare : (j ≡ i → is_fed d.place ≡ false) → (j ≡ i → is_given d.place ≡ false) → StaysBare (move c i me s d x)
  worker_bare = at_bare d.place

-- A STEP OF A CALLER

module _ (s : Common) (d : CallDesk) (x : Things) where
  pub call_kept : (p : CallPlace) → (call_on s d x p).thing.queues ≡ x.queues
  call_kept = grind arith

  pub wake_kept : (u : ℕ) (home : Option ℕ) → (call_wake s d x u home).thing.queues ≡ x.queues
  wake_kept u None = refl
  wake_kept u (Some home) = refl
