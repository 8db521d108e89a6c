-- No run queue has more than fits into it, nor gave out more than 256 values in each step.
use Rattle.std.proofs.{Common.{◌≡◌, ℕ, zero, suc, ◌≤◌, ◌+◌, ◌*◌, Bool, true, false, List, [], ◌∷◌, ◌++◌, length, take, drop, get_or, replicate, Option, Some, None, if◌then◌else◌, refl, arith}, lemmas.{Bool.{and_parts, cases_Bool, eqb-true}, List.{length-append, length-drop, length-take}}}
use Rattle.exec_words.specs.{declared.head.Head.Head, Global.share_of, Head.claim_at, Queue.{Queue, claimed, head_of, overflowed, popped, published, released, restored, room_of, tail_of}}
use Rattle.exec_machine.specs.{declared.{config.{Configuration.Configuration, ScriptWord.{ScriptWord, ScriptWord as script}}, step.Action.{Action, Action as action}}, Progress.Plan, World.{Common, Own as Books, own_of, task_of}, Words.next_word}
use Rattle.exec_moves.specs.{declared.{handing.{AfterCallbacks.AfterCallbacks, AfterPop.AfterPop, AfterSend.{AfterSend, AfterSend as send}, First.First, InKick.InKick as kick, InPop.InPop as pop, InPush.InPush as push, InSignal.InSignal as signals}, place.{Place.{Place, Place as at}, Service.Service, InPick.InPick as pick, InPoll.InPoll as poll, InCallbacks.InCallbacks as callback, InLoads.InLoads as load, InService.InService as step, InMail.InMail as mail, InClosing.InClosing as closing}, idling.{InLook.InLook as look, InRingWait.InRingWait as ring, InScan.InScan as scan, InSearch.InSearch as search, InWordWait.InWordWait as word}}, Callback.{Item, item_next}, Move.{move_act, move_at, move_item, move_look_at, move_submit, move_wake}, Pick.take_share, Plays.{Playing, by_action, by_step, desk_of, first_playing}, Poll.{Sight, sight_of, sight_of_act}, Pop.{pops, same_head}, Push.in_hand, Search.from_of, Send.with_newcomer, State.{Desk, Moved, Own, Things, no_queue, queue_of}, Submit.{Due, due_next}, Thing.{aside, set_queue}}
use Rattle.exec_rest.proofs.BareMoves.{call_kept, put_in, wake_kept}
use Rattle.exec_progress.specs.{Going.{KnowsAside, KnowsTail}, Granted.{IsGranted, KnowsRoom}, Paced.AreNarrow}
use Rattle.exec_moves.specs.declared.handing.InGlobal.TheVariants as global

-- OF ONE RUN QUEUE, after n steps

record Fits (n : ℕ) (q : Queue ℕ) : Type 0 where
  narrow : length q.values + length q.held + q.gap ≤ 256
  low : q.real ≤ 256 * n

-- a worker that begins has no more than one that isn't there
past_end : (P : Queue ℕ → Type 0) (xs : List (Queue ℕ)) (j : ℕ) → P (get_or xs j no_queue) → P (get_or (xs ++ no_queue ∷ []) j no_queue)
past_end P [] zero h = h
past_end P [] (suc j) h = h
past_end P (q ∷ xs) zero h = h
past_end P (q ∷ xs) (suc j) h = past_end P xs j h

module _ (n : ℕ) (q : Queue ℕ) (fits : Fits n q) where
  later : Fits (suc n) q
  later = record { narrow = fits.narrow; low = omega (arith, fits.low) }

  fits_popped : (t : ℕ) (ts : List ℕ) → q.values ≡ t ∷ ts → Fits (suc n) (popped q)
  fits_popped = grind arith

  fits_published : (more : List ℕ) → q.held ≡ [] → length more ≤ room_of q → Fits (suc n) (published q more)
  fits_published = grind (arith, length-append)

  fits_claimed : (h : Head) (tail : ℕ) → same_head h (head_of q) ≡ true → tail ≤ tail_of q → Fits (suc n) (claimed q (claim_at h tail))
  fits_claimed = grind (arith, eqb-true, and_parts, length-drop)

  fits_released : Fits (suc n) (released q)
  fits_released = record { narrow = omega (arith, fits.narrow); low = omega (arith, fits.low) }

  fits_overflowed : Fits (suc n) (overflowed q)
  fits_overflowed = record { narrow = omega (arith, length-take 128 q.values); low = omega (arith, fits.low) }

  fits_restored : Fits (suc n) (restored q)
  fits_restored = record { narrow = omega (arith, fits.narrow); low = omega (arith, fits.low) }

  -- by a test, this or that
  either : (b : Bool) (m k : Moved (Queue ℕ)) → (b ≡ true → Fits (suc n) m.thing) → Fits (suc n) k.thing → Fits (suc n) (if b then m else k).thing
  either true m k one other = one refl
  either false m k one other = other

-- THE FIRST STATE

all_fit : (k j : ℕ) → Fits 0 (get_or (replicate k no_queue) j no_queue)
all_fit zero j = record { narrow = omega arith; low = omega arith }
all_fit (suc k) zero = record { narrow = omega arith; low = omega arith }
all_fit (suc k) (suc j) = all_fit k j

pub narrow_first : (p : Plan) → AreNarrow 0 (first_playing p)
narrow_first p = record { narrow = λ j. (all_fit p.config.workers j).narrow; low = λ j. (all_fit p.config.workers j).low }

-- A STEP OF A WORKER

module _ (n : ℕ) (c : Configuration) (i : ℕ) (me : Books) (s : Common) (d : Desk) (x : Things) (fits : (j : ℕ) → Fits n (queue_of x j)) (few : length d.loot ≤ 128) where
  -- every run queue fits after one more step
  abbrev Fit : Things → Type 0
  Fit y = (j : ℕ) → Fits (suc n) (queue_of y j)

  abbrev q : Queue ℕ
  q = queue_of x i

  -- none is changed
  still : Fit x
  still j = later n (queue_of x j) (fits j)

  -- this one is put in
  put : (k : ℕ) (y : Queue ℕ) → Fits (suc n) y → Fit (set_queue k x y)
  put k y fit j = put_in (Fits (suc n)) x.queues k j y no_queue (λ is. fit) (still j)

  -- a load puts a queue back as it was
  loaded : (k : ℕ) → Fit (set_queue k x (queue_of x k))
  loaded k = put k (queue_of x k) (still k)

  -- what a worker takes of the global queue beside the task that it polls fits into its run queue
  share : (f : First) (room held : ℕ) (g : List ℕ) → q.held ≡ [] → room ≤ room_of q → Fits (suc n) (take_share c f room held d (record { global = g; queue = q })).thing.queue
  share f room held [] none fit = still i
  share f room held (t ∷ g) none fit =
      let k = share_of (length (t ∷ g)) c.workers room held in
      let most : k ≤ room + 1 = omega arith in
      let long : length (drop 1 (take k (t ∷ g))) ≤ room = omega (arith, most, length-drop 1 (take k (t ∷ g)), length-take k (t ∷ g)) in
      fits_published n q (fits i) (drop 1 (take k (t ∷ g))) none (omega (arith, long, fit))

  popped_one : (b : AfterPop) (vs : List ℕ) → q.values ≡ vs → Fits (suc n) (pops c i b d q).thing
  popped_one b [] is = rw is (record { narrow = omega (arith, (fits i).narrow); low = (still i).low })
  popped_one b (t ∷ ts) is = rw is (fits_popped n q (fits i) t ts is)

  one : (hand : Option ℕ) → length (in_hand hand) ≤ 1
  one None = omega arith
  one (Some t) = omega arith

  wakes : (t u : ℕ) (home : Option ℕ) → Fit (move_wake c i s d x t u home).thing
  wakes = grind arith

  looks_at : (t : ℕ) (b : AfterSend) (m : Moved Own) (y : Sight) → Fit (move_look_at c s d x t b (aside x m) y).thing
  looks_at = grind arith

  acts : (t : ℕ) (w : ScriptWord) → Fit (move_act c i me s d x t w).thing
  acts t (script.Wake u) = wakes t u (task_of s u).home
  acts t (script.Dedicated k) = by s.set_closed
    where
      by : (b : Bool) → Fit (if b then x else with_newcomer x)
      by true = still
      by false = λ j. past_end (Fits (suc n)) x.queues j (still j)
  acts t script.Await = looks_at t (send.Pend t) _ (sight_of_act i s (task_of s t) script.Await)
  acts t script.Drop = looks_at t (send.Act t) _ (sight_of_act i s (task_of s t) script.Drop)
  acts t _ = still

  items : (k : AfterCallbacks) (it : Item) → Fit (move_item c i me s d x k it).thing
  items = grind arith

  submits : (from : ℕ) (v : Service) (due : Due) → Fit (move_submit c i me s d x from v due).thing
  submits = grind arith

  -- by its place, which knows what it has loaded
  at_place : (p : Place) → KnowsRoom p q → KnowsAside p q → KnowsTail c x p → Fit (move_at c i me s d x p).thing
  at_place (at.Pick pick.CountDown) room none there = still
  at_place (at.Pick (pick.LoadMirror f)) room none there = still
  at_place (at.Pick (pick.LoadHead f)) room none there = loaded i
  at_place (at.Pick (pick.TakeShare f most held)) room none there = put i _ (share f most held x.global none room)
  at_place (at.Poll t poll.Act) room none there = acts t (next_word s (task_of s t))
  at_place (at.Poll t poll.Resume) room none there = looks_at t (send.Pend t) _ (sight_of i s (task_of s t).waiting)
  at_place (at.Poll t poll.LoadSpawnHead) room none there = loaded i
  at_place (at.Callbacks callback.CallBack k) room none there = items k (item_next me d)
  at_place (at.Loads load.LoadOwnHead r) room none there = loaded i
  at_place (at.Service (step.Submit from) v) room none there = submits from v (due_next c i from me s d)
  at_place (at.Mail mail.TakeMail) room none there = still
  at_place (at.Search search.LoadSearchCount) room none there = still
  at_place (at.Scan scan.LoadScanHead) room none there = loaded i
  at_place (at.Scan (scan.LoadTheirHead y)) room none there = loaded (from_of c y)
  at_place (at.Scan (scan.LoadTheirTail y h)) room none there = loaded (from_of c y)
  at_place (at.Scan (scan.ClaimHalf y h tail)) room none there =
      let k = from_of c y in put k _ (either n (queue_of x k) (fits k) (same_head h (head_of (queue_of x k))) _ _ (λ same. fits_claimed n (queue_of x k) (fits k) h tail same there.2) (still k))
  at_place (at.Scan (scan.MoveHalf from h)) room none there = still
  at_place (at.Scan (scan.ReleaseHalf k h)) room none there =
      put k _ (either n (queue_of x k) (fits k) (same_head h (head_of (queue_of x k))) _ _ (λ same. fits_released n (queue_of x k) (fits k)) (still k))
  at_place (at.Scan scan.StoreMoved) room none there = put i _ (fits_published n q (fits i) d.loot none (omega (arith, few, room)))
  at_place (at.Look (look.LookAtHead k)) room none there = loaded k
  at_place (at.Look (look.LookAtTail k h)) room none there = loaded k
  at_place (at.RingWait ring.TestRing y) room none there = still
  at_place (at.WordWait word.TakeLatch) room none there = still
  at_place (at.Closing closing.Close) room none there = still
  at_place (at.Pop (pop.ExchangePop h) b) room none there = put i _ (either n q (fits i) (same_head h (head_of q)) _ _ (λ same. popped_one b q.values refl) (still i))
  at_place (at.Pop pop.LoadPopHead b) room none there = loaded i
  at_place (at.Pop pop.PopAlone b) room none there = put i _ (popped_one b q.values refl)
  at_place (at.Pop pop.StorePop b) room none there = put i _ (popped_one b q.values refl)
  at_place (at.Push push.LoadPushHead b) room none there = loaded i
  at_place (at.Push (push.StoreValue len) b) room none there = put i _ (fits_published n q (fits i) (in_hand d.hand) none (omega (arith, one d.hand, room)))
  at_place (at.Push (push.FlowOver h) b) room none there = put i _ (either n q (fits i) (same_head h (head_of q)) _ _ (λ same. fits_overflowed n q (fits i)) (still i))
  at_place (at.Push push.StoreOldest b) room none there = put i _ (fits_restored n q (fits i))
  at_place (at.Global global.Append b) room none there = still
  at_place (at.Kick kick.LoadKickCount b) room none there = still
  at_place (at.Signal signals.SetLatch k b) room none there = still
  at_place _ room none there = still

-- EACH STEP

module _ (n : ℕ) (c : Configuration) (x : Playing) (granted : IsGranted c x) (are : AreNarrow n x) where
  fit : (j : ℕ) → Fits n (queue_of x.things j)
  fit j = record { narrow = are.narrow j; low = are.low j }

  -- by a step of a worker; and by one that touches no run queue
  by_work : (i : ℕ) → AreNarrow (suc n) (by_action c x (action.Work i)).next
  by_work i =
      let d = desk_of c x i in
      let fits = at_place n c i (own_of x.world i) x.world.common d x.things fit (granted.few i) d.place (granted.room i) (granted.aside i) (granted.claims i) in
      record { narrow = λ j. (fits j).narrow; low = λ j. (fits j).low }

  kept : (y : Playing) → y.things.queues ≡ x.things.queues → AreNarrow (suc n) y
  kept = grind arith

  by_any : (a : Action) → AreNarrow (suc n) (by_action c x a).next
  by_any = grind (arith, by_work, kept, wake_kept, call_kept)

-- A step that is not enabled changes nothing.
pub narrow_then : (n : ℕ) (c : Configuration) (x : Playing) → IsGranted c x → AreNarrow n x → (a : Action) → AreNarrow (suc n) (by_step c x a).next
narrow_then = grind (arith, cases_Bool, by_any, kept)
