-- A step sees the one shared thing that its place names.
use Rattle.std.proofs.{Common.{◌≡◌, ℕ, zero, suc, Bool, true, false, ◌==◌, List, [], ◌∷◌, length, Option, Some, None, refl, sym, arith, ap, ◌∙◌, ◌+◌, if◌then◌else◌, slice_set, slice_index_or}, lemmas.{Bool.{false≢true, eq-eqb, eqb-true}, List.{length-append, length-set}}}
use Rattle.exec_words.specs.{Idle.Idle, Queue.Queue, declared.word.PureWord.PureWord}
use Rattle.exec_machine.specs.{declared.{config.{Configuration.Configuration, ScriptWord.{ScriptWord, ScriptWord as script}}, event.Event.Event, state.{MailMessage.MailMessage, RequestPhase.{RequestPhase, RequestPhase as phase}}, step.Action.{Action, Action as action}}, World.{Common, Task, task_of, request_of, Own as Books}, Choice.Choice, Words.next_word}
use Rattle.exec_moves.specs.{declared.{handing.{AfterCallbacks.AfterCallbacks, AfterSend.{AfterSend, AfterSend as send}, CallPlace.{CallPlace, CallPlace as call}, InKick.InKick as kick, InPop.InPop as pop, InPush.InPush as push, InSignal.InSignal as signals}, place.{Service.Service, Place.{Place, Place as at}, InPick.InPick as pick, InPoll.InPoll as poll, InCallbacks.InCallbacks as callback, InLoads.InLoads as load, InService.InService as step, InMail.InMail as mail, InClosing.InClosing as closing}, idling.{InLook.InLook as look, InScan.InScan as scan, InSearch.InSearch as search_at, InWordWait.InWordWait as word}}, State.{Desk, Things, WakePoll, Moved, queue_of, word_of, inbox_of, wake_poll_of, gate_of, no_queue, no_word, no_wake_poll}, Told.{has_number, in_order}, Touches.shard_at, Cells.{Cell, Cell.{RunQueue, Share, WakeWord, Ring as RingOf, Inbox, GlobalQueue, IdleSet, SearchCount, Rest, Shard, Barrier, Gate, Answer, Alarm, Phase}, names, names_at, names_of_item, names_of_due, names_in_act, names_to_wake, names_by_call, names_by_caller, names_to_wake_by_call}, Thing.{puts, call_puts, mailbox_of, ring_of, set_queue, set_queues, set_word, set_inbox, set_mailbox, set_wake_poll, set_ring, set_global, set_idle, set_barrier, set_shard, set_gate, set_answers, set_alarms, aside, with_queue, with_queues, with_word, with_inbox, with_mailbox, with_wake_poll, with_ring, with_global, with_barrier, with_shard, with_gate, with_answers}, Move.{move, move_at, move_act, move_wake, move_look_at, move_item, move_submit}, MoveOfCaller.{move_of_caller, call_wake, call_on}, Pick.{Queues, load_mirror, load_head, take_share}, Pop.{shard_count, pops, load_pop_head, exchange_pop}, Push.{load_push_head, store_value, flow_over, store_oldest}, Global.append, Claim.{Claimed, Claimed.{Worker, Again, Nobody}, claimed, idle_after, set_latch, raise}, Send.{Mailbox, wake_own_root, spawn, send_root, send_message, first_letter, send_cancel}, Callback.{Item, Item.{Completes, Answers}, item_next}, Load.{load_own_head, load_own_mirror, load_own_word}, Serve.{Ring, sample, reap, pass_permit, signal, raise_in_service, enter_last}, Submit.{Due, Due.{Expires, Enrols, AtGate}, due_next, try_gate, stage_next}, Mail.{load_mail_word, take_mail}, Search.{load_scan_head, from_of, load_their_head, load_their_tail, claim_half, release_half, store_moved}, Look.{look_at_mirror, look_at_head, look_at_tail}, Wait.{enter_full_ring, arm_ring, enter_ring, sleep_on_ring, disarm_ring, spin_on_batch, spin_on_latch, take_latch, arm_word, sleep_on_word, disarm_word}, Poll.{Sight, Sight.{Here, Asks, HearsRequest, HearsTimer}, sight_of, sight_of_act, resume, act, heard_by, join_gate, load_spawn_head, remove_task}, Close.{close_queue, open_barrier, visit, leave_barrier, close_mailbox}, Call.{CallDesk, Called, spawn as call_spawned, send_root as call_send, append as call_append, set_latch as call_latch, raise as call_raise}}
use Rattle.exec_moves_laws.specs.Sees.{AreAsMany, LooksAlike, GoesAlike, CallsAlike}
use Rattle.exec_moves.specs.declared.handing.InGlobal.TheVariants as global
use Rattle.exec_moves.specs.declared.idling.InRingWait.TheVariants as ring

-- EACH THING PUT INTO BOTH

no : {A : Type 0} → false ≡ true → A
no h = absurd (false≢true h)

same : (n : ℕ) → (n == n) ≡ true
same n = eq-eqb n n refl

-- an element that is put into both lists is in both, or in neither
put_into : {A : Type 0} (xs ys : List A) (i : ℕ) (a d : A) → length xs ≡ length ys → slice_index_or (slice_set xs i a) i d ≡ slice_index_or (slice_set ys i a) i d
put_into [] [] i a d many = refl
put_into [] (y ∷ ys) i a d many = absurd (omega (arith, many))
put_into (x ∷ xs) [] i a d many = absurd (omega (arith, many))
put_into (x ∷ xs) (y ∷ ys) zero a d many = refl
put_into (x ∷ xs) (y ∷ ys) (suc i) a d many = put_into xs ys i a d (omega (arith, many))

-- and both stay as long
still : {A : Type 0} (xs ys : List A) (i : ℕ) (a : A) → length xs ≡ length ys → length (slice_set xs i a) ≡ length (slice_set ys i a)
still xs ys i a many = rw (length-set, length-set) many

in_both : {A : Type 0} (xs ys : List A) (i j : ℕ) (a d : A) → length xs ≡ length ys → (j == i) ≡ true → slice_index_or (slice_set xs i a) j d ≡ slice_index_or (slice_set ys i a) j d
in_both xs ys i j a d many h = rw (eqb-true j i h) (put_into xs ys i a d many)

-- an end that was sent is there
is_there : (n : ℕ) (ns : List ℕ) → has_number n (in_order n ns) ≡ true
is_there n [] = grind arith
is_there n (m ∷ ms) = let it = is_there n ms in grind (arith, it)

-- a claim goes by the set alone
claim_same : (it : Claimed) (p q : Idle) → p.published ≡ q.published → (idle_after it p).published ≡ (idle_after it q).published
claim_same (Worker lowest) p q e = ap (λ set. slice_set set lowest false) e
claim_same (Again found) p q e = e
claim_same Nobody p q e = e

module _ (x y : Things) (many : AreAsMany x y) where
  answers_put : (r : ℕ) {ns ms : List ℕ} → has_number r ns ≡ has_number r ms → LooksAlike (Answer r) (set_answers x ns) (set_answers y ms)
  answers_put r h =
      record { many = assumption (many); queues = λ j. no; words = λ j. no; inboxes = λ j. no; wake_polls = λ j. no; shards = λ j. no; gates = λ j. no; answers = λ q e. rw (eqb-true q r e) h; alarms = λ j. no; global = no; published = no; count = no; barrier = no }

  alarms_put : (z : ℕ) {ns ms : List ℕ} → has_number z ns ≡ has_number z ms → LooksAlike (Alarm z) (set_alarms x ns) (set_alarms y ms)
  alarms_put z h =
      record { many = assumption (many); queues = λ j. no; words = λ j. no; inboxes = λ j. no; wake_polls = λ j. no; shards = λ j. no; gates = λ j. no; answers = λ j. no; alarms = λ q e. rw (eqb-true q z e) h; global = no; published = no; count = no; barrier = no }

  global_put : (g : List ℕ) → LooksAlike GlobalQueue (set_global x g) (set_global y g)
  global_put g =
      record { many = assumption (many); queues = λ j. no; words = λ j. no; inboxes = λ j. no; wake_polls = λ j. no; shards = λ j. no; gates = λ j. no; answers = λ j. no; alarms = λ j. no; global = λ h. refl; published = no; count = no; barrier = no }

  set_put : {p q : Idle} → p.published ≡ q.published → LooksAlike IdleSet (set_idle x p) (set_idle y q)
  set_put e =
      record { many = assumption (many); queues = λ j. no; words = λ j. no; inboxes = λ j. no; wake_polls = λ j. no; shards = λ j. no; gates = λ j. no; answers = λ j. no; alarms = λ j. no; global = no; published = λ h. e; count = no; barrier = no }

  count_put : {p q : Idle} → p.count ≡ q.count → LooksAlike SearchCount (set_idle x p) (set_idle y q)
  count_put e =
      record { many = assumption (many); queues = λ j. no; words = λ j. no; inboxes = λ j. no; wake_polls = λ j. no; shards = λ j. no; gates = λ j. no; answers = λ j. no; alarms = λ j. no; global = no; published = no; count = λ h. e; barrier = no }

  word_put : (i : ℕ) (w : PureWord) → LooksAlike (WakeWord i) (set_word i x w) (set_word i y w)
  word_put i w =
      record { many = assumption (many, still x.words y.words i w many.words); queues = λ j. no; words = λ j. in_both x.words y.words i j w no_word many.words; inboxes = λ j. no; wake_polls = λ j. no; shards = λ j. no; gates = λ j. no; answers = λ j. no; alarms = λ j. no; global = no; published = no; count = no; barrier = no }

  mailbox_put : (i : ℕ) (m : Mailbox) → LooksAlike (Inbox i) (set_mailbox i x m) (set_mailbox i y m)
  mailbox_put i m =
      record { many = assumption (many, still x.words y.words i m.word many.words, still x.inboxes y.inboxes i m.messages many.inboxes); queues = λ j. no; words = λ j. in_both x.words y.words i j m.word no_word many.words; inboxes = λ j. in_both x.inboxes y.inboxes i j m.messages [] many.inboxes; wake_polls = λ j. no; shards = λ j. no; gates = λ j. no; answers = λ j. no; alarms = λ j. no; global = no; published = no; count = no; barrier = no }

  rest_put : (i : ℕ) (p : WakePoll) → LooksAlike (Rest i) (set_wake_poll i x p) (set_wake_poll i y p)
  rest_put i p =
      record { many = assumption (many, still x.wake_polls y.wake_polls i p many.wake_polls); queues = λ j. no; words = λ j. no; inboxes = λ j. no; wake_polls = λ j. in_both x.wake_polls y.wake_polls i j p no_wake_poll many.wake_polls; shards = λ j. no; gates = λ j. no; answers = λ j. no; alarms = λ j. no; global = no; published = no; count = no; barrier = no }

  shard_put : (n : ℕ) (l : List ℕ) → LooksAlike (Shard n) (set_shard n x l) (set_shard n y l)
  shard_put n l =
      record { many = assumption (many, still x.shards y.shards n l many.shards); queues = λ j. no; words = λ j. no; inboxes = λ j. no; wake_polls = λ j. no; shards = λ j. in_both x.shards y.shards n j l [] many.shards; gates = λ j. no; answers = λ j. no; alarms = λ j. no; global = no; published = no; count = no; barrier = no }

  mailbox_seen : (j : ℕ) → LooksAlike (Inbox j) x y → mailbox_of x j ≡ mailbox_of y j
  mailbox_seen j alike = rw (alike.words j (same j), alike.inboxes j (same j)) refl

-- OF A WORKER

-- A step that sees this thing alone does the same with the same.
goes : {T : Type 0} {cell : Cell} (f : T → Moved T) (one other : T → Things) {a b : T} → a ≡ b → ((t : T) → LooksAlike cell (one t) (other t)) → GoesAlike cell (puts one (f a)) (puts other (f b))
goes f one other {b = b} e put = rw e (record { event = refl; choice = refl; desk = refl; thing = put (f b).thing })

-- the same happens, whatever it leaves
does_so : {cell : Cell} {e : Event} {ch : Choice} {after : Desk} {p q : Things} → LooksAlike cell p q → GoesAlike cell (record { event = e; choice = ch; desk = after; thing = p }) (record { event = e; choice = ch; desk = after; thing = q })
does_so alike = record { event = refl; choice = refl; desk = refl; thing = alike }

-- by a test, this or that
choose : {T : Type 0} {cell : Cell} (b : Bool) (one other : T → Things) {m m' n n' : Moved T} → GoesAlike cell (puts one m) (puts other m') → GoesAlike cell (puts one n) (puts other n') → GoesAlike cell (puts one (if b then m else n)) (puts other (if b then m' else n'))
choose true one other here there = here
choose false one other here there = there

module _ (c : Configuration) (i : ℕ) (me : Books) (s : Common) (d : Desk) (x y : Things) (many : AreAsMany x y) where
  -- of this cell this step sees no other
  abbrev Sees : Cell → (Things → Moved Things) → Type 0
  Sees cell f = LooksAlike cell x y → GoesAlike cell (f x) (f y)

  queue : (j : ℕ) (f : Queue ℕ → Moved (Queue ℕ)) → Sees (RunQueue j) (λ z. with_queue j z (f (queue_of z j)))
  queue i f alike =
      goes f (set_queue i x) (set_queue i y) (alike.queues i (same i))
      (λ q. record { many = assumption (many, still x.queues y.queues i q many.queues); queues = λ j. in_both x.queues y.queues i j q no_queue many.queues; words = λ j. no; inboxes = λ j. no; wake_polls = λ j. no; shards = λ j. no; gates = λ j. no; answers = λ j. no; alarms = λ j. no; global = no; published = no; count = no; barrier = no })

  share : (f : Queues → Moved Queues) → Sees (Share i) (λ z. with_queues i z (f (record { global = z.global; queue = queue_of z i })))
  share f alike =
      goes f (set_queues i x) (set_queues i y) (rw (alike.global refl, alike.queues i (same i)) refl)
      (λ q. record { many = assumption (many, still x.queues y.queues i q.queue many.queues); queues = λ j. in_both x.queues y.queues i j q.queue no_queue many.queues; words = λ j. no; inboxes = λ j. no; wake_polls = λ j. no; shards = λ j. no; gates = λ j. no; answers = λ j. no; alarms = λ j. no; global = λ h. refl; published = no; count = no; barrier = no })

  word_seen : (j : ℕ) (f : PureWord → Moved PureWord) → Sees (WakeWord j) (λ z. with_word j z (f (word_of z j)))
  word_seen j f alike = goes f (set_word j x) (set_word j y) (alike.words j (same j)) (word_put x y many j)

  inbox : (f : List MailMessage → Moved (List MailMessage)) → Sees (Inbox i) (λ z. with_inbox i z (f (inbox_of z i)))
  inbox f alike =
      goes f (set_inbox i x) (set_inbox i y) (alike.inboxes i (same i))
      (λ m. record { many = assumption (many, still x.inboxes y.inboxes i m many.inboxes); queues = λ j. no; words = alike.words; inboxes = λ j. in_both x.inboxes y.inboxes i j m [] many.inboxes; wake_polls = λ j. no; shards = λ j. no; gates = λ j. no; answers = λ j. no; alarms = λ j. no; global = no; published = no; count = no; barrier = no })

  mailbox : (j : ℕ) (f : Mailbox → Moved Mailbox) → Sees (Inbox j) (λ z. with_mailbox j z (f (mailbox_of z j)))
  mailbox j f alike = goes f (set_mailbox j x) (set_mailbox j y) (mailbox_seen x y many j alike) (mailbox_put x y many j)

  ring_seen : (f : Ring → Moved Ring) → Sees (RingOf i) (λ z. with_ring i z (f (ring_of s z i)))
  ring_seen f alike =
      goes f (set_ring i x) (set_ring i y) (rw (alike.wake_polls i (same i)) refl)
      (λ r. record { many = assumption (many, still x.wake_polls y.wake_polls i r.wakes many.wake_polls); queues = λ j. no; words = λ j. no; inboxes = λ j. no; wake_polls = λ j. in_both x.wake_polls y.wake_polls i j r.wakes no_wake_poll many.wake_polls; shards = λ j. no; gates = λ j. no; answers = λ j. no; alarms = λ j. no; global = no; published = no; count = no; barrier = no })

  rest : (j : ℕ) (f : WakePoll → Moved WakePoll) → Sees (Rest j) (λ z. with_wake_poll j z (f (wake_poll_of z j)))
  rest j f alike = goes f (set_wake_poll j x) (set_wake_poll j y) (alike.wake_polls j (same j)) (rest_put x y many j)

  global_seen : (f : List ℕ → Moved (List ℕ)) → Sees GlobalQueue (λ z. with_global z (f z.global))
  global_seen f alike = goes f (set_global x) (set_global y) (alike.global refl) (global_put x y many)

  barrier : (f : Bool → Moved Bool) → Sees Barrier (λ z. with_barrier z (f z.barrier))
  barrier f alike =
      goes f (set_barrier x) (set_barrier y) (alike.barrier refl)
      (λ b. record { many = assumption (many); queues = λ j. no; words = λ j. no; inboxes = λ j. no; wake_polls = λ j. no; shards = λ j. no; gates = λ j. no; answers = λ j. no; alarms = λ j. no; global = no; published = no; count = no; barrier = λ h. refl })

  shard : (n : ℕ) (f : List ℕ → Moved (List ℕ)) → Sees (Shard n) (λ z. with_shard n z (f (shard_at z n)))
  shard n f alike = goes f (set_shard n x) (set_shard n y) (alike.shards n (same n)) (shard_put x y many n)

  gate : (file : ℕ) (f : List ℕ → Moved (List ℕ)) → Sees (Gate file) (λ z. with_gate file z (f (gate_of z file)))
  gate i f alike =
      goes f (set_gate i x) (set_gate i y) (alike.gates i (same i))
      (λ l. record { many = assumption (many, still x.gates y.gates i l many.gates); queues = λ j. no; words = λ j. no; inboxes = λ j. no; wake_polls = λ j. no; shards = λ j. no; gates = λ j. in_both x.gates y.gates i j l [] many.gates; answers = λ j. no; alarms = λ j. no; global = no; published = no; count = no; barrier = no })

  wake_one : (t u : ℕ) (home : Option ℕ) → Sees (names_to_wake i u home) (λ z. move_wake c i s d z t u home)
  wake_one t u None = does_so
  wake_one t u (Some home) = by (home == i)
    where
      by : (own : Bool) → Sees (if own then Phase u else Inbox home) (λ z. if own then aside z (wake_own_root t u d (task_of s u)) else with_mailbox home z (send_root c s home (send.Act t) d (mailbox_of z home)))
      by true = does_so
      by false = mailbox home (send_root c s home (send.Act t) d)

  -- what was sent of a request
  heard : (t r : ℕ) (b : Bool) (p : RequestPhase) → has_number r x.answers ≡ has_number r y.answers → GoesAlike (Answer r) (with_answers x (heard_by t r d x.answers b p)) (with_answers y (heard_by t r d y.answers b p))
  heard t r true (phase.Resolved outcome) h = does_so (answers_put x y many r h)
  heard t r true _ h = does_so (answers_put x y many r h)
  heard t r false p h = does_so (answers_put x y many r h)

  look_at_one : (t : ℕ) (b : AfterSend) (here : Moved Task) (o : Sight) → Sees (names_at t o) (λ z. move_look_at c s d z t b (aside z here) o)
  look_at_one t b here Here = does_so
  look_at_one t b here (Asks j message) = mailbox j (send_message c s j message b d)
  look_at_one t b here (HearsRequest r) =
      λ alike. let h = alike.answers r (same r) in rw h (heard t r (has_number r y.answers) (request_of s r).phase h)
  look_at_one t b here (HearsTimer z) =
      λ alike. let h = alike.alarms z (same z) in
      rw h (choose (has_number z y.alarms) (set_alarms x) (set_alarms y) (does_so (alarms_put x y many z h)) (does_so (alarms_put x y many z h)))

  act_one : (t : ℕ) (w : ScriptWord) → Sees (names_in_act c i s t w) (λ z. move_act c i me s d z t w)
  act_one t (script.Spawn k) = shard _ (spawn c i t k s d)
  act_one t (script.Wake u) = wake_one t u (task_of s u).home
  act_one t (script.Dedicated k) =
      -- a worker that is made shows nothing
      λ alike. does_so (record { many = grind (arith, length-append, many); queues = λ j. no; words = λ j. no; inboxes = λ j. no; wake_polls = λ j. no; shards = λ j. no; gates = λ j. no; answers = λ j. no; alarms = λ j. no; global = no; published = no; count = no; barrier = no })
  act_one t script.Await = look_at_one t (send.Pend t) (act c i t me s d (task_of s t)) (sight_of_act i s (task_of s t) script.Await)
  act_one t script.Drop = look_at_one t (send.Act t) (act c i t me s d (task_of s t)) (sight_of_act i s (task_of s t) script.Drop)
  act_one t _ = does_so

  item_one : (n : AfterCallbacks) (it : Item) → Sees (names_of_item it) (λ z. move_item c i me s d z n it)
  item_one n (Completes z) = λ alike. does_so (alarms_put x y many z (is_there z x.alarms ∙ sym (is_there z y.alarms)))
  item_one n (Answers r) = λ alike. does_so (answers_put x y many r (is_there r x.answers ∙ sym (is_there r y.answers)))
  item_one n _ = does_so

  submit_one : (from : ℕ) (v : Service) (due : Due) → Sees (names_of_due i due) (λ z. move_submit c i me s d z from v due)
  submit_one from v (Expires r) = does_so
  submit_one from v (Enrols r) = does_so
  submit_one from v (AtGate file) = gate file (try_gate i v file s d)
  submit_one from v due = ring_seen (λ r. stage_next c i v from me s d r due)

  -- at each place that names a thing
  at_one : (p : Place) → Sees (names c i me s d p) (λ z. move_at c i me s d z p)
  at_one (at.Pick (pick.LoadMirror f)) = global_seen (load_mirror c f d)
  at_one (at.Pick (pick.LoadHead f)) = queue i (load_head f d)
  at_one (at.Pick (pick.TakeShare f room held)) = share (take_share c f room held d)
  at_one (at.Poll t poll.Resume) = look_at_one t (send.Pend t) (resume i t s d (task_of s t)) (sight_of i s (task_of s t).waiting)
  at_one (at.Poll t poll.Act) = act_one t (next_word s (task_of s t))
  at_one (at.Poll t (poll.JoinGate r)) = gate _ (join_gate t r d)
  at_one (at.Poll t poll.LoadSpawnHead) = queue i (load_spawn_head t d)
  at_one (at.Poll t poll.RemoveTask) = shard _ (remove_task t d)
  at_one (at.Callbacks callback.CallBack n) = item_one n (item_next me d)
  at_one (at.Loads load.LoadOwnHead r) = queue i (load_own_head r d)
  at_one (at.Loads (load.LoadOwnMirror f) r) = global_seen (load_own_mirror r f d)
  at_one (at.Loads (load.LoadOwnWord f) r) = word_seen i (load_own_word me r f d)
  at_one (at.Service step.Sample v) = word_seen i (sample v d)
  at_one (at.Service (step.Reap r) v) = ring_seen (reap i v r s d)
  at_one (at.Service (step.PassPermit file b) v) = gate file (pass_permit v b s d)
  at_one (at.Service (step.Signal j b) v) = word_seen j (signal j v b d)
  at_one (at.Service (step.Raise ring j b) v) = rest j (raise_in_service ring j v b s d)
  at_one (at.Service (step.Submit from) v) = submit_one from v (due_next c i from me s d)
  at_one (at.Service step.EnterLast v) = ring_seen (enter_last v me d)
  at_one (at.Mail mail.LoadMailWord) = word_seen i (load_mail_word d)
  at_one (at.Mail mail.TakeMail) = inbox (take_mail d)
  at_one (at.Search search_at.LoadSearchCount) = λ alike. rw (alike.count refl) (does_so (count_put x y many refl))
  at_one (at.Search search_at.AddSearchCount) = λ alike. rw (alike.count refl) (does_so (count_put x y many refl))
  at_one (at.Scan scan.LoadScanHead) = queue i (load_scan_head c i d)
  at_one (at.Scan (scan.LoadTheirHead n)) = queue (from_of c n) (load_their_head c i n d)
  at_one (at.Scan (scan.LoadTheirTail n h)) = queue (from_of c n) (load_their_tail c i n h d)
  at_one (at.Scan (scan.ClaimHalf n h tail)) = queue (from_of c n) (claim_half c i n h tail d)
  at_one (at.Scan (scan.ReleaseHalf from h)) = queue from (release_half from h d)
  at_one (at.Scan scan.StoreMoved) = queue i (store_moved c i me s d)
  at_one (at.Look look.Publish) = λ alike. rw (alike.published refl) (does_so (set_put x y many refl))
  at_one (at.Look (look.LookAtMirror last)) = global_seen (look_at_mirror last d)
  at_one (at.Look (look.LookAtHead j)) = queue j (look_at_head j d)
  at_one (at.Look (look.LookAtTail j h)) = queue j (look_at_tail c i s j h d)
  at_one (at.Look look.ExchangeLookCount) = λ alike. rw (alike.count refl) (choose (y.idle.count == 0) (set_idle x) (set_idle y) (does_so (count_put x y many refl)) (does_so (count_put x y many refl)))
  at_one (at.Look _) = λ alike. rw (alike.count refl) (does_so (count_put x y many refl))
  at_one (at.RingWait ring.EnterFullRing o) = ring_seen (enter_full_ring o me d)
  at_one (at.RingWait ring.ArmRing o) = word_seen i (arm_ring o d)
  at_one (at.RingWait ring.EnterRing o) = ring_seen (enter_ring o me d)
  at_one (at.RingWait ring.SleepOnRing o) = ring_seen (sleep_on_ring i o s d)
  at_one (at.RingWait (ring.DisarmRing n) o) = word_seen i (disarm_ring i o n s d)
  at_one (at.WordWait (word.SpinOnBatch left)) = word_seen i (spin_on_batch left d)
  at_one (at.WordWait (word.SpinOnLatch left)) = word_seen i (spin_on_latch left d)
  at_one (at.WordWait word.TakeLatch) = word_seen i (take_latch i s d)
  at_one (at.WordWait word.ArmWord) = word_seen i (arm_word d)
  at_one (at.WordWait word.SleepOnWord) = word_seen i (sleep_on_word i s d)
  at_one (at.WordWait word.DisarmWord) = word_seen i (disarm_word i s d)
  at_one (at.Withdraw n) = λ alike. rw (alike.published refl) (does_so (set_put x y many refl))
  at_one (at.Closing closing.CloseQueue) = global_seen (close_queue d)
  at_one (at.Closing closing.OpenBarrier) = barrier (open_barrier d)
  at_one (at.Closing (closing.TellRoot j)) = mailbox j (send_root c s j (send.Tell (j + 1)) d)
  at_one (at.Closing (closing.Visit drain)) = shard drain.at (visit (shard_count c) drain d)
  at_one (at.Closing closing.LeaveBarrier) = barrier (leave_barrier d)
  at_one (at.Closing closing.CloseMailbox) = inbox (close_mailbox i s d)
  at_one (at.Pop pop.LoadPopHead b) = queue i (load_pop_head c i b d)
  at_one (at.Pop (pop.ExchangePop h) b) = queue i (exchange_pop c i b h d)
  at_one (at.Pop _ b) = queue i (pops c i b d)
  at_one (at.LeaveSearch b) = λ alike. rw (alike.count refl) (does_so (count_put x y many refl))
  at_one (at.Push push.LoadPushHead b) = queue i (load_push_head b d)
  at_one (at.Push (push.StoreValue len) b) = queue i (store_value c i me s len b d)
  at_one (at.Push (push.FlowOver h) b) = queue i (flow_over b h d)
  at_one (at.Push push.StoreOldest b) = queue i (store_oldest b d)
  at_one (at.Global global.Append b) = global_seen (append c i me s b d)
  at_one (at.Global global.LoadGlobalSet b) = λ alike. rw (alike.published refl) (does_so (set_put x y many refl))
  at_one (at.Global _ b) = λ alike. rw (alike.count refl) (does_so (count_put x y many refl))
  at_one (at.Kick kick.LoadKickSet b) = λ alike. rw (alike.published refl) (does_so (set_put x y many refl))
  at_one (at.Kick (kick.ExchangeKickCount set) b) = λ alike. rw (alike.count refl) (choose (y.idle.count == 0) (set_idle x) (set_idle y) (does_so (count_put x y many refl)) (does_so (count_put x y many refl)))
  at_one (at.Kick _ b) = λ alike. rw (alike.count refl) (does_so (count_put x y many refl))
  at_one (at.ClaimWorker set b) =
      λ alike. rw (alike.published refl) (does_so (set_put x y many (claim_same (claimed set y.idle) (record { published = y.idle.published; count = x.idle.count }) y.idle refl)))
  at_one (at.Signal signals.SetLatch j b) = word_seen j (set_latch c i me s j b d)
  at_one (at.Signal (signals.Raise ring) j b) = rest j (raise c i me s ring j b d)
  at_one (at.SendCancel b) = mailbox (first_letter d).to (send_cancel c s b d)
  at_one _ = does_so

pub of_a_worker : (c : Configuration) (i : ℕ) (me : Books) (s : Common) (d : Desk) (x y : Things) → LooksAlike (names c i me s d d.place) x y → GoesAlike (names c i me s d d.place) (move c i me s d x) (move c i me s d y)
of_a_worker c i me s d x y alike = at_one c i me s d x y alike.many d.place alike

-- OF A CALLER

calls : {T : Type 0} {cell : Cell} (f : T → Called T) (one other : T → Things) {a b : T} → a ≡ b → ((t : T) → LooksAlike cell (one t) (other t)) → CallsAlike cell (call_puts one (f a)) (call_puts other (f b))
calls f one other {b = b} e put = rw e (record { event = refl; choice = refl; desk = refl; thing = put (f b).thing })

module _ (c : Configuration) (s : Common) (d : CallDesk) (x y : Things) (many : AreAsMany x y) where
  abbrev CallSees : Cell → (Things → Called Things) → Type 0
  CallSees cell f = LooksAlike cell x y → CallsAlike cell (f x) (f y)

  call_does : {cell : Cell} {e : Event} {ch : Choice} {after : CallDesk} {p q : Things} → LooksAlike cell p q → CallsAlike cell (record { event = e; choice = ch; desk = after; thing = p }) (record { event = e; choice = ch; desk = after; thing = q })
  call_does alike = record { event = refl; choice = refl; desk = refl; thing = alike }

  call_wake_one : (u : ℕ) (home : Option ℕ) → CallSees (names_to_wake_by_call u home) (λ z. call_wake s d z u home)
  call_wake_one u None = call_does
  call_wake_one u (Some j) = λ alike. calls (call_send s j d) (set_mailbox j x) (set_mailbox j y) (mailbox_seen x y many j alike) (mailbox_put x y many j)

  call_on_one : (p : CallPlace) → CallSees (names_by_call p) (λ z. call_on s d z p)
  call_on_one (call.Global global.Append) = λ alike. calls (call_append s d) (set_global x) (set_global y) (alike.global refl) (global_put x y many)
  call_on_one (call.Global global.LoadGlobalSet) = λ alike. rw (alike.published refl) (call_does (set_put x y many refl))
  call_on_one (call.Global _) = λ alike. rw (alike.count refl) (call_does (count_put x y many refl))
  call_on_one (call.ClaimWorker set) =
      λ alike. rw (alike.published refl) (call_does (set_put x y many (claim_same (claimed set y.idle) (record { published = y.idle.published; count = x.idle.count }) y.idle refl)))
  call_on_one (call.Signal signals.SetLatch j) = λ alike. calls (call_latch j d) (set_word j x) (set_word j y) (alike.words j (same j)) (word_put x y many j)
  call_on_one (call.Signal (signals.Raise ring) j) = λ alike. calls (call_raise s ring j d) (set_wake_poll j x) (set_wake_poll j y) (alike.wake_polls j (same j)) (rest_put x y many j)
  call_on_one _ = call_does

  call_one : (a : Action) → CallSees (names_by_caller c s d.place a) (λ z. move_of_caller c s d z a)
  call_one (action.Spawn j k) = λ alike. calls (call_spawned k s d) (set_shard _ x) (set_shard _ y) (alike.shards _ (same _)) (shard_put x y many _)
  call_one (action.Wake j t) = call_wake_one t (task_of s t).home
  call_one _ = call_on_one d.place

pub of_a_caller : (c : Configuration) (s : Common) (d : CallDesk) (x y : Things) (a : Action) → LooksAlike (names_by_caller c s d.place a) x y → CallsAlike (names_by_caller c s d.place a) (move_of_caller c s d x a) (move_of_caller c s d y a)
of_a_caller c s d x y a alike = call_one c s d x y alike.many a alike
