-- A step touches the one shared thing that its place names.
use Rattle.std.proofs.{Common.{◌≡◌, ℕ, zero, suc, Bool, true, false, ◌==◌, ◌||◌, List, [], ◌∷◌, ◌++◌, nat_lt, Option, Some, None, refl, sym, ap, subst, ◌∙◌, if◌then◌else◌, slice_set, slice_index_or}, lemmas.{Bool.{true≢false, eq-eqb, eqb-true}, List.get_or-set_other}}
use Rattle.exec_words.specs.{Idle.Idle, Queue.Queue, declared.word.PureWord.PureWord}
use Rattle.exec_machine.specs.{declared.{config.{Configuration.Configuration, ScriptWord.{ScriptWord, ScriptWord as script}}, state.{MailMessage.MailMessage, RequestPhase.{RequestPhase, RequestPhase as phase}}, step.Action.{Action, Action as action}}, World.{Common, task_of, request_of, seat_of, Own as Books}, Choice.Choice, Tests.is_empty, Words.next_word}
use Rattle.exec_moves.specs.{declared.{handing.{AfterCallbacks.AfterCallbacks, AfterKick.AfterKick, AfterPop.AfterPop, AfterPush.AfterPush, AfterSend.{AfterSend, AfterSend as send}, AfterSignal.AfterSignal, CallPlace.{CallPlace, CallPlace as call}, InGlobal.InGlobal, InKick.{InKick, InKick as kick}, InPop.{InPop, InPop as pop}, InPush.{InPush, InPush as push}, InSignal.{InSignal, InSignal as signals}}, idling.{InLook.{InLook, InLook as look}, InRingWait.InRingWait, InScan.{InScan, InScan as scan}, InSearch.{InSearch, InSearch as search_at}, InWordWait.{InWordWait, InWordWait as word}, Stay.Stay}, place.{InPick.{InPick, InPick as pick}, InPoll.{InPoll, InPoll as poll}, InCallbacks.{InCallbacks, InCallbacks as callback}, InLoads.{InLoads, InLoads as load}, InService.{InService, InService as step}, InMail.{InMail, InMail as mail}, InClosing.{InClosing, InClosing as closing}, Round.Round, Service.Service, Place.{Place, Place as at}}}, State.{Desk, Things, WakePoll, Moved, word_of, no_queue, no_word, no_wake_poll}, Told.{has_number, in_order}, Callback.{Item, Item.{Wakes, LetsGo, Releases, Completes, Answers, Nothing}, item_next}, Poll.{Sight, Sight.{Here, Asks, HearsRequest, HearsTimer}, sight_of, sight_of_act, hear_request, heard_by, hear_timer}, Pick.Queues, Send.{Mailbox, Posting, with_newcomer, leaves_out, published_if, posting_of}, Claim.{Claimed, Claimed.{Worker, Again, Nobody}, claimed, idle_after}, Submit.{Due, Due.{Expires, Enrols, AtGate}, due_next}, Call.CallDesk, Cells.{Cell, Cell.{RunQueue, Share, WakeWord, Ring as RingOf, Inbox, GlobalQueue, IdleSet, SearchCount, Rest, Shard, Barrier, Gate, Answer, Alarm, Phase}, names, names_at, names_of_item, names_of_due, names_in_act, names_in_callbacks, names_in_closing, names_in_global, names_in_kick, names_in_loads, names_in_look, names_in_mail, names_in_pick, names_in_poll, names_in_ring_wait, names_in_scan, names_in_service, names_in_signal, names_to_wake, names_by_call, names_by_caller, names_to_wake_by_call}, Thing.{mailbox_of, set_queue, set_queues, set_word, set_inbox, set_mailbox, set_wake_poll, set_global, set_idle, set_barrier, set_shard, set_gate, set_answers, set_alarms}, Touches.OnlyTouches, Move.{move, move_at, move_act, move_wake, move_pick, move_pop, move_push, move_global, move_kick, move_signal, move_look_at, move_item, move_callbacks, move_poll, move_loads, move_submit, move_service, move_mail, move_search, move_scan, move_look, move_ring_wait, move_word_wait, move_closing}, MoveOfCaller.{move_of_caller, call_wake, call_on, call_global, call_signal}}
use Rattle.exec_moves.specs.declared.handing.InGlobal.TheVariants as global
use Rattle.exec_moves.specs.declared.idling.InRingWait.TheVariants as ring

-- EACH THING PUT BACK

other_at : {A : Type 0} (xs : List A) (i j : ℕ) (a d : A) → (j == i) ≡ false → slice_index_or (slice_set xs i a) j d ≡ slice_index_or xs j d
other_at xs i j a d apart = get_or-set_other xs i j a d (λ e. true≢false (sym (eq-eqb j i e) ∙ apart))

none : (cell : Cell) (x : Things) → OnlyTouches cell x x
none cell x =
    record { queues = λ j h. refl; targets = λ j h. refl; latches = λ j h. refl; batches = λ j h. refl; inboxes = λ j h. refl; wake_polls = λ j h. refl; shards = λ n h. refl; gates = λ f h. refl; answers = λ r h. refl; alarms = λ z h. refl; global = λ h. refl; published = λ h. refl; count = λ h. refl; barrier = λ h. refl }

queue : (i : ℕ) (x : Things) (q : Queue ℕ) → OnlyTouches (RunQueue i) x (set_queue i x q)
queue i x q =
    record { queues = λ j apart. other_at x.queues i j q no_queue apart; targets = λ j h. refl; latches = λ j h. refl; batches = λ j h. refl; inboxes = λ j h. refl; wake_polls = λ j h. refl; shards = λ j h. refl; gates = λ f h. refl; answers = λ r h. refl; alarms = λ z h. refl; global = λ h. refl; published = λ h. refl; count = λ h. refl; barrier = λ h. refl }

share : (i : ℕ) (x : Things) (q : Queues) → OnlyTouches (Share i) x (set_queues i x q)
share i x q =
    record { queues = λ j apart. other_at x.queues i j q.queue no_queue apart; targets = λ j h. refl; latches = λ j h. refl; batches = λ j h. refl; inboxes = λ j h. refl; wake_polls = λ j h. refl; shards = λ j h. refl; gates = λ f h. refl; answers = λ r h. refl; alarms = λ z h. refl; global = λ h. absurd (true≢false h); published = λ h. refl; count = λ h. refl; barrier = λ h. refl }

word_put : (i : ℕ) (x : Things) (w : PureWord) → OnlyTouches (WakeWord i) x (set_word i x w)
word_put i x w =
    record { queues = λ j h. refl; targets = λ j apart. ap (λ w. w.target) (other_at x.words i j w no_word apart); latches = λ j apart. ap (λ w. w.latch) (other_at x.words i j w no_word apart); batches = λ j apart. ap (λ w. w.batch) (other_at x.words i j w no_word apart); inboxes = λ j h. refl; wake_polls = λ j h. refl; shards = λ j h. refl; gates = λ f h. refl; answers = λ r h. refl; alarms = λ z h. refl; global = λ h. refl; published = λ h. refl; count = λ h. refl; barrier = λ h. refl }

inbox : (i : ℕ) (x : Things) (m : List MailMessage) → OnlyTouches (Inbox i) x (set_inbox i x m)
inbox i x m =
    record { queues = λ j h. refl; targets = λ j h. refl; latches = λ j h. refl; batches = λ j h. refl; inboxes = λ j apart. other_at x.inboxes i j m [] apart; wake_polls = λ j h. refl; shards = λ j h. refl; gates = λ f h. refl; answers = λ r h. refl; alarms = λ z h. refl; global = λ h. refl; published = λ h. refl; count = λ h. refl; barrier = λ h. refl }

-- of an element that is put, what stays as it was does so of each
keeps_at : {A B : Type 0} (f : A → B) (xs : List A) (i j : ℕ) (a d : A) → f a ≡ f (slice_index_or xs i d) → f (slice_index_or (slice_set xs i a) j d) ≡ f (slice_index_or xs j d)
keeps_at f [] i j a d same = refl
keeps_at f (x ∷ xs) zero zero a d same = same
keeps_at f (x ∷ xs) zero (suc j) a d same = refl
keeps_at f (x ∷ xs) (suc i) zero a d same = refl
keeps_at f (x ∷ xs) (suc i) (suc j) a d same = keeps_at f xs i j a d same

-- the word but for its batch
abbrev unbatched : PureWord → PureWord
unbatched w = record w { batch = 0 }

mailbox : (i : ℕ) (x : Things) (m : Mailbox) → unbatched m.word ≡ unbatched (word_of x i) → OnlyTouches (Inbox i) x (set_mailbox i x m)
mailbox i x m same =
    record { queues = λ j h. refl; targets = λ j h. keeps_at (λ w. w.target) x.words i j m.word no_word (ap (λ w. w.target) same); latches = λ j h. keeps_at (λ w. w.latch) x.words i j m.word no_word (ap (λ w. w.latch) same); batches = λ j apart. ap (λ w. w.batch) (other_at x.words i j m.word no_word apart); inboxes = λ j apart. other_at x.inboxes i j m.messages [] apart; wake_polls = λ j h. refl; shards = λ j h. refl; gates = λ f h. refl; answers = λ r h. refl; alarms = λ z h. refl; global = λ h. refl; published = λ h. refl; count = λ h. refl; barrier = λ h. refl }

rest : (i : ℕ) (x : Things) (p : WakePoll) → OnlyTouches (Rest i) x (set_wake_poll i x p)
rest i x p =
    record { queues = λ j h. refl; targets = λ j h. refl; latches = λ j h. refl; batches = λ j h. refl; inboxes = λ j h. refl; wake_polls = λ j apart. other_at x.wake_polls i j p no_wake_poll apart; shards = λ j h. refl; gates = λ f h. refl; answers = λ r h. refl; alarms = λ z h. refl; global = λ h. refl; published = λ h. refl; count = λ h. refl; barrier = λ h. refl }

ring_put : (i : ℕ) (x : Things) (p : WakePoll) → OnlyTouches (RingOf i) x (set_wake_poll i x p)
ring_put i x p =
    record { queues = λ j h. refl; targets = λ j h. refl; latches = λ j h. refl; batches = λ j h. refl; inboxes = λ j h. refl; wake_polls = λ j apart. other_at x.wake_polls i j p no_wake_poll apart; shards = λ j h. refl; gates = λ f h. refl; answers = λ r h. refl; alarms = λ z h. refl; global = λ h. refl; published = λ h. refl; count = λ h. refl; barrier = λ h. refl }

global_put : (x : Things) (g : List ℕ) → OnlyTouches GlobalQueue x (set_global x g)
global_put x g =
    record { queues = λ j h. refl; targets = λ j h. refl; latches = λ j h. refl; batches = λ j h. refl; inboxes = λ j h. refl; wake_polls = λ j h. refl; shards = λ j h. refl; gates = λ f h. refl; answers = λ r h. refl; alarms = λ z h. refl; global = λ h. absurd (true≢false h); published = λ h. refl; count = λ h. refl; barrier = λ h. refl }

set_put : (x : Things) (y : Idle) → y.count ≡ x.idle.count → OnlyTouches IdleSet x (set_idle x y)
set_put x y same =
    record { queues = λ j h. refl; targets = λ j h. refl; latches = λ j h. refl; batches = λ j h. refl; inboxes = λ j h. refl; wake_polls = λ j h. refl; shards = λ j h. refl; gates = λ f h. refl; answers = λ r h. refl; alarms = λ z h. refl; global = λ h. refl; published = λ h. absurd (true≢false h); count = λ h. same; barrier = λ h. refl }

count_put : (x : Things) (y : Idle) → y.published ≡ x.idle.published → OnlyTouches SearchCount x (set_idle x y)
count_put x y same =
    record { queues = λ j h. refl; targets = λ j h. refl; latches = λ j h. refl; batches = λ j h. refl; inboxes = λ j h. refl; wake_polls = λ j h. refl; shards = λ j h. refl; gates = λ f h. refl; answers = λ r h. refl; alarms = λ z h. refl; global = λ h. refl; published = λ h. same; count = λ h. absurd (true≢false h); barrier = λ h. refl }

barrier_put : (x : Things) (b : Bool) → OnlyTouches Barrier x (set_barrier x b)
barrier_put x b =
    record { queues = λ j h. refl; targets = λ j h. refl; latches = λ j h. refl; batches = λ j h. refl; inboxes = λ j h. refl; wake_polls = λ j h. refl; shards = λ j h. refl; gates = λ f h. refl; answers = λ r h. refl; alarms = λ z h. refl; global = λ h. refl; published = λ h. refl; count = λ h. refl; barrier = λ h. absurd (true≢false h) }

shard : (n : ℕ) (x : Things) (l : List ℕ) → OnlyTouches (Shard n) x (set_shard n x l)
shard n x l =
    record { queues = λ j h. refl; targets = λ j h. refl; latches = λ j h. refl; batches = λ j h. refl; inboxes = λ j h. refl; wake_polls = λ j h. refl; shards = λ j apart. other_at x.shards n j l [] apart; gates = λ f h. refl; answers = λ r h. refl; alarms = λ z h. refl; global = λ h. refl; published = λ h. refl; count = λ h. refl; barrier = λ h. refl }

gate : (file : ℕ) (x : Things) (l : List ℕ) → OnlyTouches (Gate file) x (set_gate file x l)
gate file x l =
    record { queues = λ j h. refl; targets = λ j h. refl; latches = λ j h. refl; batches = λ j h. refl; inboxes = λ j h. refl; wake_polls = λ j h. refl; shards = λ j h. refl; gates = λ j apart. other_at x.gates file j l [] apart; answers = λ r h. refl; alarms = λ z h. refl; global = λ h. refl; published = λ h. refl; count = λ h. refl; barrier = λ h. refl }

other_way : (n m : ℕ) → (n == m) ≡ false → (m == n) ≡ false
other_way n m apart = by (m == n) refl
  where
    by : (same : Bool) → (m == n) ≡ same → same ≡ false
    by false h = refl
    by true h = absurd (true≢false (sym (eq-eqb n m (sym (eqb-true m n h))) ∙ apart))

-- what was sent, with one more end: of any other it says what it said
one_more : (n m : ℕ) (ns : List ℕ) → (m == n) ≡ false → has_number n (in_order m ns) ≡ has_number n ns
one_more n m [] apart = ap (λ b. b || false) apart
one_more n m (k ∷ ks) apart = by (nat_lt m k) (m == k) (one_more n m ks apart)
  where
    by : (before same : Bool) → has_number n (in_order m ks) ≡ has_number n ks
        → has_number n (if before then m ∷ (k ∷ ks) else if same then k ∷ ks else k ∷ in_order m ks) ≡ has_number n (k ∷ ks)
    by true same later = ap (λ b. b || has_number n (k ∷ ks)) apart
    by false true later = refl
    by false false later = ap (λ b. (k == n) || b) later

answer : (r : ℕ) (x : Things) → OnlyTouches (Answer r) x (set_answers x (in_order r x.answers))
answer r x =
    record { queues = λ j h. refl; targets = λ j h. refl; latches = λ j h. refl; batches = λ j h. refl; inboxes = λ j h. refl; wake_polls = λ j h. refl; shards = λ j h. refl; gates = λ f h. refl; answers = λ q apart. one_more q r x.answers (other_way q r apart); alarms = λ z h. refl; global = λ h. refl; published = λ h. refl; count = λ h. refl; barrier = λ h. refl }

alarm : (z : ℕ) (x : Things) → OnlyTouches (Alarm z) x (set_alarms x (in_order z x.alarms))
alarm z x =
    record { queues = λ j h. refl; targets = λ j h. refl; latches = λ j h. refl; batches = λ j h. refl; inboxes = λ j h. refl; wake_polls = λ j h. refl; shards = λ j h. refl; gates = λ f h. refl; answers = λ r h. refl; alarms = λ y apart. one_more y z x.alarms (other_way y z apart); global = λ h. refl; published = λ h. refl; count = λ h. refl; barrier = λ h. refl }

-- A new worker has nothing yet: as one that isn't there.
past_end : {A : Type 0} (xs : List A) (d : A) (j : ℕ) → slice_index_or (xs ++ d ∷ []) j d ≡ slice_index_or xs j d
past_end [] d zero = refl
past_end [] d (suc j) = refl
past_end (x ∷ xs) d zero = refl
past_end (x ∷ xs) d (suc j) = past_end xs d j

newcomer : (cell : Cell) (x : Things) → OnlyTouches cell x (with_newcomer x)
newcomer cell x =
    record { queues = λ j h. past_end x.queues no_queue j; targets = λ j h. ap (λ w. w.target) (past_end x.words no_word j); latches = λ j h. ap (λ w. w.latch) (past_end x.words no_word j); batches = λ j h. ap (λ w. w.batch) (past_end x.words no_word j); inboxes = λ j h. past_end x.inboxes [] j; wake_polls = λ j h. past_end x.wake_polls no_wake_poll j; shards = λ j h. refl; gates = λ f h. refl; answers = λ r h. refl; alarms = λ z h. refl; global = λ h. refl; published = λ h. refl; count = λ h. refl; barrier = λ h. refl }

either_way : {A B : Type 0} (f : A → B) (b : Bool) (one other : A) (y : B) → f one ≡ y → f other ≡ y → f (if b then one else other) ≡ y
either_way f true one other y here there = here
either_way f false one other y here there = there

-- a claim keeps the count
claim_keeps : (it : Claimed) (x : Idle) → (idle_after it x).count ≡ x.count
claim_keeps (Worker lowest) x = refl
claim_keeps (Again found) x = refl
claim_keeps Nobody x = refl

publish_keeps : (b : Bool) (w : PureWord) → unbatched (published_if b w) ≡ unbatched w
publish_keeps true w = refl
publish_keeps false w = refl

-- a message to worker j
posts : (j : ℕ) (x : Things) (s : Common) (message : MailMessage) (choice : Choice) → OnlyTouches (Inbox j) x (set_mailbox j x (posting_of s j message choice (mailbox_of x j)).mailbox)
posts j x s message choice =
    let m = mailbox_of x j in
    mailbox j x _ (either_way (λ (it : Posting). unbatched it.mailbox.word) (seat_of s j).mailbox_closed _ _ _ refl
    (either_way (λ (it : Mailbox). unbatched it.word) (leaves_out message m) _ _ _ refl (publish_keeps (is_empty m.messages) m.word)))

-- OF A WORKER

pick_one : (c : Configuration) (i : ℕ) (d : Desk) (x : Things) (p : InPick) → OnlyTouches (names_in_pick i p) x (move_pick c i d x p).thing
pick_one c i d x pick.CountDown = none _ x
pick_one c i d x (pick.LoadMirror f) = global_put x _
pick_one c i d x (pick.LoadHead f) = queue i x _
pick_one c i d x (pick.TakeShare f room held) = share i x _

pop_one : (c : Configuration) (i : ℕ) (d : Desk) (x : Things) (p : InPop) (b : AfterPop) → OnlyTouches (RunQueue i) x (move_pop c i d x p b).thing
pop_one c i d x pop.PopAlone b = queue i x _
pop_one c i d x pop.LoadPopHead b = queue i x _
pop_one c i d x (pop.ExchangePop h) b = queue i x _
pop_one c i d x pop.StorePop b = queue i x _

push_one : (c : Configuration) (i : ℕ) (me : Books) (s : Common) (d : Desk) (x : Things) (p : InPush) (b : AfterPush) → OnlyTouches (RunQueue i) x (move_push c i me s d x p b).thing
push_one c i me s d x push.LoadPushHead b = queue i x _
push_one c i me s d x (push.StoreValue len) b = queue i x _
push_one c i me s d x (push.FlowOver h) b = queue i x _
push_one c i me s d x push.StoreOldest b = queue i x _

global_one : (c : Configuration) (i : ℕ) (me : Books) (s : Common) (d : Desk) (x : Things) (p : InGlobal) (b : AfterPush) → OnlyTouches (names_in_global p) x (move_global c i me s d x p b).thing
global_one c i me s d x global.Append b = global_put x _
global_one c i me s d x global.LoadGlobalSet b = set_put x _ refl
global_one c i me s d x (global.AddGlobalCount set) b = count_put x _ refl
global_one c i me s d x global.ReturnGlobalCount b = count_put x _ refl

kick_one : (c : Configuration) (i : ℕ) (me : Books) (s : Common) (d : Desk) (x : Things) (p : InKick) (b : AfterKick) → OnlyTouches (names_in_kick p) x (move_kick c i me s d x p b).thing
kick_one c i me s d x kick.LoadKickCount b = count_put x _ refl
kick_one c i me s d x kick.LoadKickSet b = set_put x _ refl
kick_one c i me s d x (kick.ExchangeKickCount set) b = count_put x _ (either_way (λ (m : Moved Idle). m.thing.published) (x.idle.count == 0) _ _ _ refl refl)
kick_one c i me s d x kick.ReturnKickCount b = count_put x _ refl

signal_one : (c : Configuration) (i : ℕ) (me : Books) (s : Common) (d : Desk) (x : Things) (p : InSignal) (j : ℕ) (b : AfterSignal) → OnlyTouches (names_in_signal p j) x (move_signal c i me s d x p j b).thing
signal_one c i me s d x signals.SetLatch j b = word_put j x _
signal_one c i me s d x (signals.Raise ring) j b = rest j x _

-- by a test, this or that
either : (b : Bool) (one other : Cell) (x : Things) (m n : Moved Things) → OnlyTouches one x m.thing → OnlyTouches other x n.thing → OnlyTouches (if b then one else other) x (if b then m else n).thing
either true one other x m n here there = here
either false one other x m n here there = there

wake_one : (c : Configuration) (i : ℕ) (s : Common) (d : Desk) (x : Things) (t u : ℕ) (home : Option ℕ) → OnlyTouches (names_to_wake i u home) x (move_wake c i s d x t u home).thing
wake_one c i s d x t u None = none _ x
wake_one c i s d x t u (Some home) = either (home == i) _ _ x _ _ (none _ x) (posts home x s _ _)

-- a look at what was sent changes nothing of it
heard_request : (t r : ℕ) (s : Common) (d : Desk) (answers : List ℕ) → (hear_request t r s d answers).thing ≡ answers
heard_request t r s d answers = by (has_number r answers) (request_of s r).phase
  where
    by : (b : Bool) (p : RequestPhase) → (heard_by t r d answers b p).thing ≡ answers
    by true (phase.Resolved outcome) = refl
    by true phase.Gated = refl
    by true phase.Queued = refl
    by true phase.Staged = refl
    by true phase.Flying = refl
    by true (phase.Landed n) = refl
    by false p = refl

heard_timer : (t z : ℕ) (d : Desk) (alarms : List ℕ) → (hear_timer t z d alarms).thing ≡ alarms
heard_timer t z d alarms = either_way (λ (m : Moved (List ℕ)). m.thing) (has_number z alarms) _ _ alarms refl refl

look_at_one : (c : Configuration) (s : Common) (d : Desk) (x : Things) (t : ℕ) (b : AfterSend) (here : Moved Things) (y : Sight) → OnlyTouches (Phase t) x here.thing → OnlyTouches (names_at t y) x (move_look_at c s d x t b here y).thing
look_at_one c s d x t b here Here one = one
look_at_one c s d x t b here (Asks j message) one = posts j x s _ _
look_at_one c s d x t b here (HearsRequest r) one = subst (λ answers. OnlyTouches (Answer r) x (set_answers x answers)) (sym (heard_request t r s d x.answers)) (none (Answer r) x)
look_at_one c s d x t b here (HearsTimer z) one = subst (λ alarms. OnlyTouches (Alarm z) x (set_alarms x alarms)) (sym (heard_timer t z d x.alarms)) (none (Alarm z) x)

-- unless the set is closed, a worker is made
dedicated_one : (b : Bool) (cell : Cell) (x : Things) → OnlyTouches cell x (if b then x else with_newcomer x)
dedicated_one true cell x = none cell x
dedicated_one false cell x = newcomer cell x

act_one : (c : Configuration) (i : ℕ) (me : Books) (s : Common) (d : Desk) (x : Things) (t : ℕ) (w : ScriptWord) → OnlyTouches (names_in_act c i s t w) x (move_act c i me s d x t w).thing
act_one c i me s d x t (script.Spawn k) = shard _ x _
act_one c i me s d x t (script.Wake u) = wake_one c i s d x t u (task_of s u).home
act_one c i me s d x t (script.Dedicated k) = dedicated_one s.set_closed _ x
act_one c i me s d x t script.Await = look_at_one c s d x t (send.Pend t) _ (sight_of_act i s (task_of s t) script.Await) (none _ x)
act_one c i me s d x t script.Drop = look_at_one c s d x t (send.Act t) _ (sight_of_act i s (task_of s t) script.Drop) (none _ x)
act_one c i me s d x t _ = none _ x

poll_one : (c : Configuration) (i : ℕ) (me : Books) (s : Common) (d : Desk) (x : Things) (t : ℕ) (p : InPoll) → OnlyTouches (names_in_poll c i s t p) x (move_poll c i me s d x t p).thing
poll_one c i me s d x t poll.BeginPoll = none _ x
poll_one c i me s d x t poll.Resume = look_at_one c s d x t (send.Pend t) _ (sight_of i s (task_of s t).waiting) (none _ x)
poll_one c i me s d x t poll.Act = act_one c i me s d x t (next_word s (task_of s t))
poll_one c i me s d x t (poll.JoinGate r) = gate _ x _
poll_one c i me s d x t poll.LoadSpawnHead = queue i x _
poll_one c i me s d x t poll.Pend = none _ x
poll_one c i me s d x t poll.RemoveTask = shard _ x _

item_one : (c : Configuration) (i : ℕ) (me : Books) (s : Common) (d : Desk) (x : Things) (n : AfterCallbacks) (it : Item) → OnlyTouches (names_of_item it) x (move_item c i me s d x n it).thing
item_one c i me s d x n (Wakes t) = none _ x
item_one c i me s d x n LetsGo = none _ x
item_one c i me s d x n (Releases r) = none _ x
item_one c i me s d x n (Completes z) = alarm z x
item_one c i me s d x n (Answers r) = answer r x
item_one c i me s d x n Nothing = none _ x

callbacks_one : (c : Configuration) (i : ℕ) (me : Books) (s : Common) (d : Desk) (x : Things) (p : InCallbacks) (n : AfterCallbacks) → OnlyTouches (names_in_callbacks me d p) x (move_callbacks c i me s d x p n).thing
callbacks_one c i me s d x callback.TakeBatch n = none _ x
callbacks_one c i me s d x callback.CallBack n = item_one c i me s d x n (item_next me d)
callbacks_one c i me s d x (callback.WakeWaiter t of) n = none _ x

loads_one : (i : ℕ) (me : Books) (d : Desk) (x : Things) (p : InLoads) (r : Round) → OnlyTouches (names_in_loads i p) x (move_loads i me d x p r).thing
loads_one i me d x load.LoadOwnHead r = queue i x _
loads_one i me d x (load.LoadOwnMirror f) r = global_put x _
loads_one i me d x (load.LoadOwnWord f) r = word_put i x _

submit_one : (c : Configuration) (i : ℕ) (me : Books) (s : Common) (d : Desk) (x : Things) (from : ℕ) (v : Service) (due : Due) → OnlyTouches (names_of_due i due) x (move_submit c i me s d x from v due).thing
submit_one c i me s d x from v (Expires r) = none _ x
submit_one c i me s d x from v (Enrols r) = none _ x
submit_one c i me s d x from v (AtGate file) = gate file x _
submit_one c i me s d x from v due = ring_put i x _

service_one : (c : Configuration) (i : ℕ) (me : Books) (s : Common) (d : Desk) (x : Things) (p : InService) (v : Service) → OnlyTouches (names_in_service c i me s d p) x (move_service c i me s d x p v).thing
service_one c i me s d x step.Sample v = word_put i x _
service_one c i me s d x (step.Reap r) v = ring_put i x _
service_one c i me s d x (step.PassPermit file b) v = gate file x _
service_one c i me s d x (step.Signal j b) v = word_put j x _
service_one c i me s d x (step.Raise ring j b) v = rest j x _
service_one c i me s d x step.AdvanceWheel v = none _ x
service_one c i me s d x (step.Submit from) v = submit_one c i me s d x from v (due_next c i from me s d)
service_one c i me s d x step.EnterLast v = ring_put i x _
service_one c i me s d x step.EndService v = none _ x

mail_one : (i : ℕ) (me : Books) (s : Common) (d : Desk) (x : Things) (p : InMail) → OnlyTouches (names_in_mail i p) x (move_mail i me s d x p).thing
mail_one i me s d x mail.LoadMailWord = word_put i x _
mail_one i me s d x mail.TakeMail = inbox i x _
mail_one i me s d x (mail.Apply applied taken) = none _ x

search_one : (c : Configuration) (d : Desk) (x : Things) (p : InSearch) → OnlyTouches SearchCount x (move_search c d x p).thing
search_one c d x search_at.LoadSearchCount = count_put x _ refl
search_one c d x search_at.AddSearchCount = count_put x _ refl

scan_one : (c : Configuration) (i : ℕ) (me : Books) (s : Common) (d : Desk) (x : Things) (p : InScan) → OnlyTouches (names_in_scan c i p) x (move_scan c i me s d x p).thing
scan_one c i me s d x scan.LoadScanHead = queue i x _
scan_one c i me s d x (scan.LoadTheirHead y) = queue _ x _
scan_one c i me s d x (scan.LoadTheirTail y h) = queue _ x _
scan_one c i me s d x (scan.ClaimHalf y h tail) = queue _ x _
scan_one c i me s d x (scan.MoveHalf from h) = none _ x
scan_one c i me s d x (scan.ReleaseHalf from h) = queue from x _
scan_one c i me s d x scan.StoreMoved = queue i x _

look_one : (c : Configuration) (i : ℕ) (s : Common) (d : Desk) (x : Things) (p : InLook) → OnlyTouches (names_in_look p) x (move_look c i s d x p).thing
look_one c i s d x look.Publish = set_put x _ refl
look_one c i s d x look.ReturnLookCount = count_put x _ refl
look_one c i s d x (look.LookAtMirror last) = global_put x _
look_one c i s d x look.LookAtCount = count_put x _ refl
look_one c i s d x (look.LookAtHead j) = queue j x _
look_one c i s d x (look.LookAtTail j h) = queue j x _
look_one c i s d x look.ExchangeLookCount = count_put x _ (either_way (λ (m : Moved Idle). m.thing.published) (x.idle.count == 0) _ _ _ refl refl)
look_one c i s d x look.ReturnClaimed = count_put x _ refl

ring_wait_one : (c : Configuration) (i : ℕ) (me : Books) (s : Common) (d : Desk) (x : Things) (p : InRingWait) (y : Stay) → OnlyTouches (names_in_ring_wait i p) x (move_ring_wait c i me s d x p y).thing
ring_wait_one c i me s d x ring.EnterFullRing y = ring_put i x _
ring_wait_one c i me s d x ring.TestRing y = none _ x
ring_wait_one c i me s d x ring.ArmRing y = word_put i x _
ring_wait_one c i me s d x ring.EnterRing y = ring_put i x _
ring_wait_one c i me s d x ring.SleepOnRing y = ring_put i x _
ring_wait_one c i me s d x (ring.DisarmRing n) y = word_put i x _

word_wait_one : (i : ℕ) (s : Common) (d : Desk) (x : Things) (p : InWordWait) → OnlyTouches (WakeWord i) x (move_word_wait i s d x p).thing
word_wait_one i s d x (word.SpinOnBatch left) = word_put i x _
word_wait_one i s d x (word.SpinOnLatch left) = word_put i x _
word_wait_one i s d x word.TakeLatch = word_put i x _
word_wait_one i s d x word.ArmWord = word_put i x _
word_wait_one i s d x word.SleepOnWord = word_put i x _
word_wait_one i s d x word.DisarmWord = word_put i x _

closing_one : (c : Configuration) (i : ℕ) (s : Common) (d : Desk) (x : Things) (p : InClosing) → OnlyTouches (names_in_closing i p) x (move_closing c i s d x p).thing
closing_one c i s d x closing.Close = none _ x
closing_one c i s d x closing.CloseQueue = global_put x _
closing_one c i s d x closing.OpenBarrier = barrier_put x _
closing_one c i s d x closing.Stop = none _ x
closing_one c i s d x (closing.TellRoot j) = posts j x s _ _
closing_one c i s d x (closing.Visit drain) = shard _ x _
closing_one c i s d x (closing.Clear t drain) = none _ x
closing_one c i s d x closing.LeaveBarrier = barrier_put x _
closing_one c i s d x closing.CloseMailbox = inbox i x _
closing_one c i s d x closing.Orphan = none _ x
closing_one c i s d x closing.CloseSleeper = none _ x
closing_one c i s d x closing.End = none _ x

at_one : (c : Configuration) (i : ℕ) (me : Books) (s : Common) (d : Desk) (x : Things) (p : Place) → OnlyTouches (names c i me s d p) x (move_at c i me s d x p).thing
at_one c i me s d x at.BeginTurn = none _ x
at_one c i me s d x (at.Pick p) = pick_one c i d x p
at_one c i me s d x at.TakeRootFlag = none _ x
at_one c i me s d x (at.Poll t p) = poll_one c i me s d x t p
at_one c i me s d x (at.Callbacks p n) = callbacks_one c i me s d x p n
at_one c i me s d x (at.Loads p r) = loads_one i me d x p r
at_one c i me s d x (at.Service p v) = service_one c i me s d x p v
at_one c i me s d x (at.Mail p) = mail_one i me s d x p
at_one c i me s d x (at.TestForWork f) = none _ x
at_one c i me s d x at.ReadClock = none _ x
at_one c i me s d x (at.Search p) = search_one c d x p
at_one c i me s d x (at.Scan p) = scan_one c i me s d x p
at_one c i me s d x (at.Look p) = look_one c i s d x p
at_one c i me s d x (at.RingWait p y) = ring_wait_one c i me s d x p y
at_one c i me s d x (at.WordWait p) = word_wait_one i s d x p
at_one c i me s d x (at.Withdraw n) = set_put x _ refl
at_one c i me s d x (at.Closing p) = closing_one c i s d x p
at_one c i me s d x (at.Pop p b) = pop_one c i d x p b
at_one c i me s d x (at.LeaveSearch b) = count_put x _ refl
at_one c i me s d x (at.Push p b) = push_one c i me s d x p b
at_one c i me s d x (at.Global p b) = global_one c i me s d x p b
at_one c i me s d x (at.Kick p b) = kick_one c i me s d x p b
at_one c i me s d x (at.ClaimWorker set b) = set_put x _ (claim_keeps (claimed set x.idle) x.idle)
at_one c i me s d x (at.Signal p j b) = signal_one c i me s d x p j b
at_one c i me s d x (at.SendCancel b) = posts _ x s _ _

pub of_a_worker : (c : Configuration) (i : ℕ) (me : Books) (s : Common) (d : Desk) (x : Things) → OnlyTouches (names c i me s d d.place) x (move c i me s d x).thing
of_a_worker c i me s d x = at_one c i me s d x d.place

-- OF A CALLER

call_wake_one : (s : Common) (d : CallDesk) (x : Things) (u : ℕ) (home : Option ℕ) → OnlyTouches (names_to_wake_by_call u home) x (call_wake s d x u home).thing
call_wake_one s d x u None = none _ x
call_wake_one s d x u (Some home) = posts home x s _ _

call_global_one : (s : Common) (d : CallDesk) (x : Things) (p : InGlobal) → OnlyTouches (names_in_global p) x (call_global s d x p).thing
call_global_one s d x global.Append = global_put x _
call_global_one s d x global.LoadGlobalSet = set_put x _ refl
call_global_one s d x (global.AddGlobalCount set) = count_put x _ refl
call_global_one s d x global.ReturnGlobalCount = count_put x _ refl

call_signal_one : (s : Common) (d : CallDesk) (x : Things) (p : InSignal) (j : ℕ) → OnlyTouches (names_in_signal p j) x (call_signal s d x p j).thing
call_signal_one s d x signals.SetLatch j = word_put j x _
call_signal_one s d x (signals.Raise ring) j = rest j x _

call_on_one : (s : Common) (d : CallDesk) (x : Things) (p : CallPlace) → OnlyTouches (names_by_call p) x (call_on s d x p).thing
call_on_one s d x call.Nothing = none _ x
call_on_one s d x (call.Global p) = call_global_one s d x p
call_on_one s d x (call.ClaimWorker set) = set_put x _ (claim_keeps (claimed set x.idle) x.idle)
call_on_one s d x (call.Signal p j) = call_signal_one s d x p j
call_on_one s d x call.Return = none _ x

pub of_a_caller : (c : Configuration) (s : Common) (d : CallDesk) (x : Things) (a : Action) → OnlyTouches (names_by_caller c s d.place a) x (move_of_caller c s d x a).thing
of_a_caller c s d x (action.Spawn j k) = shard _ x _
of_a_caller c s d x (action.Wake j t) = call_wake_one s d x t (task_of s t).home
of_a_caller c s d x _ = call_on_one s d x d.place
