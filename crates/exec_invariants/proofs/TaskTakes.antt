-- A POLLED TASK TAKES what it waited for: a wake, the end of its sleep, or an output that was sent to it; or it looks in vain.
use Rattle.exec_invariants.{specs.{Hearing.{CanHear, held_once_come}, Holding.{Holder, IsHolding, awaited_in, box_of, holder_of, nap_of, thing_of}, Sound.{SoundAt, acts_next, has_wakes_at, may_resume}, Whole.{Profile, hands_of, wakes_with, with_worker}, Works.Steps}, proofs.{Words.{map-set, slice_get-map, false≢true, eq-eqb, ◌⊎◌, ⊎_elim, ◌≡◌, ℕ, zero, suc, ◌+◌, ◌||◌, Bool, true, false, List, [], ◌∷◌, count_by, Option, Some, None, refl, sym, ap, subst, ◌∙◌, ◌<◌, ◌==◌, arith, map, option_map, slice_get, slice_set, if◌then◌else◌, NoMemory, Said, Applied, Unsent, ForwardTimer, Waiting, Event, Pass, GotTimer, Turn, Plain, Plan, is_here, is_unsent, Task, task_of, AfterSend, InPoll, Place, move_look_at, Asks, HearsTimer, acts_on, pend, resume, sight_by, sight_of, stops, Moved, Things, does, aside, with_alarms, has_number, Shared, SleeperRecord, TaskSlot, Worker, passed_slot, slept_slot, numbers_held, IsAnswered, Spot, Views, common_of, desk_of, numbers_of_passing, own_of, spot_by, task_seen, things_with, TurnsSlot, not_same, same_Some}, Hearing.hears_come, Here.{IsHere, going_on}, HoldBeside.Holds, HoldNaps.nap_taken, HoldThings.touches_none, PoolKept.chosen_own, Seen.sleeper_at, Slots.{IsEvent, holders_set, task_there, works_slot}, TaskDeals.{Dealt, acts as to_act, dealt, from_look}}}

-- A number is among those that pass just where what stands there passes.
past_none : {A : Type 0} (test : A → Bool) (n a : ℕ) (xs : List A) → n < a → has_number n (numbers_of_passing test a xs) ≡ false
past_none test n a [] less = refl
past_none test n a (x ∷ xs) less = grind (arith, not_same, past_none test n (suc a) xs (omega (arith, less)))

passes_from : {A : Type 0} (test : A → Bool) (a k : ℕ) (xs : List A) (x : A) → slice_get xs k ≡ Some x → has_number (a + k) (numbers_of_passing test a xs) ≡ test x
passes_from test a k [] x at = absurd (cc)
passes_from test a zero (y ∷ ys) x at = grind (arith, same_Some, eq-eqb, past_none)
passes_from test a (suc k) (y ∷ ys) x at = grind (arith, not_same, passes_from test (suc a) k ys x at)

pub passes_at : {A : Type 0} (test : A → Bool) (k : ℕ) (xs : List A) (x : A) → slice_get xs k ≡ Some x → has_number k (numbers_of_passing test 0 xs) ≡ test x
passes_at test k xs x at = ap (λ n. has_number n (numbers_of_passing test 0 xs)) (omega arith) ∙ passes_from test 0 k xs x at

pub nap_there : (zs : List SleeperRecord) (k : ℕ) (z : SleeperRecord) → slice_get zs k ≡ Some z → slice_get (map nap_of zs) k ≡ Some (nap_of z)
nap_there zs k z there = slice_get-map nap_of zs k ∙ ap (option_map nap_of) there

-- a look at anything else
pub never_resumes : (u : Waiting) → may_resume u ≡ true → (u ≡ Waiting.Nothing) ⊎ ((u ≡ Waiting.Wake) ⊎ (u ≡ Waiting.Yielded)) → ⊥
never_resumes u may is =
    ⊎_elim (λ e. false≢true (sym (ap may_resume e) ∙ may)) (λ other. ⊎_elim (λ e. false≢true (sym (ap may_resume e) ∙ may)) (λ e. false≢true (sym (ap may_resume e) ∙ may)) other) is

module _ {B : Type 0} where
  abbrev pub told_slot : Said → TaskSlot B → TaskSlot B
  told_slot answer slot = record slot { waiting = Waiting.Nothing; told = Some answer }

  -- the slot goes on to act
  dealt_told : (t : ℕ) (i : ℕ) (answer : Said) (w : Worker) (s : Shared B) (it : IsHere InPoll.Resume t w s) → Dealt InPoll.Act i it.slot (told_slot answer it.slot) s.requests.items s.sleepers.items
  dealt_told t i answer w s it = record { cell = refl; home = refl; cleared = refl; poller = refl; body = it.body; told = λ h. refl; untold = λ h. absurd (false≢true (sym h)); waits = refl; stops = tt }

  -- the holders, where one slot was set
  pub holders_one : (tasks : List (TaskSlot B)) (t : ℕ) (slot' : TaskSlot B) → map holder_of (slice_set tasks t slot') ≡ slice_set (map holder_of tasks) t (holder_of slot')
  holders_one tasks t slot' = map-set holder_of tasks t slot'

  pub holder_there : (tasks : List (TaskSlot B)) (t : ℕ) (slot : TaskSlot B) → slice_get tasks t ≡ Some slot → slice_get (map holder_of tasks) t ≡ Some (holder_of slot)
  holder_there tasks t slot there = slice_get-map holder_of tasks t ∙ ap (option_map holder_of) there

  -- who polls owes no wake
  pub no_wakes : (x : InPoll) (t : ℕ) (w : Worker) (s : Shared B) (others : Profile) (u : ℕ) → has_wakes_at (Place.Poll t x) ≡ false → SoundAt (Place.Poll t x) w s → (hands_of (with_worker others w)).wakes w.index u ≡ 0
  no_wakes x t w s others u quiet sound = chosen_own w.index (wakes_with u w) (others.wakes w.index u) ∙ ap (count_by (λ n. n.0 == u)) (sound.quiet quiet)

module _ {B L : Type 0} (left : B → L) (spot : L → Option Said → Spot) (answered : IsAnswered spot) where
  pub spot_answered : (b : Option B) (answer : Said) (told : Option Said) → (answer ≡ Said.Refused NoMemory → ⊥) → told ≡ None → spot_by left spot b (Some answer) ≡ spot_by left spot b told
  spot_answered None answer told heard untold = refl
  spot_answered (Some b) answer told heard untold = answered (left b) answer heard ∙ ap (spot (left b)) (sym untold)

  -- the step, for what it waited for and was told
  told_by : (t : ℕ) (u : Waiting) (x : Said) (w w' : Worker) (s s' : Shared B) (e e' : Event) (change : TaskSlot B → TaskSlot B) → (sound : SoundAt (Place.Poll t InPoll.Resume) w s) → (it : IsHere InPoll.Resume t w s) → it.slot.waiting ≡ u → acts_next u ≡ false
      → CanHear None u x → held_once_come u (numbers_held it.slot.held.items) ≡ (numbers_held it.slot.held.items) → change it.slot ≡ told_slot x it.slot
      → ((others : Profile) → Holds (with_worker others w) s → Holds (with_worker others w) (record s { tasks = s'.tasks }))
      → (it.slot.told ≡ None → (p : Plan) (vs : Views) → IsEvent left spot (Place.Poll t InPoll.Resume) (Place.Poll t InPoll.Act) t w w.root_ready w.hand s (told_slot x it.slot) e' Plain p vs)
      → e ≡ e' → w' ≡ record w { place = Place.Poll t InPoll.Act } → TurnsSlot t s s' change → Steps left spot w s e w' s'
  told_by t u x w w' s s' e e' change sound it waits comes hears held changed holds event is same turns =
      let slot = it.slot in
      let slot' = told_slot x slot in
      let s1 : Shared B = record s { tasks = s'.tasks } in
      let untold : slot.told ≡ None = it.untold (ap acts_next waits ∙ comes) in
      let items : s'.tasks.items ≡ slice_set s.tasks.items t slot' = turns.tasks slot it.there ∙ ap (slice_set s.tasks.items t) changed in
      let done : Steps left spot w s e' w' s1 =
      dealt left spot InPoll.Resume InPoll.Act t w w' s s1 e' slot' (from_look t) (to_act t) sound it same refl items (touches_none s) (dealt_told t w.index x w s it)
      (hears_come slot slot' u x untold waits hears held refl) holds
      (λ p vs suits. works_slot left spot (Place.Poll t InPoll.Resume) (Place.Poll t InPoll.Act) t w w.root_ready w.hand s s' slot' e' Plain sound.here items p vs suits (event untold p vs)) in
      subst (λ y. Steps left spot w s e w' y) (sym turns.kept) (subst (λ y. Steps left spot w s y w' s1) (sym is) done)

  -- A WAKE

  wake_event : (t : ℕ) (w : Worker) (s : Shared B) (slot : TaskSlot B) → slice_get s.tasks.items t ≡ Some slot → slot.waiting ≡ Waiting.Woken → slot.told ≡ None → (p : Plan) (vs : Views)
      → IsEvent left spot (Place.Poll t InPoll.Resume) (Place.Poll t InPoll.Act) t w w.root_ready w.hand s (told_slot Said.Pass slot) Pass Plain p vs
  wake_event t w s slot there waits untold p vs =
      let all = common_of left spot p vs s in
      let me = own_of (record w { place = Place.Poll t InPoll.Resume }) in
      let it : task_of all t ≡ task_seen left spot slot = task_there left spot s.tasks.items t slot there in
      let what : (task_of all t).waiting ≡ Waiting.Woken = ap (λ y. y.waiting) it ∙ waits in
      let d = desk_of (record w { place = Place.Poll t InPoll.Resume }) in
      let looks : Task → Moved Things = λ y. move_look_at p.config all d (things_with vs s) t (AfterSend.Pend t) (aside (things_with vs s) (resume w.index t all d y)) (sight_of w.index all y.waiting) in
      grind arith

  pub wake_taken : (t : ℕ) (w w' : Worker) (s s' : Shared B) (e : Event) → (sound : SoundAt (Place.Poll t InPoll.Resume) w s) → (it : IsHere InPoll.Resume t w s) → it.slot.waiting ≡ Waiting.Woken → e ≡ Pass
      → w' ≡ record w { place = Place.Poll t InPoll.Act } → TurnsSlot t s s' passed_slot → Steps left spot w s e w' s'
  wake_taken t w w' s s' e sound it waits event same turns =
      let same_holder : holder_of (told_slot Said.Pass it.slot) ≡ holder_of it.slot = ap (λ u. record (holder_of it.slot) { awaits = awaited_in u }) (sym waits) in
      told_by t Waiting.Woken Said.Pass w w' s s' e Pass passed_slot sound it waits refl tt refl refl
      (λ others holds. subst (λ hs. IsHolding (hands_of (with_worker others w)) s.config.workers hs (map thing_of s.requests.items) (map nap_of s.sleepers.items) (map box_of s.seats.items))
      (sym (ap (map holder_of) (turns.tasks it.slot it.there) ∙ holders_set s.tasks.items t it.slot (told_slot Said.Pass it.slot) it.there same_holder)) holds)
      (λ untold p vs. wake_event t w s it.slot it.there waits untold p vs) event same turns

  -- THE END OF A SLEEP

  -- a sleeper of its own that has fired, or one whose end was sent
  abbrev SleepHere : ℕ → SleeperRecord → Type 0
  SleepHere i z = ((z.shown.worker ≡ i) × (z.shown.forwarding ≡ Unsent)) ⊎ ((z.sent ≡ true) × (z.shown.forwarding ≡ Applied))

  sleep_event : (t : ℕ) (w : Worker) (s : Shared B) (slot : TaskSlot B) (k : ℕ) (z : SleeperRecord) → slice_get s.tasks.items t ≡ Some slot → slot.waiting ≡ Waiting.Timer k → slot.told ≡ None → slice_get s.sleepers.items k ≡ Some z
      → z.shown.fired ≡ true → SleepHere w.index z → (p : Plan) (vs : Views)
      → IsEvent left spot (Place.Poll t InPoll.Resume) (Place.Poll t InPoll.Act) t w w.root_ready w.hand s (told_slot Said.Slept slot) (GotTimer k) Plain p vs
  sleep_event t w s slot k z there waits untold at_k fired whose p vs =
      let all = common_of left spot p vs s in
      let it : task_of all t ≡ task_seen left spot slot = task_there left spot s.tasks.items t slot there in
      let what : (task_of all t).waiting ≡ Waiting.Timer k = ap (λ y. y.waiting) it ∙ waits in
      let sleeper = sleeper_at s.sleepers.items k z at_k in
      let d = desk_of (record w { place = Place.Poll t InPoll.Resume }) in
      let x = things_with vs s in
      let looks : Task → Moved Things = λ y. move_look_at p.config all d x t (AfterSend.Pend t) (aside x (resume w.index t all d y)) (sight_of w.index all y.waiting) in
      let asleep : Task = record (task_seen left spot slot) { waiting = Waiting.Timer k } in
      let finds : Bool → Bool → Bool → Moved Things = λ f u m. move_look_at p.config all d x t (AfterSend.Pend t) (aside x (if f then does (GotTimer k) (acts_on t d) asleep else pend w.index t all d asleep)) (sight_by u m (Asks z.shown.worker (ForwardTimer k)) (HearsTimer k)) in
      let done : Moved Things = record { event = GotTimer k; choice = Plain; desk = desk_of (record w { place = Place.Poll t InPoll.Act }); thing = x } in
      let found : finds z.shown.fired (is_unsent z.shown.forwarding) (z.shown.worker == w.index) ≡ done =
      ⊎_elim
      (λ own. ap (λ f. finds f (is_unsent z.shown.forwarding) (z.shown.worker == w.index)) fired ∙ ap (λ f. finds true (is_unsent f) (z.shown.worker == w.index)) own.1 ∙ ap (λ m. finds true true m) (ap (λ n. n == w.index) own.0 ∙ eq-eqb w.index w.index refl))
      (λ heard.
      ap (λ f. finds z.shown.fired (is_unsent f) (z.shown.worker == w.index)) heard.1
      ∙ ap (λ b. with_alarms x (if b then does (GotTimer k) (acts_on t d) x.alarms else does Turn (stops t d) x.alarms)) (passes_at (λ (y : SleeperRecord). y.sent) k s.sleepers.items z at_k ∙ heard.0)) whose in
      let here : is_here w.index z.shown.worker z.shown.forwarding ≡ true =
      ⊎_elim (λ own. ap (is_here w.index z.shown.worker) own.1 ∙ ap (λ n. n == w.index) own.0 ∙ eq-eqb w.index w.index refl) (λ heard. ap (is_here w.index z.shown.worker) heard.1) whose in
      grind arith

  pub sleep_taken : (t k : ℕ) (w w' : Worker) (s s' : Shared B) (e : Event) (z : SleeperRecord) → (sound : SoundAt (Place.Poll t InPoll.Resume) w s) → (it : IsHere InPoll.Resume t w s) → it.slot.waiting ≡ Waiting.Timer k
      → slice_get s.sleepers.items k ≡ Some z → z.shown.fired ≡ true → SleepHere w.index z → e ≡ GotTimer k → w' ≡ record w { place = Place.Poll t InPoll.Act } → TurnsSlot t s s' slept_slot → Steps left spot w s e w' s'
  sleep_taken t k w w' s s' e z sound it waits at_k fired whose event same turns =
      let slot = it.slot in
      let slot' = told_slot Said.Slept slot in
      told_by t (Waiting.Timer k) Said.Slept w w' s s' e (GotTimer k) slept_slot sound it waits refl tt refl refl
      (λ others holds.
      let hs : List Holder = map holder_of s.tasks.items in
      subst (λ xs. IsHolding (hands_of (with_worker others w)) s.config.workers xs (map thing_of s.requests.items) (map nap_of s.sleepers.items) (map box_of s.seats.items))
      (sym (ap (map holder_of) (turns.tasks slot it.there) ∙ holders_one s.tasks.items t slot'))
      (nap_taken (hands_of (with_worker others w)) s.config.workers hs (map thing_of s.requests.items) (map nap_of s.sleepers.items) (map box_of s.seats.items) t k (holder_of slot) (holder_of slot') (nap_of z)
      (record {
        there = holder_there s.tasks.items t slot it.there;
        nap = nap_there s.sleepers.items k z at_k;
        awaits = ap awaited_in waits;
        took = refl;
        going = going_on slot.cell.phase it.polled;
        over = ap (λ b. b || (z.shown.removed || z.closed)) fired;
        unowed = λ unsent.
            ⊎_elim (λ own. subst (λ j. (hands_of (with_worker others w)).wakes j t ≡ 0) (sym own.0) (no_wakes InPoll.Resume t w s others t refl sound)) (λ heard. absurd (false≢true (sym unsent ∙ heard.0))) whose;
      }) holds))
      (λ untold p vs. sleep_event t w s slot k z it.there waits untold at_k fired whose p vs) event same turns
