-- Acts of a polled body that change its slot alone: a pass, a wait for a wake, a yield.
use Rattle.exec_invariants.{proofs.{Names.{◌≡◌, ◌≢◌, ◌⊎◌, inl, inr, ℕ, ◌&&◌, arith, Bool, true, false, List, [], map, Option, Some, None, IsSome, refl, sym, ap, subst, ◌∙◌, slice_get, slice_index_or, slice_set, if◌then◌else◌, false≢true, eq-eqb, map-set, set-set, is_polled, Sight, Act, Said, Choice, Plain, Pays, ByAct, ScriptWord, Event, Pass, Wake, Next, Waiting, Plan, operation_asked, after_waking_word, is_woken_here, waits_for, woken, waits_for_nothing, acts, asks_yield, moved_on, next_word, Own, Task, Common, no_task, task_of, Place, InPoll, move_act, act_asked, next_in_poll, polls_in, Moved, Things, Record, Shared, SleeperRecord, TaskSlot, Worker, yielded_slot, GoesOn, IsAnswered, is_last, Spot, spot_of, standing_at, Views, own_of, desk_of, common_of, task_seen, spot_by, things_with, TurnsSlot, by_number, same_Some, set_there, or_right, and_from}, Here.{IsHere, polled_here}, Pending.in_poll, Performing.{performs_passed, performs_yielded, still_performs, wakes_as}, Polling.{home_mine, on_in_poll}, Slots.{Balances, IsEvent, beside_slot, task_there, works_slot}, SlotTasks.{IsAfter, Keeps, Sits, Tasked, guest_tasked, none_in, root_tasked, sound_tasked, stops_own}}, specs.{Acting.{ActsAs, HasActed, Performs, StepsOf}, Holding.holder_of, Places.{begins_at, hands_on_at, is_pooled_at, joins_at}, Sound.{HasGuest, IsGuest, IsInHand, SoundAt, StopsIn, WaitsAt, acts_next, is_told}, Works.Beside}}

-- a root or an ordinary task that its own worker wakes
pub woken_here : (i : ℕ) (home : Option ℕ) → (home ≡ Some i) ⊎ (home ≡ None) → is_woken_here i home ≡ true
woken_here i home (inl is) = ap (is_woken_here i) is ∙ eq-eqb i i refl
woken_here i home (inr is) = ap (is_woken_here i) is

-- A POLLED SLOT that stays polled, whose body is there: the task waits for nothing yet, and for this then

module _ {B : Type 0} where
  pub record StaysOn (y : InPoll) (t : ℕ) (slot slot' : TaskSlot B) : Type 0 where
    pub keeps : Keeps slot slot'
    pub polled : is_polled slot'.cell.phase ≡ true
    pub body : IsSome slot'.body
    pub poller : slot'.poller ≡ slot.poller
    pub cancelled : slot'.cell.cancelled ≡ slot.cell.cancelled
    pub cleared : slot'.cleared ≡ slot.cleared
    pub held : slot'.held ≡ slot.held
    pub holder : holder_of slot' ≡ holder_of slot
    pub waits : WaitsAt (Some y) slot'.waiting
    pub told : is_told slot'.waiting false ≡ true → IsSome slot'.told
    pub untold : acts_next slot'.waiting ≡ false → slot'.told ≡ None
    pub stops : (i : ℕ) (rs : List Record) (ss : List SleeperRecord) → StopsIn y i slot'.waiting rs ss
    pub polls : polls_in t y ≡ Some t
    pub begins : begins_at (Place.Poll t y) ≡ None
    pub hands : hands_on_at (Place.Poll t y) ≡ false
    pub joins : joins_at (Place.Poll t y) ≡ None
    pub unpooled : is_pooled_at (Place.Poll t y) ≡ false
    pub free : next_in_poll y ≡ Next.Free

  pub stays_tasked : (t : ℕ) (y : InPoll) (w : Worker) (s : Shared B) (slot' : TaskSlot B) → (sound : SoundAt (Place.Poll t InPoll.Act) w s) → (it : IsHere InPoll.Act t w s) → StaysOn y t it.slot slot'
      → Tasked (Place.Poll t y) w w.root_ready None s (slice_set s.tasks.items t slot')
  stays_tasked t y w s slot' sound it on =
      let root : t ≡ w.root → Tasked (Place.Poll t y) w w.root_ready None s (slice_set s.tasks.items t slot') = λ same.
      let slot = it.slot in
      let q : Place = Place.Poll t y in
      let there : slice_get s.tasks.items w.root ≡ Some slot = subst (λ n. slice_get s.tasks.items n ≡ Some slot) same it.there in
      let old = (it.root same).0 in
      let sits : Sits q w w.root_ready s slot slot' = grind arith in
      subst (λ n. Tasked q w w.root_ready None s (slice_set s.tasks.items n slot')) (sym same) (root_tasked t InPoll.Act q w w.root_ready s slot slot' sound sits) in
      let other : t ≢ w.root → Tasked (Place.Poll t y) w w.root_ready None s (slice_set s.tasks.items t slot') = λ apart.
      let slot = it.slot in
      let old = (it.ordinary apart).0 in
      let guest : IsGuest y w.index slot' = assumption (on.keeps.home ∙ old.ordinary, on.poller ∙ it.poller, on.cancelled ∙ it.cancelled ∙ sym on.cleared, on.waits, on) in
      guest_tasked t InPoll.Act (Place.Poll t y) w None s slot slot' sound (record {
        apart = apart;
        there = it.there;
        keeps = on.keeps;
        hand = subst (λ b. IsInHand None b None) (sym on.hands) refl;
        genuine = λ r has. absurd (none_in r has);
        polls = λ n is same. apart (same_Some t n (sym on.polls ∙ is) ∙ same);
        guest = subst (λ o. HasGuest o y w.index w.root (slice_set s.tasks.items t slot')) (sym on.polls) (λ no. (slot', set_there s.tasks.items t slot' slot it.there, guest));
        stops = stops_own (polls_in t y) y w.index t (slice_set s.tasks.items t slot') slot' s.requests.items s.sleepers.items (λ u is. same_Some u t (sym is ∙ on.polls)) (set_there s.tasks.items t slot' slot it.there) (on.stops w.index s.requests.items s.sleepers.items);
        rests = λ unpolled. absurd (false≢true (sym unpolled ∙ on.polled));
      }) in
      by_number t w.root other root

  pub stays_balances : (t : ℕ) (y : InPoll) (w : Worker) (s : Shared B) (slot' : TaskSlot B) → SoundAt (Place.Poll t InPoll.Act) w s → (it : IsHere InPoll.Act t w s) → StaysOn y t it.slot slot' → Balances t (Place.Poll t y) w None it.slot slot'
  stays_balances = grind arith

  pub home_here : (x : InPoll) (t : ℕ) (w : Worker) (s : Shared B) → (it : IsHere x t w s) → (it.slot.home ≡ Some w.index) ⊎ (it.slot.home ≡ None)
  home_here x t w s it = by_number t w.root (λ apart. inr (it.ordinary apart).1) (λ same. inl (it.root same).1)

-- what the machine has of a worker in a poll
abbrev pub me_at : ℕ → Worker → Own
me_at t w = own_of (record w { place = Place.Poll t InPoll.Act })

module _ {B : Type 0} where
  -- the slot once the body has acted
  abbrev pub acted_slot : TaskSlot B → B → TaskSlot B
  acted_slot slot b' = record slot { body = Some b'; told = None }

  -- the body is told this, and acts again
  pub tells_on : (t : ℕ) (slot : TaskSlot B) (b' : B) (x : Said) → is_polled slot.cell.phase ≡ true → slot.waiting ≡ Waiting.Nothing → StaysOn InPoll.Act t slot (record slot { body = Some b'; told = Some x })
  tells_on = grind arith

module _ {B L : Type 0} (left : B → L) (spot : L → Option Said → Spot) where
  -- the body past its word, and what it is told then
  pub moved_seen : (all : Common) (slot : TaskSlot B) (b' : B) (told : Option Said) → is_polled slot.cell.phase ≡ true → spot (left b') told ≡ spot_of (moved_on all (task_seen left spot slot))
      → task_seen left spot (record slot { body = Some b'; told = told }) ≡ moved_on all (task_seen left spot slot)
  moved_seen all slot b' told is past =
      ap (λ o. standing_at (spot_by left spot o told) (task_seen left spot slot)) (in_poll slot.cell.phase (Some b') is) ∙ ap (λ x. standing_at x (task_seen left spot slot)) past

  -- THE MACHINE'S WORD

  pub acts_so : (t : ℕ) (all : Common) (w : Worker) (slot : TaskSlot B) (test : ScriptWord → Bool) → task_of all t ≡ task_seen left spot slot → slot.waiting ≡ Waiting.Nothing → test (next_word all (task_seen left spot slot)) ≡ true → acts (me_at t w) all test ≡ true
  acts_so t all w slot test it waits h =
      ap (λ y. waits_for_nothing y.waiting && test (next_word all y)) it ∙ ap (λ u. waits_for_nothing u && test (next_word all (task_seen left spot slot))) waits ∙ h

  -- the whole move, by this word: a wake and a spawn are others
  abbrev pub word_move : ℕ → Plan → Common → Worker → Shared B → Views → ScriptWord → Moved Things
  word_move t p all w s vs x = move_act p.config w.index (me_at t w) all (desk_of (record w { place = Place.Poll t InPoll.Act })) (things_with vs s) t x

  pub by_word : (t : ℕ) (p : Plan) (all : Common) (w : Worker) (s : Shared B) (vs : Views) (slot : TaskSlot B) (x : ScriptWord) → task_of all t ≡ task_seen left spot slot → next_word all (task_seen left spot slot) ≡ x
      → word_move t p all w s vs (next_word all (task_of all t)) ≡ word_move t p all w s vs x
  by_word t p all w s vs slot x it is = ap (word_move t p all w s vs) (ap (next_word all) it ∙ is)

  -- of any other word, by the task
  abbrev pub move_by : ℕ → Plan → Common → Worker → Shared B → Views → Task → ScriptWord → Moved Things
  move_by t p all w s vs it x =
      let m = act_asked w.index t (me_at t w) all (desk_of (record w { place = Place.Poll t InPoll.Act })) it x (operation_asked p.config w.moments.sampled x) in
      record { event = m.event; choice = m.choice; desk = m.desk; thing = things_with vs s }

  abbrev pub IsPlainWord : ScriptWord → Type 0
  IsPlainWord x = (t : ℕ) (p : Plan) (all : Common) (w : Worker) (s : Shared B) (vs : Views) → word_move t p all w s vs x ≡ move_by t p all w s vs (task_of all t) (next_word all (task_of all t))

  pub moves_so : (t : ℕ) (p : Plan) (all : Common) (w : Worker) (s : Shared B) (vs : Views) (slot : TaskSlot B) (x : ScriptWord) → IsPlainWord x → task_of all t ≡ task_seen left spot slot → next_word all (task_seen left spot slot) ≡ x
      → word_move t p all w s vs (next_word all (task_of all t)) ≡ move_by t p all w s vs (task_seen left spot slot) x
  moves_so = grind arith

module _ {B L : Type 0} (left : B → L) (runs : L → Plan → Option ℕ → Type 0) (holds : L → Option Said → List ℕ) (spot : L → Option Said → Spot) (gives : L → Option Sight → Said → Act B → L → Option Sight → Type 0) where
  -- what an act leaves that changed the slot, and then what it asks for did
  pub record Leaves (t : ℕ) (y : InPoll) (w : Worker) (s s' : Shared B) (slot' : TaskSlot B) : Type 0 where
    pub items : s'.tasks.items ≡ slice_set s.tasks.items t slot'
    pub kept : s' ≡ record s { tasks = s'.tasks }
    pub sound : SoundAt (Place.Poll t y) (record w { place = Place.Poll t y; root_ready = w.root_ready; hand = None }) (record s { tasks = s'.tasks })
    pub beside : Beside w s (record w { place = Place.Poll t y; root_ready = w.root_ready; hand = None }) (record s { tasks = s'.tasks })

  pub act_leaves : (t : ℕ) (y : InPoll) (w : Worker) (s s1 s' : Shared B) (a : Act B) (change : TaskSlot B → TaskSlot B) → (h : HasActed left runs holds spot gives t w s s1 a) →
      let slot' = change (acted_slot h.made.slot h.made.acts.body') in
      StaysOn y t h.made.slot slot' → TurnsSlot t s1 s' change → Leaves t y w s s' slot'
  act_leaves t y w s s1 s' a change h stays turns =
      let m = h.made in
      let q : Place = Place.Poll t y in
      let slot' = change (acted_slot m.slot m.acts.body') in
      let it : IsHere InPoll.Act t w s = polled_here InPoll.Act t w s h.sound refl in
      let stays' : StaysOn y t it.slot slot' = subst (λ o. StaysOn y t o slot') (same_Some m.slot it.slot (sym m.there ∙ it.there)) stays in
      let there : slice_get s1.tasks.items t ≡ Some m.slot' = ap (λ ts. slice_get ts t) m.tasks ∙ set_there s.tasks.items t m.slot' m.slot m.there in
      let items : s'.tasks.items ≡ slice_set s.tasks.items t slot' =
      turns.tasks m.slot' there ∙ ap (λ ts. slice_set ts t (change m.slot')) m.tasks ∙ set-set s.tasks.items t m.slot' (change m.slot') ∙ ap (λ x. slice_set s.tasks.items t (change x)) m.acts.slot in
      let to : IsAfter q = on_in_poll t y stays.begins stays.joins in
      let bal : Balances t q w None it.slot slot' = stays_balances t y w s slot' h.sound it stays' in
      record {
        items = items;
        kept = turns.kept ∙ ap (λ (x : Shared B). record x { tasks = s'.tasks }) m.kept;
        sound = sound_tasked t InPoll.Act q w w.root_ready None s s' h.sound to (subst (Tasked q w w.root_ready None s) (sym items) (stays_tasked t y w s slot' h.sound it stays'));
        beside = beside_slot left spot t InPoll.Act q w w.root_ready None s s' it.slot slot' h.sound to it.there items bal (home_mine w.index it.slot.home (home_here InPoll.Act t w s it)) (λ polled. inl it.poller);
      }

  -- an act changed the slot, and then what it asks for did
  pub acted : (t : ℕ) (y : InPoll) (w w' : Worker) (s s1 s' : Shared B) (e : Event) (c : Choice) (a : Act B) (change : TaskSlot B → TaskSlot B) → (h : HasActed left runs holds spot gives t w s s1 a) →
      let slot = h.made.slot in
      let slot' = change (acted_slot slot h.made.acts.body') in
      StaysOn y t slot slot'
      → ((p : Plan) (vs : Views) → ActsAs left runs holds spot gives (common_of left spot p vs s) p w.moments.sampled slot h.made.acts.body' a → IsEvent left spot (Place.Poll t InPoll.Act) (Place.Poll t y) t w w.root_ready None s slot' e c p vs)
      → ((p : Plan) → GoesOn runs holds spot gives p (task_seen left spot slot) a (left h.made.acts.body') → Performs left runs holds p slot') → is_last a ≡ false
      → w' ≡ record w { place = Place.Poll t y } → TurnsSlot t s1 s' change → StepsOf left runs holds spot w s e w' s'
  acted t y w w' s s1 s' e c a change h stays event performs on same turns =
      let m = h.made in
      let q : Place = Place.Poll t y in
      let slot' = change (acted_slot m.slot m.acts.body') in
      let leaves : Leaves t y w s s' slot' = act_leaves t y w s s1 s' a change h stays turns in
      let w1 : Worker = record w { place = q; root_ready = w.root_ready; hand = None } in
      let s2 : Shared B = record s { tasks = s'.tasks } in
      let done : StepsOf left runs holds spot w s e w1 s2 = (
        (λ p vs suits fits. works_slot left spot (Place.Poll t InPoll.Act) q t w w.root_ready None s s' slot' e c h.sound.here leaves.items p vs suits (event p vs (h.asks p vs (fits t m.slot m.there)))),
        leaves.sound,
        still_performs left runs holds t w w1 s s2 m.slot slot' m.there leaves.items refl refl (λ p fits. performs p ((h.asks p (record { workers = []; calls = [] }) fits).goes_on on)),
        leaves.beside,
      ) in
      let at : w' ≡ w1 = same ∙ ap (λ o. record w { place = q; hand = o }) h.sound.hand in
      subst (λ z. StepsOf left runs holds spot w s e w' z) (sym leaves.kept) (subst (λ z. StepsOf left runs holds spot w s e z s2) (sym at) done)

  -- the slot of the body that acted
  pub record IsActor (t : ℕ) (w : Worker) (slot : TaskSlot B) : Type 0 where
    pub polled : is_polled slot.cell.phase ≡ true
    pub waits : slot.waiting ≡ Waiting.Nothing
    pub home : (slot.home ≡ Some w.index) ⊎ (slot.home ≡ None)

  pub actor : (t : ℕ) (w : Worker) (s s1 : Shared B) (a : Act B) → (h : HasActed left runs holds spot gives t w s s1 a) → IsActor t w h.made.slot
  actor t w s s1 a h =
      let m = h.made in
      let it : IsHere InPoll.Act t w s = polled_here InPoll.Act t w s h.sound refl in
      let is : it.slot ≡ m.slot = same_Some it.slot m.slot (sym it.there ∙ m.there) in
      grind arith

  -- A PASS

  pass_event : IsAnswered spot → (t : ℕ) (w : Worker) (s : Shared B) (slot : TaskSlot B) (b' : B) → w.hand ≡ None → slice_get s.tasks.items t ≡ Some slot → slot.waiting ≡ Waiting.Nothing → is_polled slot.cell.phase ≡ true → (p : Plan) (vs : Views)
      → ActsAs left runs holds spot gives (common_of left spot p vs s) p w.moments.sampled slot b' (Act.Sleep 0)
      → IsEvent left spot (Place.Poll t InPoll.Act) (Place.Poll t InPoll.Act) t w w.root_ready None s (record slot { body = Some b'; told = Some Said.Pass }) Pass Plain p vs
  pass_event = grind (arith, task_there, moves_so, or_right, acts_so, moved_seen)

  pub passed_by : IsAnswered spot → (t : ℕ) (w w' : Worker) (s s1 s' : Shared B) (e : Event) → (h : HasActed left runs holds spot gives t w s s1 (Act.Sleep 0))
      → e ≡ Pass → w' ≡ record w { place = Place.Poll t InPoll.Act } → TurnsSlot t s1 s' (λ slot. record slot { told = Some Said.Pass }) → StepsOf left runs holds spot w s e w' s'
  passed_by answered t w w' s s1 s' e h event same turns =
      let m = h.made in
      let it = actor t w s s1 (Act.Sleep 0) h in
      subst (λ z. StepsOf left runs holds spot w s z w' s') (sym event)
      (acted t InPoll.Act w w' s s1 s' Pass Plain (Act.Sleep 0) (λ slot. record slot { told = Some Said.Pass }) h (tells_on t m.slot m.acts.body' Said.Pass it.polled it.waits)
      (λ p vs so. pass_event answered t w s m.slot m.acts.body' h.sound.hand m.there it.waits it.polled p vs so) (λ p goes. performs_passed left runs holds spot gives p m.slot m.acts.body' it.polled it.waits goes) refl same turns)

  -- A YIELD

  yield_event : IsAnswered spot → (t : ℕ) (w : Worker) (s : Shared B) (slot : TaskSlot B) (b' : B) → w.hand ≡ None → slice_get s.tasks.items t ≡ Some slot → slot.waiting ≡ Waiting.Nothing → is_polled slot.cell.phase ≡ true → (slot.home ≡ Some w.index) ⊎ (slot.home ≡ None)
      → (p : Plan) (vs : Views) → ActsAs left runs holds spot gives (common_of left spot p vs s) p w.moments.sampled slot b' Act.Yield
      → IsEvent left spot (Place.Poll t InPoll.Act) (Place.Poll t InPoll.Pend) t w w.root_ready None s (yielded_slot (acted_slot slot b')) (Wake t) (Pays ByAct) p vs
  yield_event answered t w s slot b' empty there waits is home p vs does_so =
      let all = common_of left spot p vs s in
      let me = me_at t w in
      let at_task = task_seen left spot slot in
      let it : task_of all t ≡ at_task = task_there left spot s.tasks.items t slot there in
      let past : spot (left b') (Some Said.Pass) ≡ spot_of (moved_on all at_task) = answered (left b') Said.Pass (λ h. absurd (cc)) ∙ does_so.stands in
      let mid : TaskSlot B = record slot { body = Some b'; told = Some Said.Pass; waiting = Waiting.Yielded } in
      let wakes = wakes_as slot.cell.phase (Some b') slot.poller is in
      let seen : task_seen left spot mid ≡ waits_for all at_task Waiting.Yielded = ap (λ (y : Task). record y { waiting = Waiting.Yielded }) (moved_seen left spot all slot b' (Some Said.Pass) is past) in
      let word_done : after_waking_word all (task_of all t) ≡ task_seen left spot mid =
      ap (after_waking_word all) it ∙ ap (λ b. if b then waits_for all at_task Waiting.Yielded else moved_on all at_task) (ap asks_yield does_so.asks) ∙ sym seen in
      let woken_seen : woken (task_seen left spot mid) ≡ task_seen left spot (yielded_slot (acted_slot slot b')) = grind (arith, wakes.same_body, wakes.shown) in
      let wake_in : List Task → Common = λ ts. record all { tasks = slice_set ts t (woken (slice_index_or ts t no_task)) } in
      let listed : slice_set all.tasks t (task_seen left spot mid) ≡ map (task_seen left spot) (slice_set s.tasks.items t mid) = sym (map-set (task_seen left spot) s.tasks.items t mid) in
      let found : slice_index_or (map (task_seen left spot) (slice_set s.tasks.items t mid)) t no_task ≡ task_seen left spot mid =
      task_there left spot (slice_set s.tasks.items t mid) t mid (set_there s.tasks.items t mid slot there) in
      let at_mid : slice_index_or (slice_set all.tasks t (task_seen left spot mid)) t no_task ≡ task_seen left spot mid = ap (λ ts. slice_index_or ts t no_task) listed ∙ found in
      grind (arith, moves_so, or_right, and_from, acts_so, eq-eqb, woken_here, set-set)

  pub yielded_by : IsAnswered spot → (t : ℕ) (w w' : Worker) (s s1 s' : Shared B) (e : Event) → (h : HasActed left runs holds spot gives t w s s1 Act.Yield)
      → e ≡ Wake t → w' ≡ record w { place = Place.Poll t InPoll.Pend } → TurnsSlot t s1 s' yielded_slot → StepsOf left runs holds spot w s e w' s'
  yielded_by answered t w w' s s1 s' e h event same turns =
      let m = h.made in
      let it = actor t w s s1 Act.Yield h in
      let stays : StaysOn InPoll.Pend t m.slot (yielded_slot (acted_slot m.slot m.acts.body')) = grind arith in
      subst (λ z. StepsOf left runs holds spot w s z w' s') (sym event)
      (acted t InPoll.Pend w w' s s1 s' (Wake t) (Pays ByAct) Act.Yield yielded_slot h stays
      (λ p vs so. yield_event answered t w s m.slot m.acts.body' h.sound.hand m.there it.waits it.polled it.home p vs so) (λ p goes. performs_yielded left runs holds spot gives p m.slot m.acts.body' it.polled goes) refl same turns)
