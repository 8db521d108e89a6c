-- A TASK IS OVER BY ITS OWN ACT, be it a root, whose worker closes then, or an ordinary task, which leaves the task set.
use Rattle.exec_invariants.{specs.{Acting.{HasActed, Performs, PerformsOne, StepsOf}, Gates.AreLinedUp, Holding.{MayHave, awaited_in, holder_of}, HoldPlaces.sends_cancel_at, Places.removes_at, Sound.{AreHome, AreResting, HasLetters, HasRunnable, IsGuest, IsHeld, IsRunnable, IsTied, SoundAt, Stands, is_told, one_of, served_in}, Whole.{HasWhole, IsGenuine}, Works.{Suits, Works}}, proofs.{Words.{◌≡◌, ◌≢◌, ◌⊎◌, inl, inr, ⊎_elim, ℕ, ◌<◌, ◌==◌, Bool, true, false, Contains, List, [], ◌∷◌, ◌++◌, length, map, option_map, option_to_list, Option, Some, None, refl, sym, ap, subst, ◌∙◌, nat_lt, slice_get, slice_set, if◌then◌else◌, IsSome, false≢true, eq-eqb, set-set, arith, live_count, is_polled, cell_over, Sight, Act, Said, Runnable, Plain, Configuration, ScriptWord, Event, Code, Letter, Next, TaskPhase, Waiting, common_after, own_after, allowed, Plan, AllTrue, is_empty, after_over, may_end_by, own_after_done, asks_await, asks_end, asks_fault, moved_on, next_word, Common, Own, Task, task_of, AfterCancels, InClosing, InPoll, Place, after_cancels, cancels_left, after_end, end_moves, next_at, polls_at, serves_at, Desk, goes, lets_go_all, numbers_held, Letters, Chair, Shared, TaskSlot, Worker, EndsTask, LetsGoAll, LetsWaiting, MayEndTask, ended_place, others_of, IsPhased, is_complete, stage_of, is_pool, AsksOf as Asks, is_last, Spot, spot_of, Views, common_of, desk_of, letter_of_request, letter_of_timer, letters_in, own_of, owed_at, task_seen, things_with, by_number, not_same, same_Some, set_there}, Acting.{IsPlainWord, acted_slot, actor, acts_so, move_by, moves_so}, Here.{IsHere, polled_here}, Onces.leaves_none, Pending.polled_none, Performing.still_performs, Phased.phased_over, Polling.on_in_poll, ServingHolds.Keeps, Slots.task_there, SlotTasks.{Keeps as KeepsSlot, Tasked, guest_pool, guest_tasked, homes_set, none_in, resting_set, sound_tasked}, TaskOverFold.{AllLet, HoldsAll, LetsSeen, let_all}, TaskOverGone.{AllGone, gone_awake}, TaskOverLetters.{AreLetters, letters_fit, no_letters, none_left}, TaskOverMay.{HasAll, has_all, keeps_tasks, may_let_go}, TaskOverPolls.{OversPoll, acting, beside_over, gone_at, over_shared, over_worker, sound_over}, TaskOverSeen.{common_then, desk_then, own_then, things_then}, TaskOverSound.{IsAside, IsOwing, own_keeps}, TaskOverWhole.{IsDone, IsPast}, TaskOverPlaces.{closes_past, closes_aside, removes_past, removes_aside, tells_past, tells_removing, owes_removing, IsQuiet, others_none, waits_word, stopped_so, waits_there, ltb-true}}}

-- it is told nothing once it is over
pub over_untold : (u : Waiting) → is_told u true ≡ false
over_untold = grind arith

-- whether others are to be told
pub split_left : (b : AfterCancels) (d : Desk) (ls : List Letter) → ((ls ≡ []) × (cancels_left b d ls ≡ after_cancels b d)) ⊎ ((is_empty ls ≡ false) × (cancels_left b d ls ≡ Place.SendCancel b))
split_left b d [] = inl (refl, refl)
split_left b d (l ∷ ls) = inr (refl, refl)

run_over : {B : Type 0} (o : Option Runnable) (slot slot' : TaskSlot B) → is_polled slot.cell.phase ≡ true → is_complete slot'.cell.phase ≡ true → IsRunnable o slot → IsRunnable o slot'
run_over None slot slot' before over run = λ b is. absurd (false≢true (sym (ap is_complete is) ∙ over))
run_over (Some r) slot slot' before over run = absurd (false≢true (sym (ap is_polled run.1.1) ∙ before))

module _ {B L : Type 0} (left : B → L) (runs : L → Plan → Option ℕ → Type 0) (holds : L → Option Said → List ℕ) (spot : L → Option Said → Spot) (gives : L → Option Sight → Said → Act B → L → Option Sight → Type 0) where
  -- the act is this word, by which the task is over with this event
  pub record IsEnd (t : ℕ) (a : Act B) (x : ScriptWord) (e : Event) : Type 0 where
    pub last : is_last a ≡ true
    pub word : (c : Configuration) (moment : ℕ) (held : List ℕ) (y : ScriptWord) → Asks c moment held y a → y ≡ x
    pub waits : asks_await x ≡ false
    pub test : ScriptWord → Bool
    pub passes : test x ≡ true
    pub allows : (p : Plan) (me : Own) (s : Common) (i : ℕ) → allowed p.config me s i e Plain ≡ may_end_by test me s t
    pub own : (p : Plan) (me : Own) (s : Common) (i : ℕ) → own_after p.config me s i e Plain ≡ record (own_after_done me s i t) { serving = false }
    pub common : (p : Plan) (me : Own) (s : Common) (i : ℕ) → common_after p.config me s i e Plain ≡ after_over s i t
    pub plain : IsPlainWord left spot x
    pub moves : (p : Plan) (all : Common) (w : Worker) (s : Shared B) (vs : Views) (it : Task) → move_by left spot t p all w s vs it x ≡ record { event = e; choice = Plain; desk = end_moves w.index t all it (desk_of (record w { place = Place.Poll t InPoll.Act })); thing = things_with vs s }

  pub is_done : (t n : ℕ) → IsEnd t (Act.Done n) ScriptWord.End (Event.Done t)
  is_done t n = record { last = refl; word = λ c moment held y asks. asks; waits = refl; test = asks_end; passes = refl; allows = λ p me all i. refl; own = λ p me all i. refl; common = λ p me all i. refl; plain = λ k q c v x us. refl; moves = λ p all v x us it. refl }

  pub is_fault : (t n : ℕ) → IsEnd t (Act.Fault n) (ScriptWord.Fault n) (Event.Fault t n)
  is_fault t n = record { last = refl; word = λ c moment held y asks. asks; waits = refl; test = asks_fault n; passes = eq-eqb n n refl; allows = λ p me all i. refl; own = λ p me all i. refl; common = λ p me all i. refl; plain = λ k q c v x us. refl; moves = λ p all v x us it. refl }

  -- WHERE IT MAY END

  module _ (t : ℕ) (w : Worker) (s s1 : Shared B) (a : Act B) (h : HasActed left runs holds spot gives t w s s1 a) (has : HasWhole w s) (seen : LetsSeen B) where
    abbrev slot : TaskSlot B
    slot = h.made.slot

    here : IsHere InPoll.Act t w s
    here = polled_here InPoll.Act t w s h.sound refl

    here_is : here.slot ≡ h.made.slot
    here_is = same_Some here.slot h.made.slot (sym here.there ∙ h.made.there)

    polled : is_polled h.made.slot.cell.phase ≡ true
    polled = ap (λ (o : TaskSlot B). is_polled o.cell.phase) (sym here_is) ∙ here.polled

    waits : h.made.slot.waiting ≡ Waiting.Nothing
    waits = ap (λ (o : TaskSlot B). o.waiting) (sym here_is) ∙ here.waits

    there1 : slice_get s1.tasks.items t ≡ Some h.made.slot'
    there1 = ap (λ ts. slice_get ts t) h.made.tasks ∙ set_there s.tasks.items t h.made.slot' h.made.slot h.made.there

    keeps_now : Keeps w s
    keeps_now = own_keeps (Place.Poll t InPoll.Act) w s refl refl refl h.sound

    keeps1 : Keeps w s1
    keeps1 = keeps_tasks w s s1 h.made.kept keeps_now

    idle : served_in w.place ≡ None
    idle = ap served_in h.sound.here

    gates1 : AreLinedUp s1.opens s1.requests.items
    gates1 = subst (λ (y : Shared B). AreLinedUp y.opens y.requests.items) (sym h.made.kept) h.sound.gates

    all_there : HasAll t h.made.slot s
    all_there = has_all t w s h.made.slot has.others has.whole h.made.there

    holds1 : HoldsAll h.made.slot'.held.items s1.requests.items
    holds1 = subst (λ (y : Shared B). HoldsAll h.made.slot'.held.items y.requests.items) (sym h.made.kept) (subst (λ (o : TaskSlot B). HoldsAll o.held.items s.requests.items) (sym h.made.acts.slot) all_there.all)

    none : letters_in w.letters ≡ []
    none = h.sound.letters.none refl

    pub may_end_task : MayEndTask t w s1
    may_end_task =
        record {
          polled = λ o found. ap (λ (x : TaskSlot B). is_polled x.cell.phase) (same_Some o h.made.slot' (sym found ∙ there1) ∙ h.made.acts.slot) ∙ polled;
          lets = may_let_go t w s1 h.made.slot' seen idle gates1 there1 keeps1 holds1 (no_letters w.letters none).0 (no_letters w.letters none).1
              (λ z is. absurd (let no : Waiting.Nothing ≡ Waiting.Timer z = sym waits ∙ sym (ap (λ (o : TaskSlot B). o.waiting) h.made.acts.slot) ∙ is in cc));
        }

    -- THE STEP

    module _ (w' : Worker) (s' : Shared B) (x : ScriptWord) (e : Event) (is_end : IsEnd t a x e) (it : EndsTask t w w' s1 s') where
      abbrev l : Letters
      l = it.v.letters

      abbrev q : Place
      q = ended_place t it.v

      slot_is : it.lets.slot ≡ acted_slot h.made.slot h.made.acts.body'
      slot_is = same_Some it.lets.slot h.made.slot' (sym it.lets.there ∙ there1) ∙ h.made.acts.slot

      first_is : it.lets.first ≡ record s { tasks = it.lets.first.tasks }
      first_is = it.lets.kept ∙ ap (λ (y : Shared B). record y { tasks = it.lets.first.tasks }) h.made.kept

      lets_all : LetsGoAll h.made.slot.held.items w it.lets.v it.lets.first it.lets.now
      lets_all = subst (λ (o : TaskSlot B). LetsGoAll o.held.items w it.lets.v it.lets.first it.lets.now) slot_is it.lets.lets

      others_left : it.v.letters.requests.items ≡ others_of w.index h.made.slot.held.items
      others_left = it.lets.requests ∙ ap (λ (o : TaskSlot B). others_of w.index o.held.items) slot_is

      all_let : AllLet w.index h.made.slot.held.items w it.lets.v it.lets.first it.lets.now
      all_let =
          let_all w.index h.made.slot.held.items w it.lets.v it.lets.first it.lets.now seen refl idle (subst (λ (y : Shared B). AreLinedUp y.opens y.requests.items) (sym first_is) h.sound.gates)
          (keeps_tasks w s it.lets.first first_is keeps_now) (subst (λ (y : Shared B). HoldsAll h.made.slot.held.items y.requests.items) (sym first_is) all_there.all) lets_all

      -- it waited for nothing
      slept : (it.lets.u ≡ it.lets.v) × (it.mid ≡ it.lets.now) × (it.v.letters.timer ≡ None)
      slept = subst (λ u. LetsWaiting u it.v.letters.timer it.lets.v it.lets.u it.lets.now it.mid) (ap (λ (o : TaskSlot B). o.waiting) slot_is ∙ waits) it.lets.sleeps

      gone_first : AllGone w.index h.made.slot.held.items Waiting.Nothing it.v.letters w it.lets.v it.lets.first it.lets.now
      gone_first = gone_awake w.index h.made.slot.held.items Waiting.Nothing it.v.letters w it.lets.v it.lets.first it.lets.now (subst (λ (y : Shared B). AreLinedUp y.opens y.requests.items) (sym first_is) h.sound.gates) all_let others_left slept.2 (λ all. refl) (λ all me. refl) (λ all d. refl)

      gone : AllGone w.index h.made.slot.held.items h.made.slot.waiting it.v.letters w it.lets.v s (record it.lets.now { tasks = s.tasks })
      gone = subst (λ u. AllGone w.index h.made.slot.held.items u it.v.letters w it.lets.v s (record it.lets.now { tasks = s.tasks })) (sym waits) (gone_at w.index h.made.slot.held.items Waiting.Nothing it.v.letters w it.lets.v s it.lets.first it.lets.now first_is gone_first)

      abbrev over_slot : TaskSlot B
      over_slot = record h.made.slot { body = Some h.made.acts.body'; told = None; held = it.lets.slot'.held; cell = cell_over h.made.slot.cell }

      mid_is : it.mid ≡ record it.lets.first { requests = it.lets.now.requests; sleepers = it.lets.now.sleepers }
      mid_is = slept.1 ∙ gone_first.kept

      mid_tasks : it.mid.tasks ≡ it.lets.first.tasks
      mid_tasks = ap (λ (y : Shared B). y.tasks) mid_is

      there_mid : slice_get it.mid.tasks.items t ≡ Some it.lets.slot'
      there_mid = ap (λ ts. slice_get ts.items t) mid_tasks ∙ ap (λ ts. slice_get ts t) it.lets.tasks ∙ set_there s1.tasks.items t it.lets.slot' h.made.slot' there1

      became : record it.lets.slot' { cell = cell_over it.lets.slot'.cell } ≡ over_slot
      became = ap (λ (o : TaskSlot B). record o { cell = cell_over o.cell }) it.lets.emptied ∙ ap (λ (o : TaskSlot B). record o { held = it.lets.slot'.held; cell = cell_over o.cell }) slot_is

      items : s'.tasks.items ≡ slice_set s.tasks.items t over_slot
      items =
          it.task.tasks it.lets.slot' there_mid ∙ ap (λ ts. slice_set ts.items t (record it.lets.slot' { cell = cell_over it.lets.slot'.cell })) mid_tasks
          ∙ ap (λ ts. slice_set ts t (record it.lets.slot' { cell = cell_over it.lets.slot'.cell })) (it.lets.tasks ∙ ap (λ ts. slice_set ts t it.lets.slot') h.made.tasks ∙ set-set s.tasks.items t h.made.slot' it.lets.slot')
          ∙ set-set s.tasks.items t it.lets.slot' (record it.lets.slot' { cell = cell_over it.lets.slot'.cell }) ∙ ap (slice_set s.tasks.items t) became

      shared_is : s' ≡ over_shared s'.tasks.items s' (record it.lets.now { tasks = s.tasks }) s
      shared_is = it.task.kept ∙ ap (λ (y : Shared B). record y { tasks = s'.tasks }) mid_is ∙ ap (λ (y : Shared B). record y { tasks = s'.tasks; requests = it.lets.now.requests; sleepers = it.lets.now.sleepers }) first_is

      worker_is : w' ≡ over_worker (ended_place t it.v) it.v.letters it.lets.v w
      worker_is = grind (arith, it.worker, it.lets.worker, slept.0, gone_first.worker)

      keeps_slot : KeepsSlot h.made.slot over_slot
      keeps_slot = record { home = refl; number = refl; owner = refl }

      done : IsDone h.made.slot over_slot
      done = record { keeps = keeps_slot; cleared = refl; unpolled = refl; complete = refl; one = λ g n one. leaves_none g n (polled_none g h.made.slot.cell.phase n polled one) }

      home : (h.made.slot.home ≡ Some w.index) ⊎ (h.made.slot.home ≡ None)
      home = (actor left runs holds spot gives t w s s1 a h).home

      overs : IsPast (ended_place t it.v) → IsAside (ended_place t it.v) → ((u : ℕ) → removes_at (ended_place t it.v) ≡ Some u → (u ≡ t) × (h.made.slot.home ≡ None)) → OversPoll InPoll.Act t (ended_place t it.v) it.v.letters w it.lets.v s (record it.lets.now { tasks = s.tasks }) s' h.made.slot over_slot
      overs past aside removes =
          let holder = ap (λ hs. record (holder_of h.made.slot) { held = hs; over = true }) it.lets.none in
          let idle : IsSome h.made.slot.home → awaited_in h.made.slot.waiting ≡ None = λ some. ap awaited_in waits in
          assumption (items, done, holder, polled, ap (λ (o : TaskSlot B). o.poller) (sym here_is) ∙ here.poller, home, idle, gone, past, aside, removes, h.made)

      -- what the machine makes of it

      seen_then : (y : Spot) → spot (left h.made.acts.body') None ≡ spot_of (task_seen left spot h.made.slot) → task_seen left spot over_slot ≡ record (task_seen left spot h.made.slot) { phase = TaskPhase.Done; held = [] }
      seen_then y stands = grind (arith, stands, it.lets.none)

      place_then : (d : Desk) → d ≡ desk_of it.v → (h.made.slot.home ≡ Some w.index) ⊎ (h.made.slot.home ≡ None) → (t ≡ w.root → h.made.slot.home ≡ Some w.index) → (t ≢ w.root → h.made.slot.home ≡ None) → after_end t h.made.slot.home (desk_of it.v) ≡ ended_place t it.v
      place_then d same whose root other =
          let root_same : it.v.root ≡ w.root = ap (λ (y : Worker). y.root) it.lets.worker ∙ ap (λ (y : Worker). y.root) slept.0 ∙ ap (λ (y : Worker). y.root) gone_first.worker in
          by_number t w.root
          (λ apart. ap (λ o. after_end t o (desk_of it.v)) (other apart) ∙ sym (ap (λ b. if b then Place.Closing InClosing.Close else cancels_left (AfterCancels.Remove t) (desk_of it.v) (letters_in it.v.letters)) (ap (λ n. t == n) root_same ∙ not_same t w.root apart)))
          (λ is. ap (λ o. after_end t o (desk_of it.v)) (root is) ∙ sym (ap (λ b. if b then Place.Closing InClosing.Close else cancels_left (AfterCancels.Remove t) (desk_of it.v) (letters_in it.v.letters)) (ap (λ n. t == n) root_same ∙ eq-eqb t w.root is)))

      works : (p : Plan) (vs : Views) → Suits p vs w s → Performs left runs holds p h.made.slot → polls_at (ended_place t it.v) ≡ None → serves_at (ended_place t it.v) ≡ false → next_at (ended_place t it.v) ≡ Next.Free → owed_at w.workers (ended_place t it.v) ≡ [] → after_end t h.made.slot.home (desk_of it.v) ≡ ended_place t it.v
          → Works left spot p vs w s e (over_worker (ended_place t it.v) it.v.letters it.lets.v w) (over_shared s'.tasks.items s' (record it.lets.now { tasks = s.tasks }) s)
      works p vs suits fits unpolled unserved free unowed place =
          let own_so : (p : Plan) (vs : Views) → Suits p vs w s → polls_at (ended_place t it.v) ≡ None → serves_at (ended_place t it.v) ≡ false → next_at (ended_place t it.v) ≡ Next.Free → owed_at w.workers (ended_place t it.v) ≡ [] → record w { place = Place.Poll t InPoll.Act } ≡ w → own_of (over_worker (ended_place t it.v) it.v.letters it.lets.v w) ≡ record (own_after_done (own_of (record w { place = Place.Poll t InPoll.Act })) (common_of left spot p vs s) w.index t) { serving = false } = λ p vs suits unpolled unserved free unowed here_w.
          let q' : Place = ended_place t it.v in
          let v = it.lets.v in
          let c = common_of left spot p vs s in
          let made : Option ℕ → Bool → Next → List Letter → Own = λ polls serving next owed. record (own_of v) { polls = polls; serving = serving; next = next; owed = owed } in
          let v_place : v.place ≡ Place.Poll t InPoll.Act = ap (λ (y : Worker). y.place) gone.worker ∙ h.sound.here in
          let v_workers : v.workers ≡ w.workers = ap (λ (y : Worker). y.workers) gone.worker in
          ap own_of (ap (λ (y : Worker). record y { place = q'; letters = it.v.letters }) (sym gone.worker))
          ∙ ap (λ o. made o (serves_at q') (next_at q') (owed_at v.workers q' ++ letters_in it.v.letters)) unpolled
          ∙ ap (λ o. made None o (next_at q') (owed_at v.workers q' ++ letters_in it.v.letters)) unserved
          ∙ ap (λ o. made None false o (owed_at v.workers q' ++ letters_in it.v.letters)) free
          ∙ ap (λ o. made None false Next.Free (o ++ letters_in it.v.letters)) (ap (λ n. owed_at n q') v_workers ∙ unowed)
          ∙ ap (λ y. made None false (next_at y) (letters_in it.v.letters)) (sym v_place)
          ∙ ap (λ (y : Own). record y { polls = None; serving = false }) (sym (own_then left spot p vs t q' it.v.letters w v s (record it.lets.now { tasks = s.tasks }) s' h.made.slot over_slot suits h.made.there items gone []))
          ∙ ap (λ (y : Worker). record (own_after_done (record (own_of y) { owed = [] }) c w.index t) { serving = false }) (sym here_w)
          ∙ ap (λ ls. record (own_after_done (record (own_of (record w { place = Place.Poll t InPoll.Act })) { owed = ls }) c w.index t) { serving = false }) (sym none) in
          let q' : Place = ended_place t it.v in
          let c = common_of left spot p vs s in
          let seen_slot = task_seen left spot h.made.slot in
          let W : Worker = over_worker q' it.v.letters it.lets.v w in
          let wq : Worker = record w { place = Place.Poll t InPoll.Act } in
          let here_w : wq ≡ w = ap (λ y. record w { place = y }) (sym h.sound.here) in
          let so = h.asks p vs fits in
          let word : next_word c seen_slot ≡ x = is_end.word p.config w.moments.sampled (numbers_held h.made.slot.held.items) (next_word c seen_slot) so.asks in
          let at_task : task_of c t ≡ seen_slot = task_there left spot s.tasks.items t h.made.slot h.made.there in
          let stays : spot (left h.made.acts.body') None ≡ spot_of seen_slot = so.stands ∙ ap (λ b. if b then spot_of seen_slot else spot_of (moved_on c seen_slot)) is_end.last in
          let v_is : it.v ≡ record it.lets.v { letters = it.v.letters } = it.lets.worker ∙ ap (λ (y : Worker). record y { letters = it.v.letters }) slept.0 in
          let desk : lets_go_all w.index c seen_slot (desk_of wq) ≡ desk_of it.v =
          ap (λ y. lets_go_all w.index c seen_slot (desk_of y)) here_w ∙ desk_then left spot p vs t q' it.v.letters w it.lets.v s (record it.lets.now { tasks = s.tasks }) s' h.made.slot over_slot suits h.made.there items gone none ∙ ap desk_of (sym v_is) in
          let desk_all : end_moves w.index t c seen_slot (desk_of wq) ≡ desk_of W =
          ap (λ d. goes (after_end t h.made.slot.home d) d) desk ∙ ap (λ y. goes y (desk_of it.v)) place ∙ ap (λ (y : Worker). desk_of (record y { place = q' })) (v_is ∙ ap (λ (y : Worker). record y { letters = it.v.letters }) gone.worker) in
          let things = things_then left spot p vs t q' it.v.letters w it.lets.v s (record it.lets.now { tasks = s.tasks }) s' h.made.slot over_slot suits h.made.there items gone in
          subst (λ y. Works left spot p vs y s e W (over_shared s'.tasks.items s' (record it.lets.now { tasks = s.tasks }) s)) here_w (record {
            choice = Plain;
            moves = grind (arith, moves_so left spot t p c w s vs h.made.slot x is_end.plain at_task word, is_end.moves p c w s vs seen_slot, desk_all, things);
            may = subst AllTrue (sym (is_end.allows p (own_of wq) c w.index)) (eq-eqb t t refl, (acts_so left spot t c w h.made.slot is_end.test at_task waits (ap is_end.test word ∙ is_end.passes), tt));
            own = own_so p vs suits unpolled unserved free unowed here_w ∙ sym (is_end.own p (own_of wq) c w.index);
            common = common_then left spot p vs t q' it.v.letters w it.lets.v s (record it.lets.now { tasks = s.tasks }) s' h.made.slot over_slot suits h.made.there items gone (seen_then (spot_of seen_slot) stays) ∙ sym (is_end.common p (own_of wq) c w.index);
          })

      performs_then : (p : Plan) → Performs left runs holds p h.made.slot → Performs left runs holds p over_slot
      performs_then p fits = record { runs_it = λ b answer is hears going. absurd (false≢true (sym going)); holding = λ b answer is hears going. absurd (false≢true (sym going)) }

      -- WHAT HOLDS

      guest_first : t ≢ w.root → SoundAt (Place.Poll t InPoll.RemoveTask) (record w { place = Place.Poll t InPoll.RemoveTask }) (record s { tasks = s'.tasks })
      guest_first apart =
          let guest : IsGuest InPoll.Act w.index h.made.slot = subst (IsGuest InPoll.Act w.index) here_is (here.ordinary apart).0 in
          let tasked : Tasked (Place.Poll t InPoll.RemoveTask) w w.root_ready None s s'.tasks.items = subst (Tasked (Place.Poll t InPoll.RemoveTask) w w.root_ready None s) (sym items)
          (guest_tasked t InPoll.Act (Place.Poll t InPoll.RemoveTask) w None s h.made.slot over_slot h.sound (record {
            apart = apart;
            there = h.made.there;
            keeps = keeps_slot;
            hand = refl;
            genuine = λ r among. absurd (none_in r among);
            polls = λ n never. let no : None ≡ Some n = never in absurd (cc);
            guest = tt;
            stops = tt;
            rests = λ unpolled. (grind (arith, false, true, over_untold, h.made.slot.waiting));
          })) in
          subst (λ o. SoundAt (Place.Poll t InPoll.RemoveTask) (record w { place = Place.Poll t InPoll.RemoveTask; hand = o }) (record s { tasks = s'.tasks })) (sym h.sound.hand)
          (sound_tasked t InPoll.Act (Place.Poll t InPoll.RemoveTask) w w.root_ready None s s' h.sound (on_in_poll t InPoll.RemoveTask refl refl) tasked)

      root_home : t ≡ w.root → h.made.slot.home ≡ Some w.index
      root_home same = ap (λ (o : TaskSlot B). o.home) (sym here_is) ∙ (here.root same).1

      -- the root of any of the pool but worker zero is over only once the pool is stopped
      stopped_by : PerformsOne left runs holds s → t ≡ w.root → 0 < w.index → w.index < s.config.workers → s.stopped ≡ true
      stopped_by one same some few =
          let vs : Views = record { workers = []; calls = [] } in
          let c = common_of left spot one.0 vs s in
          let it = task_seen left spot h.made.slot in
          let so = h.asks one.0 vs (one.2 t h.made.slot h.made.there) in
          let is : next_word c it ≡ x = is_end.word one.0.config w.moments.sampled (numbers_held h.made.slot.held.items) (next_word c it) so.asks in
          let code : it.code ≡ Code.Waits = waits_there one.0.config.workers w.index h.made.slot.home it.code (root_home same) some (subst (λ y. w.index < y.workers) one.1 few) so.code in
          stopped_so s.stopped x is_end.waits (sym (waits_word c it code) ∙ is)

      root_first : PerformsOne left runs holds s → t ≡ w.root → SoundAt (Place.Closing InClosing.Close) (record w { place = Place.Closing InClosing.Close }) (record s { tasks = s'.tasks })
      root_first one same =
          let sound = h.sound in
          let slot = h.made.slot in
          let there : slice_get s.tasks.items w.root ≡ Some slot = subst (λ n. slice_get s.tasks.items n ≡ Some slot) same h.made.there in
          let items_root : s'.tasks.items ≡ slice_set s.tasks.items w.root over_slot = items ∙ ap (λ n. slice_set s.tasks.items n over_slot) same in
          let found : slice_get s'.tasks.items w.root ≡ Some over_slot = ap (λ ts. slice_get ts w.root) items_root ∙ set_there s.tasks.items w.root over_slot slot there in
          let is_root : slot ≡ sound.runnable.root = same_Some slot sound.runnable.root (sym there ∙ sound.runnable.there) in
          let stands : Stands (Some InPoll.Act) w.index slot = subst (Stands (Some InPoll.Act) w.index) here_is (here.root same).0 in
          let homes = subst (AreHome s.config.workers (length s.seats.items)) (sym items) (homes_set s.config.workers (length s.seats.items) s.tasks.items t slot over_slot h.made.there keeps_slot sound.homes) in
          let resting : AreResting s'.tasks.items = subst AreResting (sym items) (resting_set s.tasks.items t slot over_slot h.made.there (λ never unpolled. absurd (let no : None ≡ Some w.index = sym never ∙ root_home same in cc)) sound.resting) in
          let runnable : HasRunnable w.index w.root w.root_ready None s'.tasks.items = record {
            root = over_slot;
            there = found;
            home = root_home same;
            number = ap (λ (o : TaskSlot B). o.cell.number) is_root ∙ sound.runnable.number;
            once = run_over (one_of w.root_ready None) slot over_slot polled refl (subst (IsRunnable (one_of w.root_ready None)) (sym is_root) sound.runnable.once);
            one = λ some. refl;
          } in
          let empty : w.hand ≡ None = sound.hand in
          let genuine : (r : Runnable) → Contains (option_to_list w.hand) r → IsHeld None w.root s'.tasks.items r = λ r among. absurd (none_in r (subst (λ o. Contains (option_to_list o) r) empty among)) in
          let stolen : (r : Runnable) → Contains w.loot.values r → IsGenuine s'.tasks.items r = λ r among. absurd (none_in r (subst (λ xs. Contains xs r) (sound.loot.none refl) among)) in
          let letters : HasLetters false false w.index s.config.workers w.letters s.requests.items s.sleepers.items = record { some = λ never. absurd (false≢true never); none = λ silent. none; requests = sound.letters.requests; timer = sound.letters.timer } in
          let tied : IsTied None w.index w.root s'.tasks.items = record {
            stands = λ o at.
                subst (Stands None w.index) (same_Some over_slot o (sym found ∙ at)) (grind (arith, false, true, stands.uncleared, over_untold, slot.waiting));
          } in
          let phased : (chair : Chair) → slice_get s.seats.items w.index ≡ Some chair → IsPhased w.index false (Some InClosing.Close) w.home.closing w.root w.names.unreleased (stage_of chair s) s'.tasks.items = λ chair at.
          let pool_is : chair.pool ≡ nat_lt w.index s.config.workers = ap (λ (y : Chair). y.pool) (same_Some chair sound.seated.seat (sym at ∙ sound.seated.there)) ∙ sound.seated.pool in
          subst (IsPhased w.index false (Some InClosing.Close) w.home.closing w.root w.names.unreleased (stage_of chair s)) (sym items_root)
          (phased_over w.index w.home.closing w.root w.names.unreleased (stage_of chair s) s.tasks.items slot over_slot there refl (λ some of_pool. stopped_by one same some (ltb-true w.index s.config.workers (sym pool_is ∙ of_pool))) (sound.phased chair at)) in
          let lets : false ≡ true → live_count w.home.timers ≡ 0 = λ is. absurd (false≢true is) in
          let quiet : false ≡ false → w.home.deferred.notes.wakes.items ≡ [] = λ is. sound.quiet refl in
          let batch : false ≡ true → w.batch.values ≡ [] = λ is. absurd (false≢true is) in
          assumption (homes, resting, runnable, genuine, stolen, letters, tied, phased, lets, quiet, batch, sound)

      -- THE WHOLE STEP

      abbrev W : Worker
      W = over_worker (ended_place t it.v) it.v.letters it.lets.v w

      abbrev S : Shared B
      S = over_shared s'.tasks.items s' (record it.lets.now { tasks = s.tasks }) s

      root_same : it.v.root ≡ w.root
      root_same = ap (λ (y : Worker). y.root) it.lets.worker ∙ ap (λ (y : Worker). y.root) slept.0 ∙ ap (λ (y : Worker). y.root) gone_first.worker

      stepped : (q0 : Place) (b : AfterCancels) → IsPast (ended_place t it.v) → IsAside (ended_place t it.v) → IsQuiet (ended_place t it.v) → ((u : ℕ) → removes_at (ended_place t it.v) ≡ Some u → (u ≡ t) × (h.made.slot.home ≡ None)) → AreLetters s.config.workers w.index it.v.letters s.requests.items s.sleepers.items
          → SoundAt q0 (record w { place = q0 }) (record s { tasks = s'.tasks }) → sends_cancel_at q0 ≡ false → (is_empty (letters_in it.v.letters) ≡ false → is_pool w.role ≡ true) → (is_empty (letters_in it.v.letters) ≡ false → IsOwing q0 b)
          → ((letters_in it.v.letters ≡ []) × (ended_place t it.v ≡ q0)) ⊎ ((is_empty (letters_in it.v.letters) ≡ false) × (ended_place t it.v ≡ Place.SendCancel b)) → StepsOf left runs holds spot w s e w' s'
      stepped q0 b past aside quiet removes letters first silent pool owing splits =
          let over = overs past aside removes in
          let place : after_end t h.made.slot.home (desk_of it.v) ≡ ended_place t it.v = place_then (desk_of it.v) refl home root_home (λ apart. ap (λ (o : TaskSlot B). o.home) (sym here_is) ∙ (here.ordinary apart).1) in
          let steps : StepsOf left runs holds spot w s e (over_worker (ended_place t it.v) it.v.letters it.lets.v w) (over_shared s'.tasks.items s' (record it.lets.now { tasks = s.tasks }) s) = (
            (λ p vs suits fits. works p vs suits (fits t h.made.slot h.made.there) past.polls quiet.unserved quiet.free (quiet.unowed w.workers) place),
            sound_over InPoll.Act t q0 (ended_place t it.v) b it.v.letters w it.lets.v s (record it.lets.now { tasks = s.tasks }) s' h.made.slot over_slot (acting t) h.sound over letters first silent pool owing splits,
            still_performs left runs holds t w (over_worker (ended_place t it.v) it.v.letters it.lets.v w) s (over_shared s'.tasks.items s' (record it.lets.now { tasks = s.tasks }) s) h.made.slot over_slot h.made.there items refl refl performs_then,
            beside_over InPoll.Act t (ended_place t it.v) it.v.letters w it.lets.v s (record it.lets.now { tasks = s.tasks }) s' h.made.slot over_slot (acting t) h.sound over letters,
          ) in
          subst (StepsOf left runs holds spot w s e w') (sym shared_is) (subst (λ y. StepsOf left runs holds spot w s e y (over_shared s'.tasks.items s' (record it.lets.now { tasks = s.tasks }) s)) (sym worker_is) steps)

      guest_over : t ≢ w.root → StepsOf left runs holds spot w s e w' s'
      guest_over apart =
          let b : AfterCancels = AfterCancels.Remove t in
          let l = it.v.letters in
          let ordinary : h.made.slot.home ≡ None = ap (λ (o : TaskSlot B). o.home) (sym here_is) ∙ (here.ordinary apart).1 in
          let left_is : ended_place t it.v ≡ cancels_left b (desk_of it.v) (letters_in l) = ap (λ c. if c then Place.Closing InClosing.Close else cancels_left b (desk_of it.v) (letters_in l)) (ap (λ n. t == n) root_same ∙ not_same t w.root apart) in
          let splits : ((letters_in l ≡ []) × (ended_place t it.v ≡ Place.Poll t InPoll.RemoveTask)) ⊎ ((is_empty (letters_in l) ≡ false) × (ended_place t it.v ≡ Place.SendCancel b)) =
          ⊎_elim (λ y. inl (y.0, left_is ∙ y.1)) (λ y. inr (y.0, left_is ∙ y.1)) (split_left b (desk_of it.v) (letters_in l)) in
          let letters = letters_fit w.index t h.made.slot l w it.lets.v s s (record it.lets.now { tasks = s.tasks }) ordinary all_there gone refl (λ n is. absurd (let no : Waiting.Nothing ≡ Waiting.Timer n = sym waits ∙ is in cc)) in
          stepped (Place.Poll t InPoll.RemoveTask) b
          (⊎_elim (λ y. subst IsPast (sym y.1) (removes_past t)) (λ y. subst IsPast (sym y.1) (tells_past b)) splits)
          (⊎_elim (λ y. subst IsAside (sym y.1) (removes_aside t)) (λ y. subst IsAside (sym y.1) (tells_removing t)) splits)
          (⊎_elim (λ y. subst IsQuiet (sym y.1) (record { unserved = refl; free = refl; unowed = λ n. refl })) (λ y. subst IsQuiet (sym y.1) (record { unserved = refl; free = refl; unowed = λ n. refl })) splits)
          (λ u is. (sym (same_Some t u (⊎_elim (λ y. sym (ap removes_at y.1) ∙ is) (λ y. sym (ap removes_at y.1) ∙ is) splits)), ordinary))
          letters (guest_first apart) refl (λ some. guest_pool t InPoll.Act w s h.sound apart) (λ some. owes_removing t) splits

      root_over : PerformsOne left runs holds s → t ≡ w.root → StepsOf left runs holds spot w s e w' s'
      root_over one same =
          let l = it.v.letters in
          let place : ended_place t it.v ≡ Place.Closing InClosing.Close = ap (λ c. if c then Place.Closing InClosing.Close else cancels_left (AfterCancels.Remove t) (desk_of it.v) (letters_in l)) (ap (λ n. t == n) root_same ∙ eq-eqb t w.root same) in
          let none_other : others_of w.index h.made.slot.held.items ≡ [] = others_none w.index h.made.slot.held.items (λ j y at. subst (λ o. MayHave s.config.workers o y.worker) (root_home same) (all_there.near j y at)) in
          let empty : letters_in l ≡ [] = ap (λ xs. map letter_of_request xs ++ option_to_list (option_map letter_of_timer l.timer)) (others_left ∙ none_other) ∙ ap (λ o. option_to_list (option_map letter_of_timer o)) slept.2 in
          stepped (Place.Closing InClosing.Close) (AfterCancels.Remove t) (subst IsPast (sym place) closes_past) (subst IsAside (sym place) closes_aside) (subst IsQuiet (sym place) (record { unserved = refl; free = refl; unowed = λ n. refl }))
          (λ u is. absurd (let no : None ≡ Some u = sym (ap removes_at place) ∙ is in cc))
          (none_left w.index t h.made.slot l w it.lets.v s s (record it.lets.now { tasks = s.tasks }) (root_home same) waits all_there gone) (root_first one same) refl
          (λ some. absurd (false≢true (sym some ∙ ap is_empty empty))) (λ some. absurd (false≢true (sym some ∙ ap is_empty empty))) (inl (empty, place))

      pub act_over : PerformsOne left runs holds s → StepsOf left runs holds spot w s e w' s'
      act_over one = by_number t w.root guest_over (root_over one)
