-- Own part and common part are changed by a step of one worker, and all else is as it was: so the whole takes a step of
-- the machine, and that of the moves.
pub use Rattle.exec_core.specs.Words.{Said}
pub use Rattle.exec_books.proofs.Kept.{booked_then, first_booked}
pub use Rattle.exec_invariants.proofs.{AskBoxes.box_there, Closes.now_done, FiringRemoved.slot_none, FiringSeen.bed_named, GateLines.key_number, Gated.durable_of_file, HandedOver.my_mail, HoldSteps.{get_front, held_there, hold_once}, HoldWaits.held_number, Lined.{mapped, unmapped}, Seats.seat_there, Seen.{request_at, sleeper_at}, SparedRecord.there_within, TaskTakes.holder_there, TaskWants.held_so, Turning.set_found}
pub use Rattle.exec_parts.proofs.{Facts.{and_from, by_number, same_Some}, LeafPowers.power_is}
pub use Rattle.exec_polling.proofs.{Begun.{begun_sound, none_there, not_both}, GateGrown.found_last, MadePlaces.none_summed}
pub use Rattle.exec_progress.proofs.Kept.{bounded_there, falls, first_paced, paced_then}
pub use Rattle.exec_rest.proofs.{Bare.{bare_first, bare_goes_on}, First.first_restful, Fresh.{fresh_first, fresh_goes_on, woken_by}, NoMail.nothing_mailed, OtherMail.first_posted, Rest.{callers, down, rests}, Shut.{shut_first, shut_goes_on}, Step.{goes_on, posted_goes_on}}
pub use Rattle.exec_settled.proofs.{AwaitedKept.{awaited_then, first_awaited}, Parked.{nobody_sleeps_on_work, none_is_forgotten}, PermittedKept.{first_permitted, permitted_then}, Rightly.rightly, SettledKept.{first_settled, settled_then}}
pub use Rattle.exec_shutdown.proofs.{Shutdown.shuts_down, Stopping.{first_stops, stops_then}}
pub use Rattle.exec_steps.proofs.Together.{caller_stepped, last_or_before, others_of, worker_born, worker_stepped}
use Rattle.std.proofs.{Common.{Bool, List, None, Option, Some, [], ap, arith, false, length, map, option_to_list, refl, slice_get, slice_set, subst, suc, sym, true, ℕ, ◌++◌, ◌+◌, ◌<◌, ◌∙◌, ◌∷◌, ◌≡◌, ◌≢◌}, lemmas.{List.{append-nil, length-append, length-map, length-set, map-append, map-set}, Option.{get_or_from_slice_get, slice_get-map, slice_get_within}}}
use Rattle.exec_core.specs.{Words.{Configuration, Event, Did, Action, own_after, common_after, made_by, is_enabled, Choice, Plan, after_event, World, Own, Common, no_own, own_at, shard_count, CallDesk, Played, Playing, by_action, by_move, desk_at, first_desk, newcomers, Desk, Things, Record, Chair, SleeperRecord, TaskSlot, Worker, Spot, Views, Visible, own_of, visible, with_view, desk_of, common_of, seats_seen, things_with, PerformsAll, Sound, SparesBy, box_of, nap_of, thing_of, IsWhole, Profile, Beside, BesideWith, WorksWith, Suits, with_born, Caller, CallBeside, CallSound, desk_of_caller, StandTogether}, Lift.{Stands, world, playing, views, WorkerSteps, WorkerStays, Takes, IsAsBefore}, declared.executor.Core.Core}

-- LISTS

-- What has been put in the place of its like can't be told apart.
pub unchanged : {A B : Type 0} (f : A → B) (xs ys : List A) (i : ℕ) (x y : A) → slice_get xs i ≡ Some x → ys ≡ slice_set xs i y → f y ≡ f x → map f ys ≡ map f xs
unchanged = grind (arith, map-set, set_found, slice_get-map)

-- what is seen of a list in which one was put in a place, and one more stands last
pub seen_born : {A B : Type 0} (f : A → B) (xs ys : List A) (i : ℕ) (y : A) (born : Option A) → ys ≡ slice_set xs i y ++ option_to_list born → map f ys ≡ slice_set (map f xs) i (f y) ++ map f (option_to_list born)
seen_born f xs ys i y born now = ap (map f) now ∙ map-append f (slice_set xs i y) (option_to_list born) ∙ ap (λ zs. zs ++ map f (option_to_list born)) (map-set f xs i y)

seen_with : {A B : Type 0} (f : A → B) (xs : List A) (i : ℕ) (y z : A) → map f (slice_set xs i y ++ z ∷ []) ≡ slice_set (map f xs) i (f y) ++ f z ∷ []
seen_with f xs i y z = seen_born f xs (slice_set xs i y ++ z ∷ []) i y (Some z) refl

-- as many seats are seen as there are workers and chairs
pub seats_length : (vs : List Visible) (seats : List Chair) → length vs ≡ length seats → length (seats_seen vs seats) ≡ length vs
seats_length [] seats h = refl
seats_length (v ∷ vs) [] h = sym h
seats_length (v ∷ vs) (seat ∷ seats) h = ap suc (seats_length vs seats (omega (arith, h)))

-- A step after which there are as many seats makes no worker.
none_made : (c : Configuration) (me : Own) (s s' : Common) (i : ℕ) (e : Event) (choice : Choice) → s' ≡ common_after c me s i e choice → length s'.seats ≡ length s.seats → (made_by s e ≡ []) × (newcomers c e ≡ [])
none_made = grind (arith, length-append)

-- WHAT AN EXECUTOR IS, part by part

pub world_by : (ws ws' : List Own) (s s' : Common) → ws ≡ ws' → s ≡ s' → (let one : World = record { workers = ws; common = s } in one) ≡ record { workers = ws'; common = s' }
world_by ws ws' s s' first second = λ i. record { workers = first i; common = second i }

pub playing_by : (w w' : World) (ds ds' : List Desk) (cs cs' : List CallDesk) (x x' : Things) → w ≡ w' → ds ≡ ds' → cs ≡ cs' → x ≡ x'
    → (let one : Playing = record { world = w; desks = ds; callers = cs; things = x } in one) ≡ record { world = w'; desks = ds'; callers = cs'; things = x' }
playing_by w w' ds ds' cs cs' x x' first second third fourth = λ i. record { world = first i; desks = second i; callers = third i; things = fourth i }

views_by : (vs vs' : List Visible) (v : Views) → vs ≡ vs' → (let one : Views = record v { workers = vs } in one) ≡ record v { workers = vs' }
views_by vs vs' v same = ap (λ xs. record v { workers = xs }) same

module _ {B : Type 0} where
  -- what is visible once one worker is another
  pub views_with : (c d : Core B) (i : ℕ) (w' : Worker) → d.workers.items ≡ slice_set c.workers.items i w' → d.callers ≡ c.callers → views d ≡ with_view (views c) i (visible w')
  views_with = grind (arith, views_by, map-set)

  -- and one more was made
  pub views_with_born : (c d : Core B) (i : ℕ) (w' : Worker) (born : Option Worker) → d.workers.items ≡ slice_set c.workers.items i w' ++ option_to_list born → d.callers ≡ c.callers → views d ≡ with_born born (with_view (views c) i (visible w'))
  views_with_born = grind (arith, views_with, append-nil, views_by, seen_with)

  -- WHAT STANDS THEN

  -- each request and each sleeper is one of a worker
  pub owned : (c : Core B) → Stands c → (k : ℕ) (r : Record) → slice_get c.shared.requests.items k ≡ Some r → r.shown.worker < length c.workers.items
  owned c stands k r there =
      (let few = stands.together.whole.holding.of_worker k (thing_of r) (mapped thing_of c.shared.requests.items k r there) in let many = length-map c.shared.seats.items box_of in omega (arith, few, many, stands.together.seats))

  pub asleep : (c : Core B) → Stands c → (k : ℕ) (z : SleeperRecord) → slice_get c.shared.sleepers.items k ≡ Some z → z.shown.worker < length c.workers.items
  asleep c stands k z there =
      (let few = stands.together.whole.holding.of_worker_too k (nap_of z) (mapped nap_of c.shared.sleepers.items k z there) in let many = length-map c.shared.seats.items box_of in omega (arith, few, many, stands.together.seats))

  pub stands_worked : (c d : Core B) (i : ℕ) (w w' : Worker) → Stands c → slice_get c.workers.items i ≡ Some w → d.workers.items ≡ slice_set c.workers.items i w' → d.callers ≡ c.callers
      → w'.index ≡ w.index → Sound w' d.shared → Beside w c.shared w' d.shared → Stands d
  stands_worked c d i w w' stands was workers callers index sound beside =
      let then : StandTogether (slice_set c.workers.items i w') c.callers.items d.shared = worker_stepped c.workers.items c.callers.items c.shared stands.together i w w' d.shared was index sound beside in
      grind (arith, length-set)

  -- who has the same root has the same number
  old_number : (more : Bool) (c d : Core B) (w w' : Worker) → Stands c → Sound w c.shared → Sound w' d.shared → w'.root ≡ w.root → ((j : ℕ) → j ≢ w.index → SparesBy more j c.shared d.shared) → w'.index < length c.workers.items → w'.index ≡ w.index
  old_number more c d w w' stands mine sound root spares within =
      by_number w'.index w.index
      (λ other.
      let x = there_within c.workers.items w'.index within in
      let its = stands.together.sound w'.index x.0 x.1 in
      let home = its.1.runnable.home ∙ ap (λ n. Some n) its.0 in
      let still = (spares w'.index other).root x.0.root its.1.runnable.root its.1.runnable.there home in
      let roots : x.0.root ≡ w'.root = sound.homes.once x.0.root w'.root w'.index its.1.runnable.root sound.runnable.root still sound.runnable.there home sound.runnable.home in
      let slots : its.1.runnable.root ≡ mine.runnable.root = same_Some its.1.runnable.root mine.runnable.root (sym its.1.runnable.there ∙ ap (slice_get c.shared.tasks.items) (roots ∙ root) ∙ mine.runnable.there) in
      let homes : w'.index ≡ w.index = same_Some w'.index w.index (sym home ∙ ap (λ (t : TaskSlot B). t.home) slots ∙ mine.runnable.home) in
      absurd (other homes))
      (λ same. same)

  number_kept : (c d : Core B) (w w' : Worker) (born : Option Worker) (e : Event) → Stands c → Sound w c.shared → Sound w' d.shared → w'.root ≡ w.root → BesideWith born w c.shared e w' d.shared → w'.index ≡ w.index
  number_kept c d w w' None e stands mine sound root beside =
      let inside = slice_get_within d.shared.seats.items w'.index sound.seated.seat sound.seated.there in
      let many : length d.shared.seats.items ≡ length c.shared.seats.items = (beside.spares (w.index + 1) (λ same. omega (arith, same))).many in
      old_number false c d w w' stands mine sound root beside.spares (omega (arith, inside, many, stands.together.seats))
  number_kept c d w w' (Some v) e stands mine sound root beside =
      let inside = slice_get_within d.shared.seats.items w'.index sound.seated.seat sound.seated.there in
      by_number w'.index v.index
      (λ other. old_number true c d w w' stands mine sound root beside.spares (omega (arith, inside, beside.many, beside.last, other, stands.together.seats)))
      (λ same.
      let home = beside.sound.runnable.home ∙ ap (λ n. Some n) (sym same) in
      let roots : v.root ≡ w'.root = sound.homes.once v.root w'.root w'.index beside.sound.runnable.root sound.runnable.root beside.sound.runnable.there sound.runnable.there home sound.runnable.home in
      let within = slice_get_within c.shared.tasks.items w.root mine.runnable.root mine.runnable.there in
      absurd (omega (arith, within, roots, root, beside.root)))

  -- the same, where it may have made a worker
  stands_with : (c d : Core B) (i : ℕ) (w w' : Worker) (born : Option Worker) (e : Event) → Stands c → slice_get c.workers.items i ≡ Some w → d.workers.items ≡ slice_set c.workers.items i w' ++ option_to_list born → d.callers ≡ c.callers
      → w'.index ≡ w.index → Sound w' d.shared → BesideWith born w c.shared e w' d.shared → Stands d
  stands_with c d i w w' None e stands was workers callers index sound beside = stands_worked c d i w w' stands was (workers ∙ append-nil (slice_set c.workers.items i w')) callers index sound beside
  stands_with c d i w w' (Some v) e stands was workers callers index sound beside =
      record {
        some = rw workers (omega (arith, length-append (slice_set c.workers.items i w') (v ∷ [])));
        callers = ap (λ xs. length xs.items) callers ∙ stands.callers;
        together = rw (workers, callers) (worker_born c.workers.items c.callers.items c.shared stands.together i w w' v d.shared e was index sound beside);
      }

  pub stands_called : (c d : Core B) (j : ℕ) (x x' : Caller) → Stands c → slice_get c.callers.items j ≡ Some x → d.callers.items ≡ slice_set c.callers.items j x' → d.workers ≡ c.workers
      → CallSound x' d.shared → CallBeside x c.shared x' d.shared → Stands d
  stands_called c d j x x' stands was callers workers sound beside =
      let then : StandTogether c.workers.items (slice_set c.callers.items j x') d.shared = caller_stepped c.workers.items c.callers.items c.shared stands.together j x x' d.shared was sound beside in
      grind (arith, length-set)

  -- what stands after a step of no party that keeps what is sound
  pub stands_by : (c d : Core B) → Stands c → d.workers ≡ c.workers → d.callers ≡ c.callers → length d.shared.seats.items ≡ length c.shared.seats.items
      → d.shared.config ≡ c.shared.config → d.shared.tasks ≡ c.shared.tasks → d.shared.requests ≡ c.shared.requests → d.shared.sleepers ≡ c.shared.sleepers → d.shared.set ≡ c.shared.set
      → ((w : Worker) → Sound w c.shared → Sound w d.shared) → ((x : Profile) → IsWhole x c.shared → IsWhole x d.shared) → Stands d
  stands_by c d stands workers callers many config tasks requests sleepers set sound whole =
      let together = stands.together in
      let then : StandTogether c.workers.items c.callers.items d.shared = record {
        seats = together.seats ∙ sym many;
        few = together.few;
        most = together.most;
        sound = λ i w found. let it = together.sound i w found in (it.0, sound w it.1);
        calls = λ j x found.
            let it = together.calls j x found in
            record {
              config = rw config it.config;
              homes = rw (config, tasks, many) it.homes;
              many = rw (config, many) it.many;
              shards = ap (λ x. length x.shards) set ∙ it.shards ∙ ap shard_count (sym config);
              hand = it.hand;
              genuine = λ r has. rw tasks (it.genuine r has);
              aims = rw many it.aims;
            };
        whole = whole _ together.whole;
      } in
      grind arith

module _ {B L : Type 0} (left : B → L) (spot : L → Option Said → Spot) where
  pub suits_it : (p : Plan) (c : Core B) (i : ℕ) (w : Worker) → Stands c → slice_get c.workers.items i ≡ Some w → c.shared.config ≡ p.config → Suits p (views c) w c.shared
  suits_it p c i w stands was config =
      assumption (config, ap (slice_get (map visible c.workers.items)) (stands.together.sound i w was).0 ∙ mapped visible c.workers.items i w was, length-map c.workers.items visible ∙ stands.together.seats)

  -- the worker's own part in the machine, and its desk
  pub own_there : (p : Plan) (c : Core B) (i : ℕ) (w : Worker) → slice_get c.workers.items i ≡ Some w → own_at (world left spot p c) i ≡ own_of w
  own_there p c i w was = get_or_from_slice_get (map own_of c.workers.items) i (own_of w) no_own (mapped own_of c.workers.items i w was)

  pub desk_there : (p : Plan) (c : Core B) (i : ℕ) (w : Worker) → slice_get c.workers.items i ≡ Some w → desk_at p.config (playing left spot p c) i ≡ desk_of w
  desk_there p c i w was = get_or_from_slice_get (map desk_of c.workers.items) i (desk_of w) (first_desk p.config i) (mapped desk_of c.workers.items i w was)

  -- as many seats are seen where as many stand
  pub as_many_seen : (p : Plan) (c d : Core B) → Stands c → Stands d → length d.workers.items ≡ length c.workers.items → length (world left spot p d).common.seats ≡ length (world left spot p c).common.seats
  as_many_seen = grind (arith, seats_length, length-map)

  -- WHERE THERE IS NO MEMORY
  pub as_before : (i : ℕ) (c d : Core B) → WorkerStays left spot i c d → IsAsBefore left spot c d
  as_before i c d it p =
      let ws = c.workers.items in
      let same = it.same in
      let seen : views d ≡ views c = grind (arith, it.callers, views_by _ _ (views c) (unchanged visible ws d.workers.items i it.before it.after it.was it.workers same.visible_same)) in
      playing_by _ _ _ _ _ _ _ _
      (world_by _ _ _ _ (unchanged own_of ws d.workers.items i it.before it.after it.was it.workers same.own) (ap (λ vs. common_of left spot p vs d.shared) seen ∙ same.common p (views c)))
      (unchanged desk_of ws d.workers.items i it.before it.after it.was it.workers same.desk)
      (ap (λ xs. map desk_of_caller xs.items) it.callers)
      (ap (λ vs. things_with vs d.shared) seen ∙ same.things (views c))

module _ {B L : Type 0} (left : B → L) (runs : L → Plan → Option ℕ → Type 0) (holds : L → Option Said → List ℕ) (spot : L → Option Said → Spot) where
  -- what stands then
  pub stands_again : (i : ℕ) (c d : Core B) (e : Event) → Stands c → WorkerSteps left runs holds spot i c e d → Stands d
  stands_again i c d e stands it =
      let was = stands.together.sound i it.before it.was in
      let index = number_kept c d it.before it.after it.born e stands was.1 it.steps.1 it.steps.2.root it.steps.3 in
      stands_with c d i it.before it.after it.born e stands it.was it.workers it.callers index it.steps.1 it.steps.3

  -- what was made shows what the machine and the moves begin with
  born_shown : (p : Plan) (c d : Core B) (w w' : Worker) (born : Option Worker) (e : Event) (choice : Choice) → Stands c → Stands d → c.shared.config ≡ p.config
      → d.workers.items ≡ slice_set c.workers.items w.index w' ++ option_to_list born → (world left spot p d).common ≡ common_after p.config (own_of w) (world left spot p c).common w.index e choice
      → BesideWith born w c.shared e w' d.shared
      → (map own_of (option_to_list born) ≡ made_by (world left spot p c).common e) × (map desk_of (option_to_list born) ≡ newcomers p.config e)
  born_shown p c d w w' None e choice stands still config workers common beside =
      let many : length d.workers.items ≡ length c.workers.items = ap length (workers ∙ append-nil (slice_set c.workers.items w.index w')) ∙ length-set c.workers.items w.index w' in
      let none = none_made p.config (own_of w) (world left spot p c).common (world left spot p d).common w.index e choice common (as_many_seen left spot p c d stands still many) in
      (sym none.0, sym none.1)
  born_shown p c d w w' (Some v) e choice stands still config workers common beside = (
    ap (λ o. o ∷ []) beside.own ∙ ap (made_by (world left spot p c).common) (sym beside.tells),
    ap (λ o. o ∷ []) (beside.desk ∙ ap (λ k. first_desk k v.index) config) ∙ ap (newcomers p.config) (sym beside.tells),
  )

  lifted_at : (p : Plan) (c d : Core B) (w w' : Worker) (born : Option Worker) (e : Event) → Stands c → Stands d → c.shared.config ≡ p.config → slice_get c.workers.items w.index ≡ Some w
      → d.workers.items ≡ slice_set c.workers.items w.index w' ++ option_to_list born → d.callers ≡ c.callers → WorksWith left spot born p (views c) w c.shared e w' d.shared → BesideWith born w c.shared e w' d.shared
      → is_enabled (world left spot p c).common (Action.Work w.index) ≡ true
      → Takes left spot p c (Action.Work w.index) e d
  lifted_at p c d w w' born e stands still config was workers callers works beside enabled =
      let vs = views c in
      let i = w.index in
      let mine = own_there left spot p c i w was in
      let here = desk_there left spot p c i w was in
      let then : Views = with_born born (with_view vs i (visible w')) in
      let seen : views d ≡ then = views_with_born c d i w' born workers callers in
      let all : Common = (world left spot p c).common in
      let me_then : Own = own_after p.config (own_of w) all i e works.choice in
      let common : (world left spot p d).common ≡ common_after p.config (own_of w) all i e works.choice = ap (λ x. common_of left spot p x d.shared) seen ∙ works.common in
      let shown = born_shown p c d w w' born e works.choice stands still config workers common beside in
      let owns : map own_of d.workers.items ≡ slice_set (map own_of c.workers.items) i me_then ++ made_by all e = grind (arith, seen_born own_of c.workers.items d.workers.items i w' born workers, works.own, shown.0) in
      let desks : map desk_of d.workers.items ≡ slice_set (map desk_of c.workers.items) i (desk_of w') ++ newcomers p.config e =
      seen_born desk_of c.workers.items d.workers.items i w' born workers ∙ ap (λ xs. slice_set (map desk_of c.workers.items) i (desk_of w') ++ xs) shown.1 in
      let becomes : world left spot p d ≡ after_event p.config (world left spot p c) (Action.Work i) e works.choice =
      subst (λ me. world left spot p d ≡ (let x : World = record { workers = slice_set (map own_of c.workers.items) i (own_after p.config me all i e works.choice) ++ made_by all e; common = common_after p.config me all i e works.choice } in x)) (sym mine) (world_by _ _ _ _ owns common) in
      let x = playing left spot p c in
      let goes : by_action p.config x (Action.Work i) ≡ by_move p.config x i (record { event = e; choice = works.choice; desk = desk_of w'; thing = things_with then d.shared }) = grind (arith, mine, here, works.moves) in
      let next : by_move p.config x i (record { event = e; choice = works.choice; desk = desk_of w'; thing = things_with then d.shared }) ≡ record { told = (record { action = Action.Work i; said = Did e }, works.choice); next = playing left spot p d } =
      ap (λ n. (let it : Played = record { told = (record { action = Action.Work i; said = Did e }, works.choice); next = n } in it))
      (playing_by _ _ _ _ _ _ _ _ (sym becomes) (sym desks) (ap (λ xs. map desk_of_caller xs.items) (sym callers)) (ap (λ v. things_with v d.shared) (sym seen))) in
      grind arith

  -- THE LIFT
  pub lifted : (i : ℕ) (p : Plan) (c d : Core B) (e : Event) → Stands c → WorkerSteps left runs holds spot i c e d
      → c.shared.config ≡ p.config → PerformsAll left runs holds p c.shared → is_enabled (world left spot p c).common (Action.Work i) ≡ true
      → Takes left spot p c (Action.Work i) e d
  lifted i p c d e stands it config performs enabled =
      let at = stands.together.sound i it.before it.was in
      let works = it.steps.0 p (views c) (suits_it left spot p c i it.before stands it.was config) performs in
      subst (λ k. slice_get c.workers.items k ≡ Some it.before → d.workers.items ≡ slice_set c.workers.items k it.after ++ option_to_list it.born → is_enabled (world left spot p c).common (Action.Work k) ≡ true → Takes left spot p c (Action.Work k) e d) at.0
      (λ was workers may. lifted_at p c d it.before it.after it.born e stands (stands_again i c d e stands it) config was workers it.callers works it.steps.3 may) it.was it.workers enabled
