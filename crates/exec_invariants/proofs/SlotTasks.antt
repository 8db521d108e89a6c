-- What holds of the tasks where a step of a poll changes one task's slot.
use Rattle.exec_invariants.{specs.{Due.IsDue, Flown.HasFlown, Holding.Mail, HoldPlaces.{cancels_at, heard_at, is_bare_at, sends_cancel_at, spare_at}, Places.{begins_at, calls_back_at, claims_at, clears_at, hands_on_at, has_count_at, has_loot_at, in_poll_of, is_armed_at, is_pooled_at, is_published_at, joins_at, one_if, or_polls, passes_at, polled_in, searches_at, step_of_poll, task_at}, Rooted.HearsNext, Sound.{Aims, AreHome, AreResting, HasBatch, HasGuest, HasLetters, HasQueue, HasRunnable, IsHeld, IsInHand, IsLeft, IsLoot, IsResting, IsRunnable, IsSearching, IsSeated, IsTied, LetsGo, LetsGoAt, SoundAt, Stands, Stops, StopsIn, has_wakes_at, one_of, root_in_hand, served_in, Serves}, Names.tellers, Whole.IsGenuine}, proofs.{Words.{[], ◌≡◌, ◌≢◌, inr, ℕ, ◌+◌, Bool, true, false, Contains, List, length, Option, Some, None, refl, sym, ap, subst, ◌∙◌, arith, slice_get, slice_set, option_to_list, if◌then◌else◌, false≢true, length-set, Queue, is_polled, runnable_of, Runnable, Configuration, InPoll, Place, polls_at, polls_in, Record, Role, Chair, Shared, SleeperRecord, TaskSlot, Worker, IsPhased, closes_at, closing_in, is_complete, stage_of, is_pool, IsTold, driver_of, by_number, not_same, same_Some, set_elsewhere, set_there}, Dedicated.all_serve}}

-- WHERE IT LEADS: what such a place says

pub record IsAfter (q : Place) : Type 0 where
  pub open_still : closes_at q ≡ false
  pub closing : closing_in q ≡ None
  pub served : served_in q ≡ None
  pub unarmed : is_armed_at q ≡ false
  pub calls : calls_back_at q ≡ None
  pub begins : begins_at q ≡ None
  pub queue : (x : Queue Runnable) → x.held ≡ [] → HasQueue q x
  pub searching : (b : Bool) → b ≡ false → IsSearching (searches_at q) b
  pub aims : (c : Configuration) (i : ℕ) (seats : List Chair) → Aims q c i seats
  pub batch : (ms : List Mail) → HasBatch q ms
  pub spare : spare_at q ≡ 64
  pub cancels : cancels_at q ≡ false
  pub sends_cancel : sends_cancel_at q ≡ false
  pub heard : heard_at q ≡ None
  pub bare : is_bare_at q ≡ false
  pub claims : claims_at q ≡ None
  pub counts : has_count_at q ≡ false
  pub published : is_published_at q ≡ false
  pub clears : clears_at q ≡ None
  pub passes : passes_at q ≡ None
  pub joins : joins_at q ≡ None

-- WHERE A WORKER IS IN THE POLL OF ANOTHER TASK

pub elsewhere : (r : ℕ) (o : Option ℕ) (x : InPoll) → (o ≡ Some r → ⊥) → in_poll_of r o x ≡ None
elsewhere r None x apart = refl
elsewhere r (Some u) x apart = ap (λ b. if b then Some x else None) (not_same u r (λ e. apart (ap (λ n. Some n) e)))

pub polls_other : (t r : ℕ) (x : InPoll) → t ≢ r → polls_in t x ≡ Some r → ⊥
polls_other = grind arith

-- nothing of the root is in the hand where another task is polled
idle_hand : (t r : ℕ) (x : InPoll) (hand : Option Runnable) → t ≢ r → root_in_hand (begins_at (Place.Poll t x)) r hand ≡ None
idle_hand = grind arith

-- nothing is in an empty hand
pub none_in : (r : Runnable) → Contains [] r → ⊥
none_in r (k, few, is) = omega (arith, few)

root_serves : (o : Option ℕ) (root : ℕ) (role : Role) → ((t : ℕ) → o ≡ Some t → t ≡ root) → Serves o root role
root_serves None root role polls = tt
root_serves (Some t) root role polls = λ other. absurd (other (polls t refl))

pub one_true : (b : Bool) → one_if b ≡ 1 → b ≡ true
one_true true h = refl
one_true false h = absurd (omega (arith, h))

module _ {B : Type 0} where
  -- WHAT HOLDS OF TASKS WHERE IT LEADS
  pub record Tasked (q : Place) (w : Worker) (f h : Option Runnable) (s : Shared B) (tasks : List (TaskSlot B)) : Type 0 where
    pub pooled : is_pooled_at q ≡ true → is_pool w.role ≡ true
    pub serves : Serves (polls_at q) w.root w.role
    pub homes : AreHome s.config.workers (length s.seats.items) tasks
    pub runnable : HasRunnable w.index w.root f None tasks
    pub hand : IsInHand None (hands_on_at q) h
    pub genuine : (r : Runnable) → Contains (option_to_list h) r → IsGenuine tasks r
    pub guest : HasGuest (polls_at q) (step_of_poll q) w.index w.root tasks
    pub resting : AreResting tasks
    pub stops : Stops (polls_at q) (step_of_poll q) w.index tasks s.requests.items s.sleepers.items
    pub going : (slot : TaskSlot B) → slice_get tasks w.root ≡ Some slot → is_complete slot.cell.phase ≡ false
    pub stands : (slot : TaskSlot B) → slice_get tasks w.root ≡ Some slot → Stands (polled_in w.root q) w.index slot

  pub sound_tasked : (t : ℕ) (x : InPoll) (q : Place) (w : Worker) (f h : Option Runnable) (s s' : Shared B) → SoundAt (Place.Poll t x) w s → IsAfter q → Tasked q w f h s s'.tasks.items
      → SoundAt q (record w { place = q; root_ready = f; hand = h }) (record s { tasks = s'.tasks })
  sound_tasked t x q w f h s s' sound to it =
      let tasks : List (TaskSlot B) = s'.tasks.items in
      let none : w.loot.values ≡ [] = sound.loot.none refl in
      let runnable : HasRunnable w.index w.root f (root_in_hand (begins_at q) w.root h) tasks = subst (λ o. HasRunnable w.index w.root f (root_in_hand o w.root h) tasks) (sym to.begins) it.runnable in
      let seated = subst (λ a. IsSeated w.index a s.config.workers s.seats.items) (sym to.unarmed) sound.seated in
      let queue : (chair : Chair) → slice_get s.seats.items w.index ≡ Some chair → HasQueue q chair.queue = λ chair there. to.queue chair.queue (sound.queue chair there) in
      let hand : IsInHand (begins_at q) (hands_on_at q) h = subst (λ o. IsInHand o (hands_on_at q) h) (sym to.begins) it.hand in
      let loot : IsLoot (has_loot_at q) w.loot = record { places = sound.loot.places; few = sound.loot.few; none = λ is. none } in
      let genuine : (r : Runnable) → Contains (option_to_list h) r → IsHeld (begins_at q) w.root tasks r = λ r has. inr (it.genuine r has) in
      let stolen : (r : Runnable) → Contains w.loot.values r → IsGenuine tasks r = λ r has. absurd (none_in r (subst (λ rs. Contains rs r) none has)) in
      let searching = to.searching w.searching sound.searching in
      let left = subst (λ o. IsLeft o w.home.deferred) (sym to.calls) tt in
      let batch = to.batch w.batch.values in
      let told = subst (λ n. IsTold w.names.ended.items w.home.deferred (tellers (driver_of w).requests w.home.timers + n)) (sym to.spare) sound.told in
      let letters : HasLetters (sends_cancel_at q) (cancels_at q) w.index s.config.workers w.letters s.requests.items s.sleepers.items =
      record { some = λ is. absurd (false≢true (sym to.sends_cancel ∙ is)); none = λ is. sound.letters.none refl; requests = sound.letters.requests; timer = sound.letters.timer } in
      let hears = subst (λ o. HearsNext o w.index s.requests.items s.sleepers.items) (sym to.heard) tt in
      let lets_go : LetsGoAt q (driver_of w).requests w.home.timers = subst (λ o. LetsGo o (is_bare_at q) (driver_of w).requests w.home.timers) (sym to.closing) (λ is. absurd (false≢true (sym to.bare ∙ is))) in
      let quiet : has_wakes_at q ≡ false → w.home.deferred.notes.wakes.items ≡ [] = λ is. sound.quiet refl in
      let due = subst (λ y. IsDue y w.home.closing w.index w.moments s.config w.names (driver_of w) w.home.timers s.requests.items s.sleepers.items) (sym to.served) sound.due in
      let flown = subst (λ y. HasFlown y w.index w.names (driver_of w) s.requests.items) (sym to.served) sound.flown in
      let phased : (chair : Chair) → slice_get s.seats.items w.index ≡ Some chair → IsPhased w.index (closes_at q) (closing_in q) w.home.closing w.root w.names.unreleased (stage_of chair s) tasks = λ chair there.
      subst (λ c. IsPhased w.index c (closing_in q) w.home.closing w.root w.names.unreleased (stage_of chair s) tasks) (sym to.open_still)
      (subst (λ y. IsPhased w.index false y w.home.closing w.root w.names.unreleased (stage_of chair s) tasks) (sym to.closing)
      (let old = sound.phased chair there in
      record { told = old.told; opened = old.opened; ended = old.ended; root = it.going; left = old.left; shut = old.shut; by_zero = old.by_zero; by_other = old.by_other; closed = old.closed; prepared = tt })) in
      let tied : IsTied (polled_in w.root q) w.index w.root tasks = record { stands = it.stands } in
      let aims = to.aims s.config w.index s.seats.items in
      let serves : Serves (task_at q) w.root w.role = subst (λ o. Serves (or_polls o (polls_at q)) w.root w.role) (sym to.begins) it.serves in
      assumption (serves, runnable, seated, queue, hand, loot, genuine, stolen, searching, aims, left, batch, told, letters, hears, lets_go, quiet, due, flown, phased, tied, it, sound)

  -- a slot became this, and is the same task's
  pub record Keeps (slot slot' : TaskSlot B) : Type 0 where
    pub home : slot'.home ≡ slot.home
    pub number : slot'.cell.number ≡ slot.cell.number
    pub owner : slot'.cell.owner ≡ slot.cell.owner

  runnable_kept : (slot slot' : TaskSlot B) → Keeps slot slot' → runnable_of slot'.cell ≡ runnable_of slot.cell
  runnable_kept slot slot' keeps = rw (keeps.number, keeps.owner) refl

  -- a slot was there, of the same task
  record Before (tasks : List (TaskSlot B)) (k : ℕ) (o : TaskSlot B) : Type 0 where
    was : TaskSlot B
    there : slice_get tasks k ≡ Some was
    home : o.home ≡ was.home
    number : o.cell.number ≡ was.cell.number

  before_set : (tasks : List (TaskSlot B)) (t : ℕ) (slot slot' : TaskSlot B) → slice_get tasks t ≡ Some slot → Keeps slot slot' → (k : ℕ) (o : TaskSlot B) → slice_get (slice_set tasks t slot') k ≡ Some o → Before tasks k o
  before_set tasks t slot slot' there keeps k o at_k =
      by_number k t
      (λ other. record { was = o; there = sym (set_elsewhere tasks t k slot' other) ∙ at_k; home = refl; number = refl })
      (λ same.
      let is : slot' ≡ o = same_Some slot' o (sym (set_there tasks t slot' slot there) ∙ subst (λ m. slice_get (slice_set tasks t slot') m ≡ Some o) same at_k) in
      subst (Before tasks k) is (record { was = slot; there = ap (slice_get tasks) same ∙ there; home = keeps.home; number = keeps.number }))

  pub homes_set : (n count : ℕ) (tasks : List (TaskSlot B)) (t : ℕ) (slot slot' : TaskSlot B) → slice_get tasks t ≡ Some slot → Keeps slot slot' → AreHome n count tasks → AreHome n count (slice_set tasks t slot')
  homes_set n count tasks t slot slot' there keeps homes =
      let before = before_set tasks t slot slot' there keeps in
      record {
        many = homes.many;
        roots = rw length-set homes.roots;
        few = rw length-set homes.few;
        home = λ k o at_k within. let it = before k o at_k in it.home ∙ homes.home k it.was it.there within;
        dedicated = λ k j o at_k past home. let it = before k o at_k in homes.dedicated k j it.was it.there past (sym it.home ∙ home);
        once = λ k u j o other at_k at_u home home_too.
            let it = before k o at_k in
            let too = before u other at_u in
            homes.once k u j it.was too.was it.there too.there (sym it.home ∙ home) (sym too.home ∙ home_too);
        number = λ k o at_k. let it = before k o at_k in it.number ∙ homes.number k it.was it.there;
      }

  pub genuine_set : (tasks : List (TaskSlot B)) (t : ℕ) (slot slot' : TaskSlot B) → slice_get tasks t ≡ Some slot → Keeps slot slot' → (r : Runnable) → IsGenuine tasks r → IsGenuine (slice_set tasks t slot') r
  genuine_set tasks t slot slot' there keeps r it =
      by_number r.task.0 t
      (λ other. record { slot = it.slot; there = set_elsewhere tasks t r.task.0 slot' other ∙ it.there; ordinary = it.ordinary; of_it = it.of_it })
      (λ same.
      let is : slot ≡ it.slot = same_Some slot it.slot (sym there ∙ subst (λ m. slice_get tasks m ≡ Some it.slot) same it.there) in
      record {
        slot = slot';
        there = subst (λ m. slice_get (slice_set tasks t slot') m ≡ Some slot') (sym same) (set_there tasks t slot' slot there);
        ordinary = keeps.home ∙ ap (λ (o : TaskSlot B). o.home) is ∙ it.ordinary;
        of_it = it.of_it ∙ ap (λ (o : TaskSlot B). runnable_of o.cell) (sym is) ∙ sym (runnable_kept slot slot' keeps);
      })

  pub resting_set : (tasks : List (TaskSlot B)) (t : ℕ) (slot slot' : TaskSlot B) → slice_get tasks t ≡ Some slot → (slot'.home ≡ None → is_polled slot'.cell.phase ≡ false → IsResting slot') → AreResting tasks → AreResting (slice_set tasks t slot')
  resting_set tasks t slot slot' there rests old k o at_k home unpolled =
      by_number k t
      (λ other. old k o (sym (set_elsewhere tasks t k slot' other) ∙ at_k) home unpolled)
      (λ same.
      let is : slot' ≡ o = same_Some slot' o (sym (set_there tasks t slot' slot there) ∙ subst (λ m. slice_get (slice_set tasks t slot') m ≡ Some o) same at_k) in
      subst IsResting is (rests (ap (λ (y : TaskSlot B). y.home) is ∙ home) (ap (λ (y : TaskSlot B). is_polled y.cell.phase) is ∙ unpolled)))

  -- THE ROOT'S SLOT became another, the worker is there, with this flag and an empty hand
  pub record Sits (q : Place) (w : Worker) (f : Option Runnable) (s : Shared B) (slot slot' : TaskSlot B) : Type 0 where
    pub there : slice_get s.tasks.items w.root ≡ Some slot
    pub keeps : Keeps slot slot'
    pub stands : Stands (polled_in w.root q) w.index slot'
    pub once : IsRunnable f slot'
    pub hand : hands_on_at q ≡ false
    pub polls : (t : ℕ) → polls_at q ≡ Some t → t ≡ w.root
    pub unpooled : is_pooled_at q ≡ false
    pub complete : is_complete slot'.cell.phase ≡ is_complete slot.cell.phase
    pub stops : StopsIn (step_of_poll q) w.index slot'.waiting s.requests.items s.sleepers.items

  in_none : (f : Option Runnable) (slot : TaskSlot B) → IsRunnable f slot → IsRunnable (one_of f None) slot
  in_none None slot h = h
  in_none (Some r) slot h = h

  no_guest : (o : Option ℕ) (x : InPoll) (i root : ℕ) (tasks : List (TaskSlot B)) → ((t : ℕ) → o ≡ Some t → t ≡ root) → HasGuest o x i root tasks
  no_guest None x i root tasks polls = tt
  no_guest (Some t) x i root tasks polls = λ apart. absurd (apart (polls t refl))

  -- the slot of the task that it polls, where that is this one
  pub stops_own : (o : Option ℕ) (x : InPoll) (i t : ℕ) (tasks : List (TaskSlot B)) (slot : TaskSlot B) (rs : List Record) (ss : List SleeperRecord) → ((u : ℕ) → o ≡ Some u → u ≡ t) → slice_get tasks t ≡ Some slot → StopsIn x i slot.waiting rs ss → Stops o x i tasks rs ss
  stops_own = grind arith

  pub root_tasked : (t : ℕ) (x : InPoll) (q : Place) (w : Worker) (f : Option Runnable) (s : Shared B) (slot slot' : TaskSlot B) → SoundAt (Place.Poll t x) w s → Sits q w f s slot slot' → Tasked q w f None s (slice_set s.tasks.items w.root slot')
  root_tasked t x q w f s slot slot' sound sits =
      let tasks : List (TaskSlot B) = s.tasks.items in
      let found = set_there tasks w.root slot' slot sits.there in
      let same : slot ≡ sound.runnable.root = same_Some slot sound.runnable.root (sym sits.there ∙ sound.runnable.there) in
      let is : (o : TaskSlot B) → slice_get (slice_set tasks w.root slot') w.root ≡ Some o → slot' ≡ o = λ o at_root. same_Some slot' o (sym found ∙ at_root) in
      record {
        pooled = λ is. absurd (false≢true (sym sits.unpooled ∙ is));
        serves = root_serves (polls_at q) w.root w.role sits.polls;
        homes = homes_set s.config.workers (length s.seats.items) tasks w.root slot slot' sits.there sits.keeps sound.homes;
        runnable = record { root = slot'; there = found; home = sits.keeps.home ∙ ap (λ (o : TaskSlot B). o.home) same ∙ sound.runnable.home; number = sits.keeps.number ∙ ap (λ (o : TaskSlot B). o.cell.number) same ∙ sound.runnable.number; once = in_none f slot' sits.once; one = λ some. refl };
        hand = subst (λ b. IsInHand None b None) (sym sits.hand) refl;
        genuine = λ r has. absurd (none_in r has);
        guest = no_guest (polls_at q) (step_of_poll q) w.index w.root (slice_set tasks w.root slot') sits.polls;
        resting = resting_set tasks w.root slot slot' sits.there (λ home unpolled.
            absurd (cc)) sound.resting;
        stops = stops_own (polls_at q) (step_of_poll q) w.index w.root (slice_set tasks w.root slot') slot' s.requests.items s.sleepers.items sits.polls found sits.stops;
        going = λ o at_root. subst (λ (y : TaskSlot B). is_complete y.cell.phase ≡ false) (is o at_root) (sits.complete ∙ (sound.phased sound.seated.seat sound.seated.there).root slot sits.there);
        stands = λ o at_root. subst (Stands (polled_in w.root q) w.index) (is o at_root) sits.stands;
      }

  -- who polls another task than its root is of the pool
  pub guest_pool : (t : ℕ) (x : InPoll) (w : Worker) (s : Shared B) → SoundAt (Place.Poll t x) w s → t ≢ w.root → is_pool w.role ≡ true
  guest_pool = grind arith

  -- THE SLOT OF AN ORDINARY TASK became another, the worker is there, with this hand
  pub record Visits (q : Place) (t : ℕ) (w : Worker) (h : Option Runnable) (s : Shared B) (slot slot' : TaskSlot B) : Type 0 where
    pub apart : t ≢ w.root
    pub there : slice_get s.tasks.items t ≡ Some slot
    pub keeps : Keeps slot slot'
    pub hand : IsInHand None (hands_on_at q) h
    pub genuine : (r : Runnable) → Contains (option_to_list h) r → IsGenuine (slice_set s.tasks.items t slot') r
    pub polls : (u : ℕ) → polls_at q ≡ Some u → u ≢ w.root
    pub guest : HasGuest (polls_at q) (step_of_poll q) w.index w.root (slice_set s.tasks.items t slot')
    pub stops : Stops (polls_at q) (step_of_poll q) w.index (slice_set s.tasks.items t slot') s.requests.items s.sleepers.items
    pub rests : is_polled slot'.cell.phase ≡ false → IsResting slot'

  pub guest_tasked : (t : ℕ) (x : InPoll) (q : Place) (w : Worker) (h : Option Runnable) (s : Shared B) (slot slot' : TaskSlot B) → SoundAt (Place.Poll t x) w s → Visits q t w h s slot slot' → Tasked q w w.root_ready h s (slice_set s.tasks.items t slot')
  guest_tasked t x q w h s slot slot' sound it =
      let tasks : List (TaskSlot B) = s.tasks.items in
      let root : slice_get (slice_set tasks t slot') w.root ≡ slice_get tasks w.root = set_elsewhere tasks t w.root slot' (λ e. it.apart (sym e)) in
      let after : polled_in w.root q ≡ None = elsewhere w.root (polls_at q) (step_of_poll q) (λ is. it.polls w.root is refl) in
      let pool : is_pool w.role ≡ true = guest_pool t x w s sound it.apart in
      let run = subst (λ o. HasRunnable w.index w.root w.root_ready o tasks) (idle_hand t w.root x w.hand it.apart) sound.runnable in
      let pooled : is_pooled_at q ≡ true → is_pool w.role ≡ true = λ is. pool in
      let homes = homes_set s.config.workers (length s.seats.items) tasks t slot slot' it.there it.keeps sound.homes in
      let runnable : HasRunnable w.index w.root w.root_ready None (slice_set s.tasks.items t slot') = record { root = run.root; there = root ∙ run.there; home = run.home; number = run.number; once = run.once; one = run.one } in
      let resting = resting_set tasks t slot slot' it.there (λ home. it.rests) sound.resting in
      let going : (slot : TaskSlot B) → slice_get (slice_set s.tasks.items t slot') w.root ≡ Some slot → is_complete slot.cell.phase ≡ false = λ o at_root. (sound.phased sound.seated.seat sound.seated.there).root o (sym root ∙ at_root) in
      let stands : (slot : TaskSlot B) → slice_get (slice_set s.tasks.items t slot') w.root ≡ Some slot → Stands (polled_in w.root q) w.index slot =
      λ o at_root. subst (λ y. Stands y w.index o) (elsewhere w.root (polls_in t x) x (polls_other t w.root x it.apart) ∙ sym after) (sound.tied.stands o (sym root ∙ at_root)) in
      assumption (pooled, all_serve (polls_at q) w.root w.role pool, homes, runnable, resting, going, stands, it)
