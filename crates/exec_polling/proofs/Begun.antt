-- A WORKER THAT BEGINS: all that it rests on holds, and it shows what the machine and the moves begin with.
use Rattle.std.{proofs.{Common.{◌≡◌, ◌≢◌, ℕ, ◌+◌, ◌*◌, ◌-◌, ◌/◌, ◌^◌, ◌<◌, ◌≤◌, ◌==◌, ◌&&◌, nat_lt, Bool, true, false, not, List, [], ◌∷◌, Contains, length, Option, Some, None, refl, sym, ap, subst, ◌∙◌, arith, slice_get}, lemmas.Bool.{false≢true, and_parts, Decides.nat_tests}, Math.{Nat.zero-div, Bool.and-false}}, specs.Prelude.{IsSome, IsSomeAnd}}
use Rattle.exec_base.specs.{Slab.{Slab, IsPast, value_at}, declared.slab.Id.Id}
use Rattle.exec_task.specs.{Phases.runnable_of, declared.runnable.Runnable.Runnable}
use Rattle.exec_driver.specs.{Driving.Driving, Steps.IsFresh}
use Rattle.exec_lists.specs.Lists.{no_lists}
use Rattle.exec_ring.specs.Rings.{fresh as fresh_ring}
use Rattle.exec_time.specs.{Wheel.fresh, declared.timers.Sleeper.Sleeper as Sleeping}
use Rattle.exec_waiters.specs.{States.waiter_at, Told.is_untold, declared.{deferred.Deferred.Deferred, waiter.Waiter.Waiter}}
use Rattle.exec_machine.specs.{declared.{config.Configuration.Configuration, state.Sleeper.Sleeper}, Tasks.new_own, Tests.{is_asleep, is_open, is_resolved, has_ended}, Ranges.{ring_size, horizon, wheel_slots}}
use Rattle.exec_moves.specs.{Plays.first_desk, Pop.shard_count, State.no_wake_poll}
use Rattle.exec_parts.{specs.{declared.parts.{mail.Reply.Reply, record.Record.Record, role.Role.Role, seat.Seat.Seat as Chair, shared.Shared.Shared, sleeping.SleeperRecord.SleeperRecord, task_slot.TaskSlot.TaskSlot, worker.Worker.Worker}, Dedicated.{Begins, MayBegin, begun_worker, root_slot}, MailPosts.IsMailbox, Phased.is_complete, Records.{HasNoNames, IsFreshSeat}, View.{Visible, desk_of, driver_of, own_of, visible}}, proofs.{Facts.{same_number, same_Some}, LeafPowers.slots_of_wheel}}
use Rattle.exec_invariants.{specs.{Carried.HasRoom, Gates.AreLinedUp, Sound.{AreHome, AreResting, IsConfig, IsRole, Sound, Stands as IsSitting}, Names.IsNamed}, proofs.Orders.begins_ordered}

-- NOTHING IS THERE

pub none_there : {A : Type 0} (xs : List A) (k : ℕ) (x : A) → xs ≡ [] → slice_get xs k ≡ Some x → ⊥
none_there [] k x none there = absurd (cc)
none_there (y ∷ ys) k x none there = absurd (cc)

pub none_has : {A : Type 0} (xs : List A) (x : A) → xs ≡ [] → Contains xs x → ⊥
none_has [] x none has = absurd (omega (arith, has.1))
none_has (y ∷ ys) x none has = absurd (cc)

none_live : {A : Type 0} (zs : Slab A) (id : Id) → zs.slots ≡ [] → value_at zs id ≡ None
none_live zs id none = rw none refl

none_some : {A : Type 0} (o : Option A) → o ≡ None → IsSome o → ⊥
none_some None is h = false≢true h
none_some (Some x) is h = absurd (cc)

pub not_both : {A : Type 0} (o : Option A) (x : A) → o ≡ None → o ≡ Some x → ⊥
not_both None x none some = absurd (cc)
not_both (Some y) x none some = absurd (cc)

by_length : {A : Type 0} (xs : List A) → (length xs == 0) ≡ true → xs ≡ []
by_length [] h = refl
by_length (x ∷ xs) h = absurd (grind (arith, nat_tests))

by_some : (o : Option ℕ) (P : ℕ → Type 0) (k : ℕ) → o ≡ Some k → IsSomeAnd o P → P k
by_some = grind arith

no_time : (n : ℕ) → n - n ≡ 0
no_time n = omega arith

-- who sleeps there is one of the worker
sleeps_here : (i : ℕ) (z : Sleeper) → is_asleep i z ≡ true → z.worker ≡ i
sleeps_here i z h = same_number z.worker i (and_parts (z.worker == i) (not z.fired) (and_parts ((z.worker == i) && not z.fired) (not z.removed) h).0).0

-- a driver that begins at this moment
pub record IsEmpty (c : Configuration) (now : ℕ) (d : Driving Reply Reply) : Type 0 where
  pub slots : d.requests.slots ≡ []
  pub vacant : d.requests.vacant ≡ []
  pub first : d.requests.first ≡ 0
  pub wheel : d.wheel ≡ fresh (horizon c) c.tick now (wheel_slots c)
  pub ring : d.ring ≡ record (fresh_ring (ring_size c)) { places = 1 }
  pub lists : d.lists ≡ no_lists
  pub armed : d.armed ≡ false

pub driver_empty : (c : Configuration) (now : ℕ) (d : Driving Reply Reply) → MayBegin c → IsFresh d (ring_size c) (horizon c) c.tick now → IsEmpty c now d
driver_empty = grind (arith, by_some, slots_of_wheel)

-- what is left to be told: nothing
pub record IsQuiet (left : Deferred Reply Reply) : Type 0 where
  pub wakes : left.notes.wakes.items ≡ []
  pub completions : left.notes.completions.items ≡ []
  pub outputs : left.outputs.items ≡ []
  pub resources : left.resources.items ≡ []
  pub results : left.results.items ≡ []

pub left_quiet : (left : Deferred Reply Reply) → is_untold left ≡ true → IsQuiet left
left_quiet = grind (arith, and_parts, by_length)

-- a mailbox without mail
pub fresh_mailbox : (pool : Bool) (chair : Chair) → IsFreshSeat pool chair → IsMailbox chair.mailbox
fresh_mailbox = grind arith

-- WHAT IS SHOWN

abbrev pub fresh_visible : Visible
fresh_visible = record { busy = false; landed = []; wakes = no_wake_poll; taken = [] }

module _ (c : Configuration) (role : Role) (i root : ℕ) (r : Runnable) (now : ℕ) (w : Worker) (begins : Begins c role i root r now w) (range : MayBegin c) where
  its_driver : IsEmpty c now (driver_of w)
  its_driver = driver_empty c now (driver_of w) range begins.driver

  its_left : IsQuiet w.home.deferred
  its_left = left_quiet w.home.deferred begins.untold

  pub visible_begun : visible w ≡ fresh_visible
  visible_begun = ap visible begins.parts ∙ rw its_driver.ring refl

  pub own_begun : own_of w ≡ new_own now root
  own_begun = grind arith

  pub desk_begun : desk_of w ≡ first_desk c i
  desk_begun = grind (arith, its_driver, its_left)

-- WHAT HOLDS

module _ {B : Type 0} where
  -- what all share has a place for it: a seat, and a root that is to be polled; and it has made nothing yet
  pub record HasSeat (role : Role) (i root : ℕ) (r : Runnable) (s : Shared B) : Type 0 where
    pub config : IsConfig s.config
    pub gates : AreLinedUp s.opens s.requests.items
    pub of_role : IsRole role i s.config.workers
    pub homes : AreHome s.config.workers (length s.seats.items) s.tasks.items
    pub shards : length s.set.shards ≡ shard_count s.config
    pub bounded : s.clock ≤ 2 ^ 62
    pub chair : Chair
    pub seated : slice_get s.seats.items i ≡ Some chair
    pub fresh : IsFreshSeat (nat_lt i s.config.workers) chair
    pub body : B
    pub owner : ℕ
    pub slot : TaskSlot B
    pub there : slice_get s.tasks.items root ≡ Some slot
    pub is : slot ≡ root_slot (record { 0 = root }) owner i body slot
    pub runnable : r ≡ runnable_of slot.cell
    pub nothing : (k : ℕ) (x : Record) → slice_get s.requests.items k ≡ Some x → x.shown.worker ≢ i
    pub nobody : (k : ℕ) (z : SleeperRecord) → slice_get s.sleepers.items k ≡ Some z → z.shown.worker ≢ i
    pub few : length s.requests.items ≤ 2 ^ 32
    pub resting : AreResting s.tasks.items
    pub owning : (k : ℕ) (x : Record) → slice_get s.requests.items k ≡ Some x → is_resolved x.shown.phase ≡ false → x.shown.released ≡ false
    pub room : HasRoom s.requests.items s.store
    pub at_zero : i ≡ 0 → (s.stopped ≡ false) × (s.set.closed ≡ false)
    pub closed : s.stopped ≡ true → s.set.closed ≡ true

  module _ (role : Role) (i root : ℕ) (r : Runnable) (s : Shared B) (w : Worker) (begins : Begins s.config role i root r s.clock w) (has : HasSeat role i root r s) where
    d : IsEmpty s.config s.clock (driver_of w)
    d = driver_empty s.config s.clock (driver_of w) has.config.begins begins.driver

    n : HasNoNames (ring_size s.config) w.names
    n = begins.names

    left : IsQuiet w.home.deferred
    left = left_quiet w.home.deferred begins.untold

    asleep : w.home.timers.slots ≡ []
    asleep = begins.asleep.0

    not_live : (P : Type 0) (id : Id) (it : Waiter Reply Reply) → waiter_at (driver_of w).requests id ≡ Some it → P
    not_live P id it live = absurd (not_both (waiter_at (driver_of w).requests id) it (rw d.slots refl) live)

    not_asleep : (P : Type 0) (id : Id) (it : Sleeping Reply) → value_at w.home.timers id ≡ Some it → P
    not_asleep P id it live = absurd (not_both (value_at w.home.timers id) it (none_live w.home.timers id asleep) live)

    not_past : (id : Id) → IsPast (driver_of w).requests id → ⊥
    not_past id past =
        let none : id.generation < 0 = subst (λ k. id.generation < k) d.first (rw d.slots at past) in
        omega (arith, none)

    none_slept : (id : Id) → IsPast w.home.timers id → ⊥
    none_slept id past =
        let none : id.generation < 0 = subst (λ k. id.generation < k) begins.asleep.2 (rw asleep at past) in
        omega (arith, none)

    named : IsNamed i w.names (driver_of w) w.home.timers s.requests.items s.sleepers.items
    named =
        record {
          requests = λ id h. absurd (none_some (value_at (driver_of w).requests id) (none_live (driver_of w).requests id d.slots) h);
          timers = λ id h. absurd (none_some (value_at w.home.timers id) (none_live w.home.timers id asleep) h);
          alike = λ id it x live there. not_live _ id it live;
          over = λ k x there mine gone. absurd (has.nothing k x there mine);
          submitted = record {
            tagged = rw d.ring tt;
            cancels = rw (d.ring, n.untold) refl;
            known = rw n.staged tt;
            own = λ k x listed there. absurd (false≢true (rw n.staged at listed));
            all = λ k x there mine staged. absurd (has.nothing k x there mine);
          };
          slots = rw (d.slots, n.requests) (omega arith);
          beds = rw (asleep, n.timers) (omega arith);
        }

    at_root : (P : TaskSlot B → Type 0) → P (root_slot (record { 0 = root }) has.owner i has.body has.slot) → (x : TaskSlot B) → slice_get s.tasks.items root ≡ Some x → P x
    at_root P holds x found = subst P (sym has.is ∙ same_Some has.slot x (sym has.there ∙ found)) holds

    in_chair : (P : Chair → Type 0) → P has.chair → (x : Chair) → slice_get s.seats.items i ≡ Some x → P x
    in_chair P holds x found = subst P (same_Some has.chair x (sym has.seated ∙ found)) holds

    at_first : Sound (begun_worker s.config role i root r s.clock w) s
    at_first =
        record {
          here = refl;
          config = has.config;
          gates = has.gates;
          known = record { past = λ k x found own. absurd (has.nothing k x found own); counted = λ id past. absurd (not_past id past); few = has.few; hints = λ id it x live found asks unrefused gone. not_live _ id it live };
          workers = refl;
          role = has.of_role;
          pooled = λ h. absurd (false≢true h);
          serves = tt;
          calm = λ h. refl;
          homes = has.homes;
          shards = has.shards;
          time = record { begun = omega arith; ordered = omega arith; not_after = omega arith; read = omega arith; asleep = tt; bounded = has.bounded };
          told = record { resources = ap length n.ended ∙ sym (ap length left.resources); room = rw (d.slots, asleep) begins.room };
          wide = record {
            wakes = (let room = begins.room.notes.wakes in rw (d.slots, asleep) (omega (arith, room)));
            completions = (let room = begins.room.notes.completions in rw (d.slots, asleep) (omega (arith, room)));
            outputs = (let room = begins.room.outputs in rw (d.slots, asleep) (omega (arith, room)));
            resources = (let room = begins.room.resources in rw (d.slots, asleep) (omega (arith, room)));
            results = (let room = begins.room.results in rw (d.slots, asleep) (omega (arith, room)));
          };
          named = named;
          runnable = record {
            root = has.slot;
            there = has.there;
            home = ap (λ (x : TaskSlot B). x.home) has.is;
            number = ap (λ (x : TaskSlot B). x.cell.number) has.is;
            once = (has.runnable, (has.body, ap (λ (x : TaskSlot B). x.cell.phase) has.is));
            one = λ h. refl;
          };
          seated = record {
            many = has.homes.many;
            seat = has.chair;
            there = has.seated;
            pool = has.fresh.pool_is;
            unarmed = λ h. ap (λ x. x.target) has.fresh.waker;
            mail = fresh_mailbox (nat_lt i s.config.workers) has.chair has.fresh;
          };
          queue = in_chair (λ x. x.queue.held ≡ []) (ap (λ q. q.held) has.fresh.queue);
          sized = ap (λ x. x.size) d.ring;
          processed = omega arith;
          hand = refl;
          loot = record { places = omega arith; few = omega arith; none = λ h. refl };
          genuine = λ x h. absurd (none_has [] x refl h);
          stolen = λ x h. absurd (none_has [] x refl h);
          searching = tt;
          aims = tt;
          guest = tt;
          resting = has.resting;
          left = tt;
          over = grind (arith, none_there, w.names.ended.items, n.ended, n.unreleased, d.slots);
          batch = λ h. refl;
          mine = λ m h. absurd (none_has [] m refl h);
          batch_place = in_chair (λ x. x.mailbox.inbox.closed ≡ false → 2 * x.made + 1 ≤ 1) (λ h. (let made = has.fresh.made in omega (arith, made)));
          letters = grind (arith, false, true, begins.letters.0, begins.letters.1, none_has, w.letters.requests.items, not_both, w.letters.timer);
          quiet = λ h. left.wakes;
          due = record {
            punctual = begins.punctual;
            told = λ h. ap (λ x. x.due) d.lists;
            wheel = record {
              start = ap (λ x. x.start) d.wheel;
              tick = ap (λ x. x.tick) d.wheel;
              horizon = ap (λ x. x.horizon) d.wheel;
              slots = ap (λ x. x.slots) d.wheel;
              current = ap (λ x. x.current) d.wheel ∙ sym (ap (λ k. k / s.config.tick) (no_time s.clock) ∙ zero-div s.config.tick);
            };
            timed = λ k x found own. absurd (has.nothing k x found own);
            asleep = record {
              alike = λ id z x value found. not_asleep _ id z value;
              there = λ k x found h unclosed. absurd (has.nobody k x found (sleeps_here i x.shown h));
              named = λ k x found h unclosed. absurd (has.nobody k x found (sleeps_here i x.shown h));
              lets_go = λ k x found own closed. absurd (has.nobody k x found own);
              counted = λ id past. absurd (none_slept id past);
              names = record { past = λ k x found own. absurd (has.nobody k x found own); unique = λ j k x y at_j at_k own also same. absurd (has.nobody j x at_j own) };
            };
            order = begins_ordered (horizon s.config) s.config.tick s.clock (wheel_slots s.config) d.slots d.wheel (ap (λ l. l.enrolments) d.lists) (ap (λ l. l.due) d.lists);
          };
          flown = record {
            ending = rw n.unreleased (omega arith);
            staging = rw d.ring n.staged_room;
            telling = rw d.ring n.untold_room;
            entries = rw (n.staged, n.untold) (omega arith);
            gated = λ id it live needs. not_live _ id.0 it live;
            plain = λ k x found own. absurd (has.nothing k x found own);
            landed = rw d.ring tt;
            enrolling = λ id it live takes told. not_live _ id.0 it live;
            polled = rw (d.ring, d.armed) refl;
            owning = has.owning;
            uncancelled = λ id x among found own. absurd (has.nothing _ x found own);
          };
          carried = grind (arith, not_live, d.ring, has.room);
          rooted = record {
            kept = λ id told x at found. absurd (not_both (value_at (driver_of w).requests id) _ (none_live (driver_of w).requests id d.slots) at);
            ready = λ k x found own over held unapplied. absurd (has.nothing k x found own);
            replies = λ id it reply x live is found. not_live _ id it live;
            watches = λ id it z at found. not_asleep _ id it at;
            pays = λ k x found own. absurd (has.nothing k x found own);
            sleeper_pays = λ k z found own. absurd (has.nobody k z found own);
            results = λ a h. absurd (none_has w.home.deferred.results.items a left.results h);
            completions = λ a h. absurd (none_has w.home.deferred.notes.completions.items a left.completions h);
            sent = λ k x found own. absurd (has.nothing k x found own);
            sleeper_sent = λ k z found own. absurd (has.nobody k z found own);
          };
          stops = tt;
          hears = tt;
          lets_go = λ h. rw asleep refl;
          phased = in_chair (λ x. _) (record {
            told = begins.opened;
            opened = ap is_open has.fresh.phase;
            ended = λ h. absurd (false≢true (sym (ap has_ended has.fresh.phase) ∙ h));
            root = at_root (λ y. is_complete y.cell.phase ≡ false) refl;
            left = has.fresh.left ∙ sym (and-false has.chair.pool);
            shut = ap (λ y. y.closed) has.fresh.inbox;
            by_zero = has.at_zero;
            by_other = λ h pool over. absurd (false≢true over);
            closed = has.closed;
            prepared = tt;
          });
          tied = record {
            stands = at_root (λ y. IsSitting None i y)
                (record { polled = refl; body = λ h. absurd (false≢true h); poller = λ h. absurd (false≢true h); kept = refl; uncleared = refl; told = λ h. refl; untold = λ h. absurd (false≢true (sym h)); waits = tt });
          };
        }

    pub begun_sound : Sound w s
    begun_sound = subst (λ v. Sound v s) (sym begins.parts) at_first
