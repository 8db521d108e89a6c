-- Where a pop of the own run queue leads, and what is so there.
use Rattle.exec_invariants.{specs.{Places.has_loot_at, Sound.{has_wakes_at, HasRunnable, IsHeld, IsLoot, root_in_hand, SoundAt}, Names.tellers, Whole.IsGenuine}, proofs.{Words.{[], ◌≡◌, ◌≢◌, ℕ, zero, suc, ◌+◌, ◌-◌, ◌*◌, ◌<◌, ◌==◌, inl, inr, Bool, true, false, Contains, List, ◌∷◌, length, None, Some, refl, ap, subst, ◌∙◌, arith, option_to_list, if◌then◌else◌, nat_tests, false≢true, length-map, Contains-push_cases, Queue, head_of, popped, tail_of, IsFor, Set, Drain, Runnable, Configuration, Turn, AfterLeave, AfterPop, InPop, InClosing, InPoll, Place, after_empty_pop, after_pop, drain_by, judge_pop, load_pop_head, pops, power_from, shard_count, Desk, does, turns, is_pool, driver_of, queue_seen, Shared, Worker, HasPassed, IsPhased, Stage, is_discard, IsTold, leave_of, by_number, not_same}, Dedicated.chair_of_pool, Queueing.{Around, Reaches, still_of}}}
pub use Rattle.std.proofs.lemmas.Bool.{and_parts}

-- WHAT A POP IS TO THE QUEUE THAT IS SEEN

pub pops_some : (c : Configuration) (i : ℕ) (b : AfterPop) (d : Desk) (q : Queue Runnable) (r : Runnable) (rs : List Runnable) → q.values ≡ r ∷ rs → pops c i b d (queue_seen q) ≡ does Turn (after_pop c b r.task.0 d) (queue_seen (popped q))
pops_some c i b d q r rs is = rw is refl

pub pops_none : (c : Configuration) (i : ℕ) (b : AfterPop) (d : Desk) (q : Queue Runnable) → q.values ≡ [] → pops c i b d (queue_seen q) ≡ turns (after_empty_pop c i b) d (queue_seen q)
pops_none c i b d q is = rw is refl

pub loads_seen : (c : Configuration) (i : ℕ) (b : AfterPop) (d : Desk) (q : Queue Runnable) → load_pop_head c i b d (queue_seen q) ≡ turns (judge_pop c i b (head_of q) (tail_of q - q.real)) d (queue_seen q)
loads_seen c i b d q = ap (λ n. turns (judge_pop c i b (head_of q) ((q.real + n) - q.real)) d (queue_seen q)) (length-map q.values (λ (r : Runnable). r.task.0))

lone : (r x : Runnable) → Contains (r ∷ []) x → r ≡ x
lone r x has = elim (Contains-push_cases [] r x has) [ inl none ↦ absurd (omega (arith, none.1)) | inr is ↦ is ]

-- beside a claim the gap grows, and it never goes from 0 or to it
pub gap_popped : (gap : ℕ) → ((if gap == 0 then 0 else gap + 1) == 0) ≡ (gap == 0)
gap_popped = grind arith

-- so many behind a count
pub behind : (a b : ℕ) → (a + b) - a ≡ b
behind a b = omega arith

pub more_than : (a b : ℕ) → 0 < b → a < a + b
more_than a b some = omega (arith, some)

pub not_none : (n : ℕ) → (n == 0) ≡ false → 0 < n
not_none n is = grind (arith, nat_tests)

four_times : (n : ℕ) → 0 < n → 0 < n * 4
four_times n some = omega (arith, some)

-- there are some shards
some_power : (more power n : ℕ) → 0 < power → 0 < power_from more power n
some_power zero power n some = some
some_power (suc more) power n some = grind (arith, some_power more (power * 2) n (omega (arith, some)))

pub some_shards : (c : Configuration) → 0 < shard_count c
some_shards c = four_times (power_from 6 1 c.workers) (some_power 6 1 c.workers (omega arith))

drain_fits : (i count : ℕ) (set : Set (Unit {0})) → 0 < count → length set.shards ≡ count → IsFor (drain_by i count) set × (0 < (drain_by i count).left) × HasPassed (drain_by i count) set
drain_fits = grind arith

module _ {B : Type 0} where
  -- an ordinary task isn't the root
  pub not_root : (q : Place) (w : Worker) (s : Shared B) (r : Runnable) → SoundAt q w s → IsGenuine s.tasks.items r → r.task.0 ≡ w.root → ⊥
  not_root = grind arith

  -- THE POLL OF WHAT CAME: its runnable is in the hand
  pub begins_poll : (q : Place) (r : Runnable) (w v : Worker) (s t : Shared B) → SoundAt q w s → still_of (Place.Poll r.task.0 InPoll.BeginPoll) ≡ still_of q → has_wakes_at q ≡ false → has_loot_at q ≡ false
      → v.hand ≡ Some r → v.loot ≡ w.loot → v.searching ≡ w.searching → HasRunnable w.index w.root v.root_ready (root_in_hand (Some r.task.0) w.root (Some r)) s.tasks.items → IsHeld (Some r.task.0) w.root s.tasks.items r → (r.task.0 ≢ w.root → is_pool w.role ≡ true) → IsTold w.names.ended.items w.home.deferred (tellers (driver_of w).requests w.home.timers + 64)
      → Around (Place.Poll r.task.0 InPoll.BeginPoll) w s t → Reaches q (leave_of (AfterLeave.Poll r.task.0) w) w v s t
  begins_poll q r w v s t sound same wakes empty hand loot searching runnable held serves told around = by w.searching refl
    where
      it_is : (x : Runnable) → Contains (option_to_list v.hand) x → IsHeld (Some r.task.0) w.root s.tasks.items x
      it_is x has = subst (IsHeld (Some r.task.0) w.root s.tasks.items) (lone r x (subst (λ o. Contains (option_to_list o) x) hand has)) held

      by : (b : Bool) → w.searching ≡ b → Reaches q (if b then Place.LeaveSearch (AfterLeave.Poll r.task.0) else Place.Poll r.task.0 InPoll.BeginPoll) w v s t
      by true is =
          record {
            same = same;
            quiet = λ h. sound.quiet wakes;
            around = record { seated = around.seated; queue = around.queue; aims = tt; batch = around.batch; batch_place = around.batch_place; lets_go = around.lets_go; phased = around.phased };
            carries = record { runnable = rw hand runnable; hand = (r, hand, refl); loot = rw (loot) (subst (λ b. IsLoot b w.loot) empty sound.loot); genuine = it_is; stolen = rw loot sound.stolen; searching = searching ∙ is; pooled = λ no. absurd (false≢true no); serves = serves; calm = λ apart. searching ∙ sound.calm apart; left = tt; told = told };
          }
      by false is =
          record {
            same = same;
            quiet = λ h. sound.quiet wakes;
            around = around;
            carries = record { runnable = rw hand runnable; hand = (r, hand, refl); loot = rw (loot) (subst (λ b. IsLoot b w.loot) empty sound.loot); genuine = it_is; stolen = rw loot sound.stolen; searching = searching ∙ is; pooled = λ no. absurd (false≢true no); serves = serves; calm = λ apart. searching ∙ sound.calm apart; left = tt; told = told };
          }

  -- one that is to be polled isn't in the place of the root's
  pub no_root : (q : Place) (w : Worker) (s : Shared B) (r : Runnable) → SoundAt q w s → IsGenuine s.tasks.items r → HasRunnable w.index w.root w.root_ready None s.tasks.items → HasRunnable w.index w.root w.root_ready (root_in_hand (Some r.task.0) w.root (Some r)) s.tasks.items
  no_root q w s r sound genuine none = rw (not_same r.task.0 w.root (not_root q w s r sound genuine)) none

  -- who closes drains a set that is closed
  pub set_closed : (x : InPop) (b : AfterPop) (w : Worker) (s : Shared B) → SoundAt (Place.Pop x b) w s → is_discard b ≡ true → s.set.closed ≡ true
  set_closed x (AfterPop.Pick f) w s sound is = absurd (false≢true is)
  set_closed x AfterPop.Discard w s sound is =
      let phase = sound.phased sound.seated.seat sound.seated.there in
      let stopped : s.stopped ≡ true = by_number w.index 0 (λ other. phase.by_other (omega (arith, other)) (chair_of_pool (Place.Pop x AfterPop.Discard) w s sound sound.seated.seat sound.seated.there ∙ sound.pooled refl) refl) (λ same. (phase.by_zero same).0) in
      phase.closed stopped

  -- it is a closing's, of whatever is emptied: the drain of all shards comes next
  pub drains : (w : Worker) (s : Shared B) → length s.set.shards ≡ shard_count s.config → IsFor (drain_by w.index (shard_count s.config)) s.set × (0 < (drain_by w.index (shard_count s.config)).left) × HasPassed (drain_by w.index (shard_count s.config)) s.set
  drains w s shards = drain_fits w.index (shard_count s.config) s.set (some_shards s.config) shards

  -- where the closing goes on to the drain
  pub phased_drain : (stage : Stage) (d : Drain) (w : Worker) (s : Shared B) → IsFor d stage.set × (0 < d.left) × HasPassed d stage.set → IsPhased w.index true (Some (InClosing.TellRoot 0)) w.home.closing w.root w.names.unreleased stage s.tasks.items → IsPhased w.index true (Some (InClosing.Visit d)) w.home.closing w.root w.names.unreleased stage s.tasks.items
  phased_drain = grind arith
