-- A TASK IS ABOUT TO BE OVER: what it holds is there, and may be let go of.
use Rattle.exec_invariants.{specs.{Holding.{Box, IsHeldBy, IsHolding, MayHave, Thing, box_of, holder_of, holdings, nap_of, thing_of, under_way}, Gates.AreLinedUp, Sound.served_in, Whole.{IsWhole, Profile, hands_of, with_worker}}, proofs.{Words.{◌≡◌, ℕ, zero, suc, ◌<◌, ◌≤◌, ◌==◌, Bool, true, cond, List, [], ◌∷◌, length, map, Option, Some, None, refl, sym, ap, subst, ◌∙◌, arith, slice_get, false≢true, slice_get_within, value_at, Live, counts_pending, pending_count, waiter_at, Pending, Waiter, entry_of, Message, Waiting, ends_by_drop, Held, Reply, Subject, Record, Shared, TaskSlot, Worker, MayLetGo, LetsGoAll, here, elsewhere, MayLetGoAll, MayLetGoOf, MayLetSleep, driver_of, OfSlot, by_number, not_same, same_Some, found_within}, HoldMail.sum_least, HoldSteps.{held_in, held_there, hold_once}, Lined.unmapped, ServingHolds.Keeps, TaskOverFold.{HoldsAll, LetsSeen, ends_plain, gates_later, held_first, holds_later, later_once, let_all, queued_unresolved}, TaskTakes.holder_there, Slotted.live_at}}

-- what counts is there
pub some_held : (k : ℕ) (hs : List Held) → 0 < held_in k hs → (j : ℕ) × (x : Held) × (slice_get hs j ≡ Some x) × (x.number ≡ k)
some_held k [] some = absurd (omega (arith, some))
some_held k (h ∷ hs) some =
    by_number h.number k
    (λ apart.
    let nothing : ℕ = 0 in
    let none : cond (h.number == k) 1 0 ≡ nothing = ap (λ b. cond b 1 0) (not_same h.number k apart) in
    let rest = some_held k hs (omega (arith, some, held_first k h hs, none)) in
    (suc rest.0, rest.1, rest.2, rest.3))
    (λ same. (0, h, refl, same))

module _ {B : Type 0} where
  -- WHAT A TASK HOLDS: it is there, once, and its worker may have it
  pub record HasAll (t : ℕ) (slot : TaskSlot B) (s : Shared B) : Type 0 where
    pub all : HoldsAll slot.held.items s.requests.items
    pub near : (j : ℕ) (x : Held) → slice_get slot.held.items j ≡ Some x → MayHave s.config.workers slot.home x.worker

  pub has_all : (t : ℕ) (w : Worker) (s : Shared B) (slot : TaskSlot B) (others : Profile) → IsWhole (with_worker others w) s → slice_get s.tasks.items t ≡ Some slot → HasAll t slot s
  has_all t w s slot others whole there =
      let seen_by : (shut o : Bool) (n told : ℕ) → 0 < n → IsHeldBy shut o n told → o ≡ true = grind arith in
      let seen : (k : ℕ) (r : Thing) → slice_get (map thing_of s.requests.items) k ≡ Some r → 0 < held_in k slot.held.items → r.observed ≡ true = λ k r at some.
      let box = box_at r k at in
      let least = hold_once k (map holder_of s.tasks.items) t (holder_of slot) at_t in
      seen_by box.0.shut r.observed (holdings k (map holder_of s.tasks.items)) (under_way (hands_of (with_worker others w)) (Message.Cancel (Subject.Request k)) (map box_of s.seats.items)) (omega (arith, some, least)) (old.held k r box.0 at box.1) in
      record {
        all = record {
          there = λ j x at.
              let it = old.holds t (holder_of slot) j x at_t at in
              let r = unmapped thing_of s.requests.items x.number it.0 it.1 in
              let some = held_there x.number slot.held.items j x at refl in (
                r.0,
                r.1,
                ap (λ (y : Thing). y.worker) r.2 ∙ it.2.worker,
                ap (λ (y : Thing). y.observed) r.2 ∙ seen x.number it.0 it.1 some,
              );
          once = λ k. by k (held_in k slot.held.items) refl;
        };
        near = λ j x at. let it = old.holds t (holder_of slot) j x at_t at in subst (MayHave s.config.workers slot.home) it.2.worker it.2.near;
      }
    where
      old : IsHolding (hands_of (with_worker others w)) s.config.workers (map holder_of s.tasks.items) (map thing_of s.requests.items) (map nap_of s.sleepers.items) (map box_of s.seats.items)
      old = whole.holding

      at_t : slice_get (map holder_of s.tasks.items) t ≡ Some (holder_of slot)
      at_t = holder_there s.tasks.items t slot there

      box_at : (r : Thing) (k : ℕ) → slice_get (map thing_of s.requests.items) k ≡ Some r → (box : Box) × (slice_get (map box_of s.seats.items) r.worker ≡ Some box)
      box_at r k at = found_within (map box_of s.seats.items) r.worker (old.of_worker k r at)

      once_by : (shut o : Bool) (n told : ℕ) → IsHeldBy shut o n told → n ≤ 1
      once_by = grind arith

      by : (k n : ℕ) → held_in k slot.held.items ≡ n → held_in k slot.held.items ≤ 1
      by k zero is = omega (arith, is)
      by k (suc n) is =
          let one = some_held k slot.held.items (omega (arith, is)) in
          let it = old.holds t (holder_of slot) one.0 one.1 at_t one.2 in
          let at : slice_get (map thing_of s.requests.items) k ≡ Some it.0 = ap (slice_get (map thing_of s.requests.items)) (sym one.3) ∙ it.1 in
          let box = box_at it.0 k at in
          let most = once_by box.0.shut it.0.observed (holdings k (map holder_of s.tasks.items)) (under_way (hands_of (with_worker others w)) (Message.Cancel (Subject.Request k)) (map box_of s.seats.items)) (old.held k it.0 box.0 at box.1) in
          omega (arith, hold_once k (map holder_of s.tasks.items) t (holder_of slot) at_t, most)

  -- IT MAY BE LET GO OF

  pub keeps_tasks : (w : Worker) (s s' : Shared B) → s' ≡ record s { tasks = s'.tasks } → Keeps w s → Keeps w s'
  keeps_tasks w s s' kept keeps = subst (Keeps w) (sym kept) (assumption keeps)

  may_one : (h : Held) (w : Worker) (s : Shared B) (r : Record) → Keeps w s → slice_get s.requests.items h.number ≡ Some r → r.shown.worker ≡ w.index → MayLetGo h.number w s
  may_one h w s r keeps there mine =
      let room = keeps.told.room in
      record {
        known = slice_get_within s.requests.items h.number r there;
        room = grind (arith, room.notes.wakes, room.notes.completions, room.outputs, room.resources, room.results);
        ending = λ x found ends.
            let some = pending (waiter_at (driver_of w).requests r.id.0) refl (ap (λ (y : Record). ends_by_drop y.shown) (same_Some r x (sym there ∙ found)) ∙ ends) in
            omega (arith, some, keeps.over.counted, keeps.flown.ending);
      }
    where
      pending : (o : Option (Waiter Reply Reply)) → waiter_at (driver_of w).requests r.id.0 ≡ o → ends_by_drop r.shown ≡ true → 0 < pending_count (driver_of w).requests
      pending None at ends = absurd (false≢true (sym (queued_unresolved r.shown.phase (ends_plain r ends).0) ∙ keeps.named.over h.number r there mine at))
      pending (Some it) at ends =
          let slot = live_at (driver_of w).requests r.id.0 (Pending it) (entry_of (value_at (driver_of w).requests r.id.0) it at) in
          omega (arith, sum_least (λ o. cond (counts_pending o) 1 0) (driver_of w).requests.slots r.id.0.index (Live r.id.0.generation (Pending it)) slot)

  may_all : (hs : List Held) (w : Worker) (s : Shared B) → LetsSeen B → served_in w.place ≡ None → AreLinedUp s.opens s.requests.items → Keeps w s → HoldsAll hs s.requests.items → MayLetGoAll hs w s
  may_all [] w s seen idle gates keeps holds = tt
  may_all (h ∷ hs) w s seen idle gates keeps holds = (
    (λ mine. let it = holds.there 0 h refl in may_one h w s it.0 keeps it.1 (it.2 ∙ mine)),
    (λ w' s' one.
        elim one [
          | here mine lets ↦
              let it = holds.there 0 h refl in
              let same : lets.r ≡ it.0 = same_Some lets.r it.0 (sym lets.request ∙ it.1) in
              let step = seen h.number w w' s s' idle gates keeps lets (ap (λ (x : Record). x.shown.worker) same ∙ it.2 ∙ mine) (ap (λ (x : Record). x.shown.observed) same ∙ it.3) in
              may_all hs w' s' seen (ap (λ (x : Worker). served_in x.place) lets.worker ∙ idle) (gates_later h.number w w' s s' lets gates) step.keeps (holds_later h hs w w' s s' lets holds)
          | elsewhere other worker shared ↦
              let later : HoldsAll hs s.requests.items = record { there = λ j. holds.there (suc j); once = later_once h hs holds.once } in
              subst (λ y. MayLetGoAll hs w' y) (sym shared) (subst (λ x. MayLetGoAll hs x s) (sym worker) (may_all hs w s seen idle gates keeps later))
        ]),
  )

  -- all that task t holds, where its slot is this
  pub may_let_go : (t : ℕ) (w : Worker) (s : Shared B) (slot : TaskSlot B) → LetsSeen B → served_in w.place ≡ None → AreLinedUp s.opens s.requests.items → slice_get s.tasks.items t ≡ Some slot → Keeps w s → HoldsAll slot.held.items s.requests.items → w.letters.requests.items ≡ [] → w.letters.timer ≡ None
      → ((z : ℕ) → slot.waiting ≡ Waiting.Timer z → z < length s.sleepers.items) → MayLetGoOf t w s
  may_let_go t w s slot seen idle gates there keeps holds no_requests no_timer known =
      let records_in : (first : Shared B) → first ≡ record s { tasks = first.tasks } → HoldsAll slot.held.items first.requests.items = λ first kept. subst (λ (y : Shared B). HoldsAll slot.held.items y.requests.items) (sym kept) holds in
      let gates_in : (first : Shared B) → first ≡ record s { tasks = first.tasks } → AreLinedUp first.opens first.requests.items = λ first kept. subst (λ (y : Shared B). AreLinedUp y.opens y.requests.items) (sym kept) gates in
      let by : (u : Waiting) → slot.waiting ≡ u → (v : Worker) (now : Shared B) → Keeps v now → now.sleepers.items ≡ s.sleepers.items → MayLetSleep u v now = grind arith in
      let lets_so : OfSlot t s (λ slot. (first : Shared B) → first ≡ record s { tasks = first.tasks } → MayLetGoAll slot.held.items w first) = λ o found first kept.
      let is : slot ≡ o = same_Some slot o (sym there ∙ found) in
      subst (λ (y : TaskSlot B). MayLetGoAll y.held.items w first) is (may_all slot.held.items w first seen idle (gates_in first kept) (keeps_tasks w s first kept keeps) (records_in first kept)) in
      let sleeps : OfSlot t s (λ slot. (first now : Shared B) (v : Worker) → first ≡ record s { tasks = first.tasks } → LetsGoAll slot.held.items w v first now → MayLetSleep slot.waiting v now) = λ o found first now v kept lets.
      let is : slot ≡ o = same_Some slot o (sym there ∙ found) in
      let lets' : LetsGoAll slot.held.items w v first now = subst (λ (y : TaskSlot B). LetsGoAll y.held.items w v first now) (sym is) lets in
      let all = let_all w.index slot.held.items w v first now seen refl idle (gates_in first kept) (keeps_tasks w s first kept keeps) (records_in first kept) lets' in
      subst (λ (y : TaskSlot B). MayLetSleep y.waiting v now) is (by slot.waiting refl v now all.keeps (ap (λ (y : Shared B). y.sleepers.items) all.kept ∙ ap (λ (y : Shared B). y.sleepers.items) kept)) in
      assumption (slice_get_within s.tasks.items t slot there, no_requests, no_timer, lets_so, sleeps)
