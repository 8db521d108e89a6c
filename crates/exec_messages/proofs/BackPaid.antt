-- The callbacks: the next of the wakes that are left, and the wake of a task to which an end was sent, are steps.
use Rattle.std.{proofs.{Common.{[], ◌≡◌, ℕ, ◌+◌, ◌<◌, ◌≤◌, ◌==◌, ◌&&◌, ◌||◌, Bool, true, false, not, cond, List, ◌∷◌, count_by, map, Option, Some, refl, sym, ap, ◌∙◌, arith, slice_get, slice_set, if◌then◌else◌}, lemmas.{Bool.{false≢true, eq-eqb}, List.map-set}}, specs.VecDeque.deque_capacity}
use Rattle.exec_base.specs.declared.task_no.TaskNo.{TaskNo}
use Rattle.exec_waiters.specs.declared.deferred.Deferred.{Deferred}
use Rattle.exec_task.specs.declared.body.Said.{Said}
use Rattle.exec_machine.specs.{declared.state.Forwarding.Forwarding, Progress.Plan, Tasks.is_unpaid, Tests.{is_applied, is_open, is_unsent}, World.{Own as Books, seat_of}}
use Rattle.exec_moves.specs.{Callback.{Item.Wakes, item_next}, declared.place.Place.Place, State.Desk}
use Rattle.exec_parts.{specs.{declared.parts.{mail.Reply.Reply, names.Names.Names, record.Record.Record, shared.Shared.Shared, sleeping.SleeperRecord.SleeperRecord, task_slot.TaskSlot.TaskSlot, worker.Worker.Worker}, Calls.paying, Serving.{changed_at, changed_in}, Spots.Spot, View.{Views, common_of, driver_of}}}
use Rattle.exec_invariants.{specs.{Holding.{IsClosing, box_of, thing_of}, Rooted.IsRooted, Names.HasWidth, Sound.SoundAt, Whole.{IsWhole, Profile, wakes_with, with_worker}, Works.Suits}, proofs.{Lined.mapped, Seats.own_seat, ServedEnds.{count_both, count_one}}}
use Rattle.exec_messages.proofs.BackOthers.{with_left}

-- LISTS

counts_here : (t : ℕ) (n : TaskNo) (rest : List TaskNo) (b : Bool) → (n.0 == t) ≡ b → count_by (λ m. m.0 == t) (n ∷ rest) ≡ cond b 1 0 + count_by (λ (m : TaskNo). m.0 == t) rest
counts_here t n rest b is =
    let p : TaskNo → Bool = λ m. m.0 == t in
    count_both p (n ∷ []) rest ∙ ap (λ k. k + count_by p rest) (count_one p n b is)

pub item_wakes : (me : Books) (d : Desk) (t : ℕ) (ts : List ℕ) → d.wakes ≡ t ∷ ts → item_next me d ≡ Wakes t
item_wakes me d t ts is = rw is refl

-- who still owes a wake to who waits elsewhere
pub unpaid_elsewhere : (n : ℕ) (f : Forwarding) → n ≤ 1 → is_applied f ≡ true → is_unpaid n f ≡ true
unpaid_elsewhere = grind arith

pub unsent_never : (f : Forwarding) → is_applied f ≡ true → is_unsent f ≡ false
unsent_never = grind arith

pub applied_is : (f : Forwarding) → is_applied f ≡ true → f ≡ Forwarding.Applied
applied_is = grind arith

pub by_over : (a b : Bool) → (a || not b) ≡ true → a ≡ false → b ≡ true → ⊥
by_over = grind arith

pub over_elsewhere : (a b c : Bool) (f : Forwarding) → is_applied f ≡ true → (a || not b) ≡ true → (a || c || (not (is_unsent f) && not b)) ≡ true
over_elsewhere = grind arith

-- a sleeper that has ended, or was let go as its worker closed, which shows so
pub fired_either : (fired removed closed shut : Bool) → (fired || (removed || closed)) ≡ true → (closed ≡ true → shut ≡ true) → (fired || removed || shut) ≡ true
fired_either = grind arith

pub neither : (a b : Bool) → a ≡ false → b ≡ false → (a || b) ≡ true → ⊥
neither = grind arith

-- one of three
pub first_of_three : (a b c : Bool) → a ≡ true → (a || b || c) ≡ true
first_of_three true b c h = refl
first_of_three false b c h = absurd (false≢true h)

pub second_of_three : (a b c : Bool) → b ≡ true → (a || b || c) ≡ true
second_of_three = grind arith

-- what the worker keeps to be told rests on no wakes
pub rooted_wakes : (i : ℕ) (n : Names) (w : Worker) (left left' : Deferred Reply Reply) (rs : List Record) (ss : List SleeperRecord) → left' ≡ record left { notes = record left.notes { wakes = left'.notes.wakes } }
    → IsRooted i n (driver_of w) w.home.timers left rs ss → IsRooted i n (driver_of w) w.home.timers left' rs ss
rooted_wakes = grind arith

pub wide_wakes : (left left' : Deferred Reply Reply) (m : ℕ) → left' ≡ record left { notes = record left.notes { wakes = left'.notes.wakes } } → deque_capacity left'.notes.wakes ≡ deque_capacity left.notes.wakes → HasWidth left m → HasWidth left' m
wide_wakes = grind arith

-- what is a thing of all then
pub things_paid : (rs : List Record) (k : ℕ) (r : Record) → slice_get rs k ≡ Some r → map thing_of (changed_at rs k paying) ≡ slice_set (map thing_of rs) k (record (thing_of r) { paid = r.shown.wakes_paid + 1 })
things_paid rs k r there = ap (λ o. map thing_of (changed_in rs k paying o)) there ∙ map-set thing_of rs k (paying r)

-- THE HANDS, once the first of the wakes that were left is paid
abbrev pub wakes_then : Profile → Worker → Deferred Reply Reply → ℕ → ℕ → ℕ
wakes_then others w left' = (with_worker others (with_left w left')).wakes

-- there were no two of this task
pub record Fewer (t : ℕ) (others : Profile) (w : Worker) (left' : Deferred Reply Reply) : Type 0 where
  pub fewer : (i u : ℕ) → 0 < wakes_then others w left' i u → wakes_then others w left' i u ≡ (with_worker others w).wakes i u
  pub none : wakes_then others w left' w.index t ≡ 0

pub mine_then : (others : Profile) (w : Worker) (left' : Deferred Reply Reply) (t : ℕ) → wakes_then others w left' w.index t ≡ wakes_with t (with_left w left')
mine_then others w left' t = ap (λ b. if b then wakes_with t (with_left w left') else others.wakes w.index t) (eq-eqb w.index w.index refl)

module _ {B : Type 0} where
  pub fewer_wakes : (n : TaskNo) (w : Worker) (left' : Deferred Reply Reply) (s : Shared B) (others : Profile) → w.home.deferred.notes.wakes.items ≡ n ∷ left'.notes.wakes.items → IsWhole (with_worker others w) s → Fewer n.0 others w left'
  fewer_wakes n w left' s others all whole =
      let t = n.0 in
      let mine : (with_worker others w).wakes w.index t ≡ wakes_with t w = ap (λ b. if b then wakes_with t w else others.wakes w.index t) (eq-eqb w.index w.index refl) in
      let counted : wakes_with t w ≡ 1 + wakes_with t (with_left w left') = ap (count_by (λ m. m.0 == t)) all ∙ counts_here t n left'.notes.wakes.items true (eq-eqb t t refl) in
      let some : 0 < (with_worker others w).wakes w.index t = omega (arith, mine, counted) in
      let once = (whole.holding.owed w.index t some).0 in
      let none : wakes_with t (with_left w left') ≡ 0 = omega (arith, mine, counted, once) in
      record { fewer = λ i u. by i u (i == w.index) refl none; none = mine_then others w left' t ∙ none }
    where
      zero_plus : (k : ℕ) → 0 + k ≡ k
      zero_plus k = omega arith

      at : (u : ℕ) (b : Bool) → (n.0 == u) ≡ b → wakes_with n.0 (with_left w left') ≡ 0 → 0 < wakes_with u (with_left w left') → wakes_with u (with_left w left') ≡ wakes_with u w
      at = grind arith

      by : (i u : ℕ) (b : Bool) → (i == w.index) ≡ b → wakes_with n.0 (with_left w left') ≡ 0 → 0 < wakes_then others w left' i u → wakes_then others w left' i u ≡ (with_worker others w).wakes i u
      by = grind arith

  -- WHO IS WOKEN is an ordinary task, or the own root
  pub mine_or_ordinary : (t : ℕ) (w : Worker) (s : Shared B) (slot : TaskSlot B) (q : Place) → SoundAt q w s → slice_get s.tasks.items t ≡ Some slot → ((j : ℕ) → slot.home ≡ Some j → j ≡ w.index) → (j : ℕ) → slot.home ≡ Some j → (j ≡ w.index) × (t ≡ w.root)
  mine_or_ordinary t w s slot q sound there its j home =
      let is : j ≡ w.index = its j home in
      (is, sound.homes.once t w.root w.index slot sound.runnable.root there sound.runnable.there (home ∙ ap (λ k. Some k) is) sound.runnable.home)

  -- a worker that closes shows so
  pub closing_seen : {L : Type 0} (left : B → L) (spot : L → Option Said → Spot) (p : Plan) (vs : Views) (q : Place) (w : Worker) (s : Shared B) (worker : ℕ) → SoundAt q w s → Suits p vs w s → worker ≡ w.index → IsClosing w.index (map box_of s.seats.items)
      → not (is_open (seat_of (common_of left spot p vs s) worker).phase) ≡ true
  closing_seen left spot p vs q w s worker sound suits mine closing =
      let chair = sound.seated.seat in
      ap (λ k. not (is_open (seat_of (common_of left spot p vs s) k).phase)) mine
      ∙ ap (λ y. not (is_open y.phase)) (own_seat left spot p vs w s chair suits sound.seated.there)
      ∙ closing (box_of chair) (mapped box_of s.seats.items w.index chair sound.seated.there)

  pub shut_seen : {L : Type 0} (left : B → L) (spot : L → Option Said → Spot) (p : Plan) (vs : Views) (q : Place) (w : Worker) (s : Shared B) (worker : ℕ) → SoundAt q w s → Suits p vs w s → worker ≡ w.index → w.home.closing ≡ true
      → not (is_open (seat_of (common_of left spot p vs s) worker).phase) ≡ true
  shut_seen left spot p vs q w s worker sound suits mine closes =
      let chair = sound.seated.seat in
      let phased = sound.phased chair sound.seated.there in
      ap (λ k. not (is_open (seat_of (common_of left spot p vs s) k).phase)) mine
      ∙ ap (λ y. not (is_open y.phase)) (own_seat left spot p vs w s chair suits sound.seated.there)
      ∙ ap not phased.opened ∙ ap (λ b. not (not b)) (sym phased.told ∙ closes)
