-- What is known of the parts of an executor: of a number, by what stands there, or by none; of what lives in a slot of a worker; of
-- the worker and the chair that sit there, and of its root; and of who stands at a gate, as it is shown.
pub use Rattle.exec_core.specs.Words.{Queue, all_have}
use Rattle.std.proofs.{Common.{Bool, IsSome, List, None, Option, Some, [], ap, arith, false, get_or, if◌then◌else◌, inl, inr, length, map, not, option_map, refl, slice_get, slice_index_or, suc, sym, true, zero, ℕ, ⊎_elim, ◌&&◌, ◌+◌, ◌<◌, ◌∙◌, ◌∷◌, ◌≡◌, ◌≤◌}, lemmas.{Bool.{Decides.nat_tests, cases_lt, eq-eqb, false_from_ne_true, false≢true, not_from_true, or_from, true_from_ne_false, true≢false}, List.{get_or_past, length-map}, Option.{get_or_from_slice_get, slice_get-map, slice_get_cases, slice_get_within}}}
use Rattle.exec_core.{specs.{Words.{is_live, value_in, Slot, Configuration, MailMessage, Plan, Own, Seat, no_own, no_seat, own_at, seat_of, Common, no_request, request_of, Open, no_open, open_of, waiter_of, Entry, OpenState, WaiterKey, Playing, desk_at as desk_of, first_desk, Desk, inbox_of, no_queue, queue_of, gate_of, is_some_slot, slot_of, numbers_in, Place, has_number, place_at, gives_up, in_line, passes_at, Chair, Worker, Record, Reply, Spot, desk_of as desk_seen, inbox_at, own_of, queue_at, seat_seen, seats_seen, visible, slots_from, gate_seen, has_given_up, line_of, number_of_key, open_seen, Sound, AreLinedUp, key_for, line_at, drops_at, passes_there, is_polled, TaskSlot, is_complete, HaveLeft, IsBefore, in_set}, Lift.{Stands, playing}, declared.executor.Core.Core}, proofs.Lifting.{seat_there, there_within, key_number, request_at, unmapped, others_of, seats_length, Said}}

pub none_plus : (n : ℕ) → 0 + n ≡ n
none_plus n = omega arith

slot_is_some : (b : Bool) (k : ℕ) (o : Option ℕ) → (b ≡ false → is_some_slot o ≡ true) → is_some_slot (if b then Some k else o) ≡ true
slot_is_some = grind arith

module _ {T : Type 0} where
  -- what lives in a slot is found by its number
  pub found_in_slots : (n k : ℕ) (numbers : List ℕ) (slots : List (Slot T)) (i : ℕ) (d : Slot T) → is_live d ≡ false → is_live (get_or slots i d) ≡ true → slice_index_or numbers (k + i) 0 ≡ n
      → is_some_slot (slot_of n k (slots_from k numbers slots)) ≡ true
  found_in_slots n k numbers [] i d dead live same = absurd (false≢true (sym dead ∙ live))
  found_in_slots n k numbers (x ∷ slots) zero d dead live same = grind (arith, slot_is_some, false≢true, eq-eqb)
  found_in_slots n k numbers (x ∷ slots) (suc i) d dead live same = grind (arith, slot_is_some, found_in_slots n (suc k) numbers slots i d dead live (ap (λ j. slice_index_or numbers j 0) (let e : suc k + i ≡ k + suc i = omega arith in e) ∙ same))

  -- a value stands in a live slot
  pub some_lives : (x : Slot T) (generation : ℕ) → IsSome (value_in x generation) → is_live x ≡ true
  some_lives = grind arith

-- what is there of what was mapped, and past its end
pub mapped : {A C : Type 0} (f : A → C) (xs : List A) (i : ℕ) (a : A) (d : C) → slice_get xs i ≡ Some a → get_or (map f xs) i d ≡ f a
mapped f xs i a d there = get_or_from_slice_get (map f xs) i (f a) d (slice_get-map f xs i ∙ ap (option_map f) there)

pub mapped_past : {A C : Type 0} (f : A → C) (xs : List A) (i : ℕ) (d : C) → length xs ≤ i → get_or (map f xs) i d ≡ d
mapped_past f xs i d past = (let many = length-map xs f in get_or_past (map f xs) i d (omega (arith, many, past)))

pub mapped_within : {A C : Type 0} (f : A → C) (xs : List A) (i : ℕ) (a : A) → slice_get xs i ≡ Some a → i < length (map f xs)
mapped_within f xs i a there = slice_get_within (map f xs) i (f a) (slice_get-map f xs i ∙ ap (option_map f) there)

-- What holds of what stands past the end, and of what each becomes, holds of what is shown.
pub by_one : {A C : Type 0} (f : A → C) (xs : List A) (i : ℕ) (d : C) (P : C → Type 0) → P d → ((a : A) → slice_get xs i ≡ Some a → P (f a)) → P (get_or (map f xs) i d)
by_one f xs i d P none some =
    elim ((slice_get_cases xs i).1) [
      | inl found ↦ rw (mapped f xs i found.0 d found.2) (some found.0 found.2)
      | inr gone ↦ rw (mapped_past f xs i d gone.0) none
    ]

-- WORKER i, on its chair
pub record Sits {B : Type 0} (c : Core B) (i : ℕ) (w : Worker) (chair : Chair) : Type 0 where
  pub works : slice_get c.workers.items i ≡ Some w
  pub there : slice_get c.shared.seats.items i ≡ Some chair
  pub index : w.index ≡ i
  pub mine : slice_get c.shared.seats.items w.index ≡ Some chair
  pub sound : Sound w c.shared

-- there is one for each chair
pub who : {B : Type 0} (c : Core B) → Stands c → (i : ℕ) → i < length c.shared.seats.items → (w : Worker) × (chair : Chair) × Sits c i w chair
who c stands i within =
    let many = stands.together.seats in
    let w = there_within c.workers.items i (omega (arith, within, many)) in
    let chair = there_within c.shared.seats.items i within in
    let its = stands.together.sound i w.0 w.1 in
    (w.0, chair.0, record { works = w.1; there = chair.1; index = its.0; mine = ap (slice_get c.shared.seats.items) its.0 ∙ chair.1; sound = its.1 })

module _ {B : Type 0} (c : Core B) where
  -- the task whose home is worker j is its root
  pub root_here : (t j : ℕ) (slot : TaskSlot B) → slice_get c.shared.tasks.items t ≡ Some slot → slot.home ≡ Some j
      → (w : Worker) (chair : Chair) → Sits c j w chair → slice_get c.shared.tasks.items w.root ≡ Some slot
  root_here t j slot there home w chair it =
      let its = it.sound.runnable in
      let same : t ≡ w.root = it.sound.homes.once t w.root j slot its.root there its.there home (its.home ∙ ap (λ n. Some n) it.index) in
      ap (slice_get c.shared.tasks.items) (sym same) ∙ there

  -- Once a worker of the pool takes no mail any more all have left it: nobody polls an ordinary task, nor clears one, and none is
  -- in the set. So all are over.
  pub all_over : Stands c → (i : ℕ) (w : Worker) (chair : Chair) → Sits c i w chair → chair.pool ≡ true → chair.mailbox.inbox.closed ≡ true
      → (t : ℕ) (slot : TaskSlot B) → slice_get c.shared.tasks.items t ≡ Some slot → slot.home ≡ None → is_complete slot.cell.phase ≡ true
  all_over stands i w chair it pool closed t slot there home =
      let whole = stands.together.whole in
      let x = all_have c.workers.items c.callers.items in
      let gone : HaveLeft c.shared.seats.items = whole.pool.shut i chair it.there pool closed in
      let nobody : (j : ℕ) → IsBefore j c.shared.seats.items → ⊥ = λ j b. true≢false (sym (gone j b.chair b.there) ∙ b.going) in
      let passed : chair.left ≡ true = true_from_ne_false chair.left (λ stays. false≢true (sym (or_from chair.left (not chair.pool) stays (not_from_true chair.pool pool)) ∙ gone i chair it.there)) in
      let set : in_set t c.shared.set ≡ 0 = (whole.pool.drained i chair it.there passed).1 t in
      let clears : x.clears t ≤ 0 = ⊎_elim (λ (some : 0 < x.clears t). (let who = whole.pool.who_clears t some in absurd (nobody who.0 who.1))) (λ (none : x.clears t ≤ 0). none) (cases_lt 0 (x.clears t)) in
      let polled : is_polled slot.cell.phase ≡ false = false_from_ne_true (is_polled slot.cell.phase) (λ h. nobody slot.poller (whole.pool.who_polls t slot there home h).0) in
      true_from_ne_false (is_complete slot.cell.phase)
      (λ still.
      let once : x.clears t + in_set t c.shared.set ≡ 1 = (whole.pool.live t slot there home).live ((it.sound.resting t slot there home polled).uncleared still).1 still in
      omega (arith, once, clears, set))

-- both say of a place which permit is passed on there
pub passes_same : (p : Place) → passes_there p ≡ passes_at p
passes_same = grind arith

-- who has the permit is the first in the line
pub first_holds : (o : OpenState) (key : WaiterKey) → o.holder ≡ Some key → slice_get (line_at o) 0 ≡ Some key
first_holds = grind arith

module _ (opens : List OpenState) (rs : List Record) (lined : AreLinedUp opens rs) where
  pub number_there : (k : ℕ) (r : Record) → slice_get rs k ≡ Some r → number_of_key 0 rs (key_for r) ≡ k
  number_there k r there = key_number rs 0 k r (key_for r) there refl (λ l x at is. lined.unique k l r x there at (sym is)) ∙ omega arith

  -- the n-th number at the gate is that of this request
  pub record Stood (o : OpenState) (n k : ℕ) : Type 0 where
    pub r : Record
    pub there : slice_get rs k ≡ Some r
    pub placed : slice_get (line_at o) n ≡ Some (key_for r)

  pub stood : (file : ℕ) (o : OpenState) → slice_get opens file ≡ Some o → (n k : ℕ) → slice_get (gate_seen rs o) n ≡ Some k → Stood o n k
  stood file o open_there n k there =
      let found = unmapped (number_of_key 0 rs) (line_at o) n k there in
      let who = (lined.lines file o open_there).named n found.0 found.1 in
      let same : who.0 ≡ k = sym (number_there who.0 who.1 who.2) ∙ ap (number_of_key 0 rs) who.3 ∙ found.2 in
      grind arith

-- THE LINE of those who stand there without one that is over is the same by what is shown of the requests.
module _ (of : Common) (rs : List Record) where
  abbrev seen : Common
  seen = record of { requests = map (λ (r : Record). r.shown) rs }

  given_same : (k : ℕ) → has_given_up (slice_get rs k) ≡ gives_up (request_of seen k)
  given_same k =
      elim ((slice_get_cases rs k).1) [
        | inl found ↦ ap has_given_up found.2 ∙ sym (ap gives_up (request_at rs k found.0 found.2))
        | inr gone ↦ ap has_given_up gone.1 ∙ sym (ap gives_up (mapped_past (λ (r : Record). r.shown) rs k no_request gone.0))
      ]

  pub line_seen : (ns : List ℕ) → line_of rs ns ≡ in_line seen ns
  line_seen [] = refl
  line_seen (n ∷ later) = ap (λ b. if b then later else n ∷ later) (given_same n)

-- what has a slot is among the numbers of all
pub numbered : (n k : ℕ) (slots : List (Option ℕ)) → is_some_slot (slot_of n k slots) ≡ true → has_number n (numbers_in slots) ≡ true
numbered n k [] h = absurd (false≢true h)
numbered n k (None ∷ later) h = numbered n (suc k) later h
numbered n k (Some m ∷ later) h = grind (arith, nat_tests, numbered n (suc k) later)

-- one that isn't over is in the slab
pub still_there : (o : Option (Entry Reply Reply)) (over : Bool) → (waiter_of o ≡ None → over ≡ true) → over ≡ false → IsSome o
still_there = grind arith

pub unfired : (mine fired removed : Bool) → (mine && not fired && not removed) ≡ true → fired ≡ false
unfired = grind arith

module _ {B L : Type 0} (left : B → L) (spot : L → Option Said → Spot) (p : Plan) (c : Core B) (stands : Stands c) (k : Configuration) where
  abbrev shown : Playing
  shown = playing left spot p c

  abbrev workers : List Worker
  workers = c.workers.items

  abbrev seats : List Chair
  seats = c.shared.seats.items

  -- its seat
  pub seat_is : (i : ℕ) (w : Worker) (chair : Chair) → Sits c i w chair → seat_of shown.world.common i ≡ seat_seen (visible w) chair
  seat_is i w chair it =
      get_or_from_slice_get (seats_seen (map visible workers) seats) i (seat_seen (visible w) chair) no_seat
      (seat_there (map visible workers) seats i (visible w) chair (slice_get-map visible workers i ∙ ap (option_map visible) it.works) it.there)

  -- as many seats are shown as there are workers
  pub as_many_seats : length shown.world.common.seats ≡ length workers
  as_many_seats = seats_length (map visible workers) seats (length-map workers visible ∙ stands.together.seats) ∙ length-map workers visible

  -- What is shown of number i is that of a worker, on its chair, or of none.
  pub by_worker : (i : ℕ) (P : Desk → Own → Seat → Queue ℕ → List MailMessage → Type 0)
      → (length seats ≤ i → P (first_desk k i) no_own no_seat no_queue [])
      → ((w : Worker) (chair : Chair) → Sits c i w chair → P (desk_seen w) (own_of w) (seat_seen (visible w) chair) (queue_at chair) (inbox_at chair))
      → P (desk_of k shown i) (own_at shown.world i) (seat_of shown.world.common i) (queue_of shown.things i) (inbox_of shown.things i)
  by_worker i P none some =
      elim (cases_lt i (length seats)) [
        | inl within ↦
            let sits = who c stands i within in
            let w : Worker = sits.0 in
            let chair : Chair = sits.1 in
            let it : Sits c i w chair = sits.2 in
            rw (mapped desk_seen workers i w (first_desk k i) it.works, mapped own_of workers i w no_own it.works, seat_is i w chair it)
            (rw (mapped queue_at seats i chair no_queue it.there, mapped inbox_at seats i chair [] it.there) (some w chair it))
        | inr past ↦
            let many = stands.together.seats in
            let gone : length workers ≤ i = omega (arith, past, many) in
            let all = as_many_seats in
            let seat : seat_of shown.world.common i ≡ no_seat = get_or_past (seats_seen (map visible workers) seats) i no_seat (omega (arith, gone, all)) in
            rw (mapped_past desk_seen workers i (first_desk k i) gone, mapped_past own_of workers i no_own gone, seat)
            (rw (mapped_past queue_at seats i no_queue past, mapped_past inbox_at seats i [] past) (none past))
      ]

  abbrev s : Common
  s = shown.world.common

  abbrev opens : List OpenState
  opens = c.shared.opens

  abbrev rs : List Record
  rs = c.shared.requests.items

  pub lined : AreLinedUp opens rs
  lined = (let first = there_within c.workers.items 0 stands.some in (stands.together.sound 0 first.0 first.1).1.gates)

  -- What is shown of a file is that of an open, or of none.
  pub by_open : (file : ℕ) (P : List ℕ → Open → Type 0) → P [] no_open → ((o : OpenState) → slice_get opens file ≡ Some o → P (gate_seen rs o) (open_seen rs o))
      → P (gate_of shown.things file) (open_of s file)
  by_open file P none some =
      elim ((slice_get_cases opens file).1) [
        | inl found ↦ rw (mapped (gate_seen rs) opens file found.0 [] found.2, mapped (open_seen rs) opens file found.0 no_open found.2) (some found.0 found.2)
        | inr gone ↦ rw (mapped_past (gate_seen rs) opens file [] gone.0, mapped_past (open_seen rs) opens file no_open gone.0) none
      ]

  -- and what is shown of the place of a worker is that of one, or where it begins its turn
  pub by_place : (i : ℕ) (P : Place → Type 0) → P Place.BeginTurn → ((w : Worker) → slice_get c.workers.items i ≡ Some w → P w.place) → P (place_at k shown i)
  by_place i P = by_one desk_seen c.workers.items i (first_desk k i) (λ (d : Desk). P d.place)

  -- what a worker passes on or has join is what its place says
  pub drops : (i : ℕ) (w : Worker) → slice_get c.workers.items i ≡ Some w → (all_have c.workers.items c.callers.items).drops_by i ≡ drops_at w.place
  drops i w there =
      let its = (stands.together.sound i w there).0 in
      let rest = others_of c.workers.items c.callers.items i w there (λ j x at other same. other (sym (stands.together.sound j x at).0 ∙ same ∙ its)) in
      grind arith
