-- Shutdown waits for the kernel alone: by what each state has.
use Rattle.std.{proofs.{Common.{◌≡◌, ◌≢◌, ℕ, suc, ◌<◌, ◌==◌, ◌&&◌, ◌||◌, Bool, true, false, not, List, [], ◌∷◌, length, get_or, cond, Some, None, ◌∙◌, refl, sym, ap, subst, arith, inl, inr}, lemmas.{Bool.{true≢false, false≢true, and_parts, cases_Bool, cases_lt, eqb-true, false_from_ne_true}, List.{get_or_past, Sums.sum_by-cons}, Option.{get_or_from_slice_get, none-some, slice_get_cases}}}, specs.{Prelude.{◌⊎◌, nat_lt, unwrap_or}, List.list_all}}
use Rattle.exec_machine.specs.{declared.{config.Configuration.Configuration, state.{Next.{Next, Next as next}, Request.Request, RequestPhase.RequestPhase, WorkerPhase.WorkerPhase}}, Callers.{is_half_done, is_held, may_work}, Mail.has_root_message, Progress.is_runnable, Ranges.ring_size, Tests.{all_left, has_ended, is_awake, is_closing, is_done, is_flying, is_in_flight, is_landed, is_open, is_resolved, is_staged}, World.{Common, Own as Books, Seat, Task, no_request, no_seat, no_task, open_of, own_of, request_of, seat_of, task_of}}
use Rattle.exec_moves.specs.{declared.place.{InClosing.InClosing, Place.Place}, Plays.{Playing, caller_of, first_desk}, Seen.next_at, State.Desk}
use Rattle.exec_books.specs.Booked.{IsBooked, flying_of}
use Rattle.exec_rest.{specs.{AtRest.{IsPlaced, is_end}, Places.{is_abed, owes_nothing, raises, signals}, Rested.{IsRestful, Someone, place_at}}, proofs.Rest.{NoCall, all_at, calls_none, owes_parts, some_at_all}}
use Rattle.exec_settled.{specs.{Given.{IsGiven, passes_at}, Parked.{HasNothingToDo, IsBeingWoken, IsHeldUp, IsParked, NobodySleepsOnWork}, Permits.hands_to}, proofs.{Parked.holder_going, Resting.has_let_go, Undone.false_from_ne_true}}
use Rattle.exec_shutdown.specs.{Shutdown.{ShutsDown, is_at_standstill}, Stopping.{StopsAll, is_waiting, owes_root}}

-- PLACES at which a worker has nothing to do for others: it sleeps, has ended or not begun, or closes its mailbox next

abbrev is_shutting : Next → Bool
is_shutting next.ClosesMailbox = true
is_shutting _ = false

abbrev lies_still : Place → Bool
lies_still Place.BeginTurn = true
lies_still (Place.Closing InClosing.CloseMailbox) = true
lies_still p = is_abed p || is_end p

record IsStill (p : Place) : Type 0 where
  pub owes : owes_nothing p ≡ true
  pub passes : passes_at p ≡ None
  pub hands : hands_to p ≡ None

still : (p : Place) → lies_still p ≡ true → IsStill p
still = grind arith

abed_still : (p : Place) → is_abed p ≡ true → lies_still p ≡ true
abed_still = grind arith

end_still : (p : Place) → is_end p ≡ true → lies_still p ≡ true
end_still = grind arith

shutting_still : (p : Place) → is_shutting (next_at p) ≡ true → lies_still p ≡ true
shutting_still = grind arith

-- LISTS

-- where not all pass a test one doesn't
one_fails : {X : Type 0} (test : X → Bool) (d : X) (xs : List X) → list_all test xs ≡ false → (k : ℕ) × (test (get_or xs k d) ≡ false)
one_fails test d [] h = absurd (true≢false h)
one_fails test d (x ∷ xs) h = elim (cases_Bool (test x)) [
  | inl passes ↦ let it = one_fails test d xs (sym (ap (λ b. b && list_all test xs) passes) ∙ h) in (suc it.0, it.1)
  | inr fails ↦ (0, fails)
]

abbrev counted : ℕ → Request → ℕ
counted i r = cond ((r.worker == i) && is_in_flight r.phase) 1 0

-- where one at least is counted there is one
one_flies : (i : ℕ) (rs : List Request) → 0 < flying_of i rs → (k : ℕ) × ((get_or rs k no_request).worker ≡ i) × (is_in_flight (get_or rs k no_request).phase ≡ true)
one_flies i [] h = absurd (omega (arith, h))
one_flies i (r ∷ rs) h = elim (cases_Bool ((r.worker == i) && is_in_flight r.phase)) [
  | inl here ↦ let both = and_parts (r.worker == i) (is_in_flight r.phase) here in (0, eqb-true r.worker i both.0, both.1)
  | inr none ↦
      let sum = sum_by-cons (counted i) r rs in
      let nothing : counted i r ≡ 0 = ap (λ b. cond b 1 0) none in
      let it = one_flies i rs (omega (arith, h, sum, nothing)) in
      (suc it.0, it.1, it.2)
]

flies_by : (p : RequestPhase) → is_in_flight p ≡ true → is_staged p ≡ false → is_landed p ≡ false → is_flying p ≡ true
flies_by = grind arith

-- it is open, is closing, or has ended
phases : (p : WorkerPhase) → (is_open p ≡ true) ⊎ ((is_closing p ≡ true) ⊎ (has_ended p ≡ true))
phases = grind arith

stands_still : (awake ended held : Bool) → not (awake && not ended && not held) ≡ true → (awake ≡ false) ⊎ ((ended ≡ true) ⊎ (held ≡ true))
stands_still = grind arith

idle_by : (t : Task) → is_runnable t.phase ≡ false → is_done t.phase ≡ false → is_waiting t ≡ true
idle_by = grind arith

not_held : (pool left all : Bool) → (pool && left && not all) ≡ true → (pool ≡ true) × (left ≡ true) × (all ≡ false)
not_held = grind arith

not_left : (left pool : Bool) → (left || not pool) ≡ false → (left ≡ false) × (pool ≡ true)
not_left = grind arith

-- one of the three
lazy : (a b e : Bool) → (a ≡ true) ⊎ ((b ≡ true) ⊎ (e ≡ true)) → (a || b || e) ≡ true
lazy = grind arith

not_both : (p : WorkerPhase) → is_closing p ≡ true → has_ended p ≡ true → ⊥
not_both = grind arith

-- a ring has places
some_places : (c : Configuration) → 0 < ring_size c
some_places = grind arith

places : (n size : ℕ) → 0 < size → nat_lt n size ≡ false → 0 < n
places = grind arith

empty_owes : (i : ℕ) (me : Books) → me.owed ≡ [] → owes_root i me ≡ false
empty_owes = grind arith

empty_inbox : (seat : Seat) → seat.inbox ≡ [] → has_root_message seat ≡ false
empty_inbox = grind arith

module _ (c : Configuration) (x : Playing) (placed : IsPlaced c x) (given : IsGiven c x) (held : IsRestful c x) (booked : IsBooked x.world) (stops : StopsAll c x.world)
    (sleepers : NobodySleepsOnWork c x) (standstill : is_at_standstill x.world ≡ true) where
  abbrev s : Common
  s = x.world.common

  both : (list_all (λ seat. not (may_work s seat)) s.seats ≡ true) × (list_all (λ call. not (is_half_done call)) s.callers ≡ true)
  both = and_parts (list_all (λ seat. not (may_work s seat)) s.seats) (list_all (λ call. not (is_half_done call)) s.callers) standstill

  -- past the list of seats a worker has ended
  each_stands : (i : ℕ) → (is_awake (seat_of s i).rest ≡ false) ⊎ ((has_ended (seat_of s i).phase ≡ true) ⊎ (is_held s (seat_of s i) ≡ true))
  each_stands i = let seat = seat_of s i in stands_still (is_awake seat.rest) (has_ended seat.phase) (is_held s seat) (all_at (λ seat. not (may_work s seat)) no_seat refl s.seats both.0 i)

  ended_still : (i : ℕ) → has_ended (seat_of s i).phase ≡ true → lies_still (place_at c x i) ≡ true
  ended_still i over = elim (cases_lt i (length x.desks)) [
    | inl within ↦ end_still (place_at c x i) (placed.over i within over)
    | inr past ↦ ap (λ (d : Desk). lies_still d.place) (get_or_past x.desks i (first_desk c i) past)
  ]

  each_still : (i : ℕ) → IsStill (place_at c x i)
  each_still i = still (place_at c x i) (elim (each_stands i) [
    | inl asleep ↦ abed_still (place_at c x i) (held.abed i (ap not asleep))
    | inr (inl over) ↦ ended_still i over
    | inr (inr waits) ↦ shutting_still (place_at c x i) (ap is_shutting (sym (given.nexts i) ∙ stops.held i waits))
  ])

  callers : (j : ℕ) → NoCall (caller_of x j).place
  callers j = calls_none c x held both.1 j

  unwoken : (i : ℕ) → IsBeingWoken c x i → ⊥
  unwoken i (IsBeingWoken.Signalled (Someone.Worker j h)) = some_at_all (signals (place_at c x j)) i (owes_parts (place_at c x j) (each_still j).owes).0 h
  unwoken i (IsBeingWoken.Signalled (Someone.Caller j h)) = some_at_all _ i (callers j).signals h
  unwoken i (IsBeingWoken.Raised ring (Someone.Worker j h)) = some_at_all (raises (place_at c x j)) (record { worker = i; ring = ring }) (owes_parts (place_at c x j) (each_still j).owes).1 h
  unwoken i (IsBeingWoken.Raised ring (Someone.Caller j h)) = some_at_all _ (record { worker = i; ring = ring }) (callers j).raises h
  unwoken i (IsBeingWoken.Passed k (own, gated, holds, (j, passes))) = none-some _ (sym (each_still j).passes ∙ passes)
  unwoken i (IsBeingWoken.Handed (j, hands)) = none-some i (sym (each_still j).hands ∙ hands)

  parked : (i : ℕ) → is_awake (seat_of s i).rest ≡ false → IsParked c x i
  parked i asleep = record { asleep = ap not asleep; left = unwoken i }

  -- WHO HASN'T PASSED THE BARRIER would sleep without having heard of the stop

  no_letters : (i : ℕ) → (own_of x.world i).owed ≡ []
  no_letters i = let seat = seat_of s i in stops.sent i (elim (each_stands i) [
    | inl asleep ↦ lazy (not (is_awake seat.rest)) (has_ended seat.phase) (seat.pool && seat.left) (inl (ap not asleep))
    | inr (inl over) ↦ lazy (not (is_awake seat.rest)) (has_ended seat.phase) (seat.pool && seat.left) (inr (inl over))
    | inr (inr waits) ↦ let parts = not_held seat.pool seat.left (all_left s) waits in lazy (not (is_awake seat.rest)) (has_ended seat.phase) (seat.pool && seat.left) (inr (inr (rw (parts.0, parts.1) refl)))
  ])

  module _ (q : ℕ) (pool : (seat_of s q).pool ≡ true) (early : (seat_of s q).left ≡ false) (asleep : is_awake (seat_of s q).rest ≡ false) (stopped : s.stopped ≡ true) where
    abbrev root : Task
    root = task_of s (own_of x.world q).root

    not_zero : is_open (seat_of s q).phase ≡ true → q ≢ 0
    not_zero opened is = true≢false (sym (subst (λ n. is_open (seat_of s n).phase ≡ true) is opened) ∙ stops.zero stopped)

    unheard : is_open (seat_of s q).phase ≡ true → ⊥
    unheard opened =
        let it = sleepers.parked q opened (parked q asleep) in
        let apart = not_zero opened in
        let going = open_root it opened in
        let waits = idle_by root (root_idle it apart going) going in
        false≢true (sym (rw (empty_inbox (seat_of s q) it.messages, empty_owes q (own_of x.world 0) (no_letters 0)) refl) ∙ stops.told q pool apart stopped waits)
      where
        open_root : HasNothingToDo c x q → is_open (seat_of s q).phase ≡ true → is_done root.phase ≡ false
        open_root it opened = sym (ap (λ b. b && is_done root.phase) opened) ∙ it.stays

        root_idle : HasNothingToDo c x q → q ≢ 0 → is_done root.phase ≡ false → is_runnable root.phase ≡ false
        root_idle it apart going = elim ((slice_get_cases s.tasks (own_of x.world q).root).1) [
          | inl found ↦
              let is = get_or_from_slice_get s.tasks (own_of x.world q).root found.0 no_task found.2 in
              subst (λ (t : Task). is_runnable t.phase ≡ false) (sym is) (it.root (own_of x.world q).root found.0 found.2 (ap (λ (t : Task). t.home) (sym is) ∙ (stops.roots q pool apart).home)).0
          | inr gone ↦ absurd (true≢false (sym (ap (λ (t : Task). is_done t.phase) (get_or_past s.tasks (own_of x.world q).root no_task gone.0)) ∙ going))
        ]

    never : ⊥
    never = elim (phases (seat_of s q).phase) [
      | inl opened ↦ unheard opened
      | inr (inl closes) ↦ true≢false (sym (given.past q (given.closing q closes (held.abed q (ap not asleep))) pool) ∙ early)
      | inr (inr over) ↦ true≢false (sym (stops.over q pool over) ∙ early)
    ]

  passes : (i : ℕ) → is_held s (seat_of s i) ≡ false
  passes i = false_from_ne_true _ (λ waits.
      let seat = seat_of s i in
      let parts = not_held seat.pool seat.left (all_left s) waits in
      let one = one_fails (λ (seat : Seat). seat.left || not seat.pool) no_seat s.seats parts.2 in
      let its = not_left (seat_of s one.0).left (seat_of s one.0).pool one.1 in
      let stopped = (stops.left i parts.0 parts.1).0 in
      elim (each_stands one.0) [
        | inl asleep ↦ never one.0 its.1 its.0 asleep stopped
        | inr (inl over) ↦ true≢false (sym (stops.over one.0 its.1 over) ∙ its.0)
        | inr (inr stays) ↦ true≢false (sym (not_held (seat_of s one.0).pool (seat_of s one.0).left (all_left s) stays).1 ∙ its.0)
      ])

  -- A REQUEST THAT ISN'T OVER: its worker sleeps, and either the kernel has it, or one that it waits for

  asleep_of : (k : ℕ) → is_resolved (request_of s k).phase ≡ false → is_awake (seat_of s (request_of s k).worker).rest ≡ false
  asleep_of k going = elim (each_stands (request_of s k).worker) [
    | inl asleep ↦ asleep
    | inr (inl over) ↦ absurd (true≢false (sym (has_let_go x.world booked (request_of s k).worker k over refl).0 ∙ going))
    | inr (inr stays) ↦ absurd (true≢false (sym stays ∙ passes (request_of s k).worker))
  ]

  -- where its ring is full the kernel has all that is there
  full_flies : (i : ℕ) → is_awake (seat_of s i).rest ≡ false → nat_lt (own_of x.world i).in_flight (ring_size c) ≡ false → (k : ℕ) × (is_flying (request_of s k).phase ≡ true)
  full_flies i asleep full =
      let one = one_flies i s.requests (subst (λ n. 0 < n) (booked.flying i) (places (own_of x.world i).in_flight (ring_size c) (some_places c) full)) in
      let out = (sleepers.entered i (ap not asleep)).requests one.0 one.1 in
      (one.0, flies_by (request_of s one.0).phase one.2 out.0 out.1)

  flies : (k : ℕ) → is_resolved (request_of s k).phase ≡ false → (n : ℕ) × (is_flying (request_of s n).phase ≡ true)
  flies k going = by (sleepers.held_up k going (parked (request_of s k).worker (asleep_of k going)))
    where
      -- the holder of a permit doesn't wait for one
      holds : (h : ℕ) → (open_of s (request_of s h).operation.target).holder ≡ Some h → is_resolved (request_of s h).phase ≡ false → (n : ℕ) × (is_flying (request_of s n).phase ≡ true)
      holds h has there = let asleep = asleep_of h there in elim (sleepers.held_up h there (parked (request_of s h).worker asleep)) [
        | IsHeldUp.WithKernel flying ↦ (h, flying)
        | IsHeldUp.WaitsForPlace queued full ↦ full_flies (request_of s h).worker asleep full
        | IsHeldUp.WaitsForPermit other gated is apart over ↦ absurd (apart (ap (λ o. unwrap_or o 0) (sym is ∙ has)))
      ]

      by : IsHeldUp c x k → (n : ℕ) × (is_flying (request_of s n).phase ≡ true)
      by (IsHeldUp.WithKernel flying) = (k, flying)
      by (IsHeldUp.WaitsForPlace queued full) = full_flies (request_of s k).worker (asleep_of k going) full
      by (IsHeldUp.WaitsForPermit h gated is apart there) = holds h (ap (λ f. (open_of s f).holder) (holder_going c x given (request_of s k).operation.target h is).1 ∙ is) there

  kernel : (i : ℕ) → is_closing (seat_of s i).phase ≡ true → (k : ℕ) × (is_flying (request_of s k).phase ≡ true)
  kernel i closes = elim (each_stands i) [
    | inl asleep ↦ let some = (sleepers.closing i closes (parked i asleep)).some in flies some.0 some.2
    | inr (inl over) ↦ absurd (not_both (seat_of s i).phase closes over)
    | inr (inr stays) ↦ absurd (true≢false (sym stays ∙ passes i))
  ]

pub shuts_down : (c : Configuration) (x : Playing) → IsPlaced c x → IsGiven c x → IsRestful c x → IsBooked x.world → StopsAll c x.world → NobodySleepsOnWork c x → ShutsDown x.world
shuts_down c x placed given held booked stops sleepers = record { passes = passes c x placed given held booked stops sleepers; kernel = kernel c x placed given held booked stops sleepers }
