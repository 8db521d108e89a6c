-- Workers that are not of the pool: nothing is given to their run queues, and these stay empty.
use Rattle.std.proofs.{Common.{◌≡◌, ℕ, zero, suc, Bool, true, false, List, [], ◌∷◌, ◌++◌, map, get_or, set, replicate, refl, sym, ap, ◌∙◌, subst, inl, inr, arith}, lemmas.Bool.{true≢false, cases_Bool}}
use Rattle.exec_machine.specs.{declared.{config.Configuration.Configuration, event.Event.Event, step.Action.{Action, Action as action}}, Callers.{after_going_on, after_spawn_by_call, after_wake_by_call}, Choice.Choice, Deadlines.roused_at, Progress.Plan, World.{Common, Own as Books, Seat, no_seat, own_of, request_of, seat_of}}
use Rattle.exec_moves.specs.{declared.place.Place.Place, Callback.is_of_pool, Move.move, Plays.{Playing, by_action, by_step, desk_of, first_desk, first_desks, first_playing, newcomers}, State.{Desk, Moved, Things, no_queue}}
use Rattle.exec_rest.{specs.{AtRest.{AreBare, IsBare, is_fed, is_given}, Rested.{IsLaidOut, is_in_pool, place_at}}, proofs.{Frames.pool_after, BareMoves.{call_kept, put_in, wake_kept, worker_bare}, Given.given_move}}

-- THE FIRST STATE

all_bare : (n i : ℕ) → IsBare (get_or (replicate n no_queue) i no_queue)
all_bare zero i = (refl, refl)
all_bare (suc n) zero = (refl, refl)
all_bare (suc n) (suc i) = all_bare n i

-- every worker begins at the beginning of a turn
all_begin : (c : Configuration) (n k i : ℕ) → is_given (get_or (first_desks c n k) i (first_desk c i)).place ≡ false
all_begin c zero k i = refl
all_begin c (suc n) k zero = refl
all_begin c (suc n) k (suc i) = elsewhere (first_desks c n (suc k)) i (all_begin c n (suc k) i)
  where
    -- whose number the default has doesn't matter
    elsewhere : (ds : List Desk) (j : ℕ) → is_given (get_or ds j (first_desk c i)).place ≡ false → is_given (get_or ds j (first_desk c (suc i))).place ≡ false
    elsewhere [] j h = refl
    elsewhere (d ∷ ds) zero h = h
    elsewhere (d ∷ ds) (suc j) h = elsewhere ds j h

pub bare_first : (p : Plan) → AreBare p.config (first_playing p)
bare_first = grind (arith, true≢false, all_begin, all_bare)

abbrev is_work : Action → Bool
is_work (action.Work i) = true
is_work _ = false

-- WHO IS OF THE POOL stays so by steps that are no worker's

clock_pooled : (clock : ℕ) (xs : List Seat) (j : ℕ) → (get_or (map (roused_at clock) xs) j no_seat).pool ≡ (get_or xs j no_seat).pool
clock_pooled clock [] j = refl
clock_pooled clock (x ∷ xs) zero = refl
clock_pooled clock (x ∷ xs) (suc j) = clock_pooled clock xs j

module _ (s : Common) (j : ℕ) where
  abbrev Pooled : Common → Type 0
  Pooled t = is_of_pool t j ≡ is_of_pool s j

  seat_pooled : (k : ℕ) (y : Seat) → y.pool ≡ (seat_of s k).pool → (get_or (set s.seats k y) j no_seat).pool ≡ (get_or s.seats j no_seat).pool
  seat_pooled k y is = put_in (λ a. a.pool ≡ (seat_of s j).pool) s.seats k j y no_seat (λ at. is ∙ ap (λ n. (seat_of s n).pool) (sym at)) refl

  spawn_pooled : (k : ℕ) (e : Event) → Pooled (after_spawn_by_call s k e)
  spawn_pooled = grind arith

  wake_pooled : (t : ℕ) (e : Event) (choice : Choice) → Pooled (after_wake_by_call s t e choice)
  wake_pooled = grind (arith, cases_Bool, seat_pooled)

  going_pooled : (k : ℕ) (e : Event) → Pooled (after_going_on s k e)
  going_pooled = grind (arith, seat_pooled)

-- WHO IS GIVEN SOMETHING

-- one more desk at the end: of worker j it is what it was, or that of one that begins
pub joined : (P : Desk → Type 0) (xs more : List Desk) (j : ℕ) (d : Desk) → ((n : ℕ) → P (get_or more n d)) → P (get_or xs j d) → P (get_or (xs ++ more) j d)
joined P [] more j d there h = there j
joined P (x ∷ xs) more zero d there h = h
joined P (x ∷ xs) more (suc j) d there h = joined P xs more j d there h

-- a worker that a step makes begins a turn
born : (c : Configuration) (e : Event) (j n : ℕ) → is_given (get_or (newcomers c e) n (first_desk c j)).place ≡ false
born = grind arith

-- EACH STEP

module _ (c : Configuration) (x : Playing) (are : AreBare c x) where
  abbrev s : Common
  s = x.world.common

  -- a desk that worker j may have
  abbrev MayHave : ℕ → Desk → Type 0
  MayHave j d = is_given d.place ≡ true → is_in_pool c x j ≡ true

  -- no run queue is touched, and no seat goes over into the pool or out of it
  kept : (y : Playing) → ((j : ℕ) → is_in_pool c y j ≡ is_in_pool c x j) → ((j : ℕ) → MayHave j (desk_of c y j)) → y.things.queues ≡ x.things.queues → AreBare c y
  kept = grind arith

  pool_kept : (a : Action) → is_work a ≡ false → (j : ℕ) → is_in_pool c (by_action c x a).next j ≡ is_in_pool c x j
  pool_kept = grind (arith, true≢false, spawn_pooled, wake_pooled, going_pooled, clock_pooled, seat_pooled)

  -- none but a worker goes elsewhere by its steps
  places_kept : (a : Action) → is_work a ≡ false → (j : ℕ) → MayHave j (desk_of c (by_action c x a).next j)
  places_kept (action.Work i) idle j = absurd (true≢false idle)
  places_kept (action.Land r n) idle j =
      let k = (request_of s r).worker in
      put_in (MayHave j) x.desks k j (record (desk_of c x k) { others = 0 }) (first_desk c j) (λ is. subst (λ l. MayHave j (desk_of c x l)) is (are.given j)) (are.given j)
  places_kept _ idle j = are.given j

  by_other : (a : Action) → is_work a ≡ false → (by_action c x a).next.things.queues ≡ x.things.queues → AreBare c (by_action c x a).next
  by_other a idle queues = kept (by_action c x a).next (pool_kept a idle) (places_kept a idle) queues

  by_worker : ((i : ℕ) → is_fed (place_at c x i) ≡ true → is_in_pool c x i ≡ true) → (i : ℕ) → AreBare c (by_action c x (action.Work i)).next
  by_worker fed i =
      record {
        given = λ j h. still j ∙ may j h;
        bare = λ j outside. worker_bare c i me s d x.things j (off is_fed fed j outside) (off is_given are.given j outside) (are.bare j (sym (still j) ∙ outside));
      }
    where
      me : Books
      me = own_of x.world i

      d : Desk
      d = desk_of c x i

      m : Moved Things
      m = move c i me s d x.things

      next : Playing
      next = (by_action c x (action.Work i)).next

      still : (j : ℕ) → is_in_pool c next j ≡ is_in_pool c x j
      still j = pool_after c me s i m.event m.choice j

      -- who stands at such a place is of the pool
      off : (test : Place → Bool) → ((k : ℕ) → test (place_at c x k) ≡ true → is_in_pool c x k ≡ true) → (j : ℕ) → is_in_pool c next j ≡ false → j ≡ i → test d.place ≡ false
      off test pooled j outside is = elim (cases_Bool (test d.place)) [
        | inl h ↦ absurd (true≢false (sym (pooled i h) ∙ ap (is_in_pool c x) (sym is) ∙ sym (still j) ∙ outside))
        | inr h ↦ h
      ]

      may : (j : ℕ) → MayHave j (desk_of c next j)
      may j =
          joined (MayHave j) (set x.desks i m.desk) (newcomers c m.event) j (first_desk c j) (λ n h. absurd (true≢false (sym h ∙ born c m.event j n)))
          (put_in (MayHave j) x.desks i j m.desk (first_desk c j) (λ is h. ap (is_in_pool c x) is ∙ given_move c i me s d x.things (are.given i) h) (are.given j))

bare_then : (c : Configuration) (x : Playing) → ((i : ℕ) → is_fed (place_at c x i) ≡ true → is_in_pool c x i ≡ true) → AreBare c x → (a : Action) → AreBare c (by_action c x a).next
bare_then = grind (arith, by_worker, by_other, wake_kept, call_kept)

-- a step that is not enabled changes nothing
pub bare_goes_on : (c : Configuration) (x : Playing) → IsLaidOut c x → ((i : ℕ) → is_fed (place_at c x i) ≡ true → is_in_pool c x i ≡ true) → AreBare c x → (a : Action) → AreBare c (by_step c x a).next
bare_goes_on = grind (arith, cases_Bool, bare_then)
