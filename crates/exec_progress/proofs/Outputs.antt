-- Each output that is left is of a request whose slot is free: in the first state, and after each step.
use Rattle.std.proofs.{Common.{◌≡◌, ℕ, zero, suc, ◌+◌, ◌≤◌, true, false, List, [], ◌∷◌, ◌++◌, length, get_or, set, refl, subst, arith, inl, inr}, lemmas.{Bool.{cases_Bool, false≢true}, List.{length-append, length-set}}}
use Rattle.exec_machine.specs.{declared.{config.Configuration.Configuration, event.Event.{Event, Event as event}, state.Request.Request, step.Action.{Action, Action as action}}, After.common_after, Callers.{after_going_on, after_spawn_by_call, after_wake_by_call, common_by}, Choice.{Choice, Choice.Plain}, Progress.Plan, Run.Follows, Tests.is_resolved, World.{Common, Own as Books, own_of, request_of}}
use Rattle.exec_moves.specs.{Move.move, MoveOfCaller.move_of_caller, Plays.{Playing, by_action, by_step, caller_of, desk_of, first_desk, first_desks, first_playing, newcomers}, Slots.numbers_in, State.{Desk, Moved, Things}, Told.has_number}
use Rattle.exec_books.proofs.Spares.{no_fewer}
use Rattle.exec_rest.proofs.BareMoves.{put_in}
use Rattle.exec_settled.specs.Given.{IsGiven}
use Rattle.exec_progress.{specs.Paced.HaveOutputs, proofs.{OutputMoves.{fits, is_admit}, OutputSlots.fill}}

-- THE FIRST STATE: none, and no slots
none_left : (c : Configuration) (n from i : ℕ) (d : Desk) → fill d ≡ 0 → fill (get_or (first_desks c n from) i d) ≡ 0
none_left c zero from i d none = none
none_left c (suc n) from zero d none = refl
none_left c (suc n) from (suc i) d none = none_left c n (suc from) i d none

pub outputs_first : (p : Plan) → HaveOutputs p.config (first_playing p)
outputs_first p i = omega (arith, none_left p.config p.config.workers 0 i (first_desk p.config i) refl)

-- HOW MANY REQUESTS THERE ARE: one more by an admission, and as many by a step that is no worker's
longer : (rs : List Request) (y : Request) → length rs + 1 ≤ length (rs ++ y ∷ [])
longer rs y = omega (arith, length-append rs (y ∷ []))

one_more : (c : Configuration) (me : Books) (s : Common) (i : ℕ) (e : Event) (choice : Choice) → is_admit e ≡ true → length s.requests + 1 ≤ length (common_after c me s i e choice).requests
one_more c me s i (event.Admit r kind outcome) choice is = longer s.requests _
one_more c me s i _ choice is = absurd (false≢true is)

spawn_same : (s : Common) (k : ℕ) (e : Event) → (after_spawn_by_call s k e).requests ≡ s.requests
spawn_same s k (event.Spawn t script) = refl
spawn_same s k _ = refl

wake_same : (s : Common) (t : ℕ) (e : Event) (choice : Choice) → (after_wake_by_call s t e choice).requests ≡ s.requests
wake_same = grind arith

going_same : (s : Common) (j : ℕ) (e : Event) → (after_going_on s j e).requests ≡ s.requests
going_same = grind arith

so_many : (s : Common) (a : Action) (e : Event) (choice : Choice) → length (common_by s a e choice).requests ≡ length s.requests
so_many = grind (arith, spawn_same, wake_same, going_same, length-set)

-- DESKS: of one more at the end holds what holds of one that begins
joined : (P : Desk → Type 0) (xs more : List Desk) (j : ℕ) (d : Desk) → ((n : ℕ) → P (get_or more n d)) → P (get_or xs j d) → P (get_or (xs ++ more) j d)
joined P [] more j d there h = there j
joined P (x ∷ xs) more zero d there h = h
joined P (x ∷ xs) more (suc j) d there h = joined P xs more j d there h

born : (c : Configuration) (e : Event) (j n : ℕ) → fill (get_or (newcomers c e) n (first_desk c j)) ≡ 0
born = grind arith

-- EACH STEP
module _ (c : Configuration) (x : Playing) (given : IsGiven c x) (held : HaveOutputs c x) where
  abbrev s : Common
  s = x.world.common

  by_worker : (i : ℕ) → (let it = (by_action c x (action.Work i)).told in Follows c x.world (action.Work i) it.0.said it.1) → HaveOutputs c (by_action c x (action.Work i)).next
  by_worker i follows j =
      joined Within (set x.desks i m.desk) (newcomers c m.event) j (first_desk c j) (λ n. omega (arith, born c m.event j n))
      (put_in Within x.desks i j m.desk (first_desk c j) (λ is. own) (omega (arith, held j, more)))
    where
      me : Books
      me = own_of x.world i

      d : Desk
      d = desk_of c x i

      m : Moved Things
      m = move c i me s d x.things

      late : Common
      late = common_after c me s i m.event m.choice

      Within : Desk → Type 0
      Within e = fill e ≤ length late.requests

      more : length s.requests ≤ length late.requests
      more = no_fewer c me s i m.event m.choice

      slots : (k : ℕ) → (request_of s k).worker ≡ i → is_resolved (request_of s k).phase ≡ false → has_number k (numbers_in d.requests.held) ≡ true
      slots k mine going = subst (λ n. has_number k (numbers_in (desk_of c x n).requests.held) ≡ true) mine (given.slots k going)

      own : Within m.desk
      own = elim (fits c i me s d x.things slots d.place follows.1) [
        | inl same ↦ omega (arith, same, held i, more)
        | inr one ↦ omega (arith, one.0, held i, one_more c me s i m.event m.choice one.1)
      ]

  by_any : (a : Action) → (let it = (by_action c x a).told in Follows c x.world a it.0.said it.1) → HaveOutputs c (by_action c x a).next
  by_any (action.Work i) follows j = by_worker i follows j
  by_any (action.Land r n) follows j =
      let k = (request_of s r).worker in
      let e = record (desk_of c x k) { others = 0 } in
      let as_many = so_many s (action.Land r n) event.Land Plain in
      put_in (λ d. fill d ≤ length (by_action c x (action.Land r n)).next.world.common.requests) x.desks k j e (first_desk c j) (λ is. omega (arith, held k, as_many)) (omega (arith, held j, as_many))
  by_any (action.Spawn k script) follows j =
      let m = move_of_caller c s (caller_of x k) x.things (action.Spawn k script) in omega (arith, held j, so_many s (action.Spawn k script) m.event m.choice)
  by_any (action.Wake k t) follows j = let m = move_of_caller c s (caller_of x k) x.things (action.Wake k t) in omega (arith, held j, so_many s (action.Wake k t) m.event m.choice)
  by_any (action.GoOn k) follows j = let m = move_of_caller c s (caller_of x k) x.things (action.GoOn k) in omega (arith, held j, so_many s (action.GoOn k) m.event m.choice)
  by_any _ follows j = held j

pub outputs_then : (c : Configuration) (x : Playing) → IsGiven c x → HaveOutputs c x → (a : Action) → let it = (by_step c x a).told in
    Follows c x.world a it.0.said it.1 → HaveOutputs c (by_step c x a).next
outputs_then = grind (arith, cases_Bool, by_any)
