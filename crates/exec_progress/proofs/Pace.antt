-- Each worker keeps pace: so it does in the first state, and each step keeps it.
use Rattle.std.proofs.{Common.{◌≡◌, ℕ, zero, suc, ◌≤◌, Bool, true, length, get_or, set, refl, subst, arith}, lemmas.{Bool.cases_Bool, List.get_or_past}}
use Rattle.exec_machine.specs.{declared.{config.Configuration.Configuration, event.Event.Event, step.Action.{Action, Action as action}}, Progress.Plan, World.{Common, own_of, request_of, task_of}}
use Rattle.exec_moves.specs.{Move.move, Plays.{Playing, by_action, by_step, caller_of, desk_of, first_desk, first_desks, first_playing, newcomers}, State.{Desk, Moved, Things}}
use Rattle.exec_credit.specs.Spins.{IsWithin}
use Rattle.exec_rest.{specs.Rested.{IsLaidOut, is_in_pool, place_at}, proofs.{Bare.joined, BareMoves.put_in, CallSeats.{going_seated, spawn_begun, wake_begun}, Frames.pool_after, Others.{beside, is_other}}}
use Rattle.exec_progress.{specs.{Paced.{HavePace, KeepsPace}, Going.KnowsTail}, proofs.WildMoves.{off_pace, pace_at}}

-- THE FIRST STATE

-- each of the first desks is one
pub each_first : (P : Desk → Type 0) (c : Configuration) → ((k : ℕ) → P (first_desk c k)) → (n k i : ℕ) (d : Desk) → P d → P (get_or (first_desks c n k) i d)
each_first P c first zero k i d past = past
each_first P c first (suc n) k zero d past = first k
each_first P c first (suc n) k (suc i) d past = each_first P c first n (suc k) i d past

first_within : (c : Configuration) → c.spin.budget ≤ c.spin.most → IsWithin c.spin (first_desk c 0).spinner
first_within = grind arith

begun_pace : (c : Configuration) (pool : Bool) → IsWithin c.spin (first_desk c 0).spinner → (k : ℕ) → KeepsPace c pool (first_desk c k)
begun_pace c pool within k = off_pace c pool (first_desk c k) within refl refl refl tt

pub pace_first : (p : Plan) → p.config.spin.budget ≤ p.config.spin.most → HavePace p.config (first_playing p)
pace_first p le i =
    let c = p.config in
    let begun = begun_pace c (is_in_pool c (first_playing p) i) (first_within c le) in
    each_first (KeepsPace c (is_in_pool c (first_playing p) i)) c begun c.workers 0 i (first_desk c i) (begun i)

-- EACH STEP

-- the desk of a worker that begins, or none
pub newcomer : (P : Desk → Type 0) (c : Configuration) → ((k : ℕ) → P (first_desk c k)) → (e : Event) (j n : ℕ) → P (get_or (newcomers c e) n (first_desk c j))
newcomer = grind arith

module _ (c : Configuration) (x : Playing) (laid : IsLaidOut c x) (pace : HavePace c x) (claims : (i : ℕ) → KnowsTail c x.things (place_at c x i)) where
  abbrev s : Common
  s = x.world.common

  -- a desk that worker j may have
  abbrev Keeps : ℕ → Desk → Type 0
  Keeps j d = KeepsPace c (is_in_pool c x j) d

  -- whoever is past the last worker has one that begins
  begun : (j k : ℕ) → Keeps j (first_desk c k)
  begun j = begun_pace c (is_in_pool c x j) (subst (λ (d : Desk). IsWithin c.spin d.spinner) (get_or_past x.desks (length x.desks) (first_desk c (length x.desks)) (omega arith)) (pace (length x.desks)).budget)

  keeps : (y : Playing) → ((j : ℕ) → is_in_pool c y j ≡ is_in_pool c x j) → ((j : ℕ) → Keeps j (desk_of c y j)) → HavePace c y
  keeps y pool desks j = rw (pool j) (desks j)

  by_work : (i : ℕ) → HavePace c (by_action c x (action.Work i)).next
  by_work i =
      let d = desk_of c x i in
      let me = own_of x.world i in
      let m : Moved Things = move c i me s d x.things in
      keeps (by_action c x (action.Work i)).next (pool_after c me s i m.event m.choice) (λ j.
      joined (Keeps j) (set x.desks i m.desk) (newcomers c m.event) j (first_desk c j) (newcomer (Keeps j) c (begun j) m.event j)
      (put_in (Keeps j) x.desks i j m.desk (first_desk c j) (λ is. rw is (pace_at c i me s d x.things (pace i) (claims i))) (pace j)))

  -- what lands is no part of that
  landed : (k j : ℕ) → Keeps j (get_or (set x.desks k (record (desk_of c x k) { others = 0 })) j (first_desk c j))
  landed k j =
      put_in (Keeps j) x.desks k j (record (desk_of c x k) { others = 0 }) (first_desk c j)
      (λ is. rw is (let it = pace k in record { loads = it.loads; moves = it.moves; called_back = it.called_back; budget = it.budget; short = it.short })) (pace j)

  by_other : (a : Action) → is_other a ≡ true → ((j : ℕ) → Keeps j (desk_of c (by_action c x a).next j)) → HavePace c (by_action c x a).next
  by_other a is desks = keeps (by_action c x a).next (λ j. ((beside c x laid a is).workers j).pool) desks

  by_any : (a : Action) → HavePace c (by_action c x a).next
  by_any (action.Work i) = by_work i
  by_any (action.Spawn j k) = keeps (by_action c x (action.Spawn j k)).next (spawn_begun s k).seats.pool pace
  by_any (action.Wake j t) = keeps (by_action c x (action.Wake j t)).next (wake_begun s (caller_of x j) x.things t (task_of s t).home).seats.pool pace
  by_any (action.GoOn j) = keeps (by_action c x (action.GoOn j)).next (going_seated s j _).pool pace
  by_any (action.Clock d) = by_other (action.Clock d) refl pace
  by_any (action.Land r n) = by_other (action.Land r n) refl (landed (request_of s r).worker)
  by_any (action.SetBusy i) = by_other (action.SetBusy i) refl pace
  by_any (action.EndPoll i) = by_other (action.EndPoll i) refl pace
  by_any (action.Stir i) = by_other (action.Stir i) refl pace
  by_any (action.Peer l) = by_other (action.Peer l) refl pace

  -- a step that is not enabled changes nothing
  pub pace_then : (a : Action) → HavePace c (by_step c x a).next
  pace_then = grind (arith, cases_Bool, by_any)
