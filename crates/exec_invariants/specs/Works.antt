-- What a step of a worker does.
--
-- Each place's step says that it is its move, what else of the worker stays, and what becomes of the one thing that it names
-- (`exec_parts`). From these follows, for a group of places, what a step is to the machine (`Works`).
use Rattle.std.specs.Prelude.{◌≡◌, ◌≢◌, ◌≤◌, ◌^◌, ◌∷◌, ◌++◌}
use Rattle.exec_invariants.specs.{Words.{ℕ, suc, [], Option, Some, None, slice_get, length, Said, Event, Choice, AllTrue, new_own, allowed, own_after, common_after, Plan, event, move, first_desk, Shared, Worker, Spot, Views, visible, with_view, own_of, desk_of, common_of, things_with}, Hearing.StillHears, Sound.Sound, Spares.{Spares, SparesMore}, Whole.{Profile, with_worker, IsWhole}}

-- A worker that a step has made is visible behind the others, and has its part of the balances.
abbrev pub with_born : Option Worker → Views → Views
with_born None vs = vs
with_born (Some v) vs = record vs { workers = vs.workers ++ visible v ∷ [] }

-- THE WHOLE STEP

module _ {B : Type 0} where
  -- The executor is one of the plan, and this is visible of its workers.
  pub record Suits (p : Plan) (vs : Views) (w : Worker) (s : Shared B) : Type 0 where
    pub config : s.config ≡ p.config
    pub seen : slice_get vs.workers w.index ≡ Some (visible w)
    pub workers : length vs.workers ≡ length s.seats.items

  -- What a step leaves of what other parties rely on: each other worker's own things are spared, and the balances of all
  -- hold again.
  pub record Beside (w : Worker) (s : Shared B) (w' : Worker) (s' : Shared B) : Type 0 where
    pub spares : (j : ℕ) → j ≢ w.index → Spares j s s'
    pub whole : (others : Profile) → IsWhole (with_worker others w) s → IsWhole (with_worker others w') s'

  -- where it made worker v, the last of all: that is sound then, and begins as the machine and the moves have it
  pub record BesideNewcomer (v : Worker) (w : Worker) (s : Shared B) (e : Event) (w' : Worker) (s' : Shared B) : Type 0 where
    pub tells : e ≡ event.Dedicated v.root v.index
    pub own : own_of v ≡ new_own s.clock v.root
    pub desk : desk_of v ≡ first_desk s.config v.index
    pub spares : (j : ℕ) → j ≢ w.index → SparesMore j s s'
    pub whole : (others : Profile) → IsWhole (with_worker others w) s → IsWhole (with_worker (with_worker others v) w') s'
    pub last : v.index ≡ length s.seats.items
    pub root : v.root ≡ length s.tasks.items
    pub many : length s'.seats.items ≡ suc (length s.seats.items)
    pub few : length s'.seats.items ≤ 2 ^ 32
    pub sound : Sound v s'

  abbrev pub BesideWith : Option Worker → Worker → Shared B → Event → Worker → Shared B → Type 0
  BesideWith None w s e w' s' = Beside w s w' s'
  BesideWith (Some v) w s e w' s' = BesideNewcomer v w s e w' s'

module _ {B L : Type 0} (left : B → L) (spot : L → Option Said → Spot) where
  -- A step of worker w, of a plan and beside workers of whom this is visible: it is the worker's move; the machine allows
  -- its event; and worker and all show what the machine makes of them. It may have made a worker.
  pub record WorksWith (born : Option Worker) (p : Plan) (vs : Views) (w : Worker) (s : Shared B) (e : Event) (w' : Worker) (s' : Shared B) : Type 0 where
    pub choice : Choice
    pub moves : move p.config w.index (own_of w) (common_of left spot p vs s) (desk_of w) (things_with vs s) ≡ record { event = e; choice = choice; desk = desk_of w'; thing = things_with (with_born born (with_view vs w.index (visible w'))) s' }
    pub may : AllTrue (allowed p.config (own_of w) (common_of left spot p vs s) w.index e choice)
    pub own : own_of w' ≡ own_after p.config (own_of w) (common_of left spot p vs s) w.index e choice
    pub common : common_of left spot p (with_born born (with_view vs w.index (visible w'))) s' ≡ common_after p.config (own_of w) (common_of left spot p vs s) w.index e choice

  -- where it made none
  abbrev pub Works : Plan → Views → Worker → Shared B → Event → Worker → Shared B → Type 0
  Works p vs w s e w' s' = WorksWith None p vs w s e w' s'

  -- What a step that is no act does for each plan that suits, what holds then, and what it leaves of others.
  abbrev pub Steps : Worker → Shared B → Event → Worker → Shared B → Type 0
  Steps w s e w' s' = ((p : Plan) (vs : Views) → Suits p vs w s → Works p vs w s e w' s') × Sound w' s' × StillHears w s w' s' × Beside w s w' s'

  -- What can be seen is as before.
  pub record Same (w : Worker) (s : Shared B) (w' : Worker) (s' : Shared B) : Type 0 where
    pub own : own_of w' ≡ own_of w
    pub desk : desk_of w' ≡ desk_of w
    pub things : (vs : Views) → things_with vs s' ≡ things_with vs s
    pub common : (p : Plan) (vs : Views) → common_of left spot p vs s' ≡ common_of left spot p vs s
    pub visible_same : visible w' ≡ visible w
