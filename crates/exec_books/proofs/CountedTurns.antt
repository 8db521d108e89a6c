-- What an event leaves of each request and each sleeper, told of one request and one sleeper.
use Rattle.std.{proofs.{Common.{◌≡◌, ◌≢◌, ℕ, zero, suc, ◌==◌, ◌&&◌, ◌||◌, Bool, true, false, not, List, [], ◌∷◌, ◌++◌, length, map, Option, None, refl, sym, ap, ◌∙◌, inl, inr, arith, get_or, set}, lemmas.Bool.{true≢false, and_parts}}, specs.Prelude.◌⊎◌}
use Rattle.exec_outcomes.specs.declared.outcome.{OpResult.OpResult, Outcome.Outcome}
use Rattle.exec_machine.specs.{declared.{event.Event.{Event, Event as event}, state.{Forwarding.TheVariants.Sent, Request.Request, RequestPhase.RequestPhase, Sleeper.Sleeper, MailMessage.MailMessage as message}}, Deadlines.{enrolled, expired}, Requests.{dropped, ends_by_drop, flown, granted, is_cancelled_by_drop, reaped}, Same.is_none, Tasks.removed, Tests.{is_asleep, is_gated, is_in_flight, is_of_file, is_queued, is_resolved}}
use Rattle.exec_books.proofs.MinePhases.{gated_open, queued_open}

-- LISTS

-- one is another one then
pub each_set : {X : Type 0} (d : X) (P : ℕ → X → X → Type 0) (xs : List X) (k : ℕ) (y : X) → ((j : ℕ) → j ≢ k → (x : X) → P j x x) → P k (get_or xs k d) y → ((j : ℕ) → P j d d)
    → (j : ℕ) → P j (get_or xs j d) (get_or (set xs k y) j d)
each_set d P [] k y other here past j = past j
each_set d P (x ∷ xs) zero y other here past zero = here
each_set d P (x ∷ xs) zero y other here past (suc j) = other (suc j) (λ is. omega (arith, is)) (get_or xs j d)
each_set d P (x ∷ xs) (suc k) y other here past zero = other zero (λ is. omega (arith, is)) x
each_set d P (x ∷ xs) (suc k) y other here past (suc j) =
    each_set d (λ n. P (suc n)) xs k y (λ n apart z. other (suc n) (λ is. apart (omega (arith, is))) z) here (λ n. past (suc n)) j

pub each_map : {X : Type 0} (d : X) (P : X → X → Type 0) (f : X → X) → ((x : X) → P x (f x)) → P d d → (xs : List X) (j : ℕ) → P (get_or xs j d) (get_or (map f xs) j d)
each_map d P f each past [] j = past
each_map d P f each past (x ∷ xs) zero = each x
each_map d P f each past (x ∷ xs) (suc j) = each_map d P f each past xs j

-- what is appended is the last
pub each_push : {X : Type 0} (d : X) (xs : List X) (y : X) (j : ℕ) → (get_or (xs ++ y ∷ []) j d ≡ get_or xs j d) ⊎ ((get_or (xs ++ y ∷ []) j d ≡ y) × (j ≡ length xs))
each_push d [] y zero = inr (refl, refl)
each_push d [] y (suc j) = inl refl
each_push d (x ∷ xs) y zero = inl refl
each_push d (x ∷ xs) y (suc j) = elim (each_push d xs y j) [ inl is ↦ inl is | inr is ↦ inr (is.0, ap suc is.1) ]

-- ONE REQUEST

-- it says that a task waits for request k, or for sleeper z, elsewhere
abbrev pub tells : ℕ → Event → Bool
tells k (event.Send to (message.ForwardRequest r)) = k == r
tells k _ = false

abbrev pub tells_timer : ℕ → Event → Bool
tells_timer z (event.Send to (message.ForwardTimer r)) = z == r
tells_timer z _ = false

abbrev pub releases : Event → Bool
releases (event.Release r) = true
releases _ = false

-- a request comes into flight, or out of it
abbrev pub moves_flight : Event → Bool
moves_flight (event.Stage r) = true
moves_flight (event.Reap r n outcome) = true
moves_flight _ = false

-- it gives request k the permit of its open
abbrev pub grants : ℕ → Event → Bool
grants k (event.Grant r None) = k == r
grants k _ = false

abbrev pub FliesAlike : Event → Request → Request → Type 0
FliesAlike e x y = moves_flight e ≡ false → is_in_flight y.phase ≡ is_in_flight x.phase

abbrev pub Timed : Request → Type 0
Timed r = is_resolved r.phase ≡ true → r.timer ≡ None

abbrev pub Undated : Request → Type 0
Undated r = is_of_file r.operation.kind ≡ true → (r.operation.deadline ≡ None) × (r.timer ≡ None)

abbrev pub LetGo : Request → Type 0
LetGo r = r.released ≡ true → is_resolved r.phase ≡ true

-- it is past the gate of its open, if it was at one, and not over
abbrev pub IsPast : Request → Type 0
IsPast r = (is_gated r.phase ≡ false) × (is_resolved r.phase ≡ false)

-- event e leads from x to y at request k
pub record Turns (e : Event) (k : ℕ) (x y : Request) : Type 0 where
  pub worker : y.worker ≡ x.worker
  pub released : releases e ≡ false → y.released ≡ x.released
  pub flying : FliesAlike e x y
  pub timed : Timed x → Timed y
  pub undated : Undated x → Undated y
  pub let_go : LetGo x → LetGo y
  pub sent : y.forwarding ≡ Sent → (x.forwarding ≡ Sent) ⊎ (tells k e ≡ true)
  pub kind : y.operation.kind ≡ x.operation.kind
  pub target : y.operation.target ≡ x.operation.target
  pub gated : is_gated y.phase ≡ true → is_gated x.phase ≡ true
  pub past : IsPast y → IsPast x ⊎ (grants k e ≡ true)

pub turned : {e : Event} {k : ℕ} {x : Request} → Turns e k x x
turned = record { worker = refl; released = λ calm. refl; flying = λ calm. refl; timed = λ was. was; undated = λ was. was; let_go = λ was. was; sent = λ h. inl h; kind = refl; target = refl; gated = λ h. h; past = λ h. inl h }

pub turns_then : {e : Event} {k : ℕ} {x y z : Request} → Turns e k x y → Turns e k y z → Turns e k x z
turns_then a b =
    record {
      worker = b.worker ∙ a.worker;
      released = λ calm. b.released calm ∙ a.released calm;
      flying = λ calm. b.flying calm ∙ a.flying calm;
      timed = λ was. b.timed (a.timed was);
      undated = λ was. b.undated (a.undated was);
      let_go = λ was. b.let_go (a.let_go was);
      sent = λ h. elim (b.sent h) [ inl before ↦ a.sent before | inr told ↦ inr told ];
      kind = b.kind ∙ a.kind;
      target = b.target ∙ a.target;
      gated = λ h. a.gated (b.gated h);
      past = λ h. elim (b.past h) [ inl before ↦ a.past before | inr granted ↦ inr granted ];
    }

-- no change of a request changes these
pub record Same (x y : Request) : Type 0 where
  pub worker : y.worker ≡ x.worker
  pub released : y.released ≡ x.released
  pub kind : y.operation.kind ≡ x.operation.kind
  pub target : y.operation.target ≡ x.operation.target
  pub deadline : y.operation.deadline ≡ x.operation.deadline
  pub sent : y.forwarding ≡ Sent → x.forwarding ≡ Sent

pub same : {x y : Request} → y.worker ≡ x.worker → y.released ≡ x.released → y.operation.kind ≡ x.operation.kind → y.operation.target ≡ x.operation.target → y.operation.deadline ≡ x.operation.deadline → y.forwarding ≡ x.forwarding
    → Same x y
same worker released kind target deadline forwarding = record { worker = worker; released = released; kind = kind; target = target; deadline = deadline; sent = λ h. sym forwarding ∙ h }

module _ {e : Event} {k : ℕ} {x y : Request} (a : Same x y) where
  -- its phase and its timer stay
  pub marked : y.phase ≡ x.phase → y.timer ≡ x.timer → Turns e k x y
  marked = grind arith

  -- its deadline is off the wheel
  pub untimed : y.phase ≡ x.phase → y.timer ≡ None → Turns e k x y
  untimed = grind arith

  -- it is over
  pub finished : FliesAlike e x y → is_resolved y.phase ≡ true → y.timer ≡ None → Turns e k x y
  finished = grind (arith, gated_open)

  -- it goes on
  pub goes_on : FliesAlike e x y → is_resolved x.phase ≡ false → is_resolved y.phase ≡ false → y.timer ≡ x.timer → is_gated y.phase ≡ false → IsPast x ⊎ (grants k e ≡ true) → Turns e k x y
  goes_on = grind arith

  -- its deadline, which it asks for, goes on the wheel
  pub wheeled : is_resolved x.phase ≡ false → y.phase ≡ x.phase → is_none x.operation.deadline ≡ false → Turns e k x y
  wheeled = grind arith

-- what waits isn't in flight
pub aground : (p : RequestPhase) → is_queued p ≡ true → is_in_flight p ≡ false
aground = grind arith

gated_aground : (p : RequestPhase) → is_gated p ≡ true → is_in_flight p ≡ false
gated_aground = grind arith

module _ (e : Event) (k : ℕ) (r : Request) where
  pub dropped_turns : (ends cancels : Bool) → ends_by_drop r ≡ ends → is_cancelled_by_drop r ≡ cancels → Turns e k r (dropped r)
  dropped_turns = grind (arith, aground, and_parts)

  pub drop_turns : Turns e k r (dropped r)
  drop_turns = dropped_turns (ends_by_drop r) (is_cancelled_by_drop r) refl refl

  pub grant_turns : (outcome : Option Outcome) → is_gated r.phase ≡ true → (is_none outcome ≡ true → grants k e ≡ true) → Turns e k r (granted outcome r)
  grant_turns = grind (arith, goes_on, same, finished, gated_aground, gated_open)

  pub enrol_turns : (moment : ℕ) (outcome : Option Outcome) → is_queued r.phase ≡ true → is_none r.operation.deadline ≡ false → Turns e k r (enrolled moment outcome r)
  enrol_turns = grind (arith, wheeled, same, finished, aground, queued_open)

  pub expire_turns : (outcome : Option Outcome) → (is_none outcome ≡ false → is_queued r.phase ≡ true) → Turns e k r (expired outcome r)
  expire_turns = grind (arith, untimed, same, finished, aground)

  pub reap_turns : (n : OpResult) (outcome : Option Outcome) → moves_flight e ≡ true → IsPast r → Turns e k r (reaped n outcome r)
  reap_turns = grind (arith, goes_on, same, finished, true≢false)

  pub flown_turns : (i : ℕ) → Turns e k r (flown i r)
  flown_turns = grind arith

-- ONE SLEEPER

pub record Naps (e : Event) (z : ℕ) (x y : Sleeper) : Type 0 where
  pub worker : y.worker ≡ x.worker
  pub asleep : (j : ℕ) → is_asleep j x ≡ false → is_asleep j y ≡ false
  pub sent : y.forwarding ≡ Sent → (x.forwarding ≡ Sent) ⊎ (tells_timer z e ≡ true)

pub napped : {e : Event} {z : ℕ} {x : Sleeper} → Naps e z x x
napped = record { worker = refl; asleep = λ j was. was; sent = λ h. inl h }

pub naps_then : {e : Event} {z : ℕ} {w x y : Sleeper} → Naps e z w x → Naps e z x y → Naps e z w y
naps_then = grind arith

-- whether it is asleep can't be told from what changes
pub noted : {e : Event} {z : ℕ} {x y : Sleeper} → y.worker ≡ x.worker → y.fired ≡ x.fired → y.removed ≡ x.removed → (y.forwarding ≡ Sent → x.forwarding ≡ Sent) → Naps e z x y
noted worker fired removed sent = record { worker = worker; asleep = λ j was. rw (worker, fired, removed) was; sent = λ h. inl (sent h) }

no_and_and : (a b : Bool) → (a && false && b) ≡ false
no_and_and = grind arith

awake_then : (w f r : Bool) → (w && not f && not (r || not f)) ≡ false
awake_then = grind arith

-- one that was taken away is not asleep
pub removed_awake : (j : ℕ) (x : Sleeper) → is_asleep j (removed x) ≡ false
removed_awake j x = awake_then (x.worker == j) x.fired x.removed

pub removed_naps : (e : Event) (z : ℕ) (x : Sleeper) → Naps e z x (removed x)
removed_naps e z x = record { worker = refl; asleep = λ j was. removed_awake j x; sent = λ h. inl h }

pub fired_naps : (e : Event) (z : ℕ) (x : Sleeper) → Naps e z x (record x { fired = true })
fired_naps e z x = record { worker = refl; asleep = λ j was. no_and_and (x.worker == j) (not x.removed); sent = λ h. inl h }
