-- How many requests of a worker are in flight, after an event of a worker.
use Rattle.std.proofs.{Common.{◌≡◌, ◌≢◌, ℕ, ◌<◌, ◌==◌, ◌&&◌, ◌+◌, Bool, true, false, cond, List, [], ◌∷◌, ◌++◌, length, Option, refl, sym, ap, ◌∙◌, arith, get_or, set}, lemmas.{Bool.{true≢false, eq-eqb, ne_eqb, ltb-true, ltb-false}, List.{get_or_past, Sums.{sum_by-set, sum_by_push}}}, Math.Bool.and-false}
use Rattle.exec_outcomes.specs.declared.outcome.{OpResult.OpResult, Outcome.Outcome}
use Rattle.exec_machine.specs.{declared.{config.Configuration.Configuration, event.Event.{Event, Event as event}, state.{Request.Request, RequestPhase.RequestPhase}}, After.{common_after, own_after}, Allowed.Allowed, Choice.Choice, Requests.{reaped, staged}, Tests.{is_in_flight, is_landed_with, is_queued, is_resolved}, World.{Common, Own as Books, no_request, request_of}}
use Rattle.exec_books.{specs.Booked.flying_of, proofs.{CountedFresh.{made, made_is, no_made}, CountedMany.{same_count, and_true}, CountedOwn.in_flight_kept, CountedTurns.{Turns, aground, moves_flight}, MinePhases.{landed_open, queued_open}, Own.IsOwn}}

-- ONE REQUEST

-- of worker j and in flight
abbrev flies : ℕ → Request → Bool
flies j r = (r.worker == j) && is_in_flight r.phase

nobody : (j : ℕ) → flies j no_request ≡ false
nobody j = and-false (0 == j)

landed_flies : (n : OpResult) (p : RequestPhase) → is_landed_with n p ≡ true → is_in_flight p ≡ true
landed_flies = grind arith

reaped_aground : (n : OpResult) (outcome : Option Outcome) (r : Request) → is_in_flight (reaped n outcome r).phase ≡ false
reaped_aground = grind arith

reaped_worker : (n : OpResult) (outcome : Option Outcome) (r : Request) → (reaped n outcome r).worker ≡ r.worker
reaped_worker = grind arith

-- one that isn't over is there
within_by : (s : Common) (r : ℕ) → is_resolved (request_of s r).phase ≡ false → r < length s.requests
within_by = grind (arith, ltb-true, true≢false, get_or_past, ltb-false)

-- EVENTS

alike : (e : Event) (j : ℕ) (rs ss : List Request) → moves_flight e ≡ false → ((k : ℕ) → Turns e k (get_or rs k no_request) (get_or ss k no_request)) → flying_of j ss ≡ flying_of j rs
alike e j rs ss calm turns = same_count (flies j) (nobody j) rs ss (λ k. rw ((turns k).worker, (turns k).flying calm) refl)

module _ (c : Configuration) (me : Books) (s : Common) (i : ℕ) where
  -- a request that is made isn't in flight
  made_flies : (outcome : Option Outcome) (j : ℕ) → flying_of j (s.requests ++ made c me s i outcome ∷ []) ≡ flying_of j s.requests
  made_flies = grind (arith, made_is, made, and-false, sum_by_push)

  -- none comes into flight or out of it
  still : (e : Event) (choice : Choice) → Allowed c me s i e choice → moves_flight e ≡ false → (j : ℕ) → flying_of j (common_after c me s i e choice).requests ≡ flying_of j s.requests
  still (event.Stage r) choice h calm j = absurd (true≢false calm)
  still (event.Reap r n outcome) choice h calm j = absurd (true≢false calm)
  still (event.Admit r kind outcome) choice h calm j = made_flies outcome j
  still e choice h calm j = alike e j s.requests (common_after c me s i e choice).requests calm (no_made c me s i e choice h refl)

  -- one that is staged counts for its worker, and one that is reaped doesn't any more
  staged_counts : (r j : ℕ) (b : Bool) → is_queued (request_of s r).phase ≡ true → ((request_of s r).worker == j) ≡ b
      → flying_of j (set s.requests r (staged s (request_of s r))) ≡ flying_of j s.requests + cond b 1 0
  staged_counts r j b queued is =
      let it = request_of s r in
      let before : flies j it ≡ false = ap (λ v. (it.worker == j) && v) (aground it.phase queued) ∙ and-false (it.worker == j) in
      let sums = sum_by-set (λ y. cond (flies j y) 1 0) s.requests r (staged s it) no_request (within_by s r (queued_open it.phase queued)) in
      omega (arith, sums, ap {B = ℕ} (λ v. cond v 1 0) before, ap {B = ℕ} (λ v. cond v 1 0) (and_true (it.worker == j) b is))

  reaped_counts : (r j : ℕ) (n : OpResult) (outcome : Option Outcome) (b : Bool) → is_landed_with n (request_of s r).phase ≡ true → ((request_of s r).worker == j) ≡ b
      → flying_of j (set s.requests r (reaped n outcome (request_of s r))) + cond b 1 0 ≡ flying_of j s.requests
  reaped_counts = grind (arith, landed_flies, landed_open, reaped_aground, reaped_worker, and_true, and-false, sum_by-set, within_by)

  pub flying_elsewhere : (e : Event) (choice : Choice) → Allowed c me s i e choice → IsOwn s i e → (j : ℕ) → j ≢ i → flying_of j (common_after c me s i e choice).requests ≡ flying_of j s.requests
  flying_elsewhere (event.Stage r) choice h own j apart =
      staged_counts r j false h.1.1.1.0 (ne_eqb (request_of s r).worker j (λ is. apart (sym is ∙ own))) ∙ omega arith
  flying_elsewhere (event.Reap r n outcome) choice h own j apart =
      omega (arith, reaped_counts r j n outcome false h.1.1.1.0 (ne_eqb (request_of s r).worker j (λ is. apart (sym is ∙ own))))
  flying_elsewhere e choice h own j apart = still e choice h refl j

  pub flying_here : (e : Event) (choice : Choice) → Allowed c me s i e choice → IsOwn s i e → me.in_flight ≡ flying_of i s.requests
      → (own_after c me s i e choice).in_flight ≡ flying_of i (common_after c me s i e choice).requests
  flying_here (event.Stage r) choice h own was =
      let more = staged_counts r i true h.1.1.1.0 (eq-eqb (request_of s r).worker i own) in ap (λ n. n + 1) was ∙ sym more
  flying_here (event.Reap r n outcome) choice h own was =
      let fewer = reaped_counts r i n outcome true h.1.1.1.0 (eq-eqb (request_of s r).worker i own) in omega (arith, fewer, was)
  flying_here e choice h own was = in_flight_kept c me s i e choice refl ∙ was ∙ sym (still e choice h refl i)
