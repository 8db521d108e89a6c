-- What has landed, as a driver and the records of its requests change.
use Rattle.exec_invariants.{proofs.{Names.{◌≡◌, ℕ, ◌≤◌, ◌==◌, Bool, true, false, List, [], ◌∷◌, map, Option, Some, refl, sym, ap, subst, ◌∙◌, arith, slice_get, slice_index_or, deque_capacity, vec_capacity, ◌+◌, length, Id, OpResult, result_in, Completion, waiter_at, Waiter, WaiterId, Driving, is_among, Landed, is_resolved, InService, Reply, Names, Record, number_in, changed_at, number_told, same_number, RequestPhase}, Marking.{mark_if, marked, was_marked, mark_kept}}, specs.Flown.{IsPlain, HasLanded, AreLanded, HasFlown, operations}}

-- A request that flies goes on flying: with its operation, by its number, and its record has come no further.
pub record FliesOn (n n' : Names) (d d' : Driving Reply Reply) (rs rs' : List Record) (id : Id) (it : Waiter Reply Reply) (r : Record) : Type 0 where
  pub it' : Waiter Reply Reply
  pub r' : Record
  pub live : waiter_at d'.requests id ≡ Some it'
  pub flies : it'.in_flight ≡ it.in_flight
  pub same : it'.request ≡ it.request
  pub number : number_in n'.requests.items id ≡ number_in n.requests.items id
  pub there : slice_get rs' (number_in n.requests.items id) ≡ Some r'
  pub phase : r'.shown.phase ≡ r.shown.phase

module _ (n n' : Names) (d d' : Driving Reply Reply) (rs rs' : List Record) where
  -- those that have landed go on
  abbrev pub AllFlyOn : Type 0
  AllFlyOn = (id : Id) (it : Waiter Reply Reply) (r : Record) (given : OpResult) → waiter_at d.requests id ≡ Some it → it.in_flight ≡ true → slice_get rs (number_in n.requests.items id) ≡ Some r → r.shown.phase ≡ Landed given → FliesOn n n' d d' rs rs' id it r

  number_on : (c : Completion) → HasLanded n d rs c → AllFlyOn → number_told n'.requests.items c ≡ number_told n.requests.items c
  number_on c h keeps =
      subst (λ k. slice_index_or n'.requests.items k 0 ≡ slice_index_or n.requests.items k 0) h.index (keeps h.id h.it h.r (result_in c.result) h.live h.flies h.there h.landed).number

  pub numbers_on : (cs : List Completion) → AreLanded n d rs cs → AllFlyOn → map (number_told n'.requests.items) cs ≡ map (number_told n.requests.items) cs
  numbers_on [] are keeps = refl
  numbers_on (c ∷ cs) are keeps = rw (number_on c are.0 keeps, numbers_on cs are.2 keeps) refl

  pub has_landed_on : (c : Completion) → HasLanded n d rs c → AllFlyOn → HasLanded n' d' rs' c
  has_landed_on c h keeps =
      let on = keeps h.id h.it h.r (result_in c.result) h.live h.flies h.there h.landed in
      grind arith

  pub landed_on : (cs : List Completion) → AreLanded n d rs cs → AllFlyOn → AreLanded n' d' rs' cs
  landed_on [] are keeps = tt
  landed_on (c ∷ cs) are keeps =
      (has_landed_on c are.0 keeps, rw (number_on c are.0 keeps, numbers_on cs are.2 keeps) are.1, landed_on cs are.2 keeps)

-- the same requests, with other things of the driver
pub landed_as : (n : Names) (d d' : Driving Reply Reply) (rs : List Record) (cs : List Completion) → d'.requests ≡ d.requests → AreLanded n d rs cs → AreLanded n d' rs cs
landed_as = grind (arith, landed_on)

-- A mark of a record, as released, as one that has paid, or whose end was sent elsewhere.
module _ (f : Record → Record) (marks : (r : Record) → f r ≡ record r { shown = record r.shown { wakes_paid = (f r).shown.wakes_paid; released = (f r).shown.released }; sent = (f r).sent }) where
  phase_kept : (b : Bool) (r : Record) → (mark_if f b r).shown.phase ≡ r.shown.phase
  phase_kept = mark_kept RequestPhase (λ x. x.shown.phase) f (λ r. ap (λ y. y.shown.phase) (marks r))

  worker_kept : (b : Bool) (r : Record) → (mark_if f b r).shown.worker ≡ r.shown.worker
  worker_kept = mark_kept ℕ (λ x. x.shown.worker) f (λ r. ap (λ y. y.shown.worker) (marks r))

  cancel_kept : (b : Bool) (r : Record) → (mark_if f b r).shown.cancel_staged ≡ r.shown.cancel_staged
  cancel_kept = mark_kept Bool (λ x. x.shown.cancel_staged) f (λ r. ap (λ y. y.shown.cancel_staged) (marks r))

  plain_kept : (b : Bool) (r : Record) → IsPlain r.shown → IsPlain (mark_if f b r).shown
  plain_kept true r plain = subst (λ y. IsPlain y.shown) (sym (marks r)) (assumption plain)
  plain_kept false r plain = plain

  -- of the names those of what ended may become fewer
  pub flown_marked : (x : Option InService) (i : ℕ) (n n' : Names) (d : Driving Reply Reply) (rs : List Record) (q : ℕ) → HasFlown x i n d rs
      → n'.requests ≡ n.requests → n'.staged ≡ n.staged → n'.untold ≡ n.untold → n'.unreleased ≤ n.unreleased → deque_capacity n'.ended ≡ deque_capacity n.ended
      → ((r : Record) → slice_get rs q ≡ Some r → is_resolved r.shown.phase ≡ false → (f r).shown.released ≡ false) → HasFlown x i n' d (changed_at rs q f)
  flown_marked x i n n' d rs q flown requests staged untold fewer room owns =
      let ending : n'.unreleased ≤ deque_capacity n'.ended = rw room (omega (arith, fewer, flown.ending)) in
      let staging : d.ring.size ≤ vec_capacity n'.staged = rw staged flown.staging in
      let telling : d.ring.size ≤ vec_capacity n'.untold = rw untold flown.telling in
      let entries : length n'.staged.items + length n'.untold.items ≤ length d.ring.staged = rw (staged, untold) flown.entries in
      let owning : (k : ℕ) (r : Record) → slice_get (changed_at rs q f) k ≡ Some r → is_resolved r.shown.phase ≡ false → r.shown.released ≡ false = λ k y there unresolved.
      let old = was_marked f rs q k y there in
      let before : is_resolved old.0.shown.phase ≡ false = sym (ap is_resolved (phase_kept (q == k) old.0)) ∙ sym (ap (λ z. is_resolved z.shown.phase) old.2) ∙ unresolved in
      ap (λ z. z.shown.released) old.2 ∙ released_by k (q == k) old.0 refl old.1 before in
      let plain : (k : ℕ) (r : Record) → slice_get (changed_at rs q f) k ≡ Some r → r.shown.worker ≡ i → IsPlain r.shown = λ k y there mine.
      let old = was_marked f rs q k y there in
      subst (λ z. IsPlain z.shown) (sym old.2)
      (plain_kept (q == k) old.0 (flown.plain k old.0 old.1 (sym (worker_kept (q == k) old.0) ∙ sym (ap (λ z. z.shown.worker) old.2) ∙ mine))) in
      let landed_so : AreLanded n' d (changed_at rs q f) (operations d.ring) = landed_on n n' d d rs (changed_at rs q f) (operations d.ring) flown.landed
      (λ id it r given at flies there landed.
      let k = number_in n.requests.items id in
      record { it' = it; r' = mark_if f (q == k) r; live = at; flies = refl; same = refl; number = ap (λ v. number_in v.items id) requests; there = marked f rs q k r there; phase = phase_kept (q == k) r }) in
      let uncancelled : (id : WaiterId) (r : Record) → is_among id d.lists.cancels ≡ true → slice_get (changed_at rs q f) (number_in n'.requests.items id.0) ≡ Some r → r.shown.worker ≡ i → r.shown.cancel_staged ≡ false = λ id y among there mine.
      let k = number_in n.requests.items id.0 in
      let old = was_marked f rs q k y (ap (λ v. slice_get (changed_at rs q f) (number_in v.items id.0)) (sym requests) ∙ there) in
      ap (λ z. z.shown.cancel_staged) old.2 ∙ cancel_kept (q == k) old.0 ∙ flown.uncancelled id old.0 among old.1 (sym (worker_kept (q == k) old.0) ∙ sym (ap (λ z. z.shown.worker) old.2) ∙ mine) in
      assumption (ending, staging, telling, entries, owning, plain, landed_so, uncancelled, flown)
    where
      released_by : (k : ℕ) (b : Bool) (r : Record) → (q == k) ≡ b → slice_get rs k ≡ Some r → is_resolved r.shown.phase ≡ false → (mark_if f b r).shown.released ≡ false
      released_by k true r is there h = owns r (ap (slice_get rs) (same_number q k is) ∙ there) h
      released_by k false r is there h = flown.owning k r there h
