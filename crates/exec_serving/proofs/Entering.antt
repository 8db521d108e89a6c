-- What an enter is to the machine.
use Rattle.std.{proofs.{Common.{◌≡◌, ◌≢◌, ℕ, ◌+◌, ◌≤◌, ◌==◌, ◌&&◌, Bool, true, false, List, [], ◌∷◌, length, map, Option, Some, None, refl, sym, ap, subst, ◌∙◌, slice_get, if◌then◌else◌, arith}, lemmas.Bool.false≢true}, specs.{Option.option_map, Vec.vec_capacity}}
use Rattle.exec_base.specs.Slab.{Slab}
use Rattle.exec_outcomes.specs.declared.outcome.OpResult.{OpResult}
use Rattle.exec_time.specs.declared.timers.Sleeper.{Sleeper as Sleeping}
use Rattle.exec_ring.specs.{Kernels.Landing, Rings.RingState}
use Rattle.exec_waiters.specs.{States.waiter_at, declared.waiter.{Entry.Entry, Waiter.Waiter}}
use Rattle.exec_driver.specs.Driving.{Driving}
use Rattle.exec_opens.specs.Opens.{OpenState}
use Rattle.exec_machine.specs.{declared.state.{Request.Request, RequestPhase.RequestPhase}, Requests.flown, Tests.{is_staged, is_resolved}}
use Rattle.exec_moves.specs.declared.place.InService.{InService}
use Rattle.exec_parts.{specs.{declared.parts.{mail.Reply.Reply, names.Names.Names, record.Record.Record, sleeping.SleeperRecord.SleeperRecord}, Records.number_in, Serving.{changed_at, changed_in, flies, flown_in, is_one_of}}, proofs.Facts.second_true}
use Rattle.exec_invariants.{proofs.{Flying.{flies_if, worker_kept, get_flown}, Lined.{length_map, lines_flown}, Flown.landed_on, Going.{GoesOn, AllGoOn, still, same_worker, thing_on, things_changed}, Known.known_on}, specs.{Due.AreTimed, Flown.{IsPlain, IsPolled, HasFlown, operations}, Gates.{IsKnown, at_gate}, Holding.thing_of, Names.{IsNamed, IsAlike, IsSubmitted}}}

-- A REQUEST THAT FLIES

staged_stands : (p : RequestPhase) → is_staged p ≡ true → is_resolved p ≡ false
staged_stands RequestPhase.Staged h = refl
staged_stands _ h = absurd (false≢true h)

alike_by : (start tick : ℕ) (b : Bool) (it : Waiter Reply Reply) (r : Request) → (b ≡ true → is_staged r.phase ≡ true) → IsAlike start tick it r → IsAlike start tick it (if b then (record r { phase = RequestPhase.Flying }) else r)
alike_by = grind arith

alike_flown : (start tick i : ℕ) (it : Waiter Reply Reply) (r : Request) → IsAlike start tick it r → IsAlike start tick it (flown i r)
alike_flown start tick i it r a = alike_by start tick ((r.worker == i) && is_staged r.phase) it r (second_true (r.worker == i) (is_staged r.phase)) a

alike_flies : (start tick : ℕ) (b : Bool) (it : Waiter Reply Reply) (r : Record) → IsAlike start tick it r.shown → IsAlike start tick it (flies_if b r).shown
alike_flies start tick true it r a = alike_flown start tick r.shown.worker it r.shown a
alike_flies start tick false it r a = a

resolved_by : (b : Bool) (r : Request) → (b ≡ true → is_staged r.phase ≡ true) → is_resolved (if b then (record r { phase = RequestPhase.Flying }) else r).phase ≡ is_resolved r.phase
resolved_by true r staged = sym (staged_stands r.phase (staged refl))
resolved_by false r staged = refl

resolved_flies : (b : Bool) (r : Record) → is_resolved (flies_if b r).shown.phase ≡ is_resolved r.shown.phase
resolved_flies true r = resolved_by ((r.shown.worker == r.shown.worker) && is_staged r.shown.phase) r.shown (second_true (r.shown.worker == r.shown.worker) (is_staged r.shown.phase))
resolved_flies false r = refl

id_flies : (b : Bool) (r : Record) → (flies_if b r).id ≡ r.id
id_flies true r = refl
id_flies false r = refl

worker_flies : (b : Bool) (r : Record) → (flies_if b r).shown.worker ≡ r.shown.worker
worker_flies true r = worker_kept r.shown.worker r.shown
worker_flies false r = refl

flown_none : (b : Bool) (r : Request) → ((r.worker == r.worker) && is_staged r.phase) ≡ b → is_staged (if b then (record r { phase = RequestPhase.Flying }) else r).phase ≡ false
flown_none = grind arith

-- none that flies is staged any more
still_staged : (b : Bool) (r : Record) → is_staged (flies_if b r).shown.phase ≡ true → (b ≡ false) × (is_staged r.shown.phase ≡ true)
still_staged true r h = absurd (false≢true (sym (flown_none ((r.shown.worker == r.shown.worker) && is_staged r.shown.phase) r.shown refl) ∙ h))
still_staged false r h = (refl, h)

-- a record that flies goes on
goes_by : (i : ℕ) (b : Bool) (r : Record) → (b ≡ true → is_staged r.shown.phase ≡ true) → GoesOn r (record r { shown = (if b then (record r.shown { phase = RequestPhase.Flying }) else r.shown) })
goes_by = grind arith

goes_flies : (b : Bool) (r : Record) → GoesOn r (flies_if b r)
goes_flies true r = goes_by r.shown.worker ((r.shown.worker == r.shown.worker) && is_staged r.shown.phase) r (second_true (r.shown.worker == r.shown.worker) (is_staged r.shown.phase))
goes_flies false r = still r

-- what has landed doesn't fly
landed_by : (b : Bool) (r : Request) (n : OpResult) → (b ≡ true → is_staged r.phase ≡ true) → r.phase ≡ RequestPhase.Landed n → (if b then (record r { phase = RequestPhase.Flying }) else r).phase ≡ r.phase
landed_by true r n staged landed = absurd (false≢true (ap is_staged (sym landed) ∙ staged refl))
landed_by false r n staged landed = refl

pub landed_flies : (b : Bool) (r : Record) (n : OpResult) → r.shown.phase ≡ RequestPhase.Landed n → (flies_if b r).shown.phase ≡ r.shown.phase
landed_flies true r n landed = landed_by ((r.shown.worker == r.shown.worker) && is_staged r.shown.phase) r.shown n (second_true (r.shown.worker == r.shown.worker) (is_staged r.shown.phase)) landed
landed_flies false r n landed = refl

-- nor does what flies change but by that
plain_by : (b : Bool) (r : Request) → IsPlain r → IsPlain (if b then (record r { phase = RequestPhase.Flying }) else r)
plain_by true r p = record { bounded = p.bounded; moved = p.moved; deadline = p.deadline }
plain_by false r p = p

plain_flies : (b : Bool) (r : Record) → IsPlain r.shown → IsPlain (flies_if b r).shown
plain_flies true r p = plain_by ((r.shown.worker == r.shown.worker) && is_staged r.shown.phase) r.shown p
plain_flies false r p = p

cancel_by : (b : Bool) (r : Request) → (if b then (record r { phase = RequestPhase.Flying }) else r).cancel_staged ≡ r.cancel_staged
cancel_by true r = refl
cancel_by false r = refl

cancel_flies : (b : Bool) (r : Record) → (flies_if b r).shown.cancel_staged ≡ r.shown.cancel_staged
cancel_flies true r = cancel_by ((r.shown.worker == r.shown.worker) && is_staged r.shown.phase) r.shown
cancel_flies false r = refl

-- THE NAMES

-- what a flown record was
was : (ks : List ℕ) (rs : List Record) (k : ℕ) (x : Record) → slice_get (flown_in ks rs) k ≡ Some x → (r : Record) × (slice_get rs k ≡ Some r) × (x ≡ flies_if (is_one_of k ks) r)
was = grind (arith, flies_if, get_flown)

flies_there : (ks : List ℕ) (rs : List Record) (k : ℕ) (r : Record) → slice_get rs k ≡ Some r → slice_get (flown_in ks rs) k ≡ Some (flies_if (is_one_of k ks) r)
flies_there ks rs k r there = get_flown ks rs k ∙ ap (option_map (flies_if (is_one_of k ks))) there

-- all go on
pub all_go : (ks : List ℕ) (rs : List Record) → AllGoOn rs (flown_in ks rs)
all_go ks rs =
    record {
      was = λ k x there.
          let old = was ks rs k x there in
          record { r = old.0; there = old.1; on = subst (λ y. GoesOn old.0 y) (sym old.2) (goes_flies (is_one_of k ks) old.0) };
      becomes = λ k r there. record { r' = flies_if (is_one_of k ks) r; there = flies_there ks rs k r there; on = goes_flies (is_one_of k ks) r };
    }

-- what is seen of them by who holds them
one_thing : (k : ℕ) (xs : List Record) → map thing_of (changed_at xs k flies) ≡ map thing_of xs
one_thing k xs = by (slice_get xs k) refl
  where
    by : (o : Option Record) → slice_get xs k ≡ o → map thing_of (changed_at xs k flies) ≡ map thing_of xs
    by None none = ap (λ o. map thing_of (changed_in xs k flies o)) none
    by (Some r) there = things_changed xs k r flies there (thing_on r (flies r) (goes_flies true r))

pub things_flown : (ks : List ℕ) (rs : List Record) → map thing_of (flown_in ks rs) ≡ map thing_of rs
things_flown [] rs = refl
things_flown (k ∷ ks) rs = one_thing k (flown_in ks rs) ∙ things_flown ks rs

-- what its records say that its driver has forgotten
pub known_flown : (i : ℕ) (numbers : List ℕ) (requests : Slab (Entry Reply Reply)) (opens : List OpenState) (rs : List Record) (ks : List ℕ) → IsKnown i numbers requests opens rs → IsKnown i numbers requests opens (flown_in ks rs)
known_flown i numbers requests opens rs ks known =
    known_on i numbers numbers requests requests opens opens rs (flown_in ks rs) (λ id small past. past) (λ id past. past) (sym (length_map at_gate (flown_in ks rs)) ∙ ap length (lines_flown ks rs).at ∙ length_map at_gate rs)
    (λ k x there mine.
    let old = was ks rs k x there in
    let b = is_one_of k ks in
    (old.0, old.1, sym (worker_flies b old.0) ∙ sym (ap (λ y. y.shown.worker) old.2) ∙ mine, ap (λ y. y.id) old.2 ∙ id_flies b old.0))
    (λ file none. none)
    (λ id it x live there.
    let old = was ks rs (number_in numbers id) x there in
    grind arith)
    known

pub timed_flown : (i : ℕ) (n n' : Names) (ks : List ℕ) (rs : List Record) → n'.requests ≡ n.requests → AreTimed i n rs → AreTimed i n' (flown_in ks rs)
timed_flown i n n' ks rs same timed k x there mine =
    let old = was ks rs k x there in
    let r = old.0 in
    let it = timed k r old.1 (sym (same_worker r x (subst (λ y. GoesOn r y) (sym old.2) (goes_flies (is_one_of k ks) r))) ∙ mine) in
    grind arith

-- what has landed, with another ring in which the same has
pub flown_entered : (x x' : Option InService) (i : ℕ) (n n' : Names) (d : Driving Reply Reply) (ring : RingState) (l : List Landing) (ks : List ℕ) (rs : List Record)
    → HasFlown x i n d rs → n'.requests ≡ n.requests → n'.ended ≡ n.ended → n'.unreleased ≡ n.unreleased
    → vec_capacity n'.staged ≡ vec_capacity n.staged → vec_capacity n'.untold ≡ vec_capacity n.untold
    → ring.size ≡ d.ring.size → IsPolled ring d.armed → operations ring ≡ operations d.ring → length n'.staged.items + length n'.untold.items ≤ length ring.staged
    → HasFlown x' i n' (record d { ring = ring; landings = l }) (flown_in ks rs)
flown_entered x x' i n n' d ring l ks rs flown requests ended unreleased staged untold size polled same entries =
    let d' : Driving Reply Reply = record d { ring = ring; landings = l } in
    record {
      ending = rw (ended, unreleased) flown.ending;
      staging = rw (staged, size) flown.staging;
      telling = rw (untold, size) flown.telling;
      entries = entries;
      gated = flown.gated;
      enrolling = flown.enrolling;
      polled = polled;
      owning = λ k y there unresolved.
          let old = was ks rs k y there in
          let on : GoesOn old.0 y = subst (λ z. GoesOn old.0 z) (sym old.2) (goes_flies (is_one_of k ks) old.0) in
          ap (λ z. z.shown.released) on.same ∙ flown.owning k old.0 old.1 (sym on.over ∙ unresolved);
      plain = λ k y there mine.
          let old = was ks rs k y there in
          let b = is_one_of k ks in
          subst (λ z. IsPlain z.shown) (sym old.2) (plain_flies b old.0 (flown.plain k old.0 old.1 (sym (worker_flies b old.0) ∙ sym (ap (λ z. z.shown.worker) old.2) ∙ mine)));
      landed =
          rw same
          (landed_on n n' d d' rs (flown_in ks rs) (operations d.ring) flown.landed
          (λ id it r given at flies there landed.
          let k = number_in n.requests.items id in
          record { it' = it; r' = flies_if (is_one_of k ks) r; live = at; flies = refl; same = refl; number = ap (λ v. number_in v.items id) requests; there = flies_there ks rs k r there; phase = landed_flies (is_one_of k ks) r given landed }));
      uncancelled = λ id y among there mine.
          let k = number_in n.requests.items id.0 in
          let old = was ks rs k y (ap (λ v. slice_get (flown_in ks rs) (number_in v.items id.0)) (sym requests) ∙ there) in
          ap (λ z. z.shown.cancel_staged) old.2 ∙ cancel_flies (is_one_of k ks) old.0 ∙ flown.uncancelled id old.0 among old.1 (sym (worker_flies (is_one_of k ks) old.0) ∙ sym (ap (λ z. z.shown.worker) old.2) ∙ mine);
    }

module _ (i : ℕ) (n : Names) (d : Driving Reply Reply) (zs : Slab (Sleeping Reply)) (rs : List Record) (sleepers : List SleeperRecord) (named : IsNamed i n d zs rs sleepers) where
  pub submitted_free : (r : RingState) → r.staged ≡ [] → IsSubmitted i [] [] r (flown_in n.staged.items rs)
  submitted_free = grind (arith, false≢true, was, still, still_staged, worker_flies)

  pub named_free : (n' : Names) (r : RingState) (l : List Landing) → n'.requests.items ≡ n.requests.items → n'.timers.items ≡ n.timers.items
      → IsSubmitted i n'.staged.items n'.untold.items r (flown_in n.staged.items rs) → IsNamed i n' (record d { ring = r; landings = l }) zs (flown_in n.staged.items rs) sleepers
  named_free n' r l requests timers submitted =
      record {
        requests = λ id there.
            let old = named.requests id there in
            let b = is_one_of (number_in n.requests.items id) n.staged.items in
            rw requests
            (flies_if b old.0, get_flown n.staged.items rs (number_in n.requests.items id) ∙ ap (option_map (flies_if b)) old.1, ap (λ x. x.0) (id_flies b old.0) ∙ old.2, worker_flies b old.0 ∙ old.3);
        timers = λ id there. rw timers (named.timers id there);
        alike = λ id it x at_driver there.
            let before = was n.staged.items rs (number_in n.requests.items id) x (rw (← requests) there) in
            subst (λ y. IsAlike d.wheel.start d.wheel.tick it y.shown) (sym before.2)
            (alike_flies d.wheel.start d.wheel.tick (is_one_of (number_in n.requests.items id) n.staged.items) it before.0 (named.alike id it before.0 at_driver before.1));
        over = λ k x there mine gone.
            let before = was n.staged.items rs k x there in
            let b = is_one_of k n.staged.items in
            let of_i : before.0.shown.worker ≡ i = sym (worker_flies b before.0) ∙ sym (ap (λ y. y.shown.worker) before.2) ∙ mine in
            let name : x.id ≡ before.0.id = ap (λ y. y.id) before.2 ∙ id_flies b before.0 in
            ap (λ y. is_resolved y.shown.phase) before.2 ∙ resolved_flies b before.0 ∙ named.over k before.0 before.1 of_i (ap (λ y. waiter_at d.requests y.0) (sym name) ∙ gone);
        submitted = submitted;
        slots = rw requests named.slots;
        beds = rw timers named.beds;
      }

  -- the same while the records stay
  pub named_beside : (n' : Names) (r : RingState) (l : List Landing) → n'.requests.items ≡ n.requests.items → n'.timers.items ≡ n.timers.items
      → IsSubmitted i n'.staged.items n'.untold.items r rs → IsNamed i n' (record d { ring = r; landings = l }) zs rs sleepers
  named_beside n' r l requests timers submitted =
      record {
        requests = λ id there. rw requests (named.requests id there);
        timers = λ id there. rw timers (named.timers id there);
        alike = λ id it x at_driver there. named.alike id it x at_driver (rw (← requests) there);
        over = named.over;
        submitted = submitted;
        slots = rw requests named.slots;
        beds = rw timers named.beds;
      }

  pub submitted_busy : IsSubmitted i n.staged.items n.untold.items (record d.ring { busy = false }) rs
  submitted_busy = grind arith

  -- each record of another worker is as it was
  flown_of_i : (k : ℕ) (r : Record) → slice_get rs k ≡ Some r → r.shown.worker ≢ i → is_one_of k n.staged.items ≡ false
  flown_of_i = grind arith

  pub others_flown : (k : ℕ) (r : Record) → slice_get rs k ≡ Some r → r.shown.worker ≢ i → slice_get (flown_in n.staged.items rs) k ≡ Some r
  others_flown k r there other = flies_there n.staged.items rs k r there ∙ ap (λ b. Some (flies_if b r)) (flown_of_i k r there other)

  pub others_were : (k : ℕ) (x : Record) → slice_get (flown_in n.staged.items rs) k ≡ Some x → x.shown.worker ≢ i → slice_get rs k ≡ Some x
  others_were = grind (arith, was, worker_flies, flies_if, flown_of_i)
