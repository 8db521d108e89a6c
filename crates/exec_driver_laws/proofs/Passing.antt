-- What a call does to the requests of its driver: they become others, end and come, and outputs go, one after the other.
-- What all of these keep each call keeps.
use Rattle.std.proofs.Common.{◌≡◌, ◌⊎◌, ℕ, Bool, true, false, cond, List, Option, Some, None, Result, Ok, Err, refl, sym, ap, subst, ◌∙◌, inl, inr, arith, ◌+◌, eqb, [], ◌∷◌}
use Rattle.exec_driver_laws.{proofs.{Words.{reaped, entry_of, IsSomeAnd, IsPast, Local, next_id, removed, Error, one_changed, Account, Driving, Ended, Entry, Forwarded, OpResult, Orphaned, Pending, Ready, Request, Slab, Submission, Store, TaskNo, Waiter, WaiterId, WaiterKey, Observer, RequestOutput, kept_of, Moves, Says, account_in, after_due, after_enrolment, asks_cancel, asks_cancel_by_orphan, cancelled, cancelled_from, cancelled_at, cancelling, changed_from, deadline_of, ended, enrolled_by, false≢true, file_of, finished, first_of, forwarded_from, goes_on_alone, is_among, is_gated, is_held_by, is_local, is_unenrolled, landed_at, let_go, newcomer, open_after, orphaned_from, permitted, placed_at, queued_or_ended, request_at, taken_from, taken_in, taken_out, tick_for, timed_out, value_at, waiter_at, waiter_of, with_observer, with_permit, with_tick, with_waker, without_observer, written, is_operation, swept_from, noted, Posted, user_data_of, named, common_steps, Reaps, ReapsNext, completed_in, lawful_of, swept, with_landings, Reaped, one_if, RingState, OpenState, Id, Deferred, Completion, next_completion, result_in, reaps_ring, completed_there}, Promises.{never_due, completed_named}, OwningRing.{reaped_within, swept_within, swept_same, reaped_one}}, specs.{Lawful.{EndsLawfully, is_within}, Sharing.{Call, Admit, Join, Observe, SetWaker, Forward, Orphan, Expire, Enrol, Grant, Stage, Land, Reap, SetAccount, Recount, Leave, Other, Gates, key_of, end_by, lets_out}, Owning.{operations_in, KeepsOperations}}}

module _ {S F : Type 0} where
  swept_alike : (ps : List Posted) (d : Driving S F) → ((swept_from ps d).requests ≡ d.requests) × ((swept_from ps d).lists ≡ d.lists)
  swept_alike [] d = (refl, refl)
  swept_alike (p ∷ ps) d = grind (arith, swept_alike ps (noted p.completion d))

  flying_there : (s : Slab (Entry S F)) (given : OpResult) (user_data : ℕ) (id : Id) (w : Waiter S F) → lawful_of s given (named s user_data) ≡ Some id → waiter_at s id ≡ Some w → w.in_flight ≡ true
  flying_there = grind arith

  named_own : (s : Slab (Entry S F)) (id : Id) (user_data : ℕ) → named s user_data ≡ Some id → user_data_of id ≡ user_data
  named_own = grind (arith, common_steps)

  -- the next completion is of no request under way that may have it, and is dropped
  pub record Drops (old new : Driving S F) : Type 0 where
    pub c : Completion
    pub next : next_completion (swept old).ring ≡ Some c
    pub none : completed_in old c ≡ None
    pub ring : (user_data : ℕ) → is_operation user_data ≡ true → operations_in new.ring user_data + one_if (eqb c.user_data user_data) ≡ operations_in old.ring user_data

  -- a reap that takes in no completion of a request
  pub record ReapsNone (old new : Driving S F) (opens opens' : List OpenState) (told : Option Reaped) : Type 0 where
    pub requests : new.requests ≡ old.requests
    pub lists : new.lists ≡ old.lists
    pub ring : KeepsOperations old.ring new.ring ⊎ Drops old new
    pub lawful : EndsLawfully old.ring new.ring
    pub told_none : told ≡ None
    pub same : opens' ≡ opens

  -- a reap that takes one in, between two drivers of which one has the requests and lists of the old one, the other those
  -- of the new
  pub record ReapsThere (old new : Driving S F) (opens opens' : List OpenState) (before after : Deferred S F) (told : Option Reaped) : Type 0 where
    pub first : Driving S F
    pub second : Driving S F
    pub id : WaiterId
    pub w : Waiter S F
    pub given : OpResult
    pub start : first.requests ≡ old.requests
    pub start_lists : first.lists ≡ old.lists
    pub at : request_at first id ≡ Some w
    pub flies : w.in_flight ≡ true
    pub reaps : Reaps first second opens opens' before after id w given told
    pub end : new.requests ≡ second.requests
    pub end_lists : new.lists ≡ second.lists
    pub lawful : EndsLawfully old.ring new.ring
    -- its operation is out of the ring
    pub ring : (user_data : ℕ) → is_operation user_data ≡ true → operations_in new.ring user_data + one_if (eqb (user_data_of id.0) user_data) ≡ operations_in old.ring user_data

  -- what stays as all is swept out before the next completion of an operation
  abbrev Sweeps : Driving S F → Driving S F → Type 0
  Sweeps d d' = (d'.requests ≡ d.requests) × (d'.lists ≡ d.lists) × KeepsOperations d.ring d'.ring × EndsLawfully d.ring d'.ring

  swept_one : (d d' : Driving S F) → d' ≡ with_landings d' (swept d) → Sweeps d d'
  swept_one d d' is =
      let same = swept_alike d.ring.posted d in
      let sweeps : Sweeps d (swept d) = (same.0, same.1, swept_same d.ring.posted d, swept_within d.ring.posted d) in
      subst (Sweeps d) (sym is) sweeps

  pub reap_tells : (old new : Driving S F) (opens opens' : List OpenState) (before after : Deferred S F) (told : Option Reaped) → ReapsNext old new opens opens' before after told
      → ReapsNone old new opens opens' told ⊎ ReapsThere old new opens opens' before after told
  reap_tells old new opens opens' before after told reap = by (next_completion reap.first.ring) refl
    where
      first : Sweeps old reap.first
      first = swept_one old reap.first reap.swept_first

      out_lawful : EndsLawfully old.ring (reaped reap.first.ring)
      out_lawful user_data most is was = reaped_within reap.first.ring user_data most is (first.3 user_data most is was)

      by_id : (c : Completion) → next_completion reap.first.ring ≡ Some c → (o : Option Id) → completed_in reap.first c ≡ o → ReapsNone old new opens opens' told ⊎ ReapsThere old new opens opens' before after told
      by_id c next None none =
          let stale = reap.stale c next none in
          let out = swept_one (taken_out reap.first) new stale.0 in
          inl (record {
            requests = out.0 ∙ first.0;
            lists = out.1 ∙ first.1;
            ring = inr (record {
              c = c;
              next = ap (λ (m : Driving S F). next_completion m.ring) (sym reap.swept_first) ∙ next;
              none = ap (λ (s : Slab (Entry S F)). lawful_of s (result_in c.result) (named s c.user_data)) (sym first.0) ∙ none;
              ring = λ user_data is. omega (arith, first.2 user_data is, reaped_one reap.first.ring c user_data is next, out.2 user_data is);
            });
            lawful = λ user_data most is was. out.3 user_data most is (out_lawful user_data most is was);
            told_none = stale.1;
            same = stale.2;
          })
      by_id c next (Some id) some =
          let there = completed_there reap.first.requests (result_in c.result) (named reap.first.requests c.user_data) id some in
          let from = reap.some c id there.0 next some there.1 in
          let last = swept_one from.second new from.swept_last in
          inr (record {
            first = reap.first;
            second = from.second;
            id = record { 0 = id };
            w = there.0;
            given = result_in c.result;
            start = first.0;
            start_lists = first.1;
            at = there.1;
            flies = flying_there reap.first.requests (result_in c.result) c.user_data id there.0 some there.1;
            reaps = from.reaps;
            end = last.0;
            end_lists = last.1;
            lawful = λ user_data most is was. last.3 user_data most is (subst (λ (m : RingState). is_within m user_data most ≡ true) (sym (reaps_ring reap.first from.second opens opens' before after (record { 0 = id }) there.0 (result_in c.result) told from.reaps)) (out_lawful user_data most is was));
            ring = λ user_data is.
                let out = ap (λ (r : RingState). operations_in r user_data) (reaps_ring reap.first from.second opens opens' before after (record { 0 = id }) there.0 (result_in c.result) told from.reaps) in
                let own = ap (λ (n : ℕ). one_if (eqb n user_data)) (named_own reap.first.requests id c.user_data (completed_named reap.first.requests (result_in c.result) (named reap.first.requests c.user_data) id some)) in
                omega (arith, own, out, first.2 user_data is, reaped_one reap.first.ring c user_data is next, last.2 user_data is);
          })

      by : (o : Option Completion) → next_completion reap.first.ring ≡ o → ReapsNone old new opens opens' told ⊎ ReapsThere old new opens opens' before after told
      by None none =
          let same = reap.none none in
          inl (record {
            requests = ap (λ (m : Driving S F). m.requests) same.0 ∙ first.0;
            lists = ap (λ (m : Driving S F). m.lists) same.0 ∙ first.1;
            ring = inl (λ user_data is. ap (λ (m : Driving S F). operations_in m.ring user_data) same.0 ∙ first.2 user_data is);
            lawful = λ user_data most is was. subst (λ (m : Driving S F). is_within m.ring user_data most ≡ true) (sym same.0) (first.3 user_data most is was);
            told_none = same.1;
            same = same.2;
          })
      by (Some c) next = by_id c next (completed_in reap.first c) refl

pub first_among : (id : WaiterId) (ids : List WaiterId) → first_of ids ≡ Some id → is_among id ids ≡ true
first_among = grind arith

brief : (r : Request) (deadline : ℕ) → deadline_of r ≡ Some deadline → goes_on_alone r ≡ false
brief = grind arith

-- what its operations leave as it is tells whether a request goes on alone
alone_kept : (r r' : Request) → kept_of r' ≡ kept_of r → goes_on_alone r' ≡ goes_on_alone r
alone_kept = grind arith

alone_moved : (flight : Option Submission) (given : OpResult) (r r' : Request) (st st' : Store) → Moves flight given r r' st st' → goes_on_alone r' ≡ goes_on_alone r
alone_moved = grind arith

either : {A : Type 0} (P : A → Type 0) (b : Bool) (x y : A) → P x → P y → P (cond b x y)
either P true x y one other = one
either P false x y one other = other

module _ {S F : Type 0} where
  -- it goes on alone as it did, and its cancel is asked for only if it doesn't
  pub record Becomes (old : Driving S F) (w w' : Waiter S F) : Type 0 where
    pub alone : goes_on_alone w'.request ≡ goes_on_alone w.request
    pub spared : Says old → asks_cancel w'.state ≡ true → (asks_cancel w.state ≡ true) ⊎ (goes_on_alone w.request ≡ false)

  -- no more than who waits for it, its tick and its cancel change
  pub record Rests (old : Driving S F) (w w' : Waiter S F) : Type 0 where
    pub request : w'.request ≡ w.request
    pub flight : w'.in_flight ≡ w.in_flight
    pub permit : w'.permit ≡ w.permit
    pub spared : Says old → asks_cancel w'.state ≡ true → (asks_cancel w.state ≡ true) ⊎ (goes_on_alone w.request ≡ false)

  -- What is kept as a request becomes another, as one ends that doesn't go on alone or whose end is told, as an output goes
  -- that is let out, and as there is more room. What each driver says may be used for that.
  pub record Passes (old : Driving S F) (R : Waiter S F → Waiter S F → Type 0) (worker : ℕ) (told : Option (WaiterKey × Ended)) (out : Option WaiterId) (P : Slab (Entry S F) → Type 0) : Type 0 where
    pub becomes : (s : Slab (Entry S F)) (id : WaiterId) (w w' : Waiter S F) → waiter_at s id.0 ≡ Some w → R w w' → P s → P (written s id.0 (Pending w'))
    pub ends : (s : Slab (Entry S F)) (id : WaiterId) (w : Waiter S F) (how : Ended) (account : Option Account) → waiter_at s id.0 ≡ Some w → (Says old → w.in_flight ≡ false) → (Says old → (goes_on_alone w.request ≡ false) ⊎ IsSomeAnd told (λ e. e.0 ≡ key_of worker id))
        → P s → P (finished s id.0 w how account)
    pub leaves : (s : Slab (Entry S F)) (id : WaiterId) (output : RequestOutput) → value_at s id.0 ≡ Some (Ready output) → out ≡ Some id → P s → P (removed s id.0)
    pub room : (s : Slab (Entry S F)) (room : ℕ) → P s → P (record s { room = room })

  pub idle_gated : (o : Option (Waiter S F)) (w : Waiter S F) → o ≡ Some w → is_gated o ≡ true → w.in_flight ≡ false
  idle_gated = grind arith

  idle_unenrolled : (o : Option (Waiter S F)) (w : Waiter S F) → o ≡ Some w → is_unenrolled o ≡ true → w.in_flight ≡ false
  idle_unenrolled = grind arith

  let_go_alone : (d : Driving S F) (id : WaiterId) (w v : Waiter S F) → request_at d id ≡ Some v → asks_cancel_by_orphan (Some (Pending v)) ≡ true → request_at (without_observer d id) id ≡ Some w → goes_on_alone w.request ≡ false
  let_go_alone d id w v at asks there = let now = (one_changed d.requests id.0 v (with_observer Orphaned v) at).is_at in grind (arith, entry_of)

  let_go_brief : (d : Driving S F) (id : WaiterId) (w : Waiter S F) (e : Option (Entry S F)) → value_at d.requests id.0 ≡ e → asks_cancel_by_orphan e ≡ true → request_at (without_observer d id) id ≡ Some w → goes_on_alone w.request ≡ false
  let_go_brief d id w (Some (Pending v)) at asks there = let_go_alone d id w v (ap waiter_of at) asks there
  let_go_brief d id w other at asks there = absurd (false≢true asks)

  pub cancelled_ring : (d : Driving S F) (id : WaiterId) → (cancelled_at d id).ring ≡ d.ring
  cancelled_ring = grind arith

  let_go_ring : (d : Driving S F) (id : WaiterId) → (let_go d id).ring ≡ d.ring
  let_go_ring = grind arith

  enrolled_ring : (d : Driving S F) (id : WaiterId) (w : Waiter S F) (tick : Result ℕ Error) → (enrolled_by d id w tick).ring ≡ d.ring
  enrolled_ring = grind arith

  -- a call of one request that begins no operation and ends none, or of an open alone
  abbrev pub is_mild : {worker : ℕ} {old new : Driving S F} {g g' : Gates} → Call worker old new g g' → Bool
  is_mild (Admit id request observer now next within never admits leaving) = false
  is_mild (Grant before after file granted w at grants leaving) = false
  is_mild (Stage id w account first at stages same) = false
  is_mild (Land id w given store store' at may lands same) = false
  is_mild (Reap before after told reap leaving) = false
  is_mild (Other is keeps lawful places same) = false
  is_mild call = true

  -- a call that may change the opens, or who is to leave a gate
  abbrev moves_gates : {worker : ℕ} {old new : Driving S F} {g g' : Gates} → Call worker old new g g' → Bool
  moves_gates (Admit id request observer now next within never admits leaving) = true
  moves_gates (Join id fits same is) = true
  moves_gates (Grant before after file granted w at grants leaving) = true
  moves_gates (Reap before after told reap leaving) = true
  moves_gates (SetAccount file account same is) = true
  moves_gates (Recount file change keeps same is) = true
  moves_gates (Leave id file leaves same is) = true
  moves_gates call = false

  pub gates_same : {worker : ℕ} {old new : Driving S F} {g g' : Gates} (call : Call worker old new g g') → moves_gates call ≡ false → g' ≡ g
  gates_same = grind arith

  module _ {R : Waiter S F → Waiter S F → Type 0} (old : Driving S F) (rests : (w w' : Waiter S F) → Rests old w w' → R w w') (worker : ℕ) (told : Option (WaiterKey × Ended)) (out : Option WaiterId) (P : Slab (Entry S F) → Type 0) (passes : Passes old R worker told out P) where
    taken_passes : (s : Slab (Entry S F)) (id : WaiterId) (o : Option (Entry S F)) → value_at s id.0 ≡ o → out ≡ Some id → P s → P (taken_from s id.0 o)
    taken_passes s id None at lets p = p
    taken_passes s id (Some (Pending w)) at lets p = p
    taken_passes s id (Some (Ready output)) at lets p = passes.leaves s id output at lets p

    seen_passes : (s : Slab (Entry S F)) (id : WaiterId) (w : Waiter S F) (observer : Observer S F) → value_at s id.0 ≡ Some (Pending w) → P s → P (written s id.0 (Pending (with_observer observer w)))
    seen_passes s id w observer at = passes.becomes s id w (with_observer observer w) (ap waiter_of at) (rests w _ (record { request = refl; flight = refl; permit = refl; spared = λ says asks. inl asks }))

    waked_passes : (s : Slab (Entry S F)) (id : WaiterId) (task : TaskNo) (o : Option (Entry S F)) → value_at s id.0 ≡ o → P s → P (changed_from s id.0 (with_waker task) o)
    waked_passes s id task None at p = p
    waked_passes s id task (Some (Pending w)) at p = seen_passes s id w (Local (Some task)) at p
    waked_passes s id task (Some (Ready output)) at p = p

    forwarded_passes : (s : Slab (Entry S F)) (id : WaiterId) (sender : F) (o : Option (Entry S F)) → value_at s id.0 ≡ o → out ≡ Some id → P s → P (forwarded_from s id.0 sender o)
    forwarded_passes s id sender None at lets p = p
    forwarded_passes s id sender (Some (Pending w)) at lets p = either P (is_local w.observer) _ s (seen_passes s id w (Forwarded sender) at p) p
    forwarded_passes s id sender (Some (Ready output)) at lets p = passes.leaves s id output at lets p

    orphaned_passes : (s : Slab (Entry S F)) (id : WaiterId) (o : Option (Entry S F)) → value_at s id.0 ≡ o → out ≡ Some id → P s → P (orphaned_from s id.0 o)
    orphaned_passes s id None at lets p = p
    orphaned_passes s id (Some (Pending w)) at lets p = either P (is_held_by w.observer) _ s (seen_passes s id w Orphaned at p) p
    orphaned_passes s id (Some (Ready output)) at lets p = passes.leaves s id output at lets p

    cancelled_passes : (d : Driving S F) (id : WaiterId) (o : Option (Waiter S F)) → request_at d id ≡ o → (Says old → (w : Waiter S F) → o ≡ Some w → goes_on_alone w.request ≡ false) → P d.requests → P (cancelled_from d id o).requests
    cancelled_passes d id None at short p = p
    cancelled_passes d id (Some w) at short p = by w.in_flight refl (asks_cancel w.state)
      where
        by : (flies : Bool) → w.in_flight ≡ flies → (asked : Bool) → P (cond flies (cond asked d (cancelling d id w)) (ended d id w timed_out None)).requests
        by true flies true = p
        by true flies false = passes.becomes d.requests id w (cancelled w) at (rests w _ (record { request = refl; flight = refl; permit = refl; spared = λ says asks. inr (short says w refl) })) p
        by false idle asked = passes.ends d.requests id w timed_out None at (λ says. idle) (λ says. inl (short says w refl)) p

    let_go_passes : (d : Driving S F) (id : WaiterId) → out ≡ Some id → P d.requests → P (let_go d id).requests
    let_go_passes d id lets p = by (asks_cancel_by_orphan (value_at d.requests id.0)) refl
      where
        without : P (without_observer d id).requests
        without = orphaned_passes d.requests id (value_at d.requests id.0) refl lets p

        by : (b : Bool) → asks_cancel_by_orphan (value_at d.requests id.0) ≡ b → P (cond b (cancelled_at (without_observer d id) id) (without_observer d id)).requests
        by true asks = cancelled_passes (without_observer d id) id (request_at (without_observer d id) id) refl (λ says w. let_go_brief d id w (value_at d.requests id.0) refl asks) without
        by false asks = without

    enrolled_passes : (d : Driving S F) (id : WaiterId) (w : Waiter S F) (deadline : ℕ) (tick : Result ℕ Error) → request_at d id ≡ Some w → deadline_of w.request ≡ Some deadline → (Says old → w.in_flight ≡ false) → P d.requests → P (enrolled_by d id w tick).requests
    enrolled_passes d id w deadline (Ok tick) at timed idle = passes.becomes d.requests id w (with_tick tick w) at (rests w _ (record { request = refl; flight = refl; permit = refl; spared = λ says asks. absurd (cc (asks)) }))
    enrolled_passes d id w deadline (Err error) at timed idle = passes.ends d.requests id w (Err error) None at idle (λ says. inl (brief w.request deadline timed))

    over_passes : (d : Driving S F) (id : WaiterId) (w : Waiter S F) (how : Option Ended) (account : Option Account) → request_at d id ≡ Some w → (Says old → w.in_flight ≡ false) → ((h : Ended) → how ≡ Some h → IsSomeAnd told (λ e. e.0 ≡ key_of worker id))
        → P d.requests → P (queued_or_ended d id w how account).requests
    over_passes d id w None account at idle tells p = p
    over_passes d id w (Some how) account at idle tells p = passes.ends d.requests id w how account at idle (λ says. inr (tells how refl)) p

    -- the ring stays, and it is kept
    abbrev Leads : Driving S F → Type 0
    Leads new = (new.ring ≡ old.ring) × P new.requests

    by_driver : (new d : Driving S F) → new ≡ d → d.ring ≡ old.ring → P d.requests → Leads new
    by_driver new d is ring p = subst Leads (sym is) (ring, p)

    pub mild : (new : Driving S F) (g g' : Gates) (call : Call worker old new g g') → is_mild call ≡ true → lets_out call ≡ out → P old.requests → Leads new
    mild new g g' (Join id fits same is) soft lets p = by_driver new old same refl p
    mild new g g' (Observe id is same) soft lets p = by_driver new _ is refl (taken_passes old.requests id (value_at old.requests id.0) refl (sym lets) p)
    mild new g g' (SetWaker id task is same) soft lets p = by_driver new _ is refl (waked_passes old.requests id task (value_at old.requests id.0) refl p)
    mild new g g' (Forward id sender is same) soft lets p = by_driver new _ is refl (forwarded_passes old.requests id sender (value_at old.requests id.0) refl (sym lets) p)
    mild new g g' (Orphan id is same) soft lets p = by_driver new _ is (let_go_ring old id) (let_go_passes old id (sym lets) p)
    mild new g g' (Expire id first is same) soft lets p =
        let d = record old { lists = after_due old.lists } in
        by_driver new _ is (cancelled_ring d id) (cancelled_passes d id (request_at old id) refl (λ says w at. never_due old id w says.lists says.dated (first_among id old.lists.due first) at) p)
    mild new g g' (Enrol before after id w deadline now told' first at timed enrols same) soft lets p =
        let d = record old { lists = after_enrolment old.lists } in
        by_driver new _ enrols.driver (enrolled_ring d id w (tick_for old.wheel deadline now)) (enrolled_passes d id w deadline (tick_for old.wheel deadline now) at timed (λ says. idle_unenrolled (request_at old id) w at (says.lists.enrolments id (first_among id old.lists.enrolments first))) p)
    mild new g g' (SetAccount file account same is) soft lets p = by_driver new old same refl p
    mild new g g' (Recount file change keeps same is) soft lets p = by_driver new old same refl p
    mild new g g' (Leave id file leaves same is) soft lets p = by_driver new old same refl p
    mild new g g' other soft lets p = absurd (false≢true soft)

  rested : (old : Driving S F) (w w' : Waiter S F) → Rests old w w' → Becomes old w w'
  rested old w w' rests = record { alone = ap goes_on_alone rests.request; spared = rests.spared }

  pub each_call : (worker : ℕ) (old new : Driving S F) (g g' : Gates) (call : Call worker old new g g') (P : Slab (Entry S F) → Type 0) → Passes old (Becomes old) worker (end_by call) (lets_out call) P
      → ((id : WaiterId) (r : Request) (observer : Observer S F) (now : ℕ) → next_id old.requests ≡ Some id.0 → (IsPast old.requests id.0 → ⊥) → P old.requests → P (placed_at (taken_in old r observer) id (newcomer r observer) now).requests)
      → P old.requests → P new.requests
  each_call worker old new g g' (Admit id r observer now next within never admits leaving) P passes comes p =
      subst P (sym (ap (λ (d : Driving S F). d.requests) admits.driver)) (passes.room _ new.requests.room (comes id r observer now next never p))
  each_call worker old new g g' (Grant before after file granted w at grants leaving) P passes comes p =
      let id = granted.id in
      let w' = with_permit w in
      let permits = passes.becomes old.requests id w w' at (record { alone = refl; spared = λ says asks. inl asks }) p in
      subst P (sym (ap (λ (d : Driving S F). d.requests) (grants.grants w at).driver))
      (over_passes old (rested old) worker _ None P passes (permitted old id w) id w' granted.ended (account_in g.opens (file_of w.request)) (one_changed old.requests id.0 w w' at).is_at (λ says. idle_gated (request_at old id) w at (says.lists.gated id grants.waits)) (λ h is. rw is refl) permits)
  each_call worker old new g g' (Stage id w account first at stages same) P passes comes p =
      subst P (sym (ap (λ (d : Driving S F). d.requests) stages.driver)) (passes.becomes old.requests id w _ at (record { alone = alone_kept w.request stages.request stages.kept; spared = λ says asks. inl asks }) p)
  each_call worker old new g g' (Land id w given store store' at may lands same) P passes comes p =
      let alone = alone_moved _ given w.request lands.lands.request store store' lands.lands.moved in
      subst P (sym lands.lands.slab) (passes.becomes old.requests id w (record w { request = lands.lands.request }) at (record { alone = alone; spared = λ says asks. inl asks }) p)
  each_call worker old new g g' (Reap before after told reap leaving) P passes comes p =
      elim (reap_tells old new g.opens g'.opens before after told reap) [
        | inl none ↦ subst P (sym none.requests) p
        | inr there ↦
            let id = there.id in
            let w' : Waiter S F = record there.w { in_flight = false; request = there.reaps.request } in
            let alone = alone_kept there.w.request there.reaps.request there.reaps.kept in
            let judged = passes.becomes there.first.requests id there.w w' there.at (record { alone = alone; spared = λ says asks. inl asks }) (subst P (sym there.start) p) in
            subst P (sym (there.end ∙ ap (λ (d : Driving S F). d.requests) there.reaps.driver))
            (over_passes old (rested old) worker _ None P passes (landed_at (taken_out there.first) id w') id w' there.reaps.answer (open_after there.w there.given (account_in g.opens (file_of there.w.request))) (one_changed there.first.requests id.0 there.w w' there.at).is_at (λ says. refl)
            (λ h is. rw (there.reaps.told_is, is) refl) judged)
      ]
  each_call worker old new g g' (Other is keeps lawful places same) P passes comes p = subst P (sym is) (passes.room old.requests new.requests.room p)
  each_call worker old new g g' other P passes comes p = (mild old (rested old) worker (end_by other) (lets_out other) P passes new g g' other refl refl p).1
