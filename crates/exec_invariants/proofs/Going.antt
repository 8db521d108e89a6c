-- Requests that go on: none ends, nor begins, nor is let go of. What that leaves as it was.
use Rattle.exec_invariants.{proofs.Names.{◌≡◌, ℕ, ◌+◌, ◌≤◌, true, false, List, map, Some, IsSome, refl, sym, ap, subst, ◌∙◌, slice_get, map-set_same, get_or_from_slice_get, Contains, arith, Slab, value_at, Id, Sleeping, RequestOutput, waiter_at, Deferred, Answer, Ready, Waiter, Forwarded, Driving, is_applied, is_resolved, Reply, Names, Record, SleeperRecord, number_in, changed_at, changed_in}, specs.{Holding.{IsAnswerOf, thing_of}, Places.one_if, Rooted.{IsReplyFor, IsRooted, Watches, goes_elsewhere, results_of, IsKept, StandsAt, IsResult, Pays}, Sound.AreOver}}

-- of a request how far its operation came, its deadline and its cancel may change
pub record GoesOn (r r' : Record) : Type 0 where
  pub same : r' ≡ record r { shown = record r.shown { operation = r'.shown.operation; phase = r'.shown.phase; timer = r'.shown.timer; cancelled = r'.shown.cancelled; cancel_staged = r'.shown.cancel_staged } }
  pub over : is_resolved r'.shown.phase ≡ is_resolved r.shown.phase
  pub ended : is_resolved r.shown.phase ≡ true → r'.shown.phase ≡ r.shown.phase

pub still : (r : Record) → GoesOn r r
still r = record { same = refl; over = refl; ended = λ h. refl }

-- a record that was there, or that is there then
pub record Was (rs : List Record) (k : ℕ) (r' : Record) : Type 0 where
  pub r : Record
  pub there : slice_get rs k ≡ Some r
  pub on : GoesOn r r'

pub record Becomes (rs' : List Record) (k : ℕ) (r : Record) : Type 0 where
  pub r' : Record
  pub there : slice_get rs' k ≡ Some r'
  pub on : GoesOn r r'

pub record AllGoOn (rs rs' : List Record) : Type 0 where
  pub was : (k : ℕ) (r' : Record) → slice_get rs' k ≡ Some r' → Was rs k r'
  pub becomes : (k : ℕ) (r : Record) → slice_get rs k ≡ Some r → Becomes rs' k r

pub all_still : (rs : List Record) → AllGoOn rs rs
all_still rs = record { was = λ k r there. record { r = r; there = there; on = still r }; becomes = λ k r there. record { r' = r; there = there; on = still r } }

-- what stays of one
pub same_worker : (r r' : Record) → GoesOn r r' → r'.shown.worker ≡ r.shown.worker
same_worker r r' on = ap (λ x. x.shown.worker) on.same

pub same_id : (r r' : Record) → GoesOn r r' → r'.id ≡ r.id
same_id r r' on = ap (λ x. x.id) on.same

pub same_observed : (r r' : Record) → GoesOn r r' → r'.shown.observed ≡ r.shown.observed
same_observed r r' on = ap (λ x. x.shown.observed) on.same

pub same_waiter : (r r' : Record) → GoesOn r r' → r'.shown.waiter ≡ r.shown.waiter
same_waiter r r' on = ap (λ x. x.shown.waiter) on.same

pub same_paid : (r r' : Record) → GoesOn r r' → r'.shown.wakes_paid ≡ r.shown.wakes_paid
same_paid r r' on = ap (λ x. x.shown.wakes_paid) on.same

-- it ends no more than before
pub thing_on : (r r' : Record) → GoesOn r r' → thing_of r' ≡ thing_of r
thing_on = grind arith

module _ (rs rs' : List Record) (all : AllGoOn rs rs') where
  pub owning_on : ((k : ℕ) (r : Record) → slice_get rs k ≡ Some r → is_resolved r.shown.phase ≡ false → r.shown.released ≡ false)
      → (k : ℕ) (x : Record) → slice_get rs' k ≡ Some x → is_resolved x.shown.phase ≡ false → x.shown.released ≡ false
  owning_on owning k x there unresolved =
      let old = all.was k x there in
      ap (λ y. y.shown.released) old.on.same ∙ owning k old.r old.there (sym old.on.over ∙ unresolved)

  -- WHAT IS OVER
  pub over_on : (i : ℕ) (ended : List ℕ) (unreleased others : ℕ) → AreOver i ended unreleased others rs → AreOver i ended unreleased others rs'
  over_on i ended unreleased others over =
      let over_so : (k n : ℕ) → slice_get ended k ≡ Some n → (r : Record) × (slice_get rs' n ≡ Some r) × (r.shown.worker ≡ i) × ((is_resolved r.shown.phase ≡ true) × (r.shown.released ≡ false)) = λ k n at.
      let old = over.over k n at in
      let new = all.becomes n old.0 old.1 in
      (new.r', new.there, same_worker old.0 new.r' new.on ∙ old.2, (new.on.over ∙ old.3.0, ap (λ x. x.shown.released) new.on.same ∙ old.3.1)) in
      assumption (over_so, over)

  -- WHAT IS TOLD ELSEWHERE

  pub elsewhere_same : (r r' : Record) → GoesOn r r' → goes_elsewhere r' ≡ goes_elsewhere r
  elsewhere_same = grind arith

  reply_on : (i : ℕ) (reply : Reply) (k : ℕ) (r r' : Record) → GoesOn r r' → IsReplyFor k reply r → IsReplyFor k reply r'
  reply_on i reply k r r' on h = record { of = h.of; task = same_waiter r r' on ∙ h.task }

  -- Where at the driver what is there stays there, no output comes, and who waits stays.
  pub rooted_on : (i : ℕ) (n n' : Names) (d d' : Driving Reply Reply) (zs : Slab (Sleeping Reply)) (left : Deferred Reply Reply) (sleepers : List SleeperRecord)
      → IsRooted i n d zs left rs sleepers
      → n'.requests ≡ n.requests → n'.timers ≡ n.timers
      → ((id : Id) → IsSome (value_at d.requests id) → IsSome (value_at d'.requests id))
      → ((id : Id) (told : RequestOutput) → value_at d'.requests id ≡ Some (Ready told) → value_at d.requests id ≡ Some (Ready told))
      → ((id : Id) (it' : Waiter Reply Reply) → waiter_at d'.requests id ≡ Some it' → (it : Waiter Reply Reply) × (waiter_at d.requests id ≡ Some it) × (it'.observer ≡ it.observer))
      → IsRooted i n' d' zs left rs' sleepers
  rooted_on i n n' d d' zs left sleepers rooted requests timers stays ready waits =
      let kept : (id : Id) (told : RequestOutput) (r : Record) → value_at d'.requests id ≡ Some (Ready told) → slice_get rs' (number_in n'.requests.items id) ≡ Some r → IsKept told r = λ id told x at there.
      let old = all.was (number_in n.requests.items id) x (subst (λ v. slice_get rs' (number_in v.items id) ≡ Some x) requests there) in
      let was = rooted.kept id told old.r (ready id told at) old.there in
      assumption (old.on.ended (ap is_resolved was.over) ∙ was.over, same_observed old.r x old.on ∙ was.observed, ap (λ y. is_applied y.shown.forwarding) old.on.same ∙ was.unapplied) in
      let ready_so : (k : ℕ) (r : Record) → slice_get rs' k ≡ Some r → r.shown.worker ≡ i → is_resolved r.shown.phase ≡ true → r.shown.observed ≡ true → is_applied r.shown.forwarding ≡ false → StandsAt k n' d' r = λ k x there mine over seen unapplied.
      let old = all.was k x there in
      let is = rooted.ready k old.r old.there (sym (same_worker old.r x old.on) ∙ mine) (sym old.on.over ∙ over) (sym (same_observed old.r x old.on) ∙ seen) (sym (ap (λ y. is_applied y.shown.forwarding) old.on.same) ∙ unapplied) in
      let name = same_id old.r x old.on in
      assumption (ap (λ v. number_in v.items x.id.0) requests ∙ ap (λ y. number_in n.requests.items y.0) name ∙ is.named, subst (λ y. IsSome (value_at d'.requests y.0)) (sym name) (stays old.r.id.0 is.live)) in
      let replies : (id : Id) (it : Waiter Reply Reply) (reply : Reply) (r : Record) → waiter_at d'.requests id ≡ Some it → it.observer ≡ Forwarded reply → slice_get rs' (number_in n'.requests.items id) ≡ Some r → IsReplyFor (number_in n'.requests.items id) reply r = λ id it' reply x at forwarded there.
      let old = all.was (number_in n.requests.items id) x (subst (λ v. slice_get rs' (number_in v.items id) ≡ Some x) requests there) in
      let it = waits id it' at in
      subst (λ v. IsReplyFor (number_in v.items id) reply x) (sym requests)
      (reply_on i reply (number_in n.requests.items id) old.r x old.on (rooted.replies id it.0 reply old.r it.1 (sym it.2 ∙ forwarded) old.there)) in
      let watches : (id : Id) (it : Sleeping Reply) (z : SleeperRecord) → value_at zs id ≡ Some it → slice_get sleepers (number_in n'.timers.items id) ≡ Some z → Watches (number_in n'.timers.items id) it.observer z =
      λ id it z at there. subst (λ v. Watches (number_in v.items id) it.observer z) (sym timers) (rooted.watches id it z at (subst (λ v. slice_get sleepers (number_in v.items id) ≡ Some z) timers there)) in
      let pays : (k : ℕ) (r : Record) → slice_get rs' k ≡ Some r → r.shown.worker ≡ i → Pays r = λ k x there mine.
      let old = all.was k x there in
      let was = rooted.pays k old.r old.there (sym (same_worker old.r x old.on) ∙ mine) in
      record {
        unpaid = λ going seen. same_paid old.r x old.on ∙ was.unpaid (sym old.on.over ∙ going) (sym (same_observed old.r x old.on) ∙ seen);
        once = λ unapplied. subst (λ m. m ≤ 1) (sym (same_paid old.r x old.on)) (was.once (sym (ap (λ y. is_applied y.shown.forwarding) old.on.same) ∙ unapplied));
      } in
      let results : (a : Answer Reply) → Contains left.results.items a → IsResult i a rs' = λ a among.
      let it = rooted.results a among in
      let new = all.becomes it.k it.r it.there in
      record {
        k = it.k;
        r = new.r';
        there = new.there;
        worker = same_worker it.r new.r' new.on ∙ it.worker;
        reply = reply_on i a.sender it.k it.r new.r' new.on it.reply;
        answer = subst (IsAnswerOf a.result) (sym (thing_on it.r new.r' new.on)) it.answer;
        paid = subst (λ m. m ≤ 1) (sym (same_paid it.r new.r' new.on)) it.paid;
      } in
      let sent : (k : ℕ) (r : Record) → slice_get rs' k ≡ Some r → r.shown.worker ≡ i → results_of k left + one_if r.sent ≡ one_if (goes_elsewhere r) = λ k x there mine.
      let old = all.was k x there in
      ap (λ y. results_of k left + one_if y.sent) old.on.same ∙ rooted.sent k old.r old.there (sym (same_worker old.r x old.on) ∙ mine) ∙ ap one_if (sym (elsewhere_same old.r x old.on)) in
      assumption (kept, ready_so, replies, watches, pays, results, sent, rooted)

-- WHAT IS SEEN OF REQUESTS by who holds them

pub things_changed : (rs : List Record) (k : ℕ) (r : Record) (f : Record → Record) → slice_get rs k ≡ Some r → thing_of (f r) ≡ thing_of r → map thing_of (changed_at rs k f) ≡ map thing_of rs
things_changed rs k r f there same = ap (λ o. map thing_of (changed_in rs k f o)) there ∙ map-set_same thing_of rs k (f r) r (same ∙ ap thing_of (sym (get_or_from_slice_get rs k r r there)))
