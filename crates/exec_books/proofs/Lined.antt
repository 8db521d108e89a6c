-- Who stands at the gate of an open, after an event of a worker.
use Rattle.std.{proofs.{Common.{◌≡◌, ◌≢◌, ℕ, ◌<◌, Bool, true, false, List, length, Option, Some, None, refl, sym, ap, ◌∙◌, subst, inl, inr, arith, get_or, set, if◌then◌else◌}, lemmas.{Bool.{true≢false, false≢true, and_parts, cases_eq, cases_lt, eqb-true, eq-eqb, or_cases, or_left, or_right}, List.{get_or-set_same, get_or_past, set_past}}}, specs.Prelude.◌⊎◌}
use Rattle.exec_outcomes.specs.{declared.outcome.{Kind.{Kind, TheVariants.Write}, OpResult.OpResult, Outcome.Outcome}, Accounts.{Account, is_durable}, Outcomes.refuses_hint}
use Rattle.exec_machine.specs.{declared.{config.Configuration.Configuration, event.Event.{Event, Event as event}, state.{Next.Next, Operation.Operation, Request.Request}}, After.{after, common_after, own_after}, Allowed.Allowed, Choice.{Choice, Choice.Passes}, Closing.after_next, Requests.{account_of_open, after_join, asked_now, common_after_refusal, judged_of, new_request, open_after_end, open_joined_by, opens_after_end, outcome_given, outcome_shown, own_after_admit, passed_on, reaped, resolved, resolved_if, with_seen}, Same.{is_number, same_end, same_kind}, Tests.{is_gated, is_of_file, is_resolved}, World.{Common, Open, Own as Books, World, no_open, no_request, open_of, own_of, request_of}}
use Rattle.exec_books.{specs.Booked.{AreLinedUp, IsBooked, IsLinedUp, stands_at}, proofs.{CountedFresh.no_made, CountedLeaves.landed_past, CountedOwn.own_own, CountedTurns.{IsPast, Turns, each_push, each_set, grants, turned}, CountedWithin.whose_within, Listed.{in_front, in_last}, MinePhases.gated_open, Own.IsOwn, Reach.{opens_left, opens_long}, Standing.own_apart}}
use Rattle.exec_machine.specs.declared.state.Next.TheVariants as next

-- ONE OPEN

-- request k, which stands there or has the permit, does so still
pub record KeepsGate (k : ℕ) (x y : Open) : Type 0 where
  pub stands : stands_at x k ≡ true → stands_at y k ≡ true
  pub holds : x.holder ≡ Some k → y.holder ≡ Some k

-- its account is no part of that
kept : {k : ℕ} {x : Open} {account : Account} → KeepsGate k x (record x { account = account })
kept = record { stands = λ h. h; holds = λ h. h }

module _ (k r : ℕ) (account : Account) where
  abbrev gate : Option ℕ → List ℕ → Open
  gate holder waiting = record { account = account; holder = holder; waiting = waiting }

  -- one more came
  joined_keeps : (holder : Option ℕ) (waiting : List ℕ) → KeepsGate k (gate holder waiting) (open_joined_by r (gate holder waiting))
  joined_keeps = grind (arith, or_cases, or_left, or_right, in_front)

  -- another one that had the permit passed it on
  passed_keeps : (waiting : List ℕ) → k ≢ r → KeepsGate k (gate (Some r) waiting) (passed_on (gate (Some r) waiting))
  passed_keeps = grind (arith, or_cases, or_left, or_right, eqb-true, eq-eqb, false≢true)

-- who came last stands there
joined_stands : (k : ℕ) (account : Account) (holder : Option ℕ) (waiting : List ℕ) → stands_at (open_joined_by k (gate k k account holder waiting)) k ≡ true
joined_stands = grind (arith, or_left, or_right, eq-eqb, in_last)

-- a request of that open is over, which had the permit if it is durable
ended_keeps : (k r file : ℕ) (o : Operation) (outcome : Outcome) (x : Open) → (is_durable o.kind ≡ true → x.holder ≡ Some r) → k ≢ r → KeepsGate k x (open_after_end file o outcome x)
ended_keeps = grind (arith, passed_keeps, kept)

-- ALL OPENS

-- the same of the first n
abbrev pub Keeps : ℕ → ℕ → List Open → List Open → Type 0
Keeps k n os os' = (f : ℕ) → f < n → KeepsGate k (get_or os f no_open) (get_or os' f no_open)

keeps_then : (k n : ℕ) (os later last : List Open) → Keeps k n os later → Keeps k n later last → Keeps k n os last
keeps_then = grind arith

set_keeps : (k n f : ℕ) (os : List Open) (y : Open) → (f < n → KeepsGate k (get_or os f no_open) y) → Keeps k n os (set os f y)
set_keeps k n f os y here = each_set no_open (λ j x z. j < n → KeepsGate k x z) os f y (λ j apart x within. kept) here (λ j within. kept)

either : {X : Type 0} (k n : ℕ) (os : List Open) (opens : X → List Open) (b : Bool) (x y : X) → Keeps k n os (opens x) → Keeps k n os (opens y) → Keeps k n os (opens (if b then x else y))
either k n os opens true x y first other = first
either k n os opens false x y first other = other

end_keeps : (k n r : ℕ) (o : Operation) (outcome : Option Outcome) (s : Common) → (is_durable o.kind ≡ true → o.target < n → (open_of s o.target).holder ≡ Some r) → k ≢ r → Keeps k n s.opens (opens_after_end o outcome s)
end_keeps k n r o None s has apart = λ f within. kept
end_keeps k n r o (Some outcome) s has apart =
    either k n s.opens (λ os. os) (is_of_file o.kind) _ s.opens (set_keeps k n o.target s.opens _ (λ within. ended_keeps k r o.target o outcome (open_of s o.target) (λ durable. has durable within) apart)) (λ f within. kept)

-- a refused hint is of the account alone
refusal_keeps : (k n : ℕ) (s : Common) (x : Request) (m : OpResult) → Keeps k n s.opens (common_after_refusal s x m).opens
refusal_keeps k n s x m = either k n s.opens (λ (z : Common). z.opens) (refuses_hint (judged_of x m)) _ s (set_keeps k n x.operation.target s.opens _ (λ within. kept)) (λ f within. kept)

-- what is over stays over
over_set : (rs : List Request) (r : ℕ) (y : Request) → is_resolved y.phase ≡ true → is_resolved (get_or (set rs r y) r no_request).phase ≡ true
over_set = grind (arith, cases_lt, get_or-set_same, set_past, get_or_past)

-- WHO JOINS A GATE BY THE NEXT LINE does so by a turn: no other event may come
module _ (c : Configuration) (it : Books) (s : Common) (i k : ℕ) where
  abbrev joining : Books
  joining = record it { next = next.Joins k }

  joins_now : (e : Event) (choice : Choice) → Allowed c joining s i e choice → (common_after c joining s i e choice).opens ≡ (after_join s k).opens
  joins_now = grind (arith, and_parts, false≢true)

-- AN EVENT

number_is : (r : ℕ) (told : Option ℕ) → is_number r told ≡ true → told ≡ Some r
number_is = grind (arith, eqb-true, false≢true)

-- what is told of no end was given none
no_end : (account : Account) (kind : Kind) (given : Option Outcome) → same_end None (outcome_shown account kind given) ≡ true → given ≡ None
no_end = grind (arith, false≢true)

-- a durable request that is past the gate, and not over, has the permit
abbrev pub HasPermit : Common → ℕ → Type 0
HasPermit s r = is_durable (request_of s r).operation.kind ≡ true → IsPast (request_of s r) → (request_of s r).operation.target < length s.opens → (open_of s (request_of s r).operation.target).holder ≡ Some r

module _ (c : Configuration) (me : Books) (s : Common) (i : ℕ) (has : (r : ℕ) → HasPermit s r) (k : ℕ) where
  abbrev many : ℕ
  many = length s.opens

  -- it leaves request k where it stands, which is not over then
  abbrev LeavesIt : Event → Choice → Type 0
  LeavesIt e choice = is_resolved (request_of (common_after c me s i e choice) k).phase ≡ false → Keeps k many s.opens (common_after c me s i e choice).opens

  turn_keeps : (n : Next) → Keeps k many s.opens (after_next s i n).opens
  turn_keeps (next.Joins r) =
      let f = (request_of s r).operation.target in
      let x = open_of s f in
      set_keeps k many f s.opens (open_joined_by r x) (λ within. joined_keeps k r x.account x.holder x.waiting)
  turn_keeps _ = λ f within. kept

  admit_keeps : (r : ℕ) (kind : Kind) (outcome : Option Outcome) (choice : Choice) → Keeps k many s.opens (common_after c me s i (event.Admit r kind outcome) choice).opens
  admit_keeps r kind outcome choice = let o = asked_now c me s in either k many s.opens (λ os. os) (same_kind o.kind Write) _ s.opens (set_keeps k many o.target s.opens _ (λ within. kept)) (λ f within. kept)

  -- a request that this event ends is over
  ended : {T : Type 0} (r : ℕ) (y : Request) → is_resolved y.phase ≡ true → k ≡ r → is_resolved (get_or (set s.requests r y) k no_request).phase ≡ false → T
  ended r y over is live = absurd (true≢false (sym (over_set s.requests r y over) ∙ subst (λ n. is_resolved (get_or (set s.requests r y) n no_request).phase ≡ false) is live))

  grant_keeps : (r : ℕ) (outcome : Option Outcome) (choice : Choice) → Allowed c me s i (event.Grant r outcome) choice → LeavesIt (event.Grant r outcome) choice
  grant_keeps r None choice h live = λ f within. kept
  grant_keeps r (Some x) choice h live =
      let it = request_of s r in
      elim (cases_eq k r) [
        | inl is ↦ ended r (resolved x it) refl is live
        | inr apart ↦ end_keeps k many r it.operation (Some x) s (λ durable within. number_is r (open_of s it.operation.target).holder h.1.1.1.0) apart
      ]

  reap_keeps : (r : ℕ) (n : OpResult) (outcome : Option Outcome) (choice : Choice) → Allowed c me s i (event.Reap r n outcome) choice → LeavesIt (event.Reap r n outcome) choice
  reap_keeps r n outcome choice h live = by outcome h.1.1.1.1.0 live (cases_eq k r)
    where
      it : Request
      it = request_of s r

      told : Common
      told = common_after_refusal s it n

      given : Option Outcome
      given = outcome_given it n

      refused : (q : ℕ) → Keeps q many s.opens told.opens
      refused q = refusal_keeps q many s it n

      by : (outcome : Option Outcome) → same_end outcome (outcome_shown (account_of_open s it) it.operation.kind given) ≡ true → is_resolved (get_or (set s.requests r (reaped n outcome it)) k no_request).phase ≡ false
          → (k ≡ r) ⊎ (k ≢ r) → Keeps k many s.opens (opens_after_end it.operation given told)
      by (Some x) same live (inl is) = ended r (reaped n (Some x) it) refl is live
      by None same live (inl is) = subst (λ end. Keeps k many s.opens (opens_after_end it.operation end told)) (sym (no_end (account_of_open s it) it.operation.kind given same)) (refused k)
      by outcome same live (inr apart) =
          keeps_then k many s.opens told.opens (opens_after_end it.operation given told) (refused k)
          (end_keeps k many r it.operation given told (λ durable within. (refused r it.operation.target within).holds (has r durable (landed_past n it h.1.1.1.0) within)) apart)

  pub opens_keep : (e : Event) (choice : Choice) → Allowed c me s i e choice → LeavesIt e choice
  opens_keep event.Turn Passes h live = λ f within. kept
  opens_keep event.Turn choice h live = turn_keeps me.next
  opens_keep (event.Admit r kind outcome) choice h live = admit_keeps r kind outcome choice
  opens_keep (event.Grant r outcome) choice h live = grant_keeps r outcome choice h live
  opens_keep (event.Reap r n outcome) choice h live = reap_keeps r n outcome choice h live
  opens_keep e choice h live = λ f within. subst (KeepsGate k (open_of s f)) (sym (opens_left c me s i me.polls e choice h f refl)) kept

  -- who is given the permit has it
  pub granted_has : (e : Event) (choice : Choice) → Allowed c me s i e choice → grants k e ≡ true → (open_of (common_after c me s i e choice) (request_of s k).operation.target).holder ≡ Some k
  granted_has (event.Grant r None) choice h gives =
      subst (λ n. (open_of s (request_of s n).operation.target).holder ≡ Some n) (sym (eqb-true k r gives)) (number_is r (open_of s (request_of s r).operation.target).holder h.1.1.1.0)
  granted_has _ choice h gives = absurd (false≢true gives)

-- A NEW REQUEST

-- it joins the gate by the next line, where it waits for a permit
pub record Comes (i : ℕ) (n : Next) (k : ℕ) (y : Request) : Type 0 where
  pub worker : y.worker ≡ i
  pub durable : is_gated y.phase ≡ true → is_durable y.operation.kind ≡ true
  pub joins : is_gated y.phase ≡ true → n ≡ next.Joins k
  pub waits : is_durable y.operation.kind ≡ true → IsPast y → ⊥

made_comes : (i r : ℕ) (me : Books) (o seen : Operation) → seen.kind ≡ o.kind → (outcome : Option Outcome) → Comes i (own_after_admit o outcome r me).next r (resolved_if outcome (new_request i seen))
made_comes = grind (arith, true≢false, false≢true)

seen_kind : (o : Operation) (s : Common) → (with_seen o s).kind ≡ o.kind
seen_kind = grind arith

module _ (c : Configuration) (me : Books) (s : Common) (i : ℕ) where
  pub each_comes : (e : Event) (choice : Choice) → Allowed c me s i e choice → (k : ℕ)
      → (Turns e k (request_of s k) (request_of (common_after c me s i e choice) k)) ⊎ (Comes i (own_after c me s i e choice).next k (request_of (common_after c me s i e choice) k))
  each_comes = grind (arith, each_push, turned, made_comes, seen_kind, no_made, eqb-true)

-- AFTER IT

module _ (c : Configuration) (w : World) (i : ℕ) (e : Event) (choice : Choice) (owns : length w.workers ≡ length w.common.seats) (here : i < length w.common.seats)
    (may : Allowed c (own_of w i) w.common i e choice) (own : IsOwn w.common i e) (held : IsBooked w) where
  abbrev me : Books
  me = own_of w i

  abbrev s : Common
  s = w.common

  abbrev late : World
  late = after c w i e choice

  has : (r : ℕ) → HasPermit s r
  has r durable past within = (held.lined_up r).has durable past.0 past.1 within

  long : length late.common.opens ≡ length s.opens
  long = opens_long c me s i me.polls e choice

  -- who joins by the next line stands there then, where that line was the worker's own
  joins_then : (k : ℕ) → (request_of s k).operation.target < length s.opens → (own_of w (request_of s k).worker).next ≡ next.Joins k
      → (stands_at (open_of late.common (request_of s k).operation.target) k ≡ true) ⊎ ((own_of late (request_of s k).worker).next ≡ next.Joins k)
  joins_then k within joins = elim (cases_eq (request_of s k).worker i) [
    | inr apart ↦ inr (ap (λ (x : Books). x.next) (own_apart c w i e choice owns here may own held (request_of s k).worker (whose_within s i here held.requests k) apart) ∙ joins)
    | inl mine ↦
        let is : me.next ≡ next.Joins k = subst (λ n. (own_of w n).next ≡ next.Joins k) mine joins in
        let f = (request_of s k).operation.target in
        let x = open_of s f in
        let now = subst (λ n. Allowed c (record me { next = n }) s i e choice → (common_after c (record me { next = n }) s i e choice).opens ≡ (after_join s k).opens) (sym is) (joins_now c me s i k e choice) may in
        inl (ap (λ os. stands_at (get_or os f no_open) k) now ∙ ap (λ (o : Open). stands_at o k) (get_or-set_same s.opens f (open_joined_by k x) no_open within) ∙ joined_stands k x.account x.holder x.waiting)
  ]

  stays : (k : ℕ) → Turns e k (request_of s k) (request_of late.common k) → IsLinedUp late k (request_of late.common k)
  stays k turns =
      record {
        durable = λ gated. ap is_durable turns.kind ∙ was.durable (turns.gated gated);
        waits = λ gated within. rw (turns.target, turns.worker) (waits gated (there within));
        has = λ durable gated over within. rw turns.target (keeps_permit (sym (ap is_durable turns.kind) ∙ durable) (gated, over) (there within));
      }
    where
      f : ℕ
      f = (request_of s k).operation.target

      was : IsLinedUp w k (request_of s k)
      was = held.lined_up k

      there : (request_of late.common k).operation.target < length late.common.opens → f < length s.opens
      there within = omega (arith, within, long, turns.target)

      leaves : is_resolved (request_of late.common k).phase ≡ false → f < length s.opens → KeepsGate k (open_of s f) (open_of late.common f)
      leaves live = opens_keep c me s i has k e choice may live f

      waits : is_gated (request_of late.common k).phase ≡ true → f < length s.opens → (stands_at (open_of late.common f) k ≡ true) ⊎ ((own_of late (request_of s k).worker).next ≡ next.Joins k)
      waits gated within = elim (was.waits (turns.gated gated) within) [
        | inl stands ↦ inl ((leaves (gated_open (request_of late.common k).phase gated) within).stands stands)
        | inr joins ↦ joins_then k within joins
      ]

      keeps_permit : is_durable (request_of s k).operation.kind ≡ true → IsPast (request_of late.common k) → f < length s.opens → (open_of late.common f).holder ≡ Some k
      keeps_permit durable past within = elim (turns.past past) [
        | inl before ↦ (leaves past.1 within).holds (was.has durable before.0 before.1 within)
        | inr gives ↦ granted_has c me s i has k e choice may gives
      ]

  comes : (k : ℕ) → Comes i (own_after c me s i e choice).next k (request_of late.common k) → IsLinedUp late k (request_of late.common k)
  comes k new =
      record {
        durable = new.durable;
        waits = λ gated within. inr (rw new.worker (ap (λ (x : Books). x.next) (own_own c w i e choice (omega (arith, owns, here))) ∙ new.joins gated));
        has = λ durable gated over within. absurd (new.waits durable (gated, over));
      }

  pub lined_up_then : AreLinedUp late
  lined_up_then k = elim (each_comes c me s i e choice may k) [ inl turns ↦ stays k turns | inr new ↦ comes k new ]
