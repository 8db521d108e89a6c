-- A kept failure stays, and under it no durable request ends well, nor does anything that is told or kept of one say so.
use Rattle.std.proofs.Common.{◌≡◌, ◌≢◌, ℕ, zero, suc, true, false, List, Option, Some, None, Ok, Err, refl, sym, ap, ◌∙◌, inl, inr, arith, All, [], ◌∷◌, subst}
use Rattle.exec_driver_laws.{proofs.{Words.{cases_lt, option_map, Error, outcome_at_grant, Kind, Failure, gate_of, output_of, record_after, outcome_if_granted, told_by, as_answer, ending_of, gate_in, open_at, with_named, writing, placed, joined, passed, WaiterKey, plainly_written, told_as, Grants, ReapsNext, opens_after_end, Reaped, Granted, with_permit, Ended, Account, OpenState, account_in, with_account, file_of, Slab, Entry, Waiter, OpResult, Request, Driving, request_at, Deferred, open_after, is_durable, asked_of, waiter_at, same_some, ForwardedResult, Answer, Untaken, IsSomeAnd, All-nil, freed, removed, Changed-set, Updates-free, Updates-write, RequestOutput, at_by, finished_for, output_told, output_at, nothing_told, queued_or_ended, landed_at, permitted, told_by_end, one_changed, DetachedSync, Forwarded, Id, Local, Observer, Orphaned, Pending, Ready, WaiterId, entry_of, taken_out, value_at, written}, Passing.{gates_same, reap_tells}, Standing.{open_tells, holder_stands, gate_kept}, Sharing.line_up_always, Once.{ends_here, told_end}}, specs.{Sharing.{Gates, Call, Admit, Join, Grant, Reap, SetAccount, Recount, Leave, CallsOne, FailsFrom, LineUp, end_by, sets_account_of, key_of}, Laws.{failure_in, failure_at}, Ends.{ending_sent, EndsUnwell, TellsNoSuccess, told_in}}}
use Rattle.exec_waiters.specs.declared.deferred.Retired.{Retired}

-- WHAT STAYS

account_failing : (opens : List OpenState) (file : ℕ) (name : Option ℕ) (account : Option Account) (error : Error) → (name ≡ Some file → failure_in account ≡ Some error) → failure_at opens file ≡ Some error
    → failure_at (with_account opens name account) file ≡ Some error
account_failing = grind (arith, open_tells)

line_failing : (opens : List OpenState) (file : ℕ) (name : Option ℕ) (change : OpenState → OpenState) (error : Error) → ((o : OpenState) → failure_in (change o).account ≡ failure_in o.account) → failure_at opens file ≡ Some error
    → failure_at (with_named opens name change) file ≡ Some error
line_failing = grind (arith, open_tells)

record_failing : (r : Request) (how : Ended) (account : Option Account) (error : Error) → failure_in account ≡ Some error → failure_in (record_after r how account) ≡ Some error
record_failing = grind arith

pub writing_failing : (o : OpenState) → failure_in (writing o).account ≡ failure_in o.account
writing_failing = grind arith

joined_failing : (key : WaiterKey) (o : OpenState) → failure_in (joined key o).account ≡ failure_in o.account
joined_failing = grind arith

-- WHAT IS TOLD

pub never_well : (r : Request) (how : Ended) (account : Option Account) (error : Error) → is_durable (asked_of r).kind ≡ true → failure_in account ≡ Some error → ending_of (output_of r how account) ≢ Ok tt
never_well = grind arith

told_failing : (r : Request) (how : Ended) (account : Option Account) (file : ℕ) (error : Error) → gate_of r ≡ Some file → failure_in account ≡ Some error → told_by (asked_of r).kind how account ≢ Ok tt
told_failing = grind arith

fails_granted : (k : Kind) (account : Account) (error : Error) → account.failure ≡ Some error → outcome_at_grant k account ≡ Some (Failure error)
fails_granted = grind arith

answered : (ended : Option Ended) (error : Error) → as_answer ended ≡ Some (Failure error) → ended ≡ Some (Err error)
answered = grind arith

refused : (r : Request) (account : Option Account) (error : Error) (ended : Option Ended) → failure_in account ≡ Some error → as_answer ended ≡ outcome_if_granted r account → ended ≡ Some (Err error)
refused r None error ended fails is = absurd (cc)
refused r (Some account) error ended fails is = answered ended error (is ∙ fails_granted (asked_of r).kind account error fails)

pub gate_file : (r : Request) (file : ℕ) → gate_of r ≡ Some file → file_of r ≡ Some file
gate_file = grind arith

told_is : (k key : WaiterKey) (o : Option Ended) (how : Ended) → option_map {U = WaiterKey × Ended} (λ how. (k, how)) o ≡ Some (key, how) → (k ≡ key) × (o ≡ Some how)
told_is = grind arith

module _ {S F : Type 0} where
  end_failing : (opens : List OpenState) (file : ℕ) (w : Waiter S F) (how : Option Ended) (error : Error) → failure_at opens file ≡ Some error → failure_at (opens_after_end opens w how) file ≡ Some error
  end_failing opens file w None error fails = fails
  end_failing opens file w (Some how) error fails =
      account_failing opens file (file_of w.request) _ error (λ named. record_failing w.request how (account_in opens (file_of w.request)) error (ap (λ (n : Option ℕ). failure_in (account_in opens n)) named ∙ fails)) fails

  pub open_failing : (w : Waiter S F) (given : OpResult) (account : Option Account) (error : Error) → failure_in account ≡ Some error → failure_in (open_after w given account) ≡ Some error
  open_failing = grind arith

  ended_failing : (w : Waiter S F) (answer : Option Ended) (account : Option Account) (file : ℕ) (error : Error) → gate_of w.request ≡ Some file → failure_in account ≡ Some error → told_as w answer account ≢ Some (Ok tt)
  ended_failing = grind (arith, told_failing)

  reap_failing : (old new : Driving S F) (opens opens' : List OpenState) (before after : Deferred S F) (told : Option Reaped) (file : ℕ) (error : Error) → ReapsNext old new opens opens' before after told
      → failure_at opens file ≡ Some error → failure_at opens' file ≡ Some error
  reap_failing old new opens opens' before after told file error reap fails =
      elim (reap_tells old new opens opens' before after told reap) [
        | inl none ↦ ap (λ (o : List OpenState). failure_at o file) none.same ∙ fails
        | inr there ↦
            let account = open_after there.w there.given (account_in opens (file_of there.w.request)) in
            let lands = account_failing opens file (file_of there.w.request) account error (λ named. open_failing there.w there.given _ error (ap (λ (n : Option ℕ). failure_in (account_in opens n)) named ∙ fails)) fails in
            ap (λ (o : List OpenState). failure_at o file) there.reaps.opens_after
            ∙ end_failing (with_account opens (file_of there.w.request) account) file (record there.w { in_flight = false; request = there.reaps.request }) there.reaps.answer error lands
      ]

  pub at_grant : (old new : Driving S F) (opens opens' : List OpenState) (before after : Deferred S F) (worker file : ℕ) (granted : Granted) (w : Waiter S F) (error : Error) → Grants old new opens opens' before after worker file granted
      → request_at old granted.id ≡ Some w → failure_at opens file ≡ Some error → granted.ended ≡ Some (Err error)
  at_grant old new opens opens' before after worker file granted w error grants at fails = refused w.request (account_in opens (Some file)) error granted.ended fails (grants.grants w at).answer

  pub at_reap : (old new : Driving S F) (opens opens' : List OpenState) (before after : Deferred S F) (r : Reaped) (w : Waiter S F) (file : ℕ) (error : Error) → ReapsNext old new opens opens' before after (Some r)
      → request_at old r.id ≡ Some w → gate_of w.request ≡ Some file → failure_at opens file ≡ Some error → r.ended ≢ Some (Ok tt)
  at_reap old new opens opens' before after r w file error reap at gate fails well =
      elim (reap_tells old new opens opens' before after (Some r) reap) [
        | inl none ↦ cc (none.told_none)
        | inr there ↦
            let told = same_some (Some r) r _ refl there.reaps.told_is in
            let own = same_some (request_at old r.id) w there.w at (ap (λ (x : Reaped). request_at old x.id) told ∙ ap (λ (s : Slab (Entry S F)). waiter_at s there.id.0) (sym there.start) ∙ there.at) in
            let durable = ap (λ (v : Waiter S F). gate_of v.request) (sym own) ∙ gate in
            let kept = ap (λ (n : Option ℕ). failure_in (account_in opens n)) (gate_file there.w.request file durable) ∙ fails in
            ended_failing there.w there.reaps.answer _ file error durable kept (sym (ap (λ (x : Reaped). x.ended) told) ∙ well)
      ]

  pub failure_stays : (worker : ℕ) (old new : Driving S F) (g g' : Gates) (call : Call worker old new g g') (file : ℕ) (error : Error) → sets_account_of call ≢ Some file → failure_at g.opens file ≡ Some error
      → failure_at g'.opens file ≡ Some error
  failure_stays worker old new g g' (Admit id request observer now next within never admits leaving) file error unset fails =
      ap (λ (o : List OpenState). failure_at o file) admits.opens_after ∙ line_failing _ file (plainly_written request) writing error writing_failing (line_failing g.opens file (gate_of request) placed error (λ o. refl) fails)
  failure_stays worker old new g g' (Join id fits same is) file error unset fails = ap (λ (h : Gates). failure_at h.opens file) is ∙ line_failing g.opens file (gate_in (request_at old id)) (joined (key_of worker id)) error (joined_failing (key_of worker id)) fails
  failure_stays worker old new g g' (Grant before after gate granted w at grants leaving) file error unset fails =
      ap (λ (o : List OpenState). failure_at o file) (grants.grants w at).opens_after ∙ end_failing g.opens file (with_permit w) granted.ended error fails
  failure_stays worker old new g g' (Reap before after told reap leaving) file error unset fails = reap_failing old new g.opens g'.opens before after told file error reap fails
  failure_stays worker old new g g' (SetAccount name account same is) file error unset fails = ap (λ (h : Gates). failure_at h.opens file) is ∙ account_failing g.opens file name account error (λ named. absurd (unset named)) fails
  failure_stays worker old new g g' (Recount name change keeps same is) file error unset fails = ap (λ (h : Gates). failure_at h.opens file) is ∙ line_failing g.opens file name change error (λ o. (keeps o).failure) fails
  failure_stays worker old new g g' (Leave id gate leaves same is) file error unset fails = ap (λ (h : Gates). failure_at h.opens file) is ∙ line_failing g.opens file (Some gate) passed error (λ o. refl) fails
  failure_stays worker old new g g' other file error unset fails = ap (λ (h : Gates). failure_at h.opens file) (gates_same other refl) ∙ fails

  -- OVER A RUN

  pub fails_on : (drivers : ℕ → ℕ → Driving S F) (gates : ℕ → Gates) (n later file : ℕ) (error : Error) → FailsFrom drivers gates n later file error → failure_at (gates later).opens file ≡ Some error
  fails_on drivers gates n zero file error fails = ap (λ (k : ℕ). failure_at (gates k).opens file) (let none : 0 ≡ n = omega (arith, fails.since) in none) ∙ fails.kept
  fails_on drivers gates n (suc k) file error fails =
      elim (cases_lt k n) [
        | inl before ↦ ap (λ (k : ℕ). failure_at (gates k).opens file) (let same : suc k ≡ n = omega (arith, fails.since, before) in same) ∙ fails.kept
        | inr since ↦
            let sooner = fails_on drivers gates n k file error (record { run = fails.run; since = since; kept = fails.kept; unset = λ i past soon. fails.unset i past (omega (arith, soon)) }) in
            failure_stays _ _ _ (gates k) (gates (suc k)) (fails.run.next k).call file error (fails.unset k since (omega arith)) sooner
      ]

output_unwell : (r : Request) (how : Ended) (account : Option Account) (file : ℕ) (error : Error) → gate_of r ≡ Some file → failure_in account ≡ Some error → ending_of (output_of r how account) ≢ Ok tt
output_unwell = grind arith

-- of what is told alone
All-one : {X : Type 0} (P : X → Type 0) (x : X) → P x → All P (x ∷ [])
All-one P x holds zero d within = holds
All-one P x holds (suc k) d within = absurd (omega (arith, within))

module _ {S F : Type 0} where
  -- nothing is told, and the request goes on
  silent : (entry : Option (Entry S F)) → output_at entry ≡ None → TellsNoSuccess (nothing_told {S = S} {F = F}) entry
  silent entry none = record { let_go = All-nil _; outcomes = All-nil _; sent = All-nil _; kept = grind arith }

  -- what stands under the name of a request that is over
  pub kept_there : (s : Slab (Entry S F)) (id : Id) (was is : Entry S F) → value_at s id ≡ Some was → value_at (written s id is) id ≡ Some is
  kept_there s id was is at = (Updates-write s id is (rw at refl)).changed

  pub gone_there : (s : Slab (Entry S F)) (id : Id) (was : Entry S F) → value_at s id ≡ Some was → value_at (removed s id) id ≡ None
  gone_there s id was at =
      let there = at_by s id was at in
      (Updates-free s (removed s id) id was (Changed-set s (removed s id) id.index (freed id.generation) refl refl there.within) there.slot).changed

  told_unwell : (s : Slab (Entry S F)) (id : Id) (was : Entry S F) (output : RequestOutput) (observer : Observer S F) (back : List Retired) → value_at s id ≡ Some was → ending_of output ≢ Ok tt
      → TellsNoSuccess (record (output_told id output observer) { resources = back }) (value_at (finished_for s id output observer) id)
  told_unwell s id was output (Local waker) back at unwell =
      record {
        let_go = All-nil _;
        outcomes = All-nil _;
        sent = All-nil _;
        kept = λ other is. subst (λ (o : RequestOutput). ending_of o ≢ Ok tt) (same_some (Some output) output other refl (ap output_at (sym (kept_there s id was (Ready output) at)) ∙ is)) unwell;
      }
  told_unwell s id was output (Forwarded sender) back at unwell =
      record { let_go = All-nil _; outcomes = All-nil _; sent = All-one (λ (a : Answer F). ending_sent a.result ≢ Ok tt) _ unwell; kept = λ other is. let differ : None ≡ Some other = ap output_at (sym (gone_there s id was at)) ∙ is in absurd (cc) }
  told_unwell s id was output (DetachedSync sender) back at unwell =
      record { let_go = All-nil _; outcomes = All-one (λ (c : ForwardedResult S). c.result ≢ Ok tt) _ unwell; sent = All-nil _; kept = λ other is. let differ : None ≡ Some other = ap output_at (sym (gone_there s id was at)) ∙ is in absurd (cc) }
  told_unwell s id was output Orphaned back at unwell =
      record { let_go = All-one (λ (u : Untaken). ending_of u.output ≢ Ok tt) _ unwell; outcomes = All-nil _; sent = All-nil _; kept = λ other is. let differ : None ≡ Some other = ap output_at (sym (gone_there s id was at)) ∙ is in absurd (cc) }

  end_unwell : (d : Driving S F) (id : WaiterId) (w : Waiter S F) (how : Option Ended) (account : Option Account) (file : ℕ) (error : Error) → request_at d id ≡ Some w → gate_of w.request ≡ Some file → failure_in account ≡ Some error
      → TellsNoSuccess (told_by_end id w how account) (value_at (queued_or_ended d id w how account).requests id.0)
  end_unwell d id w None account file error at gate fails = silent (value_at d.requests id.0) (ap output_at (entry_of _ w at))
  end_unwell d id w (Some how) account file error at gate fails = told_unwell d.requests id.0 (Pending w) (output_of w.request how account) w.observer _ (entry_of _ w at) (output_unwell w.request how account file error gate fails)

  pub told_at_grant : (old new : Driving S F) (opens opens' : List OpenState) (before after : Deferred S F) (worker file : ℕ) (granted : Granted) (w : Waiter S F) (error : Error) → Grants old new opens opens' before after worker file granted
      → request_at old granted.id ≡ Some w → gate_of w.request ≡ Some file → failure_at opens file ≡ Some error → EndsUnwell new before after granted.id
  told_at_grant old new opens opens' before after worker file granted w error grants at gate fails =
      let id = granted.id in
      let gives = grants.grants w at in
      let account = account_in opens (file_of w.request) in
      let d = permitted old id w in
      let now = (one_changed old.requests id.0 w (with_permit w) at).is_at in
      let kept = ap (λ (n : Option ℕ). failure_in (account_in opens n)) (gate_file w.request file gate) ∙ fails in
      record {
        told = told_by_end id (with_permit w) granted.ended account;
        tells = gives.tells;
        unwell = subst (λ (m : Driving S F). TellsNoSuccess (told_by_end id (with_permit w) granted.ended account) (value_at m.requests id.0)) (sym gives.driver) (end_unwell d id (with_permit w) granted.ended account file error now gate kept);
      }

  pub told_at_reap : (old new : Driving S F) (opens opens' : List OpenState) (before after : Deferred S F) (r : Reaped) (w : Waiter S F) (file : ℕ) (error : Error) → ReapsNext old new opens opens' before after (Some r)
      → request_at old r.id ≡ Some w → gate_of w.request ≡ Some file → failure_at opens file ≡ Some error → EndsUnwell new before after r.id
  told_at_reap old new opens opens' before after r w file error reap at gate fails =
      elim (reap_tells old new opens opens' before after (Some r) reap) [
        | inl none ↦ absurd (cc (none.told_none))
        | inr there ↦
            let told = same_some (Some r) r _ refl there.reaps.told_is in
            let id = there.id in
            let own = same_some (request_at old r.id) w there.w at (ap (λ (x : Reaped). request_at old x.id) told ∙ ap (λ (s : Slab (Entry S F)). waiter_at s id.0) (sym there.start) ∙ there.at) in
            let durable = ap (λ (v : Waiter S F). gate_of v.request) (sym own) ∙ gate in
            let w' : Waiter S F = record there.w { in_flight = false; request = there.reaps.request } in
            let account = open_after there.w there.given (account_in opens (file_of there.w.request)) in
            let d = landed_at (taken_out there.first) id w' in
            let now = (one_changed there.first.requests id.0 there.w w' there.at).is_at in
            let kept = open_failing there.w there.given _ error (ap (λ (n : Option ℕ). failure_in (account_in opens n)) (gate_file there.w.request file durable) ∙ fails) in
            let unwell = end_unwell d id w' there.reaps.answer account file error now (gate_kept there.w.request there.reaps.request there.reaps.kept ∙ durable) kept in
            let moved = there.end ∙ ap (λ (m : Driving S F). m.requests) there.reaps.driver in
            let ends : EndsUnwell new before after id =
            record {
              told = told_by_end id w' there.reaps.answer account;
              tells = there.reaps.tells;
              unwell = subst (λ (s : Slab (Entry S F)). TellsNoSuccess (told_by_end id w' there.reaps.answer account) (value_at s id.0)) (sym moved) unwell;
            } in
            subst (EndsUnwell new before after) (sym (ap (λ (x : Reaped). x.id) told)) ends
      ]

  -- OVER A RUN

  ends_unwell : (drivers drivers' : ℕ → Driving S F) (g g' : Gates) (calls : CallsOne drivers drivers' g g') → LineUp drivers g → (key : WaiterKey) (w : Waiter S F) (file : ℕ) (error : Error)
      → request_at (drivers key.worker) key.id ≡ Some w → gate_of w.request ≡ Some file → failure_at g.opens file ≡ Some error → IsSomeAnd (end_by calls.call) (λ e. e.0 ≡ key)
      → IsSomeAnd (told_in calls.call) (λ t. EndsUnwell (drivers' calls.worker) t.0 t.1 key.id) × (end_by calls.call ≢ Some (key, Ok tt))
  ends_unwell drivers drivers' g g' calls up key w file error at gate fails = by (drivers' calls.worker) calls.call
    where
      by : (new : Driving S F) (call : Call calls.worker (drivers calls.worker) new g g') → IsSomeAnd (end_by call) (λ e. e.0 ≡ key) → IsSomeAnd (told_in call) (λ t. EndsUnwell new t.0 t.1 key.id) × (end_by call ≢ Some (key, Ok tt))
      by new (Grant before after gate' granted w' at' grants leaving) named =
          let end = told_end key (key_of calls.worker granted.id) granted.ended named in
          let here = ap (λ (k : WaiterKey). request_at (drivers k.worker) k.id) end.2 ∙ at in
          let own = up.lines (key_of calls.worker granted.id) w gate' here (holder_stands (open_at g.opens gate') (key_of calls.worker granted.id) grants.holder) in
          let kept = ap (failure_at g.opens) (same_some (gate_of w.request) gate' file own gate) ∙ fails in (
            subst (EndsUnwell new before after) (ap (λ (k : WaiterKey). k.id) end.2) (told_at_grant _ new g.opens g'.opens before after calls.worker gate' granted w error grants here own kept),
            λ well. cc (at_grant _ new g.opens g'.opens before after calls.worker gate' granted w error grants here kept, (told_is _ key granted.ended (Ok tt) well).1),
          )
      by new (Reap before after None reap leaving) named = absurd named
      by new (Reap before after (Some r) reap leaving) named =
          let end = told_end key (key_of calls.worker r.id) r.ended named in
          let here = ap (λ (k : WaiterKey). request_at (drivers k.worker) k.id) end.2 ∙ at in (
            subst (EndsUnwell new before after) (ap (λ (k : WaiterKey). k.id) end.2) (told_at_reap _ new g.opens g'.opens before after r w file error reap here gate fails),
            λ well. at_reap _ new g.opens g'.opens before after r w file error reap here gate fails (told_is _ key r.ended (Ok tt) well).1,
          )
      by new other named = absurd named

  pub never_told : (drivers : ℕ → ℕ → Driving S F) (gates : ℕ → Gates) (n later file : ℕ) (error : Error) (fails : FailsFrom drivers gates n later file error) (key : WaiterKey) (w : Waiter S F)
      → request_at (drivers later key.worker) key.id ≡ Some w → gate_of w.request ≡ Some file → IsSomeAnd (end_by (fails.run.next later).call) (λ e. e.0 ≡ key)
      → IsSomeAnd (told_in (fails.run.next later).call) (λ t. EndsUnwell (drivers (suc later) key.worker) t.0 t.1 key.id)
  never_told drivers gates n later file error fails key w at gate named =
      let calls = fails.run.next later in
      let own = (ends_here calls.worker _ _ (gates later) (gates (suc later)) calls.call key named).own in
      subst (λ (i : ℕ). IsSomeAnd (told_in calls.call) (λ t. EndsUnwell (drivers (suc later) i) t.0 t.1 key.id)) (sym own)
      (ends_unwell (drivers later) (drivers (suc later)) (gates later) (gates (suc later)) calls (line_up_always drivers gates fails.run later) key w file error at gate (fails_on drivers gates n later file error fails) named).0

  pub never_after : (drivers : ℕ → ℕ → Driving S F) (gates : ℕ → Gates) (n later file : ℕ) (error : Error) (fails : FailsFrom drivers gates n later file error) (key : WaiterKey) (w : Waiter S F)
      → request_at (drivers later key.worker) key.id ≡ Some w
      → gate_of w.request ≡ Some file → end_by (fails.run.next later).call ≢ Some (key, Ok tt)
  never_after drivers gates n later file error fails key w at gate well =
      let named : IsSomeAnd (end_by (fails.run.next later).call) (λ e. e.0 ≡ key) = rw well refl in
      (ends_unwell (drivers later) (drivers (suc later)) (gates later) (gates (suc later)) (fails.run.next later) (line_up_always drivers gates fails.run later) key w file error at gate (fails_on drivers gates n later file error fails) named).1 well
