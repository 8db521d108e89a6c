-- Why the run of a clean sync is one, and what no calls lead to.
use Rattle.std.proofs.Common.{◌≡◌, ◌≢◌, ℕ, zero, suc, ◌≤◌, ◌<◌, true, false, length, Option, Some, None, Ok, Err, refl, sym, ap, subst, inl, inr, arith}
use Rattle.exec_driver_laws.{proofs.{Words.{Ready, IsSomeAnd, Timeout, fresh_account, sync, here, Tells, Driving, first, idle, with_one, Says, Grants, GrantsAs, newcomer, Granted, Deferred, Waiter, WaiterId, eqb_tells, is_among, request_at, same_some, same_tells, gate_of, Sync}, Failing.fails_on, Lasting.{ends_told, stays}, Joining.{holds_on, stands_on}, Once.stays_gone, Workers.says}, specs.{Sharing.{lets_out, Admit, AreFresh, Call, CallsOne, FailsFrom, Gates, Grant, IsRun, Join, Leave, LineUp, Other, SetAccount, StandsAt, end_by, key_of, passed_on, sets_account_of}, Ends.TellsNoSuccess, Examples.{fresh_gates, no_requests, spoiled, workers}, Runs.{misplaced, back, clean, clean_gates, clean_told, healing, occupied, kept_output, of_worker, ready, reserved, sent, to_leave, two}, Owning.operations_in}}

one_there : (id : WaiterId) (w : Waiter ℕ ℕ) → request_at (with_one sync 0) id ≡ Some w → newcomer sync here ≡ w
one_there = grind arith

none_there : (id : WaiterId) (w : Waiter ℕ ℕ) → request_at ready id ≡ Some w → ⊥
none_there = grind arith

one_gated : (id : WaiterId) → is_among id (with_one sync 0).lists.gated ≡ true → first ≡ id
one_gated = grind (arith, same_tells)

says_one : Says (with_one sync 0)
says_one = record { permitted = grind (arith, one_there); lists = grind (arith, one_gated); dated = grind (arith, one_there); lands = tt }

says_ready : Says ready
says_ready = record { permitted = grind (arith, none_there); lists = grind arith; dated = grind (arith, none_there); lands = tt }

others_idle : (n m other : ℕ) → other ≢ 3 → of_worker clean m other ≡ of_worker clean n other
others_idle = grind (arith, eqb_tells)

-- a call that changes no request, and drivers at first
abbrev resting : (worker : ℕ) (d : Driving ℕ ℕ) (g : Gates) → Call worker d d g g
resting worker d g = Other refl (λ user_data is. refl) (λ user_data most is was. was) (record { queued = refl; gated = refl; enrolments = refl }) refl

fresh_of : (drivers : ℕ → Driving ℕ ℕ) → ((worker : ℕ) → drivers worker ≡ idle) → AreFresh drivers fresh_gates
fresh_of drivers are =
    record {
      count = 2;
      opens = refl;
      leaving = λ file. refl;
      requests = λ worker. ap (λ (d : Driving ℕ ℕ). d.requests.slots) (are worker);
      rings = λ worker user_data is. ap (λ (d : Driving ℕ ℕ). operations_in d.ring user_data) (are worker);
      says = λ worker. subst Says (sym (are worker)) says;
    }

abbrev answer : Granted
answer = record { id = first; ended = Some (Ok tt) }

grants_clean : (before after : Deferred ℕ ℕ) → Tells before after clean_told → Grants (with_one sync 0) ready occupied.opens to_leave.opens before after 3 1 answer
grants_clean before after tells =
    record {
      holder = refl;
      waits = refl;
      grants = λ w at.
          subst (λ (v : Waiter ℕ ℕ). GrantsAs (with_one sync 0) ready occupied.opens to_leave.opens before after 1 answer v) (one_there first w at) (record { driver = refl; tells = tells; opens_after = refl; answer = refl });
    }

calling : (before after : Deferred ℕ ℕ) → Tells before after clean_told → (n : ℕ) → CallsOne (of_worker clean n) (of_worker clean (suc n)) (clean_gates n) (clean_gates (suc n))
calling before after tells zero =
    record { worker = 3; call = Admit first sync here 0 refl (omega arith) (λ past. omega (arith, past)) (record { driver = refl; opens_after = refl }) refl; says = says_one; others = λ other apart. others_idle 0 1 other apart }
calling before after tells (suc zero) = record { worker = 3; call = Join first (omega arith) refl refl; says = says_one; others = λ other apart. others_idle 1 2 other apart }
calling before after tells (suc (suc zero)) =
    record { worker = 3; call = Grant before after 1 answer (newcomer sync here) refl (grants_clean before after tells) refl; says = says_ready; others = λ other apart. others_idle 2 3 other apart }
calling before after tells (suc (suc (suc zero))) = record { worker = 3; call = Leave first 1 refl refl refl; says = says_ready; others = λ other apart. others_idle 3 4 other apart }
calling before after tells (suc (suc (suc (suc n)))) =
    record { worker = 3; call = resting 3 ready (passed_on to_leave 1); says = says_ready; others = λ other apart. others_idle (suc (suc (suc (suc n)))) (suc (suc (suc (suc (suc n))))) other apart }

pub clean_run : (before after : Deferred ℕ ℕ) → Tells before after clean_told → IsRun (of_worker clean) clean_gates
clean_run before after tells = record { first = fresh_of (of_worker clean 0) (grind (arith, eqb_tells)); next = calling before after tells }

pub clean_end : (run : IsRun (of_worker clean) clean_gates) → IsSomeAnd (end_by (run.next 2).call) (λ e. e.0 ≡ key_of 3 first)
clean_end run = ends_told (of_worker clean) clean_gates run 2 (key_of 3 first) (newcomer sync here) refl refl refl

-- WHAT NO CALLS LEAD TO

pub not_left : (worker : ℕ) → Call worker (with_one sync 0) (with_one sync 0) occupied (passed_on occupied 1) → ⊥
not_left worker call = let holds : None ≡ Some (key_of 3 first) = holds_on worker _ _ occupied (passed_on occupied 1) call 1 (key_of 3 first) refl refl in cc

many : (d : Driving ℕ ℕ) → d ≡ idle → length d.requests.slots ≡ 0
many d is = ap (λ (m : Driving ℕ ℕ). length m.requests.slots) is

pub not_two : (g g' : Gates) → CallsOne (λ worker. idle) two g g' → ⊥
not_two g g' calls =
    elim (eqb_tells calls.worker 3) [
      | inl same ↦ let none : 1 ≡ 0 = many (two 4) (calls.others 4 (λ is. omega (arith, is, same.1))) in omega (arith, none)
      | inr apart ↦ let none : 1 ≡ 0 = many (two 3) (calls.others 3 (λ is. apart.1 (sym is))) in omega (arith, none)
    ]

pub not_back : IsRun (of_worker back) clean_gates → ⊥
not_back run =
    let gone : Some (newcomer sync here) ≡ None = stays_gone (of_worker back) clean_gates run 1 3 4 (omega arith) (omega arith) (key_of 3 first) (newcomer sync here) (omega arith) refl refl in cc

two_gates : (o : Option ℕ) → o ≡ Some 1 → o ≡ Some 0 → ⊥
two_gates o one other = let same : 1 ≡ 0 = same_some o 1 0 one other in omega (arith, same)

pub not_misplaced : LineUp (workers false) misplaced → ⊥
not_misplaced up = two_gates (gate_of sync) refl (up.lines (key_of 4 first) (record (newcomer sync here) { permit = false }) 0 refl (inr (0, omega arith, refl)))

-- A FAILURE THAT IS KEPT NO MORE

abbrev heals : (n : ℕ) → CallsOne (no_requests n) (no_requests (suc n)) (healing n) (healing (suc n))
heals zero = record { worker = 0; call = SetAccount (Some 1) spoiled refl refl; says = says; others = λ other apart. refl }
heals (suc zero) = record { worker = 0; call = resting 0 idle (healing 1); says = says; others = λ other apart. refl }
heals (suc (suc zero)) = record { worker = 0; call = SetAccount (Some 1) (Some fresh_account) refl refl; says = says; others = λ other apart. refl }
heals (suc (suc (suc n))) = record { worker = 0; call = resting 0 idle fresh_gates; says = says; others = λ other apart. refl }

unset : (k : ℕ) → 1 ≤ k → k < 2 → sets_account_of (heals k).call ≢ Some 1
unset zero past soon = omega (arith, past)
unset (suc zero) past soon = λ is. cc (is)
unset (suc (suc k)) past soon = omega (arith, soon)

pub fails_until : FailsFrom no_requests healing 1 2 1 Timeout
fails_until =
    record {
      run = record { first = fresh_of (no_requests 0) (λ worker. refl); next = heals };
      since = omega arith;
      kept = refl;
      unset = λ k past soon. unset k past soon;
    }

pub not_longer : FailsFrom no_requests healing 1 3 1 Timeout → ⊥
not_longer fails = let still : None ≡ Some Timeout = fails_on no_requests healing 1 3 1 Timeout fails in cc

-- WHAT IS TOLD

pub not_sent : TellsNoSuccess (sent (Ok tt)) None → ⊥
not_sent unwell = unwell.sent 0 (record { id = first; sender = 6; result = Ok (Sync (Ok tt)) }) (omega arith) refl

pub not_kept : TellsNoSuccess (sent (Err Timeout)) (kept_output (Ok tt)) → ⊥
not_kept unwell = unwell.kept _ refl refl

-- WHO STANDS IN A LINE, AND WHOSE OUTPUT IS KEPT

pub not_reserved : StandsAt reserved.opens 1 (key_of 3 first) → ⊥
not_reserved (inl holds) = cc
not_reserved (inr waits) = let within = waits.1 in omega (arith, within)

pub not_dropped : (worker : ℕ) → Call worker (with_one sync 0) (with_one sync 0) occupied reserved → ⊥
not_dropped worker call = not_reserved (stands_on worker _ _ occupied reserved call (λ k gate leaves. absurd (cc (leaves))) 1 (key_of 3 first) (λ leaves. cc (leaves)) (inl refl))

pub not_lost : (worker : ℕ) (g g' : Gates) (call : Call worker ready idle g g') → lets_out call ≢ Some first → ⊥
not_lost worker g g' call other = let none : None ≡ Some (Ready (Sync (Ok tt))) = stays worker _ _ g g' call first (Sync (Ok tt)) other refl in cc
