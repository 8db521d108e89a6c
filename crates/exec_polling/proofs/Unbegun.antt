-- A request that wasn't begun, of any kind: what its word asks for, and what holds of it.
use Rattle.std.proofs.{Common.{◌≡◌, ℕ, ◌+◌, ◌^◌, ◌<◌, ◌≤◌, true, false, [], Option, Some, None, IfSome, refl, arith, if◌then◌else◌}}
use Rattle.exec_base.specs.declared.error.Error.TheVariants.{Timeout}
use Rattle.exec_outcomes.{specs.{Accounts.is_durable, Outcomes.HasCome, declared.outcome.{Outcome.TheVariants.Failure, Kind.Kind}}}
use Rattle.exec_request.specs.{Kept.seen_by, Requests.{asked_of, cursor_of, deadline_of, gate_of, target_of}, declared.{request.Request.Request as Asking}}
use Rattle.exec_driver.specs.Steps.{is_late, plainly_written}
use Rattle.exec_machine.specs.{declared.{config.{Configuration.Configuration, ScriptWord.ScriptWord}, state.Operation.Operation}, Requests.{operation_asked, outcome_if_late}, Same.{same_end, same_kind}, Tests.is_of_file}
use Rattle.exec_parts.specs.{Records.{IsInRange, operation_in, seen_in}, Scripts.{IsPlainRequest}, Spots.{IsAskedFor}}
use Rattle.exec_invariants.specs.{Carried.{IsWhole}, Gates.may_ask_hint}

-- WHAT ITS BODY MADE

pub record IsUnbegun (q : Asking) : Type 0 where
  pub gateless : is_durable (asked_of q).kind ≡ false → gate_of q ≡ None
  pub written : plainly_written q ≡ (if same_kind (asked_of q).kind Kind.Write then Some (target_of q) else None)
  pub same : same_kind (asked_of q).kind (asked_of q).kind ≡ true
  pub bounded : (asked_of q).skip + (asked_of q).length + 4095 < 2 ^ 63
  pub whole : IsWhole q
  pub in_range : IsInRange q
  pub seen : seen_by q ≡ seen_in q

pub unbegun : (q : Asking) → IsPlainRequest q → (cursor_of q).switched ≡ false → IsUnbegun q
unbegun = grind arith

-- nothing has come of it yet
pub none_come : (q : Asking) → (cursor_of q).moved ≡ 0 → (cursor_of q).switched ≡ false → HasCome (asked_of q) (cursor_of q) []
none_come = grind arith

-- THE OPERATION that its word asks for

-- so it stands at the record and at the machine
pub record IsWanted (c : Configuration) (m : ℕ) (o : Operation) (q : Asking) : Type 0 where
  pub only : operation_in q ≡ record o { seen = seen_in q }
  pub near : IfSome (deadline_of q) (λ d. d ≤ m + c.rw + c.connect)
  pub undated : is_of_file (asked_of q).kind ≡ true → deadline_of q ≡ None
  pub hint : (cursor_of q).hinted ≡ may_ask_hint (asked_of q).kind
  pub unseen : is_of_file (asked_of q).kind ≡ false → o.seen ≡ seen_in q

pub wanted : (c : Configuration) (m : ℕ) (w : ScriptWord) (q : Asking) (o : Operation) → operation_asked c m w ≡ Some o → IsAskedFor o q → IsWanted c m o q
wanted = grind arith

-- LATE OR NOT

pub same_late : (m : ℕ) (d : Option ℕ) → same_end (outcome_if_late m d) (outcome_if_late m d) ≡ true
same_late = grind arith

-- the driver's test is the machine's
pub late_is : (m : ℕ) (d : Option ℕ) → outcome_if_late m d ≡ (if is_late d m then Some (Failure Timeout) else None)
late_is m None = refl
late_is m (Some deadline) = refl
