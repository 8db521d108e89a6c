-- What comes: a request that wasn't begun.
use Rattle.std.proofs.Common.{◌≡◌, ◌^◌, ◌<◌, true, false, None, IfSome}
use Rattle.exec_request.specs.{Requests.{asked_of, cursor_of, deadline_of}, declared.request.Request.Request as Asking}
use Rattle.exec_machine.specs.Tests.{is_of_file}
use Rattle.exec_invariants.specs.Gates.{may_ask_hint}
use Rattle.exec_polling.proofs.{Admitted.IsFew, Unbegun.IsUnbegun}

-- WHAT COMES: a request that wasn't begun
pub record IsComing (q : Asking) : Type 0 where
  pub made : IsUnbegun q
  pub few : IsFew q
  pub unmoved : (cursor_of q).moved ≡ 0
  pub going : (cursor_of q).switched ≡ false
  pub hint : (cursor_of q).hinted ≡ may_ask_hint (asked_of q).kind
  pub near : IfSome (deadline_of q) (λ d. d < 2 ^ 63)
  pub undated : is_of_file (asked_of q).kind ≡ true → deadline_of q ≡ None
