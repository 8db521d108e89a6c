-- An operation of a request has user data of its own, and what its operations leave decides whether it lacks a permit,
-- and of which open it is.
use Rattle.std.proofs.{Common.{◌≡◌, ◌<◌, ℕ, Bool, true, Option, Some, None, ap, sym, ◌∙◌, arith}, lemmas.Bool.Decides.eqb_tells}
use Rattle.exec_driver.proofs.Words.{Kind, asked_of, deadline_of, Request, file_of}
use Rattle.exec_outcomes.specs.declared.outcome.Kind.TheVariants.{Read, Hint, Direct, Write, Dsync, Many, Sync as Syncs}
use Rattle.exec_request.specs.{Kept.{Kept, kept_of}, Requests.window_by}
use Rattle.exec_ring.specs.Kernels.{may_have}
use Rattle.exec_waiters.specs.Ids.{index_in}

pub has_its_own : (hinted : Bool) (r : Request) (user_data : ℕ) → index_in user_data < 4294967295 → may_have (window_by hinted r).kind user_data ≡ true
has_its_own = grind (arith, eqb_tells)

pub asked_same : (r r' : Request) → kept_of r' ≡ kept_of r → asked_of r' ≡ asked_of r
asked_same r r' same = ap (λ (k : Kept). k.asked) same

pub deadline_same : (r r' : Request) → kept_of r' ≡ kept_of r → deadline_of r' ≡ deadline_of r
deadline_same r r' same = ap (λ (k : Kept). k.deadline) same

-- the open, by what is asked for and of what
abbrev file_by : Kind → ℕ → Option ℕ
file_by Read t = Some t
file_by Hint t = Some t
file_by Direct t = Some t
file_by Write t = Some t
file_by Dsync t = Some t
file_by Many t = Some t
file_by Syncs t = Some t
file_by _ t = None

file_kept : (r : Request) → file_of r ≡ file_by (kept_of r).asked.kind (kept_of r).target
file_kept = grind arith

pub file_same : (r r' : Request) → kept_of r' ≡ kept_of r → file_of r' ≡ file_of r
file_same r r' same = file_kept r' ∙ ap (λ (k : Kept). file_by k.asked.kind k.target) same ∙ sym (file_kept r)
