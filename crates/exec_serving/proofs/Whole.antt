-- What a request's operations leave as it is says that its bytes lie in one buffer.
use Rattle.std.proofs.Common.{◌≡◌, sym, subst, arith}
use Rattle.exec_request.specs.{Kept.{Owned, kept_of, owned_by, Owned.BytesOut}, declared.{request.Request.Request as Asking}}
use Rattle.exec_invariants.specs.Carried.{IsOneBuffer, IsWhole}

abbrev whole_by : Owned → Type 0
whole_by (BytesOut b) = IsOneBuffer b
whole_by _ = Unit {0}

owns_whole : (q : Asking) → IsWhole q → whole_by (owned_by q)
owns_whole = grind arith

is_whole : (q : Asking) → whole_by (owned_by q) → IsWhole q
is_whole = grind arith

pub whole_kept : (q q' : Asking) → kept_of q' ≡ kept_of q → IsWhole q → IsWhole q'
whole_kept q q' kept whole = is_whole q' (subst (λ k. whole_by k.owned) (sym kept) (owns_whole q whole))
