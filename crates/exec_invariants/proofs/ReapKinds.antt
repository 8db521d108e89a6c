-- Of the kinds of requests: a write and a sync go on alone, and what stands at a gate is one of them.
use Rattle.exec_invariants.proofs.Words.{◌≡◌, false, arith, is_durable, Kind, asked_of, goes_on_alone, Asking, is_kept}

pub kept_alone : (q : Asking) → is_kept (asked_of q).kind ≡ goes_on_alone q
kept_alone = grind arith

pub durable_kept : (k : Kind) → is_kept k ≡ false → is_durable k ≡ false
durable_kept = grind arith
