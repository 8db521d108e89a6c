-- The first tick at a deadline or after it is within what 64 bits can say.
use Rattle.std.proofs.{Common.{ℕ, ◌+◌, ◌-◌, ◌*◌, ◌/◌, ◌^◌, ◌<◌, ◌≤◌, arith}, Math.Nat.div-mul-le_self}

pub ticks_within : (start tick deadline : ℕ) → 0 < tick → start ≤ deadline → deadline + tick < 2 ^ 64
    → (((deadline - start + (tick - 1)) / tick) * tick < 2 ^ 64) × (start + ((deadline - start + (tick - 1)) / tick) * tick < 2 ^ 64)
ticks_within start tick deadline some begun ahead =
    let most = div-mul-le_self (deadline - start + (tick - 1)) tick in
    (omega (arith, most, some, begun, ahead), omega (arith, most, some, begun, ahead))
