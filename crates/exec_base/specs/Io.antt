-- What a call of a source or a sink does to its count of faults and to the bytes that are known of it.
use Rattle.std.specs.Prelude.{◌≡◌, ℕ, ◌+◌, ◌-◌, ◌^◌, ◌<◌, ◌≤◌, min, List, [], length, take, drop, Option, Some, Result, is_ok, if◌then◌else◌}

-- a count after one more, which stands still at the end of u64
abbrev pub one_more : ℕ → ℕ
one_more n = min (n + 1) (2 ^ 64 - 1)

-- a count of faults rose by one where a call failed, and else stayed
abbrev pub CountsFault : {T E : Type 0} → ℕ → ℕ → Result T E → Type 0
CountsFault old new outcome = new ≡ (if is_ok outcome then old else one_more old)

-- a count of faults rose, or stands at the end of u64
abbrev pub Rose : ℕ → ℕ → Type 0
Rose old new = min old (2 ^ 64 - 2) < new

-- a source that held these bytes moved the first n of them into the front of a buffer, and none only at its end
pub record Takes (bytes : List ℕ) (n : ℕ) (buf : List ℕ) (left : Option (List ℕ)) : Type 0 where
  pub front : take n buf ≡ take n bytes
  pub rest : left ≡ Some (drop n bytes)
  pub within : n ≤ length bytes
  pub ends : n ≡ 0 → bytes ≡ []
