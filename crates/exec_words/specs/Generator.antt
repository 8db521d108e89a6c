-- The generator of numbers by which a worker picks where it begins to look for what others have.
use Rattle.std.specs.Prelude.{ℕ, ◌*◌, ◌/◌, ◌%◌, ◌^◌, bit_xor}

-- the next number, of 32 bits: three times the number xored with itself, shifted by 13 up, 17 down, 5 up
abbrev pub shifted_up : ℕ → ℕ → ℕ
shifted_up n by = bit_xor n (n * 2 ^ by % 2 ^ 32)

abbrev pub shifted_down : ℕ → ℕ → ℕ
shifted_down n by = bit_xor n (n / 2 ^ by)

abbrev pub stirred : ℕ → ℕ
stirred n = shifted_up (shifted_down (shifted_up n 13) 17) 5
