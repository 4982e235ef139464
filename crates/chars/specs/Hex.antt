-- Hexadecimal digits.
use Rattle.std.specs.Prelude.{ℕ, ◌+◌, cond, nat_lt}

-- a capital hexadecimal digit, as a byte: 0 to 9, then A to F
abbrev pub hex_digit : ℕ → ℕ
hex_digit n = cond (nat_lt n 10) (48 + n) (55 + n)
