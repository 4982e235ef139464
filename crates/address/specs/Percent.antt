-- Percent form: how an address stands in a link sequence, where only the bytes 32 to 126 may.
use Rattle.std.specs.Prelude.{◌≡◌, ℕ, ◌/◌, ◌%◌, Bool, true, cond, ◌&&◌, List, [], ◌∷◌, nat_le}
use Rattle.chars.specs.Hex.{hex_digit}
use Rattle.std.specs.List.{flat_map, AllByRecursion}

-- from space to tilde
abbrev pub printable : ℕ → Bool
printable b = nat_le 32 b && nat_le b 126

-- a printable byte stands for itself; any other is a percent sign and its two capital hexadecimal digits
abbrev pub percent_byte : ℕ → List ℕ
percent_byte b = cond (printable b) (b ∷ []) (37 ∷ hex_digit (b / 16) ∷ hex_digit (b % 16) ∷ [])

abbrev pub percent : List ℕ → List ℕ
percent bytes = flat_map percent_byte bytes

-- every byte stands for itself
abbrev pub Printable : List ℕ → Type 0
Printable bytes = AllByRecursion (λ b. printable b ≡ true) bytes
