-- Markers are of ASCII characters, so each of their bytes is a character. Assumes nothing.
use Rattle.std.proofs.Common.{◌≡◌, ℕ, ◌*◌, ◌≤◌, List, [], ◌∷◌, length, ap, arith}
use Rattle.std.specs.Str.{IsAscii}
use Rattle.std.proofs.lemmas.Str.{chars-IsAscii}
use Rattle.chars.specs.Widths.{total_columns, text_width}

-- each byte of an ASCII text is a character
pub ascii_columns : (columns : ℕ → ℕ) (text : List ℕ) → IsAscii text → text_width columns text ≡ total_columns columns text
ascii_columns columns text h = ap (total_columns columns) (chars-IsAscii text h)

pub total_twice : (columns : ℕ → ℕ) (cs : List ℕ) → ((c : ℕ) → columns c ≤ 2) → total_columns columns cs ≤ 2 * length cs
total_twice columns [] two = omega arith
total_twice columns (c ∷ cs) two = omega (arith, two c, total_twice columns cs two)
