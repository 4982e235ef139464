-- Which code points are blank, and how wide each is, under each table.
use Rattle.std.specs.Prelude.{ℕ, Bool, cond, ◌&&◌, List, [], ◌∷◌, nat_le}
use Rattle.std.specs.List.{list_any}

-- some range of the list, with both its ends, has the code point
abbrev pub in_some : List (ℕ × ℕ) → ℕ → Bool
in_some ranges c = list_any (λ r. nat_le r.0 c && nat_le c r.1) ranges

-- `Wide`: what is blank; the no-break spaces U+00A0 and U+2007 are not
abbrev pub blank_ranges : List (ℕ × ℕ)
blank_ranges = (0x0009, 0x000D) ∷ (0x0020, 0x0020) ∷ (0x2000, 0x2006) ∷ (0x2008, 0x200A) ∷ (0x3000, 0x3000) ∷ []

-- `Wide`: what takes no column
abbrev pub no_column_ranges : List (ℕ × ℕ)
no_column_ranges = (0x0300, 0x036F) ∷ (0x200B, 0x200F) ∷ (0xFE00, 0xFE0F) ∷ []

-- `Wide`: what takes two columns
abbrev pub two_column_ranges : List (ℕ × ℕ)
two_column_ranges = (0x1100, 0x115F) ∷ (0x2E80, 0x303E) ∷ (0x3041, 0x4DBF) ∷ (0x4E00, 0xA4CF) ∷ (0xAC00, 0xD7A3) ∷ (0xF900, 0xFAFF) ∷ (0xFF00, 0xFF60) ∷ (0x1F300, 0x1F64F) ∷ []

-- `Wide`: how many columns a character takes; all that are in neither list take one
abbrev pub wide_columns : ℕ → ℕ
wide_columns c = cond (in_some no_column_ranges c) 0 (cond (in_some two_column_ranges c) 2 1)

-- `Wide`: whether a character is blank
abbrev pub wide_blank : ℕ → Bool
wide_blank c = in_some blank_ranges c

-- `Panel`: the blanks are those of ASCII
abbrev pub panel_blank : ℕ → Bool
panel_blank c = in_some ((9, 13) ∷ (32, 32) ∷ []) c
