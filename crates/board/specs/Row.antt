-- Rows, and the bytes of rows.
use Rattle.std.specs.Prelude.{ℕ, Bool, true, cond, not, ◌&&◌, List, [], ◌∷◌, ◌++◌, length, Some, None, Option, ◌==◌, nat_le}
use Rattle.std.specs.Option.{option_map, unwrap_or}
use Rattle.std.specs.List.{slice_get, sum_by, range_with_len}

-- a row: how many of its bytes are margin, and its bytes
pub record Row : Type 0 where
  pub margin : ℕ
  pub bytes : List ℕ

abbrev pub mk_row : ℕ → List ℕ → Row
mk_row margin bytes = record { margin = margin; bytes = bytes }

-- a byte other than 10, which ends a row
abbrev pub goes_on : ℕ → Bool
goes_on b = not (b == 10)

-- no byte is 10
abbrev pub unbroken : List ℕ → Bool
unbroken [] = true
unbroken (b ∷ bs) = goes_on b && unbroken bs

-- what may be a row: the margin is part of the bytes, and none of these is 10
abbrev pub is_row : ℕ → List ℕ → Bool
is_row margin bytes = nat_le margin (length bytes) && unbroken bytes

-- the bytes before the first 10
abbrev pub first_line : List ℕ → List ℕ
first_line [] = []
first_line (b ∷ bs) = cond (b == 10) [] (b ∷ first_line bs)

-- a row's margin, length and bytes, by the row's number and the byte's place in it
abbrev pub margin_at : List Row → ℕ → Option ℕ
margin_at rows n = option_map (λ row. row.margin) (slice_get rows n)

abbrev pub length_at : List Row → ℕ → Option ℕ
length_at rows n = option_map (λ row. length row.bytes) (slice_get rows n)

-- how many bytes the first n rows have, without the byte 10 behind each
abbrev pub lengths_of : List Row → ℕ → ℕ
lengths_of rows n = sum_by (λ row. unwrap_or (length_at rows row) 0) (range_with_len 0 n)

abbrev pub byte_in : Option Row → ℕ → Option ℕ
byte_in None place = None
byte_in (Some row) place = slice_get row.bytes place

abbrev pub byte_of : List Row → ℕ → ℕ → Option ℕ
byte_of rows n place = byte_in (slice_get rows n) place

-- the rows in order, each followed by byte 10
abbrev pub bytes_of : List Row → List ℕ
bytes_of [] = []
bytes_of (row ∷ rows) = row.bytes ++ 10 ∷ bytes_of rows
