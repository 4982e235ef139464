-- What a sheet holds, and what it fits.
use Rattle.std.specs.Prelude.{ℕ, ◌+◌, Bool, ◌&&◌, List, length, vec_capacity, vec_items, nat_lt}
use Rattle.board.specs.Row.{Row, bytes_of}
use Rattle.board.specs.Table.{rows_of}
use Rattle.board.specs.declared.sheet.Sheet.{Sheet}

abbrev pub sheet_rows : Sheet → List Row
sheet_rows s = rows_of (vec_items s.entries) (vec_items s.area)

-- a place in the row table and the row's length plus 1 of the bytes are unused
abbrev pub room_for : ℕ → ℕ → List Row → ℕ → Bool
room_for most_rows most_bytes rows n = nat_lt (length rows) most_rows && nat_lt (length (bytes_of rows) + n) most_bytes

abbrev pub sheet_fits : Sheet → List Row → ℕ → Bool
sheet_fits s = room_for (vec_capacity s.entries) s.bytes_most
