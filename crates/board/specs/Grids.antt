-- What a grid holds, and what it fits.
use Rattle.std.specs.Prelude.{ℕ, Bool, ◌&&◌, List, map, length, take, nat_le, nat_lt}
use Rattle.board.specs.Row.{Row, mk_row}
use Rattle.board.specs.declared.grid.Strip.{Strip}
use Rattle.board.specs.declared.grid.Grid.{Grid}

abbrev pub strip_row : Strip → Row
strip_row s = mk_row s.margin s.bytes.items

abbrev pub grid_rows : Grid → List Row
grid_rows g = map strip_row (take g.count g.strips)

-- 64 rows of up to 256 bytes
abbrev pub grid_fits : List Row → ℕ → Bool
grid_fits rows n = nat_lt (length rows) 64 && nat_le n 256
