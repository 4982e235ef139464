-- A sheet's table: where each row lies in the byte area.
use Rattle.std.specs.Prelude.{ℕ, ◌+◌, Bool, ◌&&◌, List, [], ◌∷◌, map, take, drop, ◌==◌}
use Rattle.board.specs.Row.{Row, mk_row}
use Rattle.board.specs.declared.entry.Entry.{Entry}

-- the entries lie one behind the other from a place to an end, each with one byte behind it
abbrev pub chained : ℕ → List Entry → ℕ → Bool
chained place [] end = place == end
chained place (e ∷ es) end = e.start == place && chained ((place + e.length) + 1) es end

abbrev pub row_of : List ℕ → Entry → Row
row_of area e = mk_row e.margin (take e.length (drop e.start area))

abbrev pub rows_of : List Entry → List ℕ → List Row
rows_of es area = map (row_of area) es
