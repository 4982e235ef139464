use Rattle.std.proofs.Common.{◌≡◌, drop}
use Rattle.std.specs.List.{slice_get}
use Rattle.board.specs.Row.{bytes_of}
use Rattle.board.proofs.area.byte_at.Given as goal

abbrev pub invariant-loop-row : goal.invariant-loop-row
invariant-loop-row g l = slice_get (bytes_of (g.B.Board.rows l.board)) l.place ≡ slice_get (bytes_of (drop l.row (g.B.Board.rows l.board))) l.left
