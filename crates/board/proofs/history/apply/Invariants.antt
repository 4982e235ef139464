use Rattle.std.proofs.Common.{◌≡◌, drop}
use Rattle.board.specs.History.{history}
use Rattle.board.proofs.history.apply.Given as goal

abbrev pub invariant-loop-change : goal.invariant-loop-change
invariant-loop-change g l =
    (g.B.Board.fits l.board ≡ g.B.Board.fits l.initial.board)
    × (history (g.B.Board.fits l.initial.board) (g.B.Board.rows l.board) (drop l.change-index l.changes) ≡ history (g.B.Board.fits l.initial.board) (g.B.Board.rows l.initial.board) l.changes)
