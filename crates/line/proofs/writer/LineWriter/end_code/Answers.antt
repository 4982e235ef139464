use Rattle.std.proofs.Common.{ap, ◌∙◌}
use Rattle.line.specs.Folding.{and_then}
use Rattle.line.specs.Steps.{end_line}
use Rattle.line.proofs.writer.LineWriter.end_code.Goals as goal

pub returns : goal.returns
returns g c =
    c.end_line.ensures ∙ ap (λ r. and_then r end_line) (c.in_ok-write_code.ensures (g.B.Board.rows c.args.board.now) (g.B.Board.fits c.args.board.now))
