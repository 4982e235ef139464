use Rattle.std.proofs.Common.{arith}
use Rattle.board.specs.Bytes.{lengths_bytes}
use Rattle.board.proofs.area.bytes_len.Goals as goal

pub lengths_sum-requires : goal.lengths_sum-requires
lengths_sum-requires g c =
    let rows = g.B.Board.rows c.args.board.now in
    omega (arith, lengths_bytes rows c.count-rows.result c.count-rows.ensures, g.met.B.Board.countable c.args.board.now)

pub overflow_add-result : goal.overflow_add-result
overflow_add-result g c =
    let rows = g.B.Board.rows c.args.board.now in
    omega (arith, c.lengths_sum.ensures, lengths_bytes rows c.count-rows.result c.count-rows.ensures, g.met.B.Board.countable c.args.board.now)

pub returns : goal.returns
returns g c = omega (arith, c.lengths_sum.ensures, lengths_bytes (g.B.Board.rows c.args.board.now) c.count-rows.result c.count-rows.ensures)
