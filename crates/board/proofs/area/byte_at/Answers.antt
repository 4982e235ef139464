use Rattle.std.proofs.Common.{◌≡◌, ◌+◌, ◌-◌, Some, drop, sym, ap, ◌∙◌, arith}
use Rattle.std.specs.List.{slice_get}
use Rattle.board.specs.Row.{length_at, bytes_of}
use Rattle.board.specs.Bytes.{within_row, at_row_end, beyond_row}
use Rattle.board.proofs.area.byte_at.Goals as goal

pub returns-then-left-length : goal.returns-then-left-length
returns-then-left-length g c =
    let rows = g.B.Board.rows c.args.board.now in
    let e : length_at rows c.loop-row.row ≡ Some c.in_ok-length.length = sym c.length.ensures ∙ c.in_ok-length.was in
    c.byte.ensures ∙ sym (c.loop-row.invariant ∙ within_row rows c.loop-row.row c.in_ok-length.length c.loop-row.left e c.if-left-length.true)

pub returns-then-left-length-2 : goal.returns-then-left-length-2
returns-then-left-length-2 g c =
    let rows = g.B.Board.rows c.args.board.now in
    let e : length_at rows c.loop-row.row ≡ Some c.in_ok-length.length = sym c.length.ensures ∙ c.in_ok-length.was in
    sym (c.loop-row.invariant ∙ ap (slice_get (bytes_of (drop c.loop-row.row rows))) c.if-left-length-2.true ∙ at_row_end rows c.loop-row.row c.in_ok-length.length e)

pub loop-row-preserved : goal.loop-row-preserved
loop-row-preserved g c =
    let rows = g.B.Board.rows c.args.board.now in
    let e : length_at rows c.loop-row.row ≡ Some c.in_ok-length.length = sym c.length.ensures ∙ c.in_ok-length.was in
    let n : c.loop-row.left - (c.in_ok-length.length + 1) ≡ (c.loop-row.left - c.in_ok-length.length) - 1 = omega arith in
    c.loop-row.invariant ∙ beyond_row rows c.loop-row.row c.in_ok-length.length c.loop-row.left e (omega arith) ∙ ap (slice_get (bytes_of (drop (c.loop-row.row + 1) rows))) n
