use Rattle.std.proofs.Common.{◌≡◌, drop}
use Rattle.paint.specs.Rows.{open_of}
use Rattle.line.specs.Steps.{indent_all}
use Rattle.line.proofs.lines.write_segments.Given as goal

abbrev pub invariant-loop-segment : goal.invariant-loop-segment
invariant-loop-segment g l =
    indent_all (g.C.CharTable.columns l.table) (drop l.segment-index l.segments) (open_of l.row) ≡ indent_all (g.C.CharTable.columns l.table) l.segments (open_of l.initial.row)
