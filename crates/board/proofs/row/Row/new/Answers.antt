use Rattle.std.proofs.Common.{min, ap, ◌∙◌}
use Rattle.board.proofs.Lines.{line_taken, line_row}
use Rattle.board.proofs.row.Row.new.Goals as goal

pub invariant_of-result : goal.invariant_of-result
invariant_of-result c =
    let t = line_taken c.args.bytes.now c.line_length-end.result c.line_length-end.ensures in
    record { sound = line_row c.args.bytes.now _ c.args.margin _ t.0 (c.min-margin.ensures ∙ ap (min c.args.margin) t.1) }

pub returns : goal.returns
returns c =
    let t = line_taken c.args.bytes.now c.line_length-end.result c.line_length-end.ensures in
    record { bytes = t.0; margin = c.min-margin.ensures ∙ ap (min c.args.margin) t.1 }
