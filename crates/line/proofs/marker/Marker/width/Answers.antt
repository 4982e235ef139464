use Rattle.std.proofs.Common.{length, ap, ◌∙◌, arith}
use Rattle.chars.specs.Widths.{text_width}
use Rattle.line.proofs.Marking.{ascii_columns, total_twice}
use Rattle.line.proofs.marker.Marker.width.Goals as goal

pub overflow_cast-result : goal.overflow_cast-result
overflow_cast-result g c =
    let same = ascii_columns (g.C.CharTable.columns c.args.table.now) c.text.result.bytes c.text.ensures.ascii in
    let few = total_twice (g.C.CharTable.columns c.args.table.now) c.text.result.bytes (g.met.C.CharTable.at_most_two_wide c.args.table.now) in
    let width = c.text_width.ensures ∙ ap (text_width (g.C.CharTable.columns c.args.table.now)) c.as_str.ensures.value in
    omega (arith, same, few, width, ap length c.as_str.ensures.value, c.as_str.ensures.fits)

pub returns : goal.returns
returns g c =
    let same = ascii_columns (g.C.CharTable.columns c.args.table.now) c.text.result.bytes c.text.ensures.ascii in cc
