use Rattle.std.proofs.Common.{◌<◌, ◌≤◌, length, sym, ap, ◌∙◌, arith}
use Rattle.std.proofs.lemmas.Result.{err_from_is_err_and}
use Rattle.links.specs.Tables.{addresses}
use Rattle.paint.specs.Looks.{looks_of}
use Rattle.paint.specs.Rows.{open_of}
use Rattle.line.specs.Emits.{Brush, mk_brush, emit_piece, row_left}
use Rattle.line.proofs.Folds.{over_stop, over_end, over-map}
use Rattle.line.proofs.emitting.Pen.write_spans.Goals as goal

pub returns-in_err-rest : goal.returns-in_err-rest
returns-in_err-rest g c =
    let p = err_from_is_err_and c.from_residual.result c.from_residual.ensures.1 in
    let step = λ (s : g.row.S.Denot). emit_piece c.args.self.now.format (addresses c.args.self.now.addresses.now) (g.S.AsSpan.piece (looks_of c.args.desired.now) s) in
    let lt : c.loop-span.span-index < length c.args.spans.now = omega arith in
    let b : Brush = mk_brush (open_of c.loop-span.row) c.loop-span.rest.now in
    rw (p.1, p.2)
    (ap row_left
    (over_stop step c.args.spans.now c.loop-span.span-index b _ c.loop-span.invariant c.span-item.result _ lt (ap (λ x. step x b) (sym c.span-item.is) ∙ sym c.in_err-rest.ensures)
    ∙ sym (over-map (g.S.AsSpan.piece (looks_of c.args.desired.now)) (emit_piece c.args.self.now.format (addresses c.args.self.now.addresses.now)) c.args.spans.now (mk_brush (open_of c.args.row.now) c.args.text.now))))

pub returns : goal.returns
returns g c =
    let step = λ (s : g.row.S.Denot). emit_piece c.args.self.now.format (addresses c.args.self.now.addresses.now) (g.S.AsSpan.piece (looks_of c.args.desired.now) s) in
    let le : length c.args.spans.now ≤ c.loop-span.span-index = omega arith in
    let b : Brush = mk_brush (open_of c.loop-span.row) c.loop-span.rest.now in
    ap row_left
    (over_end step c.args.spans.now c.loop-span.span-index b _ c.loop-span.invariant le
    ∙ sym (over-map (g.S.AsSpan.piece (looks_of c.args.desired.now)) (emit_piece c.args.self.now.format (addresses c.args.self.now.addresses.now)) c.args.spans.now (mk_brush (open_of c.args.row.now) c.args.text.now)))
