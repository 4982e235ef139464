use Rattle.std.proofs.Common.{◌≡◌, drop}
use Rattle.links.specs.Tables.{addresses}
use Rattle.paint.specs.Looks.{looks_of}
use Rattle.paint.specs.Rows.{open_of}
use Rattle.line.specs.Folding.{over}
use Rattle.line.specs.Emits.{mk_brush, emit_piece}
use Rattle.line.proofs.emitting.Pen.write_spans.Given as goal

abbrev pub invariant-loop-span : goal.invariant-loop-span
invariant-loop-span g l =
    over (λ s. emit_piece l.self.format (addresses l.self.addresses.now) (g.S.AsSpan.piece (looks_of l.desired) s)) (drop l.span-index l.spans) (mk_brush (open_of l.row) l.rest)
    ≡ over (λ s. emit_piece l.self.format (addresses l.self.addresses.now) (g.S.AsSpan.piece (looks_of l.desired) s)) l.spans (mk_brush (open_of l.initial.row) l.text)
