-- The code's line writer as what it holds.
use Rattle.std.specs.Prelude.{ℕ, Bool, List, map, Ok, Err, Result}
use Rattle.std.specs.Option.{option_map}
use Rattle.stack.specs.Held.{held}
use Rattle.board.specs.Row.{Row}
use Rattle.paint.specs.Looks.{Looks, looks_of}
use Rattle.paint.specs.Rows.{open_of}
use Rattle.line.specs.declared.fault.LineFault.{LineFault}
use Rattle.line.specs.declared.prefix.Override.{Override as OverrideCode}
use Rattle.line.specs.declared.prefix.LinePrefix.{LinePrefix}
use Rattle.line.specs.declared.writer.LineState.{LineState}
use Rattle.line.specs.declared.writer.LineState.TheVariants.{Open, AtStart, AfterBlock}
use Rattle.line.specs.declared.writer.PendingSpace.{PendingSpace}
use Rattle.line.specs.declared.writer.LineWriter.{LineWriter}
use Rattle.line.specs.declared.word.Span.{Span}
use Rattle.line.specs.declared.word.Word.{Word}
use Rattle.line.specs.Markers.{marker_text}
use Rattle.line.specs.Writer as model

abbrev pub override_of : OverrideCode → model.Override
override_of o = record { segments = held o.segments; marker = marker_text o.marker }

abbrev pub prefix_of : LinePrefix → model.Prefix
prefix_of p = model.mk_prefix (held p.segments) (option_map override_of p.next_override)

abbrev pub at_of : LineState → model.At
at_of Open = model.opened
at_of AtStart = model.at_start
at_of (AfterBlock prefix) = model.after_block (held prefix)

abbrev pub piece_of : Span → model.Piece
piece_of s = record { length = s.length; width = s.width; looks = looks_of s.desired }

abbrev pub word_of : Word → model.Held
word_of w = record { text = w.text; pieces = map piece_of w.spans; width = w.width }

abbrev pub pending_of : PendingSpace → Looks
pending_of p = looks_of p.desired

abbrev pub writer_of : LineWriter → model.Writer
writer_of w =
    model.mk_writer w.format (prefix_of w.prefix) (model.mk_line (at_of w.line) (open_of w.row))
    (model.mk_text (word_of w.word) (option_map pending_of w.pending_space) (looks_of w.desired_attrs)) w.rows

abbrev pub state_of : LineWriter → List Row → (List Row → ℕ → Bool) → model.State
state_of w rows fits = model.mk_state (writer_of w) (model.mk_ground rows fits)

-- what a call answered, with what it left: the state, or at a refusal the board alone
abbrev pub left : {A : Type 0} → Result A LineFault → model.State → model.Outcome
left (Ok x) s = Ok s
left (Err e) s = Err (e, s.ground)
