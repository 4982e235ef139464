-- What each operation of the line writer does. What may be refused carries the rows that were put before.
use Rattle.std.specs.Prelude.{ℕ, cond, List, [], ◌∷◌, ◌++◌, length, Some, None, Ok, Err, Option, Result, ◌==◌}
use Rattle.board.specs.History.{row_from}
use Rattle.chars.specs.Widths.{total_columns}
use Rattle.paint.specs.declared.fault.RowFault.{RowFault}
use Rattle.paint.specs.Rows.{Open, blank, counted, indent, finished, margin_left}
use Rattle.line.specs.declared.fault.LineFault.TheVariants.{Row as RowLong, Board}
use Rattle.line.specs.declared.segment.Segment.{Segment}
use Rattle.line.specs.Folding.{and_then, over}
use Rattle.line.specs.Margins.{segment_text, segment_columns}
use Rattle.line.specs.Writer.{Override, At, opened, at_start, after_block, Line, Writer, State, Outcome, mk_prefix, mk_line, mk_writer, mk_ground, mk_state}

-- a part of the margin, behind what the row has
abbrev pub indent_one : (ℕ → ℕ) → Segment → Open → Result Open RowFault
indent_one columns s o = indent (segment_text s) (segment_columns columns s) o

-- the margin's parts, one behind the other
abbrev pub indent_all : (ℕ → ℕ) → List Segment → Open → Result Open RowFault
indent_all columns segments o = over (indent_one columns) segments o

-- a margin that ends in a marker
abbrev pub indent_marked : (ℕ → ℕ) → Override → Open → Result Open RowFault
indent_marked columns next o =
    and_then (indent_all columns next.segments o) (indent next.marker (total_columns columns next.marker))

-- a row begun with the margin that is its turn: what is set for the next row, else all the parts
abbrev pub margin_by : (ℕ → ℕ) → List Segment → Option Override → Result Open RowFault
margin_by columns segments None = indent_all columns segments blank
margin_by columns segments (Some next) = indent_marked columns next blank

abbrev pub with_line : Line → Writer → Writer
with_line line w = mk_writer w.format w.prefix line w.text w.count

abbrev pub with_hand : State → Writer → State
with_hand s w = mk_state w s.ground

-- what a row refused, of the line; what it became, in hand
abbrev pub begun_with : State → Result Open RowFault → Outcome
begun_with s (Ok o) =
    Ok (mk_state (mk_writer s.hand.format (mk_prefix s.hand.prefix.segments None) (mk_line opened o) s.hand.text s.hand.count) s.ground)
begun_with s (Err e) = Err (RowLong e, s.ground)

abbrev pub begin_line : (ℕ → ℕ) → State → Outcome
begin_line columns s = begun_with s (margin_by columns s.hand.prefix.segments s.hand.prefix.next)

-- a finished row on the board, if it fits, and one more in the writer's count
abbrev pub put_row : Open → State → Outcome
put_row o s =
    cond (s.ground.fits s.ground.rows (length (row_from (margin_left o) (finished o)).bytes))
    (Ok (mk_state (mk_writer s.hand.format s.hand.prefix (mk_line s.hand.line.at blank) s.hand.text (counted s.hand.count 1))
    (mk_ground (s.ground.rows ++ row_from (margin_left o) (finished o) ∷ []) s.ground.fits)))
    (Err (Board (record {}), s.ground))

-- a blank row: its margin alone
abbrev pub blank_row : State → Result Open RowFault → Outcome
blank_row s (Ok o) = put_row o s
blank_row s (Err e) = Err (RowLong e, s.ground)

-- the blank row that is due, unless the page has put no row yet
abbrev pub pay_due : (ℕ → ℕ) → List Segment → State → Outcome
pay_due columns due s = cond (s.hand.count == 0) (Ok s) (blank_row s (indent_all columns due blank))

abbrev pub open_at : (ℕ → ℕ) → At → State → Outcome
open_at columns opened s = Ok s
open_at columns at_start s = begin_line columns s
open_at columns (after_block due) s = and_then (pay_due columns due s) (begin_line columns)

-- a row is opened, behind the blank row that is due
abbrev pub open_line : (ℕ → ℕ) → State → Outcome
open_line columns s = open_at columns s.hand.line.at s

abbrev pub set_at : At → State → State
set_at at s = with_hand s (with_line (mk_line at s.hand.line.row) s.hand)

abbrev pub end_at : At → State → Outcome
end_at opened s = and_then (put_row s.hand.line.row s) (λ t. Ok (set_at at_start t))
end_at at_start s = Ok s
end_at (after_block due) s = Ok s

-- the open row is put
abbrev pub end_line : State → Outcome
end_line s = end_at s.hand.line.at s

-- and a blank row is due before the next
abbrev pub end_block : State → Outcome
end_block s = and_then (end_line s) (λ t. Ok (set_at (after_block t.hand.prefix.segments) t))
