-- No step of the line writer changes what fits on its board: whether it is done or refused, what fits is what fitted before.
-- So what a contract says of the state says it of the board too. Assumes nothing.
use Rattle.std.proofs.Common.{sym, ap, ◌≡◌, ℕ, Bool, true, false, cond, List, [], ◌∷◌, ◌++◌, map, length, Some, None, Ok, Err, Option, Result, refl, ◌∙◌}
use Rattle.std.specs.Prelude.{◌==◌}
use Rattle.board.specs.Row.{Row}
use Rattle.board.specs.History.{row_from}
use Rattle.highlight.specs.declared.token.Token.{Token}
use Rattle.paint.specs.declared.fault.RowFault.{RowFault}
use Rattle.paint.specs.Looks.{Looks}
use Rattle.paint.specs.Rows.{Open, blank, counted, finished, margin_left}
use Rattle.line.specs.declared.segment.Segment.{Segment}
use Rattle.line.specs.declared.fault.LineFault.{LineFault}
use Rattle.line.specs.Folding.{and_then}
use Rattle.line.specs.Reads.{left}
use Rattle.line.specs.Writer.{Override, At, opened, at_start, after_block, State, Outcome, mk_line, mk_writer, mk_ground, mk_state}
use Rattle.line.specs.Emits.{write_run, emit_pieces}
use Rattle.line.specs.declared.fault.LineFault.TheVariants.{Board}
use Rattle.line.specs.Steps as step
use Rattle.line.specs.Flow as flow
use Rattle.line.specs.Code as code

-- what fits where a step ends
abbrev pub fits_at : Outcome → List Row → ℕ → Bool
fits_at (Ok s) = s.ground.fits
fits_at (Err e) = e.1.fits

-- a step changes nothing of what fits
abbrev pub Keeps : (State → Outcome) → Type 0
Keeps f = (s : State) → fits_at (f s) ≡ s.ground.fits

chosen : (t : Bool) (a b : Outcome) (fits : List Row → ℕ → Bool) → fits_at a ≡ fits → fits_at b ≡ fits → fits_at (cond t a b) ≡ fits
chosen true a b fits h k = h
chosen false a b fits h k = k

then : (r : Outcome) (g : State → Outcome) (fits : List Row → ℕ → Bool) → fits_at r ≡ fits → Keeps g → fits_at (and_then r g) ≡ fits
then (Ok t) g fits h k = k t ∙ h
then (Err e) g fits h k = h

-- a row on the board
pub put_row_keeps : (o : Open) → Keeps (step.put_row o)
put_row_keeps o s =
    chosen (s.ground.fits s.ground.rows (length (row_from (margin_left o) (finished o)).bytes))
    (Ok (mk_state (mk_writer s.hand.format s.hand.prefix (mk_line s.hand.line.at blank) s.hand.text (counted s.hand.count 1))
    (mk_ground (s.ground.rows ++ row_from (margin_left o) (finished o) ∷ []) s.ground.fits)))
    (Err (Board (record {}), s.ground)) s.ground.fits refl refl

blank_row_keeps : (s : State) (r : Result Open RowFault) → fits_at (step.blank_row s r) ≡ s.ground.fits
blank_row_keeps s (Ok o) = put_row_keeps o s
blank_row_keeps s (Err e) = refl

begun_keeps : (s : State) (r : Result Open RowFault) → fits_at (step.begun_with s r) ≡ s.ground.fits
begun_keeps s (Ok o) = refl
begun_keeps s (Err e) = refl

pub begin_line_keeps : (columns : ℕ → ℕ) → Keeps (step.begin_line columns)
begin_line_keeps columns s = begun_keeps s (step.margin_by columns s.hand.prefix.segments s.hand.prefix.next)

pub pay_due_keeps : (columns : ℕ → ℕ) (due : List Segment) → Keeps (step.pay_due columns due)
pay_due_keeps columns due s =
    chosen (s.hand.count == 0) (Ok s) (step.blank_row s (step.indent_all columns due blank)) s.ground.fits refl (blank_row_keeps s (step.indent_all columns due blank))

open_at_keeps : (columns : ℕ → ℕ) (at : At) → Keeps (step.open_at columns at)
open_at_keeps columns opened s = refl
open_at_keeps columns at_start s = begin_line_keeps columns s
open_at_keeps columns (after_block due) s = then (step.pay_due columns due s) (step.begin_line columns) s.ground.fits (pay_due_keeps columns due s) (begin_line_keeps columns)

pub open_line_keeps : (columns : ℕ → ℕ) → Keeps (step.open_line columns)
open_line_keeps columns s = open_at_keeps columns s.hand.line.at s

end_at_keeps : (at : At) → Keeps (step.end_at at)
end_at_keeps opened s = then (step.put_row s.hand.line.row s) (λ t. Ok (step.set_at at_start t)) s.ground.fits (put_row_keeps s.hand.line.row s) (λ t. refl)
end_at_keeps at_start s = refl
end_at_keeps (after_block due) s = refl

pub end_line_keeps : Keeps step.end_line
end_line_keeps s = end_at_keeps s.hand.line.at s

pub end_block_keeps : Keeps step.end_block
end_block_keeps s = then (step.end_line s) (λ t. Ok (step.set_at (after_block t.hand.prefix.segments) t)) s.ground.fits (end_line_keeps s) (λ t. refl)

-- words
painted_keeps : (s : State) (r : Result Open RowFault) → fits_at (flow.painted s r) ≡ s.ground.fits
painted_keeps s (Ok o) = refl
painted_keeps s (Err e) = refl

pub make_space_keeps : (columns : ℕ → ℕ) (addresses : List (List ℕ)) (looks : Looks) → Keeps (flow.make_space columns addresses looks)
make_space_keeps columns addresses looks s =
    chosen (flow.stays s.hand.format.width s.hand.line.row.column s.hand.text.word.width) (flow.emit_space addresses looks s)
    (and_then (step.end_line s) (step.open_line columns)) s.ground.fits
    (painted_keeps s (write_run s.hand.format addresses (32 ∷ []) 1 looks s.hand.line.row))
    (then (step.end_line s) (step.open_line columns) s.ground.fits (end_line_keeps s) (open_line_keeps columns))

make_room_keeps : (columns : ℕ → ℕ) (addresses : List (List ℕ)) (at : At) (pending : Option Looks) → Keeps (flow.make_room columns addresses at pending)
make_room_keeps columns addresses opened None s = refl
make_room_keeps columns addresses opened (Some looks) s = make_space_keeps columns addresses looks s
make_room_keeps columns addresses at_start pending s = open_line_keeps columns s
make_room_keeps columns addresses (after_block due) pending s = open_line_keeps columns s

emit_word_keeps : (addresses : List (List ℕ)) → Keeps (flow.emit_word addresses)
emit_word_keeps addresses s =
    let row = emit_pieces s.hand.format addresses s.hand.text.word.pieces s.hand.text.word.text s.hand.line.row in
    then (flow.painted s row) (λ t. Ok (flow.let_go t)) s.ground.fits (painted_keeps s row) (λ t. refl)

pub flush_word_keeps : (columns : ℕ → ℕ) (addresses : List (List ℕ)) → Keeps (flow.flush_word columns addresses)
flush_word_keeps columns addresses s =
    chosen (length s.hand.text.word.pieces == 0) (Ok s)
    (and_then (flow.make_room columns addresses s.hand.line.at s.hand.text.pending s) (flow.emit_word addresses)) s.ground.fits refl
    (then (flow.make_room columns addresses s.hand.line.at s.hand.text.pending s) (flow.emit_word addresses) s.ground.fits
    (make_room_keeps columns addresses s.hand.line.at s.hand.text.pending s) (emit_word_keeps addresses))

pub add_space_keeps : (columns : ℕ → ℕ) (addresses : List (List ℕ)) → Keeps (flow.add_space columns addresses)
add_space_keeps columns addresses s = then (flow.flush_word columns addresses s) (λ t. Ok (flow.pend t)) s.ground.fits (flush_word_keeps columns addresses s) (λ t. refl)

pub hard_break_keeps : (columns : ℕ → ℕ) (addresses : List (List ℕ)) → Keeps (flow.hard_break columns addresses)
hard_break_keeps columns addresses s = then (flow.flush_word columns addresses s) step.end_line s.ground.fits (flush_word_keeps columns addresses s) end_line_keeps

marker_by_keeps : (columns : ℕ → ℕ) (next : Option Override) → Keeps (flow.marker_by columns next)
marker_by_keeps columns None s = refl
marker_by_keeps columns (Some next) s = then (step.open_line columns s) step.end_line s.ground.fits (open_line_keeps columns s) end_line_keeps

pub marker_row_keeps : (columns : ℕ → ℕ) → Keeps (flow.marker_row columns)
marker_row_keeps columns s = marker_by_keeps columns s.hand.prefix.next s

-- code
code_text_keeps : (addresses : List (List ℕ)) (line : List ℕ) (tokens : List Token) → Keeps (code.code_text addresses line tokens)
code_text_keeps addresses line tokens s =
    let row = emit_pieces s.hand.format addresses (map (code.token_piece s.hand.text.desired) tokens) line s.hand.line.row in
    then (flow.painted s row) step.end_line s.ground.fits (painted_keeps s row) end_line_keeps

pub code_line_keeps : (columns : ℕ → ℕ) (addresses : List (List ℕ)) (line : List ℕ) (tokens : List Token) → Keeps (code.code_line columns addresses line tokens)
code_line_keeps columns addresses line tokens s = then (step.open_line columns s) (code.code_text addresses line tokens) s.ground.fits (open_line_keeps columns s) (code_text_keeps addresses line tokens)

-- what a call answered and left has what fits on the board that it left
fits_left : {A : Type 0} (r : Result A LineFault) (s : State) → fits_at (left r s) ≡ s.ground.fits
fits_left (Ok x) s = refl
fits_left (Err e) s = refl

-- so where a call left what a step makes, what fits is what fitted before, answered or refused
pub fits_kept : {A : Type 0} (f : State → Outcome) → Keeps f → (r : Result A LineFault) (old new : State) → left r new ≡ f old → new.ground.fits ≡ old.ground.fits
fits_kept f k r old new e = sym (fits_left r new) ∙ ap fits_at e ∙ k old
