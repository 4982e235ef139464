-- How words flow onto rows.
use Rattle.std.specs.Prelude.{ℕ, ◌+◌, Bool, cond, List, [], ◌∷◌, length, Some, None, Ok, Err, Option, Result, ◌==◌, nat_le}
use Rattle.stack.specs.Held.{pushed, popped}
use Rattle.style.specs.declared.palette.Style.{Style}
use Rattle.paint.specs.declared.fault.RowFault.{RowFault}
use Rattle.paint.specs.declared.link.LinkTarget.{LinkTarget}
use Rattle.paint.specs.Looks.{Looks, mk_looks}
use Rattle.paint.specs.Rows.{Open}
use Rattle.line.specs.declared.fault.LineFault.{LineFault}
use Rattle.line.specs.declared.fault.LineFault.TheVariants.{Row as RowLong}
use Rattle.line.specs.declared.segment.Segment.{Segment}
use Rattle.line.specs.Folding.{and_then}
use Rattle.line.specs.Writer.{Override, At, opened, at_start, after_block, Held, no_word, Text, Writer, State, Outcome, mk_prefix, mk_line, mk_text, mk_writer}
use Rattle.line.specs.Words.{push_word}
use Rattle.line.specs.Emits.{write_run, emit_pieces}
use Rattle.line.specs.Steps.{with_hand, with_line, open_line, end_line}

abbrev pub with_text : Text → Writer → Writer
with_text text w = mk_writer w.format w.prefix w.line text w.count

-- the row in hand with more on it, or refused
abbrev pub painted : State → Result Open RowFault → Outcome
painted s (Ok o) = Ok (with_hand s (with_line (mk_line s.hand.line.at o) s.hand))
painted s (Err e) = Err (RowLong e, s.ground)

-- a text on the open row
abbrev pub write_open : List (List ℕ) → List ℕ → ℕ → Looks → State → Outcome
write_open addresses text width looks s = painted s (write_run s.hand.format addresses text width looks s.hand.line.row)

-- one space on the open row
abbrev pub emit_space : List (List ℕ) → Looks → State → Outcome
emit_space addresses looks s = write_open addresses (32 ∷ []) 1 looks s

-- a word stays on the open row exactly if the row, one space and the word are at most as wide as the page
abbrev pub stays : ℕ → ℕ → ℕ → Bool
stays page row word = nat_le (row + 1 + word) page

-- behind a break: one space, or a new row
abbrev pub make_space : (ℕ → ℕ) → List (List ℕ) → Looks → State → Outcome
make_space columns addresses looks s =
    cond (stays s.hand.format.width s.hand.line.row.column s.hand.text.word.width) (emit_space addresses looks s)
    (and_then (end_line s) (open_line columns))

-- room for the word in hand
abbrev pub make_room : (ℕ → ℕ) → List (List ℕ) → At → Option Looks → State → Outcome
make_room columns addresses opened None s = Ok s
make_room columns addresses opened (Some looks) s = make_space columns addresses looks s
make_room columns addresses at_start pending s = open_line columns s
make_room columns addresses (after_block due) pending s = open_line columns s

-- no word and no break before the next
abbrev pub let_go : State → State
let_go s = with_hand s (with_text (mk_text no_word None s.hand.text.desired) s.hand)

-- the word in hand on the open row
abbrev pub emit_word : List (List ℕ) → State → Outcome
emit_word addresses s =
    and_then (painted s (emit_pieces s.hand.format addresses s.hand.text.word.pieces s.hand.text.word.text s.hand.line.row)) (λ t. Ok (let_go t))

-- the word in hand, if there is one, goes onto a row
abbrev pub flush_word : (ℕ → ℕ) → List (List ℕ) → State → Outcome
flush_word columns addresses s =
    cond (length s.hand.text.word.pieces == 0) (Ok s)
    (and_then (make_room columns addresses s.hand.line.at s.hand.text.pending s) (emit_word addresses))

-- a break behind the word in hand
abbrev pub pend : State → State
pend s = with_hand s (with_text (mk_text s.hand.text.word (Some s.hand.text.desired) s.hand.text.desired) s.hand)

abbrev pub add_space : (ℕ → ℕ) → List (List ℕ) → State → Outcome
add_space columns addresses s = and_then (flush_word columns addresses s) (λ t. Ok (pend t))

-- a forced row end
abbrev pub hard_break : (ℕ → ℕ) → List (List ℕ) → State → Outcome
hard_break columns addresses s = and_then (flush_word columns addresses s) (end_line)

-- a piece more in the word in hand; an empty one adds nothing
abbrev pub worded : Writer → Result Held LineFault → Result Writer LineFault
worded w (Ok word) = Ok (with_text (mk_text word w.text.pending w.text.desired) w)
worded w (Err e) = Err e

abbrev pub add_segment : (ℕ → ℕ) → List ℕ → Writer → Result Writer LineFault
add_segment columns text w =
    cond (length text == 0) (Ok w) (worded w (push_word columns text w.text.desired w.text.word))

-- a marker that no row has taken gets its own
abbrev pub marker_by : (ℕ → ℕ) → Option Override → State → Outcome
marker_by columns None s = Ok s
marker_by columns (Some next) s = and_then (open_line columns s) (end_line)

abbrev pub marker_row : (ℕ → ℕ) → State → Outcome
marker_row columns s = marker_by columns s.hand.prefix.next s

-- the looks of what comes next
abbrev pub with_desired : Looks → Writer → Writer
with_desired looks w = with_text (mk_text w.text.word w.text.pending looks) w

abbrev pub push_style : Style → Writer → Writer
push_style style w = with_desired (mk_looks (pushed w.text.desired.styles style) w.text.desired.link) w

abbrev pub pop_style : Writer → Writer
pop_style w = with_desired (mk_looks (popped w.text.desired.styles) w.text.desired.link) w

abbrev pub set_link : LinkTarget → Writer → Writer
set_link link w = with_desired (mk_looks w.text.desired.styles link) w

-- the margin
abbrev pub push_prefix : Segment → Writer → Writer
push_prefix segment w =
    mk_writer w.format (mk_prefix (pushed w.prefix.segments segment) w.prefix.next) w.line w.text w.count

abbrev pub pop_prefix : Writer → Writer
pop_prefix w = mk_writer w.format (mk_prefix (popped w.prefix.segments) w.prefix.next) w.line w.text w.count

abbrev pub set_marker : List ℕ → Writer → Writer
set_marker marker w =
    mk_writer w.format (mk_prefix w.prefix.segments (Some (record { segments = w.prefix.segments; marker = marker }))) w.line w.text w.count
