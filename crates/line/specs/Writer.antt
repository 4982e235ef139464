-- What the line writer holds.
use Rattle.std.specs.Prelude.{ℕ, Bool, List, [], None, Option, Result}
use Rattle.board.specs.Row.{Row}
use Rattle.paint.specs.Looks.{Looks, bare}
use Rattle.paint.specs.Rows.{Open, blank}
use Rattle.line.specs.declared.fault.LineFault.{LineFault}
use Rattle.line.specs.declared.format.Format.{Format}
use Rattle.line.specs.declared.segment.Segment.{Segment}

-- a margin that ends in a marker
pub record Override : Type 0 where
  pub segments : List Segment
  pub marker : List ℕ

-- the parts of the margin, and what the next row has in their place
pub record Prefix : Type 0 where
  pub segments : List Segment
  pub next : Option Override

-- the open row, no row, or no row with a blank one due before the next, which has that margin
pub data At : Type 0 where
  opened : At
  at_start : At
  after_block : List Segment → At

-- a piece of a word: how many bytes and columns it has, and its looks
pub record Piece : Type 0 where
  pub length : ℕ
  pub width : ℕ
  pub looks : Looks

-- a word: the bytes of its pieces in order, the pieces, and its columns
pub record Held : Type 0 where
  pub text : List ℕ
  pub pieces : List Piece
  pub width : ℕ

abbrev pub no_word : Held
no_word = record { text = []; pieces = []; width = 0 }

-- the row in hand: where it is, and what is painted of it
pub record Line : Type 0 where
  pub at : At
  pub row : Open

-- the word in hand, the looks of the break before it if there is one, and those of what comes next
pub record Text : Type 0 where
  pub word : Held
  pub pending : Option Looks
  pub desired : Looks

pub record Writer : Type 0 where
  pub format : Format
  pub prefix : Prefix
  pub line : Line
  pub text : Text
  pub count : ℕ

-- a board: its rows, and what fits beside which rows
pub record Ground : Type 0 where
  pub rows : List Row
  pub fits : List Row → ℕ → Bool

abbrev pub mk_ground : List Row → (List Row → ℕ → Bool) → Ground
mk_ground rows fits = record { rows = rows; fits = fits }

-- the writer and the board
pub record State : Type 0 where
  pub hand : Writer
  pub ground : Ground

-- the next state, or a refusal with the board as it was left: with the rows that were put before it
abbrev pub Outcome : Type 0
Outcome = Result State (LineFault × Ground)

abbrev pub mk_prefix : List Segment → Option Override → Prefix
mk_prefix segments next = record { segments = segments; next = next }

abbrev pub mk_line : At → Open → Line
mk_line at row = record { at = at; row = row }

abbrev pub mk_text : Held → Option Looks → Looks → Text
mk_text word pending desired = record { word = word; pending = pending; desired = desired }

abbrev pub mk_writer : Format → Prefix → Line → Text → ℕ → Writer
mk_writer format prefix line text count = record { format = format; prefix = prefix; line = line; text = text; count = count }

abbrev pub mk_state : Writer → Ground → State
mk_state hand ground = record { hand = hand; ground = ground }

-- a writer before its first word
abbrev pub idle : ℕ → Bool → Bool → Writer
idle width colours links =
    mk_writer (record { width = width; color = colours; hyperlinks = links }) (mk_prefix [] None) (mk_line at_start blank) (mk_text no_word None bare) 0
