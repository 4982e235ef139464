-- Words on a row.
use Rattle.std.specs.Prelude.{ℕ, List, [], take, drop, Ok, Err, Result}
use Rattle.links.specs.Addresses.{address_at}
use Rattle.paint.specs.declared.fault.RowFault.{RowFault}
use Rattle.paint.specs.declared.link.LinkTarget.{LinkTarget}
use Rattle.paint.specs.declared.link.LinkTarget.TheVariants.{Unlinked, Linked}
use Rattle.paint.specs.Looks.{Looks, allowed}
use Rattle.paint.specs.Rows.{Open, write}
use Rattle.line.specs.declared.format.Format.{Format}
use Rattle.line.specs.Writer.{Piece}
use Rattle.line.specs.Folding.{over}

-- the address that a link leads to, by its number
abbrev pub address_of : List (List ℕ) → LinkTarget → List ℕ
address_of addresses Unlinked = []
address_of addresses (Linked n) = address_at addresses n

-- a text behind what the row has, in its looks as far as the page has colours and links
abbrev pub write_run : Format → List (List ℕ) → List ℕ → ℕ → Looks → Open → Result Open RowFault
write_run format addresses text width looks o =
    write text width (allowed format.color format.hyperlinks looks) (address_of addresses (allowed format.color format.hyperlinks looks).link) o

-- a row, and the bytes that are still to come on it
pub record Brush : Type 0 where
  pub row : Open
  pub rest : List ℕ

abbrev pub mk_brush : Open → List ℕ → Brush
mk_brush row rest = record { row = row; rest = rest }

abbrev pub piece_done : List ℕ → Result Open RowFault → Result Brush RowFault
piece_done rest (Ok o) = Ok (mk_brush o rest)
piece_done rest (Err e) = Err e

-- a piece: the next bytes, as many as it has
abbrev pub emit_piece : Format → List (List ℕ) → Piece → Brush → Result Brush RowFault
emit_piece format addresses p b =
    piece_done (drop p.length b.rest) (write_run format addresses (take p.length b.rest) p.width p.looks b.row)

-- a word: its pieces in order
abbrev pub row_left : Result Brush RowFault → Result Open RowFault
row_left (Ok b) = Ok b.row
row_left (Err e) = Err e

abbrev pub emit_pieces : Format → List (List ℕ) → List Piece → List ℕ → Open → Result Open RowFault
emit_pieces format addresses pieces text o = row_left (over (emit_piece format addresses) pieces (mk_brush o text))
