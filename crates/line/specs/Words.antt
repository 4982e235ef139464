-- Words: pieces with no break between them.
use Rattle.std.specs.Prelude.{ℕ, ◌+◌, cond, ◌||◌, List, [], ◌∷◌, ◌++◌, length, Ok, Err, Result, nat_le, nat_lt}
use Rattle.chars.specs.Widths.{text_width}
use Rattle.paint.specs.Looks.{Looks}
use Rattle.paint.specs.Rows.{counted}
use Rattle.line.specs.declared.fault.LineFault.{LineFault}
use Rattle.line.specs.declared.fault.LineFault.TheVariants.{Held as too_long}
use Rattle.line.specs.Writer.{Held}

-- one piece more
abbrev pub added : List ℕ → ℕ → Looks → Held → Held
added text width looks w =
    record {
      text = w.text ++ text;
      pieces = w.pieces ++ record { length = length text; width = width; looks = looks } ∷ [];
      width = counted w.width width;
    }

-- a word has at most 1,024 bytes and 64 pieces
abbrev pub push_word : (ℕ → ℕ) → List ℕ → Looks → Held → Result Held LineFault
push_word columns text looks w =
    cond (nat_lt 1024 (length w.text + length text) || nat_le 64 (length w.pieces)) (Err too_long) (Ok (added text (text_width columns text) looks w))
