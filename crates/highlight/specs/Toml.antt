-- Lines of TOML.
use Rattle.std.specs.Prelude.{ℕ, zero, suc, ◌+◌, ◌-◌, cond, List, [], ◌∷◌, length, drop, Some, None, codes, Option, ◌==◌, slice_index}
use Rattle.std.specs.Option.{unwrap_or}
use Rattle.std.specs.Char.{is_ascii_digit, len_utf8}
use Rattle.std.specs.Str.{bytes_eq, chars}
use Rattle.highlight.specs.declared.token.Kind.{Kind}
use Rattle.highlight.specs.declared.token.Kind.TheVariants.{Comment, String, Digit, Bare}
use Rattle.highlight.specs.declared.token.Token.{Token}
use Rattle.highlight.specs.declared.piece.Mode.{Mode}
use Rattle.highlight.specs.declared.piece.Mode.TheVariants.{Outside, Inside}
use Rattle.highlight.specs.declared.piece.Piece.{Piece}
use Rattle.highlight.specs.Marks.{begins, through}

-- only a block named toml is taken, and it begins outside
abbrev pub toml_first : List ℕ → Option Mode
toml_first name = cond (bytes_eq name (codes "toml")) (Some Outside) None

-- what opens and closes a string on its line
abbrev pub quote : List ℕ
quote = 34 ∷ []

-- what opens and closes a string over lines
abbrev pub quotes : List ℕ
quotes = 34 ∷ (34 ∷ (34 ∷ []))

-- a token, and whether a string over lines is open behind it
abbrev pub piece : Kind → ℕ → Mode → Piece
piece kind length next = record { token = record { kind = kind; length = length }; next = next }

-- a string that so many bytes have opened, by where its close was found: it ends there, or has all of the line and stays open
abbrev pub long_end : ℕ → ℕ → Option ℕ → Piece
long_end opened whole (Some n) = piece String (opened + n) Outside
long_end opened whole None = piece String (opened + whole) Inside

-- a string over lines goes through the next three quotes, or to the line's end
abbrev pub long_string : ℕ → List ℕ → Piece
long_string opened inner = long_end opened (length inner) (through quotes inner)

-- a string on its line goes through the next quote, or to the line's end
abbrev pub short_string : List ℕ → Piece
short_string inner = piece String (1 + unwrap_or (through quote inner) (length inner)) Outside

-- any other character is a token alone, a digit or bare
abbrev pub alone : ℕ → Piece
alone c = piece (cond (is_ascii_digit c) Digit Bare) (len_utf8 c) Outside

-- outside of strings, at a character c and the text that begins with it: the first rule that fits
abbrev pub outside : ℕ → List ℕ → Piece
outside c text =
    cond (c == 35) (piece Comment (length text) Outside)
    (cond (begins quotes text) (long_string 3 (drop 3 text))
    (cond (begins quote text) (short_string (drop 1 text)) (alone c)))

-- the first character of a text
abbrev pub first_char : List ℕ → ℕ
first_char text = slice_index (chars text) 0

-- the first token of a text
abbrev pub piece_in : Mode → List ℕ → Piece
piece_in Inside text = long_string 0 text
piece_in Outside text = outside (first_char text) text

-- the tokens of a line behind so many of its bytes, one after the other, each in the mode that the one before it left
abbrev pub tokens_from : Mode → ℕ → List ℕ → List Token
tokens_from mode skip [] = []
tokens_from mode (suc skip) (b ∷ line) = tokens_from mode skip line
tokens_from mode zero (b ∷ line) =
    (piece_in mode (b ∷ line)).token ∷ tokens_from (piece_in mode (b ∷ line)).next ((piece_in mode (b ∷ line)).token.length - 1) line

-- the mode behind a line is what its last token left
abbrev pub mode_from : Mode → ℕ → List ℕ → Mode
mode_from mode skip [] = mode
mode_from mode (suc skip) (b ∷ line) = mode_from mode skip line
mode_from mode zero (b ∷ line) = mode_from (piece_in mode (b ∷ line)).next ((piece_in mode (b ∷ line)).token.length - 1) line

-- the tokens of a line that begins in a mode
abbrev pub toml_tokens : Mode → List ℕ → List Token
toml_tokens mode line = tokens_from mode 0 line

-- the mode that the next line begins in
abbrev pub toml_next : Mode → List ℕ → Mode
toml_next mode line = mode_from mode 0 line
