-- Lines of code: a row each, by the line's tokens.
use Rattle.std.specs.Prelude.{ℕ, List, [], ◌∷◌, map}
use Rattle.highlight.specs.declared.token.Kind.{Kind}
use Rattle.highlight.specs.declared.token.Kind.TheVariants.{Comment, Table, String, Digit, Keyword, Boolean, Bare, InForce}
use Rattle.highlight.specs.declared.token.Token.{Token}
use Rattle.style.specs.declared.palette.Style.{Style}
use Rattle.style.specs.declared.palette.Style.TheVariants as style
use Rattle.paint.specs.declared.link.LinkTarget.TheVariants.{Unlinked}
use Rattle.paint.specs.Looks.{Looks, mk_looks}
use Rattle.line.specs.Folding.{and_then}
use Rattle.line.specs.Writer.{Piece, State, Outcome}
use Rattle.line.specs.Emits.{emit_pieces}
use Rattle.line.specs.Steps.{open_line, end_line}
use Rattle.line.specs.Flow.{painted}

-- a token in force has the styles in force, a bare one none, and any other its kind's alone
abbrev pub token_styles : List Style → Kind → List Style
token_styles around Comment = style.Comment ∷ []
token_styles around Table = style.Table ∷ []
token_styles around String = style.Text ∷ []
token_styles around Digit = style.Number ∷ []
token_styles around Keyword = style.Number ∷ []
token_styles around Boolean = style.Number ∷ []
token_styles around Bare = []
token_styles around InForce = around

-- code is never linked
abbrev pub token_looks : Looks → Kind → Looks
token_looks looks kind = mk_looks (token_styles looks.styles kind) Unlinked

-- a token as a piece of its line; its row ends behind the line, so its columns are not counted
abbrev pub token_piece : Looks → Token → Piece
token_piece looks token = record { length = token.length; width = 0; looks = token_looks looks token.kind }

abbrev pub write_tokens : List (List ℕ) → List ℕ → List Token → State → Outcome
write_tokens addresses line tokens s =
    painted s (emit_pieces s.hand.format addresses (map (token_piece s.hand.text.desired) tokens) line s.hand.line.row)

-- a line of code is a row of its own
abbrev pub code_text : List (List ℕ) → List ℕ → List Token → State → Outcome
code_text addresses line tokens s = and_then (write_tokens addresses line tokens s) (end_line)

abbrev pub code_line : (ℕ → ℕ) → List (List ℕ) → List ℕ → List Token → State → Outcome
code_line columns addresses line tokens s = and_then (open_line columns s) (code_text addresses line tokens)
