-- Margins, by their parts.
use Rattle.std.specs.Prelude.{ℕ, List, [], ◌∷◌, replicate}
use Rattle.chars.specs.Widths.{text_width}
use Rattle.line.specs.declared.segment.Segment.{Segment}
use Rattle.line.specs.declared.segment.Segment.TheVariants.{Quote, Indent}

-- the bar of a quote: U+2502 in its three bytes, and a space
abbrev pub quote_text : List ℕ
quote_text = 226 ∷ 148 ∷ 130 ∷ 32 ∷ []

-- a quote's bar, or so many spaces
abbrev pub segment_text : Segment → List ℕ
segment_text Quote = quote_text
segment_text (Indent n) = replicate n 32

-- the columns of a part: a space takes one
abbrev pub segment_columns : (ℕ → ℕ) → Segment → ℕ
segment_columns columns Quote = text_width columns quote_text
segment_columns columns (Indent n) = n
