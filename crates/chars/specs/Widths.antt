-- The width of a text.
use Rattle.std.specs.Prelude.{ℕ, ◌+◌, List, [], ◌∷◌}
use Rattle.std.specs.Str.{chars}

-- the columns of some characters, where each has its own
abbrev pub total_columns : (ℕ → ℕ) → List ℕ → ℕ
total_columns columns [] = 0
total_columns columns (c ∷ cs) = columns c + total_columns columns cs

-- the columns of a text, which is given by its bytes
abbrev pub text_width : (ℕ → ℕ) → List ℕ → ℕ
text_width columns text = total_columns columns (chars text)
