-- How a text falls into lines, and a line into words.
use Rattle.std.specs.Prelude.{ℕ, ◌-◌, Bool, not, ◌||◌, List, length, take, drop, ◌==◌}
use Rattle.std.specs.List.{prefix_len, suffix_len, slice_split}

-- words stand apart by spaces
abbrev pub space : ℕ → Bool
space b = b == 32

-- behind a line there may also be the carriage return that some editors write
abbrev pub blank : ℕ → Bool
blank b = b == 32 || b == 13

-- the bytes without the blanks behind them
abbrev pub trimmed_end : List ℕ → List ℕ
trimmed_end bs = take (length bs - suffix_len blank bs) bs

-- the bytes without the spaces before them
abbrev pub trimmed_start : List ℕ → List ℕ
trimmed_start bs = drop (prefix_len space bs) bs

-- a line without what surrounds it
abbrev pub trimmed : List ℕ → List ℕ
trimmed bs = trimmed_start (trimmed_end bs)

-- how many bytes stand before the first byte s
abbrev pub before : ℕ → List ℕ → ℕ
before s bs = prefix_len (λ b. not (b == s)) bs

-- the first word: the bytes up to the first space
abbrev pub first_word : List ℕ → List ℕ
first_word bs = take (before 32 bs) bs

-- what stands behind the first word
abbrev pub behind_word : List ℕ → List ℕ
behind_word bs = drop (before 32 bs) bs

-- the lines of a text: each byte 10 begins another
abbrev pub lines_of : List ℕ → List (List ℕ)
lines_of text = slice_split (λ b. b == 10) text
