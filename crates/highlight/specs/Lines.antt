-- How tokens cover a line.
use Rattle.std.specs.Prelude.{◌≡◌, ℕ, ◌+◌, ◌≤◌, List, [], ◌∷◌, ◌++◌, length, take, drop, IsUtf8}
use Rattle.highlight.specs.declared.token.Token.{Token}

-- tokens cover a line if the first has one or more of its characters, and the others cover what follows; an empty line has no token
abbrev pub Covers : List Token → List ℕ → Type 0
Covers [] line = line ≡ []
Covers (token ∷ tokens) line =
    (1 ≤ token.length) × (token.length ≤ length line) × IsUtf8 (take token.length line) × Covers tokens (drop token.length line)

-- the texts of tokens, each behind those before it, joined in order
abbrev pub joined : List Token → List ℕ → List ℕ
joined [] line = []
joined (token ∷ tokens) line = take token.length line ++ joined tokens (drop token.length line)

-- the lengths of tokens, summed
abbrev pub lengths : List Token → ℕ
lengths [] = 0
lengths (token ∷ tokens) = token.length + lengths tokens
