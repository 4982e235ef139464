-- Lines without colours.
use Rattle.std.specs.Prelude.{ℕ, cond, List, [], ◌∷◌, length, ◌==◌}
use Rattle.highlight.specs.declared.token.Token.{Token}
use Rattle.highlight.specs.declared.token.Kind.TheVariants.{InForce}

-- a line with characters is one token in force, and an empty line has none
abbrev pub plain_tokens : List ℕ → List Token
plain_tokens line = cond (length line == 0) [] (record { kind = InForce; length = length line } ∷ [])
