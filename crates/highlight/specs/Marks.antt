-- Where a mark stands in a text.
use Rattle.std.specs.Prelude.{ℕ, suc, Bool, true, false, cond, ◌&&◌, List, [], ◌∷◌, length, Some, None, Option, ◌==◌}
use Rattle.std.specs.Option.{option_map}

-- whether a text begins with a mark
abbrev pub begins : List ℕ → List ℕ → Bool
begins [] text = true
begins (m ∷ mark) [] = false
begins (m ∷ mark) (b ∷ text) = m == b && begins mark text

-- how many bytes a text has through the first place of a mark; none where the mark does not stand in it
abbrev pub through : List ℕ → List ℕ → Option ℕ
through mark [] = None
through mark (b ∷ text) = cond (begins mark (b ∷ text)) (Some (length mark)) (option_map suc (through mark text))
