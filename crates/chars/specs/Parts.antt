-- A text in parts, apart by a mark.
use Rattle.std.specs.Prelude.{ℕ, cond, List, [], ◌∷◌, ◌==◌}

-- a byte before the first of some parts
abbrev pub on_first : ℕ → List (List ℕ) → List (List ℕ)
on_first b [] = (b ∷ []) ∷ []
on_first b (part ∷ parts) = (b ∷ part) ∷ parts

-- the parts between marks: one more than there are marks
abbrev pub parts_at : ℕ → List ℕ → List (List ℕ)
parts_at mark [] = [] ∷ []
parts_at mark (b ∷ bs) = cond (b == mark) ([] ∷ parts_at mark bs) (on_first b (parts_at mark bs))
