-- What stands before an item's first row.
use Rattle.std.specs.Prelude.{ℕ, List, [], ◌∷◌, ◌++◌, decimal}
use Rattle.line.specs.declared.marker.Marker.{Marker}
use Rattle.line.specs.declared.marker.Marker.TheVariants.{Bullet, Number}

-- in a bullet list a dash and a space
abbrev pub bullet : List ℕ
bullet = 45 ∷ 32 ∷ []

-- in a numbered list the number, a dot and a space
abbrev pub numbered : ℕ → List ℕ
numbered n = decimal n ++ 46 ∷ 32 ∷ []

abbrev pub marker_text : Marker → List ℕ
marker_text Bullet = bullet
marker_text (Number n) = numbered n
