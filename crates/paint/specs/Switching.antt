-- The bytes that lead from the styles in force to others.
use Rattle.std.specs.Prelude.{ℕ, Bool, cond, List, [], ◌∷◌, ◌++◌, Some, None, Option, ◌==◌}
use Rattle.std.specs.List.{flat_map}
use Rattle.style.specs.Switches.{switch_of, reset_bytes}
use Rattle.style.specs.declared.palette.Style.{Style}
use Rattle.style.specs.declared.palette.Style.TheVariants.{Heading, Emphasis, Strong, Strikethrough, Code, Term, Link, Comment, Table, Text, Number}

-- a number for each style, so that two can be compared
abbrev pub rank : Style → ℕ
rank Heading = 0
rank Emphasis = 1
rank Strong = 2
rank Strikethrough = 3
rank Code = 4
rank Term = 5
rank Link = 6
rank Comment = 7
rank Table = 8
rank Text = 9
rank Number = 10

abbrev pub same : Style → Style → Bool
same x y = rank x == rank y

-- the styles that the desired ones have beyond those in force, if they begin with these
abbrev pub beyond : List Style → List Style → Option (List Style)
beyond [] desired = Some desired
beyond (x ∷ emitted) [] = None
beyond (x ∷ emitted) (y ∷ desired) = cond (same x y) (beyond emitted desired) None

-- the switches of styles, one behind the other
unfoldable pub switches : List Style → List ℕ
switches styles = flat_map switch_of styles

-- the further ones alone, or a reset and all of them
abbrev pub turned : Option (List Style) → List Style → List ℕ
turned (Some further) desired = switches further
turned None desired = reset_bytes ++ switches desired

-- from the styles in force to the desired ones
unfoldable pub restyled : List Style → List Style → List ℕ
restyled emitted desired = turned (beyond emitted desired) desired
