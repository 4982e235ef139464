-- The switches, written out. Assumes nothing.
use Rattle.std.proofs.Common.{◌≡◌, ℕ, List, ◌∷◌, codes, refl}
use Rattle.std.specs.Fmt.{digits}
use Rattle.style.specs.declared.palette.Style.{Style}
use Rattle.style.specs.declared.palette.Style.TheVariants.{Heading, Emphasis, Strong, Strikethrough, Code, Term, Link, Comment, Table, Text, Number}
use Rattle.style.specs.Switches.{switch_of, reset_bytes}

abbrev pub spelt : Style → List ℕ
spelt Heading = 27 ∷ 91 ∷ (codes "1;4m")
spelt Emphasis = 27 ∷ 91 ∷ (codes "3m")
spelt Strong = 27 ∷ 91 ∷ (codes "1m")
spelt Strikethrough = 27 ∷ 91 ∷ (codes "9m")
spelt Code = 27 ∷ 91 ∷ (codes "36m")
spelt Term = 27 ∷ 91 ∷ (codes "32;1m")
spelt Link = 27 ∷ 91 ∷ (codes "34;4m")
spelt Comment = 27 ∷ 91 ∷ (codes "2m")
spelt Table = 27 ∷ 91 ∷ (codes "35;1m")
spelt Text = 27 ∷ 91 ∷ (codes "32m")
spelt Number = 27 ∷ 91 ∷ (codes "33m")

pub spelt_is : (style : Style) → spelt style ≡ switch_of style
unfolding digits
spelt_is Heading = refl
spelt_is Emphasis = refl
spelt_is Strong = refl
spelt_is Strikethrough = refl
spelt_is Code = refl
spelt_is Term = refl
spelt_is Link = refl
spelt_is Comment = refl
spelt_is Table = refl
spelt_is Text = refl
spelt_is Number = refl

pub reset_is : 27 ∷ 91 ∷ (codes "0m") ≡ reset_bytes
unfolding digits
reset_is = refl
