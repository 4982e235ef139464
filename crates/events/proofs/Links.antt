-- A link among the open elements. Assumes nothing.
use Rattle.std.proofs.Common.{◌≡◌, Bool, List, [], ◌∷◌, refl}
use Rattle.std.specs.List.{list_any}
use Rattle.events.specs.Kinds.{same}
use Rattle.events.specs.Nesting.{any_link}
use Rattle.events.specs.declared.element.Element.{Element}
use Rattle.events.specs.declared.element.Element.TheVariants.{Link}

-- by any test that tells a link from the others
pub any_link_by : (test : Element → Bool) → ((e : Element) → test e ≡ same e Link) → (es : List Element) → list_any test es ≡ any_link es
any_link_by test h [] = refl
any_link_by test h (e ∷ es) =
    let a = h e in
    let b = any_link_by test h es in
    cc
