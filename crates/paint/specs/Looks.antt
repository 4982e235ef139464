-- How a text is shown: its styles in order, and where it leads.
use Rattle.std.specs.Prelude.{Bool, true, false, cond, List, []}
use Rattle.stack.specs.Held.{held}
use Rattle.style.specs.declared.palette.Style.{Style}
use Rattle.paint.specs.declared.attrs.RunAttrs.{RunAttrs}
use Rattle.paint.specs.declared.link.LinkTarget.{LinkTarget}
use Rattle.paint.specs.declared.link.LinkTarget.TheVariants.{Unlinked, Linked}

pub record Looks : Type 0 where
  pub styles : List Style
  pub link : LinkTarget

abbrev pub mk_looks : List Style → LinkTarget → Looks
mk_looks styles link = record { styles = styles; link = link }

abbrev pub looks_of : RunAttrs → Looks
looks_of a = mk_looks (held a.styles) a.link

-- no style and no link
abbrev pub bare : Looks
bare = mk_looks [] Unlinked

abbrev pub linked : LinkTarget → Bool
linked Unlinked = false
linked (Linked n) = true

-- with colours off there is no style, with links off no link
abbrev pub allowed : Bool → Bool → Looks → Looks
allowed colours links looks = mk_looks (cond colours looks.styles []) (cond links looks.link Unlinked)
