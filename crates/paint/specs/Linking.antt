-- The bytes that lead from the link in force to another: OSC 8.
use Rattle.std.specs.Prelude.{ℕ, Bool, true, false, cond, List, [], ◌∷◌, ◌++◌, ◌==◌}
use Rattle.paint.specs.declared.link.LinkTarget.{LinkTarget}
use Rattle.paint.specs.declared.link.LinkTarget.TheVariants.{Unlinked, Linked}

-- ESC, ']', '8', ';', ';', the address, ESC and a backslash
abbrev pub link_bytes : List ℕ → List ℕ
link_bytes address = 27 ∷ 93 ∷ 56 ∷ 59 ∷ 59 ∷ (address ++ 27 ∷ 92 ∷ [])

abbrev pub same_link : LinkTarget → LinkTarget → Bool
same_link Unlinked Unlinked = true
same_link Unlinked (Linked n) = false
same_link (Linked m) Unlinked = false
same_link (Linked m) (Linked n) = m == n

-- a link is closed by an empty address
abbrev pub left : LinkTarget → List ℕ
left Unlinked = []
left (Linked n) = link_bytes []

abbrev pub entered : LinkTarget → List ℕ → List ℕ
entered Unlinked address = []
entered (Linked n) address = link_bytes address

-- from the link in force to the desired one, whose address is given
unfoldable pub relinked : LinkTarget → LinkTarget → List ℕ → List ℕ
relinked emitted desired address = cond (same_link emitted desired) [] (left emitted ++ entered desired address)
