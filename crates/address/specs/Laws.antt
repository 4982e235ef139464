-- Laws of the address that a link gets, each of one call: the address as written, the base, the directory and the outcome.
use Rattle.std.specs.Prelude.{◌≡◌, ℕ, ◌<◌, Bool, true, false, not, ◌&&◌, ◌||◌, ◌⊎◌, List, [], ◌∷◌, ◌++◌, length, Some, Ok, codes, ◌==◌}
use Rattle.address.specs.Sources.{Path}
use Rattle.address.specs.declared.path.Step.TheVariants.{Down}
use Rattle.address.specs.declared.reference.Form.{Form}
use Rattle.address.specs.declared.reference.Form.TheVariants.{Scheme, Anchor, Network, Absolute, Relative}
use Rattle.address.specs.Reference.{has_scheme, form_of}
use Rattle.address.specs.Segments.{step_of}
use Rattle.address.specs.Resolved.{Outcome, resolved, limited, rewritten}

-- an address with a scheme resolves to itself
abbrev pub SchemeStays : List ℕ → List ℕ → Outcome → Type 0
SchemeStays address base outcome = has_scheme address ≡ true → outcome ≡ limited base (Ok (Some address))

-- a relative address: without a scheme, a leading '//' or a mere anchor
abbrev pub is_relative : Form → Bool
is_relative Scheme = false
is_relative Anchor = false
is_relative Network = false
is_relative Absolute = true
is_relative Relative = true

-- what a relative address resolves to begins with the base
abbrev pub BeginsWithBase : List ℕ → List ℕ → Outcome → Type 0
BeginsWithBase address base outcome =
    is_relative (form_of address) ≡ true → (found : List ℕ) → outcome ≡ Ok (Some found) → (rest : List ℕ) × (found ≡ base ++ rest)

-- where the base has a scheme, what was found resolves to itself, from any directory
abbrev pub SameAgain : List ℕ → Outcome → Type 0
SameAgain base outcome =
    has_scheme base ≡ true → (found directory : List ℕ) → outcome ≡ Ok (Some found) → rewritten found base directory ≡ Ok (Some found)

-- no byte of the text is the mark
abbrev pub lacks : ℕ → List ℕ → Bool
lacks mark [] = true
lacks mark (b ∷ bs) = not (b == mark) && lacks mark bs

-- part of a path: it has no '?' and no '#'
abbrev pub stays_in_path : List ℕ → Bool
stays_in_path text = lacks 63 text && lacks 35 text

-- whole parts: nothing, or a text that ends with a slash
abbrev pub whole_parts : List ℕ → Bool
whole_parts [] = true
whole_parts (b ∷ []) = b == 47
whole_parts (b ∷ (c ∷ bs)) = whole_parts (c ∷ bs)

-- a plain name: one part of a path that is a segment
pub record PlainName (name : List ℕ) : Type 0 where
  pub in_path : stays_in_path name ≡ true
  pub one_part : lacks 47 name ≡ true
  pub segment : step_of Path name ≡ Down

-- a detour: a part '.', or a plain name followed by '..'
abbrev pub Detour : List ℕ → Type 0
Detour text = (text ≡ codes "./") ⊎ ((name : List ℕ) × PlainName name × (text ≡ name ++ codes "/../"))

-- a detour changes nothing, wherever it stands before the path's last part of a relative address that stays of its form
abbrev pub DetourVanishes : List ℕ → List ℕ → List ℕ → Outcome → Type 0
DetourVanishes address base directory outcome =
    (front detour rest : List ℕ) → address ≡ front ++ rest → stays_in_path front ≡ true → whole_parts front ≡ true → Detour detour →
    is_relative (form_of address) ≡ true → form_of (front ++ (detour ++ rest)) ≡ form_of address →
    outcome ≡ rewritten (front ++ (detour ++ rest)) base directory

-- a query, an anchor, both or nothing
abbrev pub is_tail : List ℕ → Bool
is_tail [] = true
is_tail (b ∷ bs) = b == 63 || b == 35

-- query and anchor follow, as given, what the path before them resolves to
abbrev pub TailFollows : List ℕ → List ℕ → List ℕ → Outcome → Type 0
TailFollows address base directory outcome =
    (path tail : List ℕ) → address ≡ path ++ tail → stays_in_path path ≡ true → 0 < length path → is_tail tail ≡ true →
    (found : List ℕ) → outcome ≡ Ok (Some found) →
    (before : List ℕ) × (resolved path base directory ≡ Ok (Some before)) × (found ≡ before ++ tail)
