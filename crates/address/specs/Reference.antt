-- A URI reference in the parts of RFC 3986. Addresses are their bytes.
use Rattle.std.specs.Prelude.{ℕ, Bool, true, false, cond, ◌&&◌, ◌||◌, List, [], ◌∷◌, ◌==◌, nat_le}
use Rattle.address.specs.declared.reference.Form.{Form}
use Rattle.address.specs.declared.reference.Form.TheVariants.{Scheme, Anchor, Network, Absolute, Relative}

-- the bytes before the first that is the mark, and those from it on
abbrev pub before : ℕ → List ℕ → List ℕ
before mark [] = []
before mark (b ∷ bs) = cond (b == mark) [] (b ∷ before mark bs)

abbrev pub since : ℕ → List ℕ → List ℕ
since mark [] = []
since mark (b ∷ bs) = cond (b == mark) (b ∷ bs) (since mark bs)

-- the anchor, from '#' on; the query, from '?' to the anchor; and the path before both
abbrev pub anchor_of : List ℕ → List ℕ
anchor_of address = since 35 address

abbrev pub query_of : List ℕ → List ℕ
query_of address = since 63 (before 35 address)

abbrev pub path_of : List ℕ → List ℕ
path_of address = before 63 (before 35 address)

-- scheme = ALPHA *( ALPHA / DIGIT / "+" / "-" / "." )
abbrev pub letter : ℕ → Bool
letter b = (nat_le 65 b && nat_le b 90) || (nat_le 97 b && nat_le b 122)

abbrev pub scheme_byte : ℕ → Bool
scheme_byte b = letter b || ((nat_le 48 b && nat_le b 57) || (b == 43 || (b == 45 || b == 46)))

-- a scheme goes on, up to its ':'
abbrev pub scheme_ends : List ℕ → Bool
scheme_ends [] = false
scheme_ends (b ∷ bs) = cond (b == 58) true (scheme_byte b && scheme_ends bs)

abbrev pub has_scheme : List ℕ → Bool
has_scheme [] = false
has_scheme (b ∷ bs) = letter b && scheme_ends bs

-- behind a first slash a second says that an authority follows
abbrev pub slash_form : List ℕ → Form
slash_form [] = Absolute
slash_form (b ∷ bs) = cond (b == 47) Network Absolute

abbrev pub relative_form : List ℕ → Form
relative_form [] = Anchor
relative_form (b ∷ bs) = cond (b == 35) Anchor (cond (b == 47) (slash_form bs) Relative)

-- how an address begins: with a scheme, with its anchor (or not at all), with '//', with '/', or otherwise
abbrev pub form_of : List ℕ → Form
form_of address = cond (has_scheme address) Scheme (relative_form address)
