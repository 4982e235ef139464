-- The address that a link gets, from the address as written, the base and the site directory:
-- RFC 3986's reference resolution below the directory, and MkDocs' addresses of pages.
use Rattle.std.specs.Prelude.{ℕ, Bool, false, cond, ◌&&◌, List, [], ◌∷◌, ◌++◌, length, Some, None, Ok, Err, Option, Result, ◌==◌, nat_lt}
use Rattle.address.specs.declared.fault.ResolveFault.{ResolveFault}
use Rattle.address.specs.declared.fault.ResolveFault.TheVariants.{Site, Address}
use Rattle.address.specs.Sources.{Path, Directory}
use Rattle.address.specs.declared.reference.Form.{Form}
use Rattle.address.specs.declared.reference.Form.TheVariants.{Scheme, Anchor, Network, Absolute, Relative}
use Rattle.address.specs.Percent.{percent}
use Rattle.address.specs.Reference.{anchor_of, query_of, path_of, form_of}
use Rattle.address.specs.Segments.{Stack, parts_of, leading_of, last_of, walked, last_entered, end_of, path_text}

-- the segments that a path leads to from a directory
abbrev pub segments_of : List ℕ → List ℕ → Stack
segments_of directory path =
    last_entered (walked Path (walked Directory (Some []) (parts_of directory)) (leading_of (parts_of path))) (last_of (parts_of path))

-- an outcome: an address, none for a mere anchor, or a refusal
abbrev pub Outcome : Type 0
Outcome = Result (Option (List ℕ)) ResolveFault

-- the base, the segments, the slash that may follow, the query and the anchor
abbrev pub joined_up : List ℕ → Stack → List ℕ → Outcome
joined_up base None end = Err Site
joined_up base (Some segments) end = Ok (Some (base ++ (path_text segments ++ end)))

abbrev pub below : List ℕ → List ℕ → List ℕ → Outcome
below address base directory =
    joined_up base (segments_of directory (path_of address)) (end_of (last_of (parts_of (path_of address))) ++ (query_of address ++ anchor_of address))

-- what stands before the first '//' of a base, and nothing if there is none
abbrev pub onto : ℕ → Option (List ℕ) → Option (List ℕ)
onto b None = None
onto b (Some bs) = Some (b ∷ bs)

abbrev pub slash_here : List ℕ → Bool
slash_here [] = false
slash_here (b ∷ bs) = b == 47

abbrev pub before_authority : List ℕ → Option (List ℕ)
before_authority [] = None
before_authority (b ∷ bs) = cond (b == 47 && slash_here bs) (Some []) (onto b (before_authority bs))

abbrev pub or_nothing : Option (List ℕ) → List ℕ
or_nothing None = []
or_nothing (Some bs) = bs

abbrev pub resolved_by : Form → List ℕ → List ℕ → List ℕ → Outcome
resolved_by Scheme address base directory = Ok (Some address)
resolved_by Anchor address base directory = Ok None
resolved_by Network address base directory = Ok (Some (or_nothing (before_authority base) ++ address))
resolved_by Absolute address base directory = below address base []
resolved_by Relative address base directory = below address base directory

abbrev pub resolved : List ℕ → List ℕ → List ℕ → Outcome
resolved address base directory = resolved_by (form_of address) address base directory

-- the limits: a base of 128 bytes, and a resolved address of 512 in percent form
abbrev pub fitting : Option (List ℕ) → Outcome
fitting None = Ok None
fitting (Some address) = cond (nat_lt 512 (length (percent address))) (Err Address) (Ok (Some address))

abbrev pub limited : List ℕ → Outcome → Outcome
limited base (Err fault) = Err fault
limited base (Ok answer) = cond (nat_lt 128 (length base)) (Err Address) (fitting answer)

-- what a link's address is rewritten to
abbrev pub rewritten : List ℕ → List ℕ → List ℕ → Outcome
rewritten address base directory = limited base (resolved address base directory)
