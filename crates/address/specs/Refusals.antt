-- The layers' names, and what each refusal of the resolver carries: its number, its layer and the place of the bad character.
use Rattle.std.specs.Prelude.{ℕ, List, codes}
use Rattle.address.specs.declared.fault.Layer.{Layer}
use Rattle.address.specs.declared.fault.Layer.TheVariants.{Page, Line, Board}
use Rattle.address.specs.declared.fault.ResolveFault.{ResolveFault}
use Rattle.address.specs.declared.fault.ResolveFault.TheVariants.{Text, Site, Address, Output}

-- the layers' names
abbrev pub layer_name : Layer → List ℕ
layer_name Page = codes "page"
layer_name Line = codes "line"
layer_name Board = codes "board"

-- 4 text, 7 site, 8 address, 13 output
abbrev pub number_of : ResolveFault → ℕ
number_of (Text place) = 4
number_of Site = 7
number_of Address = 8
number_of Output = 13

-- all four are of the page
abbrev pub layer_of : ResolveFault → Layer
layer_of (Text place) = Page
layer_of Site = Page
layer_of Address = Page
layer_of Output = Page

-- where the bad character stands, else 0
abbrev pub place_of : ResolveFault → ℕ
place_of (Text place) = place
place_of Site = 0
place_of Address = 0
place_of Output = 0
