-- What a table holds.
use Rattle.std.specs.Prelude.{ℕ, List}
use Rattle.links.specs.Spans.{addresses_in}
use Rattle.links.specs.declared.table.AddressTable.{AddressTable}

-- the addresses in the order in which they were added
abbrev pub addresses : AddressTable → List (List ℕ)
addresses t = addresses_in t.spans t.bytes
