-- What the code's answers say: an address by its bytes.
use Rattle.std.specs.Prelude.{ℕ, List, [], Some, None, Ok, Err, Option, Result}
use Rattle.address.specs.declared.buffer.Address.{Address}
use Rattle.address.specs.declared.buffer.Draft.{Draft}
use Rattle.address.specs.declared.fault.ResolveFault.{ResolveFault}
use Rattle.address.specs.Buffer.{bytes_of, held, prepended}
use Rattle.address.specs.Resolved.{Outcome}

abbrev pub answer_of : Result (Option Address) ResolveFault → Outcome
answer_of (Err fault) = Err fault
answer_of (Ok None) = Ok None
answer_of (Ok (Some address)) = Ok (Some (bytes_of address))

-- the same of an address that is being written: nothing is held where it did not fit
abbrev pub Bounded : Type 0
Bounded = Result (Option (Option (List ℕ))) ResolveFault

abbrev pub held_of : Result (Option Draft) ResolveFault → Bounded
held_of (Err fault) = Err fault
held_of (Ok None) = Ok None
held_of (Ok (Some draft)) = Ok (Some (held draft))

abbrev pub bounded : Outcome → Bounded
bounded (Err fault) = Err fault
bounded (Ok None) = Ok None
bounded (Ok (Some bytes)) = Ok (Some (prepended bytes (Some [])))
