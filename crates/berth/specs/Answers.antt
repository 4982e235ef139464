-- The lines that answer calls.
use Rattle.std.specs.Prelude.{ℕ, cond, List, [], ◌∷◌, ◌++◌, length, take, Some, None, Ok, Err, codes, decimal, Option, Result, nat_le}
use Rattle.address.specs.declared.fault.ResolveFault.{ResolveFault}
use Rattle.address.specs.declared.fault.ResolveFault.TheVariants.{Output}
use Rattle.address.specs.Refusals.{layer_name, number_of, layer_of, place_of}
use Rattle.address.specs.Resolved.{Outcome}
use Rattle.script.specs.Printed.{printed}
use Rattle.berth.specs.declared.answers.Answer.{Answer}
use Rattle.berth.specs.declared.answers.Answer.TheVariants.{Address, NoLink, Refused}

-- an address was resolved
abbrev pub address_line : List ℕ → List ℕ
address_line bytes = codes "address " ++ (printed bytes ++ 10 ∷ [])

-- there is no link
abbrev pub none_line : List ℕ
none_line = codes "none" ++ 10 ∷ []

-- the call was refused: the refusal's number, the layer, no events, and the place
abbrev pub refused_line : ℕ → List ℕ → ℕ → List ℕ
refused_line number layer place = codes "refused " ++ (decimal number ++ (32 ∷ (layer ++ (codes " 0 " ++ (decimal place ++ 10 ∷ [])))))

-- the line of a refusal
abbrev pub fault_line : ResolveFault → List ℕ
fault_line fault = refused_line (number_of fault) (layer_name (layer_of fault)) (place_of fault)

-- what a resolve call is answered by, if so many bytes are lent
abbrev pub answer_line : Outcome → ℕ → List ℕ
answer_line (Err fault) room = fault_line fault
answer_line (Ok None) room = none_line
answer_line (Ok (Some bytes)) room = cond (nat_le (length bytes) room) (address_line bytes) (fault_line Output)

-- the same by the call's answer: an address is the front of the space that was lent
abbrev pub line_for : Result (Option ℕ) ResolveFault → List ℕ → List ℕ
line_for (Err fault) space = fault_line fault
line_for (Ok None) space = none_line
line_for (Ok (Some n)) space = address_line (take n space)

-- the line of the code's answer
abbrev pub line_of : Answer → List ℕ
line_of (Address bytes) = address_line bytes.now
line_of NoLink = none_line
line_of (Refused fault) = fault_line fault
