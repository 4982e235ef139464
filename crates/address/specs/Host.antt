-- What a host in C is told of an answer.
use Rattle.std.specs.Prelude.{ℕ, Some, None, Ok, Err, Option, Result}
use Rattle.address.specs.declared.fault.Layer.{Layer}
use Rattle.address.specs.declared.fault.Layer.TheVariants.{Page, Line, Board}
use Rattle.address.specs.declared.fault.ResolveFault.{ResolveFault}
use Rattle.address.specs.declared.host.HostAnswer.{HostAnswer}
use Rattle.address.specs.Refusals.{number_of, layer_of, place_of}

abbrev pub layer_code : Layer → ℕ
layer_code Page = 1
layer_code Line = 2
layer_code Board = 3

-- a refusal by its number, layer and place, after no event; an answer by whether there is an address, and its length
abbrev pub host_answer : Result (Option ℕ) ResolveFault → HostAnswer
host_answer (Err fault) = record { number = number_of fault; layer = layer_code (layer_of fault); events = 0; place = place_of fault; linked = 0; length = 0 }
host_answer (Ok None) = record { number = 0; layer = 0; events = 0; place = 0; linked = 0; length = 0 }
host_answer (Ok (Some n)) = record { number = 0; layer = 0; events = 0; place = 0; linked = 1; length = n }
