-- A path laid from its back: what is written already, and how many segments before it are still to be taken away.
use Rattle.std.specs.Prelude.{ℕ, zero, suc, List, [], Some, None, Ok, Err, Option, Result}
use Rattle.std.specs.Option.{option_map}
use Rattle.address.specs.declared.fault.ResolveFault.{ResolveFault}
use Rattle.address.specs.declared.path.Step.TheVariants.{Up}
use Rattle.address.specs.Buffer.{prepended}
use Rattle.address.specs.Segments.{Stack, entered, path_text}

-- so many steps up
abbrev pub raised : ℕ → Stack → Stack
raised zero stack = stack
raised (suc n) stack = raised n (entered stack Up [])

-- what there will be once the stack is written before what is held, so many of its segments taken away
abbrev pub laid : ℕ → Stack → Option (List ℕ) → Option (Option (List ℕ))
laid ups stack written = option_map (λ segments. prepended (path_text segments) written) (raised ups stack)

-- a call that lays: what is held once it has succeeded
abbrev pub ended_as : Result (Unit {0}) ResolveFault → Option (List ℕ) → Option (Option (List ℕ))
ended_as (Ok done) written = Some written
ended_as (Err fault) written = None
