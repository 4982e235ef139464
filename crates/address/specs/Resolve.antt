-- What resolving answers and what it leaves in the lent output.
use Rattle.std.specs.Prelude.{ℕ, false, cond, List, ◌++◌, length, drop, Some, None, Ok, Err, Option, Result, nat_le}
use Rattle.chars.specs.Clean.{first_bad}
use Rattle.address.specs.declared.fault.ResolveFault.{ResolveFault}
use Rattle.address.specs.declared.fault.ResolveFault.TheVariants.{Text, Output}
use Rattle.address.specs.Resolved.{Outcome, rewritten}

-- a text is refused at its first bad character, if it has one
abbrev pub or_bad_text : Option ℕ → Outcome → Outcome
or_bad_text (Some place) outcome = Err (Text place)
or_bad_text None outcome = outcome

-- address, base and directory are checked in that order, and then the address is rewritten
abbrev pub outcome_of : List ℕ → List ℕ → List ℕ → Outcome
outcome_of address base directory =
    or_bad_text (first_bad false address) (or_bad_text (first_bad false base) (or_bad_text (first_bad false directory) (rewritten address base directory)))

-- the length of what is written, if there is room for it
abbrev pub answered : Outcome → ℕ → Result (Option ℕ) ResolveFault
answered (Err fault) room = Err fault
answered (Ok None) room = Ok None
answered (Ok (Some bytes)) room = cond (nat_le (length bytes) room) (Ok (Some (length bytes))) (Err Output)

-- the address, and behind it the output as it was
abbrev pub written : Outcome → List ℕ → List ℕ
written (Err fault) out = out
written (Ok None) out = out
written (Ok (Some bytes)) out = cond (nat_le (length bytes) (length out)) (bytes ++ drop (length bytes) out) out
