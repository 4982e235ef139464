-- No answer is longer than 512 bytes. Assumes nothing.
use Rattle.std.proofs.Common.{◌≡◌, ℕ, ◌≤◌, false, List, length, Some, None, Ok, Option, arith}
use Rattle.std.proofs.lemmas.Bool.{ltb-false}
use Rattle.chars.specs.Clean.{first_bad}
use Rattle.address.specs.Percent.{percent}
use Rattle.address.specs.Resolved.{Outcome, resolved, rewritten}
use Rattle.address.specs.Resolve.{or_bad_text, outcome_of}
use Rattle.address.proofs.Limits.{found_before}
use Rattle.address.proofs.Percents.{no_shorter}

checked_found : (bad : Option ℕ) (o : Outcome) (found : List ℕ) → or_bad_text bad o ≡ Ok (Some found) → o ≡ Ok (Some found)
checked_found (Some place) o found e = let z : ◌≡◌ {A = ℕ} 0 1 = cc in absurd (omega arith)
checked_found None o found e = e

pub outcome_short : (address base directory found : List ℕ) → outcome_of address base directory ≡ Ok (Some found) → length found ≤ 512
outcome_short address base directory found e =
    let r = checked_found (first_bad false directory) (rewritten address base directory) found
    (checked_found (first_bad false base) _ found (checked_found (first_bad false address) _ found e)) in
    let f = found_before base found (resolved address base directory) r in
    omega (arith, no_shorter found, ltb-false 512 (length (percent found)) f.found_passes)
