use Rattle.std.specs.Prelude.{◌≤◌, Bool, true, false, cond}
use Rattle.std.proofs.Common.{arith}

pub at_most_two : (a b : Bool) → cond a 0 (cond b 2 1) ≤ 2
at_most_two true b = omega arith
at_most_two false true = omega arith
at_most_two false false = omega arith
