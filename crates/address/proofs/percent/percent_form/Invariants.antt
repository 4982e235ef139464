use Rattle.std.proofs.Common.{◌≡◌, ◌+◌, ◌≤◌, ◌++◌, length, take, drop}
use Rattle.address.specs.Percent.{percent}
use Rattle.address.proofs.percent.percent_form.Given as goal

abbrev pub invariant-loop-byte : goal.invariant-loop-byte
invariant-loop-byte l =
    (l.at ≡ length (percent (take l.byte-index l.address)))
    × (l.out ≡ percent (take l.byte-index l.address) ++ drop l.at l.initial.out)
    × (l.at + length (percent (drop l.byte-index l.address)) ≤ length l.initial.out)
