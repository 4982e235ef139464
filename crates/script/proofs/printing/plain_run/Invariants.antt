use Rattle.std.proofs.Common.{length, ◌-◌}
use Rattle.script.specs.Printed.{Stands}
use Rattle.script.proofs.printing.plain_run.Given as goal

abbrev pub invariant-loop-run : goal.invariant-loop-run
invariant-loop-run l = Stands l.bytes l.run

abbrev pub decreases-loop-run : goal.decreases-loop-run
decreases-loop-run l = length l.bytes - l.run
