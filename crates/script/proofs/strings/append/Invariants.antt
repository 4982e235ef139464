use Rattle.std.proofs.Common.{◌≡◌, ◌++◌, vec_items}
use Rattle.script.specs.Joins.{repeated}
use Rattle.script.proofs.strings.append.Given as goal

abbrev pub invariant-loop : goal.invariant-loop
invariant-loop l = vec_items l.done ≡ vec_items l.initial.done ++ repeated l.counter l.piece
