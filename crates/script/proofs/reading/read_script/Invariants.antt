use Rattle.std.proofs.Common.{◌≡◌, map, Ok, vec_items}
use Rattle.std.specs.Iterator.{AlwaysYields}
use Rattle.script.specs.Script.{and_then, script_of, said_by}
use Rattle.script.proofs.Steps.{Numbered, numbered}
use Rattle.script.proofs.reading.read_script.Given as goal

abbrev pub invariant-loop-before : goal.invariant-loop-before
invariant-loop-before l =
    (left : Numbered)
    × AlwaysYields (goal.iterator-loop-before).next_gives (λ p. (p.0, p.1.now)) l.before-iterator left
    × (and_then (Ok (map said_by (vec_items l.steps))) (numbered left) ≡ script_of l.text)
