use Rattle.std.proofs.Common.{◌≡◌, [], ◌∷◌, ◌++◌, drop, Some}
use Rattle.script.specs.Strings.{meaning, read_on, settled, string_of}
use Rattle.script.proofs.strings.read_text.Given as goal

abbrev pub invariant-loop-b : goal.invariant-loop-b
invariant-loop-b l = settled (read_on (Some (meaning l.reader)) (drop l.b-index l.text ++ 32 ∷ [])) ≡ string_of l.text
