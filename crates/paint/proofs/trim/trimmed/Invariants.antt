use Rattle.std.proofs.Common.{◌≡◌, ◌≤◌, length, take}
use Rattle.paint.specs.Rows.{trim}
use Rattle.paint.proofs.trim.trimmed.Given as goal

abbrev pub invariant-loop-front : goal.invariant-loop-front
invariant-loop-front l = (length l.rest ≤ length l.fn.bytes) × (take (length l.rest) l.fn.bytes ≡ l.rest) × (trim l.rest ≡ trim l.fn.bytes)

abbrev pub decreases-loop-front : goal.decreases-loop-front
decreases-loop-front l = length l.rest
