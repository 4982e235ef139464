use Rattle.std.proofs.Common.{◌≡◌, ◌+◌, ◌≤◌, ◌++◌, length}
use denote.Shadow.{shadow}
use denote.Text.{Utf8}
use Rattle.highlight.specs.Toml.{tokens_from, mode_from}
use Rattle.highlight.proofs.toml.scan.Given as goal

abbrev pub invariant-loop-first : goal.invariant-loop-first
invariant-loop-first l =
    shadow (Utf8 l.rest)
    × (length l.tokens + length l.rest ≤ 4096)
    × (l.tokens ++ tokens_from l.mode 0 l.rest ≡ l.initial.tokens ++ tokens_from l.initial.mode 0 l.initial.line)
    × (mode_from l.mode 0 l.rest ≡ mode_from l.initial.mode 0 l.initial.line)

abbrev pub decreases-loop-first : goal.decreases-loop-first
decreases-loop-first l = length l.rest
