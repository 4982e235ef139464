use Rattle.std.proofs.Common.{◌≡◌, drop}
use Rattle.paint.specs.Switching.{switches}
use Rattle.paint.specs.Rows.{put}
use Rattle.paint.proofs.sync.write_styles.Given as goal

-- what is still to be put
abbrev pub invariant-loop-style : goal.invariant-loop-style
invariant-loop-style l = put (switches l.styles) l.initial.out ≡ put (switches (drop l.style-index l.styles)) l.out
