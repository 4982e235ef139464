use Rattle.std.proofs.Common.{◌≡◌, [], Some, refl, arith}
use Rattle.address.specs.Buffer.{held, prepended}
use Rattle.address.specs.Laying.{laid}
use Rattle.address.specs.Reference.{path_of, query_of, anchor_of}
use Rattle.address.specs.Resolved.{segments_of}
use Rattle.address.specs.Sources.{Path, Directory}
use Rattle.address.specs.Segments.{parts_of, last_of, end_of}
use Rattle.address.proofs.Layouts.{laid_address, lay_refused, lay_done}
use Rattle.address.proofs.rewrite.lay.Goals as goal
use Rattle.address.proofs.rewrite.lay.Goals.{After-climb-ups-2}

whole : (c : After-climb-ups-2) →
    laid c.climb-ups-2.result (Some []) (held c.climb-ups-2.new.draft)
    ≡ laid 0 (segments_of c.args.site_dir.now (path_of c.args.url.now)) (prepended (end_of (last_of (parts_of (path_of c.args.url.now)))) (prepended (query_of c.args.url.now) (prepended (anchor_of c.args.url.now) (held c.args.draft.now))))
whole c =
    laid_address c.args.url.now c.args.site_dir.now c.cut.result.0.now c.cut.result.1.now c.cut-2.result.0.now c.cut-2.result.1.now
    c.split_last.result.0.now c.split_last.result.1.now c.take_last-ups.result c.climb-ups.result c.climb-ups-2.result
    (held c.args.draft.now) (held c.prepend.new.self) (held c.prepend-2.new.self) (held c.take_last-ups.new.draft) (held c.climb-ups.new.draft) (held c.climb-ups-2.new.draft)
    c.cut.ensures.front c.cut.ensures.back c.cut-2.ensures.front c.cut-2.ensures.back c.prepend.ensures c.prepend-2.ensures
    c.split_last.ensures.leading c.split_last.ensures.last c.take_last-ups.ensures.lays (c.climb-ups.ensures Path (λ part taken p. p)) (c.climb-ups-2.ensures Directory (λ part taken p. p))

pub returns-then-ups-gt0 : goal.returns-then-ups-gt0
returns-then-ups-gt0 c =
    record { lays = lay_refused c.args.base.now c.climb-ups-2.result (held c.climb-ups-2.new.draft) _ c.if-ups-gt0.true (whole (goal.at.returns-then-ups-gt0 c).After-climb-ups-2); refuses = refl }

pub returns : goal.returns
returns c =
    record { lays = lay_done c.args.base.now c.climb-ups-2.result (held c.prepend-3.new.self) (held c.climb-ups-2.new.draft) _ (omega arith) c.prepend-3.ensures (whole (goal.at.returns c).After-climb-ups-2); refuses = tt }
