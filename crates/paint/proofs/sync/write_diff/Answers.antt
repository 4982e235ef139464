use Rattle.std.proofs.Common.{Some, None, sym, ap, ◌∙◌}
use Rattle.std.proofs.lemmas.Slice.Eq.{strip_prefix_is}
use Rattle.paint.specs.Rows.{put}
use Rattle.paint.proofs.Likeness.{style_decides}
use Rattle.paint.proofs.Puts.{restyled_further, restyled_anew}
use Rattle.paint.proofs.sync.write_diff.Goals as goal

pub returns-in-Some : goal.returns-in-Some
returns-in-Some c =
    c.write_styles.ensures
    ∙ ap (λ xs. put xs c.args.out.now)
    (sym (restyled_further c.args.emitted.now c.args.desired.now c.in-Some.further.now
    (strip_prefix_is style_decides c.args.desired.now c.args.emitted.now (Some c.in-Some.further) c.in-Some.ensures.cases)))

pub returns-in-None : goal.returns-in-None
returns-in-None c =
    c.write_anew.ensures
    ∙ ap (λ xs. put xs c.args.out.now)
    (sym (restyled_anew c.args.emitted.now c.args.desired.now
    (strip_prefix_is style_decides c.args.desired.now c.args.emitted.now None c.in-None.ensures.cases)))
