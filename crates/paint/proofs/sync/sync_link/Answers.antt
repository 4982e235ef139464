use Rattle.std.proofs.Common.{[], sym, ap, ◌∙◌}
use Rattle.std.proofs.lemmas.Result.{err_from_is_err_and}
use Rattle.paint.specs.Linking.{entered}
use Rattle.paint.specs.Rows.{put}
use Rattle.paint.proofs.Puts.{put_none, put_first, put_then, relinked_none, relinked_both}
use Rattle.paint.proofs.sync.sync_link.Goals as goal

pub returns-then-is_same : goal.returns-then-is_same
returns-then-is_same c =
    sym (ap (λ xs. put xs c.args.out.now) (relinked_none c.args.emitted c.args.desired c.args.address.now (sym c.if-is_same.ensures)) ∙ put_none c.args.out.now)

pub returns-in_err-enter_link : goal.returns-in_err-enter_link
returns-in_err-enter_link c =
    let p = err_from_is_err_and c.from_residual.result c.from_residual.ensures.1 in
    rw (p.1, p.2)
    (sym (ap (λ xs. put xs c.args.out.now) (relinked_both c.args.emitted c.args.desired c.args.address.now (sym c.if-is_same.ensures))
    ∙ put_first (entered c.args.emitted []) (entered c.args.desired c.args.address.now) _ _ (sym c.in_err-enter_link.ensures)))

pub returns : goal.returns
returns c =
    c.enter_link-2.ensures
    ∙ sym (ap (λ xs. put xs c.args.out.now) (relinked_both c.args.emitted c.args.desired c.args.address.now (sym c.if-is_same.ensures))
    ∙ put_then (entered c.args.emitted []) (entered c.args.desired c.args.address.now) _ _ (sym c.in_ok-enter_link.ensures))
