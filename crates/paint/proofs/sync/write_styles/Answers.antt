use Rattle.std.proofs.Common.{◌<◌, ◌≤◌, length, arith}
use Rattle.std.proofs.lemmas.Result.{err_from_is_err_and}
use Rattle.paint.proofs.Puts.{styles_stop, styles_again, styles_end}
use Rattle.paint.proofs.sync.write_styles.Goals as goal

pub returns-in_err-append : goal.returns-in_err-append
returns-in_err-append c =
    let p = err_from_is_err_and c.from_residual.result c.from_residual.ensures.1 in
    let lt : c.loop-style.style-index < length c.args.styles.now = omega arith in
    rw (p.1, p.2) (styles_stop c.args.styles.now c.loop-style.style-index _ _ c.loop-style.out _ _ lt c.loop-style.invariant c.switch.ensures c.in_err-append.ensures.answer)

pub loop-style-preserved : goal.loop-style-preserved
loop-style-preserved c =
    let lt : c.loop-style.style-index < length c.args.styles.now = omega arith in
    styles_again c.args.styles.now c.loop-style.style-index _ _ c.loop-style.out _ _ lt c.loop-style.invariant c.switch.ensures c.in_ok-append.ensures.answer

pub returns : goal.returns
returns c =
    let le : length c.args.styles.now ≤ c.loop-style.style-index = omega arith in
    styles_end c.args.styles.now c.loop-style.style-index c.loop-style.out _ le c.loop-style.invariant
