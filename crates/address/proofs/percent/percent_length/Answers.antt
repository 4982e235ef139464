use Rattle.std.proofs.Common.{rules, ◌∙◌, ap, zero-add, arith}
use Rattle.std.proofs.iter.Yields.{fronts}
use Rattle.std.proofs.lemmas.Iterator.{YieldsList-from_slice}
use borrow.Author.Tests.{tests}
use Rattle.address.proofs.Counting.{within, try_count}
use Rattle.address.proofs.percent.percent_length.Goals as goal

pub returns : goal.returns
returns c =
    let t = c.try_fold.ensures.ran in
    try_count _ fronts _ c.args.room _ (λ a x r q k. (search rules, search (rules, tests))) c.args.address.now 0 c.iter.result c.try_fold.new.self t.0 t.1 t.2 t.3 c.try_fold.result (YieldsList-from_slice {s = c.iter.result} c.args.address.now c.iter.ensures.rest).runs t.4 t.5 t.6 (omega arith)
    ∙ ap (within c.args.room) (zero-add _)
