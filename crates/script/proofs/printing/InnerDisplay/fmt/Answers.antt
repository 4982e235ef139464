use Rattle.std.proofs.Common.{◌≡◌, ◌++◌, get_or, rules, tests}
use Rattle.std.proofs.Output.{has_written_append}
use Rattle.script.specs.Printed.{escaped, plain}
use Rattle.script.proofs.Prints.{prints_run, prints_escaped}
use Rattle.script.proofs.printing.InnerDisplay.fmt.Goals as goal

pub loop-rest-preserved-then-is_empty : goal.loop-rest-preserved-then-is_empty
loop-rest-preserved-then-is_empty g c = λ is_plain.
    let so_far = c.loop-rest.invariant is_plain in
    let none : plain c.loop-rest.rest.now ≡ 0 = c.plain_run.ensures.none (search (rules, tests)) in (
      so_far.0 ++ escaped (get_or c.loop-rest.rest.now 0 0),
      has_written_append _ _ _ _ _ _ so_far.1 (search rules),
      prints_escaped so_far.0 c.loop-rest.rest.now _ none c.in-len1-up.len_at_least so_far.2,
    )

pub loop-rest-preserved : goal.loop-rest-preserved
loop-rest-preserved g c = λ is_plain.
    let so_far = c.loop-rest.invariant is_plain in (
      so_far.0 ++ c.unwrap.result.now,
      has_written_append _ _ _ _ _ _ so_far.1 (search rules),
      prints_run so_far.0 c.loop-rest.rest.now _ c.unwrap.result.now c.split_at.result.1.now c.plain_run.result
          c.plain_run.ensures.stands (search rules) (search rules) so_far.2,
    )
