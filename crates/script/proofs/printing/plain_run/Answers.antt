use Rattle.std.proofs.Common.{arith}
use Rattle.std.proofs.lemmas.List.{take_rest}
use Rattle.script.proofs.Prints.{run_more}
use Rattle.script.proofs.printing.plain_run.Goals as goal

pub loop-run-preserved : goal.loop-run-preserved
loop-run-preserved c =
    run_more c.args.bytes.now _ c.loop-run.run c.plain_len-n.result c.loop-run.invariant (take_rest c.args.bytes.now c.loop-run.run)
    c.plain_len-n.ensures.value (omega arith) c.plain_len-n.ensures.within
