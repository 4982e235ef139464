use Rattle.std.proofs.Common.{rules}
use Rattle.script.proofs.Prints.{plain_first}
use Rattle.script.proofs.printing.plain_len.Goals as goal

pub returns-in-len1-up-clause-value : goal.returns-in-len1-up-clause-value
returns-in-len1-up-clause-value c =
    rw (plain_first c.args.bytes.now c.in-len1-up.len_at_least (search rules)) (search rules)
