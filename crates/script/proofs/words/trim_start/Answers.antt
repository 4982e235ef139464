use Rattle.std.proofs.Common.{◌∙◌, rules, tests}
use Rattle.std.proofs.lemmas.List.{take_rest}
use Rattle.std.proofs.lemmas.Iterator.{YieldsList-from_slice}
use Rattle.std.proofs.lemmas.Iterator.Consumers.{count_from_yields_List}
use Rattle.std.proofs.lemmas.Iterator.Search.{YieldsList-from_take_while}
use Rattle.std.proofs.lemmas.List.Folds.{length-prefix_len}
use Rattle.script.specs.Words.{space}
use Rattle.script.proofs.words.trim_start.Goals as goal

pub returns : goal.returns
returns c =
    let bytes = c.args.bytes.now in
    let spaces = count_from_yields_List c.take_while.result _ c.count-before.ensures.ran (YieldsList-from_take_while _ space (YieldsList-from_slice bytes (cc)) c.take_while.ensures.closure c.take_while.ensures.done (λ x b q k. search (rules, tests))) ∙ length-prefix_len space bytes in
    rw (take_rest, spaces)
