use Rattle.std.proofs.Common.{◌++◌, is_ok, vec_items, sym, ap, ◌∙◌, append-nil, true-eqb}
use Rattle.std.proofs.ResultArms.{chosen}
use Rattle.script.proofs.Repeats.{nothing_repeated, appended_more}
use Rattle.script.proofs.strings.append.Goals as goal

pub returns-then-is_empty : goal.returns-then-is_empty
returns-then-is_empty c =
    sym (ap (λ l. vec_items c.args.done.now ++ l) (nothing_repeated c.args.times _ (true-eqb _ 0 c.if-is_empty.ensures)) ∙ append-nil _)

pub loop-preserved : goal.loop-preserved
loop-preserved c =
    appended_more _ _ _ _ c.loop.counter c.loop.invariant (chosen _ _ _ _ c.extend_from_slice.ensures.items (ap is_ok c.in_ok-extend_from_slice.was))
