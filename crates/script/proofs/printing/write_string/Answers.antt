use Rattle.std.proofs.Common.{[], ◌∷◌, ◌++◌, vec_items, ap, ◌∙◌, arith}
use Rattle.script.proofs.Back.{written_back}
use Rattle.script.proofs.Prints.{prints_between}
use Rattle.script.proofs.printing.write_string.Goals as goal

pub returns-clause-reads_back : goal.returns-clause-reads_back
returns-clause-reads_back c =
    written_back (vec_items c.args.out.now) (vec_items c.push-2.new.self) c.args.bytes.now (λ i. omega (arith, c.type_inv.bytes i))
    (prints_between (vec_items c.args.out.now) (vec_items c.push.new.self) (vec_items c.write_inner.new.out) (vec_items c.push-2.new.self) c.args.bytes.now
    (c.in_ok-push.ensures.items ∙ ap (λ l. l ++ 34 ∷ []) c.reserve.ensures.items) c.in_ok-write_inner.ensures c.in_ok-push-2.ensures.items)
