use Rattle.std.proofs.Common.{sym}
use Rattle.highlight.specs.MarksLemmas.{through_none, through_some, through_within}
use Rattle.highlight.proofs.piece.through.Goals as goal

pub returns-in_err-find-clause-value : goal.returns-in_err-find-clause-value
returns-in_err-find-clause-value c =
    let e = through_none c.args.mark.now c.args.text.now c.in_err-find.ensures.cases in cc

pub returns : goal.returns
returns c =
    let f = c.in_ok-find.ensures.cases in
    let e = through_some c.args.mark.now c.args.text.now c.in_ok-find.field-0 c.requires f.1.0 _ f.1.1.split in
    record { value = sym e; within = through_within c.args.mark.now c.args.text.now _ c.requires e }
