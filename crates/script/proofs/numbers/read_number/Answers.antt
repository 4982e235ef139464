use Rattle.std.proofs.Common.{◌≡◌, ◌∷◌, sym, ap, ◌∙◌, rules}
use Rattle.std.proofs.lemmas.Iterator.{YieldsList-from_slice}
use Rattle.script.specs.Number.{go_on, number_of}
use Rattle.script.proofs.Spelling.{go_on_from_try_fold}
use Rattle.script.proofs.numbers.read_number.Goals as goal

pub returns : goal.returns
returns c =
    let more = c.in_ok-first.more.now in
    let word : c.args.word.now ≡ c.in_ok-first.first.now ∷ more = search rules in
    go_on_from_try_fold _ _ c.try_fold.result c.try_fold.ensures.ran (YieldsList-from_slice more (cc)) (λ x n r q k. search rules) (λ e r k. k)
    ∙ ap (λ o. go_on o more) (sym (c.in_ok-grow.was) ∙ c.grow.ensures) ∙ sym (ap number_of word)
