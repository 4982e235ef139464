use Rattle.std.proofs.Common.{◌∙◌, arith, rules}
use Rattle.std.specs.Str.{chars}
use Rattle.std.proofs.lemmas.Iterator.{YieldsList-from_chars, YieldsList-from_map}
use Rattle.std.proofs.lemmas.Iterator.Consumers.{YieldsList-at, fits_by_from_yields_list, sum_by_from_yields_List}
use Rattle.chars.proofs.Summing.{sum_columns, columns_fit}
use Rattle.chars.proofs.width.text_width.Goals as goal

pub sum-requires-clause-fits : goal.sum-requires-clause-fits
sum-requires-clause-fits g c =
    fits_by_from_yields_list (g.T.CharTable.columns c.args.table.now) (chars c.args.text.now) _ _
    (YieldsList-from_map _ (g.T.CharTable.columns c.args.table.now) (YieldsList-at c.map.ensures.source (YieldsList-from_chars c.args.text.now c.utf8.text c.chars.ensures.rest)) c.map.ensures.closure (λ x r q k. search rules))
    (columns_fit (g.T.CharTable.columns c.args.table.now) c.args.text.now (g.met.T.CharTable.at_most_two_wide c.args.table.now) c.utf8.text (omega arith))

pub returns : goal.returns
returns g c =
    sum_by_from_yields_List (g.T.CharTable.columns c.args.table.now) (chars c.args.text.now) _ _ c.sum.ensures.ran
    (YieldsList-from_map _ (g.T.CharTable.columns c.args.table.now) (YieldsList-at c.map.ensures.source (YieldsList-from_chars c.args.text.now c.utf8.text c.chars.ensures.rest)) c.map.ensures.closure (λ x r q k. search rules))
    ∙ sum_columns (g.T.CharTable.columns c.args.table.now) (chars c.args.text.now)
