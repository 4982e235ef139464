use Rattle.std.proofs.Common.{◌∙◌, rules}
use Rattle.events.proofs.Links.{any_link_by}
use Rattle.events.proofs.nesting.any_link.Goals as goal

pub returns : goal.returns
returns c = c.contains.ensures.value ∙ any_link_by _ (λ e. search rules) c.args.open.now
