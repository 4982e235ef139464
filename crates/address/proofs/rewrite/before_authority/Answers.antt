use Rattle.std.proofs.Common.{refl, rules}
use Rattle.address.proofs.Authorities.{authority_of}
use Rattle.address.proofs.rewrite.before_authority.Goals as goal

pub returns : goal.returns
returns c = authority_of c.args.base.now c.split_once.result c.map_or.result _ c.split_once.ensures.cases c.map_or.ensures refl (λ x p. search rules)
