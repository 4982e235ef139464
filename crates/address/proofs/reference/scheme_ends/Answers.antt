use Rattle.std.proofs.Common.{not, refl, ◌∙◌, rules}
use Rattle.std.proofs.lemmas.Iterator.{YieldsList-from_slice}
use Rattle.std.proofs.lemmas.Iterator.Search.{find_from_yields_List}
use borrow.Author.Tests.{tests}
use Rattle.address.specs.Reference.{scheme_byte}
use Rattle.address.proofs.Schemes.{scheme_found}
use Rattle.address.proofs.reference.scheme_ends.Goals as goal

pub returns : goal.returns
returns c =
    let f = find_from_yields_List (λ b. not (scheme_byte b)) _ _ c.find.result c.find.ensures.ran (YieldsList-from_slice c.args.rest.now cc) (λ x b q k. search (rules, tests)) in
    c.eq.ensures ∙ scheme_found c.args.rest.now c.find.result _ refl f
