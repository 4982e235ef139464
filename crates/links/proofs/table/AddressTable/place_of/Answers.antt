use Rattle.std.proofs.Common.{sym, refl, ◌∙◌, arith, rules, tests}
use Rattle.std.specs.Str.{bytes_eq}
use Rattle.std.proofs.lemmas.Iterator.{YieldsList-from_range}
use Rattle.std.proofs.lemmas.Iterator.Adapters.{option_map_id}
use Rattle.std.proofs.lemmas.Iterator.Search.{find_from_yields_List}
use Rattle.links.specs.Addresses.{address_at}
use Rattle.links.specs.Tables.{addresses}
use Rattle.links.proofs.Places.{place_found}
use Rattle.links.proofs.table.AddressTable.place_of.Goals as goal

pub returns : goal.returns
returns c =
    let all = addresses c.args.self.now in
    let a = c.args.address.now in
    let sought = find_from_yields_List (λ i. bytes_eq (address_at all i) a) _ _ c.find.result c.find.ensures.ran (YieldsList-from_range 0 c.len.result c.len.result refl (omega arith)) (λ x b q k. search (rules, tests)) in
    sym (option_map_id c.find.result) ∙ sought ∙ place_found all a c.len.result c.len.ensures
