use Rattle.std.proofs.Common.{◌≡◌, ℕ, ◌-◌, min, List, length, take, vec_items, ap, ◌∙◌, arith}
use Rattle.std.proofs.lemmas.List.{length-take-le}
use Rattle.address.specs.Resolved.{Outcome}
use Rattle.address.specs.Resolve.{outcome_of, answered, written}
use Rattle.address.proofs.Lengths.{outcome_short}
use Rattle.berth.proofs.Lines.{line_for_lem}
use Rattle.berth.proofs.session.Session.resolve_into.Goals as goal

pub returns : goal.returns
returns c h =
    let space : List ℕ = c.args.space.now in
    let lent : ℕ = c.min-lent.result - 0 in
    let address : List ℕ = c.args.address.now in
    let base : List ℕ = vec_items c.args.self.now.base in
    let site : List ℕ = vec_items c.args.self.now.directory in
    let o : Outcome = outcome_of address base site in
    let same : outcome_of address c.deref.result.now c.deref-2.result.now ≡ o =
    ap (λ b. outcome_of address b c.deref-2.result.now) c.deref.ensures.value ∙ ap (outcome_of address base) c.deref-2.ensures.value in
    let l : lent ≡ min c.args.room 512 = omega (arith, c.min-lent.ensures) in
    line_for_lem o space c.resolve.new.out c.args.room lent c.resolve.result l (length-take-le lent space (omega arith)) (outcome_short address base site)
    (c.resolve.ensures.answer ∙ ap (λ q. answered q (length (take lent space))) same)
    (c.resolve.ensures.bytes ∙ ap (λ q. written q (take lent space)) same)
