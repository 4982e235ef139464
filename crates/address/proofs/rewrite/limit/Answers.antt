use Rattle.std.proofs.Common.{◌≡◌, Some, Ok, sym, ap, ◌∙◌, rules}
use Rattle.address.specs.Buffer.{held}
use Rattle.address.specs.Answers.{Bounded, held_of, bounded}
use Rattle.address.proofs.Bounds.{limit_long, not_kept}
use Rattle.address.proofs.rewrite.limit.Goals as goal

pub returns-in-None : goal.returns-in-None
returns-in-None c o e =
    let w : c.args.placed ≡ Ok (Some c.in-Some.draft) = c.in_ok-answer.was ∙ ap Ok c.in-Some.is in
    let k : ◌≡◌ {A = Bounded} (Ok (Some (held c.in-Some.draft))) (bounded o) = sym (ap held_of w) ∙ e in
    limit_long o (held c.in-Some.draft) c.args.base.now k (not_kept c.in-Some.draft.0 c.filter.result c.filter.ensures (λ x b p. search rules) c.in-None.is)
