use Rattle.std.proofs.Common.{take, drop, ap, ◌∙◌}
use Rattle.std.proofs.lemmas.Str.Pattern.{find_char}
use Rattle.address.proofs.Marks.{cut_found}
use Rattle.address.proofs.reference.cut.Goals as goal

pub returns : goal.returns
returns c =
    let text = c.args.text.now in
    let h = cut_found c.args.mark text c.find.result (find_char c.args.mark text c.find.result c.find.ensures.cases c.requires) in
    record {
      front = c.split_at.ensures.front ∙ ap (λ n. take n text) c.unwrap_or.ensures ∙ h.0;
      back = c.split_at.ensures.back ∙ ap (λ n. drop n text) c.unwrap_or.ensures ∙ h.1;
    }
