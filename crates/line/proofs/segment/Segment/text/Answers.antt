use Rattle.std.proofs.Common.{◌≡◌, ◌-◌, ◌≤◌, take, replicate, ap, ◌∙◌, arith}
use Rattle.std.proofs.lemmas.List.{take-replicate}
use Rattle.line.proofs.segment.Segment.text.Goals as goal

pub returns-in-Indent : goal.returns-in-Indent
returns-in-Indent c =
    let n = c.in-Indent.columns in
    let e : n - 0 ≡ n = omega arith in
    let few : n ≤ 255 = omega arith in
    rw c.in-Indent.is (ap (λ m. take m (replicate 255 32)) e ∙ take-replicate n 255 32 few)
