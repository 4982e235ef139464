use Rattle.std.proofs.Common.{ap, ◌∙◌, subst, arith}
use Rattle.std.specs.Str.Iter.{rsplit_text, rsplit_has_more}
use Rattle.std.specs.Str.Pattern.{IsSplitAtLastMatch, RFindsChar}
use Rattle.address.specs.Buffer.{held}
use Rattle.address.specs.Laying.{laid}
use Rattle.address.specs.Segments.{parts_of, walked}
use Rattle.address.proofs.Splitting.{bytes_left, turn_parts, turn_lays}
use Rattle.address.proofs.path.climb.Goals as goal

pub loop-part-preserved : goal.loop-part-preserved
loop-part-preserved g c =
    let it = c.loop-part.part-iterator in
    let next = c.next.new.self in
    let steps = c.in-Some.ensures.steps in
    let p = turn_parts (rsplit_text it) c.in-Some.part.now (rsplit_text next) (rsplit_has_more next) (subst (λ n. IsSplitAtLastMatch (RFindsChar n) (rsplit_text it) c.in-Some.part.now (rsplit_has_more next) (rsplit_text next)) c.loop-part.invariant.slash steps.1.1) in
    record {
      more = tt;
      ends = tt;
      slash = steps.1.0 ∙ c.loop-part.invariant.slash;
      bound = λ part q. omega (arith, p.1, c.loop-part.invariant.bound part q, ap (λ b. bytes_left b (rsplit_text it)) steps.0, c.take_part-ups.ensures.bound);
      lays = λ source f stack.
          turn_lays source stack (rsplit_text it) c.in-Some.part.now (rsplit_text next) (rsplit_has_more it) (rsplit_has_more next) c.step.result c.loop-part.ups c.take_part-ups.result (held c.loop-part.draft) (held c.take_part-ups.new.draft)
          (laid c.args.ups (walked source stack (parts_of c.args.text.now)) (held c.args.draft.now))
          p.0 (f c.in-Some.part c.step.result c.step.ensures) steps.0 c.take_part-ups.ensures.lays (c.loop-part.invariant.lays source f stack);
    }
