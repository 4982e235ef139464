use Rattle.std.proofs.Common.{◌∷◌, [], length, Some, None, sym, ap, ◌∙◌, arith, length-append}
use Rattle.std.proofs.lemmas.Bool.Decides.{Decides-eqb}
use Rattle.std.proofs.lemmas.Slice.Eq.{strip_suffix_is}
use Rattle.paint.proofs.Ends.{trim_less, trim_same, front_stays, trimmed-length}
use Rattle.paint.proofs.trim.trimmed.Goals as goal

pub loop-front-preserved : goal.loop-front-preserved
loop-front-preserved c =
    let e = strip_suffix_is Decides-eqb c.loop-front.rest.now (32 ∷ []) (Some c.in-Some.front) c.in-Some.ensures.cases in (
      omega (arith, ap length e, length-append c.in-Some.front.now (32 ∷ []), c.loop-front.invariant.0),
      front_stays c.args.bytes.now c.loop-front.rest.now c.in-Some.front.now c.loop-front.invariant.1 e,
      sym (trim_less c.loop-front.rest.now c.in-Some.front.now e) ∙ c.loop-front.invariant.2,
    )

pub returns : goal.returns
returns c =
    let none = strip_suffix_is Decides-eqb c.loop-front.rest.now (32 ∷ []) None c.in_default.ensures.cases in
    let e = c.loop-front.invariant.1 ∙ sym (trim_same c.loop-front.rest.now none) ∙ c.loop-front.invariant.2 in
    record { within = c.loop-front.invariant.0; value = trimmed-length c.args.bytes.now _ c.loop-front.invariant.0 e; rest = e }
