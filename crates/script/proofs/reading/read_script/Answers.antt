use Rattle.std.proofs.Common.{vec_items, map, nat_eq, rules, tests}
use Rattle.std.specs.List.{enumerate_from}
use Rattle.std.proofs.lemmas.Iterator.Consumers.{YieldsList-from_enumerate}
use Rattle.std.proofs.lemmas.Iterator.Splits.{YieldsList-from_slice_split}
use Rattle.std.proofs.lemmas.Option.{MatchOption-at_some, MatchOption-at_none}
use Rattle.std.proofs.lemmas.Result.{err_from_is_err_and}
use Rattle.script.specs.Script.{said_by}
use Rattle.script.specs.Words.{lines_of}
use Rattle.script.proofs.Steps.{left_some, left_none, script_begins, line_skipped, line_asks, line_wrong, script_ends}
use Rattle.script.proofs.reading.read_script.Given as Given
use Rattle.script.proofs.reading.read_script.Goals as goal

pub loop-before-init : goal.loop-before-init
loop-before-init c =
    let lines = YieldsList-from_slice_split _ (λ b. nat_eq b 10) c.args.text.now (cc) (cc) (cc) (λ x b q k. search (rules, tests)) in (
      enumerate_from 0 (lines_of c.args.text.now),
      (YieldsList-from_enumerate lines (cc)).runs,
      script_begins (vec_items c.new-steps.result) (lines_of c.args.text.now) c.new-steps.ensures.items,
    )

pub loop-before-preserved-in-Continue-branch-3 : goal.loop-before-preserved-in-Continue-branch-3
loop-before-preserved-in-Continue-branch-3 c =
    let left = left_some (Given.iterator-loop-before).next_gives (λ p. (p.0, p.1.now)) c.loop-before.invariant.0 c.loop-before.before-iterator c.next.new.self (c.in-Some.before, c.in-Some.line) c.loop-before.invariant.1 c.in-Some.ensures.steps in (
      left.0,
      left.2,
      line_asks (vec_items c.loop-before.steps) (vec_items c.push.new.self) c.in-Some-2.step c.in-Some.before c.in-Some.line.now c.loop-before.invariant.0 left.0 _ c.in_ok-push.ensures.items left.1
          (MatchOption-at_some _ _ _ c.in-Some-2.is c.in_ok-step.ensures) c.loop-before.invariant.2,
    )

pub loop-before-preserved : goal.loop-before-preserved
loop-before-preserved c =
    let left = left_some (Given.iterator-loop-before).next_gives (λ p. (p.0, p.1.now)) c.loop-before.invariant.0 c.loop-before.before-iterator c.next.new.self (c.in-Some.before, c.in-Some.line) c.loop-before.invariant.1 c.in-Some.ensures.steps in (
      left.0,
      left.2,
      line_skipped (map said_by (vec_items c.loop-before.steps)) c.in-Some.before c.in-Some.line.now c.loop-before.invariant.0 left.0 _ left.1
          (MatchOption-at_none _ _ c.in_default.is c.in_ok-step.ensures) c.loop-before.invariant.2,
    )

pub returns-in_err-step : goal.returns-in_err-step
returns-in_err-step c =
    let left = left_some (Given.iterator-loop-before).next_gives (λ p. (p.0, p.1.now)) c.loop-before.invariant.0 c.loop-before.before-iterator c.next.new.self (c.in-Some.before, c.in-Some.line) c.loop-before.invariant.1 c.in-Some.ensures.steps in
    let p = err_from_is_err_and c.from_residual.result c.from_residual.ensures.1 in
    rw (p.1, p.2)
    (line_wrong _ (map said_by (vec_items c.loop-before.steps)) c.in-Some.before c.in-Some.line.now c.loop-before.invariant.0 left.0 _ left.1 c.in_err-step.ensures c.loop-before.invariant.2)

pub returns : goal.returns
returns c =
    script_ends (map said_by (vec_items c.loop-before.steps)) c.loop-before.invariant.0 _
    (left_none (Given.iterator-loop-before).next_gives (λ p. (p.0, p.1.now)) c.loop-before.invariant.0 c.loop-before.before-iterator c.next.new.self c.loop-before.invariant.1 c.in-None.ensures.steps) c.loop-before.invariant.2
