use Rattle.std.proofs.Common.{◌≡◌, ◌++◌, map, string_bytes}
use Rattle.std.specs.Vec.Iter.{into_iter_items}
use Rattle.script.specs.Script.{said_by}
use Rattle.berth.specs.Settings.{settings_of, unset, answers_to}
use Rattle.berth.proofs.session.answer_steps.Given as goal

abbrev pub invariant-loop-step : goal.invariant-loop-step
invariant-loop-step l =
    string_bytes l.out ++ answers_to (settings_of l.session) (map said_by (into_iter_items l.step-iterator))
    ≡ answers_to unset (map said_by (into_iter_items l.initial.step-iterator))
