use Rattle.std.proofs.Common.{◌≡◌, ◌+◌, ◌^◌, ◌<◌}
use Rattle.std.specs.Str.Iter.{rsplit_text, rsplit_has_more, rsplit_pattern}
use Rattle.address.specs.declared.path.Step.TheVariants.{Up}
use Rattle.address.specs.Buffer.{held}
use Rattle.address.specs.Sources.{Source}
use Rattle.address.specs.Segments.{Stack, parts_of, step_of, walked}
use Rattle.address.specs.Laying.{laid}
use Rattle.address.proofs.Splitting.{parts_left, bytes_left}
use Rattle.address.proofs.path.climb.Given as goal

abbrev pub invariant-loop-part : goal.invariant-loop-part
invariant-loop-part g l =
    record {
      more : (goal.iterator-loop-part g).can_next l.part-iterator;
      ends : (goal.iterator-loop-part g).is_finite l.part-iterator;
      slash : rsplit_pattern l.part-iterator ≡ 47;
      bound : (part : _) → goal.F-post g l.step part Up → l.ups + bytes_left (rsplit_has_more l.part-iterator) (rsplit_text l.part-iterator) < 2 ^ 64;
      lays : (source : Source) → ((part : _) (taken : _) → goal.F-post g l.step part taken → taken ≡ step_of source part.now) → (stack : Stack) → laid l.ups (walked source stack (parts_left (rsplit_has_more l.part-iterator) (rsplit_text l.part-iterator))) (held l.draft) ≡ laid l.initial.ups (walked source stack (parts_of l.text)) (held l.initial.draft);
    }
