use Rattle.std.proofs.Common.{◌≡◌}
use Rattle.std.specs.Str.Iter.{chars_rest}
use Rattle.chars.proofs.Fronts.{first_of_front}
use Rattle.chars.proofs.front.first_char.Goals as goal

pub returns : goal.returns
returns c =
    let f = c.front_text-text.ensures in
    let h = first_of_front c.args.bytes.now c.front_text-text.result.now (chars_rest c.chars.result) (chars_rest c.next.new.self) c.min-end.result c.next.result (c.next.new.self ≡ c.chars.result) c.min-end.ensures c.front_text-text.utf8 (f.front, f.longest) c.chars.ensures.rest c.next.ensures.steps.0 in
    record { value = h.0; begins = h.1 }
