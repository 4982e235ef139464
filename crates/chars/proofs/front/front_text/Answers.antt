use Rattle.std.specs.Str.{valid_up_to}
use Rattle.chars.proofs.Fronts.{front_whole, front_cut}
use Rattle.chars.proofs.front.front_text.Goals as goal

pub returns-in-Ok : goal.returns-in-Ok
returns-in-Ok c =
    let f = front_whole c.args.bytes.now c.in-Ok.text.now c.in-Ok.ensures.cases.0 in
    record { front = f.0; longest = f.1 }

pub returns-in-Err : goal.returns-in-Err
returns-in-Err c =
    let f = front_cut c.args.bytes.now c.from_utf8_unchecked.result.now c.valid_up_to-end.result (valid_up_to c.in-Err.fault) c.from_utf8_unchecked.ensures c.valid_up_to-end.ensures c.in-Err.ensures.cases.1 in
    record { front = f.0; longest = f.1 }
