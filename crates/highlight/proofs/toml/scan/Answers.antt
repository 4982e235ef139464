use Rattle.std.proofs.Common.{◌<◌, length, is_ok, ◌∙◌, arith}
use Rattle.highlight.specs.Scans.{some_bytes, piece_is_cut, room_for_one, room_kept, one_more, same_mode}
use Rattle.highlight.proofs.toml.scan.Goals as goal

pub range_from-rest-requires : goal.range_from-rest-requires
range_from-rest-requires c _ =
    let some = some_bytes c.loop-first.rest.now _ _ c.in-Some.first c.chars.ensures.rest c.in-Some.ensures.steps.0 in
    (piece_is_cut c.loop-first.mode c.loop-first.rest.now c.first_piece-piece.result c.loop-first.invariant.0 some c.first_piece-piece.ensures).1

pub loop-first-smaller : goal.loop-first-smaller
loop-first-smaller c =
    let some = some_bytes c.loop-first.rest.now _ _ c.in-Some.first c.chars.ensures.rest c.in-Some.ensures.steps.0 in
    let cut = piece_is_cut c.loop-first.mode c.loop-first.rest.now c.first_piece-piece.result c.loop-first.invariant.0 some c.first_piece-piece.ensures in
    omega (arith, cut.0, c.range_from-rest.ensures.len)

pub loop-first-preserved : goal.loop-first-preserved
loop-first-preserved c =
    let some = some_bytes c.loop-first.rest.now _ _ c.in-Some.first c.chars.ensures.rest c.in-Some.ensures.steps.0 in
    let cut = piece_is_cut c.loop-first.mode c.loop-first.rest.now c.first_piece-piece.result c.loop-first.invariant.0 some c.first_piece-piece.ensures in
    let fits = room_for_one c.loop-first.tokens c.loop-first.rest.now (is_ok c.push.result) some c.loop-first.invariant.1 c.push.ensures.answer in
    let less : length c.range_from-rest.result.now < length c.loop-first.rest.now = omega (arith, cut.0, c.range_from-rest.ensures.len) in (
      c.range_from-rest.utf8,
      room_kept c.loop-first.tokens c.push.new.self (is_ok c.push.result) c.first_piece-piece.result.token c.loop-first.rest.now c.range_from-rest.result.now fits c.push.ensures.after c.loop-first.invariant.1 less,
      one_more c.loop-first.tokens c.push.new.self (is_ok c.push.result) c.loop-first.mode c.loop-first.rest.now c.range_from-rest.result.now c.first_piece-piece.result c.loop-first.invariant.0 some c.first_piece-piece.ensures c.range_from-rest.ensures.value fits c.push.ensures.after ∙ c.loop-first.invariant.2,
      same_mode c.loop-first.mode c.loop-first.rest.now c.range_from-rest.result.now c.first_piece-piece.result c.loop-first.invariant.0 some c.first_piece-piece.ensures c.range_from-rest.ensures.value ∙ c.loop-first.invariant.3,
    )
