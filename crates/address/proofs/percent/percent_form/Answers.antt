use Rattle.std.proofs.Common.{◌≡◌, ◌++◌, length, take, drop, refl, arith}
use Rattle.std.proofs.lemmas.List.{take_all}
use Rattle.address.specs.Percent.{percent}
use Rattle.address.proofs.Percents.{percent_left, put_more, place_more, counted_some, written_form}
use Rattle.address.proofs.percent.percent_form.Goals as goal

pub loop-byte-preserved : goal.loop-byte-preserved
loop-byte-preserved c =
    let i = c.loop-byte.invariant in
    let p = percent_left c.args.address.now c.loop-byte.byte-index c.loop-byte-test.true in (
      place_more c.args.address.now c.loop-byte.byte-index _ _ c.loop-byte-test.true i.0 c.put_byte-at.ensures.count,
      put_more c.args.address.now c.args.out.now c.loop-byte.out c.put_byte-at.new.out c.loop-byte.byte-index _ _ c.loop-byte-test.true i.0 i.1 c.put_byte-at.ensures.count c.put_byte-at.ensures.bytes,
      omega (arith, p, c.put_byte-at.ensures.count),
    )

pub returns : goal.returns
returns c =
    let i = c.loop-byte.invariant in
    let a : take c.loop-byte.byte-index c.args.address.now ≡ c.args.address.now = take_all _ _ c.loop-byte-test.false in
    let n : c.loop-byte.at ≡ length (percent c.args.address.now) = rw a at i.0 in
    let o : c.loop-byte.out ≡ percent c.args.address.now ++ drop (length (percent c.args.address.now)) c.args.out.now = rw (a, n) at i.1 in
    let s = counted_some c.in_ok-length.length (length (percent c.args.address.now)) (length c.args.out.now) c.in_ok-length.ensures in
    let w = written_form c.args.address.now c.args.out.now c.loop-byte.out (length (percent c.args.address.now)) (λ i. omega (arith, c.type_inv.address i)) refl o in
    record { answer = c.in_ok-length.ensures; bytes = o; plain = rw s.0 w.0; identity = rw s.0 w.1 }
