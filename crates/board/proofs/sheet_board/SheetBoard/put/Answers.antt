use Rattle.std.proofs.Common.{◌≡◌, ◌+◌, true, length, is_ok, vec_items, vec_len, refl, arith}
use Rattle.board.specs.declared.entry.Entry.{Entry}
use Rattle.board.specs.Tables.{chained-push}
use Rattle.board.specs.SheetFacts.{put_held, put_packed}
use Rattle.board.proofs.sheet_board.SheetBoard.put.Goals as goal

pub invariant_of-self : goal.invariant_of-self
invariant_of-self c =
    let u = c.if-not-has_room.ensures.unused refl in
    let ok : is_ok c.extend_from_slice.result ≡ true = c.extend_from_slice.ensures.succeeds (omega arith) in
    let e : Entry = record { margin = c.args.row.margin; start = c.len-start.result; length = length c.args.row.bytes.now } in
    let p = chained-push 0 (vec_items c.args.self.now.entries) (vec_len c.args.self.now.area) e c.args.self.now.joined c.len-start.ensures in
    let l : vec_len c.push_reserved.new.self ≡ (vec_len c.args.self.now.area + length c.args.row.bytes.now) + 1 =
    omega (arith, rw ok at c.extend_from_slice.ensures.len) in
    let a =
    put_packed c.args.self.now _ _ _ c.args.row.bytes.now e c.len-start.ensures refl
    (rw ok at c.extend_from_slice.ensures.items) c.push_reserved.ensures.items c.push_reserved-2.ensures.items in
    record {
      bytes_fit = omega arith;
      bytes_held = omega arith;
      joined = rw (c.push_reserved-2.ensures.items, l) p;
      packed = a;
    }

pub returns-clause-held : goal.returns-clause-held
returns-clause-held c =
    let u = c.if-not-has_room.ensures.unused refl in
    let ok : is_ok c.extend_from_slice.result ≡ true = c.extend_from_slice.ensures.succeeds (omega arith) in
    put_held c.args.self.now _ _ _ c.args.row.bytes.now
    (record { margin = c.args.row.margin; start = c.len-start.result; length = length c.args.row.bytes.now })
    c.len-start.ensures refl (rw ok at c.extend_from_slice.ensures.items)
    c.push_reserved.ensures.items c.push_reserved-2.ensures.items
