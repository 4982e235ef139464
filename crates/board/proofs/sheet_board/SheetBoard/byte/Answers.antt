use Rattle.std.proofs.Common.{◌+◌, ◌≤◌, length, take, drop, Some, vec_items, sym, ap, ◌∙◌, arith, rules}
use Rattle.std.proofs.lemmas.Option.{slice_get_past}
use Rattle.board.specs.Tables.{byte_part, length_part}
use Rattle.board.specs.SheetFacts.{entry_in, row_in}
use Rattle.board.proofs.sheet_board.SheetBoard.byte.Goals as goal

pub index-requires : goal.index-requires
index-requires c =
    let w = entry_in c.args.self.now c.args.row c.in_ok-entry.entry (sym c.entry.ensures ∙ c.in_ok-entry.was) in omega arith

pub overflow_add-entry : goal.overflow_add-entry
overflow_add-entry c =
    let w = entry_in c.args.self.now c.args.row c.in_ok-entry.entry (sym c.entry.ensures ∙ c.in_ok-entry.was) in search rules

pub returns-then-place-entry : goal.returns-then-place-entry
returns-then-place-entry c =
    let e = c.in_ok-entry.entry in
    let bs = vec_items c.args.self.now.area in
    let g = sym c.entry.ensures ∙ c.in_ok-entry.was in
    let w = entry_in c.args.self.now c.args.row e g in
    rw (row_in c.args.self.now c.args.row e g) (ap (λ x. Some x) c.index.ensures ∙ byte_part bs e.start e.length c.args.place c.index.result.now (omega (arith, c.args.self.now.area.ok.0)) c.if-place-entry.true)

pub returns-else-place-entry : goal.returns-else-place-entry
returns-else-place-entry c =
    let e = c.in_ok-entry.entry in
    let bs = vec_items c.args.self.now.area in
    let g = sym c.entry.ensures ∙ c.in_ok-entry.was in
    let w = entry_in c.args.self.now c.args.row e g in
    let l : e.start + e.length ≤ length bs = omega (arith, c.args.self.now.area.ok.0) in
    rw (row_in c.args.self.now c.args.row e g)
    (sym (slice_get_past (take e.length (drop e.start bs)) c.args.place (omega (arith, length_part bs e.start e.length l))))
