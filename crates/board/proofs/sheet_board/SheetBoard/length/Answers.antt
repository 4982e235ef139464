use Rattle.std.proofs.Common.{◌≡◌, vec_items, sym, ap, ◌∙◌, rules}
use Rattle.std.specs.Option.{option_map}
use Rattle.board.specs.declared.entry.Entry.{Entry}
use Rattle.board.specs.Tables.{length_told}
use Rattle.board.specs.SheetFacts.{joined_at}
use Rattle.board.proofs.sheet_board.SheetBoard.length.Goals as goal

pub returns : goal.returns
returns c =
    let e : c.map.result ≡ option_map (λ (e : Entry). e.length) c.entry.result = search rules in
    e ∙ ap (option_map (λ (e : Entry). e.length)) c.entry.ensures ∙ sym (length_told 0 (vec_items c.args.self.now.entries) (vec_items c.args.self.now.area) c.args.row (joined_at c.args.self.now))
