use Rattle.std.proofs.Common.{◌≡◌, Some, vec_items, vec_len, sym, ◌∙◌, arith}
use Rattle.std.specs.List.{slice_get}
use Rattle.board.specs.SheetFacts.{entry_in, cut_joined, cut_held, cut_none, cut_packed}
use Rattle.board.proofs.sheet_board.SheetBoard.cut.Goals as goal

pub invariant_of-self : goal.invariant_of-self
invariant_of-self c =
    let g : slice_get (vec_items c.args.self.now.entries) c.args.n ≡ Some c.in-Some.entry = sym c.entry.ensures ∙ c.in-Some.is in
    let w = entry_in c.args.self.now c.args.n c.in-Some.entry g in
    let l : vec_len c.truncate.new.self ≡ c.in-Some.entry.start = omega arith in
    record {
      bytes_fit = omega arith;
      bytes_held = omega arith;
      joined = rw (c.truncate-in-Some.ensures.items, l) (cut_joined c.args.self.now c.args.n c.in-Some.entry g);
      packed = cut_packed c.args.self.now _ _ c.args.n c.in-Some.entry g c.truncate-in-Some.ensures.items c.truncate.ensures.items;
    }

pub returns-in-Some-clause-held : goal.returns-in-Some-clause-held
returns-in-Some-clause-held c = cut_held c.args.self.now _ _ c.args.n c.in-Some.entry (sym c.entry.ensures ∙ c.in-Some.is) c.truncate-in-Some.ensures.items c.truncate.ensures.items

pub returns-in_default-clause-held : goal.returns-in_default-clause-held
returns-in_default-clause-held c = cut_none c.args.self.now c.args.n (sym c.entry.ensures ∙ c.in_default.is)
