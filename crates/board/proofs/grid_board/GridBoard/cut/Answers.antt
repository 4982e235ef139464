use Rattle.std.proofs.Common.{sym, refl, arith}
use Rattle.std.proofs.lemmas.List.{take_all}
use Rattle.board.specs.Grids.{grid_rows}
use Rattle.board.specs.GridFacts.{grid_count, grid_cut}
use Rattle.board.proofs.grid_board.GridBoard.cut.Goals as goal

pub returns-then-n-self : goal.returns-then-n-self
returns-then-n-self c = record { held = grid_cut c.args.self.now c.args.n (omega arith); kept = refl }

pub returns-else-n-self : goal.returns-else-n-self
returns-else-n-self c = record {
  held = sym (take_all c.args.n (grid_rows c.args.self.now) (omega (arith, grid_count c.args.self.now)));
  kept = refl;
}
