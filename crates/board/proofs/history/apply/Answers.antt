use Rattle.std.proofs.Common.{[], sym, ◌∙◌}
use Rattle.std.proofs.lemmas.List.{at_drop_all}
use Rattle.board.specs.declared.history.Change.{Change}
use Rattle.board.specs.declared.history.Change.TheVariants.{Put}
use Rattle.board.specs.History.{history}
use Rattle.board.proofs.Histories.{gives_last_back, gives_all_back}
use Rattle.board.proofs.history.apply.Goals as goal

-- what is read beyond the changes
abbrev nothing : Change
nothing = Put 0 (record { ref_ptr = (0, 0); now = [] })

pub returns : goal.returns
returns g c =
    let fits = g.B.Board.fits c.args.board.now in
    let rows = g.B.Board.rows c.loop-change.board in
    let all = gives_all_back (g.B.Board.fits c.loop-change.board) rows (g.met.B.Board.regains_each c.loop-change.board) in
    record {
      rows = sym (at_drop_all (history fits rows) c.args.changes.now c.loop-change.change-index c.loop-change-test.false) ∙ c.loop-change.invariant.1;
      kept = c.loop-change.invariant.0;
      gives_back = gives_last_back (g.B.Board.fits c.loop-change.board) rows all;
      gives_all_back = all;
    }
