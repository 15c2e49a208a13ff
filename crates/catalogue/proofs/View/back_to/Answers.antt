-- `back_to` meets its contract. The invariant: the pages that are left, undone from here, come to what all of them come to.
use mathlib.Core.Path.{◌≡◌, refl, ap}
use lib.ListN.{length}
use native.Mathlib.Omega.{arith}
use borrow.Author.Rules.{rules}
use Rattle.lists.proofs.Lists.{length-mapped}
use Rattle.catalogue.specs.Shelves.{shelf, rows, stored_view}
use Rattle.pages.proofs.Loops.{undo-more, undo-end}
use Rattle.catalogue.proofs.View.back_to.Goals as goal

pub loop-page-preserved : goal.loop-page-preserved
loop-page-preserved g c =
    let n : length c.args.schedule.edits ≡ rows = search (rules, length-mapped) in
    let w = c.loop-page.invariant.within in
    undo-more (shelf g.row.CELLS g.L.Layout.place g.L.Layout.cell) rows c.args.schedule.edits _ _ _ _ _ _ _ _ _ _ c.loop-page.invariant c.loop-page-test.true (omega arith) c.place.ensures c.put.ensures c.absent.ensures

pub returns : goal.returns
returns g c =
    let n : length c.args.schedule.edits ≡ rows = search (rules, length-mapped) in
    ap stored_view (undo-end (shelf g.row.CELLS g.L.Layout.place g.L.Layout.cell) rows c.args.schedule.edits n _ _ _ _ _ _ c.loop-page.invariant c.loop-page-test.false refl)
