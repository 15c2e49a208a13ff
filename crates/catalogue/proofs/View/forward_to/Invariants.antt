use Rattle.catalogue.specs.Shelves.{shelf, content_of}
use Rattle.pages.proofs.Loops.{LeftToRun}
use Rattle.catalogue.proofs.View.forward_to.Given as goal

abbrev pub invariant-loop-page : goal.invariant-loop-page
invariant-loop-page g l =
    LeftToRun (shelf g.row.CELLS g.L.Layout.place g.L.Layout.cell) l.schedule.edits l.fn.from l.page-end (content_of l.initial.self) l.page (content_of l.self)
