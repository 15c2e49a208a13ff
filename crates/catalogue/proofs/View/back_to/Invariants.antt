use Prim.Native.Nat.{min}
use Rattle.catalogue.specs.Shelves.{shelf, rows, content_of}
use Rattle.pages.proofs.Loops.{Undoing}
use Rattle.catalogue.proofs.View.back_to.Given as goal

abbrev pub invariant-loop-page : goal.invariant-loop-page
invariant-loop-page g l =
    Undoing (shelf g.row.CELLS g.L.Layout.place g.L.Layout.cell) rows l.schedule.edits l.to (min l.fn.from rows) (content_of l.initial.self) l.page (content_of l.self)
