-- `turn_to` meets its contract: forward and back.
use Rattle.catalogue.proofs.Moves.{turned_on, turned-back, view-turn-opens}
use Rattle.catalogue.proofs.View.turn_to.Goals as goal

pub returns-then-opened-page : goal.returns-then-opened-page
returns-then-opened-page g c =
    let s = c.args in
    let e = turned_on g.row.CELLS g.row.PLACES g.L.Layout.place g.L.Layout.cell s.schedule.edits s.opened s.page s.self.now _ c.if-opened-page.true c.forward_to.ensures in
    record { moves = e; opens = view-turn-opens g.row.CELLS g.row.PLACES g.L.Layout.place g.L.Layout.cell s.schedule s.opened s.page s.self.now _ e }

pub returns-else-opened-page : goal.returns-else-opened-page
returns-else-opened-page g c =
    let s = c.args in
    let e = turned-back g.row.CELLS g.row.PLACES g.L.Layout.place g.L.Layout.cell s.schedule.edits s.opened s.page s.self.now _ c.if-opened-page.false c.back_to.ensures in
    record { moves = e; opens = view-turn-opens g.row.CELLS g.row.PLACES g.L.Layout.place g.L.Layout.cell s.schedule s.opened s.page s.self.now _ e }
