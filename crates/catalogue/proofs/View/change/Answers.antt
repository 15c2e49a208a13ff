-- `change` meets its contract.
use Rattle.catalogue.proofs.Moves.{change-moves, change-opens}
use Rattle.catalogue.proofs.View.change.Goals as goal

pub returns : goal.returns
returns g c =
    let s = c.args in
    let e = change-moves g.row.CELLS g.row.PLACES g.L.Layout.place g.L.Layout.cell s.self.now _ _ s.old s.opened s.new s.common c.back_to.ensures c.forward_to.ensures in
    record { moves = e; opens = change-opens g.row.CELLS g.row.PLACES g.L.Layout.place g.L.Layout.cell s.self.now _ s.old s.opened s.new s.common e }
