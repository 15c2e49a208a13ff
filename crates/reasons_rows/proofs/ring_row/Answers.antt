-- `ring_row` meets its contract. Assumes nothing.
use Rattle.reasons_rows.proofs.Ringing.{ring-finite, ring-best}
use Rattle.reasons_rows.proofs.ring_row.Goals as goal

pub returns : goal.returns
returns c =
    λ R t ring g q a l m u.
    let search = c.ring_search-search.ensures R t g l m in
    let costs = c.least_costs-costs.ensures R _ g q search in
    ring-best R t g.notafters c.args.r l costs search (c.least_row.ensures R _ g q a search costs l (ring-finite R t g.notafters c.args.r l costs u))
