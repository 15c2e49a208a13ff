-- `must_chain` meets its contract. Assumes nothing.
use Rattle.reasons_rows.proofs.Giving.{must-finite, must-returns}
use Rattle.reasons_rows.proofs.must_chain.Goals as goal

pub returns : goal.returns
returns c =
    λ R g q a o l m.
    let search = c.init_search-search.ensures R g q in
    let costs = c.least_costs-costs.ensures R _ g q search in
    must-returns R g o c.args.x l costs search (c.least_row.ensures R _ g q a search costs l (must-finite R g o c.args.x l costs m))
