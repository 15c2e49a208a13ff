-- `never_chain` meets its contract. Assumes nothing.
use Rattle.reasons_rows.proofs.Giving.{start-known, never-finite, never-returns}
use Rattle.reasons_rows.proofs.never_chain.Goals as goal

pub returns : goal.returns
returns c =
    λ R g q a o l m n.
    let search = c.chain_search-search.ensures R _ g q m in
    let costs = c.least_costs-costs.ensures R _ g q search.0 in
    let start = c.start_of.ensures.1 in
    let chain = c.least_row-chain.ensures R _ g q a search.0 costs
    (start-known R g o c.args.x l search costs _ start) (never-finite R g o c.args.x l search costs _ start n) in
    never-returns R g o c.args.x l search costs _ start _ c.ring_row.result chain (λ u k. c.ring_row.ensures R _ u g q a chain.last-low m k)
