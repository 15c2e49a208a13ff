-- `pages` meets its contract. Assumes nothing.
use mathlib.Core.List.{[]}
use Rattle.judgement.proofs.Judging.{none-hides}
use Rattle.judgement.proofs.pages.Goals as goal

pub returns : goal.returns
returns c = λ R e f.
    let g = c.resolved-graph.ensures R e f in
    let m = c.must_marks-mustmarks.ensures R g.0 in
    c.page_values.ensures R _ g.0.notafters.apart g.0.notafters.few (c.schedule_row-row.ensures R [] g.0 g.1 m (none-hides R))
