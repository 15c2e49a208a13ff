-- `member_marks` meets its contract. Assumes nothing.
use Rattle.std.proofs.Common.{ap, ◌∙◌, []}
use Rattle.lists.proofs.Lists.{nil-within}
use Rattle.record.specs.Record.{names, written}
use Rattle.graph.specs.links.Marks.{place_in}
use Rattle.graph.proofs.links.Marks.{none-marked}
use Rattle.graph.proofs.indexes.Tables.{names-few}
use Rattle.voting_members.specs.Rows.{leads_in}
use Rattle.voting_members.proofs.Rowing.{leads-in-known, none-leading, start-low, members-marks}
use Rattle.voting_members.proofs.member_marks.Goals as goal

pub returns : goal.returns
returns c R f t g i =
    let x = c.args.edit in
    let q = c.index_of-x.ensures.is ∙ (t _ ∙ ap (λ n. place_in (names R) n) c.from.ensures) in
    c.close.ensures (leads_in R) R (written R) [] g (leads-in-known R f.formed x i) (none-leading R) (start-low R f x i _ q) (nil-within (names R)) (none-marked R (names-few R f))
    ∙ members-marks R f x i _ q
