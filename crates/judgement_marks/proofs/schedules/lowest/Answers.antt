-- `schedules::lowest` meets its contract. Assumes nothing.
use Rattle.std.proofs.Common.{arith, rules, ◌≡◌, true, false, ◌<◌, sym}
use borrow.Author.Tests.{tests}
use Rattle.std.proofs.lemmas.Iterator.{first_from_Range}
use Rattle.graph.specs.links.Marks.{name_at}
use Rattle.judgement_marks.specs.schedules.Rows.{free}
use Rattle.judgement_marks.proofs.schedules.Ordering.{TellsFree, lowest-told}
use Rattle.judgement_marks.proofs.schedules.lowest.Goals as goal

pub returns-clause-is : goal.returns-clause-is
returns-clause-is c R p g q e f =
    lowest-told R p c.args.graph.now.count q c.args.from c.requires f c.find.result
    (first_from_Range _ _ _ c.find.result (λ x. x < c.args.graph.now.count → true ≡ free R p (name_at R x)) (λ x. x < c.args.graph.now.count → free R p (name_at R x) ≡ false) c.find.ensures.ran
    (λ x k h l. let is : TellsFree c.args.graph.now.rows c.args.waits.now x true = search (rules, tests) in is R p g (omega arith) e)
    (λ x k h. let is : TellsFree c.args.graph.now.rows c.args.waits.now x false = search (rules, tests) in (search rules, λ l. sym (is R p g (omega arith) e))))
