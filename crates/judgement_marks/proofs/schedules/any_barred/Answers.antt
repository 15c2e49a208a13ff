-- `schedules::any_barred` meets its contract. Assumes nothing.
use Rattle.std.proofs.Common.{arith, rules, refl, ◌≡◌, true, false, ◌&&◌, ◌<◌, sym}
use borrow.Author.Tests.{tests}
use Rattle.std.proofs.lemmas.Iterator.{YieldsList-from_range, cases_from_any}
use Rattle.lists.specs.Lists.{mem}
use Rattle.record.specs.Schedule.{bars}
use Rattle.graph.specs.links.Marks.{name_at}
use Rattle.judgement_marks.proofs.schedules.Admitting.{TellsBarred, bars-told}
use Rattle.judgement_marks.proofs.schedules.any_barred.Goals as goal

pub returns : goal.returns
returns c R h t q sub e m u =
    bars-told R h t c.args.graph.now.count q sub c.any.result
    (cases_from_any _ _ c.any.result (λ x. x < c.args.graph.now.count → true ≡ (mem (name_at R x) t && bars R h (name_at R x))) (λ x. x < c.args.graph.now.count → (mem (name_at R x) t && bars R h (name_at R x)) ≡ false) c.any.ensures.ran
    (YieldsList-from_range 0 c.args.graph.now.count c.args.graph.now.count refl (omega arith))
    (λ x k d l. let is : TellsBarred c.args.marks.now c.args.hidden.now c.args.mustmarks.now x true = search (rules, tests) in is R h t (omega arith) e m u)
    (λ x k d. let is : TellsBarred c.args.marks.now c.args.hidden.now c.args.mustmarks.now x false = search (rules, tests) in (search rules, λ l. sym (is R h t (omega arith) e m u))))
