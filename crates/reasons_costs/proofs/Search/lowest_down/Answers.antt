-- `Search::lowest_down` meets its contract. Assumes nothing.
use Rattle.std.proofs.Common.{arith, rules, ◌≡◌, true, false, ◌<◌, sym}
use borrow.Author.Tests.{tests}
use Rattle.std.proofs.lemmas.Iterator.{first_from_Range}
use Rattle.reasons_costs.specs.Levels.{is_down}
use Rattle.reasons_costs.proofs.Descent.{TellsDown, lowest-in-range}
use Rattle.reasons_costs.proofs.Search.lowest_down.Goals as goal

pub returns-clause-is : goal.returns-clause-is
returns-clause-is c R g e h =
    let count = c.args.graph.now.count in
    let relation = c.args.self.now.relation in
    let rows = c.args.graph.now.rows in
    let down = is_down R relation c.args.costs.now c.args.x in
    lowest-in-range down count c.find.result
    (first_from_Range _ _ _ c.find.result (λ y. y < count → true ≡ down y) (λ y. y < count → down y ≡ false) c.find.ensures.ran
    (λ y k f l. let is : TellsDown relation rows c.args.costs.now c.args.x y true = search (rules, tests) in is R g h (omega (arith, l, e)))
    (λ y k f. let is : TellsDown relation rows c.args.costs.now c.args.x y false = search (rules, tests) in (search rules, λ l. sym (is R g h (omega (arith, l, e))))))
