-- `Level::any_left` meets its contract. Assumes nothing.
use Rattle.std.proofs.Common.{arith, rules, ◌≡◌, ℕ, ◌+◌, get_or}
use borrow.Author.Tests.{tests}
use Rattle.graph.specs.links.Links.{left_at}
use Rattle.graph.proofs.links.Links.{looking-start}
use Rattle.graph.proofs.links.Walking.{any-told}
use Rattle.reasons_costs.specs.Levels.{base_of}
use Rattle.reasons_costs.proofs.Level.any_left.Goals as goal

pub returns : goal.returns
returns c =
    let rows = c.args.self.now.graph.now.rows in
    let key = base_of c.args.self.now.search.now.relation + c.args.b in
    let at : ℕ → Type 0 = λ y. get_or c.args.costs.now y 0 ≡ c.args.self.now.cost in
    let base = c.base.ensures in
    let start = looking-start rows key (λ i. at (left_at rows i) → ⊥) _ (omega (arith, base.is, base.low)) (rw base.is at c.lefts.ensures.row) in
    let told = any-told rows key at _ _ (λ x q k. search (rules, tests)) (λ x q k. search (rules, tests)) c.lefts.result c.any.new.self c.any.result
    (c.lefts.ensures.rows, start) c.any.ensures.ran in
    record { some = told.0; none = told.1 }
