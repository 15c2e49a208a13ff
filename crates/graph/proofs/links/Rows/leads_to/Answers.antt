-- `links::Rows::leads_to` meets its contract. Assumes nothing.
use Rattle.std.proofs.Common.{arith, rules, ◌+◌, ◌≡◌}
use borrow.Author.Tests.{tests}
use Rattle.graph.specs.links.Links.{left_at}
use Rattle.graph.proofs.links.Links.{looking-start, leads-told}
use Rattle.graph.proofs.links.Walking.{any-told}
use Rattle.graph.proofs.links.Rows.leads_to.Goals as goal

pub returns : goal.returns
returns c leads R g h k =
    leads-told leads R c.args.base c.args.self.now g c.args.a c.args.b h k _
    (any-told c.args.self.now (c.args.base + c.args.b) (λ y. y ≡ c.args.a) _ _ (λ x q k. search (rules, tests)) (λ x q k. search (rules, tests)) c.lefts.result c.any.new.self c.any.result
    (c.lefts.ensures.rows, looking-start c.args.self.now (c.args.base + c.args.b) (λ i. left_at c.args.self.now i ≡ c.args.a → ⊥) _ (omega arith) c.lefts.ensures.row) c.any.ensures.ran)
