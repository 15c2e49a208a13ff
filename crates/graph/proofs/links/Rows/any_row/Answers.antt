-- `links::Rows::any_row` meets its contract. Assumes nothing.
use Rattle.std.proofs.Common.{rules, ◌≡◌, get_or}
use borrow.Author.Tests.{tests}
use Rattle.graph.specs.links.Links.{left_at}
use Rattle.graph.proofs.links.Links.{looking-start}
use Rattle.graph.proofs.links.Walking.{any-told}
use Rattle.graph.proofs.links.Rows.any_row.Goals as goal

pub returns : goal.returns
returns c =
    let start = looking-start c.args.self.now c.args.key (λ i. get_or c.args.marks.now (left_at c.args.self.now i) 0 ≡ c.args.mark → ⊥) _ c.requires c.lefts.ensures.row in
    let told = any-told c.args.self.now c.args.key (λ y. get_or c.args.marks.now y 0 ≡ c.args.mark) _ _ (λ x q k. search (rules, tests)) (λ x q k. search (rules, tests)) c.lefts.result c.any.new.self c.any.result
    (c.lefts.ensures.rows, start) c.any.ensures.ran in
    record { some = told.0; none = told.1 }
