-- `links::linked_rows` meets its contract. Assumes nothing.
use Rattle.std.proofs.Common.{arith, rules, sym, ap, ◌∙◌, ◌+◌}
use Rattle.std.proofs.lemmas.List.{length-map}
use Rattle.lists.proofs.Lists.{get_or-mapped}
use Rattle.graph.proofs.links.Links.{linking-start, linking-step, linking-end}
use Rattle.graph.proofs.links.linked_rows.Goals as goal

pub loop-row-init : goal.loop-row-init
loop-row-init c = (search rules, rw c.new-linking.ensures.cells (linking-start _ _))

pub loop-row-preserved : goal.loop-row-preserved
loop-row-preserved c =
    let l = c.loop-row in
    let t = c.args.reversed.now in
    let h = c.loop-row-test.true in
    let from = get_or-mapped (λ r. r.from) t l.row-index c.row-item.result 0 h ∙ ap (λ r. r.from) (sym c.row-item.is) ∙ sym c.from.ensures in
    let to = get_or-mapped (λ r. r.to) t l.row-index c.row-item.result 0 h ∙ ap (λ r. r.to) (sym c.row-item.is) ∙ sym c.from-in-loop-row.ensures in (
      c.link_row.ensures.count ∙ ap (λ n. n + 1) l.invariant.0,
      rw (c.link_row.ensures.cells, l.invariant.0) (linking-step _ _ l.linking.cells l.row-index _ _ l.linking.growing.size (omega (arith, c.requires)) (omega arith) from to l.invariant.1),
    )

pub returns : goal.returns
returns c =
    let l = c.loop-row in
    rw c.rows.ensures (record {
      linked = linking-end _ _ _ l.row-index (omega (arith, length-map c.args.reversed.now (λ r. r.from))) l.invariant.1;
      lefts = λ i d h. l.invariant.1.left i (omega arith) ∙ get_or-mapped (λ r. r.to) c.args.reversed.now i d 0 h;
    })
