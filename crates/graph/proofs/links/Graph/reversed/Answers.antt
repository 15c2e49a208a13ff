-- `links::Graph::reversed` meets its contract. Assumes nothing.
use Rattle.std.proofs.Common.{arith, rules, length-take-le}
use Rattle.graph.proofs.links.Reversing.{reversing-start, reversing-step, reversing-end}
use Rattle.graph.proofs.links.Graph.reversed.Goals as goal

pub loop-b-init : goal.loop-b-init
loop-b-init c = reversing-start c.args.self.now.rows _

pub loop-b-preserved : goal.loop-b-preserved
loop-b-preserved c =
    let l = c.loop-b in
    reversing-step c.args.self.now.rows l.b _ l.count _ l.reversed _ c.first_row.ensures (search rules) l.invariant c.reverse_rows.ensures

pub linked_rows-requires : goal.linked_rows-requires
linked_rows-requires c =
    let l = c.loop-b in
    omega (arith, length-take-le l.count l.reversed (omega (arith, l.invariant.few, l.invariant.size)), l.invariant.few)

pub returns : goal.returns
returns c R g q =
    let l = c.loop-b in
    reversing-end c.args.self.now.rows R l.b l.count l.reversed _ g (omega (arith, q)) l.invariant c.linked_rows.ensures
