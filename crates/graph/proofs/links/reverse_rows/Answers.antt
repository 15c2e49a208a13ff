-- `links::reverse_rows` meets its contract. Assumes nothing.
use native.Mathlib.Omega.{arith}
use Rattle.graph.proofs.links.Reversing.{noter-start, noter-step, noter-end}
use borrow.Author.Rules.{rules}
use Rattle.graph.proofs.links.reverse_rows.Goals as goal

pub loop-j-init : goal.loop-j-init
loop-j-init c = (c.first_row-j.ensures.1, noter-start c.args.rows.now c.args.b c.requires c.args.reversed.now _ c.first_row-j.ensures)

pub loop-j-preserved : goal.loop-j-preserved
loop-j-preserved c =
    let l = c.loop-j in
    (search rules, noter-step c.args.rows.now c.args.b c.requires c.args.reversed.now l.reversed l.j _ _ _ (omega arith) (omega arith) l.invariant.0 c.row-row.ensures.next c.row-row.ensures.left (search rules) (search rules) l.invariant.1)

pub returns : goal.returns
returns c =
    let l = c.loop-j in
    noter-end c.args.rows.now c.args.b c.requires c.args.reversed.now l.reversed l.j c.loop-j-test.false l.invariant.1
