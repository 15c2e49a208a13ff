-- `unite` meets its contract. Assumes nothing.
use mathlib.Core.Path.{ap, ◌∙◌}
use borrow.Author.Rules.{rules}
use Rattle.std.proofs.Common.{Some}
use Rattle.record_union.proofs.Joining.{keys-even, union-walk-start, walk-own, walk-joining, walk-both, walk-end, walk-full}
use Rattle.record_union.proofs.unite.Goals as goal
use Rattle.record_union.proofs.unite.Goals.{in-Own, in-Joining, in-Both}

pub loop-count-init : goal.loop-count-init
loop-count-init g c = union-walk-start g.T.Element.key_of g.row.PLACES g.T.Element.filler c.args.own.now c.args.joining.now c.filler-elements.ensures

pub returns-in_default : goal.returns-in_default
returns-in_default g c =
    let l = c.loop-count in
    let even = keys-even g.T.Element.row_of g.T.Element.key_of g.T.Element.KEY g.row.CELLS g.met.T.Element.narrow g.met.T.Element.wide g.met.T.Element.keyed in
    walk-end g.T.Element.key_of g.row.PLACES g.T.Element.filler c.args.own.now c.args.joining.now l.elements l.own_rest.now l.joining_rest.now l.count l.invariant even c.choose.ensures c.in_default.is

pub loop-count-preserved : goal.loop-count-preserved
loop-count-preserved g c =
    let l = c.loop-count in
    let even = keys-even g.T.Element.row_of g.T.Element.key_of g.T.Element.KEY g.row.CELLS g.met.T.Element.narrow g.met.T.Element.wide g.met.T.Element.keyed in
    elim c.match-choice.branch [
      | in-Own w ↦ rw (w.elements-is, w.own_rest-is, w.joining_rest-is, w.after_first-own_rest.ensures) (walk-own g.T.Element.key_of g.row.PLACES g.T.Element.filler c.args.own.now c.args.joining.now l.elements l.own_rest.now l.joining_rest.now l.count l.invariant even c.choose.ensures w.in-Own.x (c.in-Some.is ∙ ap Some w.in-Own.is))
      | in-Joining w ↦ rw (w.elements-is, w.own_rest-is, w.joining_rest-is, w.after_first-joining_rest.ensures) (walk-joining g.T.Element.key_of g.row.PLACES g.T.Element.filler c.args.own.now c.args.joining.now l.elements l.own_rest.now l.joining_rest.now l.count l.invariant even c.choose.ensures w.in-Joining.y (c.in-Some.is ∙ ap Some w.in-Joining.is))
      | in-Both w ↦ rw (w.elements-is, w.own_rest-is, w.joining_rest-is, w.after_first-own_rest-in-Both.ensures, w.after_first-joining_rest-in-Both.ensures) (walk-both g.T.Element.key_of g.row.PLACES g.T.Element.filler c.args.own.now c.args.joining.now l.elements l.own_rest.now l.joining_rest.now l.count l.invariant even c.choose.ensures w.in-Both.x (c.in-Some.is ∙ ap Some w.in-Both.is))
    ]

pub returns : goal.returns
returns g c = walk-full g.T.Element.key_of g.row.PLACES g.T.Element.filler c.args.own.now c.args.joining.now c.loop-count.elements c.loop-count.own_rest.now c.loop-count.joining_rest.now c.loop-count.count c.loop-count.invariant (search rules)
