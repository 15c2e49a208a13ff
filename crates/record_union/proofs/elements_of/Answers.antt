-- `elements_of` meets its contract. Assumes nothing.
use mathlib.Core.Path.{ap, ◌∙◌}
use Rattle.record.proofs.Padded.{padded-begin}
use Rattle.record_union.proofs.Joining.{decode-next, decode-end}
use Rattle.record_union.proofs.elements_of.Goals as goal

pub loop-i-init : goal.loop-i-init
loop-i-init g c = padded-begin g.row.PLACES g.T.Element.filler c.filler-elements.ensures

pub loop-i-preserved : goal.loop-i-preserved
loop-i-preserved g c =
    let l = c.loop-i in
    decode-next g.row.PLACES g.T.Element.filler g.T.Element.element_of c.args.t.now l.elements l.i c.index-t-i.result c.loop-i-test.true c.requires l.invariant
    (c.of.ensures ∙ ap g.T.Element.element_of c.index-t-i.is)

pub returns : goal.returns
returns g c =
    let l = c.loop-i in
    decode-end g.row.PLACES g.T.Element.filler g.T.Element.element_of c.args.t.now l.elements l.i c.loop-i-test.false l.invariant
