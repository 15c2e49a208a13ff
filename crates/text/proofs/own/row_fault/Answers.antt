-- `own::row_fault` meets its contract. Assumes nothing.
use Rattle.std.proofs.Common.{ap, sym}
use Rattle.std.proofs.lemmas.Result.{err_from_is_err_and}
use Rattle.refusals.specs.Numbers.{number_of}
use Rattle.refusals.proofs.Numbers.{number-positive}
use Rattle.text.specs.Own.{row_kind}
use Rattle.text.proofs.Faults.{alone-range, alone-place, alone-further, alone-follows, alone-late}
use Rattle.text.proofs.own.row_fault.Goals as goal

pub returns-then-not-in_range : goal.returns-then-not-in_range
returns-then-not-in_range g c = λ a. alone-range (row_kind g.T.Element.KEY g.T.Element.PLACES g.T.Element.fits (number_of c.args.further)) c.args.above.now c.args.row.now c.in_range.ensures c.if-not-in_range.true

pub returns-then-no_place : goal.returns-then-no_place
returns-then-no_place g c = λ a. alone-place (row_kind g.T.Element.KEY g.T.Element.PLACES g.T.Element.fits (number_of c.args.further)) c.args.above.now c.args.row.now a c.in_range.ensures c.if-not-in_range.false c.no_place.ensures c.if-no_place.true

pub returns-in_err-further : goal.returns-in_err-further
returns-in_err-further g c = λ a.
    let p = err_from_is_err_and c.from_residual.result c.from_residual.ensures.1 in
    rw (p.1, p.2) (alone-further (row_kind g.T.Element.KEY g.T.Element.PLACES g.T.Element.fits (number_of c.args.further)) c.args.above.now c.args.row.now a c.in_range.ensures c.if-not-in_range.false c.no_place.ensures c.if-no_place.false (sym (ap number_of c.in_err-further.was)) (number-positive c.in_err-further.field-0.0))

pub returns-then-not-follows : goal.returns-then-not-follows
returns-then-not-follows g c = λ a. alone-late (row_kind g.T.Element.KEY g.T.Element.PLACES g.T.Element.fits (number_of c.args.further)) c.args.above.now c.args.row.now a c.in_range.ensures c.if-not-in_range.false c.no_place.ensures c.if-no_place.false (ap number_of c.in_ok-further.was) (c.follows.ensures a) c.if-not-follows.true

pub returns : goal.returns
returns g c = λ a. alone-follows (row_kind g.T.Element.KEY g.T.Element.PLACES g.T.Element.fits (number_of c.args.further)) c.args.above.now c.args.row.now a c.in_range.ensures c.if-not-in_range.false c.no_place.ensures c.if-no_place.false (ap number_of c.in_ok-further.was) (c.follows.ensures a) c.if-not-follows.false
