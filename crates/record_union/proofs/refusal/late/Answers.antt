-- `refusal::late` meets its contract. Assumes nothing.
use mathlib.Core.Path.{◌≡◌, sym, ap, ◌∙◌}
use borrow.Author.Rules.{rules}
use Rattle.std.proofs.lemmas.List.{take_rest}
use Rattle.refusals.specs.Numbers.{number, number_of}
use Rattle.record_rows.proofs.grounds.Loop.{late-again, late-once}
use Rattle.record_union.proofs.refusal.TableKinds.{elements_of}
use Rattle.record_union.proofs.refusal.late.Goals as goal

pub returns-then-is_repeated : goal.returns-then-is_repeated
returns-then-is_repeated g c = λ a.
    let T = g.T.Element in
    let K = elements_of g.row.T.Denot T.row_of T.KEY T.PLACES g.row.CELLS T.fits (λ row. 0) g.met.T.Element.narrow g.met.T.Element.wide in
    late-again K c.args.own.now c.args.row.now c.told-row a c.args.above.now c.args.count (sym c.is_repeated.ensures ∙ c.if-is_repeated.true)

pub returns-in_err-joins : goal.returns-in_err-joins
returns-in_err-joins g c = λ a.
    let T = g.T.Element in
    let K = elements_of g.row.T.Denot T.row_of T.KEY T.PLACES g.row.CELLS T.fits (λ row. 0) g.met.T.Element.narrow g.met.T.Element.wide in
    let n =
    late-once K c.args.own.now c.args.row.now c.told-row a c.args.above.now c.args.count (sym c.is_repeated.ensures ∙ c.if-is_repeated.false) c.passed-p.result c.passed-p.ensures.counted
    (rw (take_rest c.args.own.now c.passed-p.result, c.PLACES.ensures) at c.joins.ensures) in
    let e : number_of c.from_residual.result ≡ number c.in_err-joins.field-0.0 = search rules in
    e ∙ sym (ap number_of c.in_err-joins.was) ∙ n

pub returns : goal.returns
returns g c = λ a.
    let T = g.T.Element in
    let K = elements_of g.row.T.Denot T.row_of T.KEY T.PLACES g.row.CELLS T.fits (λ row. 0) g.met.T.Element.narrow g.met.T.Element.wide in
    let n =
    late-once K c.args.own.now c.args.row.now c.told-row a c.args.above.now c.args.count (sym c.is_repeated.ensures ∙ c.if-is_repeated.false) c.passed-p.result c.passed-p.ensures.counted
    (rw (take_rest c.args.own.now c.passed-p.result, c.PLACES.ensures) at c.joins.ensures) in
    sym (ap number_of c.in_ok-joins.was) ∙ n
