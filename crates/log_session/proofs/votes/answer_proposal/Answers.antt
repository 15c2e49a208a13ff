-- `votes::answer_proposal` meets its contract. Assumes nothing.
use mathlib.Core.Path.{sym}
use Rattle.std.proofs.lemmas.Result.{err_from_is_err_and}
use Rattle.log_forms.proofs.Printing.{printed-nothing}
use Rattle.log_session.specs.votes.Votes.{proposal_effect}
use Rattle.log_session.proofs.votes.Making.{made-checked, refused-lent, unkept-lent, kept-lent, made-printed}
use Rattle.log_session.proofs.votes.answer_proposal.Goals as goal

pub returns-in_err-new-clause-told : goal.returns-in_err-new-clause-told
unfolding proposal_effect
returns-in_err-new-clause-told c =
    λ D K.
    let s = c.args in
    let g = c.in_err-new.ensures D.lent K in
    let p = err_from_is_err_and c.from_residual.result c.from_residual.ensures.1 in
    rw (p.1, p.2) (refused-lent D s.asked _ g.0 K, g.0, printed-nothing s.printer.now)

pub returns-else-asked-clause-told : goal.returns-else-asked-clause-told
unfolding proposal_effect
returns-else-asked-clause-told c =
    λ D K.
    let s = c.args in
    let g = c.in_ok-new.ensures D.lent K in
    (unkept-lent D s.asked c.if-asked.false K, g.0, made-printed D s.asked g.1 c.print_record.ensures)

pub returns-then-asked-clause-told : goal.returns-then-asked-clause-told
unfolding proposal_effect
returns-then-asked-clause-told c =
    λ D K.
    let s = c.args in
    let g = c.in_ok-new.ensures D.lent K in
    let v = made-checked D.lent s.asked (sym g.0) in
    let k = c.lend_record-kept.ensures D.lent _ K g.1 v.editplaces v.constraintplaces in
    (kept-lent D s.asked g.0 c.if-asked.true k.1, g.0, made-printed D s.asked g.1 c.print_record.ensures)
