-- `made` meets its contract. Assumes nothing.
use Rattle.std.proofs.lemmas.Result.{err_from_is_err_and}
use Rattle.refusals.specs.Numbers.{number}
use Rattle.refusals.proofs.Numbers.{number-positive}
use Rattle.voting.specs.Proposal.{proposed}
use Rattle.graph.proofs.indexes.Fit.{checked-fit}
use Rattle.voting_proposals.proofs.Answers.{knows-old, draft-refused, new-checked, not-kept, is-kept}
use Rattle.voting_proposals.proofs.made.Goals as goal

pub returns-in_err-new : goal.returns-in_err-new
returns-in_err-new c = λ M Q e k f j.
    let p = err_from_is_err_and c.from_residual.result c.from_residual.ensures.1 in
    let r = c.in_err-new.field-0.0 in
    rw (p.1, p.2) (draft-refused M Q (number r) (c.in_err-new.ensures M Q e k f j).0 (number-positive r), tt)

pub returns-then-not-keeps : goal.returns-then-not-keeps
returns-then-not-keeps c = λ M Q e k f j.
    let d = c.in_ok-new.ensures M Q e k f j in
    let b = c.keeps.ensures Q (proposed M Q) f (checked-fit Q j) d.1 (checked-fit (proposed M Q) (new-checked M Q d.0 k)) (knows-old M Q) in
    (not-kept M Q d.0 b c.if-not-keeps.true, tt)

pub returns : goal.returns
returns c = λ M Q e k f j.
    let d = c.in_ok-new.ensures M Q e k f j in
    let b = c.keeps.ensures Q (proposed M Q) f (checked-fit Q j) d.1 (checked-fit (proposed M Q) (new-checked M Q d.0 k)) (knows-old M Q) in
    (is-kept M Q d.0 b c.if-not-keeps.false, d.1)
