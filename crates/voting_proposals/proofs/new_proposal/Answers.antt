-- `new_proposal` meets its contract. Assumes nothing.
use mathlib.Core.Path.{sym, ◌∙◌}
use Rattle.std.proofs.lemmas.Result.{err_from_is_err_and}
use Rattle.refusals.specs.Numbers.{number}
use Rattle.refusals.proofs.Numbers.{number-positive}
use Rattle.record_tables.specs.Table.{decoded}
use Rattle.voting_proposals.proofs.Answers.{propose-rows-refused, own-checked, old-refused, both-checked, old-checked, old-few, made-rows}
use Rattle.voting_proposals.proofs.new_proposal.Goals as goal

pub returns-in_err-multilog : goal.returns-in_err-multilog
returns-in_err-multilog c =
    let s = c.args in
    let p = err_from_is_err_and c.from_residual.result c.from_residual.ensures.1 in
    let r = c.in_err-multilog.field-0.0 in
    rw (p.1, p.2) (propose-rows-refused s.lent.edits.now s.lent.constraints.now s.old.edits.now s.old.constraints.now (number r) c.in_err-multilog.ensures.0 (number-positive r), tt)

pub returns-in_err-both : goal.returns-in_err-both
returns-in_err-both c =
    let s = c.args in
    let es = s.lent.edits.now in
    let cs = s.lent.constraints.now in
    let p = err_from_is_err_and c.from_residual-in_err-both.result c.from_residual-in_err-both.ensures.1 in
    let r = c.in_err-both.field-0.0 in
    let o = c.in_ok-multilog.ensures in
    let b = c.in_err-both.ensures (decoded es cs) o.1 (own-checked es cs s.old.edits.now s.old.constraints.now o.0) in
    rw (p.1, p.2) (old-refused es cs s.old.edits.now s.old.constraints.now o.0 (number r) b.0 (number-positive r), tt)

pub returns : goal.returns
returns c =
    let s = c.args in
    let es = s.lent.edits.now in
    let cs = s.lent.constraints.now in
    let oes = s.old.edits.now in
    let ocs = s.old.constraints.now in
    let o = c.in_ok-multilog.ensures in
    let b = c.in_ok-both.ensures (decoded es cs) o.1 (own-checked es cs oes ocs o.0) in
    let w = old-few es cs oes ocs o.0 b.0 in
    let m = c.made.ensures (decoded es cs) (decoded oes ocs) b.1 (both-checked es cs oes ocs o.0 b.0) (c.decode.ensures w.0 w.1) (old-checked es cs oes ocs o.0 b.0) in
    (m.0 ∙ sym (made-rows es cs oes ocs o.0 b.0), m.1)
