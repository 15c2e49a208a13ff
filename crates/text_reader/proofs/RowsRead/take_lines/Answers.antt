-- `RowsRead::take_lines` meets its contract. Assumes nothing.
use Rattle.std.proofs.Common.{refl, rules}
use Rattle.std.proofs.lemmas.Result.{err_from_is_err_and}
use Rattle.text_lines.specs.Lines.{lines}
use Rattle.text.specs.Text.{read_from}
use Rattle.text_reader.proofs.Feeding.{upto-refused, upto_next, upto-end}
use Rattle.text_reader.proofs.RowsRead.take_lines.Goals as goal

pub loop-line-init : goal.loop-line-init
loop-line-init g c = rw (c.into_iter-line-iterator.ensures.into_iter_gives, c.new-line-items.ensures) (search rules, search rules, refl)

pub loop-line-preserved : goal.loop-line-preserved
loop-line-preserved g c =
    (search rules, search rules, upto_next g.M.Manner.manner _ c.loop-line.self _ c.loop-line.invariant.2 _ _ c.in-Some.ensures.steps c.take.new.self c.in_ok-take.field-0 c.in_ok-take.ensures)

pub returns-in_err-take-clause-refused : goal.returns-in_err-take-clause-refused
returns-in_err-take-clause-refused g c =
    let p = err_from_is_err_and c.from_residual.result c.from_residual.ensures.1 in
    rw (p.1, p.2) (upto-refused g.M.Manner.manner (read_from g.M.Manner.manner c.args.self.now (lines c.args.text.now)) c.loop-line.self _ c.loop-line.invariant.2 _ _ c.in-Some.ensures.steps c.take.new.self c.in_err-take.field-0.0 c.in_err-take.ensures)

pub returns-clause-read : goal.returns-clause-read
returns-clause-read g c = upto-end g.M.Manner.manner _ c.loop-line.self _ c.loop-line.invariant.2 c.in-None.ensures.steps.0
