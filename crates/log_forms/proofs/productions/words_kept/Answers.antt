-- `productions::words_kept` meets its contract. Assumes nothing.
use Rattle.std.proofs.Common.{rules, arith}
use Rattle.std.proofs.lemmas.Result.{err_from_is_err_and}
use Rattle.log_forms.proofs.productions.Reading.{kept-start, kept_next, kept-large, kept-end}
use Rattle.log_forms.proofs.productions.words_kept.Goals as goal

pub loop-i-init : goal.loop-i-init
loop-i-init c = kept-start c.args.numbers (search rules)

pub loop-i-preserved : goal.loop-i-preserved
loop-i-preserved c = kept_next c.args.numbers c.loop-i.words c.loop-i.i c.loop-i.invariant (omega (arith, c.loop-i-test.true, c.loop-i.invariant.numbers-size)) c.in_ok-word.ensures

pub returns-in_err-word : goal.returns-in_err-word
returns-in_err-word c =
    let p = err_from_is_err_and c.from_residual.result c.from_residual.ensures.1 in
    rw (p.1, p.2) (kept-large c.args.numbers c.loop-i.words c.loop-i.i c.loop-i.invariant (omega (arith, c.loop-i-test.true, c.loop-i.invariant.numbers-size)) c.in_err-word.ensures)

pub returns : goal.returns
returns c = kept-end c.args.numbers c.loop-i.words c.loop-i.i c.loop-i.invariant (omega (arith, c.loop-i-test.false, c.loop-i.invariant.numbers-size))
