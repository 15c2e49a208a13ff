-- `text_unity` meets its contract. Assumes nothing.
use Rattle.std.proofs.Common.{sym, ◌∙◌, arith, rules}
use Rattle.std.proofs.lemmas.Result.{err_from_is_err_and}
use Rattle.unity_text.proofs.Lines.{summed-start, upto_left, upto-few, summed-end, upto-unformed, upto-faulty, summed-next}
use Rattle.unity_text.proofs.Reading.{answer-none, answer-some}
use Rattle.unity_text.proofs.text_unity.Goals as goal

pub loop-line-init : goal.loop-line-init
loop-line-init c =
    rw c.into_iter-line-iterator.ensures.into_iter_gives (search rules, search rules, rw c.new-line-items.ensures (summed-start c.args.text.now c.nothing-summed.ensures))

pub overflow_add-unformed : goal.overflow_add-unformed
overflow_add-unformed c = omega (arith, upto-few c.args.text.now c.loop-line.invariant.2)

pub returns-in_err-answer : goal.returns-in_err-answer
returns-in_err-answer c =
    let p = err_from_is_err_and c.from_residual.result c.from_residual.ensures.1 in
    let n = answer-none _ c.read_answer.result (sym c.ok_or.ensures.value ∙ c.in_err-answer.was) in
    rw (p.1, p.2, ← n.1) (upto-unformed c.args.text.now c.loop-line.invariant.2 _ _ c.in-Some.ensures.steps (n.0 ∙ c.read_answer.ensures))

pub with_answer-requires : goal.with_answer-requires
with_answer-requires c = upto_left c.args.text.now c.loop-line.invariant.2

pub returns-in_err-summed : goal.returns-in_err-summed
returns-in_err-summed c =
    let p = err_from_is_err_and c.from_residual-in_err-summed.result c.from_residual-in_err-summed.ensures.1 in
    let q = answer-some _ c.read_answer.result (sym c.ok_or.ensures.value ∙ c.in_ok-answer.was) ∙ c.read_answer.ensures in
    rw (p.1, p.2) (upto-faulty c.args.text.now c.loop-line.invariant.2 _ _ c.in-Some.ensures.steps q c.in_err-summed.field-0.0 c.in_err-summed.ensures)

pub loop-line-preserved : goal.loop-line-preserved
loop-line-preserved c =
    let q = answer-some _ c.read_answer.result (sym c.ok_or.ensures.value ∙ c.in_ok-answer.was) ∙ c.read_answer.ensures in
    (search rules, search rules, summed-next c.args.text.now c.loop-line.invariant.2 _ _ c.in-Some.ensures.steps q c.in_ok-summed.summed c.in_ok-summed.ensures)

pub finished-requires : goal.finished-requires
finished-requires c = upto_left c.args.text.now c.loop-line.invariant.2

pub returns : goal.returns
returns c = summed-end c.args.text.now c.loop-line.invariant.2 c.in-None.ensures.steps.0 c.finished.result c.finished.ensures
