-- `form_fit` meets its contract. Assumes nothing.
use Rattle.std.proofs.Common.{sym, ◌∙◌, arith}
use Rattle.text_forms.proofs.Filling.{first-left, others-left, fitting-mark, fitting-no-mark, fitting-byte, fitting-no-byte, fitting-end}
use Rattle.text_forms.proofs.form_fit.Goals as goal
use Rattle.text_forms.proofs.form_fit.Goals.{then-is_mark+in_ok-left, else-is_mark+in_ok-left-2}

pub returns-in_err-left : goal.returns-in_err-left
returns-in_err-left c =
    let s = c.args in
    let l = c.loop-c in
    rw c.from_residual.ensures (fitting-no-mark s.form.now s.numbers.now s.room l.left l.c-index l.rest.rest.now l.invariant c.loop-c-test.true (sym c.is_mark.ensures ∙ c.if-is_mark.true) (c.unwrap_or-n.ensures ∙ rw c.copied.ensures (first-left _ _ c.next.result c.next.ensures.steps)) c.mark_length.ensures.0 (omega (arith, c.in_err-left.ensures)))

pub returns-in_err-left-2 : goal.returns-in_err-left-2
returns-in_err-left-2 c =
    let s = c.args in
    let l = c.loop-c in
    rw c.from_residual-in_err-left-2.ensures (fitting-no-byte s.form.now s.numbers.now s.room l.left l.c-index l.rest.rest.now l.invariant c.loop-c-test.true (sym c.is_mark.ensures ∙ c.if-is_mark.false) (omega (arith, c.in_err-left-2.ensures)))

pub loop-c-preserved : goal.loop-c-preserved
loop-c-preserved c =
    let s = c.args in
    let l = c.loop-c in
    elim c.if-is_mark.branch [
      | then-is_mark+in_ok-left w ↦ fitting-mark s.form.now s.numbers.now s.room l.left l.c-index l.rest.rest.now l.invariant c.loop-c-test.true (sym c.is_mark.ensures ∙ w.if-is_mark.true) (w.unwrap_or-n.ensures ∙ rw w.copied.ensures (first-left _ _ w.next.result w.next.ensures.steps)) w.mark_length.ensures.0 (omega (arith, w.in_ok-left.ensures)) (w.left-is ∙ w.in_ok-left.ensures.1) (rw w.rest-is (others-left _ _ w.next.result w.next.ensures.steps))
      | else-is_mark+in_ok-left-2 w ↦ rw w.rest-is (fitting-byte s.form.now s.numbers.now s.room l.left l.c-index l.rest.rest.now l.invariant c.loop-c-test.true (sym c.is_mark.ensures ∙ w.if-is_mark.false) (omega (arith, w.in_ok-left-2.ensures)) (w.left-is ∙ w.in_ok-left-2.ensures.1))
    ]

pub returns : goal.returns
returns c = let s = c.args in let l = c.loop-c in fitting-end s.form.now s.numbers.now s.room l.left l.c-index l.rest.rest.now l.invariant c.loop-c-test.false
