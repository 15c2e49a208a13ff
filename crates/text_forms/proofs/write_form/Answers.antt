-- `write_form` meets its contract. Assumes nothing.
use Rattle.std.proofs.Common.{sym, ◌∙◌}
use Rattle.text_forms.proofs.Filling.{first-left, others-left, mark-fits, writing-mark, byte-room, writing-byte, writing-end}
use Rattle.text_forms.proofs.write_form.Goals as goal
use Rattle.text_forms.proofs.write_form.Goals.{then-is_mark, else-is_mark}

pub write_mark-at-requires : goal.write_mark-at-requires
write_mark-at-requires c = let s = c.args in let l = c.loop-c in mark-fits s.form.now s.numbers.now s.out.now l.out l.at l.c-index l.rest.rest.now l.invariant c.loop-c-test.true (sym c.is_mark.ensures ∙ c.if-is_mark.true) (c.unwrap_or-n.ensures ∙ rw c.copied.ensures (first-left _ _ c.next.result c.next.ensures.steps))

pub bounds-out-at : goal.bounds-out-at
bounds-out-at c = let s = c.args in let l = c.loop-c in byte-room s.form.now s.numbers.now s.out.now l.out l.at l.c-index l.rest.rest.now l.invariant c.loop-c-test.true (sym c.is_mark.ensures ∙ c.if-is_mark.false)

pub loop-c-preserved : goal.loop-c-preserved
loop-c-preserved c =
    let s = c.args in
    let l = c.loop-c in
    elim c.if-is_mark.branch [
      | then-is_mark w ↦ rw (w.out-is, w.at-is, w.rest-is) (writing-mark s.form.now s.numbers.now s.out.now l.out l.at l.c-index l.rest.rest.now l.invariant c.loop-c-test.true (sym c.is_mark.ensures ∙ w.if-is_mark.true) (w.unwrap_or-n.ensures ∙ rw w.copied.ensures (first-left _ _ w.next.result w.next.ensures.steps)) w.write_mark-at.ensures (others-left _ _ w.next.result w.next.ensures.steps))
      | else-is_mark w ↦ rw (w.out-is, w.at-is, w.rest-is) (writing-byte s.form.now s.numbers.now s.out.now l.out l.at l.c-index l.rest.rest.now l.invariant c.loop-c-test.true (sym c.is_mark.ensures ∙ w.if-is_mark.false))
    ]

pub returns : goal.returns
returns c = let s = c.args in let l = c.loop-c in writing-end s.form.now s.numbers.now s.out.now l.out l.at l.c-index l.rest.rest.now l.invariant c.loop-c-test.false
