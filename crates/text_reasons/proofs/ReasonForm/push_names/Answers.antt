-- `push_names` meets its contract. Assumes nothing.
use mathlib.Core.Path.{ap, ◌∙◌}
use native.Mathlib.Omega.{arith}
use lib.ListN.{length, length-append}
use Rattle.text_reasons.proofs.NameMarks.{named-none, named-room, named-next}
use Rattle.text_reasons.proofs.ReasonForm.push_names.Goals as goal

pub loop-i-init : goal.loop-i-init
loop-i-init c = named-none _ _ _

pub push_word-requires-in-loop-i : goal.push_word-requires-in-loop-i
push_word-requires-in-loop-i c =
    let size = ap length c.push_word.ensures.form ∙ length-append c.args.self.now.form.items c.args.word.now in
    named-room _ _ _ c.loop-i.invariant c.loop-i-test.true (omega (arith, size, c.requires.form)) c.name_mark.ensures

pub loop-i-preserved : goal.loop-i-preserved
loop-i-preserved c =
    let pushed = c.push_word-in-loop-i.ensures in
    named-next _ _ _ c.loop-i.invariant c.loop-i-test.true c.from.ensures c.name_mark.ensures pushed.form (rw pushed.numbers at c.push.ensures.items)
