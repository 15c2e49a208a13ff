-- `notation::read_word` meets its contract. Assumes nothing.
use Rattle.std.proofs.Common.{sym, ◌∙◌}
use Rattle.text_forms.proofs.Marks.{word-starts}
use Rattle.text_forms.proofs.Words.{looked-start, looked-next, looked-found, looked-none}
use Rattle.text_forms.proofs.notation.read_word.Goals as goal

pub loop-place-init : goal.loop-place-init
loop-place-init c = looked-start c.args.words.now c.args.bytes.now

pub returns-then-starts_with : goal.returns-then-starts_with
returns-then-starts_with c =
    let l = c.loop-place in
    looked-found c.args.words.now c.args.bytes.now l.place c.loop-place-test.true l.invariant _ c.requires (sym (word-starts _ c.args.bytes.now) ∙ sym c.starts_with.ensures.value ∙ c.if-starts_with.true)

pub loop-place-preserved : goal.loop-place-preserved
loop-place-preserved c =
    let l = c.loop-place in
    looked-next c.args.words.now c.args.bytes.now l.place c.loop-place-test.true l.invariant _ (sym (word-starts _ c.args.bytes.now) ∙ sym c.starts_with.ensures.value ∙ c.if-starts_with.false)

pub returns : goal.returns
returns c = looked-none c.args.words.now c.args.bytes.now c.loop-place-test.false c.loop-place.invariant
