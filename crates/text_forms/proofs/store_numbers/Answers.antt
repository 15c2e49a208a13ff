-- `store_numbers` meets its contract. Assumes nothing.
use Rattle.std.proofs.Common.{sym, ◌∙◌, arith}
use borrow.Author.Tests.{eqb-true, eqb-false}
use Rattle.text_forms.proofs.Reading.{reading-start, reading-no-mark, reading-mark, reading-no-byte, reading-other-byte, reading-byte, reading-long, reading-end}
use Rattle.text_forms.proofs.store_numbers.Goals as goal
use Rattle.text_forms.proofs.store_numbers.Goals.{then-is_mark+in_ok-numeral, else-is_mark+in_ok-first+else-first-c}
use Rattle.std.proofs.lemmas.List.{take_rest}

pub loop-c-init : goal.loop-c-init
loop-c-init g c = rw c.requires (reading-start g.N.Notated.notation c.args.form.now c.args.bytes.now)

pub returns-in_err-numeral : goal.returns-in_err-numeral
returns-in_err-numeral g c =
    let l = c.loop-c in
    rw c.from_residual.ensures (reading-no-mark g.N.Notated.notation c.args.form.now c.args.bytes.now l.numbers l.rest.now l.c-index l.k l.invariant c.loop-c-test.true (sym c.is_mark.ensures ∙ c.if-is_mark.true) c.in_err-numeral.ensures.reads)

pub slice_bounds-rest-count : goal.slice_bounds-rest-count
slice_bounds-rest-count g c = c.in_ok-numeral.ensures.inside

pub slice_bounds-rest-start : goal.slice_bounds-rest-start
slice_bounds-rest-start g c = let h = c.in_ok-numeral.ensures.inside in omega arith

pub returns-in_err-first : goal.returns-in_err-first
returns-in_err-first g c =
    let l = c.loop-c in
    rw c.from_residual-in_err-first.ensures (reading-no-byte g.N.Notated.notation c.args.form.now c.args.bytes.now l.numbers l.rest.now l.c-index l.k l.invariant c.loop-c-test.true (sym c.is_mark.ensures ∙ c.if-is_mark.false) c.in_err-first.ensures.cases)

pub returns-then-first-c : goal.returns-then-first-c
returns-then-first-c g c =
    let l = c.loop-c in
    let q = c.in_ok-first in
    reading-other-byte g.N.Notated.notation c.args.form.now c.args.bytes.now l.numbers l.rest.now l.c-index l.k l.invariant c.loop-c-test.true (sym c.is_mark.ensures ∙ c.if-is_mark.false) q.first.now q.others.now q.ensures.cases.0 c.if-first-c.true

pub loop-c-preserved : goal.loop-c-preserved
loop-c-preserved g c =
    let l = c.loop-c in
    elim c.if-is_mark.branch [
      | then-is_mark+in_ok-numeral w ↦ rw (w.rest-is, w.k-is, take_rest l.rest.now w.in_ok-numeral.numeral.size) (reading-mark g.N.Notated.notation c.args.form.now c.args.bytes.now l.numbers l.rest.now l.c-index l.k l.invariant c.loop-c-test.true (sym c.is_mark.ensures ∙ w.if-is_mark.true) w.in_ok-numeral.ensures.reads (w.numbers-is ∙ w.store.ensures))
      | else-is_mark+in_ok-first+else-first-c w ↦ rw (w.numbers-is, w.rest-is, w.k-is) (reading-byte g.N.Notated.notation c.args.form.now c.args.bytes.now l.numbers l.rest.now l.c-index l.k l.invariant c.loop-c-test.true (sym c.is_mark.ensures ∙ w.if-is_mark.false) w.in_ok-first.first.now w.in_ok-first.others.now w.in_ok-first.ensures.cases.0 w.if-first-c.false)
    ]

pub returns-then-is_empty : goal.returns-then-is_empty
returns-then-is_empty g c = let l = c.loop-c in reading-end g.N.Notated.notation c.args.form.now c.args.bytes.now l.numbers l.rest.now l.c-index l.k l.invariant c.loop-c-test.false (eqb-true _ 0 (sym c.if-is_empty.ensures))

pub returns-else-is_empty : goal.returns-else-is_empty
returns-else-is_empty g c = let l = c.loop-c in reading-long g.N.Notated.notation c.args.form.now c.args.bytes.now l.numbers l.rest.now l.c-index l.k l.invariant c.loop-c-test.false (eqb-false _ 0 (sym c.if-is_empty.ensures))
