-- `write_worded` meets its contract. Assumes nothing.
use native.Mathlib.Omega.{arith}
use lib.ListN.{length-append}
use Rattle.text_forms.specs.decimal.Decimal.{decimal}
use Rattle.text_forms.proofs.decimal.Parts.{inside, second-room, written_both}
use Rattle.text_forms.proofs.write_worded.Goals as goal

pub write_word-at-requires : goal.write_word-at-requires
write_word-at-requires c = let a = c.args in let s = a.word.now in let t = decimal a.n in omega (arith, length-append s t, c.requires)

pub slice_bounds-write_number-count : goal.slice_bounds-write_number-count
slice_bounds-write_number-count c = let a = c.args in let s = a.word.now in let t = decimal a.n in omega (arith, inside s a.out.now c.write_word-at.ensures (omega (arith, length-append s t, c.requires)))

pub slice_bounds-write_number-start : goal.slice_bounds-write_number-start
slice_bounds-write_number-start c = let a = c.args in let s = a.word.now in let t = decimal a.n in omega (arith, inside s a.out.now c.write_word-at.ensures (omega (arith, length-append s t, c.requires)))

pub write_number-requires : goal.write_number-requires
write_number-requires c = let a = c.args in let s = a.word.now in let t = decimal a.n in second-room s a.out.now c.write_word-at.ensures t c.requires

pub overflow_add-result : goal.overflow_add-result
overflow_add-result c = let a = c.args in let s = a.word.now in let t = decimal a.n in omega (arith, (written_both s a.out.now c.write_word-at.ensures t c.requires c.write_number.ensures).0, c.requires)

pub returns : goal.returns
returns c = let a = c.args in let s = a.word.now in let t = decimal a.n in written_both s a.out.now c.write_word-at.ensures t c.requires c.write_number.ensures
