-- `write_named` meets its contract. Assumes nothing.
use native.Mathlib.Omega.{arith}
use lib.ListN.{length-append}
use Rattle.text_forms.proofs.decimal.Parts.{inside, second-room, written_both}
use Rattle.text_forms.proofs.write_named.Goals as goal

pub write_word-at-requires : goal.write_word-at-requires
write_word-at-requires g c = let a = c.args in let s = a.word.now in let t = g.N.Notated.notation.names.write a.n in omega (arith, length-append s t, c.requires)

pub slice_bounds-write_name-count : goal.slice_bounds-write_name-count
slice_bounds-write_name-count g c = let a = c.args in let s = a.word.now in let t = g.N.Notated.notation.names.write a.n in omega (arith, inside s a.out.now c.write_word-at.ensures (omega (arith, length-append s t, c.requires)))

pub slice_bounds-write_name-start : goal.slice_bounds-write_name-start
slice_bounds-write_name-start g c = let a = c.args in let s = a.word.now in let t = g.N.Notated.notation.names.write a.n in omega (arith, inside s a.out.now c.write_word-at.ensures (omega (arith, length-append s t, c.requires)))

pub write_name-requires : goal.write_name-requires
write_name-requires g c = let a = c.args in let s = a.word.now in let t = g.N.Notated.notation.names.write a.n in second-room s a.out.now c.write_word-at.ensures t c.requires

pub overflow_add-result : goal.overflow_add-result
overflow_add-result g c = let a = c.args in let s = a.word.now in let t = g.N.Notated.notation.names.write a.n in omega (arith, (written_both s a.out.now c.write_word-at.ensures t c.requires c.write_name.ensures).0, c.requires)

pub returns : goal.returns
returns g c = let a = c.args in let s = a.word.now in let t = g.N.Notated.notation.names.write a.n in written_both s a.out.now c.write_word-at.ensures t c.requires c.write_name.ensures
