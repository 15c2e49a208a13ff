-- `write_ended` meets its contract. Assumes nothing.
use Prim.Native.Nat.{ℕ}
use mathlib.Core.List.{List, [], ◌∷◌, ◌++◌}
use native.Mathlib.Omega.{arith}
use lib.ListN.{length-append}
use Rattle.text_forms.specs.decimal.Decimal.{decimal}
use Rattle.text_forms.proofs.decimal.Parts.{inside, second-room, written_both}
use Rattle.text_forms.proofs.write_ended.Goals as goal

pub write_worded-at-requires : goal.write_worded-at-requires
write_worded-at-requires c = let a = c.args in let s = a.word.now ++ decimal a.n in let t : List ℕ = 10 ∷ [] in omega (arith, length-append s t, c.requires)

pub slice_bounds-write_word-count : goal.slice_bounds-write_word-count
slice_bounds-write_word-count c = let a = c.args in let s = a.word.now ++ decimal a.n in let t : List ℕ = 10 ∷ [] in omega (arith, inside s a.out.now c.write_worded-at.ensures (omega (arith, length-append s t, c.requires)))

pub slice_bounds-write_word-start : goal.slice_bounds-write_word-start
slice_bounds-write_word-start c = let a = c.args in let s = a.word.now ++ decimal a.n in let t : List ℕ = 10 ∷ [] in omega (arith, inside s a.out.now c.write_worded-at.ensures (omega (arith, length-append s t, c.requires)))

pub write_word-requires : goal.write_word-requires
write_word-requires c = let a = c.args in let s = a.word.now ++ decimal a.n in let t : List ℕ = 10 ∷ [] in second-room s a.out.now c.write_worded-at.ensures t c.requires

pub overflow_add-result : goal.overflow_add-result
overflow_add-result c = let a = c.args in let s = a.word.now ++ decimal a.n in let t : List ℕ = 10 ∷ [] in omega (arith, (written_both s a.out.now c.write_worded-at.ensures t c.requires c.write_word.ensures).0, c.requires)

pub returns : goal.returns
returns c = let a = c.args in let s = a.word.now ++ decimal a.n in let t : List ℕ = 10 ∷ [] in written_both s a.out.now c.write_worded-at.ensures t c.requires c.write_word.ensures
