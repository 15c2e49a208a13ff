-- `write_named_end` meets its contract. Assumes nothing.
use Prim.Native.Nat.{ℕ}
use mathlib.Core.List.{List, [], ◌∷◌, ◌++◌}
use native.Mathlib.Omega.{arith}
use lib.ListN.{length-append}
use Rattle.text_forms.proofs.decimal.Parts.{inside, second-room, written_both}
use Rattle.text_forms.proofs.write_named_end.Goals as goal

pub write_named-at-requires : goal.write_named-at-requires
write_named-at-requires g c = let a = c.args in let s = a.word.now ++ g.N.Notated.notation.names.write a.n in let t : List ℕ = 10 ∷ [] in omega (arith, length-append s t, c.requires)

pub slice_bounds-write_word-count : goal.slice_bounds-write_word-count
slice_bounds-write_word-count g c = let a = c.args in let s = a.word.now ++ g.N.Notated.notation.names.write a.n in let t : List ℕ = 10 ∷ [] in omega (arith, inside s a.out.now c.write_named-at.ensures (omega (arith, length-append s t, c.requires)))

pub slice_bounds-write_word-start : goal.slice_bounds-write_word-start
slice_bounds-write_word-start g c = let a = c.args in let s = a.word.now ++ g.N.Notated.notation.names.write a.n in let t : List ℕ = 10 ∷ [] in omega (arith, inside s a.out.now c.write_named-at.ensures (omega (arith, length-append s t, c.requires)))

pub write_word-requires : goal.write_word-requires
write_word-requires g c = let a = c.args in let s = a.word.now ++ g.N.Notated.notation.names.write a.n in let t : List ℕ = 10 ∷ [] in second-room s a.out.now c.write_named-at.ensures t c.requires

pub overflow_add-result : goal.overflow_add-result
overflow_add-result g c = let a = c.args in let s = a.word.now ++ g.N.Notated.notation.names.write a.n in let t : List ℕ = 10 ∷ [] in omega (arith, (written_both s a.out.now c.write_named-at.ensures t c.requires c.write_word.ensures).0, c.requires)

pub returns : goal.returns
returns g c = let a = c.args in let s = a.word.now ++ g.N.Notated.notation.names.write a.n in let t : List ℕ = 10 ∷ [] in written_both s a.out.now c.write_named-at.ensures t c.requires c.write_word.ensures
