-- `write_unset` meets its contract. Assumes nothing.
use Rattle.std.proofs.Common.{sym, ap, ◌++◌, arith}
use lib.ListN.{length-append}
use Rattle.text_forms.specs.decimal.Decimal.{decimal}
use Rattle.text_forms.specs.Spelling.{bytes}
use Rattle.text_forms.proofs.decimal.Parts.{second-room, written_both}
use Rattle.text_lines.specs.Pieces.{line_ended, word_named}
use Rattle.text_lines.proofs.Puts.{line-written-as}
use Rattle.text_lines.proofs.write_unset.Goals as goal

pub write_named-at-requires : goal.write_named-at-requires
unfolding bytes
write_named-at-requires g c =
    let N = g.N.Notated.notation in
    let a = c.args in
    let s = word_named N (bytes "edit=") a.name in
    rw c.from.ensures (omega (arith, length-append s (line_ended (a.word.now ++ decimal a.place)), c.requires))

pub write_ended-requires : goal.write_ended-requires
unfolding bytes
write_ended-requires g c =
    let N = g.N.Notated.notation in
    let a = c.args in
    let s = word_named N (bytes "edit=") a.name in
    rw c.from-2.ensures (second-room s a.out.now (line-written-as s _ (ap (word_named N (bytes "edit=")) (sym c.from.ensures)) a.out.now c.write_named-at.ensures) (line_ended (a.word.now ++ decimal a.place)) c.requires)

pub returns : goal.returns
unfolding bytes
returns g c =
    let N = g.N.Notated.notation in
    let a = c.args in
    let s = word_named N (bytes "edit=") a.name in
    written_both s a.out.now (line-written-as s _ (ap (word_named N (bytes "edit=")) (sym c.from.ensures)) a.out.now c.write_named-at.ensures) (line_ended (a.word.now ++ decimal a.place)) c.requires (rw c.from-2.ensures at c.write_ended.ensures)
