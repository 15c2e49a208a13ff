-- `write_set` meets its contract. Assumes nothing.
use Rattle.std.proofs.Common.{sym, ap, [], get_or, arith}
use lib.ListN.{length-append}
use Rattle.text_forms.specs.Spelling.{bytes}
use Rattle.text_forms.proofs.decimal.Parts.{second-room, written_both}
use Rattle.text_lines.specs.Pieces.{word_named, setting_part}
use Rattle.text_lines.proofs.Puts.{line-written-as}
use Rattle.text_lines.proofs.write_set.Goals as goal

pub write_named-at-requires : goal.write_named-at-requires
unfolding bytes
write_named-at-requires g c =
    let N = g.N.Notated.notation in
    let row = c.args.row in
    let s = word_named N (bytes "edit=") (get_or row 0 0) in
    let t = setting_part (get_or row 2 0) (get_or N.fields (get_or row 3 0) []) (get_or row 4 0) in
    rw c.from.ensures (omega (arith, length-append s t, c.requires))

pub write_setting-requires : goal.write_setting-requires
unfolding bytes
write_setting-requires g c =
    let N = g.N.Notated.notation in
    let row = c.args.row in
    let s = word_named N (bytes "edit=") (get_or row 0 0) in
    let t = setting_part (get_or row 2 0) (get_or N.fields (get_or row 3 0) []) (get_or row 4 0) in
    rw (c.from-2.ensures, c.from-3.ensures, c.field_word-word.ensures) (second-room s c.args.out.now (line-written-as s _ (ap (word_named N (bytes "edit=")) (sym c.from.ensures)) c.args.out.now c.write_named-at.ensures) t c.requires)

pub returns : goal.returns
unfolding bytes
returns g c =
    let N = g.N.Notated.notation in
    let row = c.args.row in
    let s = word_named N (bytes "edit=") (get_or row 0 0) in
    let t = setting_part (get_or row 2 0) (get_or N.fields (get_or row 3 0) []) (get_or row 4 0) in
    written_both s c.args.out.now (line-written-as s _ (ap (word_named N (bytes "edit=")) (sym c.from.ensures)) c.args.out.now c.write_named-at.ensures) t c.requires (rw (c.from-2.ensures, c.from-3.ensures, c.field_word-word.ensures) at c.write_setting.ensures)
