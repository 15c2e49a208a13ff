-- `write_rows` meets its contract. Assumes nothing.
use Rattle.std.proofs.Common.{◌≤◌, ◌++◌, length, length-append, arith}
use Rattle.text_forms.proofs.decimal.Parts.{second-room, written_both}
use Rattle.text_writer.proofs.Texts.{edits-text, constraints-text, text-is}
use Rattle.text_writer.proofs.write_rows.Goals as goal

pub write_lines-at-requires : goal.write_lines-at-requires
write_lines-at-requires g c =
    let M = g.M.Manner.manner in
    let r = c.args.content.now in
    let h : length (edits-text M r ++ constraints-text M r) ≤ length c.args.out.now = rw (text-is M r) at c.requires in
    rw c.edit_slice.ensures (omega (arith, length-append (edits-text M r) (constraints-text M r)))

pub write_lines-requires : goal.write_lines-requires
write_lines-requires g c =
    let M = g.M.Manner.manner in
    let r = c.args.content.now in
    let h : length (edits-text M r ++ constraints-text M r) ≤ length c.args.out.now = rw (text-is M r) at c.requires in
    rw c.constraint_slice.ensures (second-room (edits-text M r) c.args.out.now (rw c.edit_slice.ensures at c.write_lines-at.ensures) (constraints-text M r) h)

pub returns : goal.returns
returns g c =
    let M = g.M.Manner.manner in
    let r = c.args.content.now in
    let h : length (edits-text M r ++ constraints-text M r) ≤ length c.args.out.now = rw (text-is M r) at c.requires in
    rw (text-is M r) (written_both (edits-text M r) c.args.out.now (rw c.edit_slice.ensures at c.write_lines-at.ensures) (constraints-text M r) h (rw c.constraint_slice.ensures at c.write_lines.ensures))
