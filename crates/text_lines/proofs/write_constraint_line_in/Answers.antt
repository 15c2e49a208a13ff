-- `write_constraint_line_in` meets its contract. Assumes nothing.
use Rattle.std.proofs.Common.{sym, ap, ◌++◌, get_or, arith}
use lib.ListN.{length-append}
use Rattle.text_forms.specs.Spelling.{bytes}
use Rattle.text_forms.proofs.decimal.Parts.{second-room, written_both}
use Rattle.text_lines.specs.Line.{constraint_line_in}
use Rattle.text_lines.specs.Pieces.{rule_part, line_ended, word_named}
use Rattle.text_lines.proofs.Puts.{line-fits-as, line-written-as, rule-line}
use Rattle.text_lines.proofs.write_constraint_line_in.Goals as goal

pub write_named-at-requires : goal.write_named-at-requires
unfolding bytes
write_named-at-requires g c =
    let N = g.N.Notated.notation in
    let row = c.args.row in
    let s = word_named N (bytes "left=") (get_or row 0 0) in
    let t = line_ended (word_named N (rule_part (get_or row 1 0)) (get_or row 2 0)) in
    rw c.from.ensures (omega (arith, length-append s t, line-fits-as (constraint_line_in N row) (s ++ t) (rule-line N row) c.args.out.now c.requires))

pub write_named_end-requires : goal.write_named_end-requires
unfolding bytes
write_named_end-requires g c =
    let N = g.N.Notated.notation in
    let row = c.args.row in
    let s = word_named N (bytes "left=") (get_or row 0 0) in
    let t = line_ended (word_named N (rule_part (get_or row 1 0)) (get_or row 2 0)) in
    rw (c.from-2.ensures, c.rule_part.ensures)
    (second-room s c.args.out.now (line-written-as s _ (ap (word_named N (bytes "left=")) (sym c.from.ensures)) c.args.out.now c.write_named-at.ensures) t
    (line-fits-as (constraint_line_in N row) (s ++ t) (rule-line N row) c.args.out.now c.requires))

pub returns : goal.returns
unfolding bytes
returns g c =
    let N = g.N.Notated.notation in
    let row = c.args.row in
    let s = word_named N (bytes "left=") (get_or row 0 0) in
    let t = line_ended (word_named N (rule_part (get_or row 1 0)) (get_or row 2 0)) in
    line-written-as (constraint_line_in N row) (s ++ t) (rule-line N row) c.args.out.now
    (written_both s c.args.out.now (line-written-as s _ (ap (word_named N (bytes "left=")) (sym c.from.ensures)) c.args.out.now c.write_named-at.ensures) t
    (line-fits-as (constraint_line_in N row) (s ++ t) (rule-line N row) c.args.out.now c.requires) (rw (c.from-2.ensures, c.rule_part.ensures) at c.write_named_end.ensures))
