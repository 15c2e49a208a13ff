-- `write_report` meets its contract. Assumes nothing.
use Rattle.text_forms.proofs.decimal.Parts.{second-room, written_both}
use mathlib.Core.List.{map}
use Rattle.text_forms.specs.Spelling.{bytes}
use Rattle.text_forms.specs.Form.{fill}
use Rattle.text.specs.Text.{joined_lines}
use Rattle.text_report.specs.Report.{counts_form}
use Rattle.text_report.specs.Rows.{line_text}
use Rattle.text_report.proofs.Room.{first_fits, first-inside, both-inside}
use native.Mathlib.Omega.{arith}
use Rattle.text_report.proofs.write_report.Goals as goal

pub write_form-at-requires : goal.write_form-at-requires
unfolding counts_form bytes
write_form-at-requires c = let s = fill counts_form c.args.counts.now in let t = joined_lines (map line_text c.args.lines.now) in first_fits s t c.args.out.now c.requires

pub slice_bounds-write_lines-count : goal.slice_bounds-write_lines-count
unfolding counts_form bytes
slice_bounds-write_lines-count c = let s = fill counts_form c.args.counts.now in let t = joined_lines (map line_text c.args.lines.now) in omega (arith, first-inside s t c.args.out.now c.requires c.write_form-at.ensures)

pub slice_bounds-write_lines-start : goal.slice_bounds-write_lines-start
unfolding counts_form bytes
slice_bounds-write_lines-start c = let s = fill counts_form c.args.counts.now in let t = joined_lines (map line_text c.args.lines.now) in omega (arith, first-inside s t c.args.out.now c.requires c.write_form-at.ensures)

pub write_lines-requires : goal.write_lines-requires
unfolding counts_form bytes
write_lines-requires c = let s = fill counts_form c.args.counts.now in let t = joined_lines (map line_text c.args.lines.now) in second-room s c.args.out.now c.write_form-at.ensures t c.requires

pub overflow_add-result : goal.overflow_add-result
unfolding counts_form bytes
overflow_add-result c = let s = fill counts_form c.args.counts.now in let t = joined_lines (map line_text c.args.lines.now) in omega (arith, both-inside s t c.args.out.now c.requires c.write_form-at.ensures c.write_lines.ensures)

pub returns : goal.returns
unfolding counts_form bytes
returns c = let s = fill counts_form c.args.counts.now in let t = joined_lines (map line_text c.args.lines.now) in written_both s c.args.out.now c.write_form-at.ensures t c.requires c.write_lines.ensures
