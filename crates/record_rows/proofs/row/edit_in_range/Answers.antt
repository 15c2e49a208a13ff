-- `row::edit_in_range` meets its contract. Assumes nothing.
use mathlib.Core.Path.{ap, ◌∙◌}
use Rattle.std.specs.Prelude.{is_some}
use Rattle.record_rows.specs.row.Row.{edit_in_range}
use borrow.Author.Rules.{rules}
use Rattle.record_rows.proofs.row.edit_in_range.Goals as goal

pub returns : goal.returns
unfolding edit_in_range
returns c = (c.is_some.ensures ∙ ap is_some c.decoded_edit.ensures, search rules)
