-- `refusal::lent_fault` meets its contract. Assumes nothing.
use mathlib.Core.Path.{◌∙◌}
use Rattle.record_tables.specs.Table.{empty_tables}
use Rattle.record_tables.proofs.Tables.{empty-stored}
use Rattle.record_tables.proofs.Records.{empty-checked}
use Rattle.record_union.proofs.refusal.lent_fault.Goals as goal

pub returns : goal.returns
returns c = c.fault.ensures empty_tables (c.empty.ensures ∙ empty-stored) empty-checked
