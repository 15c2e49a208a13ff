-- `row::decoded_edit` meets its contract. Assumes nothing.
use mathlib.Core.Path.{sym, ◌∙◌}
use native.Mathlib.Omega.{arith}
use borrow.Author.Rules.{rules}
use Rattle.record_rows.specs.row.Row.{name_cell}
use Rattle.record_rows.proofs.row.Cells.{name-small, decoded-out, decoded-none, decoded-some}
use Rattle.record_rows.proofs.row.decoded_edit.Goals as goal

pub returns-then-not-is_name : goal.returns-then-not-is_name
returns-then-not-is_name c = decoded-out c.args.row c.is_name.ensures c.then-not-is_name.either

pub returns-in_err-body : goal.returns-in_err-body
returns-in_err-body c = c.from_residual.ensures ∙ decoded-none c.args.row c.is_name.ensures c.body_of.ensures c.in_err-body.was

pub overflow_cast-result : goal.overflow_cast-result
overflow_cast-result c = omega (arith, name-small (name_cell c.args.row) (sym c.is_name.ensures ∙ c.if-not-is_name.false))

pub returns : goal.returns
returns c = decoded-some c.args.row c.is_name.ensures c.body_of.ensures (search rules) c.if-not-is_name.false (search rules) c.in_ok-body.was
