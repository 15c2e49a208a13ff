-- `read_added` meets its contract. Assumes nothing.
use Rattle.std.proofs.Common.{ap, ◌∙◌, Ok}
use Rattle.std.proofs.lemmas.Result.{err_from_is_err_and}
use Rattle.log_commands.specs.Groups.{line_adds}
use Rattle.log_commands.proofs.read_added.Goals as goal

pub returns-in_err-line : goal.returns-in_err-line
returns-in_err-line c =
    let p = err_from_is_err_and c.from_residual.result c.from_residual.ensures.1 in rw (p.1, p.2) (ap line_adds c.in_err-line.ensures)

pub returns : goal.returns
returns c = ap Ok c.add_line.ensures ∙ ap line_adds c.in_ok-line.ensures
