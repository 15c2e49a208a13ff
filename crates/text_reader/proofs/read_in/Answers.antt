-- `read_in` meets its contract. Assumes nothing.
use Rattle.std.proofs.lemmas.Result.{err_from_is_err_and}
use Rattle.text_reader.proofs.Feeding.{whole-refused, whole-finished}
use Rattle.text_reader.proofs.read_in.Goals as goal

pub returns-in_err-take_lines : goal.returns-in_err-take_lines
returns-in_err-take_lines g c =
    let p = err_from_is_err_and c.from_residual.result c.from_residual.ensures.1 in
    rw (p.1, p.2) (whole-refused g.M.Manner.manner c.args.text.now c.in_err-take_lines.field-0.0 (rw c.begin-rows.ensures at c.in_err-take_lines.ensures.refused))

pub returns : goal.returns
returns g c = whole-finished g.M.Manner.manner c.args.text.now _ (rw c.begin-rows.ensures at c.in_ok-take_lines.ensures.read) c.finish.result c.finish.ensures
