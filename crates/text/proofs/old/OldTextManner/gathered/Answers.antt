-- `OldText::gathered` meets its contract. Assumes nothing.
use Rattle.std.proofs.Common.{[]}
use Rattle.text.specs.Text.{no_ground, old_lines}
use Rattle.text.proofs.OwnOrder.{own-few}
use Rattle.text.proofs.RoundTrip.{old-lawful}
use Rattle.text.proofs.old.OldTextManner.gathered.Goals as goal

pub returns : goal.returns
returns c = λ h.
    let few = own-few no_ground old_lines [] c.args.rows.edits.now c.args.rows.constraints.now h in
    record { is = c.decode.ensures few.0 few.1; checked = old-lawful.checked c.args.rows.edits.now c.args.rows.constraints.now h }
