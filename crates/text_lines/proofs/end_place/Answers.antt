-- `end_place` meets its contract. Assumes nothing.
use Rattle.std.specs.Prelude.{◌==◌}
use Rattle.text_lines.proofs.Ends.{first-position}
use Rattle.text_lines.proofs.end_place.Goals as goal

pub returns : goal.returns
returns c = first-position (λ x. x == 10) c.args.bytes.now c.memchr.result c.memchr.ensures
