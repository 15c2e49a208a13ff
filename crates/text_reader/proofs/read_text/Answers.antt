-- `read_text` meets its contract. Assumes nothing.
use Rattle.text_reader.proofs.Feeding.{rows-counted}
use Rattle.text_reader.proofs.read_text.Goals as goal

pub returns-clause-counted : goal.returns-clause-counted
returns-clause-counted c = rows-counted c.args.text.now c.read_in.result c.read_in.ensures
