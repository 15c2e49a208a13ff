-- `read_text` meets its contract. Assumes nothing.
use borrow.Author.Rules.{rules}
use Rattle.std.proofs.lemmas.Result.{MatchResult-weaker}
use Rattle.stdio.proofs.text_input.Buffers.{first-decide}
use Rattle.stdio.proofs.text_input.read_text.Goals as goal

pub returns : goal.returns
returns g c =
    MatchResult-weaker c.read_input.result c.read_input.ensures (λ size e. (e, first-decide c.read_input.new.buffer size (search rules) e)) (λ failed e. tt)
