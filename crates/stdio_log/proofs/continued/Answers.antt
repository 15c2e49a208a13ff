-- `continued` meets its contract. Assumes nothing.
use Rattle.std.proofs.lemmas.Result.{on_ok_weaker}
use Rattle.stdio_log.proofs.Streams.{continues}
use Rattle.stdio_log.proofs.continued.Goals as goal

pub returns : goal.returns
returns g c =
    let K = c.in_ok-replayed_first.ensures in
    on_ok_weaker c.replayed.result (λ N. continues K N) (c.replayed.ensures _ K.ran)
