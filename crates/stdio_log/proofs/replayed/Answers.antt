-- `replayed` meets its contract. Assumes nothing.
use Rattle.std.proofs.lemmas.Result.{on_ok_weaker}
use Rattle.stdio_log.proofs.Streams.{part-few, streaming-end}
use Rattle.stdio_log.proofs.replayed.Goals as goal

pub run_lines-requires-clause-few : goal.run_lines-requires-clause-few
run_lines-requires-clause-few g c = part-few _ _ _ _ c.in_ok-rest.ensures.1

pub returns : goal.returns
returns g c = λ R H.
    let S = c.in_ok-rest.ensures.2 R H in
    on_ok_weaker c.run_lines.result (λ t. streaming-end c.read_all.new.chunk c.in_ok-rest.rest S t) (c.run_lines.ensures.run _ S.ran)
