-- `read_all` meets its contract. Assumes nothing.
use native.Mathlib.Omega.{arith}
use Rattle.stdio_log.proofs.Streams.{streaming-start, streaming-next}
use Rattle.stdio_log.proofs.read_all.Goals as goal

pub loop-chunk-init : goal.loop-chunk-init
loop-chunk-init g c = (omega arith, omega arith, omega (arith, c.args.memory.now.few), λ R H. streaming-start H)

pub feed-requires-clause-inside : goal.feed-requires-clause-inside
feed-requires-clause-inside g c = omega (arith, c.in_ok-size.ensures.0, c.read_piece.auto.chunk)

pub feed-requires-clause-few : goal.feed-requires-clause-few
feed-requires-clause-few g c = omega (arith, c.loop-chunk.invariant.2, c.in_ok-size.ensures.0, c.loop-chunk-test.true)

pub loop-chunk-preserved : goal.loop-chunk-preserved
loop-chunk-preserved g c =
    let v = c.loop-chunk.invariant in
    let p = c.in_ok-size.ensures in
    let f = c.in_ok-rest.ensures in (
      f.0,
      omega (arith, v.1),
      omega (arith, f.2, v.2, p.0, c.loop-chunk-test.true),
      λ R H. let S = v.3 R H in streaming-next c.loop-chunk.chunk c.loop-chunk.rest S c.read_piece.new.chunk c.in_ok-size.size p.1 _ _ f.1 f.3,
    )
