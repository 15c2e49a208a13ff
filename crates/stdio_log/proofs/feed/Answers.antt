-- `feed` meets its contract. Assumes nothing.
use mathlib.Core.Path.{sym}
use native.Mathlib.Omega.{arith}
use lib.Seq.{length-take-le}
use Rattle.stdio_log.proofs.Streams.{whole-filled, whole-few, feeds}
use Rattle.stdio_log.proofs.feed.Goals as goal

pub slice_bounds-run_lines-end : goal.slice_bounds-run_lines-end
slice_bounds-run_lines-end g c = omega (arith, whole-filled c.args.chunk.now c.args.filled c.requires.inside c.last_end-whole.ensures, c.requires.inside)

pub slice_bounds-run_lines-end-2 : goal.slice_bounds-run_lines-end-2
slice_bounds-run_lines-end-2 g c = sym (length-take-le c.last_end-whole.result c.args.chunk.now (omega (arith, whole-filled c.args.chunk.now c.args.filled c.requires.inside c.last_end-whole.ensures, c.requires.inside)))

pub run_lines-requires-clause-few : goal.run_lines-requires-clause-few
run_lines-requires-clause-few g c = whole-few c.args.chunk.now c.args.filled c.requires.inside c.last_end-whole.ensures _ _ c.requires.few

pub returns : goal.returns
returns g c =
    let w = feeds c.args.chunk.now c.args.filled c.requires.inside c.last_end-whole.ensures c.args.memory.now c.run_lines.new.memory c.keep_waiting.result c.keep_waiting.new.bytes _ c.keep_waiting.ensures
    c.run_lines.ensures.few c.in_ok-run_lines.ensures.run in
    (w.few, w.waits, w.counted, w.runs)
