-- `keep_waiting` meets its contract. Assumes nothing.
use Rattle.stream.proofs.Front.{whole-inside, rest-inside, waits_front}
use Rattle.stream.proofs.keep_waiting.Goals as goal

pub overflow_sub-size : goal.overflow_sub-size
overflow_sub-size c = whole-inside c.args.bytes.now c.args.filled c.min-size.ensures c.last_end-whole.ensures

pub copy_within-requires-clause-in_bounds : goal.copy_within-requires-clause-in_bounds
copy_within-requires-clause-in_bounds c = rest-inside c.args.bytes.now c.args.filled c.min-size.ensures c.last_end-whole.ensures c.min-rest.ensures

pub returns : goal.returns
returns c = waits_front c.args.bytes.now c.args.filled c.min-size.ensures c.last_end-whole.ensures c.min-rest.ensures c.copy_within.ensures.after
