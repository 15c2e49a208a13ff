-- `decimal::write_short` meets its contract. Assumes nothing.
use Rattle.std.proofs.Common.{arith, ◌+◌, ◌/◌}
use lib.ListN.{length-set}
use Rattle.text_forms.proofs.decimal.Laws.{one-digit, one-room, two-digits, two-room}
use Rattle.text_forms.proofs.decimal.write_short.Goals as goal

pub bounds-out-0 : goal.bounds-out-0
bounds-out-0 c = omega (arith, one-room c.args.n c.if-n-lt10.true, c.requires)

pub returns-then-n-lt10 : goal.returns-then-n-lt10
returns-then-n-lt10 c = one-digit c.args.n c.args.out.now c.requires c.if-n-lt10.true

pub bounds-out-0-then-n-lt100 : goal.bounds-out-0-then-n-lt100
bounds-out-0-then-n-lt100 c = omega (arith, two-room c.args.n c.if-n-lt10.false c.if-n-lt100.true, c.requires)

pub bounds-out-1 : goal.bounds-out-1
bounds-out-1 c = let n = c.args.n in omega (arith, two-room n c.if-n-lt10.false c.if-n-lt100.true, c.requires, length-set c.args.out.now 0 (48 + n / 10))

pub returns-then-n-lt100 : goal.returns-then-n-lt100
returns-then-n-lt100 c = two-digits c.args.n c.args.out.now c.requires c.if-n-lt10.false c.if-n-lt100.true
