-- `chain_search` meets its contract. Assumes nothing.
use mathlib.Core.Path.{refl}
use Rattle.std.proofs.Common.{arith, rules}
use Rattle.reasons_rows.specs.Rings.{RingLengthAt}
use Rattle.reasons_rows.proofs.Making.{made-holds}
use Rattle.reasons_rows.proofs.Aiming.{chain-searches}
use Rattle.reasons_rows.proofs.chain_search.Goals as goal

pub returns : goal.returns
returns c =
    λ R t g q m. chain-searches R t g.notafters _ refl (c.all_marks.ensures R q)
    (λ i h. made-holds (RingLengthAt c.args.graph.now.rows c.args.graph.now.count c.args.marks.now) c.from_fn.ensures.items
    (λ j y p k. (search rules, k.met.1)) i 0 (omega (arith, h, g.notafters.few)) R t g q h m)
