-- `ring_search` meets its contract. Assumes nothing.
use mathlib.Core.Path.{refl}
use Rattle.std.proofs.Common.{arith, rules}
use Rattle.reasons_rows.specs.Rings.{RingGoal}
use Rattle.reasons_rows.proofs.Making.{made-holds}
use Rattle.reasons_rows.proofs.Aiming.{ring-searches}
use Rattle.reasons_rows.proofs.ring_search.Goals as goal

pub returns : goal.returns
returns c =
    λ R t g l m. ring-searches R t g.notafters _ _ refl m
    (λ i h. made-holds (RingGoal c.args.graph.now.rows c.args.marks.now c.args.r) c.from_fn.ensures.items
    (λ j y p k. (search rules, k.met.1)) i 0 (omega (arith, h, g.notafters.few)) R t g h l m)
