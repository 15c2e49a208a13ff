-- `highest_cost` meets its contract. Assumes nothing.
use Rattle.std.proofs.Common.{arith, rules, get_or, ◌≡◌, ◌≤◌}
use Rattle.std.proofs.lemmas.List.{get_or_past}
use Rattle.lists.proofs.Lists.{is-by, le-by}
use Rattle.reasons_costs.proofs.highest_cost.Goals as goal
use Rattle.reasons_costs.proofs.highest_cost.Goals.{then-costs-x-lt-UNREACHED, else-costs-x-lt-UNREACHED}

pub loop-x-init : goal.loop-x-init
loop-x-init c y h k = absurd (omega (arith, h))

pub loop-x-preserved : goal.loop-x-preserved
loop-x-preserved c y h k =
    let x = c.loop-x.x in
    elim c.if-costs-x-lt-UNREACHED.branch [
      | then-costs-x-lt-UNREACHED w ↦
          let more : c.loop-x.highest ≤ w.max-highest.result = search rules in
          let last : get_or c.args.costs.now x 0 ≤ w.max-highest.result = search rules in
          rw w.highest-is (is-by y x (λ e. rw e last) (λ n. omega (arith, more, c.loop-x.invariant y (omega (arith, n, h)) k)))
      | else-costs-x-lt-UNREACHED w ↦
          let other : y ≡ x → ⊥ = λ e. omega (arith, rw e at k, w.if-costs-x-lt-UNREACHED.false) in
          omega (arith, w.highest-is, c.loop-x.invariant y (omega (arith, other, h)) k)
    ]

pub returns : goal.returns
returns c x h =
    le-by 128 x (λ l. omega (arith, get_or_past c.args.costs.now x 0 (omega (arith, l, c.told-costs)))) (λ l. c.loop-x.invariant x (omega (arith, l, c.loop-x-test.false)) h)
