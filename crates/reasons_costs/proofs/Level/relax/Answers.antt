-- `Level::relax` meets its contract. Assumes nothing.
use Rattle.std.proofs.Common.{arith, ◌≡◌}
use Rattle.reasons_costs.proofs.Relaxing.{level-start, level-step, level-end}
use Rattle.reasons_costs.proofs.Level.relax.Goals as goal

pub loop-b-init : goal.loop-b-init
loop-b-init c =
    let rights = c.rights-rights.ensures in (
      rights.low,
      λ level f. f,
      λ keys g covers.
          level-start (λ x y l e. rights.all keys l.right x y l.link l.low (λ h. covers y h (omega (arith, e)) (omega (arith, e, c.args.self.now.low))))
          (omega (arith, rights.low, rights.high)),
    )

pub loop-b-preserved : goal.loop-b-preserved
loop-b-preserved c =
    let l = c.loop-b.invariant in
    let b = c.relax_rows.ensures in
    (omega (arith, c.loop-b-test.true), λ level f. b.covers level (l.1 level f), λ keys g covers. level-step (l.2 keys g covers) (b.relaxes keys g))

pub returns : goal.returns
returns c =
    let l = c.loop-b.invariant in
    let rights = c.rights-rights.ensures in
    let all : c.loop-b.b ≡ c.rights-rights.result.high = omega (arith, l.0, c.loop-b-test.false) in
    record {
      covers = l.1;
      relaxes = λ keys g covers.
          level-end (λ x y h e. rights.all keys h.right x y h.link h.low (λ k. covers y k (omega (arith, e)) (omega (arith, e, c.args.self.now.low))))
          rights.high (rw all at (l.2 keys g covers));
    }
