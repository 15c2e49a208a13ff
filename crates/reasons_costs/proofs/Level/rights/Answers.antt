-- `Level::rights` meets its contract. Assumes nothing.
use mathlib.Core.Logic.{⊎_elim}
use Rattle.std.proofs.Common.{arith, rules, ◌≡◌}
use Rattle.reasons_costs.proofs.Level.rights.Goals as goal

pub returns-in-Notafter-clause-all : goal.returns-in-Notafter-clause-all
returns-in-Notafter-clause-all c keys b x y link h f =
    let to : y ≡ b = ⊎_elim (λ e. (rw e at link).to) (λ e. (rw e at link).to) c.in-Notafter.is in
    let d = f (omega (arith, to, h, c.args.self.now.graph.now.few)) in
    search rules
