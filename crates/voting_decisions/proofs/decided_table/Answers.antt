-- `decisions::decided_table` meets its contract. Assumes nothing.
use Prim.Native.Nat.{◌≤◌}
use mathlib.Core.List.{◌∷◌}
use native.Mathlib.Omega.{arith}
use lib.ListN.{length}
use Rattle.record.specs.Record.{written}
use Rattle.voting.specs.Proposal.{decisions}
use Rattle.record_tables.specs.Table.{unite}
use Rattle.record_tables.proofs.Tables.{constraint-count}
use Rattle.graph.proofs.indexes.Fit.{checked-fit}
use Rattle.voting_decisions.specs.Decisions.{only_constraints}
use Rattle.voting_decisions.proofs.Joined.{edits-unite, constraints-unite, table-united}
use Rattle.voting_decisions.proofs.decided_table.Goals as goal

pub returns-then-multilog-gt-UNDECIDED : goal.returns-then-multilog-gt-UNDECIDED
returns-then-multilog-gt-UNDECIDED c = λ R rest index e k g. c.with_decisions.ensures R rest index R.constraints e (checked-fit R k) g (c.of.ensures R e k.constraintplaces) k.constraintorder

pub returns : goal.returns
returns c = λ R rest index e k g.
    let h : length R.constraints ≤ 385 = omega (arith, constraint-count c.args.multilog R e, c.if-multilog-gt-UNDECIDED.false) in
    let S = only_constraints (decisions (0 ∷ rest) (written R)) in
    let u = c.union.ensures R S e (c.decisions_of-small.ensures R rest index e (checked-fit R k) g) (edits-unite (0 ∷ rest) R k) (constraints-unite (0 ∷ rest) R k h) in
    table-united (0 ∷ rest) R k h (c.of-2.ensures (unite R S) u)
