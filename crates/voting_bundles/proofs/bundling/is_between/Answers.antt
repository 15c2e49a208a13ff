-- `bundling::is_between` meets its contract. Assumes nothing.
use mathlib.Core.Path.{◌≡◌, sym, ◌∙◌}
use mathlib.Core.Bool.{false, or-true, or-false}
use borrow.Author.Tests.{ne_eqb}
use lib.Dec.{eqb}
use Rattle.lists.specs.Lists.{mem}
use Rattle.voting.specs.Bundle.{between}
use Rattle.voting_bundles.proofs.bundling.is_between.Goals as goal

pub returns-then-not-is_member : goal.returns-then-not-is_member
unfolding between
returns-then-not-is_member c = λ R m t e k n. let z = sym (c.is_member.ensures R m t e k) ∙ c.if-not-is_member.true in rw z

pub returns-then-constraint-eq0 : goal.returns-then-constraint-eq0
unfolding between
returns-then-constraint-eq0 c = λ R m t e k n.
    let z = sym (c.is_member.ensures R m t e k) ∙ c.if-not-is_member.false in
    rw (z, c.if-constraint-eq0.true) (sym (or-true (mem 0 m)))

pub returns-else-constraint-eq0 : goal.returns-else-constraint-eq0
unfolding between
returns-else-constraint-eq0 c = λ R m t e k n.
    let z = sym (c.is_member.ensures R m t e k) ∙ c.if-not-is_member.false in
    let f : eqb c.args.constraint.right 0 ≡ false = ne_eqb _ 0 c.if-constraint-eq0.false in
    rw (z, f) (c.is_member-else-constraint-eq0.ensures R m t e n ∙ sym (or-false (mem c.args.constraint.right m)))
