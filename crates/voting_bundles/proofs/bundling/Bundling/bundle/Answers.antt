-- `bundling::Bundling::bundle` meets its contract. Assumes nothing.
use mathlib.Core.Path.{◌≡◌, ◌∙◌}
use native.Mathlib.Omega.{arith}
use lib.ListN.{length, length-take}
use Rattle.lists.proofs.Lists.{length-mapped}
use borrow.Author.Rules.{rules}
use borrow.Author.Tests.{tests}
use Rattle.lists.specs.Lists.{mem}
use Rattle.voting.specs.Bundle.{members, between}
use Rattle.voting_bundles.proofs.bundling.Members.{TellsMember, TellsBetween, edit-known, ends-known, bundle-selected}
use Rattle.voting_bundles.proofs.bundling.Bundling.bundle.Goals as goal

pub select-edits-requires-clause-places : goal.select-edits-requires-clause-places
select-edits-requires-clause-places c =
    let y = c.self.invariant.0 in
    let z : length c.empty-small.result.edits ≡ 127 = search (rules, length-mapped) in
    rw c.edit_slice.ensures (omega (arith, length-take c.self.inside.multilog.edit_count c.self.inside.multilog.edits))

pub select-constraints-requires-clause-places : goal.select-constraints-requires-clause-places
select-constraints-requires-clause-places c =
    let y = c.self.invariant.1 in
    let z : length c.empty-small.result.constraints ≡ 512 = search (rules, length-mapped) in
    rw c.constraint_slice.ensures (omega (arith, length-take c.self.inside.multilog.constraint_count c.self.inside.multilog.constraints))

pub returns : goal.returns
returns c = λ R q f i.
    let m = c.self.inside.multilog in
    let p = c.self.view_is ∙ q in
    let t = c.self.invariant.2 R p f in
    let x = c.args.name in
    let g = c.member_marks-marks.ensures R f t.0 t.1 i in
    let e = c.select-edits.ensures (λ d. mem d.name (members R x))
    (λ d b h k. let is : TellsMember c.self.inside.table c.member_marks-marks.result d.name b = search (rules, tests) in is R (members R x) t.0 g (edit-known m R p f d (rw c.edit_slice.ensures at h))) in
    let s = c.select-constraints.ensures (λ d. between (members R x) d.left d.right)
    (λ d b h k. let is : TellsBetween c.self.inside.table c.member_marks-marks.result d b = search (rules, tests) in
    let n = ends-known m R p f d (rw c.constraint_slice.ensures at h) in is R (members R x) t.0 g n.0 n.1) in
    bundle-selected m R x p c.select-edits.new.into c.select-edits.result c.select-constraints.new.into c.select-constraints.result
    (rw (c.edit_slice.ensures, c.empty-small.ensures) at e) (rw (c.constraint_slice.ensures, c.empty-small.ensures) at s)
