-- `insertion::Constraints::insert` meets its contract. Assumes nothing.
use mathlib.Core.Path.{◌≡◌, ◌∙◌}
use mathlib.Core.List.{append_assoc}
use Prim.Native.Nat.{◌+◌, ◌-◌, ◌≤◌}
use native.Mathlib.Omega.{arith}
use lib.ListN.{length, take, drop}
use lib.Seq.{length-take-le}
use borrow.Author.Rules.{rules}
use Rattle.record.specs.Stored.{filler_constraint}
use Rattle.record_joining.proofs.insertion.Moves.{put-moved}
use Rattle.record_joining.proofs.insertion.Tables.{held-rows, known_is, overflows, joins}
use Rattle.record_joining.proofs.insertion.Constraints.insert.Goals as goal

pub returns-then-stands : goal.returns-then-stands
returns-then-stands c =
    λ l e a.
    let t = c.args.self in
    let k = held-rows t l e c.min-n.result c.min-n.ensures in
    known_is t l e c.min-n.result c.min-n.ensures c.args.c c.place-p.result ((rw k at c.place-p.ensures.0) a) (rw k at c.stands.ensures) c.if-stands.true

pub returns-then-n-ge-CONSTRAINTS : goal.returns-then-n-ge-CONSTRAINTS
returns-then-n-ge-CONSTRAINTS c =
    λ l e a.
    let t = c.args.self in
    let k = held-rows t l e c.min-n.result c.min-n.ensures in
    overflows t l e c.min-n.result c.min-n.ensures c.args.c c.place-p.result ((rw k at c.place-p.ensures.0) a) (rw k at c.stands.ensures) c.if-stands.false c.if-n-ge-CONSTRAINTS.true

pub returns : goal.returns
returns c =
    λ l e a.
    let t = c.args.self in
    let n = c.min-n.result in
    let p = c.place-p.result in
    let k = held-rows t l e n c.min-n.ensures in
    let size : length t.rows ≡ 512 = search rules in
    let near : p ≤ n = omega (arith, c.place-p.ensures.1, length-take-le n t.rows (omega arith)) in
    joins t l e n c.min-n.ensures c.args.c p ((rw k at c.place-p.ensures.0) a) (rw k at c.stands.ensures) c.if-stands.false c.if-n-ge-CONSTRAINTS.false
    (put-moved n t.rows p filler_constraint c.args.c near (omega arith) (c.copy_within.ensures.after ∙ append_assoc (take (p + 1) t.rows) (take (n - p) (drop p t.rows)) _))
