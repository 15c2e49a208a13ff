-- `marks_of` meets its contract. Assumes nothing.
use mathlib.Core.Path.{refl, ap, ◌∙◌}
use native.Mathlib.Omega.{arith}
use borrow.Author.Rules.{rules}
use Rattle.record_tables.proofs.Marks.{marks-start, marks-next, marks-end}
use Rattle.record_tables.proofs.marks_of.Goals as goal

pub loop-x-init : goal.loop-x-init
loop-x-init g c = (search rules, λ number good e small a. rw c.mark.ensures.1 (marks-start 2304 (omega arith)))

pub loop-x-preserved : goal.loop-x-preserved
loop-x-preserved g c = (
  search rules,
  λ number good e small a. rw c.mark-in-loop-x.ensures.1
      (marks-next number good 2304 small c.args.elements.now c.loop-x.marks c.loop-x.x-index c.name.result c.x-item.result c.loop-x-test.true c.loop-x.invariant.0
      (e c.x-item.result c.name.result (record { shown = _; shows = refl; says = record { met = c.name.ensures } }) ∙ ap number c.x-item.is) (c.loop-x.invariant.1 number good e small) a),
)

pub returns : goal.returns
returns g c = λ number good e small a. marks-end number good 2304 small c.args.elements.now c.loop-x.marks c.loop-x.x-index c.loop-x-test.false (c.loop-x.invariant.1 number good e small a)
