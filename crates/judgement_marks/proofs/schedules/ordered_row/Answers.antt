-- `schedules::ordered_row` meets its contract. Assumes nothing.
use Prim.Native.Nat.{◌<◌}
use mathlib.Core.Path.{◌≡◌, refl, ◌∙◌}
use lib.ListN.{length, length-set}
use Rattle.std.proofs.Common.{arith, rules}
use Rattle.judgement_marks.proofs.schedules.Ordering.{ordering-start, ordering-step, ordering-stop, ordering-end, held_below}
use Rattle.graph.proofs.links.Marks.{set_below}
use Rattle.record.specs.Record.{names}
use Rattle.judgement_marks.proofs.schedules.ordered_row.Goals as goal
use Rattle.lists.proofs.Arrays.{get_or-zeros}

pub loop-count-init : goal.loop-count-init
loop-count-init c = (
  omega arith,
  refl,
  search rules,
  λ q. omega (arith, get_or-zeros 128 q),
  omega arith,
  λ R t g f q sub e. (ordering-start R t sub g.notafters.apart g.notafters.few c.args.graph.now.count q _ e, λ y h. absurd (omega arith)),
)

pub loop-count-preserved : goal.loop-count-preserved
loop-count-preserved c =
    let l = c.loop-count in
    let x = c.in-Some.x in
    let found = c.in-Some.ensures in
    let low = found.low in
    let r = c.lowest_freed-from in (
      omega arith,
      length-set l.indexes l.count x ∙ l.invariant.1,
      length-set l.waits x 0 ∙ l.invariant.2,
      set_below l.indexes l.count x 128 (omega (arith, low, c.args.graph.now.few)) l.invariant.3,
      omega (arith, r.ensures.0, low),
      λ R t g f q sub e. let w = l.invariant.5 R t g f q sub e in
          let k = found.is R _ g q w.0.marks w.1 in
          let u : x < length (names R) = omega (arith, low, q) in
          let o = ordering-step R t sub g.notafters.apart g.notafters.few c.args.graph.now.count q l.indexes l.waits l.count x (omega (arith, l.invariant.1)) (omega (arith, low)) (omega arith) k.0 w.0 in (
            o,
            held_below R _ _ l.waits x w.0.marks o.marks r.result r.ensures.0 u k.1
                (λ y h z v. r.ensures.1 R y f g.notafters.apart u h z v R _ g h o.marks),
          ),
    )

pub returns-in_default : goal.returns-in_default
returns-in_default c R t g f q sub e =
    let l = c.loop-count in
    let i = l.invariant.5 R t g f q sub e in
    ordering-stop R t sub g.notafters.apart g.notafters.few c.args.graph.now.count q _ l.waits (c.in_default.ensures.is R _ g q i.0.marks i.1).0 i.0

pub returns : goal.returns
returns c R t g f q sub e =
    let l = c.loop-count in
    let all : l.count ≡ c.args.graph.now.count = omega arith in
    ordering-end R t sub g.notafters.apart g.notafters.few c.args.graph.now.count q _ l.waits (omega arith) (rw all at (l.invariant.5 R t g f q sub e).0)
