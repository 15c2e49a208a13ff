-- `run_lines` meets its contract. Assumes nothing.
use mathlib.Core.Path.{sym, ◌∙◌}
use native.Mathlib.Omega.{arith}
use borrow.Author.Rules.{rules}
use Rattle.stdio_log.proofs.Parts.{further, run-part-held, run-part-few, run-part-inside, run-part-same, up-to-start, up-to-next, up-to-end}
use Rattle.stdio_log.proofs.run_lines.Goals as goal

pub loop-from-init : goal.loop-from-init
loop-from-init g c = (omega arith, omega arith, λ R H. up-to-start _ R H)

pub invariant_of-memory : goal.invariant_of-memory
invariant_of-memory g c =
    let v = c.loop-from.invariant in
    let s = c.run_some-from.ensures in
    record {
      held = run-part-held c.args.log.now c.loop-from.from _ _ (omega (arith, v.1, c.requires.few)) s.run c.loop-from.memory.held;
      few = omega (arith, v.1, c.requires.few, run-part-few c.args.log.now c.loop-from.from _ _ (omega (arith, v.1, c.requires.few)) s.run c.loop-from.memory.held);
    }

pub shared_ref_as_front-tell : goal.shared_ref_as_front-tell
shared_ref_as_front-tell g c =
    run-part-inside c.args.log.now c.loop-from.from _ _ (omega (arith, c.loop-from.invariant.1, c.requires.few)) c.run_some-from.ensures.run c.loop-from.memory.held (omega arith) (search rules)

pub loop-from-preserved : goal.loop-from-preserved
loop-from-preserved g c =
    let v = c.loop-from.invariant in
    let s = c.run_some-from.ensures in
    let x = further c.args.log.now c.loop-from.from _ (omega arith) c.loop-from-test.true s.stops in
    let f = run-part-few c.args.log.now c.loop-from.from _ _ (omega (arith, v.1, c.requires.few)) s.run c.loop-from.memory.held in
    (x.1, omega (arith, f, v.1), λ R H. up-to-next _ R (rw (← c.new-printer.ensures.line) at (v.2 R H)) _ (omega (arith, v.1, c.requires.few)) s.run)

pub returns-in_err-tell-clause-few : goal.returns-in_err-tell-clause-few
returns-in_err-tell-clause-few g c =
    let v = c.loop-from.invariant in
    omega (arith, v.1, run-part-few c.args.log.now c.loop-from.from _ _ (omega (arith, v.1, c.requires.few)) c.run_some-from.ensures.run c.loop-from.memory.held)

pub returns-clause-run : goal.returns-clause-run
returns-clause-run g c = λ R H. up-to-end _ R (c.loop-from.invariant.2 R H) c.loop-from-test.false

pub shape_of-memory-in-loop-from : goal.shape_of-memory-in-loop-from
shape_of-memory-in-loop-from g c =
    sym c.new-printer.ensures.same_reference
    ∙ run-part-same c.args.log.now c.loop-from.from _ _ (omega (arith, c.loop-from.invariant.1, c.requires.few)) c.run_some-from.ensures.run c.loop-from.memory.held
