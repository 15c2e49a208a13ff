-- `run_some` meets its contract. Assumes nothing.
use mathlib.Core.Path.{refl, sym, ◌∙◌}
use native.Mathlib.Omega.{arith}
use Rattle.text_lines.proofs.Ends.{next-line}
use Rattle.log_forms.proofs.Printing.{buffer_here, buffer_both, buffer_next}
use Rattle.log_run.proofs.Running.{running-start, running-few, running-next}
use Rattle.log_run.proofs.Paging.{first-turn, opened-there}
use Rattle.log_run.proofs.run_some.Goals as goal

pub loop-from-init : goal.loop-from-init
loop-from-init c = (omega arith, λ e. refl, λ D H k. running-start _ D _ H, buffer_here c.args.printer.now)

pub slice_bounds-read_command-end : goal.slice_bounds-read_command-end
slice_bounds-read_command-end c = let x = next-line c.args.log.now c.loop-from.from c.loop-from-test.true c.line_end-end.ensures in omega arith

pub run_turns-from-requires-clause-first : goal.run_turns-from-requires-clause-first
run_turns-from-requires-clause-first c = first-turn _ _ c.line_end-end.ensures c.read_command-read.ensures (sym c.paging_of.ensures ∙ c.in-Some-Turn.is)

pub loop-from-preserved-in-Turn-1 : goal.loop-from-preserved-in-Turn-1
loop-from-preserved-in-Turn-1 c =
    let t = c.run_turns-from.ensures in (
      t.inside,
      λ e. absurd (omega arith),
      λ D H k. let R = c.loop-from.invariant.2 D H k in opened-there _ D _ _ R (t.run D _ _ R refl k) c.open_at.ensures,
      buffer_both c.loop-from.invariant.3 t.same,
    )

pub loop-from-smaller : goal.loop-from-smaller
loop-from-smaller c = let x = next-line c.args.log.now c.loop-from.from c.loop-from-test.true c.line_end-end.ensures in omega arith

pub loop-from-preserved : goal.loop-from-preserved
loop-from-preserved c =
    let h = c.loop-from-test.true in
    let x = next-line c.args.log.now c.loop-from.from h c.line_end-end.ensures in (
      x.inside,
      λ e. absurd (omega arith),
      λ D H k.
          let R = c.loop-from.invariant.2 D H k in
          running-next _ D _ R h c.if-printer-limit.true c.line_end-end.ensures (omega (arith, c.saturating_add-printer.ensures, running-few _ D _ R h k)) c.read_command-read.ensures
          c.run_command.ensures.run,
      buffer_next c.loop-from.invariant.3 c.run_command.ensures.same.buffer,
    )
