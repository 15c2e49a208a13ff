-- `run_turns` meets its contract. Assumes nothing.
use mathlib.Core.Path.{refl, sym, ap, ◌∙◌}
use native.Mathlib.Omega.{arith}
use Rattle.pages_turner.specs.declared.Turner.{Turner}
use Rattle.text_lines.proofs.Ends.{next-line}
use Rattle.log_forms.proofs.Printing.{buffer_here, buffer_next}
use Rattle.log_run.proofs.Running.{running-few}
use Rattle.log_run.proofs.Paging.{running-open, paged-next, stopped-after}
use Rattle.log_run.proofs.run_turns.Goals as goal

pub loop-from-init : goal.loop-from-init
loop-from-init c = (omega (arith, c.requires.inside), omega arith, λ e. refl, refl, λ D before session R t k. running-open _ D before R t, buffer_here c.args.printer.now)

pub slice_bounds-read_command-end : goal.slice_bounds-read_command-end
slice_bounds-read_command-end c = let x = next-line c.args.log.now c.loop-from.from c.loop-from-test.true c.line_end-end.ensures in omega arith

pub loop-from-smaller : goal.loop-from-smaller
loop-from-smaller c = let x = next-line c.args.log.now c.loop-from.from c.loop-from-test.true c.line_end-end.ensures in omega arith

pub loop-from-preserved : goal.loop-from-preserved
loop-from-preserved c =
    let r = c.run_page.ensures in
    let h = c.loop-from-test.true in
    let v = c.loop-from.invariant in
    let x = next-line c.args.log.now c.loop-from.from h c.line_end-end.ensures in (
      x.inside,
      omega arith,
      λ e. absurd (omega arith),
      r.last ∙ v.3,
      λ D before session R t k.
          let S = v.4 D before session R t k in
          paged-next _ D before session _ S (ap (λ (u : Turner). u.last) t ∙ sym v.3) h c.if-printer-limit.true c.line_end-end.ensures
          (omega (arith, c.saturating_add-printer.ensures, running-few _ D before S h k)) c.read_command.ensures
          _ (λ E s H q. r.run E _ s H q (sym c.paging_of.ensures ∙ c.in-Some.is)),
      buffer_next v.5 r.same.buffer,
    )

pub returns-in_default-clause-forward : goal.returns-in_default-clause-forward
returns-in_default-clause-forward c =
    stopped-after _ c.loop-from.invariant.1 c.requires.first c.line_end-end.ensures c.read_command.ensures (sym c.paging_of.ensures ∙ c.in_default.is)
