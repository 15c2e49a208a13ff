-- The loop over the lines of a log. Assumes nothing.
use mathlib.Core.Path.{◌≡◌, refl, sym, ap, ◌∙◌}
use mathlib.Core.List.{List}
use Prim.Native.Nat.{ℕ, suc, ◌+◌, ◌-◌, ◌≤◌, ◌<◌}
use native.Mathlib.Omega.{arith}
use lib.ListN.{length, take, drop}
use Rattle.std.specs.Prelude.{Result}
use Rattle.refusals.specs.declared.Refusal.{Refusal}
use Rattle.text_lines.specs.Lines.{lines, first_line}
use Rattle.text_lines.proofs.Ends.{next-line, no_lines}
use Rattle.log_forms.specs.declared.Printer.{Printer}
use Rattle.log_forms.specs.Printed.{Printed, PrintedLines}
use Rattle.log_forms.proofs.Printing.{printed-as, printed-length, lines-first, lines-next}
use Rattle.log_commands.specs.declared.Command.{Command}
use Rattle.log_commands.specs.Grammar.{command_read}
use Rattle.log_session.specs.declared.Session.{Session}
use Rattle.log_session.specs.Desk.{Desk, printed_of}
use Rattle.log_bounds.specs.Bounded.{answer_limit}
use Rattle.log_session.specs.calls.Lines.{Holds}
use Rattle.log_run.specs.Effects.{effect}
use Rattle.log_run.specs.Log.{begun, run_line, run_lines, most_lines}
use Rattle.log_run.specs.Running.{Running}
use Rattle.log_run.proofs.Fits.{answer-fits, line-bounded, printed-within}
use Rattle.log_run.proofs.Performed.{Performed, performed-as}

module _ (log : List ℕ) (D : Desk) (before : Printer) where
  pub running-start : {limit : ℕ} {session : Session} → Holds D session → Running log D before 0 session before limit
  running-start h = record { run = begun D before.line; rest = refl; held = h; counted = refl; told = lines-first before; few = omega arith; bounded = λ B. B; near = λ B k s l. omega arith }

  module _ {from : ℕ} {session : Session} {now : Printer} {limit : ℕ} (R : Running log D before from session now limit) where
    pub running-few : from < length log → before.line + length log ≤ most_lines → now.line < most_lines
    running-few h k = let f = R.few in omega arith

    pub running-next : (h : from < length log) → now.at ≤ limit → {end : ℕ} → end ≡ from + length (first_line (drop from log)) → {n : ℕ} → n ≡ suc now.line
        → {command : Result Command Refusal} → command ≡ command_read (take (end - from) (drop from log)) → {next : Session} {after : Printer}
        → ((E : Desk) → Holds E session → Performed next (record now { line = n }) after (effect E command))
        → Running log D before end next after limit
    unfolding run_lines run_line
    running-next h below {end} e {n} q o {after = after} f =
        let x = next-line log from h e in
        let line = take (end - from) (drop from log) in
        let p = performed-as R.run.desk (sym o) (f R.run.desk R.held) in
        let c : n ≡ suc R.run.count = q ∙ ap suc R.counted in
        let t : Printed (printed_of (effect R.run.desk (command_read line)) (suc R.run.count)) (record now { line = n }) after =
        printed-as (ap (printed_of (effect R.run.desk (command_read line))) c) p.1 in
        record {
          run = run_line R.run line;
          rest = R.rest ∙ ap (run_lines R.run) x.lines_are;
          held = p.0;
          counted = p.1.line ∙ c;
          told = lines-next R.told t;
          few = let g = R.few in let i = x.forward in let j = x.inside in let m = p.1.line in omega arith;
          bounded = λ B. line-bounded R.run.desk (R.bounded B) line;
          near = λ B k s l.
              let a = answer-fits R.run.desk (R.bounded B) line (suc R.run.count) (omega (arith, running-few h k, R.counted)) in
              omega (arith, printed-within answer_limit t.into a (omega (arith, printed-length R.told.into)));
        }

    pub running-end : length log ≤ from
        → Holds (run_lines (begun D before.line) (lines log)).desk session × (now.line ≡ (run_lines (begun D before.line) (lines log)).count)
        × PrintedLines (run_lines (begun D before.line) (lines log)).printed before now
    unfolding run_lines
    running-end h =
        let e : run_lines (begun D before.line) (lines log) ≡ R.run = R.rest ∙ ap (run_lines R.run) (no_lines log from h) in
        rw e (R.held, R.counted, R.told)
