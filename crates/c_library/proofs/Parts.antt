-- A log in two parts: what was kept, and what follows it. Assumes nothing.
use mathlib.Core.Path.{◌≡◌, sym, ap, ◌∙◌}
use mathlib.Core.List.{List, [], ◌∷◌, ◌++◌}
use Prim.Native.Nat.{ℕ, ◌+◌, ◌≤◌}
use native.Mathlib.Omega.{arith}
use lib.ListN.{length, length-append}
use Rattle.text_lines.specs.Lines.{lines}
use Rattle.stream.specs.Pieces.{last_end}
use Rattle.stream.proofs.Pieces.{last-append, lines-few}
use Rattle.log_forms.specs.declared.Printer.{Printer}
use Rattle.log_forms.specs.Printed.{Buffer, with_texts, PrintedLines}
use Rattle.log_session.specs.declared.Session.{Session}
use Rattle.log_session.specs.Desk.{Desk, empty_desk}
use Rattle.log_session.specs.calls.Lines.{Holds}
use Rattle.log_run.specs.Log.{begun, run_lines, log_run, most_lines}
use Rattle.log_run.proofs.Runs.{prefixed, run-count, run-after}
use Rattle.log_run.proofs.Kept.{kept_run}
use Rattle.c_library.specs.Replies.{texts_after, worked}

-- the run of the lines of a log, in memory and printed
abbrev Ran : List ℕ → Desk → Printer → Session → Printer → Type 0
Ran log D before session after =
    let R = run_lines (begun D before.line) (lines log) in
    Holds R.desk session × (after.line ≡ R.count) × PrintedLines R.printed before after

module _ (kept log work : List ℕ) (few : length kept + length log ≤ most_lines) {start_session held last_session : Session} {first middle last : Printer}
    (h : Holds empty_desk start_session) (w : first.out.now ≡ work) (a : first.at ≡ 0) (l : first.line ≡ 0)
    (f : (D : Desk) → Holds D start_session → first.line + length kept ≤ most_lines → Ran kept D first held middle)
    (g : (D : Desk) → Holds D held → middle.line + length log ≤ most_lines → Ran log D (record middle { at = 0 }) last_session last) where
  first_run : Ran kept empty_desk (record first { line = 0 }) held middle
  first_run = rw l at (f empty_desk h (omega (arith, l)))

  second_run : Ran log (log_run kept).desk (record middle { at = 0; line = (log_run kept).count }) last_session last
  unfolding log_run
  second_run =
      let p = first_run in
      let c : middle.line ≡ (log_run kept).count = p.1 in
      rw c at (g (log_run kept).desk p.0 (omega (arith, c, run-count (begun empty_desk 0) (lines kept), lines-few kept)))

  pub two-logs : (last.out.now ≡ (worked kept log work).bytes) × (last.at ≡ (worked kept log work).place) × (last.out.ghost_name ≡ first.out.ghost_name)
  unfolding worked texts_after log_run
  two-logs =
      let p = first_run in
      let q = second_run in
      let o : ◌≡◌ {A = Buffer} (record { bytes = first.out.now; place = first.at }) (record { bytes = work; place = 0 }) = λ i. record { bytes = w i; place = a i } in
      let m = p.2.into.buffer ∙ ap (λ (x : Buffer). with_texts x (log_run kept).printed) o in
      let e = q.2.into.buffer ∙ ap (λ (m : List ℕ). with_texts (record { bytes = m; place = 0 }) (texts_after kept log)) (ap (λ (x : Buffer). x.bytes) m) in
      (ap (λ (x : Buffer). x.bytes) e, ap (λ (x : Buffer). x.place) e, q.2.same_reference ∙ p.2.same_reference)

-- A LOG THAT ENDS WITH THE END OF A LINE CAN BE KEPT: it and what follows it, run in one piece, print what it printed and then what is answered to
-- the rest, and leave the same desk.
kept_whole : (inner : List ℕ) → last_end (inner ++ (10 ∷ [])) ≡ length (inner ++ (10 ∷ []))
unfolding last_end
kept_whole inner = last-append inner (10 ∷ []) ∙ sym (length-append inner (10 ∷ []))

pub kept-log : (inner log : List ℕ) → let kept = inner ++ (10 ∷ []) in
    log_run (kept ++ log) ≡ prefixed (log_run kept).printed (run_lines (begun (log_run kept).desk (log_run kept).count) (lines log))
kept-log inner log = let kept = inner ++ (10 ∷ []) in sym (kept_run kept log (kept_whole inner)) ∙ run-after (log_run kept) (lines log)
