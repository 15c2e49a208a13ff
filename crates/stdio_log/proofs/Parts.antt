-- The lines of a log, run and printed part by part. Assumes nothing.
use mathlib.Core.Path.{◌≡◌, refl, ap, sym, ◌∙◌}
use mathlib.Core.List.{List}
use Prim.Native.Nat.{ℕ, ◌+◌, ◌-◌, ◌≤◌, ◌<◌}
use mathlib.Core.Logic.{∥∥₁_elim, ∥∥₁_map}
use native.Mathlib.Bridge.{le_prop}
use native.Mathlib.Omega.{arith}
use lib.ListN.{length, take, drop, length-drop}
use lib.Seq.{drop-drop}
use Rattle.text_lines.specs.Lines.{lines}
use Rattle.text_lines.proofs.Ends.{no_lines}
use Rattle.log_forms.specs.declared.Printer.{Printer}
use Rattle.log_forms.specs.Printed.{Texts}
use Rattle.log_session.specs.declared.Session.{Session}
use Rattle.log_session.specs.Desk.{Desk}
use Rattle.log_bounds.specs.Bounded.{answer_limit}
use Rattle.log_session.specs.calls.Lines.{Holds}
use Rattle.log_run.specs.Log.{Run, begun, run_lines, most_lines}
use Rattle.log_run.specs.Running.{Running, Stops}
use Rattle.log_run.proofs.Runs.{prefixed, after_both, run-after}
use Rattle.stdio_log.specs.declared.memory.Memory.{Memory}
use Rattle.stdio_log.specs.Held.{Held}
use Rattle.stdio_log.specs.Streaming.{Ran}
use Rattle.std.proofs.lemmas.List.{take_rest}

-- how far the lines of a part were run
pub further : (s : List ℕ) (from limit : ℕ) {start next at : ℕ} → start ≤ limit → from < length s → Stops (length (take (length s - from) (drop from s))) limit start next at → (0 < next) × (from + next ≤ length s)
further s from limit low h p =
    let l : length (take (length s - from) (drop from s)) ≡ length s - from = ap length (take_rest s from) ∙ length-drop from s in
    let f = p.forward low (omega arith) in
    let i = p.inside in
    (f, omega arith)

-- a run goes on after what was printed before it
run-prefixed : (told : Texts) (r : Run) (ls : List (List ℕ)) → prefixed told (run_lines r ls) ≡ run_lines (prefixed told r) ls
run-prefixed told r ls =
    ap (prefixed told) (run-after r ls) ∙ sym (after_both told r.printed (run_lines (begun r.desk r.count) ls)) ∙ sym (run-after (prefixed told r) ls)

-- The lines before a place were run: from what they came to the lines that are left lead to the end of the whole log.
pub record UpTo (log : List ℕ) (R : Run) (from : ℕ) (session : Session) (line : ℕ) : Type 0 where
  pub run : Run
  pub rest : run_lines R (lines log) ≡ run_lines run (lines (drop from log))
  pub holds : Holds run.desk session
  pub counted : line ≡ run.count

-- what the run of a part comes to, of whatever desk it starts from
abbrev pub RunPart : List ℕ → ℕ → Session → Printer → ℕ → Session → Printer → ℕ → Type 0
RunPart log from session before next later after limit = (D : Desk) → Holds D session
    → before.line + length (take (length log - from) (drop from log)) ≤ most_lines
    → Running (take (length log - from) (drop from log)) D before next later after limit

part-size : (log : List ℕ) (from : ℕ) → length (take (length log - from) (drop from log)) ≡ length log - from
part-size log from = ap length (take_rest log from) ∙ length-drop from log

-- a part of a session whose answers fit
module _ (log : List ℕ) (from next limit : ℕ) {session later : Session} {before after : Printer} (few : before.line + (length log - from) ≤ most_lines) (p : RunPart log from session before next later after limit) where
  of-part : (H : Held session) → Running (take (length log - from) (drop from log)) H.desk before next later after limit
  of-part H = p H.desk H.holds (omega (arith, part-size log from))

  module _ (held : ∥ Held session ∥₁) where
    pub run-part-held : ∥ Held later ∥₁
    run-part-held = ∥∥₁_map held (λ H. let R = of-part H in record { desk = R.run.desk; holds = R.held; bounded = R.bounded H.bounded })

    pub run-part-few : after.line + (length log - (from + next)) ≤ before.line + (length log - from)
    run-part-few = ∥∥₁_elim held le_prop (λ H. omega (arith, (of-part H).few, part-size log from))

    -- its answers stand in a buffer that has room for one answer more after the limit
    pub run-part-inside : before.at ≤ limit → limit + answer_limit ≤ length before.out.now → after.at ≤ limit + answer_limit
    run-part-inside l room = ∥∥₁_elim held le_prop (λ H. (of-part H).near H.bounded (omega (arith, part-size log from)) l room)

    -- they were printed into the same buffer
    pub run-part-same : before.out.ghost_name ≡ after.out.ghost_name
    run-part-same =
        let a : before.out.ghost_name ≤ after.out.ghost_name = ∥∥₁_elim held le_prop (λ H. let e = (of-part H).told.same_reference in omega arith) in
        let b : after.out.ghost_name ≤ before.out.ghost_name = ∥∥₁_elim held le_prop (λ H. let e = (of-part H).told.same_reference in omega arith) in
        omega arith

module _ (log : List ℕ) (R : Run) where
  pub up-to-start : {memory : Memory} → Ran R memory → UpTo log R 0 memory.session memory.line
  up-to-start h = record { run = R; rest = refl; holds = h.held; counted = h.counted }

  module _ {from : ℕ} {session : Session} {before : Printer} (A : UpTo log R from session before.line) where
    -- a part more
    pub up-to-next : (limit : ℕ) → before.line + (length log - from) ≤ most_lines → {next : ℕ} {later : Session} {after : Printer}
        → RunPart log from session before next later after limit → UpTo log R (from + next) later after.line
    up-to-next limit few {next} p =
        let part = take (length log - from) (drop from log) in
        let r = A.run in
        let c = A.counted in
        let P = p r.desk A.holds (omega (arith, part-size log from)) in
        let d : drop next part ≡ drop (from + next) log = ap (drop next) (take_rest log from) ∙ drop-drop next from log in
        let q : run_lines (begun r.desk before.line) (lines (drop from log)) ≡ run_lines P.run (lines (drop (from + next) log)) =
        ap (λ (s : List ℕ). run_lines (begun r.desk before.line) (lines s)) (sym (take_rest log from)) ∙ P.rest ∙ ap (λ (s : List ℕ). run_lines P.run (lines s)) d in
        let b : run_lines (begun r.desk r.count) (lines (drop from log)) ≡ run_lines (begun r.desk before.line) (lines (drop from log)) =
        ap (λ (i : ℕ). run_lines (begun r.desk i) (lines (drop from log))) (sym c) in
        record {
          run = prefixed r.printed P.run;
          rest = A.rest ∙ run-after r (lines (drop from log)) ∙ ap (prefixed r.printed) (b ∙ q) ∙ run-prefixed r.printed P.run (lines (drop (from + next) log));
          holds = P.held;
          counted = P.counted;
        }

  pub up-to-end : {from : ℕ} {memory : Memory} → UpTo log R from memory.session memory.line → length log ≤ from → Ran (run_lines R (lines log)) memory
  unfolding run_lines
  up-to-end {from} A h = rw (A.rest ∙ ap (run_lines A.run) (no_lines log from h)) (record { held = A.holds; counted = A.counted })
