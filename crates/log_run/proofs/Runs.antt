-- Laws of a run: its count, what was printed before it, and a run in two parts. Assumes nothing.
use mathlib.Core.Path.{◌≡◌, refl, sym, ap, ◌∙◌}
use mathlib.Core.List.{List, [], ◌∷◌, ◌++◌, append_assoc, append-nil}
use Prim.Native.Nat.{ℕ, suc, ◌+◌}
use native.Mathlib.Omega.{arith}
use lib.ListN.{length}
use Rattle.log_session.specs.Desk.{printed_of}
use Rattle.log_forms.specs.Printed.{Texts}
use Rattle.log_commands.specs.Grammar.{command_read}
use Rattle.log_run.specs.Effects.{effect}
use Rattle.log_run.specs.Log.{Run, begun, run_line, run_lines}

pub run-count : (r : Run) (l : List (List ℕ)) → (run_lines r l).count ≡ r.count + length l
unfolding run_lines run_line
run-count r [] = omega arith
run-count r (x ∷ l) = let h = run-count (run_line r x) l in omega arith

-- what is printed before leaves the rest of a run as it is
abbrev pub prefixed : Texts → Run → Run
prefixed printed r = record { desk = r.desk; count = r.count; printed = printed ++ r.printed }

pub after_both : (first second : Texts) (r : Run) → prefixed (first ++ second) r ≡ prefixed first (prefixed second r)
after_both first second r = ap {B = Run} (λ (p : Texts). record { desk = r.desk; count = r.count; printed = p }) (append_assoc first second r.printed)

pub run-after : (r : Run) (l : List (List ℕ)) → run_lines r l ≡ prefixed r.printed (run_lines (begun r.desk r.count) l)
unfolding run_lines run_line
run-after r [] = ap {B = Run} (λ (p : Texts). record { desk = r.desk; count = r.count; printed = p }) (sym (append-nil r.printed))
run-after r (x ∷ l) =
    let told = printed_of (effect r.desk (command_read x)) (suc r.count) in
    let next = run_line (begun r.desk r.count) x in
    run-after (run_line r x) l ∙ after_both r.printed told (run_lines (begun next.desk next.count) l) ∙ ap (prefixed r.printed) (sym (run-after next l))

pub run-parts : (r : Run) (l m : List (List ℕ)) → run_lines r (l ++ m) ≡ run_lines (run_lines r l) m
unfolding run_lines
run-parts r [] m = refl
run-parts r (x ∷ l) m = run-parts (run_line r x) l m
