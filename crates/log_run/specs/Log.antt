-- The run of a call log, line by line, and what is printed. Assumes nothing.
use Rattle.std.specs.Prelude.{cond, List, [], ◌∷◌, ◌++◌, ℕ, suc, eqb}
use Rattle.text_lines.specs.Lines.{lines}
use Rattle.ledger.specs.Ledger.{Ledger, Call, judge, step}
use Rattle.log_forms.specs.Printed.{Texts}
use Rattle.log_commands.specs.Grammar.{command_read}
use Rattle.log_session.specs.Desk.{Desk, empty_desk, printed_of}
use Rattle.log_run.specs.Effects.{effect}

-- a desk, how many lines were run, and all that was printed
pub record Run : Type 0 where
  pub desk : Desk
  pub count : ℕ
  pub printed : Texts

-- a desk after so many lines, nothing printed yet
abbrev pub begun : Desk → ℕ → Run
begun D count = record { desk = D; count = count; printed = [] }

-- so many bytes are read at most, and there are no more lines
abbrev pub most_lines : ℕ
most_lines = 4611686018427387904

-- a refusal tells the line's number, from 1
unfoldable pub run_line : Run → List ℕ → Run
run_line r line =
    let e = effect r.desk (command_read line) in
    record { desk = e.after; count = suc r.count; printed = r.printed ++ printed_of e (suc r.count) }

unfoldable pub run_lines : Run → List (List ℕ) → Run
run_lines r [] = r
run_lines r (line ∷ rest) = run_lines (run_line r line) rest

-- THE RUN of a log from an empty bench
unfoldable pub log_run : List ℕ → Run
log_run log = run_lines (begun empty_desk 0) (lines log)

-- the calls that a ledger accepts
unfoldable pub accepted : Ledger → List Call → List Call
accepted L [] = []
accepted L (call ∷ rest) = cond (eqb (judge L call) 0) (call ∷ accepted (step L call).after rest) (accepted L rest)
