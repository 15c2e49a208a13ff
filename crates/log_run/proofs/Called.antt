-- A line that makes a call leaves the ledger that the call leaves, and any other line leaves the ledger as it was. Assumes nothing.
use mathlib.Core.Path.{◌≡◌, refl, ap, ◌∙◌}
use mathlib.Core.List.{List, ◌++◌}
use mathlib.Core.Bool.{true}
use Prim.Native.Nat.{ℕ, ◌≤◌, ◌<◌}
use native.Mathlib.Omega.{arith}
use borrow.Author.Tests.{lt-ltb}
use lib.IntN.{pos, neg_ℤ}
use Rattle.std.specs.Prelude.{Result, Ok, Err}
use Rattle.refusals.specs.declared.Refusal.{Refusal}
use Rattle.text_forms.specs.decimal.Decimal.{decimal}
use Rattle.text_forms.specs.Spelling.{bytes}
use Rattle.text_lines.specs.Line.{edit_line, constraint_line}
use Rattle.text_lines.specs.Row.{is_edit_row, is_constraint_row}
use Rattle.ledger.specs.Ledger.{Call as LedgerCall, add_edit, add_constraint, merge, hide, show, turn, adopt, start, last, fed, step}
use Rattle.ledger.proofs.Undone.{fed-more}
use Rattle.log_commands.specs.declared.EditCells.{EditCells}
use Rattle.log_commands.specs.declared.ConstraintCells.{ConstraintCells}
use Rattle.log_commands.specs.declared.Call.{Call as Calls}
use Rattle.log_commands.specs.declared.Call.TheVariants.{AddEdit, AddConstraint, Merge, Hide, Show, Turn, Adopt}
use Rattle.log_commands.specs.declared.Command.{Command}
use Rattle.log_commands.specs.declared.Command.TheVariants.{Lend, Propose, Call, Vote, Ask}
use Rattle.log_commands.specs.Grammar.{command_read}
use Rattle.log_commands.proofs.Lines.{edit-line-adds, constraint-line-adds, merge-line, hide-line, show-line, turn-line, turn-back-line, adopt-line}
use Rattle.log_lent.specs.Lent.{lent_records}
use Rattle.log_lent.specs.lent_calls.Calls.{proposals_of}
use Rattle.log_session.specs.Desk.{Desk, Request, make, ledger_of, requested}
use Rattle.log_session.specs.Lends.{edit_cells_row, constraint_cells_row}
use Rattle.log_session.specs.Requests.{request_of}
use Rattle.log_session.specs.calls.Lines.{call_text, call_effect}
use Rattle.log_session.specs.votes.Votes.{proposal_effect}
use Rattle.log_session.specs.questions.Questions.{ask_effect}
use Rattle.log_session.proofs.calls.Telling.{lend-calls}
use Rattle.log_run.specs.Effects.{effect}
use Rattle.log_run.specs.Log.{Run, run_line}
use Rattle.log_run.proofs.Performed.{same-desk}

-- ANY LINE that makes a call, and then the line of each
pub call-runs : (r : Run) (line : List ℕ) (call : Calls) (made : LedgerCall) → command_read line ≡ Ok (Call call) → request_of r.desk call ≡ make made
    → ledger_of (run_line r line).desk ≡ (step (ledger_of r.desk) made).after
unfolding run_line effect call_effect requested ledger_of
call-runs r line call made e q =
    ap (λ (command : Result Command Refusal). ledger_of (effect r.desk command).after) e
    ∙ (ap (λ (asked : Request). ledger_of (requested r.desk (λ a L. call_text call a L.opened (last L)) asked).after) q ∙ fed-more start r.desk.calls made)

-- a line of the exchanged text adds its row
pub edit-runs : (r : Run) (cells : EditCells) → is_edit_row (edit_cells_row cells) ≡ true
    → ledger_of (run_line r (edit_line (edit_cells_row cells))).desk ≡ (step (ledger_of r.desk) (add_edit (edit_cells_row cells))).after
unfolding request_of
edit-runs r cells h = call-runs r (edit_line (edit_cells_row cells)) (AddEdit cells) (add_edit (edit_cells_row cells)) (edit-line-adds (edit_cells_row cells) h) refl

pub constraint-runs : (r : Run) (cells : ConstraintCells) → is_constraint_row (constraint_cells_row cells) ≡ true
    → ledger_of (run_line r (constraint_line (constraint_cells_row cells))).desk ≡ (step (ledger_of r.desk) (add_constraint (constraint_cells_row cells))).after
unfolding request_of
constraint-runs r cells h =
    call-runs r (constraint_line (constraint_cells_row cells)) (AddConstraint cells) (add_constraint (constraint_cells_row cells)) (constraint-line-adds (constraint_cells_row cells) h) refl

-- the rows lent to one of the nine records
pub merge-runs : (r : Run) (n : ℕ) → n < lent_records
    → ledger_of (run_line r (bytes "do=merge lent=" ++ (decimal n ++ bytes "\n"))).desk ≡ (step (ledger_of r.desk) (merge (r.desk.lent.edits n) (r.desk.lent.constraints n))).after
unfolding request_of
merge-runs r n h =
    call-runs r (bytes "do=merge lent=" ++ (decimal n ++ bytes "\n")) (Merge n) (merge (r.desk.lent.edits n) (r.desk.lent.constraints n)) (merge-line n (omega arith)) (rw (lt-ltb n lent_records h))

module _ (r : Run) (n : ℕ) (h : n < 4294967296) where
  pub hide-runs : ledger_of (run_line r (bytes "do=hide edit=" ++ (decimal n ++ bytes "\n"))).desk ≡ (step (ledger_of r.desk) (hide n)).after
  unfolding request_of
  hide-runs = call-runs r (bytes "do=hide edit=" ++ (decimal n ++ bytes "\n")) (Hide n) (hide n) (hide-line n h) refl

  pub show-runs : ledger_of (run_line r (bytes "do=show edit=" ++ (decimal n ++ bytes "\n"))).desk ≡ (step (ledger_of r.desk) (show n)).after
  unfolding request_of
  show-runs = call-runs r (bytes "do=show edit=" ++ (decimal n ++ bytes "\n")) (Show n) (show n) (show-line n h) refl

  pub adopt-runs : ledger_of (run_line r (bytes "do=adopt edit=" ++ (decimal n ++ bytes "\n"))).desk
      ≡ (step (ledger_of r.desk) (adopt n (proposals_of r.desk.lent) r.desk.lent.roll)).after
  unfolding request_of
  adopt-runs = call-runs r (bytes "do=adopt edit=" ++ (decimal n ++ bytes "\n")) (Adopt n) (adopt n (proposals_of r.desk.lent) r.desk.lent.roll) (adopt-line n h) refl

-- on to the greatest i32, and back to the least
pub turn-runs : (r : Run) (n : ℕ) → n < 2147483648 → ledger_of (run_line r (bytes "do=turn pages=" ++ (decimal n ++ bytes "\n"))).desk ≡ (step (ledger_of r.desk) (turn (pos n))).after
unfolding request_of
turn-runs r n h = call-runs r (bytes "do=turn pages=" ++ (decimal n ++ bytes "\n")) (Turn (pos n)) (turn (pos n)) (turn-line n h) refl

pub turn-back-runs : (r : Run) (n : ℕ) → n ≤ 2147483648
    → ledger_of (run_line r (bytes "do=turn pages=-" ++ (decimal n ++ bytes "\n"))).desk ≡ (step (ledger_of r.desk) (turn (neg_ℤ (pos n)))).after
unfolding request_of
turn-back-runs r n h = call-runs r (bytes "do=turn pages=-" ++ (decimal n ++ bytes "\n")) (Turn (neg_ℤ (pos n))) (turn (neg_ℤ (pos n))) (turn-back-line n h) refl

other-calls : (D : Desk) (command : Result Command Refusal) → ((call : Calls) → command ≡ Ok (Call call) → ⊥) → (effect D command).after.calls ≡ D.calls
unfolding effect proposal_effect ask_effect
other-calls D (Err refusal) h = refl
other-calls D (Ok (Lend lend)) h = lend-calls D lend
other-calls D (Ok (Propose asked)) h = refl
other-calls D (Ok (Call call)) h = absurd (h call refl)
other-calls D (Ok (Vote vote)) h = ap (λ (E : Desk). E.calls) (same-desk D vote)
other-calls D (Ok (Ask ask)) h = refl

-- ANY OTHER LINE
pub other-runs : (r : Run) (line : List ℕ) → ((call : Calls) → command_read line ≡ Ok (Call call) → ⊥) → ledger_of (run_line r line).desk ≡ ledger_of r.desk
unfolding run_line ledger_of
other-runs r line h = ap (fed start) (other-calls r.desk (command_read line) h)
