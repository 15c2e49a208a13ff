-- The call log: its lines, each with the command that it means. Assumes nothing.
use Rattle.std.specs.Prelude.{ℕ, Bool, cond, not, List, [], ◌∷◌, ◌++◌, map, eqb, ltb, pos, neg_ℤ, length, get_or, Result, Ok, Err}
use Rattle.text_forms.specs.Spelling.{bytes}
use Rattle.refusals.specs.declared.Refusal.{Refusal}
use Rattle.refusals.specs.declared.Refusal.TheVariants.{NotInForm, OutOfRange}
use Rattle.text_lines.specs.declared.Line.{Line}
use Rattle.text_lines.specs.declared.Line.TheVariants.{Edit, Constraint}
use Rattle.text_lines.specs.Line.{Shape, shapes, line_limit}
use Rattle.log_forms.specs.productions.Productions.{Production, ◌means◌, parse}
use Rattle.log_commands.specs.declared.EditCells.{EditCells}
use Rattle.log_commands.specs.declared.ConstraintCells.{ConstraintCells}
use Rattle.log_commands.specs.declared.Lend.TheVariants.{EditRow, ConstraintRow, NoRows, BenchRows, RollRow, NoRoll, RowName, NoRow}
use Rattle.log_commands.specs.declared.Call.TheVariants.{AddEdit, AddConstraint, Merge, Hide, Show, Turn, Adopt}
use Rattle.log_commands.specs.declared.Vote.TheVariants.{Elect, Bundle, Suggest, Test, Winner, Tally, Why}
use Rattle.log_commands.specs.declared.Ask.TheVariants.{Text, Report, Hidden, Schedule, Catalogue, Journal, Page}
use Rattle.log_commands.specs.declared.Command.{Command}
use Rattle.log_commands.specs.declared.Command.TheVariants.{Lend, Propose, Call, Vote, Ask}

-- the number of pages of a turn is an i32
unfoldable pub turn_forward : ℕ → Result Command Refusal
turn_forward n = cond (ltb n 2147483648) (Ok (Call (Turn (pos n)))) (Err OutOfRange)

unfoldable pub turn_back : ℕ → Result Command Refusal
turn_back n = cond (ltb n 2147483649) (Ok (Call (Turn (neg_ℤ (pos n))))) (Err OutOfRange)

-- an answer, yes or no
abbrev pub is_yes : ℕ → Bool
is_yes n = not (eqb n 0)

unfoldable pub command_forms : List (Production (Result Command Refusal))
command_forms =
    -- what is lent: rows of the records, of the roll, of the row to be tested
    "lent=# edit=# kind=# chip=# field=# value=#"
    means (λ n. Ok (Lend (EditRow (n 0) (record { name = n 1; kind = n 2; place = n 3; field = n 4; value = n 5 }))))
    ∷ "lent=# left=# rule=# right=#" means (λ n. Ok (Lend (ConstraintRow (n 0) (record { left = n 1; rule = n 2; right = n 3 }))))
    ∷ "lent=# rows=none" means (λ n. Ok (Lend (NoRows (n 0))))
    ∷ "lent=# rows=bench" means (λ n. Ok (Lend (BenchRows (n 0))))
    ∷ "roll=# weight=#" means (λ n. Ok (Lend (RollRow (n 0) (n 1))))
    ∷ "roll=none" means (λ n. Ok (Lend NoRoll))
    ∷ "row=#" means (λ n. Ok (Lend (RowName (n 0))))
    ∷ "row=none" means (λ n. Ok (Lend NoRow))
    -- calls on the bench
    ∷ "do=merge lent=#" means (λ n. Ok (Call (Merge (n 0))))
    ∷ "do=hide edit=#" means (λ n. Ok (Call (Hide (n 0))))
    ∷ "do=show edit=#" means (λ n. Ok (Call (Show (n 0))))
    ∷ "do=turn pages=#" means (λ n. turn_forward (n 0))
    ∷ "do=turn pages=-#" means (λ n. turn_back (n 0))
    ∷ "do=adopt edit=#" means (λ n. Ok (Call (Adopt (n 0))))
    -- votes, proposals, suggestions, tests, reasons
    ∷ "do=elect edit=#" means (λ n. Ok (Vote (Elect (n 0))))
    ∷ "do=bundle edit=# lent=#" means (λ n. Ok (Vote (Bundle (n 0) (n 1))))
    ∷ "do=propose lent=# old=# edits=# rules=# keep=?"
    means (λ n. Ok (Propose (record { lent = n 0; old = n 1; edits = n 2; rules = n 3; keep = is_yes (n 4) })))
    ∷ "do=suggest first=# second=# case=#" means (λ n. Ok (Vote (Suggest (record { first = n 0; second = n 1; case = n 2 }))))
    ∷ "do=test lent=#" means (λ n. Ok (Vote (Test (n 0))))
    ∷ "do=winner edit=#" means (λ n. Ok (Vote (Winner (n 0))))
    ∷ "do=tally edit=#" means (λ n. Ok (Vote (Tally (n 0))))
    ∷ "do=why edit=# lent=#" means (λ n. Ok (Vote (Why (n 0) (n 1))))
    -- questions
    ∷ "ask=text" means (λ n. Ok (Ask Text))
    ∷ "ask=report" means (λ n. Ok (Ask Report))
    ∷ "ask=hidden" means (λ n. Ok (Ask Hidden))
    ∷ "ask=schedule" means (λ n. Ok (Ask Schedule))
    ∷ "ask=catalogue" means (λ n. Ok (Ask Catalogue))
    ∷ "ask=journal" means (λ n. Ok (Ask Journal))
    ∷ "ask=page" means (λ n. Ok (Ask Page))
    ∷ []

-- the rows that lines of the exchanged text say
abbrev pub edit_cells_of : List ℕ → EditCells
edit_cells_of row = record { name = get_or row 0 0; kind = get_or row 1 0; place = get_or row 2 0; field = get_or row 3 0; value = get_or row 4 0 }

abbrev pub constraint_cells_of : List ℕ → ConstraintCells
constraint_cells_of row = record { left = get_or row 0 0; rule = get_or row 1 0; right = get_or row 2 0 }

abbrev pub adding : Line → Command
adding (Edit row) = Call (AddEdit (edit_cells_of row))
adding (Constraint row) = Call (AddConstraint (constraint_cells_of row))

abbrev pub lending_to : ℕ → Line → Command
lending_to lent (Edit row) = Lend (EditRow lent (edit_cells_of row))
lending_to lent (Constraint row) = Lend (ConstraintRow lent (constraint_cells_of row))

-- a line of the exchanged text adds its row, and after a record's number it lends it
abbrev pub add_form : Shape → Production (Result Command Refusal)
add_form shape = record { form = shape.form; meaning = λ n. Ok (adding (shape.says (n 0 ∷ n 1 ∷ n 2 ∷ n 3 ∷ []))) }

abbrev pub lend_form : Shape → Production (Result Command Refusal)
lend_form shape = record { form = bytes "lent=# " ++ shape.form; meaning = λ n. Ok (lending_to (n 0) (shape.says (n 1 ∷ n 2 ∷ n 3 ∷ n 4 ∷ []))) }

unfoldable pub grammar : List (Production (Result Command Refusal))
grammar = command_forms ++ (map add_form shapes ++ map lend_form shapes)

-- a line with its end, at most 100 bytes before it
unfoldable pub command_read : List ℕ → Result Command Refusal
command_read s = cond (ltb line_limit (length s)) (Err NotInForm) (parse Err grammar s)
