-- Document 01, "Text": what is printed of a text: counts, then each edit with must, never, settled and its page with nothing hidden (0: not in it); or the refusal. Assumes nothing.
use Rattle.std.specs.Prelude.{◌≡◌, cond, List, [], ◌∷◌, ◌++◌, map, ℕ, length, Result, Ok, Err}
use Rattle.record.specs.Record.{Record, written}
use Rattle.record.specs.Schedule.{schedule}
use Rattle.record.specs.Judgement.{must, never, settled}
use Rattle.graph.specs.links.Marks.{place_in}
use Rattle.text_forms.specs.Spelling.{bytes}
use Rattle.text_forms.specs.Form.{fill}
use Rattle.text.specs.Text.{joined_lines, Answer, Accepted, Refused}
use Rattle.text_writer.specs.Placed.{placed, placing}
use Rattle.refusals.specs.declared.Refusal.{Refusal}
use Rattle.text_reader.specs.declared.Fault.{Fault}
use Rattle.text_reader.specs.Reading.{FaultIs, without_line}

unfoldable pub counts_form : List ℕ
counts_form = bytes "edits=# rules=#\n"

unfoldable pub report_form : List ℕ
report_form = bytes "edit=@ must=? never=? settled=? place=#\n"

unfoldable pub refusal_form : List ℕ
refusal_form = bytes "refused=# line=#\n"

-- the numbers of an edit's line; yes is 1 and no is 0
unfoldable pub report_numbers : Record → ℕ → List ℕ
report_numbers R name =
    name ∷ cond (must R name) 1 0 ∷ cond (never R name) 1 0 ∷ cond (settled R name) 1 0 ∷ place_in (schedule R []) name ∷ []

unfoldable pub report_of : Record → List ℕ
report_of R =
    fill counts_form (length R.edits ∷ length R.constraints ∷ []) ++ joined_lines (map (fill report_form) (map (report_numbers R) (written R)))

unfoldable pub refusal_line : ℕ → ℕ → List ℕ
refusal_line number line = fill refusal_form (number ∷ line ∷ [])

-- what the program prints
abbrev pub printed : Answer → List ℕ
printed (Accepted R) = report_of R
printed (Refused number line) = refusal_line number line

-- at no line of a text
abbrev pub at_no_line : Result ℕ Refusal → Result ℕ Fault
at_no_line (Ok size) = Ok size
at_no_line (Err refusal) = Err (without_line refusal)

-- what the library answers: the report at the start of the output, where it fits; or the text's number and line
abbrev pub Reported : Answer → List ℕ → Result ℕ Fault → Type 0
Reported (Accepted R) out answer = answer ≡ at_no_line (placing (report_of R) 0 out)
Reported (Refused number line) out answer = FaultIs number line answer

abbrev pub reported_out : Answer → List ℕ → List ℕ
reported_out (Accepted R) out = placed (report_of R) 0 out
reported_out (Refused number line) out = out
