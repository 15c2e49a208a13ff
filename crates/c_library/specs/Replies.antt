-- What the library answers to programs in other languages. Assumes nothing.
use Rattle.std.specs.Prelude.{Bool, ◌&&◌, cond, List, ◌++◌, ℕ, eqb, leb, length, drop, Result, Ok, Err}
use Rattle.record.specs.Record.{Record}
use Rattle.record_rows.specs.grounds.Ground.{◌orelse◌}
use Rattle.judgement.specs.lent_edit.Asked.{named_fault}
use Rattle.reasons.specs.Given.{reason_of}
use Rattle.text_lines.specs.Lines.{lines}
use Rattle.text.specs.Text.{joined_lines, Answer, Accepted, Refused, text_of}
use Rattle.text_writer.specs.Placed.{placed, placing}
use Rattle.text_reader.specs.declared.Fault.{Fault}
use Rattle.text_report.specs.Report.{report_of}
use Rattle.text_reasons.specs.ReasonLine.{line_if_given, given_fault}
use Rattle.log_forms.specs.Printed.{Texts, Buffer, with_texts}
use Rattle.log_run.specs.Log.{log_run, begun, run_lines}
use Rattle.refusals.specs.declared.Refusal.{Refusal}
use Rattle.refusals.specs.Numbers.{number}
use Rattle.unity_table.specs.Unity.{UnityAnswer}
use Rattle.c_library.specs.declared.Reply.{Reply}
use Rattle.c_library.specs.declared.Unity.{Unity}

-- how many bytes were written, or that they do not fit
abbrev pub placed_reply : Result ℕ Refusal → Reply
placed_reply (Ok size) = record { number = 0; line = 0; size = size }
placed_reply (Err refusal) = record { number = number refusal; line = 0; size = 0 }

-- what election answers come to, as the C library lays it out
abbrev pub unity_reply : UnityAnswer → Unity
unity_reply u = record { number = u.number; row = u.row; mean = u.mean; least = u.least; greatest = u.greatest; won = u.won; empty = u.empty }

-- how many bytes were written, or the ground and the line of a text that is refused
abbrev pub told_reply : Result ℕ Fault → Reply
told_reply (Ok size) = record { number = 0; line = 0; size = size }
told_reply (Err fault) = record { number = number fault.refusal; line = fault.line; size = 0 }

-- the report at the start of the output, or 12 where it does not fit; or the text's number and line
abbrev pub reported_reply : Answer → List ℕ → Reply
reported_reply (Accepted R) out = placed_reply (placing (report_of R) 0 out)
reported_reply (Refused number line) out = record { number = number; line = line; size = 0 }

-- a text without fault, or its number and line
abbrev pub checked_reply : Answer → Reply
checked_reply (Accepted R) = record { number = 0; line = 0; size = 0 }
checked_reply (Refused number line) = record { number = number; line = line; size = 0 }

-- the same bytes at the start of the output
abbrev pub rewritten_reply : Answer → List ℕ → Reply
rewritten_reply (Accepted R) out = placed_reply (placing (text_of R) 0 out)
rewritten_reply (Refused number line) out = record { number = number; line = line; size = 0 }

abbrev pub rewritten_out : Answer → List ℕ → List ℕ
rewritten_out (Accepted R) out = placed (text_of R) 0 out
rewritten_out (Refused number line) out = out

-- the line of the reason for an edit of a text's record, where there is one
abbrev pub why_line : Record → ℕ → List ℕ
why_line R edit = line_if_given edit (reason_of R edit)

-- what is asked of the edit, at no line of the text: 2 and 5, and then 12, the line does not fit at the start of the output, and 15
unfoldable pub why_number : Record → ℕ → List ℕ → ℕ
why_number R edit out = named_fault R edit orelse given_fault edit (reason_of R edit) 0 out

-- the line at the start of the output, or the number of what is asked; or the text's number and line
abbrev pub why_reply : Answer → ℕ → List ℕ → Reply
why_reply (Accepted R) edit out =
    let n = why_number R edit out in record { number = n; line = 0; size = cond (eqb n 0) (length (why_line R edit)) 0 }
why_reply (Refused number line) edit out = record { number = number; line = line; size = 0 }

abbrev pub why_out : Answer → ℕ → List ℕ → List ℕ
why_out (Accepted R) edit out = cond (eqb (why_number R edit out) 0) (placed (why_line R edit) 0 out) out
why_out (Refused number line) edit out = out

-- the answers to a log; and to the lines that follow a log that was kept
abbrev pub answers_to : List ℕ → List ℕ
answers_to log = joined_lines (log_run log).printed

unfoldable pub texts_after : List ℕ → List ℕ → Texts
texts_after kept log = (run_lines (begun (log_run kept).desk (log_run kept).count) (lines log)).printed

abbrev pub answers_after : List ℕ → List ℕ → List ℕ
answers_after kept log = joined_lines (texts_after kept log)

-- answers are told where both the place for work and the output are long enough
abbrev pub fitting : List ℕ → List ℕ → List ℕ → Bool
fitting answers work out = leb (length answers) (length work) && leb (length answers) (length out)

unfoldable pub answered_reply : List ℕ → List ℕ → List ℕ → Reply
answered_reply answers work out = cond (fitting answers work out) (record { number = 0; line = 0; size = length answers }) (record { number = 12; line = 0; size = 0 })

unfoldable pub answered_out : List ℕ → List ℕ → List ℕ → List ℕ
answered_out answers work out = cond (fitting answers work out) (answers ++ drop (length answers) out) out

-- the place for work afterwards: what the kept log prints, and over it what the log prints
unfoldable pub worked : List ℕ → List ℕ → List ℕ → Buffer
worked kept log work =
    with_texts (record { bytes = (with_texts (record { bytes = work; place = 0 }) (log_run kept).printed).bytes; place = 0 }) (texts_after kept log)
