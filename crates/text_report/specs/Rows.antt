-- Inner: the report's lines as the code takes them out of a judgement; Report.antt says what is printed. Assumes nothing.
use Rattle.std.specs.Prelude.{List, [], ◌∷◌, ℕ, suc, get_or}
use Rattle.record.specs.declared.Edit.{Edit}
use Rattle.judgement.specs.declared.Judged.{Judged}
use Rattle.text_forms.specs.Form.{fill}
use Rattle.text_report.specs.declared.ReportLine.{ReportLine}
use Rattle.text_report.specs.Report.{report_form}

abbrev pub line_text : ReportLine → List ℕ
line_text l = fill report_form l.numbers

-- where there is no edit
abbrev pub no_line : ReportLine
no_line = record { numbers = 0 ∷ 0 ∷ 0 ∷ 0 ∷ 0 ∷ [] }

abbrev pub line_at : ℕ → Judged → ℕ → ReportLine
line_at name j index =
    record { numbers = name ∷ get_or j.must index 0 ∷ get_or j.never index 0 ∷ get_or j.settled index 0 ∷ get_or j.place index 0 ∷ [] }

-- of edits whose indexes begin with one
unfoldable pub report_lines : Judged → ℕ → List Edit → List ReportLine
report_lines j index [] = []
report_lines j index (e ∷ l) = line_at e.name j index ∷ report_lines j (suc index) l
