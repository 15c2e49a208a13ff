-- The call log: what its answers have in common. Assumes nothing.
use Rattle.std.specs.Prelude.{ℕ, Bool, cond, List, [], ◌∷◌, eqb}
use Prim.Native.String.{String}
use Rattle.record.specs.declared.Record as declared
use Rattle.record.specs.Stored.{record_of}
use Rattle.text_forms.specs.Spelling.{bytes}
use Rattle.text_forms.specs.Form.{fill}
use Rattle.text.specs.Text.{text_of}
use Rattle.text_report.specs.Report.{counts_form, refusal_line}
use Rattle.log_forms.specs.Printed.{Texts}

-- a line by its form, as it is quoted
abbrev pub answer_line : String → List ℕ → Texts
answer_line form numbers = fill (bytes form) numbers ∷ []

-- yes is 1 and no is 0
abbrev pub bit : Bool → ℕ
bit b = cond b 1 0

-- the answer, or the refusal with the line's number
abbrev pub answered_text : ℕ → Texts → ℕ → Texts
answered_text number texts line = cond (eqb number 0) texts (refusal_line number line ∷ [])

-- the counts of a record and its text
abbrev pub stored_text : declared.Record → List ℕ
stored_text r = text_of (record_of r)

unfoldable pub record_text : declared.Record → Texts
record_text r = fill counts_form (r.edit_count ∷ r.constraint_count ∷ []) ∷ stored_text r ∷ []
