-- Document 02, A3: the line of a reason, and its grounds: those of an edit of a lent record, then 12, no room, then 15, no reason. Assumes nothing.
use Rattle.std.specs.Prelude.{not, cond, List, [], ◌∷◌, ◌++◌, ℕ, eqb, Option, Some, None, is_none}
use Rattle.std.specs.List.{join_by}
use Rattle.record_rows.specs.grounds.Ground.{Rows, ◌given◌, ◌orelse◌}
use Rattle.record_tables.specs.Table.{decoded}
use Rattle.text_forms.specs.Spelling.{bytes}
use Rattle.text_forms.specs.Form.{fill}
use Rattle.text_writer.specs.Placed.{fits_at, placed}
use Rattle.judgement.specs.lent_edit.Asked.{lent_edit_fault}
use Rattle.reasons.specs.Reasons.{Reason, must_by, never_by, names_printed}
use Rattle.reasons.specs.Given.{reason_of}

-- @ for each name, with commas between
unfoldable pub name_marks : List ℕ → List ℕ
name_marks = join_by (λ name. bytes "@") (bytes ",")

-- what stands before the names of a chain of must, of a chain of never, and of a ring
unfoldable pub must_words : List ℕ
must_words = bytes "edit=@ why=must chain="

unfoldable pub never_words : List ℕ
never_words = bytes "edit=@ why=never chain="

unfoldable pub ring_words : List ℕ
ring_words = bytes " ring="

unfoldable pub reason_form : Reason → List ℕ
reason_form (must_by chain) = must_words ++ name_marks chain ++ bytes "\n"
reason_form (never_by chain ring) = never_words ++ name_marks chain ++ ring_words ++ name_marks ring ++ bytes "\n"

-- the form with the edit and the names of the chain, and of an edit that can never stand those of the ring
unfoldable pub reason_line : ℕ → Reason → List ℕ
reason_line edit reason = fill (reason_form reason) (edit ∷ names_printed reason)

-- where there is no reason there is no line
abbrev pub line_if_given : ℕ → Option Reason → List ℕ
line_if_given edit (Some reason) = reason_line edit reason
line_if_given edit None = []

-- the number: 12, the line does not fit, or its place is past the end; 15, there is no reason
unfoldable pub given_fault : ℕ → Option Reason → ℕ → List ℕ → ℕ
given_fault edit found at out = 12 given not (fits_at (line_if_given edit found) at out) orelse 15 given is_none found

-- the output afterwards; refused, as it was
unfoldable pub given_out : ℕ → Option Reason → ℕ → List ℕ → List ℕ
given_out edit found at out = cond (eqb (given_fault edit found at out) 0) (placed (line_if_given edit found) at out) out

-- the line of the reason that is given for an edit of lent tables
abbrev pub explained : Rows → Rows → ℕ → List ℕ
explained edits constraints edit = line_if_given edit (reason_of (decoded edits constraints) edit)

unfoldable pub explained_fault : Rows → Rows → ℕ → ℕ → List ℕ → ℕ
explained_fault edits constraints edit at out =
    lent_edit_fault edits constraints edit orelse given_fault edit (reason_of (decoded edits constraints) edit) at out

unfoldable pub explained_out : Rows → Rows → ℕ → ℕ → List ℕ → List ℕ
explained_out edits constraints edit at out =
    cond (eqb (explained_fault edits constraints edit at out) 0) (placed (explained edits constraints edit) at out) out
