-- Document 01, "Text": lines written after the bytes that already stand there, at a given place, where they fit. Assumes nothing.
use Rattle.std.specs.Prelude.{Bool, cond, List, ◌++◌, ℕ, ◌+◌, leb, length, take, drop, Result, Ok, Err}
use Rattle.record.specs.declared.Edit.{Edit}
use Rattle.record.specs.declared.Constraint.{Constraint}
use Rattle.record.specs.declared.Record as declared
use Rattle.record.specs.Stored.{record_of}
use Rattle.record_rows.specs.row.Row.{edit_row, constraint_row}
use Rattle.record_tables.specs.Table.{edit_rows, constraint_rows}
use Rattle.refusals.specs.declared.Refusal.{Refusal}
use Rattle.refusals.specs.declared.Refusal.TheVariants.{NoRoom}
use Rattle.text.specs.Text.{Manner, rows_text}

abbrev pub fits_at : List ℕ → ℕ → List ℕ → Bool
fits_at text at out = leb (at + length text) (length out)

-- the output afterwards: what stood before the place, the text, what stood after it
unfoldable pub placed : List ℕ → ℕ → List ℕ → List ℕ
placed text at out = cond (fits_at text at out) (take at out ++ (text ++ drop (at + length text) out)) out

-- the place after the text
unfoldable pub placing : List ℕ → ℕ → List ℕ → Result ℕ Refusal
placing text at out = cond (fits_at text at out) (Ok (at + length text)) (Err NoRoom)

-- the line of an edit in a manner, and of a constraint
abbrev pub edit_text : Manner → Edit → List ℕ
edit_text M e = M.line.edit (edit_row e)

abbrev pub constraint_text : Manner → Constraint → List ℕ
constraint_text M c = M.line.constraint (constraint_row c)

-- the lines of a stored record's tables as they stand, and the header before them
abbrev pub tables_text : Manner → declared.Record → List ℕ
tables_text M content = rows_text M (edit_rows (record_of content)) (constraint_rows (record_of content))

abbrev pub headed_text : Manner → declared.Record → List ℕ
headed_text M content = M.header ++ tables_text M content
