-- The call log: what the questions on a bench print: a head, then a line for each of what is asked for. Assumes nothing.
use Rattle.std.specs.Prelude.{ℕ, ◌-◌, Bool, cond, List, [], ◌∷◌, ◌++◌, eqb, length, get_or, take, drop, Option, Some, None}
use Rattle.lists.specs.Lists.{filter}
use Rattle.record.specs.declared.Edit.{Edit}
use Rattle.catalogue.specs.declared.Entry.{Entry}
use Rattle.catalogue.specs.Entries.{place_of, absent_entry}
use Rattle.catalogue.specs.Chips.{cells}
use Rattle.text_forms.specs.Spelling.{bytes}
use Rattle.text_forms.specs.Form.{fill}
use Rattle.log_forms.specs.Printed.{Texts, texts_from}
use Rattle.log_answers.specs.Answers.{answer_line, bit}
use Rattle.log_answers.specs.declared.bench_answers.Owner.{Owner}
use Rattle.log_answers.specs.declared.bench_answers.Owner.TheVariants.{Chip, Page}

-- Hidden edits: the mark of the first edit stands at 1.
abbrev pub hides : ℕ → Bool
hides mark = eqb mark 1

abbrev pub hidden_line : List ℕ → ℕ → Edit → Texts
hidden_line marks i e = cond (hides (get_or marks i 0)) (answer_line "edit=@\n" (e.name ∷ [])) []

unfoldable pub hidden_text : List Edit → List ℕ → Texts
hidden_text edits marks =
    answer_line "hidden=#\n" (length (filter hides (take (length edits) (drop 1 marks))) ∷ []) ++ texts_from (hidden_line marks) 1 edits

-- The schedule: page q has the q-th edit.
abbrev pub page_line : ℕ → Edit → Texts
page_line page e = answer_line "page=# edit=@\n" (page ∷ e.name ∷ [])

unfoldable pub schedule_text : List Edit → Texts
schedule_text edits = answer_line "last=#\n" (length edits ∷ []) ++ texts_from page_line 1 edits

-- The line of a cell: a chip's, and one that a page of the journal keeps. A cell's number is that of its field.
unfoldable pub cell_form : Owner → List ℕ
cell_form Chip = bytes "chip=# field=% value=#\n"
cell_form Page = bytes "page=# field=% value=#\n"

-- the filled cells of an entry; the label is the chip or the page
abbrev pub cell_line : Owner → ℕ → ℕ → Option ℕ → Texts
cell_line owner label field None = []
cell_line owner label field (Some value) = fill (cell_form owner) (label ∷ field ∷ value ∷ []) ∷ []

abbrev pub cells_text : Owner → ℕ → List (Option ℕ) → Texts
cells_text owner label cells = texts_from (cell_line owner label) 0 cells

-- The catalogue: the present entries.
abbrev pub is_present : Entry cells → Bool
is_present entry = entry.present

unfoldable pub entry_text : ℕ → Entry cells → Texts
entry_text chip entry = cond (is_present entry) (answer_line "chip=#\n" (chip ∷ []) ++ cells_text Chip chip entry.cells) []

unfoldable pub catalogue_text : List (Entry cells) → Texts
catalogue_text entries = answer_line "chips=#\n" (length (filter is_present entries) ∷ []) ++ texts_from entry_text 0 entries

-- The journal: for each open page the touched chip and the entry as it was before. Row q - 1 is that of page q.
unfoldable pub row_text : ℕ → Edit → Entry cells → Texts
row_text page e row = answer_line "page=# chip=# present=?\n" (page ∷ place_of e.body ∷ bit row.present ∷ []) ++ cells_text Page page row.cells

abbrev pub row_at : List (Entry cells) → ℕ → Edit → Texts
row_at rows page e = row_text page e (get_or rows (page - 1) (absent_entry cells))

unfoldable pub journal_text : List Edit → List (Entry cells) → Texts
journal_text edits rows = answer_line "open=#\n" (length edits ∷ []) ++ texts_from (row_at rows) 1 edits

-- The open and the last page.
abbrev pub page_text : ℕ → ℕ → Texts
page_text opened last = answer_line "open=# last=#\n" (opened ∷ last ∷ [])
