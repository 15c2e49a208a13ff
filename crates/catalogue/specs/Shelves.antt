-- Document 01, "Entries and pages": shelves of entries with any number of cells and places, their views and a schedule as they are stored. Assumes nothing.
use Rattle.std.specs.Prelude.{List, ℕ, length, replicate}
use Rattle.record.specs.declared.Edit.{Edit}
use Rattle.record.specs.declared.Field.{Field}
use Rattle.record.specs.declared.Schedule.{Schedule}
use Rattle.record.specs.Stored.{padded, filler_edit, edit_limit}
use Rattle.pages.specs.Pages as pages
use Rattle.catalogue.specs.declared.Entry.{Entry}
use Rattle.catalogue.specs.declared.View.{View}
use Rattle.catalogue.specs.Entries.{absent_entry, run_body}

-- A shelf by its number of cells, the place of it that an edit touches, past the last where it touches none, and the cell that a field fills.
abbrev pub shelf : ℕ → (Edit → ℕ) → (Field → ℕ) → pages.Shelf
shelf n place cell = record { Edit = Edit; Entry = Entry n; absent = absent_entry n; place = place; action = λ edit. run_body n cell edit.body }

-- the rows of a journal, one for each page that a schedule may have
abbrev pub rows : ℕ
rows = edit_limit

-- a view as it is stored, and what it holds
abbrev pub stored_view : {n places : ℕ} → pages.View (Entry n) → View n places
stored_view view = record { catalogue = record { entries = view.catalogue }; journal = record { rows = view.journal } }

abbrev pub content_of : {n places : ℕ} → View n places → pages.View (Entry n)
content_of view = record { catalogue = view.catalogue.entries; journal = view.journal.rows }

-- no entry is present, and no page is open
abbrev pub empty_view : (n places : ℕ) → View n places
empty_view n places = stored_view (record { catalogue = replicate places (absent_entry n); journal = replicate rows (absent_entry n) })

-- the view that open edits make
abbrev pub shelf_view : (n places : ℕ) → (Edit → ℕ) → (Field → ℕ) → List Edit → View n places
shelf_view n places place cell edits = stored_view (pages.view_of (shelf n place cell) places rows edits)

-- a row of edits, no longer than a journal, as it is stored
unfoldable pub schedule_of : List Edit → Schedule
schedule_of edits = record { edits = padded rows filler_edit edits; count = length edits }
