-- Document 01, "Entries and pages": the chip catalogue has 64 places of four cells. Assumes nothing.
use Rattle.std.specs.Prelude.{List, ℕ}
use Rattle.record.specs.declared.Edit.{Edit}
use Rattle.record_rows.specs.row.Row.{place_limit, field_number}
use Rattle.pages.specs.Pages as pages
use Rattle.catalogue.specs.declared.View.{View}
use Rattle.catalogue.specs.Entries.{place_of}
use Rattle.catalogue.specs.Shelves.{shelf, shelf_view}

abbrev pub cells : ℕ
cells = 4

abbrev pub places : ℕ
places = place_limit

-- every edit touches the chip of its place
abbrev pub chip_place : Edit → ℕ
chip_place edit = place_of edit.body

abbrev pub chips : pages.Shelf
chips = shelf cells chip_place field_number

-- the view that open edits make
unfoldable pub chips_view : List Edit → View cells places
chips_view edits = shelf_view cells places chip_place field_number edits
