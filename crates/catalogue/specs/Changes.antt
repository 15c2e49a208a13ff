-- Inner: document 01, "Entries and pages": what a turn and a change promise of a view, for every row of edits and any shelf. Assumes nothing.
use Rattle.std.specs.Prelude.{◌≡◌, List, map, ℕ, ◌≤◌, length, take}
use Rattle.record.specs.declared.Edit.{Edit}
use Rattle.record.specs.declared.Field.{Field}
use Rattle.record.specs.declared.Schedule.{Schedule}
use Rattle.record.specs.Record.{name_of}
use Rattle.pages.specs.Steps.{common_beginning}
use Rattle.catalogue.specs.declared.View.{View}
use Rattle.catalogue.specs.Shelves.{rows, shelf_view, schedule_of}

-- the pages that the open part of a row of edits and a new row have in common at their beginning
unfoldable pub common : List Edit → List Edit → ℕ
common opened new = common_beginning (map name_of opened) (map name_of new)

module _ (n places : ℕ) (place : Edit → ℕ) (cell : Field → ℕ) where
  -- From a view of the first `opened` edits of a row to that of the first `page` edits.
  unfoldable pub ViewTurns : Schedule → ℕ → ℕ → View n places → View n places → Type 0
  ViewTurns schedule opened page view r =
      (edits : List Edit) → length edits ≤ rows → schedule ≡ schedule_of edits → opened ≤ length edits → page ≤ length edits
      → view ≡ shelf_view n places place cell (take opened edits) → r ≡ shelf_view n places place cell (take page edits)

  -- From a view of the first `opened` edits of a row to that of all the edits of a new row, which begins with the same c edits.
  unfoldable pub ViewChanges : Schedule → ℕ → Schedule → ℕ → View n places → View n places → Type 0
  ViewChanges old opened new c view r =
      (edits news : List Edit) → length edits ≤ rows → length news ≤ rows → old ≡ schedule_of edits → new ≡ schedule_of news → opened ≤ length edits
      → take c (take opened edits) ≡ take c news → view ≡ shelf_view n places place cell (take opened edits) → r ≡ shelf_view n places place cell news
