-- Document 01, "Sound, must, never, settled" and "The bench schedule", as values: what the judgement of a record in memory gives. Assumes nothing.
use Rattle.std.specs.Prelude.{List, [], map, ℕ, eqb, length, get_or, drop}
use Rattle.record.specs.declared.Edit.{Edit}
use Rattle.record.specs.declared.Schedule.{Schedule}
use Rattle.lists.specs.Lists.{filter, index_of}
use Rattle.record.specs.Record.{Record, names}
use Rattle.record.specs.Stored.{padded, filler_edit, edit_limit, edit_named}
use Rattle.record.specs.Schedule.{schedule}
use Rattle.record.specs.Judgement.{must, never, settled}
use Rattle.graph.specs.links.Marks.{values_of, marks_of, place_in}
use Rattle.judgement.specs.declared.Judged.{Judged}

-- the edits whose mark is 1
unfoldable pub marked_edits : Record → List ℕ → List ℕ
marked_edits R marks = filter (λ x. eqb (get_or marks (index_of x (names R)) 0) 1) (names R)

-- the edits of the schedule after INIT, one to a page
unfoldable pub scheduled_edits : Record → List ℕ → List Edit
scheduled_edits R hidden = map (edit_named R.edits) (drop 1 (schedule R hidden))

-- the bench schedule as it is stored
unfoldable pub stored_schedule : Record → List ℕ → Schedule
stored_schedule R hidden = record { edits = padded edit_limit filler_edit (scheduled_edits R hidden); count = length (scheduled_edits R hidden) }

-- must, never and settled of each edit, and its page with nothing hidden (0: not in it)
unfoldable pub judged_of : Record → Judged
judged_of R = record { must = marks_of R (must R); never = marks_of R (never R); settled = marks_of R (settled R); place = values_of R (place_in (schedule R [])) }
