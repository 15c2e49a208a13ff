-- Inner: hide and show as one change of a mark; what is turned away says the crate ledger. Assumes nothing.
use Rattle.std.specs.Prelude.{Bool, true, false, not, ℕ}
use Rattle.lists.specs.Lists.{mem}
use Rattle.record.specs.Record.{Record, written}
use Rattle.record_rows.specs.row.Row.{is_name}
use Rattle.record_rows.specs.grounds.Ground.{◌given◌, ◌orelse◌}
use Rattle.ledger.specs.Ledger.{Call, hide, show}

-- the number of the ground on which an edit of this name is turned away, 0 for none
abbrev pub name_fault : Record → ℕ → ℕ
name_fault R x = 2 given not (is_name x) orelse 5 given not (mem x (written R))

-- the call that gives an edit the mark 1, or 0
abbrev pub mark_call : Bool → ℕ → Call
mark_call true x = hide x
mark_call false x = show x
