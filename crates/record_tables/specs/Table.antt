-- Document 01, "The record" and "What is turned away": the tables of edits and of constraints that join a record, the number that is given, and the union. Assumes nothing.
use Rattle.std.specs.Prelude.{Bool, true, false, not, ◌&&◌, ◌||◌, List, [], ◌∷◌, map, ℕ, ltb, eqb}
use Rattle.record.specs.declared.Edit.{Edit}
use Rattle.record.specs.declared.Constraint.{Constraint}
use Rattle.lists.specs.Lists.{mem}
use Rattle.record.specs.Record.{Record, written}
use Rattle.lists.specs.Keyed.{united}
use Rattle.record.specs.Stored.{edit_limit, constraint_limit}
use Rattle.record_rows.specs.row.Row.{Row, name_cell, constraint_cells, edit_in_range, constraint_in_range, edit_of, constraint_of, edit_row, constraint_row}
use Rattle.record_rows.specs.grounds.Ground.{Rows, TableKind, table_fault, ◌given◌, ◌orelse◌}

-- the rows of a record's tables, and the record that two tables are
abbrev pub edit_rows : Record → Rows
edit_rows R = map edit_row R.edits

abbrev pub constraint_rows : Record → Rows
constraint_rows R = map constraint_row R.constraints

abbrev pub decoded : Rows → Rows → Record
decoded edits constraints = record { edits = map edit_of edits; constraints = map constraint_of constraints }

abbrev pub empty_tables : Record
empty_tables = record { edits = []; constraints = [] }

-- 5: edit not known; INIT is always known
unfoldable pub unknown : List ℕ → ℕ → ℕ → Bool
unknown names left right = not (mem left (0 ∷ names) && mem right (0 ∷ names))

-- 6: pair not allowed: 0 elsewhere than on the right of enables, an edit enables or noncommuting itself, higher name left in noncommuting
unfoldable pub pair_not_allowed : ℕ → ℕ → ℕ → Bool
pair_not_allowed left rule right =
    eqb left 0 || ((eqb right 0 && not (eqb rule 1)) || ((eqb left right && not (eqb rule 0)) || (eqb rule 2 && ltb right left)))

-- 7: a decision: "a enables 0" or "a notafter a"
unfoldable pub decision : ℕ → ℕ → ℕ → Bool
decision left rule right = (eqb rule 1 && eqb right 0) || (eqb rule 0 && eqb left right)

-- 5, 6 and 7 of a constraint row; names: the edits that it knows; adding: it is given to add
unfoldable pub constraint_further : List ℕ → Bool → Row → ℕ
constraint_further names adding row =
    5 given unknown names (constraint_cells row).left (constraint_cells row).right orelse 6 given pair_not_allowed (constraint_cells row).left (constraint_cells row).rule (constraint_cells row).right
    orelse 7 given (adding && decision (constraint_cells row).left (constraint_cells row).rule (constraint_cells row).right)

-- the two kinds of table: an edit's key is its name, a constraint is all key, so that 4 never holds of it
abbrev pub edit_kind : TableKind
edit_kind = record { key = 1; limit = edit_limit; in_range = edit_in_range; further = λ row. 0 }

abbrev pub constraint_kind : List ℕ → Bool → TableKind
constraint_kind names adding = record { key = 3; limit = constraint_limit; in_range = constraint_in_range; further = constraint_further names adding }

-- two tables join a record: edits first, then constraints
unfoldable pub join_fault : Record → List ℕ → Bool → Rows → Rows → ℕ
join_fault R names adding edits constraints =
    table_fault edit_kind (edit_rows R) edits orelse table_fault (constraint_kind names adding) (constraint_rows R) constraints

-- the names of a table of edits
abbrev pub names_of : Rows → List ℕ
names_of edits = map name_cell edits

-- a lent record joins a record, or by itself the empty one; its constraints know only its own edits
abbrev pub lent_fault : Record → Rows → Rows → ℕ
lent_fault R edits constraints = join_fault R (names_of edits) false edits constraints

-- an add is one edit or one constraint; it knows the record's edits, and decisions are refused
abbrev pub add_edit_fault : Record → Row → ℕ
add_edit_fault R row = join_fault R (written R) true (row ∷ []) []

abbrev pub add_constraint_fault : Record → Row → ℕ
add_constraint_fault R row = join_fault R (written R) true [] (row ∷ [])

-- a record joins another: the old proposal joins a record, or a won bundle does
abbrev pub record_join_fault : Record → Record → ℕ
record_join_fault R S = lent_fault R (edit_rows S) (constraint_rows S)

-- merge is set union; a known name keeps its row
abbrev pub edit_key : Edit → List ℕ
edit_key e = e.name ∷ []

abbrev pub constraint_key : Constraint → List ℕ
constraint_key c = c.left ∷ c.rule ∷ c.right ∷ []

unfoldable pub unite : Record → Record → Record
unite R S =
    record {
      edits = united edit_key R.edits S.edits;
      constraints = united constraint_key R.constraints S.constraints;
    }
