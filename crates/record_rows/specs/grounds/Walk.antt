-- Inner: the walk that checks a lent table against an ascending one, row by row; no ground speaks of it. Assumes nothing.
use Rattle.std.specs.Prelude.{◌≡◌, Bool, true, false, cond, not, ◌&&◌, [], ◌∷◌, ℕ, ◌≤◌, ◌<◌, leb, length, take, get_or, Result, Ok, Err}
use Rattle.lists.specs.Lists.{any}
use Rattle.lists.specs.Keyed.{precedes}
use Rattle.refusals.specs.declared.Refusal.{Refusal}
use Rattle.refusals.specs.declared.Refusal.TheVariants.{NoPlace, OtherBody}
use Rattle.record_rows.specs.row.Row.{Row, same}
use Rattle.record_rows.specs.grounds.Ground.{Rows, alike, known, misplaced, ◌given◌, ◌orelse◌}

-- whether a lent row is new to the joined table; or it is refused
abbrev pub as_new : Bool → Result Bool Refusal
as_new true = Err NoPlace
as_new false = Ok true

abbrev pub as_known : Bool → Result Bool Refusal
as_known true = Ok false
as_known false = Err OtherBody

-- rest: the joined table from the row's place on; full: no place is left
unfoldable pub row_joins : ℕ → Rows → Row → Bool → Result Bool Refusal
row_joins key [] row full = as_new full
row_joins key (x ∷ rest) row full = cond (precedes (take key row) (take key x)) (as_new full) (as_known (same row x))

-- p rows of the table, and no more, precede the row
pub record PlaceOf (key : ℕ) (t : Rows) (row : Row) (p : ℕ) : Type 0 where
  pub near : p ≤ length t
  pub under : misplaced key (take p t) row ≡ false
  pub stops : p < length t → precedes (take key (get_or t p [])) (take key row) ≡ false

-- the lowest of 3 and 4 that holds of a row, where count places are taken
unfoldable pub place_fault : ℕ → ℕ → Rows → ℕ → Rows → Row → ℕ
place_fault key limit joined count above row =
    3 given (not (known key row joined) && (not (known key row above) && leb limit count)) orelse 4 given (not (known key row above) && any (λ r. alike key row r && not (same row r)) joined)
