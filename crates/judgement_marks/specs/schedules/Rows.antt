-- Inner: document 01, "The bench schedule", by index: which edit may come next, which are hidden, and the row that results. Assumes nothing.
use Rattle.std.specs.Prelude.{◌≡◌, Bool, true, false, not, ◌&&◌, ◌||◌, List, ◌∷◌, map, ℕ, ◌<◌, eqb, length, get_or, take}
use Rattle.std.specs.Prelude as std
use Rattle.std.specs.Prelude.{Some, None}
use Rattle.std.proofs.Math.Option.{Option, none, some}
use Rattle.lists.specs.Lists.{any, mem, ◌among◌, ◌within◌}
use Rattle.record.specs.Record.{Record, names, notafter, enables}
use Rattle.record.specs.Schedule.{needs, ring, bars, barred}
use Rattle.graph.specs.links.Marks.{name_at, marks_of}
use Rattle.graph.specs.links.Resolved.{Resolved}
use Rattle.judgement_marks.specs.declared.row.Row.{Row}

-- x waits, and none that waits comes before it
unfoldable pub free : Record → (ℕ → Bool) → ℕ → Bool
free R waits x = waits x && not (any (λ a. notafter R a x && waits a) (names R))

-- the edit at y is not free, whichever record and test the rows and the marks of what waits are of
abbrev pub HeldBack : List ℕ → List ℕ → ℕ → Type 0
HeldBack rows waits y =
    (R : Record) (test : ℕ → Bool) → Resolved R rows → y < length (names R) → waits ≡ marks_of R test → free R test (name_at R y) ≡ false

-- the name at the index that a search found, if any
abbrev pub found : Record → std.Option ℕ → Option ℕ
found R (Some x) = some (name_at R x)
found R None = none

-- the marks of the hidden edits
abbrev pub Hides : Record → List ℕ → List ℕ → Type 0
Hides R marks hidden = (y : ℕ) → y < length (names R) → eqb (get_or marks y 0) 1 ≡ mem (name_at R y) hidden

-- a set that the schedule goes by: closed, with INIT, of known edits, and none of it barred
pub record Clear (R : Record) (hidden t : List ℕ) : Type 0 where
  pub closed : (a b : ℕ) → enables R a b ≡ true → b among t → a among t
  pub init-in : 0 among t
  pub known : t within names R
  pub clear : (y : ℕ) → y among t → bars R hidden y ≡ false

-- what has come up before x and is not in the set could not enter it now
abbrev pub Missed : Record → List ℕ → List ℕ → ℕ → Type 0
Missed R hidden t x = (y : ℕ) → y < x → mem (name_at R y) t ≡ false → (barred R hidden (name_at R y) || ring R (needs R (name_at R y ∷ t))) ≡ true

-- the row of indexes is this row of names
pub record RowIs (R : Record) (row : Row) (list : List ℕ) : Type 0 where
  pub names-are : map (name_at R) (take row.count row.indexes) ≡ list
  pub known : (q : ℕ) → q < row.count → get_or row.indexes q 0 < length (names R)
