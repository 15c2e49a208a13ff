-- Document 01, "What is turned away": the grounds that a row of a table meets, one condition each, and the number that is given. For tables of any kind. Assumes nothing.
use Rattle.std.specs.Prelude.{Bool, cond, not, ◌&&◌, List, [], ◌∷◌, ◌++◌, ℕ, leb, eqb, length, take}
use Rattle.lists.specs.Lists.{any}
use Rattle.lists.specs.Keyed.{precedes, united}
use Rattle.record_rows.specs.row.Row.{Row, same}

abbrev pub Rows : Type 0
Rows = List Row

-- a number that is given when its condition holds; 0 is no fault
infix 40 ◌given◌
infixr 30 ◌orelse◌
abbrev pub ◌given◌ : ℕ → Bool → ℕ
number given condition = cond condition number 0

-- the first of two numbers that is given
abbrev pub ◌orelse◌ : ℕ → ℕ → ℕ
a orelse b = cond (eqb a 0) b a

-- The conditions speak of `joined`, the rows of the record that a row joins, and of `above`, the rows of its own table above it. The first `key` cells are a row's key.
module _ (key : ℕ) where
  abbrev pub alike : Row → Row → Bool
  alike a b = same (take key a) (take key b)

  abbrev pub known : Row → Rows → Bool
  known row t = any (alike row) t

  -- 3: a new row, and the record that it joins, with the rows above it, has no place left
  unfoldable pub no_place : ℕ → Rows → Rows → Row → Bool
  no_place limit joined above row = not (known row joined) && (not (known row above) && leb limit (length (united (take key) joined above)))

  -- 4: a known name with another body; a name repeated in its own table is not compared
  unfoldable pub other_body : Rows → Rows → Row → Bool
  other_body joined above row = not (known row above) && any (λ r. alike row r && not (same row r)) joined

  -- 13: out of order or repeated: a row above does not precede it
  unfoldable pub misplaced : Rows → Row → Bool
  misplaced above row = any (λ r. not (precedes (take key r) (take key row))) above

-- A kind of table: how many cells are a row's key, how many rows a record has places for, the range of a row, and the number of the grounds between 4 and 13.
pub record TableKind : Type 0 where
  pub key : ℕ
  pub limit : ℕ
  pub in_range : Row → Bool
  pub further : Row → ℕ

-- the lowest number that applies to a row
unfoldable pub row_fault : TableKind → Rows → Rows → Row → ℕ
row_fault K joined above row =
    2 given not (K.in_range row) orelse 3 given no_place K.key K.limit joined above row orelse 4 given other_body K.key joined above row
    orelse K.further row orelse 13 given misplaced K.key above row

-- the first faulty row decides; f is the number of a row below those above it
unfoldable pub first_fault : (Rows → Row → ℕ) → Rows → Rows → ℕ
first_fault f above [] = 0
first_fault f above (row ∷ rest) = f above row orelse first_fault f (above ++ (row ∷ [])) rest

abbrev pub table_fault : TableKind → Rows → Rows → ℕ
table_fault K joined t = first_fault (row_fault K joined) [] t
