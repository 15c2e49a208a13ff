-- Inner: rows linked by their keys: a key's head is its last row, and each row leads to the one before it with the same key. Rows count from 1. Assumes nothing.
use Rattle.std.specs.Prelude.{◌≡◌, Bool, true, cond, List, ℕ, zero, suc, ◌+◌, ◌-◌, ◌≤◌, ◌<◌, eqb, length, get_or, set, Option, MatchOption}
use Rattle.lists.specs.Lists.{index_of, ◌among◌, distinct}
use Rattle.record.specs.Record.{Record, names}
use Rattle.graph.specs.links.Marks.{mark_limit, name_at}

-- The key of a row is the index of its right edit above the base of its rule.
abbrev pub notafter_base : ℕ
notafter_base = 0

abbrev pub enables_base : ℕ
enables_base = mark_limit

abbrev pub noncommuting_base : ℕ
noncommuting_base = enables_base + mark_limit

-- One array holds the heads of all keys, then the links and then the left ends of so many rows.
abbrev pub key_limit : ℕ
key_limit = noncommuting_base + mark_limit

abbrev pub row_limit : ℕ
row_limit = 1024

abbrev pub lefts_start : ℕ
lefts_start = key_limit + row_limit

abbrev pub rows_length : ℕ
rows_length = lefts_start + row_limit

-- the last row up to p with the key k; 0 where there is none
unfoldable pub last_row : List ℕ → ℕ → ℕ → ℕ
last_row keys k zero = 0
last_row keys k (suc p) = cond (eqb (get_or keys p 0) k) (suc p) (last_row keys k p)

-- the head of a key; the link and the left end of the row i, counted from 0
unfoldable pub head_at : List ℕ → ℕ → ℕ
head_at rows k = get_or rows k 0

unfoldable pub link_at : List ℕ → ℕ → ℕ
link_at rows i = get_or rows (key_limit + i) 0

unfoldable pub left_at : List ℕ → ℕ → ℕ
left_at rows i = get_or rows (lefts_start + i) 0

-- row i, linked before all others of its key
unfoldable pub with_row : List ℕ → ℕ → ℕ → ℕ → List ℕ
with_row rows i key left = set (set (set rows (key_limit + i) (head_at rows key)) key (i + 1)) (lefts_start + i) left

-- no step along the links leaves the array, and each goes down
pub record Safe (rows : List ℕ) : Type 0 where
  pub head : (k : ℕ) → k < key_limit → head_at rows k ≤ row_limit
  pub link : (i : ℕ) → i < row_limit → link_at rows i ≤ i
  pub left : (i : ℕ) → i < row_limit → left_at rows i < mark_limit

-- the rows up to j are linked, whatever they are
pub record Growing (rows : List ℕ) (j : ℕ) : Type 0 where
  pub size : length rows ≡ rows_length
  pub head : (k : ℕ) → k < key_limit → head_at rows k ≤ j
  pub link : (i : ℕ) → i < row_limit → link_at rows i ≤ i
  pub left : (i : ℕ) → i < row_limit → left_at rows i < mark_limit

-- what a walk reads: the first row of a key, the one after row j, the left end of row j
abbrev pub FirstRow : List ℕ → ℕ → ℕ → Type 0
FirstRow rows key r = (r ≡ head_at rows key) × (r ≤ row_limit)

abbrev pub NextRow : List ℕ → ℕ → ℕ → Type 0
NextRow rows j r = (r ≡ link_at rows (j - 1)) × (r < j)

abbrev pub LeftEnd : List ℕ → ℕ → ℕ → Type 0
LeftEnd rows j r = (r ≡ left_at rows (j - 1)) × (r < mark_limit)

-- a walk at row j gives the left end of that row, and goes on after it; it ends at 0
abbrev pub Walks : List ℕ → ℕ → Option ℕ → List ℕ → ℕ → Type 0
Walks rows j r rows' j' = (rows' ≡ rows) × MatchOption r (j ≡ 0) (λ left. (0 < j) × LeftEnd rows j left × NextRow rows j j')

-- the rows of these keys are linked
pub record LinkedByKey (keys rows : List ℕ) : Type 0 where
  pub head : (k : ℕ) → k < key_limit → head_at rows k ≡ last_row keys k (length keys)
  pub link : (i : ℕ) → i < length keys → link_at rows i ≡ last_row keys (get_or keys i 0) i

-- no row of the key has a left of which P holds
abbrev pub NoRow : List ℕ → ℕ → (ℕ → Type 0) → Type 0
NoRow rows k P = (keys : List ℕ) → LinkedByKey keys rows → (i : ℕ) → i < length keys → get_or keys i 0 ≡ k → P (left_at rows i) → ⊥

-- some row has
pub record RowWith (rows keys : List ℕ) (k : ℕ) (P : ℕ → Type 0) : Type 0 where
  pub row : ℕ
  pub low : row < length keys
  pub key : get_or keys row 0 ≡ k
  pub holds : P (left_at rows row)

abbrev pub SomeRow : List ℕ → ℕ → (ℕ → Type 0) → Type 0
SomeRow rows k P = (keys : List ℕ) → LinkedByKey keys rows → RowWith rows keys k P

-- the row of "a leads to b": its left is a's index, its key is b's index above the base
pub record RowOf (R : Record) (base : ℕ) (keys rows : List ℕ) (a b : ℕ) : Type 0 where
  pub row : ℕ
  pub low : row < length keys
  pub left-known : a among names R
  pub right-known : b among names R
  pub left : left_at rows row ≡ index_of a (names R)
  pub key : get_or keys row 0 ≡ base + index_of b (names R)

-- The linked rows above the base are those of the relation `leads` between the edits of R.
pub record Leads (leads : ℕ → ℕ → Bool) (R : Record) (base : ℕ) (rows : List ℕ) : Type 0 where
  pub apart : distinct (names R) ≡ true
  pub few : length (names R) ≤ mark_limit
  pub keys : List ℕ
  pub linked : LinkedByKey keys rows
  pub known : (i y : ℕ) → i < length keys → y < length (names R) → get_or keys i 0 ≡ base + y → left_at rows i < length (names R)
  pub holds : (i y : ℕ) → i < length keys → y < length (names R) → get_or keys i 0 ≡ base + y → leads (name_at R (left_at rows i)) (name_at R y) ≡ true
  pub row_of : (a b : ℕ) → leads a b ≡ true → RowOf R base keys rows a b
