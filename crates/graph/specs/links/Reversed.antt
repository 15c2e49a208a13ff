-- Inner: The reversed graph of notafter: rows by their left edits, with the right ones. Assumes nothing.
use Rattle.std.specs.Prelude.{◌≡◌, true, List, map, ℕ, ◌<◌, length, get_or}
use Rattle.record.specs.Record.{Record, notafter}
use Rattle.graph.specs.declared.reversed_row.ReversedRow.{ReversedRow}
use Rattle.graph.specs.links.Links.{notafter_base, left_at, LinkedByKey, RowOf}

-- each row of notafter stands among the reversed rows; no more is asked of these
pub record Reversed (R : Record) (rows : List ℕ) : Type 0 where
  pub keys : List ℕ
  pub linked : LinkedByKey keys rows
  pub row_of : (a b : ℕ) → notafter R a b ≡ true → RowOf R notafter_base keys rows b a

-- what is noted of the row i: its left edit and its right one
abbrev pub Noted : List ℕ → List ReversedRow → ℕ → ℕ → Type 0
Noted rows reversed i b = (d : ReversedRow) → ((get_or reversed i d).from ≡ left_at rows i) × ((get_or reversed i d).to ≡ b)

-- Of the rows with the right edit b all is noted, and the others are as before.
pub record Noting (rows : List ℕ) (b : ℕ) (reversed reversed' : List ReversedRow) : Type 0 where
  pub size : length reversed' ≡ length reversed
  pub noted : (keys : List ℕ) → LinkedByKey keys rows → (i : ℕ) → i < length keys → get_or keys i 0 ≡ b → Noted rows reversed' i b
  pub kept : (keys : List ℕ) → LinkedByKey keys rows → (i y : ℕ) → i < length keys → (get_or keys i 0 ≡ b → ⊥) → Noted rows reversed i y → Noted rows reversed' i y

-- The rows that are noted are linked: by their left edits, with the right ones.
pub record LinksReversed (reversed : List ReversedRow) (rows : List ℕ) : Type 0 where
  pub linked : LinkedByKey (map (λ r. r.from) reversed) rows
  pub lefts : (i : ℕ) (d : ReversedRow) → i < length reversed → left_at rows i ≡ (get_or reversed i d).to
