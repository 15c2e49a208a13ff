-- Document 01, "Text": the rows that the lines of a text give in any manner, before their record is judged. Assumes nothing.
use Rattle.std.specs.Prelude.{cond, List, [], ◌∷◌, ℕ}
use Rattle.text_lines.specs.Lines.{lines}
use Rattle.text.specs.Text.{Manner, Parsed, Answer, Accepted, Refused, ◌followed_by◌, ReadSoFar, text_begun, awaits_header, line_fed, old_manner}

module _ (M : Manner) where
  -- line by line; the first faulty line decides
  unfoldable pub rows_from : ReadSoFar → List (List ℕ) → Parsed ReadSoFar
  rows_from before [] = Accepted before
  rows_from before (line ∷ rest) = line_fed M before line followed_by (λ now. rows_from now rest)

  -- the record of the rows; 1 at line 1 where the header lacks
  unfoldable pub record_held : ReadSoFar → Answer
  record_held held = cond (awaits_header M held.count) (Refused 1 1) (Accepted (M.gathered held.edits held.constraints))

  unfoldable pub read_rows_in : List ℕ → Answer
  read_rows_in text = rows_from text_begun (lines text) followed_by record_held

abbrev pub read_rows : List ℕ → Answer
read_rows = read_rows_in old_manner
