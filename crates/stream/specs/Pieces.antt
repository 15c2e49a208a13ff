-- Input that arrives in pieces, cut into lines: what a line that has not ended keeps, and the lines of all pieces. Assumes nothing.
use Rattle.std.specs.Prelude.{ℕ, suc, cond, List, [], ◌∷◌, ◌++◌, eqb, take, drop}
use Rattle.text_lines.specs.Line.{line_limit}
use Rattle.text_lines.specs.Lines.{lines}

-- the place after the last byte 10; 0 where there is none
unfoldable pub last_end : List ℕ → ℕ
last_end [] = 0
last_end (c ∷ s) = cond (eqb (last_end s) 0) (cond (eqb c 10) 1 0) (suc (last_end s))

-- the lines that have ended, and what was read of the next one
unfoldable pub ended : List ℕ → List ℕ
ended s = take (last_end s) s

unfoldable pub unended : List ℕ → List ℕ
unended s = drop (last_end s) s

-- What is kept of a line that has not ended: one byte more than any line in form has, so that a line that is too long is still too long.
abbrev pub kept_bytes : ℕ
kept_bytes = suc line_limit

unfoldable pub waiting : List ℕ → List ℕ
waiting s = take kept_bytes (unended s)

-- what the pieces so far came to: the lines that have ended, and what waits for the end of its line
pub record Stream : Type 0 where
  pub told : List (List ℕ)
  pub waits : List ℕ

unfoldable pub no_input : Stream
no_input = record { told = []; waits = [] }

-- one piece more: what waits goes before it
unfoldable pub fed_piece : Stream → List ℕ → Stream
fed_piece F piece = record { told = F.told ++ lines (ended (F.waits ++ piece)); waits = waiting (F.waits ++ piece) }

unfoldable pub fed_pieces : Stream → List (List ℕ) → Stream
fed_pieces F [] = F
fed_pieces F (piece ∷ rest) = fed_pieces (fed_piece F piece) rest

-- THE LINES at the end of the input: what waits is a last line without its end
unfoldable pub stream_lines : Stream → List (List ℕ)
stream_lines F = F.told ++ lines F.waits

-- the input that the pieces are of
unfoldable pub input_of : List (List ℕ) → List ℕ
input_of [] = []
input_of (piece ∷ rest) = piece ++ input_of rest
