-- The bytes that are kept of a line decide it, so that a log in pieces is run as the whole log. Assumes nothing.
use mathlib.Core.Path.{◌≡◌, refl, ap, sym, ◌∙◌}
use mathlib.Core.List.{List, [], ◌∷◌, map}
use Prim.Native.Nat.{ℕ}
use native.Mathlib.Omega.{arith}
use lib.ListN.{length, take}
use lib.Seq.{take_all, length-take-le}
use Rattle.lists.proofs.Lists.{le-by}
use Rattle.text_lines.specs.Lines.{lines}
use Rattle.stream.specs.Pieces.{kept_bytes, no_input, fed_pieces, stream_lines, input_of}
use Rattle.stream.proofs.Pieces.{cut-anywhere}
use Rattle.log_commands.specs.Grammar.{command_read}
use Rattle.log_commands.proofs.Arms.{long_line}
use Rattle.log_run.specs.Log.{Run, run_line, run_lines}

-- 102 BYTES DECIDE A LINE
command-decided : (line : List ℕ) → command_read (take kept_bytes line) ≡ command_read line
command-decided line =
    le-by (length line) kept_bytes
    (λ h. ap command_read (take_all kept_bytes line h))
    (λ h. long_line (take kept_bytes line) (omega (arith, length-take-le kept_bytes line (omega arith))) ∙ sym (long_line line (omega arith)))

line-decided : (r : Run) (line : List ℕ) → run_line r (take kept_bytes line) ≡ run_line r line
unfolding run_line
line-decided r line = rw (command-decided line)

cut-run : (r : Run) (ls : List (List ℕ)) → run_lines r (map (take kept_bytes) ls) ≡ run_lines r ls
unfolding run_lines
cut-run r [] = refl
cut-run r (l ∷ ls) = ap (λ (q : Run). run_lines q (map (take kept_bytes) ls)) (line-decided r l) ∙ cut-run (run_line r l) ls

-- THE RUN OF THE PIECES IS THE RUN OF THE WHOLE LOG, from whatever was run before and wherever it is cut: the desk, the count, and what is printed
pub pieces-run : (r : Run) (pieces : List (List ℕ)) → run_lines r (stream_lines (fed_pieces no_input pieces)) ≡ run_lines r (lines (input_of pieces))
pieces-run r pieces = sym (cut-run r (stream_lines (fed_pieces no_input pieces))) ∙ ap (run_lines r) (cut-anywhere pieces) ∙ cut-run r (lines (input_of pieces))
