-- Document 02, A9: the answers of elections as lines, one to an answer, and what is printed of them. Assumes nothing.
use Rattle.std.specs.Prelude.{Bool, true, false, not, cond, List, [], ◌∷◌, map, ℕ, leb, ltb, eqb, length}
use Rattle.std.proofs.Math.Option.{Option, none, some}
use Rattle.record_rows.specs.grounds.Ground.{◌given◌, ◌orelse◌}
use Rattle.text_forms.specs.Spelling.{bytes}
use Rattle.text_forms.specs.Form.{fill, taken}
use Rattle.text_lines.specs.Lines.{lines}
use Rattle.text.specs.Text.{joined_lines}
use Rattle.text_report.specs.Report.{refusal_line}
use Rattle.text_lines.specs.Line.{line_limit}
use Rattle.unity_table.specs.declared.Weights.{Weights}
use Rattle.unity_table.specs.Unity.{weights_of, weights_fault, deciding_fault, UnityAnswer, unity_by}

unfoldable pub weights_form : List ℕ
weights_form = bytes "greatest=# silent=# total=#\n"

unfoldable pub unity_form : List ℕ
unity_form = bytes "mean=#/# least=#/# greatest=#/# won=# empty=#\n"

-- the numbers of a line with its end
unfoldable pub numbers_in : List ℕ → Option (List ℕ)
numbers_in line = cond (ltb line_limit (length line)) none (taken weights_form line)

abbrev pub is_some : Option (List ℕ) → Bool
is_some none = false
is_some (some ns) = true

-- the answer of these numbers; of a line that is not in form nothing is asked
abbrev pub weights_by : Option (List ℕ) → Weights
weights_by none = weights_of []
weights_by (some ns) = weights_of ns

abbrev pub in_form : List ℕ → Bool
in_form line = is_some (numbers_in line)

abbrev pub weights_in : List ℕ → Weights
weights_in line = weights_by (numbers_in line)

-- the lowest number that applies to a line below those above it: 1 where it is not in form, then those of its answer. A number that does not fit 32 bits is out of range.
unfoldable pub weights_line_fault : List (List ℕ) → List ℕ → Bool → ℕ
weights_line_fault above line last = 1 given not (in_form line) orelse weights_fault (map weights_in above) (weights_in line) last

-- what the answers of a text come to; a refusal's row is its line
unfoldable pub text_unity : List ℕ → UnityAnswer
text_unity text = unity_by (deciding_fault weights_line_fault [] (lines text)) (map weights_in (lines text))

-- what is printed
abbrev pub unity_numbers : UnityAnswer → List ℕ
unity_numbers u =
    u.mean.numerator ∷ u.mean.denominator ∷ u.least.numerator ∷ u.least.denominator ∷ u.greatest.numerator ∷ u.greatest.denominator ∷ u.won ∷ u.empty ∷ []

unfoldable pub printed_unity : UnityAnswer → List ℕ
printed_unity u = cond (eqb u.number 0) (fill unity_form (unity_numbers u)) (refusal_line u.number u.row)

-- the lines of answers, as whoever feeds them writes them
abbrev pub weights_numbers : Weights → List ℕ
weights_numbers a = a.greatest ∷ a.silent ∷ a.total ∷ []

abbrev pub weights_line : Weights → List ℕ
weights_line a = fill weights_form (weights_numbers a)

abbrev pub weights_text : List Weights → List ℕ
weights_text l = joined_lines (map weights_line l)

abbrev pub is_short : Weights → Bool
is_short a = leb (length (weights_line a)) line_limit
