-- Inner: the call log: parts of the grammar, and what the lines of the exchanged text make of it. Assumes nothing.
use Rattle.std.specs.Prelude.{ℕ, suc, ℤ, pos, negsuc, cond, List, map, drop, get_or, Option, None, Result, Ok, Err}
use Prim.Native.String.{String}
use Rattle.text_forms.specs.decimal.Decimal.{numeral_read}
use Rattle.text_forms.specs.declared.decimal.Numeral.{Numeral}
use Rattle.text_forms.specs.Spelling.{bytes, starts_with}
use Rattle.lists.specs.Lists.{filter}
use Rattle.refusals.specs.declared.Refusal.{Refusal}
use Rattle.refusals.specs.declared.Refusal.TheVariants.{OutOfRange}
use Rattle.text_lines.specs.declared.Line.{Line}
use Rattle.text_lines.specs.Line.{shapes, fits_word}
use Rattle.log_forms.specs.productions.Productions.{parse}
use Rattle.log_forms.specs.productions.Words.{words_read}
use Rattle.log_commands.specs.Grammar.{turn_forward, turn_back, adding, lending_to, lend_form, grammar}
use Rattle.log_commands.specs.declared.Command.{Command}

-- a turn by a signed number of pages
unfoldable pub turn_by : ℤ → Result Command Refusal
turn_by (pos n) = turn_forward n
turn_by (negsuc n) = turn_back (suc n)

-- what the words of a form say
abbrev pub command_said : Result (List ℕ) Refusal → ((ℕ → ℕ) → Result Command Refusal) → Result Command Refusal
command_said (Ok words) meaning = meaning (λ k. get_or words k 0)
command_said (Err refusal) meaning = Err refusal

-- the number of a form that has one
abbrev pub number_said : Result (List ℕ) Refusal → Result ℕ Refusal
number_said (Ok words) = Ok (get_or words 0 0)
number_said (Err refusal) = Err refusal

unfoldable pub number_read : List ℕ → List ℕ → Result ℕ Refusal
number_read form s = number_said (words_read form s)

abbrev pub by_number : Result ℕ Refusal → ((ℕ → ℕ) → Result Command Refusal) → Result Command Refusal
by_number (Ok n) meaning = meaning (λ k. n)
by_number (Err refusal) meaning = Err refusal

-- by the forms that start so
unfoldable pub read_after : List ℕ → List ℕ → Result Command Refusal
read_after beginning s = parse Err (filter (λ p. starts_with beginning p.form) grammar) s

abbrev pub read_starting : String → List ℕ → Result Command Refusal
read_starting beginning s = read_after (bytes beginning) s

-- what a line of the exchanged text says, or its fault
abbrev pub line_adds : Result Line Refusal → Result Command Refusal
line_adds (Ok line) = Ok (adding line)
line_adds (Err refusal) = Err refusal

abbrev pub line_lends : ℕ → Result Line Refusal → Result Command Refusal
line_lends lent (Ok line) = cond (fits_word lent) (Ok (lending_to lent line)) (Err OutOfRange)
line_lends lent (Err refusal) = Err refusal

-- the record's number that a line begins with
unfoldable pub lent_number : List ℕ → Option Numeral
lent_number s = cond (starts_with (bytes "lent=") s) (numeral_read (drop 5 s)) None

unfoldable pub lent_line_read : List ℕ → Result Command Refusal
lent_line_read s = parse Err (map lend_form shapes) s
