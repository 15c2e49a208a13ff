-- Inner: the call log: what the code keeps of a form's numbers. Assumes nothing.
use Rattle.std.specs.Prelude.{ℕ, cond, List, ◌++◌, get_or, take, replicate, Result, Ok, Err}
use Rattle.std.proofs.Math.Option.{Option, none, some}
use Rattle.lists.specs.Lists.{all}
use Rattle.text_forms.specs.Form.{taken, number_places}
use Rattle.text_lines.specs.Line.{fits_word}
use Rattle.refusals.specs.declared.Refusal.{Refusal}
use Rattle.refusals.specs.declared.Refusal.TheVariants.{NotInForm, OutOfRange}

-- a word by its place
abbrev pub word_at : List ℕ → ℕ → ℕ
word_at words k = get_or words k 0

-- the words, where each fits 32 bits
unfoldable pub words_kept : List ℕ → Result (List ℕ) Refusal
words_kept cells = cond (all fits_word cells) (Ok cells) (Err OutOfRange)

-- the first numbers, and 0 past those
abbrev pub eight_of : List ℕ → List ℕ
eight_of ns = take number_places (ns ++ replicate number_places 0)

abbrev pub words_of : Option (List ℕ) → Result (List ℕ) Refusal
words_of none = Err NotInForm
words_of (some ns) = words_kept (eight_of ns)

-- of a text in a form
unfoldable pub words_read : List ℕ → List ℕ → Result (List ℕ) Refusal
words_read form s = words_of (taken form s)
