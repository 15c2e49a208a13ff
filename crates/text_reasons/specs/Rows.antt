-- Inner: what the code has room for in the form of a line and in its numbers, and what it pushes for a name. Assumes nothing.
use Rattle.std.specs.Prelude.{List, ℕ, cond, eqb}
use Rattle.text_forms.specs.Spelling.{bytes}

abbrev pub form_limit : ℕ
form_limit = 542

abbrev pub number_limit : ℕ
number_limit = 257

-- after so many names of the same row
abbrev pub name_mark : ℕ → List ℕ
name_mark before = cond (eqb before 0) (bytes "@") (bytes ",@")
