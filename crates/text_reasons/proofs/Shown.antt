-- The line of a reason as document 02 shows it. Assumes nothing.
use mathlib.Core.Path.{◌≡◌, refl}
use mathlib.Core.List.{[], ◌∷◌}
use Rattle.text_forms.specs.Spelling.{bytes, number_spelling, decimal_notation}
use Rattle.text_forms.specs.decimal.Decimal.{decimal, digits_in}
use Rattle.text_forms.specs.Form.{is_mark, spelling_in, fill_in}
use Rattle.reasons.specs.Reasons.{must_by, never_by}
use Rattle.text_reasons.specs.ReasonLine.{name_marks, must_words, never_words, ring_words, reason_form, reason_line}

pub never-shown : reason_line 259 (never_by (259 ∷ 257 ∷ []) (257 ∷ 258 ∷ [])) ≡ bytes "edit=259 why=never chain=259,257 ring=257,258\n"
unfolding reason_line reason_form name_marks must_words never_words ring_words fill_in is_mark spelling_in decimal_notation number_spelling decimal digits_in bytes
never-shown = refl

pub must-shown : reason_line 257 (must_by (257 ∷ 513 ∷ 0 ∷ [])) ≡ bytes "edit=257 why=must chain=257,513,0\n"
unfolding reason_line reason_form name_marks must_words never_words ring_words fill_in is_mark spelling_in decimal_notation number_spelling decimal digits_in bytes
must-shown = refl
