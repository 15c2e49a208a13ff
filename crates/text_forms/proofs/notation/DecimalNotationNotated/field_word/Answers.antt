-- `DecimalNotation::field_word` meets its contract. Assumes nothing.
use Rattle.std.proofs.Common.{sym, [], arith}
use lib.ListN.{get_or-eq_default}
use Rattle.text_forms.specs.Spelling.{field_words, decimal_notation}
use Rattle.text_forms.proofs.notation.DecimalNotationNotated.field_word.Goals as goal

pub returns-in_default : goal.returns-in_default
unfolding decimal_notation field_words
returns-in_default c = sym (get_or-eq_default field_words [] {n = c.args.field} (omega (arith, c.in_default)))
