-- `DecimalNotation::write_name` meets its contract. Assumes nothing.
use Rattle.text_forms.specs.Spelling.{number_spelling, decimal_notation}
use Rattle.text_forms.proofs.notation.DecimalNotationNotated.write_name.Goals as goal

pub write_number-requires : goal.write_number-requires
unfolding decimal_notation number_spelling
write_number-requires c = c.requires

pub returns : goal.returns
unfolding decimal_notation number_spelling
returns c = c.write_number.ensures
