-- `DecimalNotation::read_name` meets its contract. Assumes nothing.
use Rattle.text_forms.specs.Spelling.{number_spelling, decimal_notation}
use Rattle.text_forms.proofs.decimal.Laws.{number_short}
use Rattle.text_forms.proofs.Marks.{numeral-inside}
use Rattle.text_forms.proofs.notation.DecimalNotationNotated.read_name.Goals as goal

pub returns-clause-reads : goal.returns-clause-reads
unfolding decimal_notation number_spelling
returns-clause-reads c = c.read_number.ensures

pub returns-clause-inside : goal.returns-clause-inside
unfolding number_spelling
returns-clause-inside c = let s = c.args.bytes.now in numeral-inside number_spelling s c.read_number.ensures (number_short s)
