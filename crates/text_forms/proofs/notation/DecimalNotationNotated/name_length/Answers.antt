-- `DecimalNotation::name_length` meets its contract. Assumes nothing.
use Rattle.std.proofs.Common.{arith}
use Rattle.text_forms.specs.Spelling.{number_spelling, decimal_notation}
use Rattle.text_forms.proofs.decimal.Laws.{decimal-twenty}
use Rattle.text_forms.proofs.notation.DecimalNotationNotated.name_length.Goals as goal

pub returns : goal.returns
unfolding decimal_notation number_spelling
returns c = (c.number_length.ensures, omega (arith, c.number_length.ensures, decimal-twenty c.args.n c.ranges.n.fits))
