-- `DecimalNotation::fields` meets its contract. Assumes nothing.
use Rattle.std.proofs.Common.{refl}
use Rattle.text_forms.specs.Spelling.{bytes, field_words, decimal_notation}
use Rattle.text_forms.specs.Words.{are_words}
use Rattle.lists.specs.Lists.{all}
use Rattle.text_forms.proofs.notation.DecimalNotationNotated.fields.Goals as goal

pub returns-clause-gives : goal.returns-clause-gives
unfolding decimal_notation field_words bytes
returns-clause-gives c = refl

pub returns-clause-fine : goal.returns-clause-fine
unfolding decimal_notation field_words bytes are_words all
returns-clause-fine c = refl
