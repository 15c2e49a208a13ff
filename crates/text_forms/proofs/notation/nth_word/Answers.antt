-- `notation::nth_word` meets its contract. Assumes nothing.
use Rattle.text_forms.specs.Spelling.{word_spelling}
use Rattle.text_forms.proofs.Words.{nth-there, nth-past}
use Rattle.text_forms.proofs.notation.nth_word.Goals as goal

pub returns-in-Some : goal.returns-in-Some
unfolding word_spelling
returns-in-Some c = let l = c.in-Some.ensures.lookup in nth-there c.args.words.now c.args.n _ l.0 l.1

pub returns-in-None : goal.returns-in-None
unfolding word_spelling
returns-in-None c = nth-past c.args.words.now c.args.n c.in-None.ensures.lookup.0
