-- `read_mark` meets its contract. Assumes nothing.
use Rattle.std.proofs.Common.{sym, arith}
use Rattle.text_forms.specs.Spelling.{number_spelling, word_spelling}
use Rattle.text_forms.specs.Words.{word_texts}
use Rattle.text_forms.proofs.decimal.Laws.{number_short}
use Rattle.text_forms.proofs.Lawful.{word-size}
use Rattle.text_forms.proofs.Marks.{numeral-as, numeral-inside, spells-number, spells-name, spells-word}
use Rattle.text_forms.proofs.Words.{fine-as}
use Rattle.text_forms.proofs.read_mark.Goals as goal

pub returns-in-35-clause-reads : goal.returns-in-35-clause-reads
unfolding number_spelling
returns-in-35-clause-reads g c = numeral-as (spells-number g.N.Notated.notation c.args.mark c.in-35.is) c.args.bytes.now c.read_number.ensures

pub returns-in-35-clause-inside : goal.returns-in-35-clause-inside
unfolding number_spelling
returns-in-35-clause-inside g c = let s = c.args.bytes.now in numeral-inside number_spelling s c.read_number.ensures (number_short s)

pub returns-in-64-clause-reads : goal.returns-in-64-clause-reads
returns-in-64-clause-reads g c = numeral-as (spells-name g.N.Notated.notation c.args.mark c.in-64.is) c.args.bytes.now c.read_name.ensures.reads

pub read_word-requires : goal.read_word-requires
read_word-requires g c = fine-as (sym c.words.ensures.gives) c.words.ensures.fine

pub returns-in_default-clause-reads : goal.returns-in_default-clause-reads
returns-in_default-clause-reads g c = numeral-as (spells-word g.N.Notated.notation c.args.mark (λ e. absurd (omega arith)) (λ e. absurd (omega arith)) c.words.ensures.gives) c.args.bytes.now c.read_word.ensures

pub returns-in_default-clause-inside : goal.returns-in_default-clause-inside
unfolding word_spelling
returns-in_default-clause-inside g c = let s = c.args.bytes.now in numeral-inside (word_spelling (word_texts c.words.result.now)) s c.read_word.ensures (word-size (word_texts c.words.result.now) s)
