-- `mark_length` meets its contract. Assumes nothing.
use Rattle.std.proofs.Common.{refl, inl, inr, arith}
use Rattle.text_forms.specs.Spelling.{number_spelling, decimal_notation}
use Rattle.text_forms.proofs.Marks.{length-as, spells-decimal, spells-word}
use Rattle.text_forms.proofs.mark_length.Goals as goal

pub returns-in-35 : goal.returns-in-35
unfolding number_spelling
returns-in-35 c = length-as c.args.mark c.args.n (spells-decimal c.args.mark (inl c.in-35.is)) refl c.ranges.n.fits c.number_length.ensures

pub returns-in-64 : goal.returns-in-64
unfolding number_spelling
returns-in-64 c = length-as c.args.mark c.args.n (spells-decimal c.args.mark (inr c.in-64.is)) refl c.ranges.n.fits c.number_length-in-64.ensures

pub returns-in_default : goal.returns-in_default
returns-in_default c = length-as c.args.mark c.args.n (spells-word decimal_notation c.args.mark (λ e. absurd (omega arith)) (λ e. absurd (omega arith)) c.words.ensures.gives) c.nth_word.ensures c.ranges.n.fits refl
