-- `write_mark` meets its contract. Assumes nothing.
use Rattle.std.proofs.Common.{refl, inl, inr, arith}
use Rattle.text_forms.specs.Spelling.{number_spelling, decimal_notation}
use Rattle.text_forms.proofs.Marks.{fits-as, written_as, spells-decimal, spells-word}
use Rattle.text_forms.proofs.write_mark.Goals as goal

pub write_short-requires : goal.write_short-requires
unfolding number_spelling
write_short-requires c = fits-as c.args.mark c.args.n (spells-decimal c.args.mark (inl c.in-35.is)) refl c.args.out.now c.requires

pub write_short-requires-in-64 : goal.write_short-requires-in-64
unfolding number_spelling
write_short-requires-in-64 c = fits-as c.args.mark c.args.n (spells-decimal c.args.mark (inr c.in-64.is)) refl c.args.out.now c.requires

pub write_word-requires : goal.write_word-requires
write_word-requires c = fits-as c.args.mark c.args.n (spells-word decimal_notation c.args.mark (λ e. absurd (omega arith)) (λ e. absurd (omega arith)) c.words.ensures.gives) c.nth_word.ensures c.args.out.now c.requires

pub returns-in-35 : goal.returns-in-35
unfolding number_spelling
returns-in-35 c = written_as c.args.mark c.args.n (spells-decimal c.args.mark (inl c.in-35.is)) refl c.args.out.now c.write_short.ensures

pub returns-in-64 : goal.returns-in-64
unfolding number_spelling
returns-in-64 c = written_as c.args.mark c.args.n (spells-decimal c.args.mark (inr c.in-64.is)) refl c.args.out.now c.write_short-in-64.ensures

pub returns-in_default : goal.returns-in_default
returns-in_default c = written_as c.args.mark c.args.n (spells-word decimal_notation c.args.mark (λ e. absurd (omega arith)) (λ e. absurd (omega arith)) c.words.ensures.gives) c.nth_word.ensures c.args.out.now c.write_word.ensures
