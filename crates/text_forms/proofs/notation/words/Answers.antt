-- `notation::words` meets its contract. Assumes nothing.
use Rattle.std.proofs.Common.{◌∙◌, arith}
use Rattle.text_forms.proofs.Words.{field-mark, rule-mark, answer-mark, fine-as, rules-fine, answers-fine}
use Rattle.text_forms.specs.Spelling.{bytes, rule_words, answer_words}
use Rattle.text_forms.proofs.notation.words.Goals as goal

pub returns-in-37-clause-gives : goal.returns-in-37-clause-gives
returns-in-37-clause-gives g c = c.fields.ensures.gives ∙ field-mark g.N.Notated.notation c.args.mark c.in-37.is

pub returns-in-37-clause-fine : goal.returns-in-37-clause-fine
returns-in-37-clause-fine g c = fine-as (field-mark g.N.Notated.notation c.args.mark c.in-37.is) c.fields.ensures.fine

pub returns-in-33-clause-gives : goal.returns-in-33-clause-gives
unfolding rule_words bytes
returns-in-33-clause-gives g c = rule-mark g.N.Notated.notation c.args.mark c.in-33.is

pub returns-in-33-clause-fine : goal.returns-in-33-clause-fine
returns-in-33-clause-fine g c = fine-as (rule-mark g.N.Notated.notation c.args.mark c.in-33.is) rules-fine

pub returns-in_default-clause-gives : goal.returns-in_default-clause-gives
unfolding answer_words bytes
returns-in_default-clause-gives g c = answer-mark g.N.Notated.notation c.args.mark (λ e. absurd (omega arith)) (λ e. absurd (omega arith))

pub returns-in_default-clause-fine : goal.returns-in_default-clause-fine
returns-in_default-clause-fine g c = fine-as (answer-mark g.N.Notated.notation c.args.mark (λ e. absurd (omega arith)) (λ e. absurd (omega arith))) answers-fine
