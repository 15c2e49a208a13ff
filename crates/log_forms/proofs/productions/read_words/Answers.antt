-- `productions::read_words` meets its contract. Assumes nothing.
use Rattle.std.proofs.Common.{sym, ap, ◌∙◌}
use Rattle.std.specs.Option.{ok_or}
use Rattle.std.proofs.lemmas.Result.{err_from_is_err_and}
use Rattle.refusals.specs.declared.Refusal.TheVariants.{NotInForm}
use Rattle.text_forms.specs.Form.{taken}
use Rattle.log_forms.specs.productions.Words.{words_read}
use Rattle.log_forms.proofs.productions.Reading.{words-fit, words-refused}
use Rattle.log_forms.proofs.productions.read_words.Goals as goal

pub returns-in_err-numbers : goal.returns-in_err-numbers
unfolding words_read
returns-in_err-numbers c =
    let r = err_from_is_err_and c.from_residual.result c.from_residual.ensures.1 in
    let o = c.in_err-numbers.ensures.ok_part in
    let v = c.in_err-numbers.ensures.value ∙ ap (λ x. ok_or x NotInForm) o in
    rw (r.1, r.2) (v ∙ words-refused (taken c.args.form.now c.args.bytes.now) (sym o ∙ c.read_form.ensures))

pub returns : goal.returns
unfolding words_read
returns c = c.words_kept.ensures ∙ words-fit (taken c.args.form.now c.args.bytes.now) (sym c.in_ok-numbers.ensures.ok_part ∙ c.read_form.ensures)
