-- `read_lent` meets its contract. Assumes nothing.
use Rattle.std.proofs.Common.{◌≡◌, refl, sym, ◌∙◌, rules}
use Rattle.refusals.specs.declared.Refusal.TheVariants.{NotInForm}
use Rattle.log_commands.proofs.Exchanged.{refused-other}
use Rattle.log_commands.proofs.Arms.{computed, lent_by_first, lent-letter}
use Rattle.log_commands.proofs.read_lent.Goals as goal

pub returns-in-Ok : goal.returns-in-Ok
unfolding computed
returns-in-Ok c = lent_by_first c.args.bytes.now c.in-Ok.ensures (sym (lent-letter c.args.bytes.now c.number_end-number.ensures.0 c.byte_at-letter.ensures) ∙ c.in-101.is) refl refl (λ z. let y : ⊥ = cc in y)

pub returns-in-Err : goal.returns-in-Err
unfolding computed
returns-in-Err c =
    let e : c.in-Err.refusal ≡ NotInForm → ⊥ = search rules in
    lent_by_first c.args.bytes.now (sym c.in-Err.is ∙ c.read_words.ensures) (sym (lent-letter c.args.bytes.now c.number_end-number.ensures.0 c.byte_at-letter.ensures) ∙ c.in-101.is) refl refl (refused-other e)

pub returns-in-Ok-read_words : goal.returns-in-Ok-read_words
unfolding computed
returns-in-Ok-read_words c = lent_by_first c.args.bytes.now c.in-Ok-read_words.ensures (sym (lent-letter c.args.bytes.now c.number_end-number.ensures.0 c.byte_at-letter.ensures) ∙ c.in-108.is) refl refl (λ z. let y : ⊥ = cc in y)

pub returns-in-Err-read_words : goal.returns-in-Err-read_words
unfolding computed
returns-in-Err-read_words c =
    let e : c.in-Err-read_words.refusal ≡ NotInForm → ⊥ = search rules in
    lent_by_first c.args.bytes.now (sym c.in-Err-read_words.is ∙ c.read_words-in-108.ensures) (sym (lent-letter c.args.bytes.now c.number_end-number.ensures.0 c.byte_at-letter.ensures) ∙ c.in-108.is) refl refl (refused-other e)
