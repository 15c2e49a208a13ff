-- `lent_number` meets its contract. Assumes nothing.
use Rattle.std.proofs.Common.{sym, ◌∙◌}
use Rattle.text_forms.specs.Spelling.{bytes}
use Rattle.log_commands.proofs.Exchanged.{lent_other, lent-begun}
use Rattle.log_commands.proofs.lent_number.Goals as goal

pub returns-then-not-starts_with : goal.returns-then-not-starts_with
unfolding bytes
returns-then-not-starts_with c = lent_other c.args.bytes.now (sym c.starts_with.ensures.value ∙ c.if-not-starts_with.true)

pub returns : goal.returns
unfolding bytes
returns c = lent-begun c.args.bytes.now (sym c.starts_with.ensures.value ∙ c.if-not-starts_with.false) c.read_number.ensures
