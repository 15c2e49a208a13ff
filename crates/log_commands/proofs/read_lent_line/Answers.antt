-- `read_lent_line` meets its contract. Assumes nothing.
use Rattle.std.proofs.Common.{ap, sym, ◌∙◌, arith}
use Rattle.std.specs.Option.{ok_or}
use Rattle.std.proofs.lemmas.Result.{err_from_is_err_and}
use Rattle.refusals.specs.declared.Refusal.TheVariants.{NotInForm}
use Rattle.log_commands.specs.Groups.{line_lends}
use Rattle.log_commands.proofs.Exchanged.{lent-missing, lent-inside, no-space, space-inside, line-lent, lends-large, lends-fit}
use Rattle.log_commands.proofs.read_lent_line.Goals as goal

pub returns-in_err-lent : goal.returns-in_err-lent
returns-in_err-lent c =
    let r = err_from_is_err_and c.from_residual.result c.from_residual.ensures.1 in
    let o = c.in_err-lent.ensures.ok_part in
    let v = c.in_err-lent.ensures.value ∙ ap (λ x. ok_or x NotInForm) o in
    rw (r.1, r.2) (lent-missing c.args.bytes.now _ v (sym o ∙ c.lent_number.ensures))

pub overflow_add-at : goal.overflow_add-at
overflow_add-at c = omega (arith, c.requires, lent-inside c.args.bytes.now (sym c.in_ok-lent.ensures.ok_part ∙ c.lent_number.ensures))

pub returns-then-space-ne32 : goal.returns-then-space-ne32
returns-then-space-ne32 c = no-space c.args.bytes.now (sym c.in_ok-lent.ensures.ok_part ∙ c.lent_number.ensures) c.byte_at-space.ensures c.if-space-ne32.true

pub overflow_add-start : goal.overflow_add-start
overflow_add-start c = omega (arith, c.requires, space-inside c.args.bytes.now (sym c.in_ok-lent.ensures.ok_part ∙ c.lent_number.ensures) c.byte_at-space.ensures c.if-space-ne32.false)

pub slice_bounds-read_line-count : goal.slice_bounds-read_line-count
slice_bounds-read_line-count c = omega (arith, c.requires, space-inside c.args.bytes.now (sym c.in_ok-lent.ensures.ok_part ∙ c.lent_number.ensures) c.byte_at-space.ensures c.if-space-ne32.false)

pub slice_bounds-read_line-start : goal.slice_bounds-read_line-start
slice_bounds-read_line-start c = omega (arith, c.requires, space-inside c.args.bytes.now (sym c.in_ok-lent.ensures.ok_part ∙ c.lent_number.ensures) c.byte_at-space.ensures c.if-space-ne32.false)

pub returns-in_err-line : goal.returns-in_err-line
returns-in_err-line c =
    let p = err_from_is_err_and c.from_residual-in_err-line.result c.from_residual-in_err-line.ensures.1 in
    rw (p.1, p.2) (line-lent c.args.bytes.now (sym c.in_ok-lent.ensures.ok_part ∙ c.lent_number.ensures) c.byte_at-space.ensures c.if-space-ne32.false c.requires (ap (line_lends c.in_ok-lent.lent.value) c.in_err-line.ensures))

pub returns-in_err-number : goal.returns-in_err-number
returns-in_err-number c =
    let p = err_from_is_err_and c.from_residual-in_err-number.result c.from_residual-in_err-number.ensures.1 in
    rw (p.1, p.2)
    (line-lent c.args.bytes.now (sym c.in_ok-lent.ensures.ok_part ∙ c.lent_number.ensures) c.byte_at-space.ensures c.if-space-ne32.false c.requires
    (lends-large c.in_ok-lent.lent.value c.in_ok-line.line c.in_err-number.ensures ∙ ap (line_lends c.in_ok-lent.lent.value) c.in_ok-line.ensures))

pub returns : goal.returns
returns c =
    line-lent c.args.bytes.now (sym c.in_ok-lent.ensures.ok_part ∙ c.lent_number.ensures) c.byte_at-space.ensures c.if-space-ne32.false c.requires
    (lends-fit c.in_ok-lent.lent.value c.in_ok-line.line c.in_ok-number.ensures c.lend_line.ensures ∙ ap (line_lends c.in_ok-lent.lent.value) c.in_ok-line.ensures)
