-- `read_line_in` meets its contract. Assumes nothing.
use native.Mathlib.Omega.{arith}
use mathlib.Core.Path.{refl, sym, ◌∙◌}
use Rattle.text_lines.proofs.Says.{too_long, whole, told-constraint, told-no_line}
use Rattle.text_lines.proofs.read_line_in.Goals as goal

pub returns-then-bytes-gt-LINE_LIMIT : goal.returns-then-bytes-gt-LINE_LIMIT
returns-then-bytes-gt-LINE_LIMIT g c = too_long g.N.Notated.notation c.args.bytes.now c.if-bytes-gt-LINE_LIMIT.true refl

pub read_edit-requires : goal.read_edit-requires
read_edit-requires g c = sym c.byte_at-third.ensures ∙ c.in-105.is

pub returns-in-105 : goal.returns-in-105
returns-in-105 g c = whole g.N.Notated.notation c.args.bytes.now c.if-bytes-gt-LINE_LIMIT.false c.read_edit.ensures

pub returns-in-102 : goal.returns-in-102
returns-in-102 g c =
    whole g.N.Notated.notation c.args.bytes.now c.if-bytes-gt-LINE_LIMIT.false
    (told-constraint _ c.args.bytes.now c.byte_at-third.ensures c.in-102.is c.read_constraint.ensures)

pub returns-in_default : goal.returns-in_default
returns-in_default g c =
    whole g.N.Notated.notation c.args.bytes.now c.if-bytes-gt-LINE_LIMIT.false
    (told-no_line _ c.args.bytes.now c.byte_at-third.ensures (λ e. absurd (omega arith)) (λ e. absurd (omega arith)) refl)
