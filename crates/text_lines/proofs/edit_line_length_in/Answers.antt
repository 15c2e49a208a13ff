-- `edit_line_length_in` meets its contract. Assumes nothing.
use Rattle.std.proofs.Common.{refl, arith}
use Rattle.text_forms.proofs.decimal.Laws.{decimal-twenty}
use Rattle.text_lines.specs.Line.{edit_line_in}
use Rattle.text_lines.proofs.Puts.{line-length-as, insert-length, set-length, remove-length, no-line}
use Rattle.text_lines.proofs.edit_line_length_in.Goals as goal

pub overflow_add-result-in-0 : goal.overflow_add-result-in-0
overflow_add-result-in-0 g c = omega (arith, c.name_length-name.ensures.1, decimal-twenty c.from-2.result c.from-2.type_inv, c.number_length-place.ensures)

pub overflow_add-result-in-1-2 : goal.overflow_add-result-in-1-2
overflow_add-result-in-1-2 g c = omega (arith, c.name_length-name.ensures.1, decimal-twenty c.from-2.result c.from-2.type_inv, c.number_length-place.ensures)

pub overflow_add-result-in-1-3 : goal.overflow_add-result-in-1-3
overflow_add-result-in-1-3 g c = omega (arith, c.name_length-name.ensures.1, decimal-twenty c.from-2.result c.from-2.type_inv, c.number_length-place.ensures, c.field_word-word.type_inv.1)

pub overflow_add-result-in-1-4 : goal.overflow_add-result-in-1-4
overflow_add-result-in-1-4 g c = omega (arith, c.name_length-name.ensures.1, decimal-twenty c.from-2.result c.from-2.type_inv, c.number_length-place.ensures, c.field_word-word.type_inv.1, decimal-twenty c.from-in-1.result c.from-in-1.type_inv, c.number_length.ensures)

pub overflow_add-result-in-2-2 : goal.overflow_add-result-in-2-2
overflow_add-result-in-2-2 g c = omega (arith, c.name_length-name.ensures.1, decimal-twenty c.from-2.result c.from-2.type_inv, c.number_length-place.ensures)

pub returns-in-0 : goal.returns-in-0
returns-in-0 g c = rw (c.name_length-name.ensures.0, c.number_length-place.ensures, c.from.ensures, c.from-2.ensures) (insert-length g.N.Notated.notation c.args.row c.in-0.is)

pub returns-in-2 : goal.returns-in-2
returns-in-2 g c = rw (c.name_length-name.ensures.0, c.number_length-place.ensures, c.from.ensures, c.from-2.ensures) (remove-length g.N.Notated.notation c.args.row c.in-2.is)

pub returns-in-1 : goal.returns-in-1
returns-in-1 g c =
    rw (c.name_length-name.ensures.0, c.number_length-place.ensures, c.field_word-word.ensures, c.number_length.ensures, c.from.ensures, c.from-2.ensures, c.from-in-1.ensures)
    (set-length g.N.Notated.notation c.args.row c.in-1.is)

pub returns-in_default : goal.returns-in_default
returns-in_default g c =
    let N = g.N.Notated.notation in
    let row = c.args.row in
    line-length-as (edit_line_in N row) _ (no-line N row (λ e. absurd (omega arith)) (λ e. absurd (omega arith)) (λ e. absurd (omega arith))) refl
