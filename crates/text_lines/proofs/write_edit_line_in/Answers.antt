-- `write_edit_line_in` meets its contract. Assumes nothing.
use Rattle.std.proofs.Common.{refl, arith}
use Rattle.text_forms.specs.Spelling.{bytes}
use Rattle.text_lines.specs.Line.{edit_line_in}
use Rattle.text_lines.proofs.Puts.{line-fits-as, line-written-as, insert-line, set-line, remove-line, no-line}
use Rattle.text_lines.proofs.write_edit_line_in.Goals as goal

pub write_unset-requires : goal.write_unset-requires
unfolding bytes
write_unset-requires g c = let N = g.N.Notated.notation in let a = c.args in line-fits-as (edit_line_in N a.row) _ (insert-line N a.row c.in-0.is) a.out.now c.requires

pub write_set-requires : goal.write_set-requires
write_set-requires g c = let N = g.N.Notated.notation in let a = c.args in line-fits-as (edit_line_in N a.row) _ (set-line N a.row c.in-1.is) a.out.now c.requires

pub write_unset-requires-in-2 : goal.write_unset-requires-in-2
unfolding bytes
write_unset-requires-in-2 g c = let N = g.N.Notated.notation in let a = c.args in line-fits-as (edit_line_in N a.row) _ (remove-line N a.row c.in-2.is) a.out.now c.requires

pub returns-in-0 : goal.returns-in-0
unfolding bytes
returns-in-0 g c = let N = g.N.Notated.notation in let a = c.args in line-written-as (edit_line_in N a.row) _ (insert-line N a.row c.in-0.is) a.out.now c.write_unset.ensures

pub returns-in-1 : goal.returns-in-1
returns-in-1 g c = let N = g.N.Notated.notation in let a = c.args in line-written-as (edit_line_in N a.row) _ (set-line N a.row c.in-1.is) a.out.now c.write_set.ensures

pub returns-in-2 : goal.returns-in-2
unfolding bytes
returns-in-2 g c = let N = g.N.Notated.notation in let a = c.args in line-written-as (edit_line_in N a.row) _ (remove-line N a.row c.in-2.is) a.out.now c.write_unset-in-2.ensures

pub returns-in_default : goal.returns-in_default
returns-in_default g c =
    let N = g.N.Notated.notation in
    let a = c.args in
    line-written-as (edit_line_in N a.row) _ (no-line N a.row (λ e. absurd (omega arith)) (λ e. absurd (omega arith)) (λ e. absurd (omega arith))) a.out.now (refl, refl)
