-- `LinesIterator::next` meets its contract. Assumes nothing.
use Rattle.std.proofs.Common.{◌≡◌, ◌-◌, arith, sym, ◌∙◌}
use Rattle.text_lines.proofs.Ends.{walked-all, walked-line}
use Rattle.text_lines.proofs.LinesIterator.next.Goals as goal

pub returns-then-is_empty-clause-steps : goal.returns-then-is_empty-clause-steps
returns-then-is_empty-clause-steps c = walked-all c.args.self.now.rest.now (sym c.is_empty.ensures ∙ c.if-is_empty.true)

pub split_at-requires : goal.split_at-requires
split_at-requires c = (walked-line c.args.self.now.rest.now (sym c.is_empty.ensures ∙ c.if-is_empty.false) c.line_end.ensures).inside

pub returns-clause-steps : goal.returns-clause-steps
returns-clause-steps c =
    let x = walked-line c.args.self.now.rest.now (sym c.is_empty.ensures ∙ c.if-is_empty.false) c.line_end.ensures in
    let e : c.line_end.result - 0 ≡ c.line_end.result = omega arith in
    rw (c.split_at.ensures.front, c.split_at.ensures.back) (rw e at x.lines_are)

pub returns-clause-goes : goal.returns-clause-goes
returns-clause-goes c =
    let x = walked-line c.args.self.now.rest.now (sym c.is_empty.ensures ∙ c.if-is_empty.false) c.line_end.ensures in
    record { on = λ f. (tt, f, omega (arith, x.forward, x.inside, c.split_at.ensures.back_len)); keeps = tt; rests = λ f. tt }
