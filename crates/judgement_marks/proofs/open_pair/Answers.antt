-- `open_pair` meets its contract. Assumes nothing.
use mathlib.Core.Path.{refl, sym, ◌∙◌}
use Rattle.judgement_marks.proofs.open_pair.Goals as goal

pub returns-then-has_order : goal.returns-then-has_order
returns-then-has_order c =
    λ R g la lb e. rw (sym (c.has_order.ensures R g la lb e) ∙ c.if-has_order.true) refl

pub returns : goal.returns
returns c =
    λ R g la lb e. rw (sym (c.has_order.ensures R g la lb e) ∙ c.if-has_order.false) refl
