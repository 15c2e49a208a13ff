-- `row_test::rule_fits` meets its contract. Assumes nothing.
use mathlib.Core.Path.{◌≡◌, ◌∙◌}
use mathlib.Core.Logic.{inl, inr}
use borrow.Author.Tests.{eq-eqb}
use Rattle.judgement.proofs.row_test.Fitting.{earlier-absent, earlier-alone, earlier-both, with-absent, with-right, fits-other}
use Rattle.judgement.proofs.row_test.rule_fits.Goals.{then-left-eq0, else-left-eq0}
use Rattle.judgement.proofs.row_test.rule_fits.Goals as goal

pub returns-then-right-eq0 : goal.returns-then-right-eq0
returns-then-right-eq0 c row x y p q =
    elim c.if-left-eq0.branch [
      | then-left-eq0 w ↦ rw c.in-0.is (w.t-6-is ∙ (eq-eqb c.args.left 0 w.if-left-eq0.true ∙ earlier-absent row x y _ _ p q w.if-left-eq0.true))
      | else-left-eq0 w ↦
          let r : c.args.right ≡ 0 = elim c.if-right-eq0.either [ inl e ↦ absurd (w.if-left-eq0.false e) | inr z ↦ z.1 ] in
          rw c.in-0.is (w.t-6-is ∙ (eq-eqb c.args.right 0 r ∙ earlier-alone row x y _ _ p q r))
    ]

pub returns-else-right-eq0 : goal.returns-else-right-eq0
returns-else-right-eq0 c row x y p q = rw c.in-0.is (earlier-both row x y _ _ p q c.if-right-eq0.false.0 c.if-right-eq0.false.1)

pub returns-then-right-eq0-2 : goal.returns-then-right-eq0-2
returns-then-right-eq0-2 c row x y p q = rw (c.in-1.is, eq-eqb c.args.right 0 c.if-right-eq0-2.true) (with-absent row x y _ _ p q c.if-right-eq0-2.true)

pub returns-else-right-eq0-2 : goal.returns-else-right-eq0-2
returns-else-right-eq0-2 c row x y p q = rw c.in-1.is (with-right row x y _ _ p q c.if-right-eq0-2.false)

pub returns-in_default : goal.returns-in_default
returns-in_default c =
    λ row x y p q. fits-other row x c.args.rule y c.in_default.in_default-own.rest.0.1 c.in_default.in_default-own.rest.1
