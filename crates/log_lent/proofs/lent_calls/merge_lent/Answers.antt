-- `lent_calls::merge_lent` meets its contract. Assumes nothing.
use mathlib.Core.Path.{◌≡◌, ap, ◌∙◌}
use native.Mathlib.Omega.{arith}
use borrow.Author.Rules.{rules}
use Rattle.refusals.specs.Numbers.{number_of}
use Rattle.log_lent.proofs.lent_calls.Given.{merge-refused, merge-given}
use Rattle.log_lent.proofs.lent_calls.merge_lent.Goals as goal

pub returns-in_err-place : goal.returns-in_err-place
returns-in_err-place c =
    let n : number_of c.from_residual.result ≡ 2 = let e = c.in_err-place.ensures in search rules in
    record {
      elsewhere = λ h. merge-refused _ _ c.from_residual.ensures.0 n;
      merged = λ L K h. absurd (omega (arith, c.in_err-place.ensures.1));
    }

pub returns : goal.returns
returns c =
    let q = c.in_ok-place.ensures in
    record {
      elsewhere = λ h. absurd (omega (arith, q.1));
      merged = λ L K h.
          let r = c.record.ensures L K (omega (arith, q.0)) in
          merge-given _ _ c.merge.ensures (r.0 ∙ ap L.edits q.0) (r.1 ∙ ap L.constraints q.0);
    }
