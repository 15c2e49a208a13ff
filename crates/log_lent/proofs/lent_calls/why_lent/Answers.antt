-- `lent_calls::why_lent` meets its contract. Assumes nothing.
use mathlib.Core.Path.{ap, ◌∙◌}
use native.Mathlib.Omega.{arith}
use Rattle.std.proofs.lemmas.Result.{err_from_is_err_and}
use Rattle.log_lent.proofs.lent_calls.Given.{why-elsewhere, why-refused, why-given}
use Rattle.log_lent.proofs.lent_calls.why_lent.Goals as goal

pub returns-in_err-place : goal.returns-in_err-place
returns-in_err-place c =
    let p = err_from_is_err_and c.from_residual.result c.from_residual.ensures.1 in
    let e = c.in_err-place.ensures in
    rw (p.1, p.2) (record { fault = λ L K. e.0 ∙ why-elsewhere L _ _ e.1; reason = λ L K. tt })

pub returns-in_err-reason : goal.returns-in_err-reason
returns-in_err-reason c =
    let p = err_from_is_err_and c.from_residual-in_err-reason.result c.from_residual-in_err-reason.ensures.1 in
    let q = c.in_ok-place.ensures in
    rw (p.1, p.2)
    (record {
      fault = λ L K. let r = c.record.ensures L K (omega (arith, q.0, q.1)) in
          why-refused L _ _ q.1 (r.0 ∙ ap L.edits q.0) (r.1 ∙ ap L.constraints q.0) _ c.in_err-reason.ensures.fault;
      reason = λ L K. tt;
    })

pub returns : goal.returns
returns c =
    let q = c.in_ok-place.ensures in
    let f = c.in_ok-reason.ensures in
    record {
      fault = λ L K. let r = c.record.ensures L K (omega (arith, q.0, q.1)) in
          (why-given L _ _ q.1 (r.0 ∙ ap L.edits q.0) (r.1 ∙ ap L.constraints q.0) _ _ f.fault f.reason c.ok_or.ensures.value).0;
      reason = λ L K. let r = c.record.ensures L K (omega (arith, q.0, q.1)) in
          (why-given L _ _ q.1 (r.0 ∙ ap L.edits q.0) (r.1 ∙ ap L.constraints q.0) _ _ f.fault f.reason c.ok_or.ensures.value).1;
    }
