-- `lent_bundle` meets its contract. Assumes nothing.
use mathlib.Core.Path.{sym, ◌∙◌}
use Rattle.std.proofs.lemmas.Result.{err_from_is_err_and}
use Rattle.record_tables.specs.Table.{decoded}
use Rattle.record_tables.proofs.Records.{lent-checked}
use Rattle.voting.specs.Bundle.{bundle}
use Rattle.graph.proofs.indexes.Fit.{checked-fit}
use Rattle.voting_bundles.proofs.Judging.{bundle-fit, eligible-all, bundle-checked, bundle-answered, bundle-refused}
use Rattle.refusals.specs.Numbers.{number}
use Rattle.refusals.proofs.Numbers.{number-positive}
use Rattle.voting_bundles.proofs.lent_bundle.Goals as goal

pub returns-in_err-bundle : goal.returns-in_err-bundle
returns-in_err-bundle c =
    let p = err_from_is_err_and c.from_residual.result c.from_residual.ensures.1 in
    let r = c.in_err-bundle.field-0.0 in
    rw (p.1, p.2) (bundle-refused c.args.lent.edits.now c.args.lent.constraints.now c.args.edit (number r) c.in_err-bundle.ensures.0 (number-positive r))

pub returns : goal.returns
returns c =
    let es = c.args.lent.edits.now in
    let cs = c.args.lent.constraints.now in
    let x = c.args.edit in
    let R = decoded es cs in
    let p = c.in_ok-bundle.ensures in
    let f = bundle-fit R (checked-fit R (lent-checked es cs (sym (bundle-checked es cs x p.0)))) x in
    bundle-answered es cs x p.0 c.all_settled.result _ (c.all_settled.ensures (bundle R x) p.1 f ∙ eligible-all R x) p.1
