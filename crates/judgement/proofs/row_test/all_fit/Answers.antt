-- `row_test::all_fit` meets its contract. Assumes nothing.
use Rattle.std.proofs.Common.{rules, true, false}
use borrow.Author.Tests.{tests}
use Rattle.std.proofs.lemmas.Iterator.{YieldsList-from_slice, cases_from_all}
use Rattle.graph.proofs.indexes.Tables.{stored-constraints}
use Rattle.judgement.proofs.row_test.Fitting.{TellsFit, fitting-told}
use Rattle.judgement.proofs.row_test.all_fit.Goals as goal

pub returns : goal.returns
returns c R row e f t s =
    fitting-told R f c.args.table.now row c.args.places.now t s c.constraint_slice.result.now (stored-constraints _ R _ e c.constraint_slice.ensures) c.all.result
    (cases_from_all _ _ c.all.result (λ x. TellsFit c.args.table.now c.args.places.now x true) (λ x. TellsFit c.args.table.now c.args.places.now x false) c.all.ensures.ran
    (YieldsList-from_slice c.constraint_slice.result.now cc) (λ x k h. search (rules, tests)) (λ x k h. search (rules, tests)))
