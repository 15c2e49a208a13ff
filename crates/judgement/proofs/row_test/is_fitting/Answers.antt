-- `row_test::is_fitting` meets its contract. Assumes nothing.
use Rattle.judgement.proofs.row_test.Fitting.{known-seat}
use Rattle.judgement.proofs.row_test.is_fitting.Goals as goal

pub returns : goal.returns
returns c R row t s k l =
    c.rule_fits.ensures row _ _
    (known-seat R c.args.table.now row c.args.places.now t s _ _ _ k c.from.ensures c.index_of.ensures.is)
    (known-seat R c.args.table.now row c.args.places.now t s _ _ _ l c.from-2.ensures c.index_of-2.ensures.is)
