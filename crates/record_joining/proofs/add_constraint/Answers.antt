-- `add_constraint` meets its contract. Assumes nothing.
use Rattle.record_joining.proofs.Answers.{inserted-is, inserted-not}
use Rattle.record_joining.proofs.add_constraint.Goals as goal

pub returns-in_err-more : goal.returns-in_err-more
returns-in_err-more c = λ R e k.
    absurd (inserted-not R c.args.row k (c.in_ok-constraint_add_fault.ensures R e k) e c.of-2.ensures c.of.ensures c.insert.ensures c.in_err-more.was)

pub returns : goal.returns
returns c = λ R e k.
    inserted-is R c.args.row k (c.in_ok-constraint_add_fault.ensures R e k) e c.of-2.ensures c.of.ensures c.insert.ensures c.in_ok-more.was c.in_record.ensures
