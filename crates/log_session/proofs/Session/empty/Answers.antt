-- `Session::empty` meets its contract. Assumes nothing.
use Rattle.log_session.specs.Desk.{empty_desk, bench_in, ledger_of}
use Rattle.ledger.specs.Ledger.{fed}
use Rattle.log_session.proofs.Session.empty.Goals as goal

pub returns : goal.returns
unfolding empty_desk bench_in ledger_of fed
returns c = record { benched = c.empty_bench.ensures; kept = c.nothing.ensures }
