-- `votes::print_winner` meets its contract. Assumes nothing.
use mathlib.Core.Path.{◌≡◌, ap}
use mathlib.Core.Bool.{true}
use Rattle.std.specs.Prelude.{Option as Given, unwrap_or}
use Rattle.record.specs.declared.Record as declared
use Rattle.record.specs.Stored.{empty_record}
use Rattle.log_forms.proofs.Printing.{same_printed, same_both}
use Rattle.log_session.proofs.winners.Won.{given-won, open-printed, winner-printed}
use Rattle.log_session.proofs.votes.print_winner.Goals as goal

pub returns-in-Some-clause-told : goal.returns-in-Some-clause-told
returns-in-Some-clause-told c =
    λ P roll q h.
    let counted = c.args.counted.now in
    let w : counted.election.won ≡ true = rw c.in-Some.is at h in
    let b = given-won c.args.edit P roll counted q w c.in-Some.is in
    winner-printed c.args.edit _ c.print_election.ensures w (ap (λ (x : Given declared.Record). unwrap_or x empty_record) c.in-Some.is)
    (c.print_won.ensures.told b.choice b.holds b.known.fit b.known.known)

pub returns-in_default-clause-told : goal.returns-in_default-clause-told
returns-in_default-clause-told c = λ P roll q h. open-printed c.args.edit _ c.print_election.ensures (rw c.in_default.is at h)

pub returns-in-Some-clause-same : goal.returns-in-Some-clause-same
returns-in-Some-clause-same c = same_both (same_printed c.print_election.ensures) c.print_won.ensures.same

pub returns-in_default-clause-same : goal.returns-in_default-clause-same
returns-in_default-clause-same c = same_printed c.print_election.ensures
