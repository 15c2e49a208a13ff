-- `votes::answer_vote` meets its contract. Assumes nothing.
use mathlib.Core.Path.{ap}
use mathlib.Core.List.{[], ◌∷◌}
use Rattle.std.specs.Prelude.{Option}
use Rattle.reasons.specs.Reasons.{Reason}
use Rattle.voting.specs.Tally.{Election}
use Rattle.voting_count.specs.Count.{Count}
use Rattle.voting_count.specs.Tallied.{Tallied}
use Rattle.voting_bundles.specs.Bundles.{BundleAnswer}
use Rattle.text_reasons.specs.ReasonLine.{line_if_given}
use Rattle.log_session.specs.votes.Votes.{election_line, bundle_text, suggestion_text, test_line, winner_text, tally_text, vote_effect}
use Rattle.log_session.proofs.Cases.{multilog-stored, ledger-valid}
use Rattle.log_session.proofs.votes.Voting.{vote-accepted, vote-refused}
use Rattle.log_session.proofs.votes.answer_vote.Goals as goal

pub returns-in_err-elect_lent-in-Elect-clause-told : goal.returns-in_err-elect_lent-in-Elect-clause-told
unfolding vote_effect
returns-in_err-elect_lent-in-Elect-clause-told c =
    λ D K m.
    let e = c.in_err-elect_lent-in-Elect.ensures D.lent K in
    vote-refused D c.in-Elect.is c.from_residual.result _ c.args.printer.now c.from_residual.ensures (ap (λ (E : Election). E.number) e)

pub returns-in_ok-elect_lent-in-Elect-clause-told : goal.returns-in_ok-elect_lent-in-Elect-clause-told
unfolding vote_effect
returns-in_ok-elect_lent-in-Elect-clause-told c =
    λ D K m.
    let e = c.in_ok-elect_lent-in-Elect.ensures D.lent K in
    vote-accepted D c.in-Elect.is (ap (λ (E : Election). E.number) e) (ap election_line e) c.print_election.ensures

pub returns-in_err-bundle_lent-in-Bundle-clause-told : goal.returns-in_err-bundle_lent-in-Bundle-clause-told
unfolding vote_effect
returns-in_err-bundle_lent-in-Bundle-clause-told c =
    λ D K m.
    let e = c.in_err-bundle_lent-in-Bundle.ensures D.lent K in
    let r = c.from_residual-in_err-bundle_lent-in-Bundle in
    vote-refused D c.in-Bundle.is r.result _ c.args.printer.now r.ensures (ap (λ (b : BundleAnswer). b.number) e)

pub returns-in_ok-bundle_lent-in-Bundle-clause-told : goal.returns-in_ok-bundle_lent-in-Bundle-clause-told
unfolding vote_effect
returns-in_ok-bundle_lent-in-Bundle-clause-told c =
    λ D K m.
    let e = c.in_ok-bundle_lent-in-Bundle.ensures D.lent K in
    vote-accepted D c.in-Bundle.is (ap (λ (b : BundleAnswer). b.number) e) (ap bundle_text e) c.print_bundle.ensures

pub returns-in_err-suggest_named-in-Suggest-clause-told : goal.returns-in_err-suggest_named-in-Suggest-clause-told
unfolding vote_effect
returns-in_err-suggest_named-in-Suggest-clause-told c =
    λ D K m.
    let g = c.in_err-suggest_named-in-Suggest.ensures _ (multilog-stored D m) (ledger-valid D).checked in
    let r = c.from_residual-in_err-suggest_named-in-Suggest in
    vote-refused D c.in-Suggest.is r.result _ c.args.printer.now r.ensures g.0

pub returns-in_ok-suggest_named-in-Suggest-clause-told : goal.returns-in_ok-suggest_named-in-Suggest-clause-told
unfolding vote_effect
returns-in_ok-suggest_named-in-Suggest-clause-told c =
    λ D K m.
    let g = c.in_ok-suggest_named-in-Suggest.ensures _ (multilog-stored D m) (ledger-valid D).checked in
    vote-accepted D c.in-Suggest.is g.0 (ap suggestion_text g.1) c.print_rules.ensures

pub returns-in_err-test_lent-in-Test-clause-told : goal.returns-in_err-test_lent-in-Test-clause-told
unfolding vote_effect
returns-in_err-test_lent-in-Test-clause-told c =
    λ D K m.
    let r = c.from_residual-in_err-test_lent-in-Test in
    vote-refused D c.in-Test.is r.result _ c.args.printer.now r.ensures (c.in_err-test_lent-in-Test.ensures D.lent K).0

pub returns-in_ok-test_lent-in-Test-clause-told : goal.returns-in_ok-test_lent-in-Test-clause-told
unfolding vote_effect
returns-in_ok-test_lent-in-Test-clause-told c =
    λ D K m.
    let g = c.in_ok-test_lent-in-Test.ensures D.lent K in
    vote-accepted D c.in-Test.is g.0 (ap test_line g.1) c.print_test.ensures

pub returns-in_err-count_lent-in-Winner-clause-told : goal.returns-in_err-count_lent-in-Winner-clause-told
unfolding vote_effect
returns-in_err-count_lent-in-Winner-clause-told c =
    λ D K m.
    let e = c.in_err-count_lent-in-Winner.ensures.told D.lent K in
    let r = c.from_residual-in_err-count_lent-in-Winner in
    vote-refused D c.in-Winner.is r.result _ c.args.printer.now r.ensures (ap (λ (n : Count). n.election.number) e)

pub returns-in_ok-count_lent-in-Winner-clause-told : goal.returns-in_ok-count_lent-in-Winner-clause-told
unfolding vote_effect
returns-in_ok-count_lent-in-Winner-clause-told c =
    λ D K m.
    let e = c.in_ok-count_lent-in-Winner.ensures.told D.lent K in
    vote-accepted D c.in-Winner.is (ap (λ (n : Count). n.election.number) e) (ap (winner_text c.in-Winner.edit) e)
    (c.print_winner.ensures.told _ _ e c.in_ok-count_lent-in-Winner.ensures.bundle)

pub returns-in_err-tally_lent-in-Tally-clause-told : goal.returns-in_err-tally_lent-in-Tally-clause-told
unfolding vote_effect
returns-in_err-tally_lent-in-Tally-clause-told c =
    λ D K m.
    let e = c.in_err-tally_lent-in-Tally.ensures D.lent K in
    let r = c.from_residual-in_err-tally_lent-in-Tally in
    vote-refused D c.in-Tally.is r.result _ c.args.printer.now r.ensures (ap (λ (t : Tallied). t.number) e)

pub returns-in_ok-tally_lent-in-Tally-clause-told : goal.returns-in_ok-tally_lent-in-Tally-clause-told
unfolding vote_effect
returns-in_ok-tally_lent-in-Tally-clause-told c =
    λ D K m.
    let e = c.in_ok-tally_lent-in-Tally.ensures D.lent K in
    vote-accepted D c.in-Tally.is (ap (λ (t : Tallied). t.number) e) (ap (λ (t : Tallied). tally_text t.answers) e) (rw c.as_slice.ensures.value at c.print_tally.ensures)

pub returns-in_err-why_lent-in-Why-clause-told : goal.returns-in_err-why_lent-in-Why-clause-told
unfolding vote_effect
returns-in_err-why_lent-in-Why-clause-told c =
    λ D K m.
    let r = c.from_residual-in_err-why_lent-in-Why in
    vote-refused D c.in-Why.is r.result _ c.args.printer.now r.ensures (c.in_err-why_lent-in-Why.ensures.fault D.lent K)

pub returns-in_ok-why_lent-in-Why-clause-told : goal.returns-in_ok-why_lent-in-Why-clause-told
unfolding vote_effect
returns-in_ok-why_lent-in-Why-clause-told c =
    λ D K m.
    let e = c.in_ok-why_lent-in-Why.ensures in
    vote-accepted D c.in-Why.is (e.fault D.lent K) (ap (λ (o : Option Reason). line_if_given c.in-Why.edit o ∷ []) (e.reason D.lent K)) c.print_reason.ensures
