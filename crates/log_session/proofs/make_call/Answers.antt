-- `make_call` meets its contract. Assumes nothing.
use mathlib.Core.Path.{refl, ap}
use Rattle.ledger.specs.Ledger.{add_edit, add_constraint, turn}
use Rattle.log_session.specs.Requests.{request_of}
use Rattle.log_session.proofs.Cases.{call-reply, merge-reply}
use borrow.Author.Rules.{rules}
use Rattle.log_session.proofs.make_call.Goals as goal

pub returns-in-AddEdit-clause-told : goal.returns-in-AddEdit-clause-told
unfolding request_of
returns-in-AddEdit-clause-told c = λ D H. (call-reply D H.benched c.in-AddEdit.is _ refl (ap add_edit c.into.ensures) c.add_edit.ensures, H.kept)

pub returns-in-AddConstraint-clause-told : goal.returns-in-AddConstraint-clause-told
unfolding request_of
returns-in-AddConstraint-clause-told c = λ D H. (call-reply D H.benched c.in-AddConstraint.is _ refl (ap add_constraint c.into-in-AddConstraint.ensures) c.add_constraint.ensures, H.kept)

pub returns-in-Merge-clause-told : goal.returns-in-Merge-clause-told
returns-in-Merge-clause-told c = λ D H. (merge-reply D H.benched _ c.in-Merge.is c.merge_lent.ensures.elsewhere (λ h. c.merge_lent.ensures.merged D.lent H.kept h), H.kept)

pub returns-in-Hide-clause-told : goal.returns-in-Hide-clause-told
unfolding request_of
returns-in-Hide-clause-told c = λ D H. (call-reply D H.benched c.in-Hide.is _ refl refl c.hide.ensures, H.kept)

pub returns-in-Show-clause-told : goal.returns-in-Show-clause-told
unfolding request_of
returns-in-Show-clause-told c = λ D H. (call-reply D H.benched c.in-Show.is _ refl refl c.show.ensures, H.kept)

pub returns-in-Turn-clause-told : goal.returns-in-Turn-clause-told
unfolding request_of
returns-in-Turn-clause-told c = λ D H. (call-reply D H.benched c.in-Turn.is _ refl (ap turn (search rules)) c.turn.ensures, H.kept)

pub returns-in-Adopt-clause-told : goal.returns-in-Adopt-clause-told
unfolding request_of
returns-in-Adopt-clause-told c = λ D H. (call-reply D H.benched c.in-Adopt.is _ refl refl (c.adopt_lent.ensures D.lent H.kept), H.kept)
