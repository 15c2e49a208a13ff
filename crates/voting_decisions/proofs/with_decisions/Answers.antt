-- `decisions::with_decisions` meets its contract. Assumes nothing.
use mathlib.Core.Path.{◌≡◌, ap, ◌∙◌}
use Prim.Native.Nat.{◌+◌}
use Rattle.std.specs.Prelude.{Err, flat_map, take}
use Rattle.std.proofs.lemmas.Result.{err_from_is_err_and}
use mathlib.Core.List.{List, ◌∷◌}
use Rattle.record.specs.Record.{written}
use Rattle.record.specs.declared.Constraint.{Constraint}
use Rattle.record.specs.Stored.{filler_edit}
use Rattle.lists.specs.Keyed.{united}
use Rattle.record_tables.specs.Table.{constraint_key}
use Rattle.voting.specs.Proposal.{decisions, decision_on}
use Rattle.record_joining.specs.insertion.Insertion.{table_of}
use Rattle.voting_drafts.proofs.ranking.Joins.{joins-start, joined-end, joined-full}
use Rattle.voting_decisions.specs.Decisions.{decision_row}
use Rattle.record_tables.proofs.Tables.{held-edits}
use Rattle.voting_decisions.proofs.Paging.{decisions-next, decisions-end}
use Rattle.std.proofs.lemmas.List.Concat.{flat_map_single}
use Rattle.lists.proofs.Union.{ascending-united}
use Rattle.voting_decisions.proofs.with_decisions.Goals as goal

pub loop-i-init : goal.loop-i-init
loop-i-init c = λ R rest index t q g e a. joins-start (decision_row (0 ∷ rest)) t (written R) e

pub returns-in_err-out : goal.returns-in_err-out
unfolding decisions
returns-in_err-out c = λ R rest index t q f g e a.
    let items = c.edit_slice-edit-items.result.now in
    let s : items ≡ R.edits = c.edit_slice-edit-items.ensures ∙ held-edits c.args.multilog R q in
    let p = err_from_is_err_and c.from_residual.result c.from_residual.ensures.1 in
    p.1 ∙ ap Err p.2
    ∙ joined-full (decision_row (0 ∷ rest)) t (written R) (c.loop-i.i + 1)
    (decisions-next R rest index c.args.pages.now g items s c.loop-i.i filler_edit c.loop-i-test.true t c.decision-c.ensures
    (c.in_err-out.ensures _ (c.loop-i.invariant R rest index t q g e a) (ascending-united constraint_key t (flat_map (decision_row (0 ∷ rest)) (take c.loop-i.i (written R))) a)))
    ∙ ap (λ (l : List Constraint). table_of (united constraint_key t l)) (flat_map_single (decision_on (0 ∷ rest)) (written R))

pub loop-i-preserved : goal.loop-i-preserved
loop-i-preserved c = λ R rest index t q g e a.
    let items = c.edit_slice-edit-items.result.now in
    let s : items ≡ R.edits = c.edit_slice-edit-items.ensures ∙ held-edits c.args.multilog R q in
    decisions-next R rest index c.args.pages.now g items s c.loop-i.i filler_edit c.loop-i-test.true t c.decision-c.ensures
    (c.in_ok-out.ensures _ (c.loop-i.invariant R rest index t q g e a) (ascending-united constraint_key t (flat_map (decision_row (0 ∷ rest)) (take c.loop-i.i (written R))) a))

pub returns : goal.returns
unfolding decisions
returns c = λ R rest index t e f g q a.
    let s : c.edit_slice-edit-items.result.now ≡ R.edits = c.edit_slice-edit-items.ensures ∙ held-edits c.args.multilog R e in
    joined-end (decision_row (0 ∷ rest)) t (written R) c.loop-i.i (decisions-end R c.edit_slice-edit-items.result.now c.loop-i.i s c.loop-i-test.false) (c.loop-i.invariant R rest index t e g q a)
    ∙ ap (λ (l : List Constraint). table_of (united constraint_key t l)) (flat_map_single (decision_on (0 ∷ rest)) (written R))
