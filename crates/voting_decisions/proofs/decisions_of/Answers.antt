-- `decisions::decisions_of` meets its contract. Assumes nothing.
use mathlib.Core.Path.{◌≡◌, ap, sym, ◌∙◌}
use Prim.Native.Nat.{◌≤◌}
use lib.ListN.{length}
use mathlib.Core.List.{◌∷◌}
use lib.ListN.{length-set, length-take}
use native.Mathlib.Omega.{arith}
use borrow.Author.Rules.{rules}
use Rattle.lists.proofs.Lists.{length-mapped}
use Rattle.record.specs.declared.Record.{Record}
use Rattle.record.specs.Record.{written}
use Rattle.record.specs.Stored.{filler_edit, filler_constraint}
use Rattle.voting.specs.Proposal.{decisions, decision_on}
use Rattle.record_union.proofs.Joining.{decode-next, decode-end}
use Rattle.record_tables.proofs.Tables.{held-edits}
use Rattle.voting_decisions.proofs.Paging.{decisions-named, decision-here, decisions-end}
use Rattle.voting_decisions.proofs.Joined.{only-start, only-stored, decisions-many, written-few}
use Rattle.voting_decisions.proofs.decisions_of.Goals as goal

pub loop-i-init : goal.loop-i-init
loop-i-init c = let e = c.empty-r.ensures in (search (rules, length-mapped), ap (λ (r : Record). r.edits) e, ap (λ (r : Record). r.edit_count) e, λ R rest index q g. only-start c.empty-r.result e)

pub loop-i-preserved : goal.loop-i-preserved
loop-i-preserved c =
    let l = c.loop-i in
    let h = c.loop-i-test.true in (
      simp length-set l.invariant.0,
      l.invariant.1,
      l.invariant.2,
      λ R rest index q g.
          let items = c.edit_slice-edits.result.now in
          let s : items ≡ R.edits = c.edit_slice-edits.ensures ∙ held-edits c.args.multilog R q in
          let y : length c.args.multilog.edits ≡ 127 = search (rules, length-mapped) in
          let z : length items ≤ 127 = rw c.edit_slice-edits.ensures (omega (arith, length-take c.args.multilog.edit_count c.args.multilog.edits)) in
          let w = (decisions-named R rest index c.args.pages.now g items s l.i filler_edit h).0 in
          decode-next 512 filler_constraint (decision_on (0 ∷ rest)) (written R) l.r.constraints l.i 0 w (written-few R items s z) (l.invariant.3 R rest index q g)
          (decision-here R rest index c.args.pages.now g items s l.i filler_edit h c.decision.ensures),
    )

pub returns : goal.returns
unfolding decisions
returns c =
    let m = c.args.multilog in
    let l = c.loop-i in
    λ R rest index e f g.
    let items = c.edit_slice-edits.result.now in
    let s : items ≡ R.edits = c.edit_slice-edits.ensures ∙ held-edits m R e in
    only-stored l.r (length items) (decisions (0 ∷ rest) (written R))
    (decode-end 512 filler_constraint (decision_on (0 ∷ rest)) (written R) l.r.constraints l.i (decisions-end R items l.i s c.loop-i-test.false) (l.invariant.3 R rest index e g))
    (ap length s ∙ sym (decisions-many (0 ∷ rest) R)) l.invariant.1 l.invariant.2
