-- `reason_at` meets its contract. Assumes nothing.
use mathlib.Core.Path.{sym, ◌∙◌}
use Rattle.record.specs.Record.{names}
use Rattle.record.specs.Judgement.{must}
use Rattle.graph.proofs.links.Names.{get_or-among}
use Rattle.judgement_marks.proofs.Standing.{marked-on, marked-off}
use Rattle.reasons.proofs.Given.{reason-given}
use Rattle.reasons_lent.proofs.Judging.{needs-members, never-ring, no-reason}
use Rattle.reasons_lent.proofs.reason_at.Goals as goal

pub returns-then-mustmarks-index-eq1 : goal.returns-then-mustmarks-index-eq1
returns-then-mustmarks-index-eq1 c R e f o l =
    let g = c.resolved-graph.ensures R e f in
    let m = c.must_marks-mustmarks.ensures R g.0 in
    let h = marked-on R (must R) _ c.args.index m c.if-mustmarks-index-eq1.true in
    rw (c.row_names.ensures R e) (sym (reason-given R f.formed f.ascends o _ _ (c.must_chain-chain.ensures R g.0 g.1 f.ascends o l h)))

pub returns-then-not-has_ring : goal.returns-then-not-has_ring
returns-then-not-has_ring c R e f o l =
    let g = c.resolved-graph.ensures R e f in
    let m = c.must_marks-mustmarks.ensures R g.0 in
    let i = get_or-among (names R) c.args.index l in
    let n = never-ring R f _ i (c.has_ring.ensures R _ g.0.notafters g.1 (needs-members R f _ i) (c.needs_marks-needmarks.ensures R g.0 l m)) in
    no-reason R f _ i o (marked-off R (must R) _ c.args.index m l c.if-mustmarks-index-eq1.false) (sym n ∙ c.if-not-has_ring.true)

pub returns : goal.returns
returns c R e f o l =
    let g = c.resolved-graph.ensures R e f in
    let m = c.must_marks-mustmarks.ensures R g.0 in
    let i = get_or-among (names R) c.args.index l in
    let t = c.needs_marks-needmarks.ensures R g.0 l m in
    let n = never-ring R f _ i (c.has_ring.ensures R _ g.0.notafters g.1 (needs-members R f _ i) t) in
    let k = c.never_chain-found.ensures R g.0 g.1 f.ascends o l t (sym n ∙ c.if-not-has_ring.false) in
    rw (c.row_names-2.ensures R e, c.row_names-3.ensures R e) (sym (reason-given R f.formed f.ascends o _ _ k))
