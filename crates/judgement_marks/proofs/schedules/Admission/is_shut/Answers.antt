-- `schedules::Admission::is_shut` meets its contract. Assumes nothing.
use mathlib.Core.Path.{sym, ◌∙◌}
use native.Mathlib.Omega.{arith}
use Rattle.judgement_marks.proofs.schedules.Admitting.{part-bars, bars-alone}
use Rattle.judgement_marks.proofs.Entering.{entering-known, entering-alone}
use Rattle.judgement_marks.proofs.schedules.Admission.is_shut.Goals as goal

pub returns-then-not-self : goal.returns-then-not-self
returns-then-not-self c =
    λ R h t g q l k o e m u b. sym (part-bars R h _ (sym b ∙ c.if-not-self.true) (entering-known R t c.args.self.now.graph.now.rows c.args.old.now g c.args.x (omega arith) k.closed k.known o))

pub returns-then-any_row : goal.returns-then-any_row
returns-then-any_row c =
    λ R h t g q l k o e m u b. c.any_barred.ensures R h _ q (entering-known R t c.args.self.now.graph.now.rows c.args.old.now g c.args.x (omega arith) k.closed k.known o) e m u

pub returns : goal.returns
returns c =
    λ R h t g q l k o e m u b. c.is_barred.ensures R h _ (omega arith) e m u
    ∙ bars-alone R g.formed h t k _ (entering-alone R t c.args.self.now.graph.now.rows c.args.old.now g c.args.x (omega arith) k.closed k.known o (c.any_row.ensures.none c.if-any_row.false))
