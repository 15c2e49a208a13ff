-- `row_test::known_index` meets its contract. Assumes nothing.
use Rattle.std.proofs.Common.{sym, ◌∙◌}
use Rattle.judgement.proofs.row_test.Seating.{index-some, index-init, index-none}
use Rattle.judgement.proofs.row_test.known_index.Goals.{else-index-eq0-via-then-index-eq0+else-name-ne0, else-index-eq0-via-else-index-eq0}
use Rattle.judgement.proofs.row_test.known_index.Goals as goal

pub returns-then-name-ne0-clause-is : goal.returns-then-name-ne0-clause-is
returns-then-name-ne0-clause-is c R f t = index-none R c.args.table.now t c.args.name (sym c.index_of-index.ensures.is ∙ c.if-index-eq0.true) c.if-name-ne0.true

pub returns-clause-is : goal.returns-clause-is
returns-clause-is c R f t =
    elim c.else-index-eq0.branch [
      | else-index-eq0-via-then-index-eq0+else-name-ne0 w ↦ index-init R c.args.table.now t c.args.name _ w.if-index-eq0.true w.if-name-ne0.false
      | else-index-eq0-via-else-index-eq0 w ↦ index-some R c.args.table.now t c.args.name _ c.index_of-index.ensures.is w.if-index-eq0.false
    ]
