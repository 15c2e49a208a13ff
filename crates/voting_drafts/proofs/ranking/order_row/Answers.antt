-- `ranking::order_row` meets its contract. Assumes nothing.
use Rattle.voting_drafts.proofs.ranking.Joins.{joined-none, joined-one}
use Rattle.voting_drafts.proofs.ranking.Ordered.{left-unranked, right-unranked, left-lower, right-lower, equal-ranks}
use Rattle.voting_drafts.proofs.ranking.order_row.Goals as goal

pub returns-then-a-eq0 : goal.returns-then-a-eq0
returns-then-a-eq0 c =
    λ t e a. let s = c.args in joined-none t (left-unranked s.a s.b s.c.left s.c.right c.if-a-eq0.true) e

pub returns-then-b-eq0 : goal.returns-then-b-eq0
returns-then-b-eq0 c =
    λ t e a. let s = c.args in joined-none t (right-unranked s.a s.b s.c.left s.c.right c.if-b-eq0.true) e

pub returns-then-a-b : goal.returns-then-a-b
returns-then-a-b c =
    λ t e a. let s = c.args in
    joined-one t (left-lower s.a s.b s.c.left s.c.right c.if-a-eq0.false c.if-b-eq0.false c.if-a-b.true) c.notafter.ensures (c.insert.ensures t e a)

pub returns-then-b-a : goal.returns-then-b-a
returns-then-b-a c =
    λ t e a. let s = c.args in
    joined-one t (right-lower s.a s.b s.c.left s.c.right c.if-a-eq0.false c.if-b-eq0.false c.if-b-a.true c.if-a-b.false) c.notafter-then-b-a.ensures (c.insert-then-b-a.ensures t e a)

pub returns : goal.returns
returns c =
    λ t e a. let s = c.args in
    joined-none t (equal-ranks s.a s.b s.c.left s.c.right c.if-a-eq0.false c.if-b-eq0.false c.if-a-b.false c.if-b-a.false) e
