-- `member_rows` meets its contract. Assumes nothing.
use Rattle.voting_members.proofs.member_rows.Goals as goal

pub returns : goal.returns
returns c R e f t = c.leading_rows.ensures R e f t (c.resolved-graph.ensures R e f).0
