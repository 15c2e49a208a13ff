-- `pairs::is_unordered` meets its contract. Assumes nothing.
use Rattle.record.specs.Record.{notafter}
use Rattle.voting_drafts.proofs.pairs.Unordered.{index-low, index-name, other-rule, order-rows, order-read}
use Rattle.voting_drafts.proofs.pairs.is_unordered.Goals as goal

pub returns-then-c-ne-NONCOMMUTING : goal.returns-then-c-ne-NONCOMMUTING
returns-then-c-ne-NONCOMMUTING c = λ R g f l r. other-rule R c.args.c c.if-c-ne-NONCOMMUTING.true

pub returns : goal.returns
returns c =
    λ R g f l r.
    let t = c.args.index.now in
    let i = rw c.from.ensures at c.index_of-a.ensures.is in
    let j = rw c.from-2.ensures at c.index_of-b.ensures.is in
    let il = index-low R t f c.args.c.left l i in
    let jl = index-low R t f c.args.c.right r j in
    let n = index-name R t f c.args.c.left l i in
    let m = index-name R t f c.args.c.right r j in
    order-rows R c.args.c c.if-c-ne-NONCOMMUTING.false (order-read R c.args.c.left c.args.c.right _ _ (c.leads_either_way.ensures (notafter R) R g.notafters il jl) n m)
