use Rattle.lists.specs.Lists.{mem}
use Rattle.graph.proofs.indexes.Fit.{checked-fit}
use Rattle.bench.proofs.hidden.Named.{init-shown, mark-carried}
use Rattle.bench.proofs.hidden.carried.Goals as goal

pub returns : goal.returns
returns c = λ R S h o n k l w m.
    let t = c.index_table-index in
    c.by_index.ensures S (λ x. mem x h) n l (init-shown R h k w) (λ x i. mark-carried R h k w t.result _ (t.ensures R o (checked-fit R k)) m x)
