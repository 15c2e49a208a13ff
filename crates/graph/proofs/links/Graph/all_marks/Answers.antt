-- `links::Graph::all_marks` meets its contract. Assumes nothing.
use Rattle.std.proofs.Common.{ℕ, arith, rules, length, get_or, ◌≡◌, ◌<◌}
use Rattle.std.proofs.lemmas.List.{drop-replicate, places}
use Rattle.graph.proofs.links.Marks.{all-filled}
use Rattle.graph.proofs.links.Graph.all_marks.Goals as goal

pub returns : goal.returns
returns c R q =
    let n = c.args.self.now.count in
    let few = c.args.self.now.few in
    let ones = c.fill.new.self in
    let size : length ones ≡ n = search rules in
    let one : (y : ℕ) → y < n → get_or ones y 0 ≡ 1 = search (rules, places) in
    rw (drop-replicate {X = ℕ} n 128 0) (all-filled R n ones (omega (arith, q, few)) q size one)
