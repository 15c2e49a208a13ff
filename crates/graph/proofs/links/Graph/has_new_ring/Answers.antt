-- `links::has_new_ring` meets its contract. Assumes nothing.
use native.Mathlib.Omega.{arith}
use Rattle.graph.proofs.links.Rings.{ring-found, ring-none, ring-low}
use Rattle.graph.proofs.links.Search.{search-start, search-step, search-ring}
use Rattle.graph.proofs.links.Graph.has_new_ring.Goals as goal

pub loop-x-init : goal.loop-x-init
loop-x-init c = search-start c.args.self.now.rows c.args.old.now _

pub returns-then-visit_new : goal.returns-then-visit_new
returns-then-visit_new c =
    let l = c.loop-x in
    λ R u t g q sub o calm e. ring-found R t _ c.args.self.now.rows g sub e
    (search-ring c.args.self.now.rows c.args.old.now _ l.x l.states _ c.visit_new.result c.if-visit_new.true l.invariant c.visit_new.ensures g.keys g.linked (ring-low R t _ c.args.self.now.rows g sub e))

pub loop-x-preserved : goal.loop-x-preserved
loop-x-preserved c =
    let l = c.loop-x in
    search-step c.args.self.now.rows c.args.old.now _ l.x l.states _ c.visit_new.result c.if-visit_new.false l.invariant c.visit_new.ensures

pub returns : goal.returns
returns c =
    let l = c.loop-x in
    λ R u t g q sub o calm e. ring-none R t _ c.args.self.now.rows g sub e u c.args.old.now l.x l.states (omega (arith, q)) o calm l.invariant
