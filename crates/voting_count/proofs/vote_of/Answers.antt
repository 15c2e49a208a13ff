-- `vote_of` meets its contract. Assumes nothing.
use mathlib.Core.Path.{sym, ◌∙◌}
use Rattle.voting.specs.Bundle.{bundle}
use Rattle.voting_bundles.proofs.Judging.{bundle-fit, eligible-all}
use Rattle.voting_count.proofs.Benches.{vote-unknown, vote-open, vote-eligible}
use Rattle.graph.proofs.indexes.Fit.{checked-fit}
use Rattle.voting_count.proofs.vote_of.Goals as goal

pub returns-then-not-knows : goal.returns-then-not-knows
returns-then-not-knows c = λ R e k. c.silent.ensures ∙ vote-unknown R c.args.name (sym (c.knows.ensures R e k) ∙ c.if-not-knows.true)

pub returns-then-not-all_settled : goal.returns-then-not-all_settled
returns-then-not-all_settled c = λ R e k.
    let x = c.args.name in
    let f = checked-fit R k in
    let kn = sym (c.knows.ensures R e k) ∙ c.if-not-knows.false in
    c.silent-then-not-all_settled.ensures ∙ vote-open R x kn (sym (c.all_settled.ensures (bundle R x) (c.bundle-small.ensures R e f kn) (bundle-fit R f x) ∙ eligible-all R x) ∙ c.if-not-all_settled.true)

pub returns : goal.returns
returns c = λ R e k.
    let x = c.args.name in
    let f = checked-fit R k in
    let kn = sym (c.knows.ensures R e k) ∙ c.if-not-knows.false in
    let q = c.bundle-small.ensures R e f kn in
    vote-eligible R x c.bundle-small.result q kn (sym (c.all_settled.ensures (bundle R x) q (bundle-fit R f x) ∙ eligible-all R x) ∙ c.if-not-all_settled.false)
