-- `seat_of` meets its contract. Assumes nothing.
use mathlib.Core.Path.{◌≡◌, refl, ◌∙◌}
use Prim.Native.Nat.{◌≤◌, ◌<◌}
use borrow.Author.Rules.{rules}
use Rattle.refusals.specs.Numbers.{number}
use Rattle.log_lent.proofs.Settings.{no-bench, no-weight, seat-fits}
use Rattle.log_lent.proofs.lent_calls.Given.{told-given}
use Rattle.log_lent.proofs.seat_of.Goals as goal

pub returns-in_err-bench : goal.returns-in_err-bench
returns-in_err-bench c =
    let h : 256 ≤ c.args.bench = search rules in
    let n : number c.in_err-bench.field-0.0 ≡ 2 = search rules in
    told-given _ _ _ c.from_residual.ensures (n ∙ no-bench _ _ h)

pub returns-in_err-weight : goal.returns-in_err-weight
returns-in_err-weight c =
    let h : 65536 ≤ c.args.weight = search rules in
    let n : number c.in_err-weight.field-0.0 ≡ 2 = search rules in
    told-given _ _ _ c.from_residual-in_err-weight.ensures (n ∙ no-weight _ _ h)

pub returns : goal.returns
returns c =
    let a : c.args.bench < 256 = search rules in
    let b : c.args.weight < 65536 = search rules in
    let p : c.in_ok-bench.bench ≡ c.args.bench = search rules in
    let q : c.in_ok-weight.weight ≡ c.args.weight = search rules in
    (seat-fits _ _ a b, rw (p, q) refl)
