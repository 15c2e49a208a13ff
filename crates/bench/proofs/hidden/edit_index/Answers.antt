use mathlib.Core.Path.{ap, ◌∙◌}
use native.Mathlib.Omega.{arith}
use Prim.Native.Nat.{ℕ, ◌≤◌, ◌^◌}
use native.Mathlib.Numerals.{add-one}
use Rattle.record.specs.Record.{written}
use Rattle.record_tables.specs.Checked.{known_place}
use Rattle.std.specs.Prelude.{Some}
use Rattle.bench.proofs.hidden.Index.{fitted, unfitted, index-past, index-missing, index-found}
use Rattle.bench.proofs.hidden.edit_index.Goals as goal

pub returns-in_err-name-clause-is : goal.returns-in_err-name-clause-is
returns-in_err-name-clause-is c R e k =
    let n = unfitted _ _ _ c.try_from.ensures c.in_err-name.ensures.value in
    let l : 2 ^ 16 ≤ c.args.name = omega arith in
    c.from_residual.ensures ∙ index-past R k c.args.name l

pub returns-in_err-place-clause-is : goal.returns-in_err-place-clause-is
returns-in_err-place-clause-is c R e k =
    let n = fitted _ _ _ _ c.try_from.ensures c.in_ok-name.ensures.value in
    c.from_residual-in_err-place.ensures ∙ index-missing R k c.args.name (c.in_err-place.ensures R e k ∙ ap (λ (x : ℕ). known_place x (written R)) n)

pub returns-then-place-lt-EDITS-clause-is : goal.returns-then-place-lt-EDITS-clause-is
returns-then-place-lt-EDITS-clause-is c R e k =
    let n = fitted _ _ _ _ c.try_from.ensures c.in_ok-name.ensures.value in
    ap Some (add-one _) ∙ (index-found R k c.args.name _ (c.in_ok-place.ensures R e k ∙ ap (λ (x : ℕ). known_place x (written R)) n)).0

pub returns-else-place-lt-EDITS-clause-is : goal.returns-else-place-lt-EDITS-clause-is
returns-else-place-lt-EDITS-clause-is c R e k =
    let n = fitted _ _ _ _ c.try_from.ensures c.in_ok-name.ensures.value in
    let w = (index-found R k c.args.name _ (c.in_ok-place.ensures R e k ∙ ap (λ (x : ℕ). known_place x (written R)) n)).1 in
    absurd (omega (arith, c.if-place-lt-EDITS.false))
