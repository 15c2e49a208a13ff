use mathlib.Core.Path.{sym}
use mir.Facts.{to_z-of_z}
use Rattle.std.proofs.lemmas.Result.{err_from_is_err_and}
use Rattle.ledger.proofs.Undone.{from-valid}
use Rattle.bench.proofs.Moves.{turn-refused, turn-opens}
use Rattle.bench.proofs.turn.Goals as goal

pub returns-in_err-after : goal.returns-in_err-after
returns-in_err-after c =
    let t = rw (to_z-of_z c.ranges.by) at c.in_err-after.ensures in
    let p = err_from_is_err_and c.from_residual.result c.from_residual.ensures.1 in
    rw (p.1, p.2) (from-valid _ _ _ (λ L v e. turn-refused L v c.args.bench.now e c.args.by c.in_err-after.field-0.0 t.0))

pub returns : goal.returns
returns c =
    let t = rw (to_z-of_z c.ranges.by) at c.in_ok-after.ensures in
    turn-opens c.args.bench.now c.args.by c.in_ok-after.after (sym t.0) t.1 _ c.open_at.ensures _ c.turn_result.ensures
