-- `main` meets its contract. Assumes nothing.
use mathlib.Core.Path.{sym}
use lib.Seq.{length-take-le}
use Rattle.text_writer.proofs.Placing.{placed-inside}
use Rattle.unity.proofs.main.Goals as goal

pub slice_bounds-out-end : goal.slice_bounds-out-end
slice_bounds-out-end c = placed-inside _ _ 0 c.in-Ok.ensures.answer c.in-Ok.ensures.bytes

pub slice_bounds-write_all-end : goal.slice_bounds-write_all-end
slice_bounds-write_all-end c = sym (length-take-le c.in-Ok.end _ (placed-inside _ _ 0 c.in-Ok.ensures.answer c.in-Ok.ensures.bytes))
