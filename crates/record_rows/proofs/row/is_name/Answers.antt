-- `row::is_name` meets its contract. Assumes nothing.
use Prim.Native.Nat.{◌/◌, ◌%◌}
use mathlib.Core.Bool.{and_assoc}
use lib.Dec.{leb}
use Rattle.record_rows.specs.row.Row.{is_name}
use Rattle.record_rows.proofs.row.is_name.Goals as goal

pub returns : goal.returns
unfolding is_name
returns c = let n = c.args.n in and_assoc (leb 1 (n / 256)) (leb (n / 256) 8) (leb 1 (n % 256))
