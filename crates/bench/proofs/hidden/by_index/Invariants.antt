use Prim.Native.Nat.{ℕ}
use mathlib.Core.Path.{◌≡◌}
use mathlib.Core.Bool.{Bool, false, cond}
use lib.ListN.{length}
use Rattle.lists.specs.Lists.{◌among◌}
use Rattle.record.specs.Record.{Record, written}
use Rattle.record.specs.Stored.{stored}
use Rattle.record_tables.specs.Checked.{Checked}
use Rattle.bench.specs.hidden.Marks.{mark_named}
use Rattle.bench.proofs.hidden.Named.{MarkedTo}
use Rattle.bench.proofs.hidden.by_index.Given as goal

abbrev pub invariant-loop-i : goal.invariant-loop-i
invariant-loop-i l = (length l.marks ≡ 128)
    × ((R : Record) (test : ℕ → Bool) → l.fn.multilog ≡ stored R → Checked R → test 0 ≡ false → ((x : ℕ) → x among written R → mark_named l.index l.hidden x ≡ cond (test x) 1 0) → MarkedTo R test l.marks l.i)
