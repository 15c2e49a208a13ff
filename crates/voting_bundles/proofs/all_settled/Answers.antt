-- `all_settled` meets its contract. Assumes nothing.
use mathlib.Core.Path.{◌≡◌}
use Prim.Native.Nat.{◌+◌}
use native.Mathlib.Omega.{arith}
use lib.ListN.{length}
use Rattle.record.specs.Record.{names}
use Rattle.record.specs.Judgement.{settled}
use Rattle.graph.proofs.indexes.Tables.{length-names}
use Rattle.voting_bundles.proofs.equality.Equal.{edits-kept}
use Rattle.voting_bundles.proofs.all_settled.Goals as goal

pub returns : goal.returns
returns c = λ R e f.
    let n : length c.edit_slice.result.now + 1 ≡ length (names R) = rw (c.edit_slice.ensures, edits-kept c.args.multilog R e) (omega (arith, length-names R)) in
    c.every_marked.ensures R (settled R) n (c.settleds.ensures R e f)
