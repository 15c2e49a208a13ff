-- `is_repeated` meets its contract. Assumes nothing.
use mathlib.Core.Path.{◌∙◌}
use Rattle.std.proofs.Common.{rules}
use Rattle.std.proofs.lemmas.Iterator.{YieldsList-from_slice}
use Rattle.std.proofs.lemmas.Iterator.Search.{any_from_yields_List}
use Rattle.record_rows.specs.grounds.Ground.{alike}
use Rattle.record_tables.proofs.Tables.{any-listed}
use Rattle.record_tables.proofs.is_repeated.Goals as goal

pub returns : goal.returns
returns g c =
    let test = alike g.T.Element.KEY c.args.row.now in
    any_from_yields_List test _ _ _ c.any.ensures.ran (YieldsList-from_slice c.args.above.now c.iter.ensures.rest) (λ x b q k. search rules) ∙ any-listed test c.args.above.now
