use Rattle.lists.specs.Lists.{mem}
use Rattle.record.specs.Record.{names, written}
use Rattle.record.specs.Stored.{padded}
use Rattle.record_rows.specs.row.Row.{field_number}
use Rattle.graph.specs.links.Marks.{values_of, marks_of}
use Rattle.catalogue.specs.Shelves.{schedule_of}
use Rattle.catalogue.specs.Chips.{cells, places, chip_place, chips_view}
use Rattle.catalogue.proofs.Moves.{view-empty}
use Rattle.ledger.specs.Ledger.{start, pages, last}
use Rattle.ledger.specs.Bench.{bench_of, page_edits, open_edits}
use Rattle.bench.proofs.empty_bench.Goals as goal

pub returns : goal.returns
unfolding bench_of start padded marks_of values_of schedule_of last pages page_edits open_edits names written mem chips_view
returns c = rw (c.empty.ensures, c.empty-2.ensures, c.empty-3.ensures, view-empty cells places chip_place field_number)
