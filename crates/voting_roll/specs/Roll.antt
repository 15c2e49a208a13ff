-- Document 01, "Proposals and votes" and "What is turned away": the roll and its fault. Assumes nothing.
use Rattle.std.specs.Prelude.{Bool, not, ◌&&◌, ◌||◌, List, map, ℕ, leb, ltb, length}
use Rattle.lists.specs.Lists.{all, mem, distinct}
use Rattle.record_rows.specs.row.Row.{bench_limit}
use Rattle.voting.specs.declared.RollRow.{RollRow}

abbrev pub roll_bench : RollRow → ℕ
roll_bench row = row.bench

abbrev pub is_bench : RollRow → Bool
is_bench row = leb 1 row.bench && leb row.bench bench_limit

-- 14: bench not 1 to 8, bench twice, or 9 rows
unfoldable pub roll_faulty : List RollRow → Bool
roll_faulty rows = not (all is_bench rows) || (not (distinct (map roll_bench rows)) || ltb bench_limit (length rows))

-- the same of one row more, after n rows without fault
unfoldable pub row_faulty : List RollRow → RollRow → ℕ → Bool
row_faulty rows row n = not (is_bench row) || (mem row.bench (map roll_bench rows) || leb bench_limit n)
