-- The count of a roll's rows, one after the other. Assumes nothing.
use mathlib.Core.Path.{◌≡◌, refl, ap, ◌∙◌}
use mathlib.Core.Bool.{true, false, not, ◌||◌}
use mathlib.Core.List.{List, [], ◌∷◌, ◌++◌, map, map-append}
use Prim.Native.Nat.{ℕ, ◌*◌, ◌≤◌, ◌<◌}
use native.Mathlib.Omega.{arith}
use lib.Dec.{leb, ltb}
use lib.ListN.{length, length-map, length-append}
use borrow.Author.Tests.{not-false, ltb-false, leb-false}
use Rattle.lists.specs.Lists.{all, mem, distinct}
use Rattle.lists.proofs.Lists.{or-no-l, or-no-r}
use Rattle.voting.specs.declared.ElectionResult.{ElectionResult}
use Rattle.voting.specs.declared.RollRow.{RollRow}
use Rattle.voting.specs.Tally.{Ballot, ballots, total}
use Rattle.voting_roll.specs.Roll.{roll_bench, is_bench, roll_faulty, row_faulty}
use Rattle.voting_roll.specs.Election.{Proposals, cast}
use Rattle.voting_tally.specs.declared.Tally.{Tally}
use Rattle.voting_tally.specs.Groups.{result_of, tally_of}
use Rattle.voting_tally.proofs.Counts.{total-more}
use Rattle.voting_count.specs.Count.{ballot_of}
use Rattle.voting_count.specs.Tallied.{beginnings}
use Rattle.voting_count.proofs.Beginnings.{beginnings-more}

-- a roll without fault has at most eight rows
pub rows_few : (rows : List RollRow) → roll_faulty rows ≡ false → length rows ≤ 8
unfolding roll_faulty
rows_few rows f =
    ltb-false 8 (length rows)
    (or-no-r (not (distinct (map roll_bench rows))) (ltb 8 (length rows)) (or-no-r (not (all is_bench rows)) (not (distinct (map roll_bench rows)) || ltb 8 (length rows)) f))

-- a row without fault after n rows without one
pub row-bench : (rows : List RollRow) (row : RollRow) (n : ℕ) → row_faulty rows row n ≡ false → is_bench row ≡ true
unfolding row_faulty
row-bench rows row n h = not-false (is_bench row) (or-no-l (not (is_bench row)) (mem row.bench (map roll_bench rows) || leb 8 n) h)

pub row-place : (rows : List RollRow) (row : RollRow) (n : ℕ) → row_faulty rows row n ≡ false → n < 8
unfolding row_faulty
row-place rows row n h = leb-false 8 n (or-no-r (mem row.bench (map roll_bench rows)) (leb 8 n) (or-no-r (not (is_bench row)) (mem row.bench (map roll_bench rows) || leb 8 n) h))

module _ (e : ℕ) (P : Proposals) where
  -- THE ROWS SO FAR ARE COUNTED: in the tally, and in the answers before the first of them and after each
  pub record RowsCounted (rows : List RollRow) (t : Tally) (answers : List ElectionResult) : Type 0 where
    pub tally-is : t ≡ tally_of (cast e P rows)
    pub answers-are : answers ≡ map (λ b. result_of (cast e P b)) (beginnings rows)
    pub low : total (cast e P rows) ≤ 65535 * length rows

  pub no-rows-counted : (t : Tally) → t ≡ tally_of [] → RowsCounted [] t (t.election ∷ [])
  unfolding cast ballots total beginnings tally_of
  no-rows-counted t q = record { tally-is = q; answers-are = ap (λ (t : Tally). t.election ∷ []) q; low = omega arith }

  module _ (rows : List RollRow) (row : RollRow) where
    pub cast-more : cast e P (rows ++ (row ∷ [])) ≡ cast e P rows ++ (ballot_of e P row ∷ [])
    unfolding cast ballots
    cast-more = map-append (ballot_of e P) rows (row ∷ [])

    cast-length : length (cast e P rows) ≡ length rows
    unfolding cast ballots
    cast-length = length-map rows (ballot_of e P)

    -- one row more
    pub row-counted : {t r : Tally} {answers : List ElectionResult} → RowsCounted rows t answers → row_faulty rows row (length rows) ≡ false → row.weight ≤ 65535
        → ((l : List Ballot) → is_bench row ≡ true → t ≡ tally_of l → length l < 8 → total l ≤ 524280 → r ≡ tally_of (l ++ (ballot_of e P row ∷ [])))
        → RowsCounted (rows ++ (row ∷ [])) r (answers ++ (r.election ∷ []))
    unfolding tally_of
    row-counted {t} {r} {answers} w f k s =
        let l = cast e P rows in
        let n = row-place rows row (length rows) f in
        let z : r ≡ tally_of (l ++ (ballot_of e P row ∷ [])) = s l (row-bench rows row (length rows) f) w.tally-is (omega (arith, cast-length)) (omega (arith, w.low)) in
        let y : r ≡ tally_of (cast e P (rows ++ (row ∷ []))) = rw cast-more z in
        let result : List RollRow → ElectionResult = λ b. result_of (cast e P b) in
        let x : r.election ≡ result (rows ++ (row ∷ [])) = ap (λ (t : Tally). t.election) y in
        let m : map result (beginnings (rows ++ (row ∷ []))) ≡ map result (beginnings rows) ++ (result (rows ++ (row ∷ [])) ∷ []) =
        ap (map result) (beginnings-more rows row) ∙ map-append result (beginnings rows) ((rows ++ (row ∷ [])) ∷ []) in
        record {
          tally-is = y;
          answers-are = rw (m, x, w.answers-are) refl;
          low = rw (cast-more, total-more l row.weight (ballot_of e P row).vote) (omega (arith, w.low, length-append rows (row ∷ [])));
        }
