-- What each line that lends leaves. Assumes nothing.
use mathlib.Core.Path.{◌≡◌, refl, sym, ◌∙◌}
use mathlib.Core.Bool.{true, false, cond, and-false}
use mathlib.Core.List.{[]}
use Prim.Native.Nat.{ℕ, ◌+◌, ◌≤◌, ◌<◌}
use native.Mathlib.Omega.{arith}
use lib.Dec.{eqb, leb, ltb}
use lib.ListN.{length, set}
use lib.Seq.{take_all}
use borrow.Author.Tests.{lt-ltb, le-ltb, eq-eqb, ne_eqb, le-leb, lt-leb}
use Rattle.record.specs.Record.{Record}
use Rattle.lists.proofs.Lists.{by}
use Rattle.record_tables.specs.Table.{edit_rows, constraint_rows}
use Rattle.refusals.specs.declared.Refusal.{Refusal}
use Rattle.refusals.specs.Numbers.{number}
use Rattle.refusals.proofs.Numbers.{number-positive}
use Rattle.voting.specs.declared.RollRow.{RollRow}
use Rattle.log_lent.specs.declared.Lending.{Lending}
use Rattle.log_lent.specs.declared.lent_tables.LentTables.{LentTables}
use Rattle.log_lent.specs.Lent.{Lent, nothing_lent, is_lent, edit_places, constraint_places, roll_places, row_places, with, with_record, record_number, seat_number, with_seat, without_roll, name_number, with_name, without_row}
use Rattle.log_lent.specs.Kept.{Kept}
use Rattle.log_lent.specs.lent_tables.Tables.{Tables}
use Rattle.log_lent.proofs.Listed.{listed-length, listed_same, listed-none, listed_more, first-full, first_one_more}

pub none_kept : {lending : Lending} → Tables (λ k. []) lending.edits.tables → Tables (λ k. []) lending.constraints.tables
    → length lending.roll ≡ roll_places → lending.roll_count ≡ 0 → length lending.row ≡ row_places → lending.row_count ≡ 0 → Kept nothing_lent lending
unfolding nothing_lent
none_kept S T s m r n = record {
  edits = S;
  constraints = T;
  roll = record { rows = rw m (sym (take_all 9 [] (omega arith))); size = s; few = omega arith };
  row = record { rows = rw n refl; size = r; few = omega arith };
}

-- the numbers of a row of the roll
module _ (bench weight : ℕ) where
  pub no-bench : 256 ≤ bench → 2 ≡ seat_number bench weight
  unfolding seat_number
  no-bench h = let e : ltb bench 256 ≡ false = le-ltb bench 256 h in rw e refl

  pub no-weight : 65536 ≤ weight → 2 ≡ seat_number bench weight
  unfolding seat_number
  no-weight h = let e : ltb weight 65536 ≡ false = le-ltb weight 65536 h in rw (e, and-false (ltb bench 256)) refl

  pub seat-fits : bench < 256 → weight < 65536 → 0 ≡ seat_number bench weight
  unfolding seat_number
  seat-fits a b = let d : ltb bench 256 ≡ true = lt-ltb bench 256 a in let e : ltb weight 65536 ≡ true = lt-ltb weight 65536 b in rw (d, e) refl

module _ {L : Lent} {lending : Lending} (K : Kept L lending) where
  module _ (k : ℕ) (R : Record) {edits : LentTables 5 edit_places} (S : Tables (cond (is_lent k) (with k (edit_rows R) L.edits) L.edits) edits.tables) where
    pub no-such-record : (r : Refusal) → number r ≡ record_number k → (number r ≡ record_number k) × Kept (with_record L k R) (record lending { edits = edits })
    unfolding with_record
    no-such-record r n = (
      n,
      by (ltb k 9)
          (λ (e : ltb k 9 ≡ true). absurd (number-positive r (rw e at n)))
          (λ (e : ltb k 9 ≡ false). rw e (record { edits = rw e at S; constraints = K.constraints; roll = K.roll; row = K.row })),
    )

    pub record-lent : {constraints : LentTables 3 constraint_places} → Tables (cond (is_lent k) (with k (constraint_rows R) L.constraints) L.constraints) constraints.tables
        → Kept (with_record L k R) (record lending { edits = edits; constraints = constraints })
    unfolding with_record
    record-lent T =
        by (ltb k 9)
        (λ (e : ltb k 9 ≡ true). rw e (record { edits = rw e at S; constraints = rw e at T; roll = K.roll; row = K.row }))
        (λ (e : ltb k 9 ≡ false). rw e (record { edits = rw e at S; constraints = rw e at T; roll = K.roll; row = K.row }))

  module _ (bench weight : ℕ) where
    pub no-seat : (r : Refusal) → number r ≡ seat_number bench weight → (number r ≡ seat_number bench weight) × Kept (with_seat L bench weight) lending
    unfolding with_seat
    no-seat r n = let e : eqb (seat_number bench weight) 0 ≡ false = ne_eqb (seat_number bench weight) 0 (λ z. number-positive r (n ∙ z)) in (n, rw e K)

    module _ (z : 0 ≡ seat_number bench weight) {seat : RollRow} (q : seat ≡ record { bench = bench; weight = weight }) where
      seated : eqb (seat_number bench weight) 0 ≡ true
      seated = eq-eqb (seat_number bench weight) 0 (sym z)

      pub seat-past : roll_places ≤ lending.roll_count → (0 ≡ seat_number bench weight) × Kept (with_seat L bench weight) lending
      unfolding with_seat
      seat-past h = (z, rw (seated, ← q) (record { edits = K.edits; constraints = K.constraints; roll = first-full roll_places L.roll K.roll seat h; row = K.row }))

      pub seat-lent : lending.roll_count < roll_places
          → (0 ≡ seat_number bench weight) × Kept (with_seat L bench weight) (record lending { roll = set lending.roll lending.roll_count seat; roll_count = lending.roll_count + 1 })
      unfolding with_seat
      seat-lent h = (z, rw (seated, ← q) (record { edits = K.edits; constraints = K.constraints; roll = first_one_more roll_places L.roll K.roll seat h; row = K.row }))

  pub no-roll-lent : Kept (without_roll L) (record lending { roll_count = 0 })
  unfolding without_roll
  no-roll-lent = record { edits = K.edits; constraints = K.constraints; roll = listed_same (listed-none K.roll) (sym (take_all 9 [] (omega arith))); row = K.row }

  pub no-row-lent : Kept (without_row L) (record lending { row_count = 0 })
  unfolding without_row
  no-row-lent = record { edits = K.edits; constraints = K.constraints; roll = K.roll; row = listed-none K.row }

  module _ (name : ℕ) where
    pub row-full : row_places ≤ lending.row_count → (3 ≡ name_number L) × Kept (with_name L name) lending
    unfolding with_name name_number
    row-full h = let e : leb 129 (length L.row) ≡ true = rw (listed-length K.row) (le-leb 129 lending.row_count h) in rw e (refl, K)

    pub name-lent : lending.row_count < row_places
        → (0 ≡ name_number L) × Kept (with_name L name) (record lending { row = set lending.row lending.row_count name; row_count = lending.row_count + 1 })
    unfolding with_name name_number
    name-lent h =
        let e : leb 129 (length L.row) ≡ false = rw (listed-length K.row) (lt-leb 129 lending.row_count h) in
        rw e (refl, record { edits = K.edits; constraints = K.constraints; roll = K.roll; row = listed_more K.row h name })
