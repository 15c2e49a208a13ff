-- One row more of a roll: its fault, and how it is stored. Assumes nothing.
use mathlib.Core.Path.{◌≡◌, refl, sym, ◌∙◌}
use mathlib.Core.Bool.{Bool, true, false, not, ◌&&◌, ◌||◌, and-false, and-true, or-true, or-false}
use mathlib.Core.List.{List, [], ◌∷◌, ◌++◌, map, append-nil, append_assoc}
use Prim.Native.Nat.{ℕ, ◌+◌, ◌<◌}
use native.Mathlib.Omega.{arith}
use lib.Dec.{eqb, leb, ltb}
use lib.ListN.{length, take, drop, get_or, length-append, take-append-drop}
use borrow.Author.Tests.{ltb-true, leb-true, leb-false, le-leb, lt-ltb, le-ltb}
use Rattle.std.specs.List.{list_any}
use Rattle.lists.specs.Lists.{all, mem, distinct}
use Rattle.lists.proofs.Lists.{by, clash}
use Rattle.voting.specs.declared.RollRow.{RollRow}
use Rattle.lists.proofs.Front.{all_append, take_more}
use Rattle.record_rows.specs.grounds.Ground.{◌given◌}
use Rattle.refusals.specs.declared.Refusal.{Refusal}
use Rattle.refusals.specs.Numbers.{number}
use Rattle.refusals.proofs.Numbers.{number-positive}
use Rattle.lists.proofs.Tests.{eqb-swapped}
use Rattle.voting_roll.specs.Roll.{roll_bench, is_bench, roll_faulty, row_faulty}

-- a bench among the rows
pub bench-some : (bench : ℕ) (rows : List RollRow) → list_any (λ row. eqb row.bench bench) rows ≡ mem bench (map roll_bench rows)
unfolding mem
bench-some bench [] = refl
bench-some bench (x ∷ rows) = rw (eqb-swapped x.bench bench, bench-some bench rows)

mem-more : (x : ℕ) (rows : List RollRow) (row : RollRow) → mem x (map roll_bench (rows ++ (row ∷ []))) ≡ (mem x (map roll_bench rows) || eqb x row.bench)
unfolding mem
mem-more x [] row = or-false (eqb x row.bench)
mem-more x (y ∷ rows) row = by (eqb x y.bench) (λ e. rw e) (λ e. rw e (mem-more x rows row))

distinct_more : (rows : List RollRow) (row : RollRow) → distinct (map roll_bench (rows ++ (row ∷ []))) ≡ (distinct (map roll_bench rows) && not (mem row.bench (map roll_bench rows)))
unfolding distinct mem
distinct_more [] row = refl
distinct_more (x ∷ rows) row =
    rw (mem-more x.bench rows row, distinct_more rows row, eqb-swapped row.bench x.bench)
    (parted (mem x.bench (map roll_bench rows)) (eqb x.bench row.bench) (distinct (map roll_bench rows)) (mem row.bench (map roll_bench rows)))
  where
    parted : (a e d m : Bool) → (not (a || e) && (d && not m)) ≡ ((not a && d) && not (e || m))
    parted true e d m = refl
    parted false true d m = sym (and-false d)
    parted false false d m = refl

-- the three faults of a roll with one row more, from those of the roll and of the row
faults-stay : (a d l p m l' : Bool) → (l ≡ true → l' ≡ true) → (not a || (not d || l)) ≡ true → (not (a && p) || (not (d && not m) || l')) ≡ true
faults-stay false d l p m l' f h = refl
faults-stay true false l p m l' f h = or-true (not p)
faults-stay true true l p m l' f h = rw (f h, or-true (not (not m)), or-true (not p))

faults-more : (a d l p m l' : Bool) → (not a || (not d || l)) ≡ false → (not (a && p) || (not (d && not m) || l')) ≡ (not p || (m || l'))
faults-more false d l p m l' h = clash refl h
faults-more true false l p m l' h = clash refl h
faults-more true true l p true l' h = refl
faults-more true true l p false l' h = refl

longer : (rows : List RollRow) (row : RollRow) → ltb 8 (length (rows ++ (row ∷ []))) ≡ leb 8 (length rows)
longer rows row =
    by (leb 8 (length rows)) (λ e. lt-ltb 8 (length (rows ++ (row ∷ []))) (omega (arith, leb-true, length-append rows (row ∷ []))) ∙ sym e)
    (λ e. le-ltb 8 (length (rows ++ (row ∷ []))) (omega (arith, leb-false, length-append rows (row ∷ []))) ∙ sym e)

pub fault-more : (rows : List RollRow) (row : RollRow) → roll_faulty rows ≡ false → roll_faulty (rows ++ (row ∷ [])) ≡ row_faulty rows row (length rows)
unfolding roll_faulty row_faulty all
fault-more rows row h =
    rw (all_append is_bench rows (row ∷ []), and-true (is_bench row), distinct_more rows row, longer rows row)
    (faults-more (all is_bench rows) (distinct (map roll_bench rows)) (ltb 8 (length rows)) (is_bench row) (mem row.bench (map roll_bench rows)) (leb 8 (length rows)) h)

pub roll-fault-stays : (rows : List RollRow) (row : RollRow) → roll_faulty rows ≡ true → roll_faulty (rows ++ (row ∷ [])) ≡ true
unfolding roll_faulty all
roll-fault-stays rows row h =
    rw (all_append is_bench rows (row ∷ []), and-true (is_bench row), distinct_more rows row, longer rows row)
    (faults-stay (all is_bench rows) (distinct (map roll_bench rows)) (ltb 8 (length rows)) (is_bench row) (mem row.bench (map roll_bench rows)) (leb 8 (length rows))
    (λ e. le-leb 8 (length rows) (omega (arith, ltb-true 8 (length rows) e))) h)

fault-stays-over : (rows more : List RollRow) → roll_faulty rows ≡ true → roll_faulty (rows ++ more) ≡ true
fault-stays-over rows [] h = rw (append-nil rows) h
fault-stays-over rows (row ∷ more) h = rw (append_assoc rows (row ∷ []) more) at (fault-stays-over (rows ++ (row ∷ [])) more (roll-fault-stays rows row h))

fault-stays : (rows : List RollRow) (n : ℕ) → roll_faulty (take n rows) ≡ true → roll_faulty rows ≡ true
fault-stays rows n h = rw (take-append-drop n rows) at (fault-stays-over (take n rows) (drop n rows) h)

-- A BEGINNING OF A ROLL WITHOUT FAULT HAS NONE
pub beginning-faultless : (rows : List RollRow) (n : ℕ) → roll_faulty rows ≡ false → roll_faulty (take n rows) ≡ false
beginning-faultless rows n h = by (roll_faulty (take n rows)) (λ e. clash (fault-stays rows n e) h) (λ e. e)

-- a fault by its number
fault-given : (b : Bool) (r : Refusal) → number r ≡ 14 given b → (b ≡ true) × (number r ≡ 14)
fault-given true r h = (refl, h)
fault-given false r h = absurd (number-positive r h)

pub no-rows-faultless : roll_faulty [] ≡ false
unfolding roll_faulty all distinct
no-rows-faultless = refl

-- THE FAULT of a roll, read row by row: the rows before place i have none
module _ (rows : List RollRow) (i : ℕ) (h : i < length rows) (w : roll_faulty (take i rows) ≡ false) (d : RollRow) where
  fault-next : roll_faulty (take (i + 1) rows) ≡ row_faulty (take i rows) (get_or rows i d) (length (take i rows))
  fault-next = rw (take_more rows i d h) (fault-more (take i rows) (get_or rows i d) w)

  pub row-passed : row_faulty (take i rows) (get_or rows i d) (length (take i rows)) ≡ false → roll_faulty (take (i + 1) rows) ≡ false
  row-passed e = fault-next ∙ e

  pub row-refused : (r : Refusal) → number r ≡ 14 given row_faulty (take i rows) (get_or rows i d) (length (take i rows)) → number r ≡ 14 given roll_faulty rows
  row-refused r e =
      let f = fault-given (row_faulty (take i rows) (get_or rows i d) (length (take i rows))) r e in
      let g = fault-stays rows (i + 1) (fault-next ∙ f.0) in
      rw g f.1
