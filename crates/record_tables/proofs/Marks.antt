-- Marks of the names that are known, set one after the other. Assumes nothing.
use mathlib.Core.Path.{◌≡◌}
use mathlib.Core.Bool.{Bool, true, false, or-false, or-true}
use mathlib.Core.Logic.{◌≢◌}
use mathlib.Core.List.{List, [], ◌∷◌, ◌++◌, map, map-append}
use Prim.Native.Nat.{ℕ, ◌+◌, ◌≤◌, ◌<◌}
use native.Mathlib.Numerals.{add-one}
use native.Mathlib.Omega.{arith}
use borrow.Author.Tests.{eqb-true, eqb-false}
use lib.Dec.{eqb}
use lib.ListN.{length, take, get_or, set, replicate, length-replicate}
use lib.Seq.{take-suc, take_all, get_or-set_same, get_or-set_other}
use Rattle.lists.proofs.Lists.{by, mem-last}
use Rattle.record.specs.declared.Edit.{Edit}
use Rattle.lists.specs.Lists.{mem, all}
use Rattle.lists.proofs.Logic.{all-has, has-get_or}
use Rattle.lists.proofs.Arrays.{get_or-zeros}
use Rattle.record_rows.specs.row.Row.{Row, cell, edit_in_range, edit_row}
use Rattle.record_rows.proofs.row.Cells.{edit-in-range, name-small}
use Rattle.record_tables.specs.Checked.{MarksNames}

pub marks-start : (m : ℕ) → 0 < m → MarksNames (set (replicate m 0) 0 1) []
unfolding mem
marks-start m h n =
    by (eqb n 0)
    (λ (e : eqb n 0 ≡ true).
    let z : n ≡ 0 = eqb-true n 0 e in
    rw (e, z, get_or-set_same {A = ℕ} (replicate m 0) 0 1 0 (omega (arith, length-replicate {A = ℕ} m 0))))
    (λ (e : eqb n 0 ≡ false).
    let z : n ≢ 0 = eqb-false n 0 e in
    rw (e, get_or-set_other {A = ℕ} (replicate m 0) 0 n 1 0 z, get_or-zeros m n))

pub marks-more : (marks names : List ℕ) (x : ℕ) → x < length marks → MarksNames marks names → MarksNames (set marks x 1) (names ++ (x ∷ []))
unfolding mem
marks-more marks names x h k n =
    by (eqb n x)
    (λ (e : eqb n x ≡ true).
    let z : n ≡ x = eqb-true n x e in
    rw (mem-last n x names, e, or-true (mem n names), or-true (eqb n 0), z, get_or-set_same marks x 1 0 h))
    (λ (e : eqb n x ≡ false).
    let z : n ≢ x = eqb-false n x e in
    rw (mem-last n x names, e, or-false (mem n names), get_or-set_other marks x n 1 0 z) (k n))

-- one more element of a list is marked by its number, which is below the length of the marks where the element is good
module _ {A : Type 0} (number : A → ℕ) (good : A → Bool) (size : ℕ) (small : (x : A) → good x ≡ true → number x < size) (l : List A) where
  pub marks-next : (marks : List ℕ) (i k : ℕ) (d : A) → i < length l → length marks ≡ size → k ≡ number (get_or l i d)
      → (all good l ≡ true → MarksNames marks (map number (take i l))) → all good l ≡ true → MarksNames (set marks k 1) (map number (take (i + 1) l))
  marks-next marks i k d h w e s f =
      let b : number (get_or l i d) < size = small (get_or l i d) (all-has good l f (get_or l i d) (has-get_or l i d h)) in
      let n : map number (take (i + 1) l) ≡ map number (take i l) ++ (number (get_or l i d) ∷ []) = rw (add-one i, take-suc l i d h, map-append) in
      rw (n, e) (marks-more marks (map number (take i l)) (number (get_or l i d)) (omega arith) (s f))

  pub marks-end : (marks : List ℕ) (i : ℕ) → length l ≤ i → MarksNames marks (map number (take i l)) → MarksNames marks (map number l)
  marks-end marks i h k = let e : take i l ≡ l = take_all i l h in rw e at k

pub row_small : (x : Row) → edit_in_range x ≡ true → cell x 0 < 2304
row_small x h = name-small (cell x 0) (edit-in-range x h).name

pub edit-small : (e : Edit) → edit_in_range (edit_row e) ≡ true → e.name < 2304
unfolding edit_row
edit-small e h = row_small (edit_row e) h
