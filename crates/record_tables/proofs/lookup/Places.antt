-- The place of a name in an ascending list, looked for by halving. Assumes nothing.
use mathlib.Core.Path.{◌≡◌, refl, ap, sym, ◌∙◌}
use mathlib.Core.Bool.{true, false}
use mathlib.Core.List.{List, [], ◌∷◌, map}
use Prim.Native.Nat.{ℕ, zero, suc, ◌≤◌, ◌<◌}
use native.Mathlib.Omega.{arith}
use borrow.Author.Tests.{eq-eqb, ne_eqb, ltb-true, ltb-false, lt-ltb, le-ltb}
use lib.Dec.{ltb}
use lib.ListN.{length, get_or, length-map}
use Rattle.std.specs.Prelude.{Result, Ok, Err, Some, None}
use Rattle.std.specs.Result.{result_ok}
use Rattle.std.specs.Ordering.{nat_cmp, ordering_index}
use Rattle.std.proofs.Common.{Less, Equal, Greater}
use Rattle.std.specs.List.Sorted.{IsBinarySearchResult, IsSearchInRange}
use Rattle.std.proofs.lemmas.Cmp.{ranked}
use Rattle.std.proofs.lemmas.Bool.Decides.{nat_tests}
use Rattle.lists.proofs.Lists.{by, same_by, mem_index, index-mem, ascending-head, ascending-tail, has-among, get_or-mapped}
use Rattle.record.specs.declared.Edit.{Edit}
use Rattle.lists.specs.Lists.{index_of, mem, ascending}
use Rattle.lists.proofs.Logic.{has-get_or}
use Rattle.record.specs.Record.{Record, name_of, written, names}
use Rattle.record.specs.Stored.{filler_edit}
use Rattle.record_tables.specs.Checked.{Checked, known_place}
use Rattle.record_tables.proofs.Records.{checked-ascending}

pub ascends : (l : List ℕ) (j k : ℕ) → ascending l ≡ true → j < k → k < length l → get_or l j 0 < get_or l k 0
ascends [] j k h p q = absurd (omega arith)
ascends (x ∷ l) j zero h p q = absurd (omega arith)
ascends (x ∷ l) zero (suc k) h p q = ascending-head x l h (get_or l k 0) (has-among (get_or l k 0) l (has-get_or l k 0 (omega arith)))
ascends (x ∷ l) (suc j) (suc k) h p q = ascends l j k (ascending-tail x l h) (omega arith) (omega arith)

-- the place, from what stands before it
at_here : (x : ℕ) (l : List ℕ) (i : ℕ) → i < length l → get_or l i 0 ≡ x → ((k : ℕ) → k < i → get_or l k 0 < x) → i ≡ index_of x l
unfolding index_of
at_here x [] i h e f = absurd (omega arith)
at_here x (y ∷ l) zero h e f = let q : x ≡ y = sym e in rw (eq-eqb x y q)
at_here x (y ∷ l) (suc i) h e f =
    let n : x ≡ y → ⊥ = λ q. let b : y < x = f 0 (omega arith) in omega arith in
    rw (ne_eqb x y n) (ap suc (at_here x l i (omega arith) e (λ k p. f (suc k) (omega arith))))

at_none : (x : ℕ) (l : List ℕ) → ((k : ℕ) → k < length l → get_or l k 0 ≡ x → ⊥) → length l ≡ index_of x l
unfolding index_of
at_none x [] f = refl
at_none x (y ∷ l) f =
    let n : x ≡ y → ⊥ = λ q. f 0 (omega arith) (sym q) in
    rw (ne_eqb x y n) (ap suc (at_none x l (λ k p. f (suc k) (omega arith))))

-- a name that is there has a place below the length
low-mem : (x : ℕ) (l : List ℕ) → ltb (index_of x l) (length l) ≡ mem x l
low-mem x l =
    same_by (ltb (index_of x l) (length l)) (mem x l) (λ e. index-mem x l (ltb-true (index_of x l) (length l) e)) (λ i. lt-ltb (index_of x l) (length l) (mem_index x l i))

pub place-some : (x : ℕ) (l : List ℕ) (i : ℕ) → i ≡ index_of x l → i < length l → Some i ≡ known_place x l
place-some x l i e h = let m : mem x l ≡ true = sym (low-mem x l) ∙ rw (← e) (lt-ltb i (length l) h) in rw (m, e)

pub place-none : (x : ℕ) (l : List ℕ) → length l ≡ index_of x l → None ≡ known_place x l
place-none x l e = let m : mem x l ≡ false = sym (low-mem x l) ∙ rw (← e) (le-ltb (length l) (length l) (omega arith)) in rw m

-- later names answer no less
rises : (a b x : ℕ) → a ≤ b → ordering_index (nat_cmp a x) ≤ ordering_index (nat_cmp b x)
rises a b x h = grind (arith, nat_tests)

-- what a search by halving finds
module _ (l : List Edit) (x : ℕ) (a : ascending (map name_of l) ≡ true) where
  name_at : (k : ℕ) → k < length l → get_or (map name_of l) k 0 ≡ name_of (get_or l k filler_edit)
  name_at k h = get_or-mapped name_of l k filler_edit 0 h

  apart : (k : ℕ) (d : Edit) → k < length l → name_of (get_or l k d) ≡ name_of (get_or l k filler_edit)
  apart k d h = sym (get_or-mapped name_of l k d 0 h) ∙ name_at k h

  rising : (i j : ℕ) → i ≤ j → j < length l → get_or (map name_of l) i 0 ≤ get_or (map name_of l) j 0
  rising i j p q =
      by (ltb i j)
      (λ e. omega (arith, ascends (map name_of l) i j a (ltb-true i j e) (omega (arith, length-map l name_of))))
      (λ e. let z : i ≡ j = omega (arith, ltb-false i j e) in rw z (omega arith))

  pub searched : (r : Result ℕ ℕ) → IsSearchInRange r (length l) → IsBinarySearchResult (λ e. nat_cmp (name_of e) x) l r → result_ok r ≡ known_place x (map name_of l)
  searched (Ok i) h p =
      let e : get_or (map name_of l) i 0 ≡ x = name_at i h ∙ ranked (name_of (get_or l i filler_edit)) x Equal (sym (p filler_edit)) in
      let long : i < length (map name_of l) = omega (arith, length-map l name_of) in
      place-some x (map name_of l) i (at_here x (map name_of l) i long e (λ k q. rw (← e) (ascends (map name_of l) k i a q long))) long
  searched (Err i) h p =
      let q = p (λ m n d u v. rises (name_of (get_or l m d)) (name_of (get_or l n d)) x (omega (arith, rising m n u v, apart m d (omega arith), apart n d v, name_at m (omega arith), name_at n v))) in
      place-none x (map name_of l)
      (at_none x (map name_of l)
      (λ k w e.
      let s : k < length l = omega (arith, length-map l name_of) in
      let y : name_of (get_or l k filler_edit) ≡ x = sym (name_at k s) ∙ e in
      by (ltb k i)
      (λ z. let less : name_of (get_or l k filler_edit) < x = ranked (name_of (get_or l k filler_edit)) x Less (sym (q.0 k filler_edit (omega arith) (ltb-true k i z))) in omega (arith, less, y))
      (λ z. let more : x < name_of (get_or l k filler_edit) = ranked (name_of (get_or l k filler_edit)) x Greater (sym (q.1 k filler_edit (ltb-false k i z) s)) in omega (arith, more, y))))

-- the names of a record ascend
pub written-ascends : (R : Record) → Checked R → ascending (written R) ≡ true
unfolding names
written-ascends R k = ascending-tail 0 (written R) (checked-ascending R k)
