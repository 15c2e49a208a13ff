-- Marks by index, carried over one edit after the other; and one mark set or cleared. Assumes nothing.
use mathlib.Core.Path.{◌≡◌, sym, ap, ◌∙◌}
use mathlib.Core.Bool.{Bool, false, cond}
use mathlib.Core.Logic.{◌≢◌}
use mathlib.Core.List.{List, map}
use Prim.Native.Nat.{ℕ, suc, ◌+◌, ◌≤◌, ◌<◌}
use native.Mathlib.Omega.{arith}
use native.Mathlib.Numerals.{add-one}
use lib.ListN.{length, get_or, set, replicate, length-set, length-map}
use lib.Seq.{get_or-set_same, get_or-set_other}
use Rattle.record.specs.declared.Edit.{Edit}
use Rattle.lists.specs.Lists.{mem, index_of, ◌among◌, ◌within◌}
use Rattle.record.specs.Record.{Record, name_of, names, written}
use Rattle.lists.proofs.Lists.{by, clash, is-by, mem_index}
use Rattle.lists.proofs.Arrays.{get_or-zeros}
use Rattle.record.proofs.Records.{written-names}
use Rattle.graph.specs.links.Marks.{name_at, marks_of}
use Rattle.graph.specs.indexes.Indexed.{Indexed}
use Rattle.graph.proofs.links.Names.{get_or-among, get_or-place, place-known, place-unknown, place_same, ascending-distinct}
use Rattle.graph.proofs.links.Marks.{values-are, marks-size, marks-at, marks-past}
use Rattle.record_tables.specs.Checked.{Checked}
use Rattle.record_tables.proofs.Records.{checked-unwritten, checked-ascending}
use Rattle.bench.specs.hidden.Marks.{mark_named}
use Rattle.bench.proofs.hidden.Index.{length-written, held-few, name-is}

module _ (R : Record) (test : ℕ → Bool) where
  -- the marks of the first i edits, by index
  pub record MarkedTo (marks : List ℕ) (i : ℕ) : Type 0 where
    pub passed : (y : ℕ) → y ≤ i → get_or marks y 0 ≡ cond (test (name_at R y)) 1 0
    pub left : (y : ℕ) → i < y → get_or marks y 0 ≡ 0

  pub indexed-none : test 0 ≡ false → MarkedTo (replicate 128 0) 0
  unfolding names
  indexed-none z = record {
    passed = λ y l. let q : y ≡ 0 = omega arith in rw (q, z);
    left = λ y l. get_or-zeros 128 y;
  }

  module _ (h : Checked R) where
    pub indexed-next : (mark : ℕ → ℕ) (marks : List ℕ) (i v : ℕ) (d : Edit) → i < length R.edits → length marks ≡ 128 → v ≡ mark (get_or R.edits i d).name
        → ((x : ℕ) → x among written R → mark x ≡ cond (test x) 1 0) → MarkedTo marks i → MarkedTo (set marks (i + 1) v) (i + 1)
    unfolding names
    indexed-next mark marks i v d l size p f k =
        let w : i < length (written R) = omega (arith, length-written R h) in
        let room : i + 1 < length marks = omega (arith, held-few R h) in
        let q : v ≡ cond (test (get_or (written R) i 0)) 1 0 = p ∙ ap mark (name-is R h i d l) ∙ f (get_or (written R) i 0) (get_or-among (written R) i w) in
        record {
          passed = λ y m. is-by y (i + 1)
              (λ e. rw (e, get_or-set_same marks (i + 1) v 0 room, add-one i) q)
              (λ (e : y ≢ i + 1). rw (get_or-set_other marks (i + 1) y v 0 e) (k.passed y (omega arith)));
          left = λ y m. let e : y ≢ i + 1 = λ z. omega arith in rw (get_or-set_other marks (i + 1) y v 0 e) (k.left y (omega arith));
        }

    pub indexed-end : (marks : List ℕ) (i : ℕ) → i ≡ length R.edits → length marks ≡ 128 → MarkedTo marks i → marks ≡ marks_of R test
    unfolding marks_of names
    indexed-end marks i e size k =
        let n = length-written R h in
        let few : suc (length (written R)) ≤ 128 = omega (arith, held-few R h) in
        values-are R (λ x. cond (test x) 1 0) marks few size (λ y w. k.passed y (omega arith)) (λ y w. k.left y (omega arith))

-- the hidden edits of a record, each by its name
module _ (R : Record) (h : List ℕ) (k : Checked R) (w : h within written R) where
  pub init-shown : mem 0 h ≡ false
  init-shown = by (mem 0 h) (λ e. clash (w 0 e) (checked-unwritten R k)) (λ e. e)

  pub mark-carried : (index hidden : List ℕ) → Indexed R index → hidden ≡ marks_of R (λ x. mem x h) → (x : ℕ) → mark_named index hidden x ≡ cond (mem x h) 1 0
  unfolding names
  mark-carried index hidden f e x =
      ap (λ (l : List ℕ). get_or l (get_or index x 0) 0) e
      ∙ by (mem x (names R))
      (λ i.
      let p : get_or index x 0 ≡ index_of x (names R) = f x ∙ place-known x (names R) i in
      rw (p, marks-at R (λ y. mem y h) (index_of x (names R)) (mem_index x (names R) i), get_or-place x (names R) i))
      (λ i.
      let p : get_or index x 0 ≡ 0 = f x ∙ place-unknown x (names R) i in
      let n : mem x h ≡ false = by (mem x h) (λ j. clash (written-names R x (w x j)) i) (λ j. j) in
      rw (p, marks-at R (λ y. mem y h) 0 (omega arith), init-shown, n))

-- one mark set: the test differs at the edit of the index alone
pub mark_set : (R : Record) (p q : ℕ → Bool) (x v : ℕ) → Checked R → x among written R → ((y : ℕ) → (y ≡ x → ⊥) → q y ≡ p y) → v ≡ cond (q x) 1 0
    → set (marks_of R p) (suc (index_of x (written R))) v ≡ marks_of R q
unfolding marks_of names written
mark_set R p q x v k i f e =
    let n = length-mapped R.edits in
    let few : length (names R) ≤ 128 = omega (arith, k.editplaces) in
    let here : name_at R (suc (index_of x (written R))) ≡ x = get_or-place x (written R) i in
    let room : suc (index_of x (written R)) < length (names R) = omega (arith, mem_index x (written R) i) in
    let size = marks-size R p few in
    values-are R (λ x. cond (q x) 1 0) (set (marks_of R p) (suc (index_of x (written R))) v) few (length-set (marks_of R p) (suc (index_of x (written R))) v ∙ size)
    (λ y l. is-by y (suc (index_of x (written R)))
    (λ z. rw (z, get_or-set_same (marks_of R p) (suc (index_of x (written R))) v 0 (omega arith), here) e)
    (λ (z : y ≢ suc (index_of x (written R))).
    let other : name_at R y ≡ x → ⊥ = λ w. z (place_same (names R) y (suc (index_of x (written R))) (ascending-distinct (names R) (checked-ascending R k)) l room (w ∙ sym here)) in
    rw get_or-set_other (marks-at R p y l ∙ sym (rw (f (name_at R y) other)))))
    (λ y l. let z : y ≢ suc (index_of x (written R)) = λ w. omega arith in rw get_or-set_other (marks-past R p y l))
  where
    length-mapped : (l : List Edit) → length (map name_of l) ≡ length l
    length-mapped l = length-map l name_of
