-- The elements that the rows of a table without fault are, and their union with those of the record, for tables of any kind. Assumes nothing.
use mathlib.Core.Path.{◌≡◌, refl, ap, sym, ◌∙◌}
use mathlib.Core.Bool.{true}
use mathlib.Core.Logic.{inl, inr}
use mathlib.Core.List.{List, [], ◌∷◌, map}
use Prim.Native.Nat.{ℕ, ◌≤◌}
use native.Mathlib.Omega.{arith}
use lib.ListN.{length, take, length-map}
use Rattle.lists.specs.Keyed.{Ascending, united}
use Rattle.lists.specs.Lists.{Has}
use Rattle.lists.proofs.Logic.{has-map, has-mapped, map-back}
use Rattle.lists.proofs.Union.{ascending-map, map-united, SameByKey, united-comm, length-grown}
use Rattle.record_rows.specs.row.Row.{Row, same}
use Rattle.record_rows.proofs.row.Compared.{neither-same}
use Rattle.record_rows.specs.grounds.Ground.{Rows, table_fault}
use Rattle.record_rows.proofs.grounds.Loop.{Elements, key-wide}
use Rattle.record_rows.proofs.grounds.Accepted.{accepted-range, accepted-further, accepted-ascending, accepted-within, accepted-alike, accepted-alone}

-- the elements of a kind of table, with their key and the element that a row is
pub record Coding (K : Elements) : Type 0 where
  pub key : K.A → List ℕ
  pub keyed : (x : K.A) → take K.kind.key (K.row_of x) ≡ key x
  pub of : Row → K.A
  pub back : (row : Row) → K.kind.in_range row ≡ true → K.row_of (of row) ≡ row
  pub again : (x : K.A) → K.kind.in_range (K.row_of x) ≡ true → of (K.row_of x) ≡ x

module _ (K : Elements) (C : Coding K) where
  -- the rows of a list of elements in range are decoded to it
  pub decoded-again : (l : List K.A) → ((x : K.A) → Has x l → K.kind.in_range (K.row_of x) ≡ true) → map C.of (map K.row_of l) ≡ l
  decoded-again [] f = refl
  decoded-again (x ∷ l) f =
      let e : C.of (K.row_of x) ≡ x = C.again x (f x (inl refl)) in
      let g : map C.of (map K.row_of l) ≡ l = decoded-again l (λ y m. f y (inr m)) in
      cc

  key-long : (x : K.A) → length (C.key x) ≡ K.kind.key
  key-long x = ap length (sym (C.keyed x)) ∙ key-wide K (K.row_of x) (K.wide x)

  pub key-even : (x y : K.A) → length (C.key x) ≡ length (C.key y)
  key-even x y = key-long x ∙ sym (key-long y)

  -- a list in order, in range and within the limit is a table without fault
  pub elements-accepted : (l : List K.A) → ((x : K.A) → Has x l → K.kind.in_range (K.row_of x) ≡ true) → ((x : K.A) → Has x l → K.kind.further (K.row_of x) ≡ 0) → Ascending C.key l
      → length l ≤ K.kind.limit → table_fault K.kind [] (map K.row_of l) ≡ 0
  elements-accepted l f g a h =
      accepted-alone K.kind (map K.row_of l)
      (λ r m. has-mapped K.row_of r l m (λ x n e. rw e (f x n)))
      (λ r m. has-mapped K.row_of r l m (λ x n e. rw e (g x n)))
      (ascending-map C.key (take K.kind.key) K.row_of l (λ x m. C.keyed x) a)
      (omega (arith, length-map l K.row_of))

  -- rows without fault that join the elements E
  module _ (E : List K.A) (t : Rows) (h : table_fault K.kind (map K.row_of E) t ≡ 0) where
    row_back : (x : Row) → Has x t → K.row_of (C.of x) ≡ x
    row_back x m = C.back x (accepted-range K.kind (map K.row_of E) t h x m)

    pub lent_back : map K.row_of (map C.of t) ≡ t
    lent_back = map-back C.of K.row_of t row_back

    pub lent-range : (x : K.A) → Has x (map C.of t) → K.kind.in_range (K.row_of x) ≡ true
    lent-range x m =
        has-mapped C.of x t m (λ r n e. rw (e, row_back r n) (accepted-range K.kind (map K.row_of E) t h r n))

    pub lent-further : (x : K.A) → Has x (map C.of t) → K.kind.further (K.row_of x) ≡ 0
    lent-further x m =
        has-mapped C.of x t m (λ r n e. rw (e, row_back r n) (accepted-further K.kind (map K.row_of E) t h r n))

    pub lent-ascending : Ascending C.key (map C.of t)
    lent-ascending =
        ascending-map (take K.kind.key) C.key C.of t (λ y m. sym (C.keyed (C.of y)) ∙ ap (take K.kind.key) (row_back y m))
        (accepted-ascending K.kind (map K.row_of E) t h)

    pub lent-within : Ascending C.key E → length E ≤ K.kind.limit → length (united C.key E (map C.of t)) ≤ K.kind.limit
    lent-within a l =
        let both : map K.row_of (united C.key E (map C.of t)) ≡ united (take K.kind.key) (map K.row_of E) t = map-united C.key (take K.kind.key) K.row_of C.keyed E (map C.of t) ∙ ap (united (take K.kind.key) (map K.row_of E)) lent_back in
        let long : length (united C.key E (map C.of t)) ≡ length (united (take K.kind.key) (map K.row_of E) t) = sym (length-map (united C.key E (map C.of t)) K.row_of) ∙ ap length both in
        let w = accepted-within K.kind (map K.row_of E) t h (ascending-map C.key (take K.kind.key) K.row_of E (λ x m. C.keyed x) a) (omega (arith, length-map E K.row_of)) in
        omega (arith, long, w)

    -- a known key has the same element
    pub lent-agree : ((x : K.A) → Has x E → K.kind.in_range (K.row_of x) ≡ true) → SameByKey C.key (map C.of t) E
    lent-agree f x r m n p q =
        has-mapped C.of x t m
        (λ row k e.
        let back : K.row_of x ≡ row = ap K.row_of e ∙ row_back row k in
        let one : take K.kind.key row ≡ C.key x = ap (take K.kind.key) (sym back) ∙ C.keyed x in
        let alike : same (take K.kind.key row) (take K.kind.key (K.row_of r)) ≡ true = rw (one, C.keyed r) (neither-same (C.key x) (C.key r) (key-even x r) p q) in
        e ∙ ap C.of (accepted-alike K.kind (map K.row_of E) t h row k (K.row_of r) (has-map K.row_of r E n) alike) ∙ C.again r (f r n))

    -- it has no more rows than there are places
    pub lent-places : Ascending C.key E → ((x : K.A) → Has x E → K.kind.in_range (K.row_of x) ≡ true) → length E ≤ K.kind.limit → length t ≤ K.kind.limit
    lent-places a f l =
        let c : united C.key E (map C.of t) ≡ united C.key (map C.of t) E = united-comm C.key (map C.of t) E lent-ascending a (lent-agree f) in
        omega (arith, lent-within a l, ap length c, length-grown C.key (map C.of t) E, length-map t C.of)
