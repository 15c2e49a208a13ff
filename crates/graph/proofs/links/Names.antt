-- Names and their places in a list without repeats. Assumes nothing.
use mathlib.Core.Path.{◌≡◌, refl, sym, ap, ◌∙◌}
use mathlib.Core.Bool.{true, false, not, cond, or-true}
use mathlib.Core.List.{List, [], ◌∷◌, ◌++◌}
use Prim.Native.Nat.{ℕ, zero, suc, ◌<◌}
use native.Mathlib.Omega.{arith}
use lib.Dec.{eqb}
use lib.ListN.{length, get_or, take, drop, take-append-drop}
use lib.Seq.{length-take-le}
use borrow.Author.Tests.{eqb-true, eq-eqb, ne_eqb, not-true}
use Rattle.lists.specs.Lists.{mem, index_of, ◌among◌, distinct, ascending}
use Rattle.lists.proofs.Lists.{by, clash, and_l, and_r, mem_index, index-left, ascending-tail, ascending-head, index-snoc}
use Rattle.graph.specs.links.Marks.{place_in}

-- what stands at a place is a member
pub get_or-among : (l : List ℕ) (i : ℕ) → i < length l → get_or l i 0 among l
unfolding mem
get_or-among [] i h = absurd (omega arith)
get_or-among (y ∷ l) zero h = rw (eq-eqb y y refl)
get_or-among (y ∷ l) (suc i) h = rw (get_or-among l i (omega arith)) (or-true (eqb (get_or l i 0) y))

-- at the place of a member it stands
pub get_or-place : (x : ℕ) (l : List ℕ) → x among l → get_or l (index_of x l) 0 ≡ x
unfolding index_of mem
get_or-place x [] h = clash h refl
get_or-place x (y ∷ l) h = by (eqb x y) (λ e. rw e (sym (eqb-true x y e))) (λ e. rw e (get_or-place x l (rw e at h)))

-- without repeats the place of what stands at i is i
pub place-get_or : (l : List ℕ) (i : ℕ) → distinct l ≡ true → i < length l → index_of (get_or l i 0) l ≡ i
unfolding index_of distinct
place-get_or [] i d h = absurd (omega arith)
place-get_or (y ∷ l) zero d h = rw (eq-eqb y y refl)
place-get_or (y ∷ l) (suc i) d h =
    let k = get_or-among l i (omega arith) in
    let n : eqb (get_or l i 0) y ≡ false = ne_eqb (get_or l i 0) y (λ e. clash (rw e at k) (not-true (mem y l) (and_l _ _ d))) in
    rw (n, place-get_or l i (and_r (not (mem y l)) _ d) (omega arith))

-- two places with one name are one place
pub place_same : (l : List ℕ) (i j : ℕ) → distinct l ≡ true → i < length l → j < length l → get_or l i 0 ≡ get_or l j 0 → i ≡ j
place_same l i j d h k e = sym (place-get_or l i d h) ∙ ap (λ x. index_of x l) e ∙ place-get_or l j d k

-- an ascending list has no repeats
pub ascending-distinct : (l : List ℕ) → ascending l ≡ true → distinct l ≡ true
unfolding distinct
ascending-distinct [] h = refl
ascending-distinct (x ∷ l) h =
    let n : mem x l ≡ false = by (mem x l) (λ i. absurd (let z = ascending-head x l h x i in omega arith)) (λ i. i) in
    rw (n, ascending-distinct l (ascending-tail x l h))

-- the place of a member, and of one that is put at the end
pub place-known : (x : ℕ) (l : List ℕ) → x among l → place_in l x ≡ index_of x l
unfolding place_in
place-known x l i = rw i

pub place-unknown : (x : ℕ) (l : List ℕ) → mem x l ≡ false → place_in l x ≡ 0
unfolding place_in
place-unknown x l i = rw i

pub place-snoc : (l : List ℕ) (x y : ℕ) → mem x l ≡ false → place_in (l ++ (x ∷ [])) y ≡ cond (eqb y x) (length l) (place_in l y)
unfolding place_in
place-snoc l x y n = index-snoc (λ i. i) l x y n

-- what stands from k on does not stand before
pub later-not : (l : List ℕ) (k : ℕ) → distinct l ≡ true → k < length l → mem (get_or l k 0) (take k l) ≡ false
later-not l k d h =
    by (mem (get_or l k 0) (take k l))
    (λ m. absurd (let z : index_of (get_or l k 0) (take k l ++ drop k l) ≡ index_of (get_or l k 0) (take k l) = index-left (get_or l k 0) (take k l) (drop k l) m in
    let e : index_of (get_or l k 0) (take k l ++ drop k l) ≡ k = ap (index_of (get_or l k 0)) (take-append-drop k l) ∙ place-get_or l k d h in
    omega (arith, mem_index (get_or l k 0) (take k l) m, length-take-le k l (omega arith))))
    (λ m. m)
