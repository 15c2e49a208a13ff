-- The loop that unites two tables in an array, for elements of any type. Assumes nothing.
use mathlib.Core.Path.{◌≡◌, refl, ap, sym, ◌∙◌}
use mathlib.Core.Bool.{Bool, true, false}
use mathlib.Core.List.{List, [], ◌∷◌, ◌++◌, map, map-append}
use Prim.Native.Nat.{ℕ, suc, ◌+◌, ◌≤◌, ◌<◌}
use native.Mathlib.Numerals.{add-one}
use native.Mathlib.Omega.{arith}
use lib.ListN.{length, take, drop, get_or, set, replicate, drop_of_length-le, length-map, length-drop, length-set, length-replicate}
use lib.Seq.{take-suc, drop-cons, length-take-le, take_all}
use Rattle.std.specs.Prelude.{Option, Some, None}
use Rattle.lists.proofs.Lists.{by}
use Rattle.record.specs.Stored.{padded}
use Rattle.lists.specs.Keyed.{precedes, Below, Ascending, united}
use Rattle.lists.proofs.Order.{less-total}
use Rattle.lists.proofs.Union.{below-trans, united-first, united-joins, united-both}
use Rattle.record.proofs.Padded.{padded-begin, padded-next}
use Rattle.record_union.specs.declared.Choice.{Choice}
use Rattle.record_union.specs.declared.Choice.TheVariants.{Own, Joining, Both}
use Rattle.record_union.specs.Union.{chosen, Unites, united_in}

-- a list that is written row by row, of what the elements of another become
module _ {A B : Type 0} (n : ℕ) (z : B) (f : A → B) (t : List A) where
  pub decode-next : (out : List B) (i : ℕ) (d : A) {x : B} → i < length t → length t ≤ n → out ≡ padded n z (map f (take i t)) → x ≡ f (get_or t i d) → set out i x ≡ padded n z (map f (take (i + 1) t))
  decode-next out i d h w e g =
      let l : length (map f (take i t)) ≡ i = length-map (take i t) f ∙ length-take-le i t (omega arith) in
      let m : map f (take (i + 1) t) ≡ map f (take i t) ++ (f (get_or t i d) ∷ []) = rw (add-one i, take-suc t i d h, map-append) in
      rw (e, g, m) (padded-next n z (map f (take i t)) i (f (get_or t i d)) l (omega arith))

  pub decode-end : (out : List B) (i : ℕ) → length t ≤ i → out ≡ padded n z (map f (take i t)) → out ≡ padded n z (map f t)
  decode-end out i h e = let q : take i t ≡ t = take_all i t h in rw q at e

-- the choice by the code's tests
module _ {A : Type 0} (key : A → List ℕ) (P Q : List A) where
  pub choose-none : length P < 1 → length Q < 1 → None ≡ chosen key P Q
  unfolding chosen
  choose-none h k = let e : P ≡ [] = drop_of_length-le P {i = 0} (omega arith) in let f : Q ≡ [] = drop_of_length-le Q {i = 0} (omega arith) in rw (e, f)

  head-is : (l : List A) (x : A) → 1 ≤ length l → x ≡ get_or l 0 x → l ≡ x ∷ drop 1 l
  head-is [] x h e = absurd (omega (arith, h))
  head-is (y ∷ l) x h e = rw e

  pub choose-joining : length P < 1 → 1 ≤ length Q → {y : A} → y ≡ get_or Q 0 y → Some (Joining y) ≡ chosen key P Q
  unfolding chosen
  choose-joining h k {y} e = let f : P ≡ [] = drop_of_length-le P {i = 0} (omega arith) in rw (f, head-is Q y k e)

  module _ (h : 1 ≤ length P) {x : A} (e : x ≡ get_or P 0 x) where
    pub choose-own : length Q < 1 → Some (Own x) ≡ chosen key P Q
    unfolding chosen
    choose-own k = let f : Q ≡ [] = drop_of_length-le Q {i = 0} (omega arith) in rw (f, head-is P x h e)

    module _ (k : 1 ≤ length Q) {y : A} (f : y ≡ get_or Q 0 y) {l : Bool} (low : l ≡ precedes (key x) (key y)) where
      pub choose-lower : l ≡ true → Some (Own x) ≡ chosen key P Q
      unfolding chosen
      choose-lower t = rw (head-is P x h e, head-is Q y k f, ← low, t)

      module _ (t : l ≡ false) {u : Bool} (up : u ≡ precedes (key y) (key x)) where
        pub choose-upper : u ≡ true → Some (Joining y) ≡ chosen key P Q
        unfolding chosen
        choose-upper v = rw (head-is P x h e, head-is Q y k f, ← low, t, ← up, v)

        pub choose-both : u ≡ false → Some (Both x) ≡ chosen key P Q
        unfolding chosen
        choose-both v = rw (head-is P x h e, head-is Q y k f, ← low, t, ← up, v)

-- keys that are the first cells of rows of one width are of one length
pub keys-even : {A : Type 0} (row_of key : A → List ℕ) (k w : ℕ) → k ≤ w → ((x : A) → length (row_of x) ≡ w) → ((x : A) → take k (row_of x) ≡ key x) → (x y : A) → length (key x) ≡ length (key y)
keys-even {A} row_of key k w h wide keyed x y = long x ∙ sym (long y)
  where
    long : (x : A) → length (key x) ≡ k
    long x = ap length (sym (keyed x)) ∙ length-take-le k (row_of x) (omega (arith, wide x))

module _ {A : Type 0} (key : A → List ℕ) where
  same_key : (x y : A) (l : List A) → key x ≡ key y → Below key x l → Below key y l
  same_key x y [] e b = tt
  same_key x y (r ∷ l) e b = (rw e at b.0, same_key x y l e b.1)

  -- what is chosen is there, and is the next element of the union
  module _ (P Q : List A) where
    abbrev Union : List A → Type 0
    Union l = Ascending key P → Ascending key Q → united key P Q ≡ l

    abbrev Next : Option (Choice A) → Type 0
    Next None = (P ≡ []) × (Q ≡ [])
    Next (Some (Own x)) = (1 ≤ length P) × Union (x ∷ united key (drop 1 P) Q)
    Next (Some (Joining y)) = (1 ≤ length Q) × Union (y ∷ united key P (drop 1 Q))
    Next (Some (Both x)) = (1 ≤ length P) × (1 ≤ length Q) × Union (x ∷ united key (drop 1 P) (drop 1 Q))

  next : ((x y : A) → length (key x) ≡ length (key y)) → (P Q : List A) → Next P Q (chosen key P Q)
  unfolding chosen united
  next even [] [] = (refl, refl)
  next even [] (s ∷ Q) = (omega arith, λ a b. united-joins key s [] Q tt b.0)
  next even (r ∷ P) [] = (omega arith, λ a b. refl)
  next even (r ∷ P) (s ∷ Q) =
      by (precedes (key r) (key s))
      (λ (l : precedes (key r) (key s) ≡ true). rw l (omega arith, λ a b. united-first key r P (s ∷ Q) (l, below-trans key r s Q l b.0)))
      (λ (l : precedes (key r) (key s) ≡ false). by (precedes (key s) (key r))
      (λ (u : precedes (key s) (key r) ≡ true). rw (l, u) (omega arith, λ a b. united-joins key s (r ∷ P) Q (u, below-trans key s r P u a.0) b.0))
      (λ (u : precedes (key s) (key r) ≡ false).
      let k : key s ≡ key r = less-total (key s) (key r) (even s r) u l in
      rw (l, u) (omega arith, omega arith, λ a b. united-both key s r P Q k (same_key s r Q k b.0))))

  ascending-rest : (l : List A) → Ascending key l → Ascending key (drop 1 l)
  ascending-rest [] a = tt
  ascending-rest (x ∷ l) a = a.1

  -- the loop: q elements of the union are written, and P and Q are left of the two tables
  pub record Uniting (limit : ℕ) (z : A) (E S out P Q : List A) (q : ℕ) : Type 0 where
    pub written : out ≡ padded limit z (take q (united key E S))
    pub rest : drop q (united key E S) ≡ united key P Q
    pub short : q ≤ length (united key E S)
    pub own_order : Ascending key P
    pub joining_order : Ascending key Q

  -- one element more of a list
  put : (limit : ℕ) (z : A) (U : List A) (q : ℕ) (v : A) (rest out : List A) → length U ≤ limit → out ≡ padded limit z (take q U) → drop q U ≡ v ∷ rest
      → (q < length U) × (set out q v ≡ padded limit z (take (q + 1) U)) × (drop (q + 1) U ≡ rest)
  put limit z U q v rest out m w e =
      let h : q < length U = omega (arith, length-drop q U, ap length e) in
      let c : get_or U q v ∷ drop (suc q) U ≡ v ∷ rest = sym (drop-cons U q v h) ∙ e in
      let g : get_or U q v ≡ v = cc in
      let r : drop (suc q) U ≡ rest = cc in
      let t : take (q + 1) U ≡ take q U ++ (v ∷ []) = rw (add-one q, take-suc U q v h, g) in
      (h, rw (w, t) (padded-next limit z (take q U) q v (length-take-le q U (omega arith)) (omega arith)), rw (add-one q) r)

  module _ (limit : ℕ) (z : A) (E S : List A) where
    abbrev U : List A
    U = united key E S

    -- what the loop keeps
    pub record UnionWalk (out P Q : List A) (q : ℕ) : Type 0 where
      pub size : length out ≡ limit
      pub joins : Unites key limit E S → Uniting limit z E S out P Q q

    pub union-walk-start : {o : A} → o ≡ z → UnionWalk (replicate limit o) E S 0
    union-walk-start {o} e = record {
      size = length-replicate limit o;
      joins = λ u. record { written = padded-begin limit z e; rest = refl; short = omega arith; own_order = u.own_order; joining_order = u.joining_order };
    }

    module _ (out P Q : List A) (q : ℕ) (w : UnionWalk out P Q q) where
      -- an element is written, and P' and Q' are left then
      walk-more : (P' Q' : List A) (v : A) → (Ascending key P → Ascending key P') → (Ascending key Q → Ascending key Q') → Union P Q (v ∷ united key P' Q') → UnionWalk (set out q v) P' Q' (q + 1)
      walk-more P' Q' v x y e = record {
        size = length-set out q v ∙ w.size;
        joins = λ u.
            let s = w.joins u in
            let t = put limit z U q v (united key P' Q') out u.places s.written (s.rest ∙ e s.own_order s.joining_order) in
            let h : q < length U = t.0 in
            record { written = t.1; rest = t.2; short = omega arith; own_order = x s.own_order; joining_order = y s.joining_order };
      }

      module _ (even : (x y : A) → length (key x) ≡ length (key y)) {c : Option (Choice A)} (e : c ≡ chosen key P Q) where
        chosen-next : Next P Q c
        chosen-next = rw e (next even P Q)

        pub walk-own : (x : A) → c ≡ Some (Own x) → UnionWalk (set out q x) (drop 1 P) Q (q + 1)
        walk-own x f = let n : Next P Q (Some (Own x)) = rw f at chosen-next in walk-more (drop 1 P) Q x (ascending-rest P) (λ a. a) n.1

        pub walk-joining : (y : A) → c ≡ Some (Joining y) → UnionWalk (set out q y) P (drop 1 Q) (q + 1)
        walk-joining y f = let n : Next P Q (Some (Joining y)) = rw f at chosen-next in walk-more P (drop 1 Q) y (λ a. a) (ascending-rest Q) n.1

        pub walk-both : (x : A) → c ≡ Some (Both x) → UnionWalk (set out q x) (drop 1 P) (drop 1 Q) (q + 1)
        walk-both x f = let n : Next P Q (Some (Both x)) = rw f at chosen-next in walk-more (drop 1 P) (drop 1 Q) x (ascending-rest P) (ascending-rest Q) n.2

        pub walk-end : c ≡ None → Unites key limit E S → (out, q) ≡ united_in limit z U
        unfolding united
        walk-end f u =
            let n : Next P Q None = rw f at chosen-next in
            let s = w.joins u in
            let r : drop q U ≡ [] = s.rest ∙ rw (n.0, n.1) in
            let l : length U ≤ q = omega (arith, length-drop q U, ap length r) in
            let m : q ≡ length U = omega (arith, s.short) in
            let t : out ≡ padded limit z U = rw (take_all q U l) at s.written in
            λ i. (t i, m i)

      pub walk-full : q ≡ limit → Unites key limit E S → (out, limit) ≡ united_in limit z U
      walk-full f u =
          let s = w.joins u in
          let l : length U ≤ q = omega (arith, u.places) in
          let m : limit ≡ length U = omega (arith, s.short) in
          let t : out ≡ padded limit z U = rw (take_all q U l) at s.written in
          λ i. (t i, m i)
