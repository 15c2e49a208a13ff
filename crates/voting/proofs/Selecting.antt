-- The elements that pass a test, written one after the other over the first of a table. Assumes nothing.
use mathlib.Core.Path.{◌≡◌, refl, sym}
use mathlib.Core.Bool.{Bool, true, false}
use mathlib.Core.List.{List, [], ◌∷◌, ◌++◌, append_assoc}
use Prim.Native.Nat.{ℕ, ◌+◌, ◌-◌, ◌<◌, ◌≤◌}
use native.Mathlib.Omega.{arith}
use lib.ListN.{length, take, drop, get_or, set, length-append}
use Rattle.std.proofs.lemmas.List.{drop_more, set-append_right}
use Rattle.lists.specs.Lists.{filter}
use Rattle.lists.proofs.Front.{filter-passed, filter-left}

-- what passes stands over the first of the table
pub record Selected {A : Type 0} (p : A → Bool) (from old : List A) (count : ℕ) (table : List A) : Type 0 where
  pub count-is : count ≡ length (filter p from)
  pub table-is : table ≡ filter p from ++ drop (length (filter p from)) old

module _ {A : Type 0} (p : A → Bool) (from old : List A) where
  pub selected-start : Selected p [] old 0 old
  unfolding filter
  selected-start = record { count-is = refl; table-is = refl }

  module _ (i count : ℕ) (table : List A) (d : A) (x : A) (q : x ≡ get_or from i d) (h : i < length from) (w : Selected p (take i from) old count table) where
    put : (s : List A) (n : ℕ) → n ≡ length s → n < length old → set (s ++ drop (length s) old) n x ≡ (s ++ (x ∷ [])) ++ drop (length (s ++ (x ∷ []))) old
    put s n e l =
        let a : length (s ++ (x ∷ [])) ≡ n + 1 = omega (arith, length-append s (x ∷ [])) in
        let z : n - n ≡ 0 = omega arith in
        rw (← e, a, set-append_right s (drop n old) n n x (sym e) (omega arith), drop_more old n x l, z)
        (sym (append_assoc s (x ∷ []) (drop (n + 1) old)))

    pub selected-kept : count ≤ i → length from ≤ length old → p x ≡ true → Selected p (take (i + 1) from) old (count + 1) (set table count x)
    selected-kept l m e =
        let s = filter p (take i from) in
        let n : filter p (take (i + 1) from) ≡ s ++ (x ∷ []) = rw q (filter-passed p from i d h (rw q at e)) in
        record {
          count-is = rw n (omega (arith, w.count-is, length-append s (x ∷ [])));
          table-is = rw (n, w.table-is) (put s count w.count-is (omega arith));
        }

    pub selected-skip : p x ≡ false → Selected p (take (i + 1) from) old count table
    selected-skip e = let n = filter-left p from i d h (rw q at e) in record { count-is = rw n w.count-is; table-is = rw n w.table-is }
