-- A list in the first places of an array: its length, and one element more. Assumes nothing.
use mathlib.Core.Path.{◌≡◌, refl, sym, ◌∙◌}
use mathlib.Core.List.{List, [], ◌∷◌, ◌++◌}
use Prim.Native.Nat.{ℕ, suc, ◌+◌, ◌≤◌, ◌<◌}
use native.Mathlib.Omega.{arith}
use lib.ListN.{length, set, take, length-set, length-append, length-take}
use lib.Seq.{take_all, take-suc-set, take-append-le, length-take-le}
use Rattle.lists.proofs.Lists.{le-by}
use Rattle.log_lent.specs.Listed.{Listed}

module _ {A : Type 0} {places : ℕ} {l array : List A} {count : ℕ} (H : Listed places l array count) where
  pub listed-length : length l ≡ count
  listed-length = rw (sym H.rows) (length-take-le count array (rw H.size H.few))

  pub listed_same : {m : List A} → l ≡ m → Listed places m array count
  listed_same e = record { rows = H.rows ∙ e; size = H.size; few = H.few }

  pub listed-none : Listed places [] array 0
  listed-none = record { rows = refl; size = H.size; few = omega arith }

  pub listed_more : count < places → (x : A) → Listed places (l ++ (x ∷ [])) (set array count x) (count + 1)
  listed_more h x = record {
    rows = let n : count + 1 ≡ suc count = omega arith in rw (n, take-suc-set array count x (rw H.size h), H.rows) refl;
    size = length-set array count x ∙ H.size;
    few = omega arith;
  }

-- the first elements of a list that may be longer
module _ {A : Type 0} (places : ℕ) (l : List A) {array : List A} {count : ℕ} (H : Listed places (take places l) array count) (x : A) where
  pub first-full : places ≤ count → Listed places (take places (l ++ (x ∷ []))) array count
  first-full h = le-by places (length l)
      (λ m. listed_same H (sym (take-append-le places l (x ∷ []) m)))
      (λ m. absurd (let a = length-take places l in let b = listed-length H in omega arith))

  pub first_one_more : count < places → Listed places (take places (l ++ (x ∷ []))) (set array count x) (count + 1)
  first_one_more h = le-by places (length l)
      (λ m. absurd (let a = length-take-le places l m in let b = listed-length H in omega arith))
      (λ m. let e : take places l ≡ l = take_all places l (omega arith) in
      listed_same (listed_more (listed_same H e) h x) (sym (take_all places (l ++ (x ∷ [])) (rw (length-append l (x ∷ [])) (omega arith)))))
