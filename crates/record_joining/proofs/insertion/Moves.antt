-- An insertion by moving elements up. Assumes nothing.
use mathlib.Core.Path.{◌≡◌}
use mathlib.Core.List.{List, ◌∷◌, ◌++◌, append_assoc}
use Prim.Native.Nat.{ℕ, ◌+◌, ◌-◌, ◌≤◌, ◌<◌}
use native.Mathlib.Numerals.{add-one}
use native.Mathlib.Omega.{arith}
use lib.ListN.{length, take, drop, get_or, set}
use lib.Seq.{take-suc, set_at, length-take-le}
use Rattle.record_joining.specs.insertion.Insertion.{put_at}

-- place j is free, and those of the first n from j on stand one higher
module _ {A : Type 0} (n : ℕ) (t : List A) where
  abbrev opened : ℕ → List A
  opened j = take (j + 1) t ++ (take (n - j) (drop j t) ++ drop (n + 1) t)

  opened-set : (j : ℕ) (d v : A) → j < length t → set (opened j) j v ≡ take j t ++ (v ∷ (take (n - j) (drop j t) ++ drop (n + 1) t))
  opened-set j d v h =
      let l : length (take j t) ≡ j = length-take-le j t (omega arith) in
      rw (add-one j, take-suc t j d h, append_assoc)
      (set_at (take j t) (get_or t j d) (take (n - j) (drop j t) ++ drop (n + 1) t) v j l)

  -- the elements from i on, copied one higher, and x in their place
  pub put-moved : (i : ℕ) (d x : A) {b : List A} → i ≤ n → n < length t → b ≡ take (i + 1) t ++ (take (n - i) (drop i t) ++ drop (i + 1 + (n - i)) t) → set b i x ≡ put_at n i x t
  unfolding put_at
  put-moved i d x h l e = let q : i + 1 + (n - i) ≡ n + 1 = omega arith in rw (e, q) (opened-set i d x (omega arith))
