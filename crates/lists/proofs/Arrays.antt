-- Laws of the elements of an array by place. Assumes nothing.
use mathlib.Core.Path.{◌≡◌, refl, sym, ◌∙◌}
use mathlib.Core.List.{List}
use Prim.Native.Nat.{ℕ, zero, suc, ◌≤◌, min}
use native.Mathlib.Nat.{min-eq_left, min-eq_right}
use native.Mathlib.Omega.{arith}
use lib.ListN.{length, take, get_or, replicate}
use lib.Seq.{take_all}
pub use Rattle.std.proofs.lemmas.List.{get_or_default as get_or-any}
use Rattle.lists.proofs.Tests.{le-by}

-- an array of fillers
pub get_or-filled : {A : Type 0} (filler : A) (n i : ℕ) → get_or (replicate n filler) i filler ≡ filler
get_or-filled filler zero i = refl
get_or-filled filler (suc n) zero = refl
get_or-filled filler (suc n) (suc i) = get_or-filled filler n i

pub get_or-zeros : (n i : ℕ) → ◌≡◌ {A = ℕ} (get_or (replicate n 0) i 0) 0
get_or-zeros n i = get_or-filled {A = ℕ} 0 n i

-- a count past the end takes all
pub take-least : {A : Type 0} (t n : ℕ) (l : List A) → length l ≡ n → take (min t n) l ≡ take t l
take-least t n l h =
    le-by t n (λ e. rw (min-eq_left e))
    (λ e. let k : n ≤ t = omega arith in rw (min-eq_right k) (take_all n l (omega arith) ∙ sym (take_all t l (omega arith))))
