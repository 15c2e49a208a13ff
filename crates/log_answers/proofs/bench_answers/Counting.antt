-- The elements that pass a test, counted. Assumes nothing.
use mathlib.Core.Path.{◌≡◌, refl}
use mathlib.Core.Bool.{Bool}
use mathlib.Core.List.{List}
use native.Mathlib.Omega.{arith}
use lib.ListN.{length}
use Rattle.std.specs.List.{count_by}
use Rattle.std.proofs.lemmas.List.Recursion.{is_count_by}
use Rattle.lists.specs.Lists.{filter}
use Rattle.lists.proofs.Lists.{by}

-- the elements that pass a test are as many as are counted
pub filter-counted : {A : Type 0} (p : A → Bool) (l : List A) → length (filter p l) ≡ count_by p l
unfolding filter
filter-counted p l =
    is_count_by (λ m. length (filter p m)) p refl
    (λ x m. by (p x) (λ e. rw e (omega arith)) (λ e. rw e refl))
    l
