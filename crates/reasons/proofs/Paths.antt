-- Paths, the walks of distinct names: each walk has a path with its ends, and is that path if it is no longer. Assumes nothing.
use mathlib.Core.Path.{◌≡◌, refl, ap}
use mathlib.Core.Bool.{Bool, true, not}
use mathlib.Core.List.{List, [], ◌∷◌}
use Prim.Native.Nat.{ℕ, ◌≤◌}
use native.Mathlib.Omega.{arith}
use lib.ListN.{length}
use Rattle.lists.specs.Lists.{mem, distinct, ◌among◌, ◌within◌}
use Rattle.lists.proofs.Lists.{by, and_r, mem-head, mem-tail, cons-by, nil-no, cons-within, one-within, distinct-length}
use Rattle.reasons.specs.Reasons.{WalkAlong, alone, onward}

-- a walk stays among the names that its links lead to
pub walk-within : {link : ℕ → ℕ → Bool} (names : List ℕ) → ((x y : ℕ) → link x y ≡ true → y among names) → {x m : ℕ} {chain : List ℕ} → WalkAlong link x m chain
    → x among names → chain within names
walk-within names known (alone {x}) i = one-within x names i
walk-within names known (onward {x} {y} {row} l w) i = cons-within x row names i (walk-within names known w (known x y l))

-- a path of names of a row, from x to z; the row itself, if it is as long
pub record PathIn (link : ℕ → ℕ → Bool) (x z : ℕ) (row : List ℕ) : Type 0 where
  pub path : List ℕ
  pub walk : WalkAlong link x z path
  pub apart : distinct path ≡ true
  pub members : path within row
  pub few : length path ≤ length row
  pub whole : length row ≤ length path → path ≡ row

module _ {link : ℕ → ℕ → Bool} where
  path-all : {x z : ℕ} {row : List ℕ} → WalkAlong link x z row → distinct row ≡ true → PathIn link x z row
  path-all {row} w h = record { path = row; walk = w; apart = h; members = λ y i. i; few = omega arith; whole = λ n. refl }

  -- a path of the names after the first
  path-later : {x z : ℕ} {part row : List ℕ} (y : ℕ) → part within row → length part ≤ length row → PathIn link x z part
      → PathIn link x z (y ∷ row)
  path-later {row} y i n p = record {
    path = p.path;
    walk = p.walk;
    apart = p.apart;
    members = λ v j. mem-tail v y row (i v (p.members v j));
    few = omega (arith, p.few);
    whole = λ m. absurd (omega (arith, p.few));
  }

  path-from : {x z : ℕ} {row : List ℕ} → WalkAlong link x z row → distinct row ≡ true → (y : ℕ) → y among row → PathIn link y z row
  unfolding distinct
  path-from (alone {x}) h y i = cons-by y x [] i (λ e. rw e (path-all alone h)) (nil-no y)
  path-from (onward {x} {row} l w) h y i =
      cons-by y x row i
      (λ e. rw e (path-all (onward l w) h))
      (λ j. path-later x (λ v k. k) (omega arith) (path-from w (and_r (not (mem x row)) _ h) y j))

  -- what stands between two places of a name is left out
  pub walk-path : {x z : ℕ} {row : List ℕ} → WalkAlong link x z row → PathIn link x z row
  unfolding distinct mem
  walk-path alone = path-all alone refl
  walk-path (onward {x} {row} l w) =
      let p = walk-path w in
      by (mem x p.path)
      (λ i. path-later x p.members p.few (path-from p.walk p.apart x i))
      (λ n. record {
        path = x ∷ p.path;
        walk = onward l p.walk;
        apart = rw n p.apart;
        members = cons-within x p.path (x ∷ row) (mem-head x row) (λ v j. mem-tail v x row (p.members v j));
        few = omega (arith, p.few);
        whole = λ m. ap (λ u. x ∷ u) (p.whole (omega arith));
      })

  pub path-whole : {x z : ℕ} {row : List ℕ} (p : PathIn link x z row) → length row ≤ length p.path → distinct row ≡ true
  path-whole p n = rw (p.whole n) at p.apart

  -- a path by links between known names has no more names than there are
  module _ (names : List ℕ) (from : (x y : ℕ) → link x y ≡ true → x among names) (to : (x y : ℕ) → link x y ≡ true → y among names) where
    pub path-few : {x z : ℕ} {row : List ℕ} → WalkAlong link x z row → distinct row ≡ true → 1 ≤ length names → length row ≤ length names
    path-few alone h n = n
    path-few (onward {x} {y} {row} l w) h n = distinct-length (x ∷ row) names h (walk-within names to (onward l w) (from x y l))
