-- Laws of lists stored in rows, the others filled. Assumes nothing.
use mathlib.Core.Path.{◌≡◌, refl, sym, ap, ◌∙◌}
use mathlib.Core.List.{List, [], ◌∷◌, ◌++◌, map, append_assoc}
use Prim.Native.Nat.{ℕ, suc, ◌+◌, ◌-◌, ◌≤◌, ◌<◌}
use native.Mathlib.Nat.{sub-zero}
use native.Mathlib.Omega.{arith}
use lib.ListN.{length, take, drop, get_or, set, replicate, length-append, length-map, length-replicate, get_or-append}
use lib.Seq.{take-append-le, set_at, get_or-append-add, slice}
use Rattle.std.specs.Fn.{Mut, Called}
use Rattle.std.specs.Array.{IsFromFnResult}
use lib.Dec.{ltb}
use borrow.Author.Tests.{ltb-true, ltb-false}
use Rattle.std.proofs.lemmas.List.{get_or_past}
use Rattle.lists.proofs.Lists.{by}
use Rattle.lists.proofs.Arrays.{get_or-filled}
use Rattle.lists.proofs.Made.{made-is}
use Rattle.record.specs.Stored.{padded}

module _ {A : Type 0} (n : ℕ) (filler : A) where
  pub length-padded : (l : List A) → length l ≤ n → length (padded n filler l) ≡ n
  unfolding padded
  length-padded l h = length-append l (replicate (n - length l) filler) ∙ rw length-replicate (omega arith)

  pub take-padded : (k : ℕ) (l : List A) → k ≤ length l → take k (padded n filler l) ≡ take k l
  unfolding padded
  take-padded k l h = take-append-le k l (replicate (n - length l) filler) h

  pub slice-padded : (j k : ℕ) (l : List A) → k ≤ length l → slice j k (padded n filler l) ≡ slice j k l
  slice-padded j k l h = ap (drop j) (take-padded k l h)

  pub padded-begin : {o : A} → o ≡ filler → replicate n o ≡ padded n filler []
  unfolding padded
  padded-begin e = rw (e, sub-zero)

  -- one element more
  pub padded-next : (l : List A) (i : ℕ) (a : A) → length l ≡ i → i < n → set (padded n filler l) i a ≡ padded n filler (l ++ (a ∷ []))
  unfolding padded
  padded-next l i a e h =
      let k : n - length l ≡ suc (n - length (l ++ (a ∷ []))) = simp length-append (omega arith) in
      rw (k, set_at l filler (replicate (n - length (l ++ (a ∷ []))) filler) a i e, append_assoc)

  pub padded-more : (l : List A) (a : A) → length l < n → set (padded n filler l) (length l) a ≡ padded n filler (l ++ (a ∷ []))
  padded-more l a h = padded-next l (length l) a refl h

  pub get_or-padded : (l : List A) (i : ℕ) (d : A) → i < length l → get_or (padded n filler l) i d ≡ get_or l i d
  unfolding padded
  get_or-padded l i d h = get_or-append l (replicate (n - length l) filler) d i h

  -- past the list stand fillers
  pub padded-past : (l : List A) (i : ℕ) → length l ≤ i → get_or (padded n filler l) i filler ≡ filler
  unfolding padded
  padded-past l i h =
      let e : length l + (i - length l) ≡ i = omega arith in
      ap (λ (j : ℕ). get_or (l ++ replicate (n - length l) filler) j filler) (sym e)
      ∙ get_or-append-add l (replicate (n - length l) filler) (i - length l) filler ∙ get_or-filled filler (n - length l) (i - length l)

  -- the list and, after it, fillers, place by place
  get_or-whole : (l : List A) (i : ℕ) → get_or (padded n filler l) i filler ≡ get_or l i filler
  get_or-whole l i =
      by (ltb i (length l)) (λ t. get_or-padded l i filler (ltb-true i (length l) t))
      (λ t. let h : length l ≤ i = ltb-false i (length l) t in padded-past l i h ∙ sym (get_or_past l i filler h))

  -- an array that a closure made, of what the elements of a list become
  pub made-padded : {C F : Type 0} (w : C → A) (t : List C) (g : Mut F (ℕ × Unit {0}) A) (f : F) {ys : List A} → length t ≤ n
      → ((i : ℕ) (y : A) (q : F) → Called g f (i, tt) y q → (q ≡ f) × (y ≡ get_or (map w t) i filler)) → IsFromFnResult g f ys n → ys ≡ padded n filler (map w t)
  made-padded w t g f h each m =
      made-is g f (padded n filler (map w t)) filler (λ i y q e. let k = each i y q e in (k.0, k.1 ∙ sym (get_or-whole (map w t) i))) (length-padded (map w t) (rw (length-map t w) h)) m
