-- What is written into a lent part of a slice, said of the whole slice. Assumes nothing.
use Prim.Native.Nat.{ℕ, ◌+◌, ◌-◌, ◌≤◌}
use mathlib.Core.Path.{◌≡◌, ap, sym, ◌∙◌}
use mathlib.Core.List.{List, ◌++◌, append_assoc, append-nil}
use native.Mathlib.Omega.{arith}
use lib.ListN.{length, take, drop, length-append, length-drop, drop_of_length-le}
use lib.Seq.{take_all, take_at, drop_at, drop-drop}
use Rattle.text_forms.specs.decimal.Written.{Written}
use Rattle.std.proofs.lemmas.List.{take_rest}

-- what was written at the start of the part from a place on, said of the whole
pub part-written : (at : ℕ) (xs ys w : List ℕ) → at + length w ≤ length xs → ys ≡ w ++ drop (length w) (take (length xs - at) (drop at xs))
    → take at xs ++ (ys ++ drop (length xs - at) (drop at xs)) ≡ take at xs ++ (w ++ drop (at + length w) xs)
part-written at xs ys w h e =
    let l : length (drop at xs) ≤ length xs - at = omega (arith, length-drop at xs) in
    rw (e, take_all (length xs - at) (drop at xs) l, drop_of_length-le (drop at xs) {i = length xs - at} l, drop-drop (length w) at xs, append-nil)

-- two texts, one after the other: what they leave of a lent part
module _ (s before : List ℕ) {at : ℕ} {out : List ℕ} (u : Written s before at out) where
  pub out-length : length s ≤ length before → length out ≡ length before
  out-length h = ap length u.1 ∙ length-append s (drop (length s) before) ∙ rw (length-drop (length s) before) (omega arith)

  pub second-room : (t : List ℕ) → length (s ++ t) ≤ length before → length t ≤ length (take (length out - at) (drop at out))
  second-room t h =
      let l : length (s ++ t) ≡ length s + length t = length-append s t in
      let o = out-length (omega arith) in
      rw (take_rest out at, length-drop) (omega (arith, u.0))

  pub inside : length s ≤ length before → at ≤ length out
  inside h = omega (arith, u.0, out-length h)

  pub written_both : (t : List ℕ) → length (s ++ t) ≤ length before → {r : ℕ} {after : List ℕ} → Written t (take (length out - at) (drop at out)) r after → Written (s ++ t) before (at + r) (take at out ++ (after ++ drop (length out - at) (drop at out)))
  written_both t h {r} {after} w =
      let l : length (s ++ t) ≡ length s + length t = length-append s t in
      let o = out-length (omega arith) in
      let a : take at out ≡ s = ap (take at) u.1 ∙ take_at s (drop (length s) before) at (sym u.0) in
      let b : drop at out ≡ drop (length s) before = ap (drop at) u.1 ∙ drop_at s (drop (length s) before) at (sym u.0) in
      let c : drop (at + length t) out ≡ drop (length (s ++ t)) before = sym (drop-drop (length t) at out) ∙ ap (drop (length t)) b ∙ drop-drop (length t) (length s) before ∙ ap (λ (n : ℕ). drop n before) (sym l) in (
        omega (arith, u.0, w.0),
        part-written at out after t (omega (arith, u.0)) w.1 ∙ rw (a, c) (sym (append_assoc s t (drop (length (s ++ t)) before))),
      )
