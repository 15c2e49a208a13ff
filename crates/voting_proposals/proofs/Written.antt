-- Rows written over the first of a table, one by one. Assumes nothing.
use mathlib.Core.Path.{◌≡◌, ◌∙◌}
use mathlib.Core.List.{List, [], ◌++◌, map, map-append, append_assoc}
use Prim.Native.Nat.{ℕ, suc, ◌+◌, ◌≤◌, ◌<◌}
use native.Mathlib.Numerals.{add-one}
use native.Mathlib.Omega.{arith}
use lib.ListN.{length, take, drop, get_or, set, length-map}
use lib.Seq.{take-suc, take_all, drop-cons, set_at, length-take-le}
use Rattle.record_rows.specs.grounds.Ground.{Rows}
use Rattle.voting_proposals.specs.Propose.{over}

module _ {A : Type 0} (f : A → List ℕ) (a : List A) (table : Rows) where
  -- i rows are written
  abbrev pub written_rows : ℕ → Rows
  written_rows i = map f (take i a) ++ drop i table

  pub written_next : (i : ℕ) (d : A) {out : Rows} {row : List ℕ} → i < length a → i < length table → out ≡ written_rows i → row ≡ f (get_or a i d) → set out i row ≡ written_rows (i + 1)
  written_next i d h l e g =
      let n : length (map f (take i a)) ≡ i = length-map (take i a) f ∙ length-take-le i a (omega arith) in
      rw (e, g, add-one i, take-suc a i d h, map-append, append_assoc, drop-cons table i [] l)
      (set_at (map f (take i a)) (get_or table i []) (drop (suc i) table) (f (get_or a i d)) i n)

  pub written-end : (i : ℕ) {out : Rows} → i ≤ length a → length a ≤ i → out ≡ written_rows i → out ≡ over (map f a) table
  written-end i h l e = let m : length (map f a) ≡ i = omega (arith, length-map a f) in e ∙ rw (take_all i a l, m)
