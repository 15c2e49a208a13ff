-- An edit that enters a set alone, and comes before none of it, closes no ring. Assumes nothing.
use mathlib.Core.Path.{◌≡◌, refl, ◌∙◌}
use mathlib.Core.Bool.{Bool, true, false, cond}
use mathlib.Core.List.{List, ◌∷◌}
use Prim.Native.Nat.{ℕ, ◌+◌, ◌-◌, ◌<◌}
use native.Mathlib.Omega.{arith}
use lib.ListN.{length, get_or}
use Rattle.lists.specs.Lists.{mem, index_of, ◌among◌, ◌within◌}
use Rattle.record.specs.Record.{Record, names, notafter, enables}
use Rattle.record.specs.Schedule.{needs, ring}
use Rattle.lists.proofs.Lists.{by, clash, mem-tail, cons-by, cons-within, mem_index}
use Rattle.record.proofs.Order.{Closed, needs-least, needs-known}
use Rattle.graph.specs.links.Marks.{name_at, marks_of}
use Rattle.graph.specs.links.Links.{left_at, FirstRow, NoRow}
use Rattle.graph.specs.links.Reversed.{Reversed}
use Rattle.graph.proofs.links.Names.{get_or-among, get_or-place, place-get_or}
use Rattle.graph.proofs.links.Marks.{marks-at, on-marks}
use Rattle.graph.proofs.links.Links.{along-start}
use Rattle.graph.proofs.links.Rings.{ring-new}
use Rattle.graph.specs.links.Resolved.{Resolved}

module _ (R : Record) (s rows old : List ℕ) (g : Resolved R rows) (x : ℕ) (l : x < length (names R)) (cl : Closed R s) (k : s within names R)
    (o : old ≡ marks_of R (λ y. mem y s)) where
  pub entering-known : needs R (name_at R x ∷ s) within names R
  entering-known = needs-known R g.formed (name_at R x ∷ s) (cons-within (name_at R x) s (names R) (get_or-among (names R) x l) k)

  -- where all that enable x are in the set, x enters alone
  module _ (alone : NoRow rows (128 + x) (λ y. get_or old y 0 ≡ 0)) where
    enabler-in : (a : ℕ) → enables R a (name_at R x) ≡ true → a among s
    enabler-in a e =
        let r = g.enablers.row_of a (name_at R x) e in
        by (mem a s) (λ i. i)
        (λ i. absurd (alone g.enablers.keys g.enablers.linked r.row r.low (omega (arith, r.key, place-get_or (names R) x g.enablers.apart l))
        (rw (r.left, o) (marks-at R (λ y. mem y s) (index_of a (names R)) (mem_index a (names R) r.left-known) ∙ rw (get_or-place a (names R) r.left-known, i)))))

    pub entering-alone : needs R (name_at R x ∷ s) within name_at R x ∷ s
    entering-alone =
        needs-least R (name_at R x ∷ s) (name_at R x ∷ s)
        (λ a b e i. mem-tail a (name_at R x) s (cons-by b (name_at R x) s i (λ q. enabler-in a (rw q at e)) (λ j. cl a b e j)))
        (λ y i. i)

    module _ (reversed marks : List ℕ) (h : Reversed R reversed) (m : marks ≡ marks_of R (λ y. mem y (needs R (name_at R x ∷ s))))
        (free : NoRow reversed x (λ y. get_or marks y 0 ≡ 1)) where
      unfollowed : (b : ℕ) → notafter R (name_at R x) b ≡ true → b among needs R (name_at R x ∷ s) → ⊥
      unfollowed b e i =
          let r = h.row_of (name_at R x) b e in
          free h.keys h.linked r.row r.low (omega (arith, r.key, place-get_or (names R) x g.enablers.apart l))
          (rw (r.left, m) (on-marks R (λ y. mem y (needs R (name_at R x ∷ s))) (index_of b (names R)) (mem_index b (names R) r.left-known) (rw (get_or-place b (names R) r.left-known) i)))

      pub entering-calm : ring R s ≡ false → ring R (needs R (name_at R x ∷ s)) ≡ false
      entering-calm calm =
          ring-new R s (needs R (name_at R x ∷ s)) entering-known calm
          (λ a b e j i n. cons-by a (name_at R x) s (entering-alone a i) (λ q. absurd (unfollowed b (rw q at e) j)) (λ q. clash q n))

-- the first of the rows to x is one of enables
pub first-enabler : (R : Record) (rows : List ℕ) → Resolved R rows → (x j : ℕ) → x < length (names R) → FirstRow rows (128 + x) j → (j ≡ 0 → ⊥)
    → (left_at rows (j - 1) < length (names R)) × (enables R (name_at R (left_at rows (j - 1))) (name_at R x) ≡ true)
first-enabler R rows g x j l e n =
    let k = g.enablers in
    let w = along-start k.keys rows k.linked (128 + x) j (λ i. ⊥) (omega (arith, k.few)) e in
    let h : j - 1 < length k.keys = omega (arith, w.low, n) in
    (k.known (j - 1) x h l (w.hit (omega (arith, n))), k.holds (j - 1) x h l (w.hit (omega (arith, n))))

-- a mark of a bit
pub bit-yes : (b : Bool) (v : ℕ) → v ≡ cond b 1 0 → v ≡ 1 → b ≡ true
bit-yes true v e o = refl
bit-yes false v e o = absurd (omega arith)

pub bit-no : (b : Bool) (v : ℕ) → v ≡ cond b 1 0 → (v ≡ 1 → ⊥) → b ≡ false
bit-no true v e o = absurd (o e)
bit-no false v e o = refl
