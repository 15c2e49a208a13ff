-- The search finds a ring just where the marked set holds one. Assumes nothing.
use mathlib.Core.Path.{◌≡◌, refl, sym}
use mathlib.Core.Bool.{true, false}
use mathlib.Core.List.{List, []}
use Prim.Native.Nat.{ℕ, zero, suc, ◌≤◌, ◌<◌}
use native.Mathlib.Omega.{arith}
use lib.ListN.{length, get_or}
use borrow.Author.Tests.{not-true}
use Rattle.lists.specs.Lists.{any, mem, index_of, ◌among◌, ◌within◌}
use Rattle.record.specs.Record.{Record, names, notafter}
use Rattle.record.specs.Schedule.{order, ring}
use Rattle.lists.proofs.Lists.{by, clash, any-among-by, mem_index}
use Rattle.record.proofs.Order.{order-placed, ring-order, left_by_lem}
use Rattle.graph.specs.links.Marks.{name_at, marks_of}
use Rattle.graph.specs.links.Links.{left_at, Leads}
use Rattle.graph.specs.links.Reach.{On, Off}
use Rattle.graph.specs.links.Search.{Present, Follows, NoRank}
use Rattle.graph.proofs.links.Names.{get_or-place, place-get_or}
use Rattle.graph.proofs.links.Marks.{marks-low, marks-on, on-marks}
use Rattle.graph.proofs.links.Search.{Searching}

-- one of a set whose predecessors in it are placed is placed
order-next : (R : Record) (t : List ℕ) → t within names R → (x : ℕ) → x among t → ((a : ℕ) → notafter R a x ≡ true → a among t → a among order R t) → x among order R t
order-next R t k x i h = by (mem x (order R t)) (λ m. m) (λ m. left_by_lem R t k x i m (λ a j p e. clash (h a e j) p))

-- Where a part u holds no ring, and all besides u that come before one of the set are placed, there is none.
module _ (R : Record) (u t : List ℕ) (k : t within names R) (calm : ring R u ≡ false)
    (new : (x b : ℕ) → notafter R x b ≡ true → b among t → x among t → mem x u ≡ false → x among order R t) where
  old-placed : (n x : ℕ) → index_of x (order R u) < n → x among u → x among t → x among order R t
  old-placed zero x l i j = absurd (omega arith)
  old-placed (suc n) x l i j =
      by (mem x (order R t)) (λ m. m)
      (λ m. left_by_lem R t k x j m (λ a q p e. by (mem a u)
      (λ v. clash (old-placed n a (omega (arith, (order-placed R u).orders a x e v (ring-order R u calm x i))) v q) p)
      (λ v. clash (new a x e j q v) p)))

  pub ring-new : ring R t ≡ false
  unfolding ring
  ring-new =
      by (ring R t)
      (λ r. any-among-by _ t r (λ x i m. left_by_lem R t k x i (not-true _ m) (λ a q p e. by (mem a u)
      (λ v. clash (old-placed (suc (index_of a (order R u))) a (omega arith) v q) p)
      (λ v. clash (new a x e i q v) p))))
      (λ r. r)

pub no-ring-none : (R : Record) → ring R [] ≡ false
unfolding ring any
no-ring-none R = refl

module _ (R : Record) (t s rows : List ℕ) (g : Leads (notafter R) R 0 rows) (sub : t within names R)
    (e : s ≡ marks_of R (λ y. mem y t)) where
  pub ring-low : (y : ℕ) → get_or s y 0 ≤ 1
  ring-low y = rw e (marks-low R (λ y. mem y t) y)

  held_in : (y : ℕ) → Present s y → (y < length (names R)) × (name_at R y among t)
  held_in y h = marks-on R (λ y. mem y t) y (rw (← e) (one_of (get_or s y 0) h (ring-low y)))
    where
      one_of : (v : ℕ) → (v ≡ 0 → ⊥) → v ≤ 1 → v ≡ 1
      one_of v n l = omega (arith, n)

  in_held : (a : ℕ) → a among t → Present s (index_of a (names R))
  in_held a i z =
      let o : On s (index_of a (names R)) = rw e (on-marks R (λ y. mem y t) (index_of a (names R)) (mem_index a (names R) (sub a i)) (rw (get_or-place a (names R) (sub a i)) i)) in
      omega (arith, o, z)

  follows : Follows g.keys rows s (λ y. mem (name_at R y) (order R t))
  follows y h f =
      let i = held_in y h in
      order-next R t sub (name_at R y) i.1
      (λ a q j. let r = g.row_of a (name_at R y) q in
      let z = r.left in
      rw (← get_or-place a (names R) r.left-known, ← z)
      (f r.row r.low (omega (arith, r.key, place-get_or (names R) y g.apart i.0)) (rw z (in_held a j))))

  pub ring-found : NoRank g.keys rows s → true ≡ ring R t
  ring-found u =
      sym (by (ring R t) (λ r. r)
      (λ r. absurd (u (λ y. index_of (name_at R y) (order R t))
      (λ i y l q h k. let a = held_in y h in
      (order-placed R t).orders (name_at R (left_at rows i)) (name_at R y) (g.holds i y l a.0 (omega (arith, q))) (held_in _ k).1 (ring-order R t r (name_at R y) a.1)))))

  pub ring-none : (u old : List ℕ) (n : ℕ) (w : List ℕ) → n ≡ length (names R) → old ≡ marks_of R (λ y. mem y u) → ring R u ≡ false
      → Searching rows old s n w → false ≡ ring R t
  ring-none u old n w q o calm k =
      let d = k.search g.keys g.linked ring-low in
      sym (ring-new R u t sub calm
      (λ a b z j i m. let x = index_of a (names R) in
      let f : Off old (index_of a (names R)) = λ z. clash (rw (get_or-place a (names R) (sub a i)) at (marks-on R (λ y. mem y u) x (rw (← o) z)).1) m in
      rw (get_or-place a (names R) (sub a i)) at
      (d.placed (λ y. mem (name_at R y) (order R t)) follows (λ y h. absurd (omega (arith, ring-low y, h))) x
      (d.done x (omega (arith, mem_index a (names R) (sub a i))) f (in_held a i)))))
