-- What one call adds to the marks of a closed set makes them the marks of the closure. Assumes nothing.
use mathlib.Core.Path.{◌≡◌, ap, ◌∙◌}
use mathlib.Core.Bool.{Bool, true, ◌&&◌}
use mathlib.Core.List.{List, ◌∷◌}
use Prim.Native.Nat.{ℕ, ◌<◌}
use lib.Dec.{ltb}
use lib.ListN.{length}
use borrow.Author.Tests.{ltb-true, lt-ltb}
use Rattle.lists.specs.Lists.{mem, index_of, ◌among◌, ◌within◌, closure}
use Rattle.record.specs.Record.{Record, names}
use Rattle.lists.proofs.Lists.{and_l, and_r, and_i, mem-head, mem-tail, cons-by, mem_index, closure-holds, closure-least, closure-closed}
use Rattle.graph.specs.links.Marks.{name_at, marks_of}
use Rattle.graph.specs.links.Links.{left_at, Leads}
use Rattle.graph.specs.links.Reach.{On, ClosedOver, Marked}
use Rattle.graph.proofs.links.Names.{get_or-among, get_or-place, place-get_or}
use Rattle.graph.proofs.links.Marks.{on-by, marks-size, marks-low, marks-on, on-marks, marks-are}

module _ (leads : ℕ → ℕ → Bool) (R : Record) (known s : List ℕ) (base : ℕ) (rows m m' : List ℕ) (x : ℕ)
    (g : Leads leads R base rows) (kn : (a b : ℕ) → leads a b ≡ true → a among known)
    (cl : (a b : ℕ) → leads a b ≡ true → b among s → a among s) (l : x < length (names R)) (sub : s within names R)
    (e : m ≡ marks_of R (λ y. mem y s)) (k : Marked base rows m x m') where
  was : (y : ℕ) → On m y → (y < length (names R)) × (name_at R y among s)
  was y o = marks-on R (λ y. mem y s) y (rw (← e) o)

  is-on : (a : ℕ) → a among s → On m' (index_of a (names R))
  is-on a i =
      k.kept (index_of a (names R)) (rw e (on-marks R (λ y. mem y s) (index_of a (names R)) (mem_index a (names R) (sub a i)) (rw (get_or-place a (names R) (sub a i)) i)))

  in-goal : ℕ → Bool
  in-goal y = ltb y (length (names R)) && mem (name_at R y) (closure leads known (name_at R x ∷ s))

  start : (y : ℕ) → y < length (names R) → name_at R y among name_at R x ∷ s → in-goal y ≡ true
  unfolding in-goal
  start y h i = and_i _ _ (lt-ltb y (length (names R)) h) (closure-holds leads known (name_at R x ∷ s) (name_at R y) i)

  keeps : ClosedOver base g.keys rows in-goal
  unfolding in-goal
  keeps i y h u q p =
      let w : y < length (names R) = ltb-true y (length (names R)) (and_l _ _ p) in
      and_i _ _ (lt-ltb _ (length (names R)) (g.known i y h w q))
      (closure-closed leads known (name_at R x ∷ s) kn (name_at R (left_at rows i)) (name_at R y) (g.holds i y h w q) (and_r (ltb y (length (names R))) _ p))

  reached : (y : ℕ) → On m' y → (y < length (names R)) × (name_at R y among closure leads known (name_at R x ∷ s))
  unfolding in-goal
  reached y o =
      let p = k.least g.keys g.linked in-goal keeps (start x l (mem-head (name_at R x) s))
      (λ z o₁. let w = was z o₁ in start z w.0 (mem-tail (name_at R z) (name_at R x) s w.1)) y o in
      (ltb-true y (length (names R)) (and_l _ _ p), and_r (ltb y (length (names R))) _ p)

  -- the set of marked names is closed
  step : (a b : ℕ) → leads a b ≡ true → (b among names R) × On m' (index_of b (names R)) → (a among names R) × On m' (index_of a (names R))
  step a b h i =
      let r = g.row_of a b h in (
        r.left-known,
        rw (← r.left) (on-by m (index_of b (names R))
            (λ o. rw r.left (is-on a (cl a b h (rw (get_or-place b (names R) i.0) at (was (index_of b (names R)) o).1))))
            (λ f. k.closed g.keys g.linked r.row (index_of b (names R)) r.low r.key i.1 f)),
      )

  started : (a : ℕ) → a among name_at R x ∷ s → (a among names R) × On m' (index_of a (names R))
  started a i = cons-by a (name_at R x) s i
      (λ q. rw q (get_or-among (names R) x l, rw (place-get_or (names R) x g.apart l) k.here))
      (λ j. (sub a j, is-on a j))

  pub closing : m' ≡ marks_of R (λ y. mem y (closure leads known (name_at R x ∷ s)))
  closing =
      marks-are R (λ y. mem y (closure leads known (name_at R x ∷ s))) m' g.few
      (k.size ∙ ap length e ∙ marks-size R (λ y. mem y s) g.few)
      (k.bits (λ y. rw e (marks-low R (λ y. mem y s) y)))
      reached
      (λ y h i. rw (place-get_or (names R) y g.apart h) at
      (closure-least leads known (name_at R x ∷ s) (λ a. (a among names R) × On m' (index_of a (names R))) step started (name_at R y) i).1)
