-- Must and never by closures that start from what must stand. Assumes nothing.
use mathlib.Core.Path.{◌≡◌, refl, sym, ◌∙◌}
use mathlib.Core.Bool.{Bool, true, false, not, ◌&&◌, ◌||◌, cond, not-not}
use mathlib.Core.List.{List, [], ◌∷◌}
use Prim.Native.Nat.{ℕ, ◌≤◌, ◌<◌}
use native.Mathlib.Omega.{arith}
use lib.Dec.{eqb}
use lib.ListN.{length, get_or}
use borrow.Author.Tests.{eq-eqb, ne_eqb}
use Rattle.lists.specs.Lists.{mem, ◌among◌, ◌within◌, closure}
use Rattle.record.specs.Record.{Record, names, enables, WellFormed}
use Rattle.record.specs.Schedule.{needs, musts, order, ring}
use Rattle.record.specs.Judgement.{must, never, serialised, settled}
use Rattle.lists.proofs.Lists.{by, clash, is-by, same_by, mem-head, mem-tail, nil-no, cons-within, one-within, any_same}
use Rattle.record.proofs.Records.{init-known}
use Rattle.record.proofs.Order.{Closed, needs-holds, needs-closed, needs-known, needs-within, order_same, ring-grows}
use Rattle.record.proofs.Judged.{init-must}
use Rattle.record.proofs.Scheduled.{musts-known}
use Rattle.graph.specs.links.Marks.{name_at, values_of, marks_of}
use Rattle.graph.specs.links.Reach.{On, Off}
use Rattle.graph.proofs.links.Marks.{marks-same, marks-on, on-marks}

pub ring-same : (R : Record) (s t : List ℕ) → ((x : ℕ) → mem x s ≡ mem x t) → ring R s ≡ ring R t
unfolding ring
ring-same R s t h = rw (order_same R s t h) (any_same (λ x. not (mem x (order R t))) s t h)

-- a part of a set that holds no ring holds none
pub part-ring : (R : Record) (t : List ℕ) → ring R (names R) ≡ false → t within names R → ring R t ≡ false
part-ring R t h k = by (ring R t) (λ r. clash (ring-grows R R t (names R) (λ a b e. e) k k r) h) (λ r. r)

pub none-closed : (R : Record) → Closed R []
none-closed R a b e h = nil-no b h

pub must-closure : (R : Record) → marks_of R (λ y. mem y (closure (enables R) (names R) (name_at R 0 ∷ []))) ≡ marks_of R (must R)
unfolding must musts needs names
must-closure R = refl

pub needs-names : (R : Record) (t : List ℕ) (x : ℕ) → marks_of R (λ y. mem y (closure (enables R) (names R) (x ∷ t))) ≡ marks_of R (λ y. mem y (needs R (x ∷ t)))
unfolding needs
needs-names R t x = refl

module _ {R : Record} (w : WellFormed R) where
  pub musts-closed : Closed R (musts R)
  unfolding musts
  musts-closed = needs-closed R w (0 ∷ [])

  needs_two : (e y : ℕ) → mem y (needs R (e ∷ musts R)) ≡ mem y (needs R (0 ∷ e ∷ []))
  unfolding musts
  needs_two e y =
      let into : musts R within needs R (0 ∷ e ∷ []) = needs-within R w (0 ∷ []) (0 ∷ e ∷ []) (one-within 0 _ (needs-holds R (0 ∷ e ∷ []) 0 (mem-head 0 (e ∷ [])))) in
      same_by _ _
      (needs-within R w (e ∷ musts R) (0 ∷ e ∷ []) (cons-within e (musts R) _ (needs-holds R (0 ∷ e ∷ []) e (mem-tail e 0 (e ∷ []) (mem-head e []))) into) y)
      (needs-within R w (0 ∷ e ∷ []) (e ∷ musts R)
      (cons-within 0 (e ∷ []) _ (needs-holds R (e ∷ musts R) 0 (mem-tail 0 e (musts R) (init-must R))) (one-within e _ (needs-holds R (e ∷ musts R) e (mem-head e (musts R))))) y)

  -- what x and what must stand need is what x needs
  pub needs-closure : (x : ℕ) → length (names R) ≤ 128
      → marks_of R (λ y. mem y (needs R (x ∷ musts R))) ≡ marks_of R (λ y. mem y (needs R (0 ∷ x ∷ [])))
  needs-closure x few = marks-same R _ _ few (λ y i. needs_two x y)

  -- of one that must stand nothing more is needed
  pub never-must : (e : ℕ) → e among musts R → ring R (musts R) ≡ never R e
  unfolding never musts
  never-must e i =
      ring-same R _ _ (λ y. same_by _ _
      (needs-within R w (0 ∷ []) (0 ∷ e ∷ []) (one-within 0 _ (needs-holds R (0 ∷ e ∷ []) 0 (mem-head 0 (e ∷ [])))) y)
      (needs-within R w (0 ∷ e ∷ []) (0 ∷ []) (cons-within 0 (e ∷ []) _ (init-must R) (one-within e _ i)) y))

  -- the needs of a known edit are known
  pub two-known : (e : ℕ) → e among names R → needs R (0 ∷ e ∷ []) within names R
  two-known e i = needs-known R w (0 ∷ e ∷ []) (cons-within 0 (e ∷ []) (names R) (init-known R) (one-within e (names R) i))

  -- the needs of a need
  pub need-needs : (a e : ℕ) → a among needs R (0 ∷ e ∷ []) → needs R (0 ∷ a ∷ []) within needs R (0 ∷ e ∷ [])
  need-needs a e i = needs-within R w (0 ∷ a ∷ []) (0 ∷ e ∷ []) (cons-within 0 (a ∷ []) _ (needs-holds R (0 ∷ e ∷ []) 0 (mem-head 0 (e ∷ []))) (one-within a _ i))

  need-same : (a e : ℕ) → a among needs R (0 ∷ e ∷ []) → (y : ℕ) → mem y (needs R (e ∷ needs R (0 ∷ a ∷ []))) ≡ mem y (needs R (0 ∷ e ∷ []))
  need-same a e i y =
      let s = needs R (0 ∷ a ∷ []) in
      same_by _ _
      (needs-within R w (e ∷ s) (0 ∷ e ∷ []) (cons-within e s _ (needs-holds R (0 ∷ e ∷ []) e (mem-tail e 0 (e ∷ []) (mem-head e []))) (need-needs a e i)) y)
      (needs-within R w (0 ∷ e ∷ []) (e ∷ s)
      (cons-within 0 (e ∷ []) _ (needs-holds R (e ∷ s) 0 (mem-tail 0 e s (needs-holds R (0 ∷ a ∷ []) 0 (mem-head 0 (a ∷ [])))))
      (one-within e _ (needs-holds R (e ∷ s) e (mem-head e s)))) y)

  -- where a need can never stand, e never can; where it can, e can if it closes no ring with the needs of that
  pub never-need : (a e : ℕ) → a among names R → a among needs R (0 ∷ e ∷ []) → never R a ≡ true → never R e ≡ true
  unfolding never
  never-need a e k i h = ring-grows R R _ _ (λ x y z. z) (two-known a k) (need-needs a e i) h

  pub never-entering : (a e : ℕ) → a among needs R (0 ∷ e ∷ []) → ring R (needs R (e ∷ needs R (0 ∷ a ∷ []))) ≡ never R e
  unfolding never
  never-entering a e i = ring-same R _ _ (need-same a e i)

  pub enabler-need : (a e : ℕ) → enables R a e ≡ true → a among needs R (0 ∷ e ∷ [])
  enabler-need a e h = needs-closed R w (0 ∷ e ∷ []) a e h (needs-holds R (0 ∷ e ∷ []) e (mem-tail e 0 (e ∷ []) (mem-head e [])))

  pub init-need : (e : ℕ) → name_at R 0 among needs R (0 ∷ e ∷ [])
  unfolding names
  init-need e = needs-holds R (0 ∷ e ∷ []) 0 (mem-head 0 (e ∷ []))

  two-musts : (e : ℕ) → musts R within needs R (0 ∷ e ∷ [])
  unfolding musts
  two-musts e = needs-within R w (0 ∷ []) (0 ∷ e ∷ []) (one-within 0 _ (needs-holds R (0 ∷ e ∷ []) 0 (mem-head 0 (e ∷ []))))

  -- where all edits together hold no ring none is never, where what must stand holds one all are
  pub never-nowhere : length (names R) ≤ 128 → ring R (names R) ≡ false → marks_of R (λ y. mem y []) ≡ marks_of R (never R)
  unfolding mem never
  never-nowhere few h = marks-same R _ _ few (λ x i. sym (part-ring R _ h (two-known x i)))

  pub never-everywhere : length (names R) ≤ 128 → ring R (musts R) ≡ true → marks_of R (λ y. mem y (names R)) ≡ marks_of R (never R)
  unfolding never
  never-everywhere few h = marks-same R _ _ few (λ x i. i ∙ sym (ring-grows R R (musts R) _ (λ a b e. e) (musts-known R w) (two-musts x) h))

pub calm-two : (R : Record) (e : ℕ) → never R e ≡ false → ring R (needs R (0 ∷ e ∷ [])) ≡ false
unfolding never
calm-two R e h = h

-- must is to be among the musts
pub must-musts : (R : Record) → marks_of R (must R) ≡ marks_of R (λ y. mem y (musts R))
unfolding must
must-musts R = refl

pub names-some : (R : Record) → 0 < length (names R)
unfolding names
names-some R = omega arith

pub marks-values : (R : Record) (test : ℕ → Bool) → values_of R (λ x. cond (test x) 1 0) ≡ marks_of R test
unfolding marks_of
marks-values R test = refl

-- the marks m of a test, where they stand and where not
pub marked-on : (R : Record) (test : ℕ → Bool) (m : List ℕ) (y : ℕ) → m ≡ marks_of R test → On m y → test (name_at R y) ≡ true
marked-on R test m y e o = (marks-on R test y (rw (← e) o)).1

pub marked-off : (R : Record) (test : ℕ → Bool) (m : List ℕ) (y : ℕ) → m ≡ marks_of R test → y < length (names R) → Off m y → test (name_at R y) ≡ false
marked-off R test m y e l f = by (test (name_at R y)) (λ q. absurd (f (rw e (on-marks R test y l q)))) (λ q. q)

-- where INIT has a mark, one without is not the first
pub unmarked-above : (R : Record) (test : ℕ → Bool) (m : List ℕ) (x : ℕ) → m ≡ marks_of R test → test 0 ≡ true → Off m x → 0 < x
unfolding names
unmarked-above R test m x e i f = is-by x 0 (λ q. absurd (f (rw (q, e) (on-marks R test 0 (names-some R) i)))) (λ q. omega (arith, q))

pub must-init : (R : Record) → must R 0 ≡ true
unfolding must
must-init R = init-must R

pub must-on : (R : Record) (m : List ℕ) (y : ℕ) → m ≡ marks_of R (must R) → On m y → name_at R y among musts R
unfolding must
must-on R m y e o = marked-on R (must R) m y e o

pub marked-is : (R : Record) (test : ℕ → Bool) (m : List ℕ) (y : ℕ) → m ≡ marks_of R test → y < length (names R) → eqb (get_or m y 0) 1 ≡ test (name_at R y)
marked-is R test m y e l =
    is-by (get_or m y 0) 1 (λ o. rw (eq-eqb (get_or m y 0) 1 o) (sym (marked-on R test m y e o)))
    (λ f. rw (ne_eqb (get_or m y 0) 1 f) (sym (marked-off R test m y e l f)))

-- settled is never, or must and serialised, by marks
pub settled-is-by : (R : Record) (musts nevers opens : List ℕ) (y : ℕ) → musts ≡ marks_of R (must R) → nevers ≡ marks_of R (never R)
    → opens ≡ marks_of R (λ x. not (serialised R x)) → y < length (names R)
    → (eqb (get_or nevers y 0) 1 || eqb (get_or musts y 0) 1 && not (eqb (get_or opens y 0) 1)) ≡ settled R (name_at R y)
unfolding settled
settled-is-by R ms ns os y a b c l =
    rw (marked-is R (never R) ns y b l, marked-is R (must R) ms y a l, marked-is R (λ x. not (serialised R x)) os y c l, not-not (serialised R (name_at R y)))
