-- Marks by recursion over linked rows: what its loop keeps, and that each call marks more. Assumes nothing.
use mathlib.Core.Path.{◌≡◌, refl, ◌∙◌}
use mathlib.Core.Bool.{Bool, true, cond}
use mathlib.Core.List.{List, [], ◌∷◌}
use Prim.Native.Nat.{ℕ, zero, suc, ◌+◌, ◌-◌, ◌≤◌, ◌<◌}
use native.Mathlib.Omega.{arith}
use lib.Dec.{eqb}
use lib.ListN.{length, get_or, set, length-set}
use lib.Seq.{get_or-set_same, get_or-set_other}
use borrow.Author.Tests.{eq-eqb, ne_eqb}
use Rattle.std.specs.Prelude.{Some}
use Rattle.lists.proofs.Lists.{by, is-by}
use Rattle.graph.specs.declared.links.Lefts.{Lefts}
use Rattle.graph.specs.links.Links.{left_at, FirstRow, Walks, LinkedByKey}
use Rattle.graph.specs.links.Reach.{On, Off, ClosedOver, Marked}
use Rattle.graph.proofs.links.Marks.{on-by}
use Rattle.graph.proofs.links.Links.{Looking, looking-start, looking-step}

-- a walk along the rows of x: those from w on are done, from the marks m, in which x is, to m'
pub record Going (base : ℕ) (rows m : List ℕ) (x : ℕ) (w : Lefts) (m' : List ℕ) : Type 0 where
  pub same : w.rows.now ≡ rows
  pub size : length m' ≡ length m
  pub bits : ((y : ℕ) → get_or m y 0 ≤ 1) → (y : ℕ) → get_or m' y 0 ≤ 1
  pub was : On m x
  pub kept : (y : ℕ) → On m y → On m' y
  pub along : Looking rows (base + x) (λ i. On m' (left_at rows i)) w.row
  pub closed : (keys : List ℕ) → LinkedByKey keys rows → (i y : ℕ) → i < length keys → get_or keys i 0 ≡ base + y → On m' y → Off m y → On m' (left_at rows i)
  pub least : (keys : List ℕ) → LinkedByKey keys rows → (p : ℕ → Bool) → ClosedOver base keys rows p → ((y : ℕ) → On m y → p y ≡ true) → (y : ℕ) → On m' y → p y ≡ true

pub on-set : (m : List ℕ) (x y : ℕ) → x < length m → On m y → On (set m x 1) y
on-set m x y l k = is-by y x (λ q. rw q (get_or-set_same m x 1 0 l)) (λ q. rw (get_or-set_other m x y 1 0 q) k)

module _ {base : ℕ} {rows m : List ℕ} {x : ℕ} where
  pub marked-was : On m x → Marked base rows m x m
  marked-was h = record {
    size = refl;
    bits = λ h. h;
    kept = λ y k. k;
    here = h;
    closed = λ keys g i y l e o f. absurd (f o);
    least = λ keys g p k q s. s;
  }

  pub going_start : {w : Lefts} → base + x < 384 → On m x → FirstRow rows (base + x) w.row → w.rows.now ≡ rows → Going base rows m x w m
  going_start {w} b h e same = record {
    same = same;
    size = refl;
    bits = λ h. h;
    was = h;
    kept = λ y k. k;
    along = looking-start rows (base + x) (λ i. On m (left_at rows i)) w.row b e;
    closed = λ keys g i y l k o f. absurd (f o);
    least = λ keys g p k s. s;
  }

  -- one row: what its call did, and the step to the row before it
  pub going_step : {left : ℕ} {w w' : Lefts} {m₁ m₂ : List ℕ} → x < 128 → Walks w.rows.now w.row (Some left) w'.rows.now w'.row
      → Going base rows m x w m₁ → Marked base rows m₁ left m₂ → Going base rows m x w' m₂
  going_step {w} {w'} {m₁} {m₂} u d g k =
      let h = rw g.same at d.1 in
      let c = rw h.1.0 at k in record {
        same = d.0 ∙ g.same;
        size = c.size ∙ g.size;
        bits = λ k. c.bits (g.bits k);
        was = g.was;
        kept = λ y k. c.kept y (g.kept y k);
        along = looking-step rows (base + x) (λ i. On m₁ (left_at rows i)) (λ i. On m₂ (left_at rows i)) w.row w'.row h.0 h.2 (λ i. c.kept (left_at rows i)) c.here g.along;
        closed = λ keys lk i y l k o f. on-by m₁ y (λ o₁. c.kept _ (g.closed keys lk i y l k o₁ f)) (λ n. c.closed keys lk i y l k o n);
        least = λ keys lk p k s. let a = g.along keys lk in
            c.least keys lk p k (k (w.row - 1) x (omega (arith, a.low)) u (a.hit h.0) (s x g.was)) (g.least keys lk p k s);
      }

  pub going_end : {w : Lefts} {m' : List ℕ} → x < length m → w.row ≡ 0 → Going base rows (set m x 1) x w m' → Marked base rows m x m'
  going_end l e g = record {
    size = g.size ∙ length-set m x 1;
    bits = λ k. g.bits (λ y. is-by y x (λ q. rw (q, get_or-set_same m x 1 0 l) (omega arith)) (λ q. rw (get_or-set_other m x y 1 0 q) (k y)));
    kept = λ y k. g.kept y (on-set m x y l k);
    here = g.kept x g.was;
    closed = λ keys lk i y k r o f. is-by y x (λ q. (g.along keys lk).passed i (omega arith) k (rw q at r))
        (λ q. g.closed keys lk i y k r o (λ o₁. f (rw (get_or-set_other m x y 1 0 q) at o₁)));
    least = λ keys lk p k q s. g.least keys lk p k (λ y o. is-by y x (λ r. rw r q) (λ r. s y (rw (get_or-set_other m x y 1 0 r) at o)));
  }

-- how many are not marked
unfoldable pub unmarked : List ℕ → ℕ
unmarked [] = 0
unmarked (v ∷ m) = cond (eqb v 1) 0 1 + unmarked m

pub unmarked-le : (m : List ℕ) → unmarked m ≤ length m
unfolding unmarked
unmarked-le [] = omega arith
unmarked-le (v ∷ m) = by (eqb v 1) (λ e. rw e (omega (arith, unmarked-le m))) (λ e. rw e (omega (arith, unmarked-le m)))

unmarked-kept : (l m : List ℕ) → length l ≡ length m → ((y : ℕ) → On l y → On m y) → unmarked m ≤ unmarked l
unfolding unmarked
unmarked-kept [] [] e h = omega arith
unmarked-kept [] (v ∷ m) e h = absurd (omega arith)
unmarked-kept (u ∷ l) [] e h = absurd (omega arith)
unmarked-kept (u ∷ l) (v ∷ m) e h =
    let r = unmarked-kept l m (omega arith) (λ y. h (suc y)) in
    is-by u 1 (λ q. rw (eq-eqb u 1 q, eq-eqb v 1 (h 0 q)) (omega arith))
    (λ q. by (eqb v 1) (λ z. rw (ne_eqb u 1 q, z) (omega arith)) (λ z. rw (ne_eqb u 1 q, z) (omega arith)))

-- one mark more, and none less, leaves fewer places
pub unmarked-less : (l m : List ℕ) (x : ℕ) → length l ≡ length m → x < length l → Off l x → On m x → ((y : ℕ) → On l y → On m y) → unmarked m < unmarked l
unfolding unmarked
unmarked-less [] m x e k f o h = absurd (omega arith)
unmarked-less (u ∷ l) [] x e k f o h = absurd (omega arith)
unmarked-less (u ∷ l) (v ∷ m) zero e k f o h =
    rw (ne_eqb u 1 f, eq-eqb v 1 o) (omega (arith, unmarked-kept l m (omega arith) (λ y. h (suc y))))
unmarked-less (u ∷ l) (v ∷ m) (suc x) e k f o h =
    let r = unmarked-less l m x (omega arith) (omega arith) f o (λ y. h (suc y)) in
    is-by u 1 (λ q. rw (eq-eqb u 1 q, eq-eqb v 1 (h 0 q)) (omega arith))
    (λ q. by (eqb v 1) (λ z. rw (ne_eqb u 1 q, z) (omega arith)) (λ z. rw (ne_eqb u 1 q, z) (omega arith)))
