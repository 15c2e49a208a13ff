-- The search for a ring by recursion over linked rows: what its loops keep. Assumes nothing.
use mathlib.Core.Path.{◌≡◌, refl, sym, ◌∙◌}
use mathlib.Core.Bool.{Bool, true, false}
use mathlib.Core.List.{List}
use Prim.Native.Nat.{ℕ, ◌+◌, ◌-◌, ◌≤◌, ◌<◌}
use native.Mathlib.Omega.{arith}
use lib.ListN.{length, get_or, set, length-set}
use lib.Seq.{get_or-set_same, get_or-set_other}
use Rattle.std.specs.Prelude.{Some}
use Rattle.lists.proofs.Lists.{clash, is-by}
use Rattle.graph.specs.declared.links.Lefts.{Lefts}
use Rattle.graph.specs.links.Links.{left_at, FirstRow, Walks, LinkedByKey}
use Rattle.graph.specs.links.Reach.{On, Off}
use Rattle.graph.specs.links.Search.{Is, Present, Rising, Follows, Above, NoRank, Same, Told, Visited, VisitedNew}
use Rattle.graph.proofs.links.Marks.{on-by}
use Rattle.graph.proofs.links.Links.{Along, along-start, along-step}
use Rattle.graph.proofs.links.Reach.{unmarked, unmarked-less}

pub same-states-refl : (s : List ℕ) → Same s s
same-states-refl s = record { size = refl; gone = λ y h. h; none = λ y h. h; wait = λ y h. h; kept = λ y h. h; four = λ h. h }

pub same_then : {s t u : List ℕ} → Same s t → Same t u → Same s u
same_then a b = record {
  size = b.size ∙ a.size;
  gone = λ y h. a.gone y (b.gone y h);
  none = λ y h. b.none y (a.none y h);
  wait = λ y h. a.wait y (b.wait y h);
  kept = λ y h. b.kept y (a.kept y h);
  four = λ h. b.four (a.four h);
}

-- to set the state of one of the set to a state above 1, from 3 only to 3
same_set : (s : List ℕ) (x v : ℕ) → x < length s → Present s x → (Is s 3 x → v ≡ 3) → 1 < v → v ≤ 3 → Same s (set s x v)
same_set s x v l n m h b = record {
  size = length-set s x v;
  gone = λ y k. is-by y x (λ q. absurd (let z : v ≡ 0 = sym (get_or-set_same s x v 0 l) ∙ rw q at k in omega arith)) (λ q. rw (get_or-set_other s x y v 0 q) at k);
  none = λ y k. is-by y x (λ q. absurd (n (rw q at k))) (λ q. rw (get_or-set_other s x y v 0 q) k);
  wait = λ y k. is-by y x (λ q. absurd (let z : v ≡ 1 = sym (get_or-set_same s x v 0 l) ∙ rw q at k in omega arith)) (λ q. rw (get_or-set_other s x y v 0 q) at k);
  kept = λ y k. is-by y x (λ q. rw q (get_or-set_same s x v 0 l ∙ m (rw q at k))) (λ q. rw (get_or-set_other s x y v 0 q) k);
  four = λ k y. is-by y x (λ q. rw (q, get_or-set_same s x v 0 l) b) (λ q. rw (get_or-set_other s x y v 0 q) (k y));
}

pub same-go : (s : List ℕ) (x : ℕ) → x < length s → Is s 1 x → Same s (set s x 2)
same-go s x l o = same_set s x 2 l (λ z. omega (arith, z, o)) (λ z. absurd (omega (arith, z, o))) (omega arith) (omega arith)

-- x comes before, or is, each that is on the way
abbrev pub Atop : List ℕ → List ℕ → List ℕ → ℕ → Type 0
Atop keys rows s x = (rank : ℕ → ℕ) → Rising keys rows s rank → (y : ℕ) → Is s 2 y → rank x ≤ rank y

-- the rows of x from j on are done, from the states s, in which x is on the way
pub record RowsVisited (keys rows s : List ℕ) (x j : ℕ) (s' : List ℕ) : Type 0 where
  pub along : Along keys x j (λ i. Present s (left_at rows i) → Is s' 3 (left_at rows i))
  pub path : (y : ℕ) → Is s' 2 y → Is s 2 y
  pub placed : (p : ℕ → Bool) → Follows keys rows s p → ((y : ℕ) → Is s 3 y → p y ≡ true) → (y : ℕ) → Is s' 3 y → p y ≡ true

pub record Walking (rows s : List ℕ) (x : ℕ) (w : Lefts) (s' : List ℕ) : Type 0 where
  pub along : w.rows.now ≡ rows
  pub same : Same s s'
  pub was : Is s 2 x
  pub walk : (keys : List ℕ) → LinkedByKey keys rows → ((y : ℕ) → get_or s y 0 ≤ 3) → Atop keys rows s x → RowsVisited keys rows s x w.row s'

module _ (keys rows : List ℕ) where
  rising-back : {s t : List ℕ} → Same s t → (rank : ℕ → ℕ) → Rising keys rows t rank → Rising keys rows s rank
  rising-back a rank r i y l e h k = r i y l e (λ z. h (a.gone y z)) (λ z. k (a.gone _ z))

  rising-on : {s t : List ℕ} → Same s t → (rank : ℕ → ℕ) → Rising keys rows s rank → Rising keys rows t rank
  rising-on a rank r i y l e h k = r i y l e (λ z. h (a.none y z)) (λ z. k (a.none _ z))

  follows_on : {s t : List ℕ} → Same s t → (p : ℕ → Bool) → Follows keys rows s p → Follows keys rows t p
  follows_on a p g y h k = g y (λ z. h (a.none y z)) (λ i l e q. k i l e (λ z. q (a.gone _ z)))

  -- the row's left comes before all that are on the way
  walk-above : (s : List ℕ) (x j : ℕ) (s' : List ℕ) → 0 < j → Same s s' → Is s 2 x → Atop keys rows s x → RowsVisited keys rows s x j s'
      → Above keys rows s' (left_at rows (j - 1))
  walk-above s x j s' h a o t w k rank r y e =
      let z = t rank (rising-back a rank r) y (w.path y e) in
      let v = r (j - 1) x (omega (arith, w.along.low)) (w.along.hit h) (λ q. omega (arith, a.gone x q, o)) k in
      omega arith

  -- the same of the states before x was on the way
  atop-start : (s : List ℕ) (x : ℕ) → x < length s → Is s 1 x → Above keys rows s x → Atop keys rows (set s x 2) x
  atop-start s x l o a rank r y h =
      is-by y x (λ q. rw q (omega arith))
      (λ q. let z = a (λ w. omega (arith, w, o)) rank (rising-back (same-go s x l o) rank r) y (rw (get_or-set_other s x y 2 0 q) at h) in omega arith)

module _ {rows : List ℕ} {x : ℕ} where
  pub visited-ring : {s : List ℕ} → Is s 2 x → Visited rows s x true s
  visited-ring {s} e = record {
    same = same-states-refl s;
    told = λ keys lk four a. record {
      ring = λ h rank r. let z = a (λ q. omega (arith, q, e)) rank r x e in omega arith;
      done = λ h. clash refl h;
    };
  }

  pub visited-was : {s : List ℕ} → (Is s 2 x → ⊥) → (Is s 1 x → ⊥) → Visited rows s x false s
  visited-was {s} a b = record {
    same = same-states-refl s;
    told = λ keys lk four t. record {
      ring = λ e. clash e refl;
      done = λ e. record { path = λ y k. k; here = λ k. omega (arith, four x, a, b, k); placed = λ p g q. q };
    };
  }

  pub walking_start : (s : List ℕ) {w : Lefts} → x < length s → x < 128 → FirstRow rows x w.row → w.rows.now ≡ rows → Walking rows (set s x 2) x w (set s x 2)
  walking_start s {w} l u e same = record {
    along = same;
    same = same-states-refl (set s x 2);
    was = get_or-set_same s x 2 0 l;
    walk = λ keys lk four t. record {
      along = along-start keys rows lk x w.row _ (omega arith) e;
      path = λ y h. h;
      placed = λ p g r. r;
    };
  }

  pub walking-step : {left : ℕ} {w w' : Lefts} {s s₁ s₂ : List ℕ} {r : Bool} → Walks w.rows.now w.row (Some left) w'.rows.now w'.row → r ≡ false
      → Walking rows s x w s₁ → Visited rows s₁ left r s₂ → Walking rows s x w' s₂
  walking-step {w} {w'} {s} {s₁} {s₂} d nay g k =
      let h = rw g.along at d.1 in
      let v = rw h.1.0 at k in record {
        along = d.0 ∙ g.along;
        same = same_then g.same v.same;
        was = g.was;
        walk = λ keys lk four t. let k = g.walk keys lk four t in
            let d = (v.told keys lk (g.same.four four) (walk-above keys rows s x w.row s₁ h.0 g.same g.was t k)).done nay in record {
              along = along-step keys rows lk x w.row w'.row (λ i. Present s (left_at rows i) → Is s₁ 3 (left_at rows i)) (λ i. Present s (left_at rows i) → Is s₂ 3 (left_at rows i)) h.0 h.2
                  (λ i f o. v.same.kept _ (f o)) (λ o. d.here (λ n. o (g.same.gone _ n))) k.along;
              path = λ y u. k.path y (d.path y u);
              placed = λ p q o. d.placed p (follows_on keys rows g.same p q) (k.placed p q o);
            };
      }

  pub walking-ring : {left : ℕ} {w : Lefts} (w' : Lefts) {s s₁ s₂ : List ℕ} {r : Bool} → x < length s → Is s 1 x → Walks w.rows.now w.row (Some left) w'.rows.now w'.row → r ≡ true
      → Walking rows (set s x 2) x w s₁ → Visited rows s₁ left r s₂ → Visited rows s x true s₂
  walking-ring {w} w' {s} {s₁} l o d yea g k =
      let h = rw g.along at d.1 in
      let v = rw h.1.0 at k in
      let a = same-go s x l o in
      let u = same_then a g.same in record {
        same = same_then u v.same;
        told = λ keys lk four t. let f = a.four four in
            let n = atop-start keys rows s x l o t in
            let k = g.walk keys lk f n in record {
              ring = λ z rank q. (v.told keys lk (g.same.four f) (walk-above keys rows (set s x 2) x w.row s₁ h.0 g.same g.was n k)).ring yea rank (rising-on keys rows u rank q);
              done = λ z. clash refl z;
            };
      }

  pub walking-end : {v : Lefts} {s s' : List ℕ} → x < length s → Is s 1 x → v.row ≡ 0
      → Walking rows (set s x 2) x v s' → Visited rows s x false (set s' x 3)
  walking-end {s} {s'} l o e w =
      let a = same-go s x l o in
      let l' : x < length s' = omega (arith, w.same.size, length-set s x 2) in record {
        same = same_then a (same_then w.same (same_set s' x 3 l' (λ z. omega (arith, w.same.gone x z, w.was)) (λ z. refl) (omega arith) (omega arith)));
        told = λ keys lk four t. let k = w.walk keys lk (a.four four) (atop-start keys rows s x l o t) in record {
          ring = λ z. clash z refl;
          done = λ z. record {
            path = λ y u. is-by y x (λ q. absurd (omega (arith, get_or-set_same s' x 3 0 l', rw q at u)))
                (λ q. rw (← get_or-set_other s x y 2 0 q) (k.path y (rw (get_or-set_other s' x y 3 0 q) at u)));
            here = λ u. get_or-set_same s' x 3 0 l';
            placed = λ p g q y u.
                let q' : (z : ℕ) → Is (set s x 2) 3 z → p z ≡ true = λ z h. is-by z x
                (λ r. absurd (omega (arith, get_or-set_same s x 2 0 l, rw r at h))) (λ r. q z (rw (get_or-set_other s x z 2 0 r) at h)) in
                is-by y x
                (λ r. rw r (g x (λ n. omega (arith, n, o))
                (λ i b d h. k.placed p (follows_on keys rows a p g) q' _ (k.along.passed i (omega arith) b d (λ n. h (a.gone _ n))))))
                (λ r. k.placed p (follows_on keys rows a p g) q' y (rw (get_or-set_other s' x y 3 0 r) at u));
          };
        };
      }

  -- fewer wait than at the start
  pub walking-less : (s : List ℕ) {v : Lefts} {s' : List ℕ} → x < length s → Is s 1 x → Walking rows (set s x 2) x v s' → unmarked s < unmarked s'
  walking-less s {s'} l o w =
      let a = same_then (same-go s x l o) w.same in
      unmarked-less s' s x a.size (omega (arith, a.size)) (λ e. omega (arith, w.same.wait x e, w.was)) o a.wait

-- what the loop over the new ones keeps: those below x are placed
pub record Searched (keys rows old s : List ℕ) (x : ℕ) (w : List ℕ) : Type 0 where
  pub path : (y : ℕ) → Is w 2 y → ⊥
  pub done : (y : ℕ) → y < x → Off old y → Present s y → Is w 3 y
  pub placed : (p : ℕ → Bool) → Follows keys rows s p → ((y : ℕ) → Is s 3 y → p y ≡ true) → (y : ℕ) → Is w 3 y → p y ≡ true

pub record Searching (rows old s : List ℕ) (x : ℕ) (w : List ℕ) : Type 0 where
  pub same : Same s w
  pub search : (keys : List ℕ) → LinkedByKey keys rows → ((y : ℕ) → get_or s y 0 ≤ 1) → Searched keys rows old s x w

module _ (rows old : List ℕ) where
  pub search-start : (s : List ℕ) → Searching rows old s 0 s
  search-start s = record {
    same = same-states-refl s;
    search = λ keys lk h. record { path = λ y e. omega (arith, h y, e); done = λ y l. absurd (omega arith); placed = λ p g q. q };
  }

  search-told : (s : List ℕ) (x : ℕ) (w w' : List ℕ) (r : Bool) → Searching rows old s x w → Visited rows w x r w'
      → (keys : List ℕ) → LinkedByKey keys rows → ((y : ℕ) → get_or s y 0 ≤ 1) → Told keys rows w x r w'
  search-told s x w w' r g v keys lk h =
      v.told keys lk (g.same.four (λ y. omega (arith, h y))) (λ k rank q y e. absurd ((g.search keys lk h).path y e))

  -- one that is old is passed over
  search-old : (s : List ℕ) (x : ℕ) (w : List ℕ) → On old x → Searching rows old s x w → Searching rows old s (x + 1) w
  search-old s x w o g = record {
    same = g.same;
    search = λ keys lk h. let k = g.search keys lk h in record {
      path = k.path;
      done = λ y l f. is-by y x (λ q. absurd (f (rw q o))) (λ q. k.done y (omega (arith, q)) f);
      placed = k.placed;
    };
  }

  search-new : (s : List ℕ) (x : ℕ) (w w' : List ℕ) (r : Bool) → r ≡ false → Searching rows old s x w → Visited rows w x r w'
      → Searching rows old s (x + 1) w'
  search-new s x w w' r nay g v = record {
    same = same_then g.same v.same;
    search = λ keys lk h. let k = g.search keys lk h in
        let d = (search-told s x w w' r g v keys lk h).done nay in record {
          path = λ y e. k.path y (d.path y e);
          done = λ y l f u. is-by y x (λ q. rw q (d.here (λ n. u (rw q (g.same.gone x n))))) (λ q. v.same.kept y (k.done y (omega (arith, q)) f u));
          placed = λ p f q. d.placed p (follows_on keys rows g.same p f) (k.placed p f q);
        };
  }

  pub search-step : (s : List ℕ) (x : ℕ) (w w' : List ℕ) (r : Bool) → r ≡ false → Searching rows old s x w → VisitedNew rows old w x r w'
      → Searching rows old s (x + 1) w'
  search-step s x w w' r nay g v = on-by old x (λ o. rw (v.was o).1 (search-old s x w o g)) (λ f. search-new s x w w' r nay g (v.new f))

  pub search-ring : (s : List ℕ) (x : ℕ) (w w' : List ℕ) (r : Bool) → r ≡ true → Searching rows old s x w → VisitedNew rows old w x r w'
      → (keys : List ℕ) → LinkedByKey keys rows → ((y : ℕ) → get_or s y 0 ≤ 1) → NoRank keys rows s
  search-ring s x w w' r yea g v keys lk h rank k =
      on-by old x (λ o. clash yea (v.was o).0) (λ f. (search-told s x w w' r g (v.new f) keys lk h).ring yea rank (rising-on keys rows g.same rank k))
