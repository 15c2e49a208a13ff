-- Costs are made less along the links to one level: one link, the rows of a right edit, and all rows. Assumes nothing.
use mathlib.Core.Path.{◌≡◌, refl, sym, ◌∙◌}
use mathlib.Core.Logic.{◌⊎◌, inl, inr, ⊎_elim}
use mathlib.Core.List.{List}
use Prim.Native.Nat.{ℕ, suc, ◌+◌, ◌-◌, ◌≤◌, ◌<◌}
use native.Mathlib.Omega.{arith}
use native.Mathlib.Numerals.{add-one}
use lib.Dec.{eqb}
use lib.ListN.{length, get_or, set}
use lib.Seq.{get_or-set_same, get_or-set_other, set-get_or}
use borrow.Author.Tests.{eqb-true, eq-eqb}
use Rattle.std.specs.Prelude.{min, Some}
use Rattle.std.proofs.Math.Nat.{min-eq_left, min-eq_right, le_of_lt}
use Rattle.std.proofs.lemmas.List.{get_or_past}
use Rattle.lists.proofs.Lists.{by, clash, is-by, le-by}
use Rattle.graph.specs.declared.links.Lefts.{Lefts}
use Rattle.graph.specs.links.Links.{left_at, FirstRow, Walks, LinkedByKey, NoRow, SomeRow}
use Rattle.graph.specs.links.Reach.{On}
use Rattle.graph.proofs.links.Links.{Looking, looking-start, looking-step}
use Rattle.reasons_costs.specs.declared.Relation.{Relation}
use Rattle.reasons_costs.specs.declared.Span.{Span}
use Rattle.reasons_costs.specs.Levels.{LinkTo, LinkFrom, LinkAt, LinkBelow, limited, Improves, unchanged, improved, KeptOrNext, Relaxed, Within}

-- what has a value above 0 is inside
pub get_or-inside : (l : List ℕ) (x : ℕ) → 0 < get_or l x 0 → x < length l
get_or-inside l x h = le-by (length l) x (λ k. absurd (omega (arith, get_or_past l x 0 k))) (λ k. k)

-- either the cost of x is now c, or nothing is new and it is no more than c where x is marked
limited-by {ℓ} : (P : List ℕ → Type ℓ) (marks costs : List ℕ) (c x : ℕ) → (On marks x → c < get_or costs x 0 → P (set costs x c))
    → ((On marks x → get_or costs x 0 ≤ c) → P costs) → P (limited marks costs c x)
unfolding limited
limited-by P marks costs c x f g =
    by (eqb (get_or marks x 0) 1)
    (λ e. le-by (get_or costs x 0) c
    (λ h. let same : set costs x (min (get_or costs x 0) c) ≡ costs = rw (min-eq_left h) (set-get_or costs x 0) in rw (e, same) (g (λ o. h)))
    (λ h. let less : min (get_or costs x 0) c ≡ c = min-eq_right (le_of_lt h) in rw (e, less) (f (eqb-true (get_or marks x 0) 1 e) h)))
    (λ e. rw e (g (λ o. clash (eq-eqb (get_or marks x 0) 1 o) e)))

-- what is kept or next stays so
kept-join : (level a b c : ℕ) → KeptOrNext level a b → KeptOrNext level b c → KeptOrNext level a c
kept-join level a b c p q =
    ⊎_elim (λ e. ⊎_elim (λ f. inl (f ∙ e)) (λ f. inr (omega (arith, f.0), f.1)) q)
    (λ e. ⊎_elim (λ f. inr (e.0, f ∙ e.1)) (λ f. absurd (omega (arith, f.0, e.1))) q) p

-- what costs the level or less is as it was
kept-low : (level a b : ℕ) → a ≤ suc level → KeptOrNext level a b → b ≡ a
kept-low level a b h = ⊎_elim (λ e. e) (λ e. absurd (omega (arith, e.0)))

module _ {P Q : ℕ → ℕ → Type 0} (f : (x y : ℕ) → P x y → Q x y) where
  improves-map : {a b : List ℕ} → Improves P a b → Improves Q a b
  improves-map unchanged = unchanged
  improves-map (improved p x y l h) = improved (improves-map p) x y (f x y l) h

pub improves-join : {Link : ℕ → ℕ → Type 0} {a b c : List ℕ} → Improves Link a b → Improves Link b c → Improves Link a c
improves-join p unchanged = p
improves-join p (improved q x y l h) = improved (improves-join p q) x y l h

module _ {level : ℕ} where
  -- no link to the level improves a cost
  relaxed-none : {Link : ℕ → ℕ → Type 0} (costs : List ℕ) → ((x y : ℕ) → Link x y → get_or costs y 0 ≡ level → get_or costs x 0 ≤ suc level)
      → Relaxed Link level costs costs
  relaxed-none costs h = record { steps = unchanged; each = λ x. inl refl; done = h }

  -- some links after others
  relaxed-join : {P Q S : ℕ → ℕ → Type 0} {a b c : List ℕ} → ((x y : ℕ) → P x y → S x y) → ((x y : ℕ) → Q x y → S x y)
      → ((x y : ℕ) → S x y → P x y ⊎ Q x y) → Relaxed P level a b → Relaxed Q level b c → Relaxed S level a c
  relaxed-join {a} {b} {c} f g h p q = record {
    steps = improves-join (improves-map f p.steps) (improves-map g q.steps);
    each = λ x. kept-join level _ _ _ (p.each x) (q.each x);
    done = λ x y s e.
        ⊎_elim
        (λ l. ⊎_elim (λ k. omega (arith, k, p.done x y l e)) (λ k. omega (arith, k.1)) (q.each x))
        (λ l. q.done x y l (kept-low level _ _ (omega arith) (p.each y) ∙ e)) (h x y s);
  }

module _ (level : ℕ) (marks costs : List ℕ) (x : ℕ) where
  limited-steps : {Link : ℕ → ℕ → Type 0} (y : ℕ) → (On marks x → Link x y) → get_or costs y 0 ≡ level
      → Improves Link costs (limited marks costs (level + 1) x)
  limited-steps {Link} y l e =
      let next : level + 1 ≡ suc (get_or costs y 0) = omega (arith, e) in
      limited-by (Improves Link costs) marks costs (level + 1) x
      (λ o h. rw next (improved unchanged x y (l o) (rw (← next) h)))
      (λ h. unchanged)

  limited-each : (z : ℕ) → KeptOrNext level (get_or costs z 0) (get_or (limited marks costs (level + 1) x) z 0)
  limited-each z =
      limited-by (λ l. KeptOrNext level (get_or costs z 0) (get_or l z 0)) marks costs (level + 1) x
      (λ o h. is-by z x
      (λ e. rw e (inr (omega arith, get_or-set_same costs x (level + 1) 0 (get_or-inside costs x (omega arith)) ∙ add-one level)))
      (λ e. inl (get_or-set_other costs x z (level + 1) 0 e)))
      (λ h. inl refl)

  limited-done : On marks x → get_or (limited marks costs (level + 1) x) x 0 ≤ suc level
  limited-done o =
      limited-by (λ l. get_or l x 0 ≤ suc level) marks costs (level + 1) x
      (λ o h. omega (arith, get_or-set_same costs x (level + 1) 0 (get_or-inside costs x (omega arith))))
      (λ h. omega (arith, h o))

-- a walk along the rows of b, which is at the level: those from w on are done, from costs to after
pub record Relaxing (base : ℕ) (rows marks : List ℕ) (level b : ℕ) (costs : List ℕ) (w : Lefts) (after : List ℕ) : Type 0 where
  pub same : w.rows.now ≡ rows
  pub here : get_or after b 0 ≡ level
  pub steps : (keys : List ℕ) → LinkedByKey keys rows → Improves (LinkTo base keys rows marks b) costs after
  pub each : (x : ℕ) → KeptOrNext level (get_or costs x 0) (get_or after x 0)
  pub along : Looking rows (base + b) (λ i. On marks (left_at rows i) → get_or after (left_at rows i) 0 ≤ suc level) w.row

module _ {base : ℕ} {rows marks : List ℕ} {level b : ℕ} {costs : List ℕ} where
  pub relaxing-start : {w : Lefts} → base + b < 384 → get_or costs b 0 ≡ level → FirstRow rows (base + b) w.row → w.rows.now ≡ rows
      → Relaxing base rows marks level b costs w costs
  relaxing-start {w} l h e same = record {
    same = same;
    here = h;
    steps = λ keys g. unchanged;
    each = λ x. inl refl;
    along = looking-start rows (base + b) _ w.row l e;
  }

  pub relaxing-step : {left : ℕ} {w w' : Lefts} {m : List ℕ} → Walks w.rows.now w.row (Some left) w'.rows.now w'.row → Relaxing base rows marks level b costs w m
      → Relaxing base rows marks level b costs w' (limited marks m (level + 1) left)
  relaxing-step {left} {w} {w'} {m} d r =
      let h = rw r.same at d.1 in
      let e : left ≡ left_at rows (w.row - 1) = h.1.0 in
      let each = limited-each level marks m left in record {
        same = d.0 ∙ r.same;
        here = kept-low level _ _ (omega (arith, r.here)) (each b) ∙ r.here;
        steps = λ keys g. let a = r.along keys g in
            improves-join (r.steps keys g)
            (limited-steps level marks m left b
            (λ o. record { row = record { row = w.row - 1; low = omega (arith, a.low, h.0); key = a.hit h.0; holds = sym e }; to = refl; marked = o }) r.here);
        each = λ x. kept-join level _ _ _ (r.each x) (each x);
        along = looking-step rows (base + b) (λ i. On marks (left_at rows i) → get_or m (left_at rows i) 0 ≤ suc level)
            (λ i. On marks (left_at rows i) → get_or (limited marks m (level + 1) left) (left_at rows i) 0 ≤ suc level) w.row w'.row h.0 h.2
            (λ i f o. ⊎_elim (λ k. omega (arith, k, f o)) (λ k. omega (arith, k.1)) (each (left_at rows i)))
            (rw (← e) (limited-done level marks m left)) r.along;
      }

  pub relaxing-end : {w : Lefts} {after : List ℕ} → w.row ≡ 0 → Relaxing base rows marks level b costs w after
      → (keys : List ℕ) → LinkedByKey keys rows → Relaxed (LinkTo base keys rows marks b) level costs after
  relaxing-end {w} {after} e r keys g = record {
    steps = r.steps keys g;
    each = r.each;
    done = λ x y l k. let p = l.row in
        rw (← p.holds) ((r.along keys g).passed p.row (omega (arith, e)) p.low p.key (rw p.holds l.marked));
  }

  -- b is not at the level
  pub relaxed-off : (get_or costs b 0 ≡ level → ⊥) → (keys : List ℕ) → LinkedByKey keys rows → Relaxed (LinkTo base keys rows marks b) level costs costs
  relaxed-off h keys g = relaxed-none costs (λ x y l e. absurd (h (rw l.to at e)))

  -- b leads to the level, or it does not
  pub relaxed-from : SomeRow rows (base + b) (λ y. get_or costs y 0 ≡ level)
      → (keys : List ℕ) → LinkedByKey keys rows → Relaxed (LinkFrom base keys rows marks b) level costs (limited marks costs (level + 1) b)
  relaxed-from s keys g =
      let r = s keys g in record {
        steps = limited-steps level marks costs b (left_at rows r.row)
            (λ o. record { row = record { row = r.row; low = r.low; key = r.key; holds = refl }; from = refl; marked = o }) r.holds;
        each = limited-each level marks costs b;
        done = λ x y l k. rw l.from (limited-done level marks costs b (rw l.from at l.marked));
      }

  pub relaxed-none-from : NoRow rows (base + b) (λ y. get_or costs y 0 ≡ level)
      → (keys : List ℕ) → LinkedByKey keys rows → Relaxed (LinkFrom base keys rows marks b) level costs costs
  relaxed-none-from n keys g = relaxed-none costs (λ x y l e. let r = l.row in absurd (n keys g r.row r.low r.key (rw r.holds e)))

-- the rows of the right edits below b are done, one after the other
module _ {relation : Relation} {keys rows marks costs : List ℕ} {level : ℕ} where
  -- only those of the right edits in the span lead to the level
  module _ {n : ℕ} {rights : Span} (f : (x y : ℕ) (l : LinkBelow relation n keys rows marks x y) → get_or costs y 0 ≡ level → Within rights l.right) where
    pub level-start : rights.low ≤ n → Relaxed (LinkBelow relation rights.low keys rows marks) level costs costs
    level-start h = relaxed-none costs (λ x y l e.
        let low : l.right < n = omega (arith, l.low, h) in
        let d = f x y (record { right = l.right; low = low; link = l.link }) e in
        absurd (omega (arith, d.0, l.low)))

    pub level-end : {after : List ℕ} → rights.high ≤ n → Relaxed (LinkBelow relation rights.high keys rows marks) level costs after
        → Relaxed (LinkBelow relation n keys rows marks) level costs after
    level-end h r = record {
      steps = improves-map (λ x y l. record { right = l.right; low = omega (arith, l.low, h); link = l.link }) r.steps;
      each = r.each;
      done = λ x y l e. r.done x y (record { right = l.right; low = (f x y l e).1; link = l.link }) e;
    }

  pub level-step : {b : ℕ} {m after : List ℕ} → Relaxed (LinkBelow relation b keys rows marks) level costs m
      → Relaxed (LinkAt relation keys rows marks b) level m after → Relaxed (LinkBelow relation (b + 1) keys rows marks) level costs after
  level-step {b} =
      relaxed-join
      (λ x y l. record { right = l.right; low = omega (arith, l.low); link = l.link })
      (λ x y l. record { right = b; low = omega arith; link = l })
      (λ x y l. is-by l.right b (λ e. inr (rw e at l.link)) (λ e. inl (record { right = l.right; low = omega (arith, e, l.low); link = l.link })))
