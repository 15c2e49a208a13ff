-- The reversed graph: what the loops that note its rows keep, and that each row of notafter stands in it. Assumes nothing.
use mathlib.Core.Path.{◌≡◌, refl, ap, ◌∙◌}
use mathlib.Core.List.{List, map}
use Prim.Native.Nat.{ℕ, max, ◌+◌, ◌-◌, ◌≤◌, ◌<◌}
use native.Mathlib.Omega.{arith}
use lib.ListN.{length, get_or, take, set, replicate, length-set, length-map}
use lib.Seq.{get_or-set_same, get_or-set_other, get_or-take, length-take-le}
use Rattle.lists.proofs.Lists.{is-by, le-by, mem_index, get_or-mapped}
use Rattle.lists.specs.Lists.{index_of}
use Rattle.record.specs.Record.{Record, names, notafter}
use Rattle.graph.specs.declared.reversed_row.ReversedRow.{ReversedRow}
use Rattle.graph.specs.links.Links.{head_at, FirstRow, NextRow, LeftEnd, LinkedByKey, Leads}
use Rattle.graph.specs.links.Reversed.{Reversed, Noted, Noting, LinksReversed}
use Rattle.graph.proofs.links.Links.{along-start, Looking, looking-start, looking-step}

-- the walk along the rows to b stands at row j
pub record Noter (rows : List ℕ) (b : ℕ) (reversed : List ReversedRow) (j : ℕ) (reversed' : List ReversedRow) : Type 0 where
  pub size : length reversed' ≡ length reversed
  pub along : Looking rows b (λ i. Noted rows reversed' i b) j
  pub kept : (keys : List ℕ) → LinkedByKey keys rows → (i y : ℕ) → i < length keys → (get_or keys i 0 ≡ b → ⊥) → Noted rows reversed i y → Noted rows reversed' i y

module _ (rows : List ℕ) (b : ℕ) (l : b < 128) (reversed : List ReversedRow) where
  pub noter-start : (j : ℕ) → FirstRow rows b j → Noter rows b reversed j reversed
  noter-start j e = record { size = refl; along = looking-start rows b (λ i. Noted rows reversed i b) j (omega arith) e; kept = λ keys g i y u n w. w }

  noted_other : (t : List ReversedRow) (i j y : ℕ) (v : ReversedRow) → (i ≡ j → ⊥) → Noted rows t i y → Noted rows (set t j v) i y
  noted_other t i j y v n w d = rw (get_or-set_other t j i v d n) (w d)

  pub noter-step : (t : List ReversedRow) (j j' left : ℕ) (v : ReversedRow) → length reversed ≡ 1024 → 0 < j → j ≤ 1024 → NextRow rows j j' → LeftEnd rows j left → v.from ≡ left → v.to ≡ b
      → Noter rows b reversed j t → Noter rows b reversed j' (set t (j - 1) v)
  noter-step t j j' left v a h k e q m n w =
      let u : j - 1 < length t = omega (arith, w.size) in
      let same : Noted rows (set t (j - 1) v) (j - 1) b = λ d. rw (get_or-set_same t (j - 1) v d u) (m ∙ q.0, n) in record {
        size = length-set t (j - 1) v ∙ w.size;
        along = looking-step rows b (λ i. Noted rows t i b) (λ i. Noted rows (set t (j - 1) v) i b) j j' h e
            (λ i p. is-by i (j - 1) (λ z. rw z same) (λ z. noted_other t i (j - 1) b v z p)) same w.along;
        kept = λ keys g i y o z p. noted_other t i (j - 1) y v (λ r. z (rw r ((w.along keys g).hit h))) (w.kept keys g i y o z p);
      }

  pub noter-end : (t : List ReversedRow) (j : ℕ) → j ≡ 0 → Noter rows b reversed j t → Noting rows b reversed t
  noter-end t j e w = record { size = w.size; noted = λ keys g i u q. (w.along keys g).passed i (omega arith) u q; kept = w.kept }

-- what the loop over the right edits keeps: the rows to those below b are noted, and lie among the first `count`
pub record Reversing (rows : List ℕ) (b count : ℕ) (reversed : List ReversedRow) : Type 0 where
  pub size : length reversed ≡ 1024
  pub few : count ≤ 1024
  pub below : (y : ℕ) → y < b → head_at rows y ≤ count
  pub noted : (keys : List ℕ) → LinkedByKey keys rows → (i : ℕ) → i < length keys → get_or keys i 0 < b → Noted rows reversed i (get_or keys i 0)

module _ (rows : List ℕ) where
  pub reversing-start : (v : ReversedRow) → Reversing rows 0 0 (replicate 1024 v)
  reversing-start v = record { size = refl; few = omega arith; below = λ y h. absurd (omega arith); noted = λ keys g i u h. absurd (omega arith) }

  pub reversing-step : (b head count count' : ℕ) (t t' : List ReversedRow) → FirstRow rows b head → count' ≡ max count head → Reversing rows b count t → Noting rows b t t' → Reversing rows (b + 1) count' t'
  reversing-step b head count count' t t' h e w n = record {
    size = n.size ∙ w.size;
    few = omega (arith, w.few, h.1);
    below = λ y k. is-by y b (λ q. rw q (omega (arith, h.0))) (λ q. omega (arith, q, w.below y (omega (arith, q))));
    noted = λ keys g i u k. is-by (get_or keys i 0) b (λ q. rw q (n.noted keys g i u q)) (λ q. n.kept keys g i (get_or keys i 0) u q (w.noted keys g i u (omega (arith, q))));
  }

  abbrev v : ReversedRow
  v = record { from = 0; to = 0; low = omega arith }

  -- each row of notafter stands among the first `count` rows
  pub reversing-end : (R : Record) (n count : ℕ) (t : List ReversedRow) (reversed : List ℕ) → Leads (notafter R) R 0 rows → n ≡ length (names R)
      → Reversing rows n count t → LinksReversed (take count t) reversed → Reversed R reversed
  reversing-end R n count t reversed g q w k =
      let size : length (take count t) ≡ count = length-take-le count t (omega (arith, w.few, w.size)) in record {
        keys = map (λ r. r.from) (take count t);
        linked = k.linked;
        row_of = λ a b h. let r = g.row_of a b h in
            let d = mem_index b (names R) r.right-known in
            let z : get_or g.keys r.row 0 ≡ index_of b (names R) = omega (arith, r.key) in
            let u = w.noted g.keys g.linked r.row r.low (omega arith) v in
            let f = w.below (index_of b (names R)) (omega arith) in
            let low : r.row < count = le-by (head_at rows (index_of b (names R))) r.row
            (λ p. absurd ((along-start g.keys rows g.linked (index_of b (names R)) (head_at rows (index_of b (names R))) (λ i. ⊥) (omega (arith, g.few)) (refl, omega (arith, w.few))).passed r.row p r.low z))
            (λ p. omega arith) in
            let taken = get_or-take count t r.row v low in
            let here : r.row < length (take count t) = omega (arith, size) in
            record {
              row = r.row;
              low = omega (arith, length-map (take count t) (λ (s : ReversedRow). s.from), here);
              left-known = r.right-known;
              right-known = r.left-known;
              left = k.lefts r.row v here ∙ ap (λ s. s.to) taken ∙ u.1 ∙ z;
              key = omega (arith, get_or-mapped (λ (s : ReversedRow). s.from) (take count t) r.row v 0 here, ap (λ s. s.from) taken, u.0, r.left);
            };
      }
