-- The marks of the edits that are not serialised: what the walk along the pairs of one right edit keeps, and the loop over all right edits. Assumes nothing.
use mathlib.Core.Path.{◌≡◌, ap, ◌∙◌}
use mathlib.Core.Bool.{true, false, not, cond}
use mathlib.Core.Logic.{◌⊎◌, inl, inr, ⊎_elim}
use mathlib.Core.List.{List}
use Prim.Native.Nat.{ℕ, ◌+◌, ◌-◌, ◌≤◌, ◌<◌}
use native.Mathlib.Omega.{arith}
use lib.ListN.{length, get_or, set, replicate, length-set}
use lib.Seq.{get_or-set_same, get_or-set_other}
use borrow.Author.Tests.{not-true}
use Rattle.std.specs.Prelude.{Some}
use Rattle.lists.specs.Lists.{index_of}
use Rattle.record.specs.Record.{Record, names, has}
use Rattle.record.specs.Judgement.{never, ordered, serialised}
use Rattle.lists.proofs.Lists.{by, clash, is-by, mem_index}
use Rattle.graph.specs.links.Marks.{name_at, marks_of}
use Rattle.graph.specs.declared.links.Lefts.{Lefts}
use Rattle.graph.specs.links.Links.{left_at, FirstRow, NextRow, Walks}
use Rattle.graph.specs.links.Reach.{On}
use Rattle.graph.proofs.links.Names.{get_or-place, place-get_or}
use Rattle.graph.proofs.links.Marks.{marks-are}
use Rattle.graph.proofs.links.Links.{Along, along-start, along-step}
use Rattle.graph.proofs.links.Reach.{on-set}
use Rattle.graph.specs.links.Resolved.{Resolved}
use Rattle.judgement_marks.specs.Opened.{Opened}
use Rattle.judgement_marks.proofs.Pairs.{open-left, open-right, open-pair-by}
use Rattle.lists.proofs.Arrays.{get_or-zeros}

-- a mark after one more was set
set-by {ℓ} : {P : Type ℓ} (m : List ℕ) (x y : ℕ) → On (set m x 1) y → (y ≡ x → P) → (On m y → P) → P
set-by m x y o f k = is-by y x f (λ q. k (rw (get_or-set_other m x y 1 0 q) at o))

set-low : (m : List ℕ) (x : ℕ) → x < length m → ((y : ℕ) → get_or m y 0 ≤ 1) → (y : ℕ) → get_or (set m x 1) y 0 ≤ 1
set-low m x l h y = is-by y x (λ q. rw (q, get_or-set_same m x 1 0 l) (omega arith)) (λ q. rw (get_or-set_other m x y 1 0 q) (h y))

-- the walk along the pairs of b stands at row j, from the marks m
pub record Part (R : Record) (keys rows m : List ℕ) (b j : ℕ) (m' : List ℕ) : Type 0 where
  pub bits : ((y : ℕ) → get_or m y 0 ≤ 1) → (y : ℕ) → get_or m' y 0 ≤ 1
  pub kept : (y : ℕ) → On m y → On m' y
  pub sound : (y : ℕ) → On m' y → On m y ⊎ ((y < length (names R)) × (serialised R (name_at R y) ≡ false))
  pub along : Along keys (256 + b) j (λ i. ordered R (name_at R (left_at rows i)) (name_at R b) ≡ false → On m' (left_at rows i) × On m' b)

-- the same whatever the record is
pub record Opening (rows nevers m : List ℕ) (b : ℕ) (w : Lefts) (m' : List ℕ) : Type 0 where
  pub same : w.rows.now ≡ rows
  pub size : length m' ≡ 128
  pub part : (R : Record) (g : Resolved R rows) → b < length (names R) → nevers ≡ marks_of R (never R) → Part R g.pairs.keys rows m b w.row m'

module _ (rows : List ℕ) (R : Record) (g : Resolved R rows) (m : List ℕ) (b : ℕ) (l : b < length (names R)) (j j' : ℕ) (m₁ : List ℕ)
    (h : 0 < j) (e : NextRow rows j j') (k : Part R g.pairs.keys rows m b j m₁) where
  left-row : (left_at rows (j - 1) < length (names R)) × (has (name_at R (left_at rows (j - 1))) 2 (name_at R b) R.constraints ≡ true)
  left-row =
      let z : j - 1 < length g.pairs.keys = omega (arith, k.along.low) in
      (g.pairs.known (j - 1) b z l (k.along.hit h), g.pairs.holds (j - 1) b z l (k.along.hit h))

  part_same : ordered R (name_at R (left_at rows (j - 1))) (name_at R b) ≡ true → Part R g.pairs.keys rows m b j' m₁
  part_same o = record {
    bits = k.bits;
    kept = k.kept;
    sound = k.sound;
    along = along-step g.pairs.keys rows g.pairs.linked (256 + b) j j' _ _ h e (λ i f. f) (λ q. clash o q) k.along;
  }

  part-more : length m₁ ≡ 128 → ordered R (name_at R (left_at rows (j - 1))) (name_at R b) ≡ false
      → Part R g.pairs.keys rows m b j' (set (set m₁ (left_at rows (j - 1)) 1) b 1)
  part-more size o =
      let a = left_at rows (j - 1) in
      let la : left_at rows (j - 1) < length m₁ = omega (arith, left-row.0, g.pairs.few) in
      let lb : b < length (set m₁ (left_at rows (j - 1)) 1) = omega (arith, g.pairs.few, length-set m₁ (left_at rows (j - 1)) 1) in
      let keep : (y : ℕ) → On m₁ y → On (set (set m₁ (left_at rows (j - 1)) 1) b 1) y = λ y q. on-set (set m₁ a 1) b y lb (on-set m₁ a y la q) in record {
        bits = λ q. set-low (set m₁ a 1) b lb (set-low m₁ a la (k.bits q));
        kept = λ y q. keep y (k.kept y q);
        sound = λ y q. set-by (set m₁ a 1) b y q
            (λ z. inr (rw z (l, open-right R rows g (name_at R a) (name_at R b) left-row.1 o)))
            (λ q₁. set-by m₁ a y q₁ (λ z. inr (rw z (left-row.0, open-left R rows g (name_at R a) (name_at R b) left-row.1 o))) (k.sound y));
        along = along-step g.pairs.keys rows g.pairs.linked (256 + b) j j'
            (λ i. ordered R (name_at R (left_at rows i)) (name_at R b) ≡ false → On m₁ (left_at rows i) × On m₁ b)
            (λ i. ordered R (name_at R (left_at rows i)) (name_at R b) ≡ false → On (set (set m₁ (left_at rows (j - 1)) 1) b 1) (left_at rows i) × On (set (set m₁ (left_at rows (j - 1)) 1) b 1) b)
            h e (λ i f q. let r = f q in (keep _ r.0, keep b r.1))
            (λ q. (on-set (set m₁ a 1) b a lb (get_or-set_same m₁ a 1 0 la), get_or-set_same (set m₁ a 1) b 1 0 lb)) k.along;
      }

module _ {rows nevers m : List ℕ} {b : ℕ} where
  pub opening-start : {w : Lefts} → length m ≡ 128 → b < 128 → FirstRow rows (256 + b) w.row → w.rows.now ≡ rows → Opening rows nevers m b w m
  opening-start {w} size l e same = record {
    same = same;
    size = size;
    part = λ R g k n. record {
      bits = λ q. q;
      kept = λ y q. q;
      sound = λ y q. inl q;
      along = along-start g.pairs.keys rows g.pairs.linked (256 + b) w.row _ (omega arith) e;
    };
  }

  pub opening-step : {a : ℕ} {w w' : Lefts} {m₁ m₂ : List ℕ} → Walks w.rows.now w.row (Some a) w'.rows.now w'.row → length m₂ ≡ 128
      → ((R : Record) → Resolved R rows → a < length (names R) → b < length (names R) → nevers ≡ marks_of R (never R)
      → m₂ ≡ cond (ordered R (name_at R a) (name_at R b)) m₁ (set (set m₁ a 1) b 1))
      → Opening rows nevers m b w m₁ → Opening rows nevers m b w' m₂
  opening-step {w} {w'} {m₁} d size f o =
      let h = rw o.same at d.1 in
      let f = rw h.1.0 at f in record {
        same = d.0 ∙ o.same;
        size = size;
        part = λ R g l n. let k = o.part R g l n in
            let q = f R g (left-row rows R g m b l w.row w'.row m₁ h.0 h.2 k).0 l n in
            by (ordered R (name_at R (left_at rows (w.row - 1))) (name_at R b))
            (λ z. rw (q, z) (part_same rows R g m b l w.row w'.row m₁ h.0 h.2 k z))
            (λ z. rw (q, z) (part-more rows R g m b l w.row w'.row m₁ h.0 h.2 k o.size z));
      }

  pub opening-end : {w : Lefts} {m' : List ℕ} → w.row ≡ 0 → Opening rows nevers m b w m'
      → (R : Record) → Resolved R rows → b < length (names R) → nevers ≡ marks_of R (never R) → Opened R b m m'
  opening-end e o R g l n =
      let k = o.part R g l n in record {
        bits = k.bits;
        kept = k.kept;
        sound = k.sound;
        complete = λ a q o. let r = g.pairs.row_of a (name_at R b) q in
            let z = k.along.passed r.row (omega arith) r.low (r.key ∙ ap (λ y. 256 + y) (place-get_or (names R) b g.pairs.apart l))
            (rw (r.left, get_or-place a (names R) r.left-known) o) in
            (rw r.left at z.0, z.1);
      }

-- the pairs with right edits below b are done
pub record Openings (R : Record) (b : ℕ) (m : List ℕ) : Type 0 where
  pub bits : (y : ℕ) → get_or m y 0 ≤ 1
  pub sound : (y : ℕ) → On m y → (y < length (names R)) × (serialised R (name_at R y) ≡ false)
  pub complete : (x y : ℕ) → has x 2 y R.constraints ≡ true → ordered R x y ≡ false → index_of y (names R) < b → On m (index_of x (names R)) × On m (index_of y (names R))

pub openings-start : (R : Record) → Openings R 0 (replicate 128 0)
openings-start R = record {
  bits = λ y. omega (arith, get_or-zeros 128 y);
  sound = λ y o. absurd (omega (arith, get_or-zeros 128 y, o));
  complete = λ x y h o l. absurd (omega arith);
}

pub openings-step : (R : Record) (rows : List ℕ) → Resolved R rows → (b : ℕ) (m m' : List ℕ) → b < length (names R)
    → Opened R b m m' → Openings R b m → Openings R (b + 1) m'
openings-step R rows g b m m' l k w = record {
  bits = k.bits w.bits;
  sound = λ y o. ⊎_elim (w.sound y) (λ q. q) (k.sound y o);
  complete = λ x y h o u. is-by (index_of y (names R)) b
      (λ q. let e : name_at R b ≡ y = rw (← q) (get_or-place y (names R) (g.pairs.row_of x y h).right-known) in
      let z = k.complete x (rw e h) (rw e o) in (z.0, rw q z.1))
      (λ q. let z = w.complete x y h o (omega (arith, q)) in (k.kept _ z.0, k.kept _ z.1));
}

pub openings-end : (R : Record) (rows : List ℕ) → Resolved R rows → (b : ℕ) (m : List ℕ) → b ≡ length (names R) → length m ≡ 128
    → Openings R b m → m ≡ marks_of R (λ x. not (serialised R x))
openings-end R rows g b m e size w =
    marks-are R (λ x. not (serialised R x)) m g.pairs.few size w.bits
    (λ y o. let z = w.sound y o in (z.0, rw z.1))
    (λ y l s. open-pair-by R rows g (name_at R y) (not-true _ s)
    (λ b h o. rw (place-get_or (names R) y g.pairs.apart l) at (w.complete (name_at R y) b h o (omega (arith, mem_index b (names R) (g.pairs.row_of (name_at R y) b h).right-known))).0)
    (λ a h o. rw (place-get_or (names R) y g.pairs.apart l) at (w.complete a (name_at R y) h o (omega (arith, mem_index (name_at R y) (names R) (g.pairs.row_of a (name_at R y) h).right-known))).1))
