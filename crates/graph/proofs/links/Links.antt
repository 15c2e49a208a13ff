-- Laws of linked rows: steps along the links, and how one more row is linked. Assumes nothing.
use mathlib.Core.Path.{◌≡◌, refl, sym, ap, ◌∙◌}
use mathlib.Core.Bool.{Bool, true, false}
use mathlib.Core.List.{List}
use Prim.Native.Nat.{ℕ, zero, suc, ◌+◌, ◌-◌, ◌≤◌, ◌<◌}
use native.Mathlib.Omega.{arith}
use native.Mathlib.Numerals.{add-one}
use lib.Dec.{eqb}
use lib.ListN.{length, get_or, set, replicate, length-set}
use lib.Seq.{get_or-set_same, get_or-set_other}
use borrow.Author.Tests.{eqb-true, eqb-false, eq-eqb, ne_eqb}
use Rattle.lists.proofs.Lists.{by, is-by, le-by}
use Rattle.record.specs.Record.{Record, names}
use Rattle.graph.specs.links.Marks.{name_at}
use Rattle.graph.specs.links.Links.{last_row, head_at, link_at, left_at, with_row, Safe, Growing, FirstRow, NextRow, LinkedByKey, NoRow, SomeRow, Leads}
use Rattle.graph.proofs.links.Names.{place-get_or}
use Rattle.lists.proofs.Arrays.{get_or-zeros}

module _ (keys : List ℕ) (k : ℕ) where
  last-le : (p : ℕ) → last_row keys k p ≤ p
  unfolding last_row
  last-le zero = omega arith
  last-le (suc p) = by (eqb (get_or keys p 0) k) (λ e. rw e (omega arith)) (λ e. rw e (omega (arith, last-le p)))

  -- a row that is reached has the key
  last-hit : (p : ℕ) → 0 < last_row keys k p → get_or keys (last_row keys k p - 1) 0 ≡ k
  unfolding last_row
  last-hit zero h = absurd (omega arith)
  last-hit (suc p) h =
      by (eqb (get_or keys p 0) k)
      (λ e. let q : suc p - 1 ≡ p = omega arith in rw (e, q) (eqb-true (get_or keys p 0) k e))
      (λ e. rw e (last-hit p (rw e at h)))

  -- a row that is passed over has not
  last-skip : (p i : ℕ) → last_row keys k p ≤ i → i < p → get_or keys i 0 ≡ k → ⊥
  unfolding last_row
  last-skip zero i a b e = omega arith
  last-skip (suc p) i a b e =
      by (eqb (get_or keys p 0) k)
      (λ q. let z = rw q at a in omega arith)
      (λ q. is-by i p (λ r. eqb-false (get_or keys p 0) k q (rw (← r) e)) (λ r. last-skip p i (rw q at a) (omega (arith, r)) e))

  last-same : (p : ℕ) → get_or keys p 0 ≡ k → last_row keys k (suc p) ≡ suc p
  unfolding last_row
  last-same p e = rw (eq-eqb (get_or keys p 0) k e)

  last-other : (p : ℕ) → (get_or keys p 0 ≡ k → ⊥) → last_row keys k (suc p) ≡ last_row keys k p
  unfolding last_row
  last-other p e = rw (ne_eqb (get_or keys p 0) k e)

-- a walk along the rows of the key k stands at row j: those from j on are passed, and P holds of them
pub record Along (keys : List ℕ) (k j : ℕ) (P : ℕ → Type 0) : Type 0 where
  pub low : j ≤ length keys
  pub hit : 0 < j → get_or keys (j - 1) 0 ≡ k
  pub passed : (i : ℕ) → j ≤ i → i < length keys → get_or keys i 0 ≡ k → P i

module _ (keys rows : List ℕ) (g : LinkedByKey keys rows) (k : ℕ) where
  pub along-start : (j : ℕ) (P : ℕ → Type 0) → k < 384 → FirstRow rows k j → Along keys k j P
  along-start j P b e =
      let q : j ≡ last_row keys k (length keys) = e.0 ∙ g.head k b in record {
        low = rw q (last-le keys k (length keys));
        hit = λ h. rw q (last-hit keys k (length keys) (rw q at h));
        passed = λ i l h r. absurd (last-skip keys k (length keys) i (rw q at l) h r);
      }

  pub along-step : (j j' : ℕ) (P Q : ℕ → Type 0) → 0 < j → NextRow rows j j' → ((i : ℕ) → P i → Q i) → Q (j - 1) → Along keys k j P → Along keys k j' Q
  along-step j j' P Q h e f here w =
      let z : j - 1 < length keys = omega (arith, w.low) in
      let q : j' ≡ last_row keys k (j - 1) = rw (w.hit h) at (e.0 ∙ g.link (j - 1) z) in record {
        low = omega (arith, last-le keys k (j - 1));
        hit = λ u. rw q (last-hit keys k (j - 1) (rw q at u));
        passed = λ i l u r. is-by i (j - 1) (λ s. rw s here)
            (λ s. le-by j i (λ d. f i (w.passed i d u r)) (λ d. absurd (last-skip keys k (j - 1) i (rw q at l) (omega (arith, s)) r)));
      }

-- the same whatever the keys are
abbrev pub Looking : List ℕ → ℕ → (ℕ → Type 0) → ℕ → Type 0
Looking rows k P j = (keys : List ℕ) → LinkedByKey keys rows → Along keys k j P

module _ (rows : List ℕ) (k : ℕ) where
  pub looking-start : (P : ℕ → Type 0) (j : ℕ) → k < 384 → FirstRow rows k j → Looking rows k P j
  looking-start P j b e keys g = along-start keys rows g k j P b e

  -- one step of a walk: what held of the rows that are passed holds still, and now of row j too
  pub looking-step : (P Q : ℕ → Type 0) (j j' : ℕ) → 0 < j → NextRow rows j j' → ((i : ℕ) → P i → Q i) → Q (j - 1) → Looking rows k P j → Looking rows k Q j'
  looking-step P Q j j' h e f here w keys g = along-step keys rows g k j j' P Q h e f here (w keys g)

  -- the ends of a search for a left of which P holds
  pub some-row : (P : ℕ → Type 0) (j : ℕ) → 0 < j → P (left_at rows (j - 1)) → Looking rows k (λ i. P (left_at rows i) → ⊥) j → SomeRow rows k P
  some-row P j h p w keys g = let a = w keys g in record { row = j - 1; low = omega (arith, a.low); key = a.hit h; holds = p }

  pub no_row : (P : ℕ → Type 0) (j : ℕ) → j ≡ 0 → Looking rows k (λ i. P (left_at rows i) → ⊥) j → NoRow rows k P
  no_row P j e w keys g i l q = (w keys g).passed i (omega arith) l q

module _ (leads : ℕ → ℕ → Bool) (R : Record) (base : ℕ) (rows : List ℕ) (g : Leads leads R base rows) (a b : ℕ) (l : a < length (names R)) (m : b < length (names R)) where
  leads-found : SomeRow rows (base + b) (λ y. y ≡ a) → true ≡ leads (name_at R a) (name_at R b)
  leads-found w = let r = w g.keys g.linked in sym (rw (← r.holds) (g.holds r.row b r.low m r.key))

  leads-none : NoRow rows (base + b) (λ y. y ≡ a) → false ≡ leads (name_at R a) (name_at R b)
  leads-none w =
      sym (by (leads (name_at R a) (name_at R b))
      (λ e. let r = g.row_of (name_at R a) (name_at R b) e in
      absurd (w g.keys g.linked r.row r.low (r.key ∙ ap (λ y. base + y) (place-get_or (names R) b g.apart m)) (r.left ∙ place-get_or (names R) a g.apart l)))
      (λ e. e))

  pub leads-told : (r : Bool) → (r ≡ true → SomeRow rows (base + b) (λ y. y ≡ a)) × (r ≡ false → NoRow rows (base + b) (λ y. y ≡ a)) → r ≡ leads (name_at R a) (name_at R b)
  leads-told true w = leads-found (w.0 refl)
  leads-told false w = leads-none (w.1 refl)

-- what the array is once row j is linked: the head of its key, its link and its left end are new
abbrev link_set : List ℕ → ℕ → ℕ → List ℕ
link_set rows j key = set rows (384 + j) (head_at rows key)

abbrev head_set : List ℕ → ℕ → ℕ → List ℕ
head_set rows j key = set (link_set rows j key) key (j + 1)

pub with-row-size : (rows : List ℕ) (j key v : ℕ) → length (with_row rows j key v) ≡ length rows
unfolding with_row
with-row-size rows j key v = length-set (head_set rows j key) (1408 + j) v ∙ length-set (link_set rows j key) key (j + 1) ∙ length-set rows (384 + j) (head_at rows key)

module _ (rows : List ℕ) (j key v : ℕ) (size : length rows ≡ 2432) (l : j < 1024) (u : key < 384) where
  other : (y : ℕ) → (y ≡ 384 + j → ⊥) → (y ≡ key → ⊥) → (y ≡ 1408 + j → ⊥) → get_or (with_row rows j key v) y 0 ≡ get_or rows y 0
  unfolding with_row
  other y a b c = get_or-set_other (head_set rows j key) (1408 + j) y v 0 c ∙ get_or-set_other (link_set rows j key) key y (j + 1) 0 b ∙ get_or-set_other rows (384 + j) y (head_at rows key) 0 a

  head-same : head_at (with_row rows j key v) key ≡ j + 1
  unfolding head_at with_row
  head-same =
      get_or-set_other (head_set rows j key) (1408 + j) key v 0 (λ z. omega arith)
      ∙ get_or-set_same (link_set rows j key) key (j + 1) 0 (omega (arith, length-set rows (384 + j) (head_at rows key)))

  head-other : (k : ℕ) → k < 384 → (k ≡ key → ⊥) → head_at (with_row rows j key v) k ≡ head_at rows k
  unfolding head_at
  head-other k h n = other k (λ z. omega arith) n (λ z. omega arith)

  link-same : link_at (with_row rows j key v) j ≡ head_at rows key
  unfolding link_at with_row
  link-same =
      get_or-set_other (head_set rows j key) (1408 + j) (384 + j) v 0 (λ z. omega arith)
      ∙ get_or-set_other (link_set rows j key) key (384 + j) (j + 1) 0 (λ z. omega arith)
      ∙ get_or-set_same rows (384 + j) (head_at rows key) 0 (omega arith)

  link-other : (i : ℕ) → i < 1024 → (i ≡ j → ⊥) → link_at (with_row rows j key v) i ≡ link_at rows i
  unfolding link_at
  link-other i h n = other (384 + i) (λ z. n (omega arith)) (λ z. omega arith) (λ z. omega arith)

  left-same : left_at (with_row rows j key v) j ≡ v
  unfolding left_at with_row
  left-same = get_or-set_same (head_set rows j key) (1408 + j) v 0 (omega (arith, length-set (link_set rows j key) key (j + 1), length-set rows (384 + j) (head_at rows key)))

  left_other : (i : ℕ) → (i ≡ j → ⊥) → left_at (with_row rows j key v) i ≡ left_at rows i
  unfolding left_at
  left_other i n = other (1408 + i) (λ z. omega arith) (λ z. omega arith) (λ z. n (omega arith))

-- the rows below j have these keys and left ends, and are linked
pub record Linking (keys lefts rows : List ℕ) (j : ℕ) : Type 0 where
  pub head : (k : ℕ) → k < 384 → head_at rows k ≡ last_row keys k j
  pub link : (i : ℕ) → i < j → link_at rows i ≡ last_row keys (get_or keys i 0) i
  pub left : (i : ℕ) → i < j → left_at rows i ≡ get_or lefts i 0

pub linking-start : (keys lefts : List ℕ) → Linking keys lefts (replicate 2432 0) 0
unfolding last_row head_at
linking-start keys lefts = record { head = λ k l. get_or-zeros 2432 k; link = λ i l. absurd (omega arith); left = λ i l. absurd (omega arith) }

pub linking-step : (keys lefts rows : List ℕ) (j key v : ℕ) → length rows ≡ 2432 → j < 1024 → key < 384 → get_or keys j 0 ≡ key → get_or lefts j 0 ≡ v
    → Linking keys lefts rows j → Linking keys lefts (with_row rows j key v) (j + 1)
linking-step keys lefts rows j key v size l u e q g = record {
  head = λ k h. is-by k key
      (λ z. rw (z, head-same rows j key v size l u, add-one j) (sym (last-same keys key j e)))
      (λ z. rw (head-other rows j key v size l u k h z, add-one j) (g.head k h ∙ sym (last-other keys k j (λ y. z (sym y ∙ e)))));
  link = λ i h. is-by i j
      (λ z. rw (z, link-same rows j key v size l u, e) (g.head key u))
      (λ z. rw (link-other rows j key v size l u i (omega arith) z) (g.link i (omega (arith, z))));
  left = λ i h. is-by i j
      (λ z. rw z (left-same rows j key v size l u ∙ sym q))
      (λ z. rw (left_other rows j key v size l u i z) (g.left i (omega (arith, z))));
}

pub linking-end : (keys lefts rows : List ℕ) (j : ℕ) → j ≡ length keys → Linking keys lefts rows j → LinkedByKey keys rows
linking-end keys lefts rows j e g = record { head = λ k h. g.head k h ∙ ap (last_row keys k) e; link = λ i h. g.link i (omega arith) }

pub growing-start : Growing (replicate 2432 0) 0
unfolding head_at link_at left_at
growing-start = record {
  size = refl;
  head = λ k h. omega (arith, get_or-zeros 2432 k);
  link = λ i h. omega (arith, get_or-zeros 2432 (384 + i));
  left = λ i h. omega (arith, get_or-zeros 2432 (1408 + i));
}

pub growing-step : (rows : List ℕ) (j key v : ℕ) → j < 1024 → key < 384 → v < 128 → Growing rows j → Growing (with_row rows j key v) (j + 1)
growing-step rows j key v l u w g = record {
  size = with-row-size rows j key v ∙ g.size;
  head = λ k h. is-by k key (λ q. rw (q, head-same rows j key v g.size l u) (omega arith)) (λ q. rw (head-other rows j key v g.size l u k h q) (omega (arith, g.head k h)));
  link = λ i h. is-by i j (λ q. rw (q, link-same rows j key v g.size l u) (g.head key u)) (λ q. rw (link-other rows j key v g.size l u i h q) (g.link i h));
  left = λ i h. is-by i j (λ q. rw (q, left-same rows j key v g.size l u) w) (λ q. rw (left_other rows j key v g.size l u i q) (g.left i h));
}

pub growing-safe : (rows : List ℕ) (j : ℕ) → j ≤ 1024 → Growing rows j → Safe rows
growing-safe rows j h g = record { head = λ k l. omega (arith, g.head k l); link = g.link; left = g.left }
