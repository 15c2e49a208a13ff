-- The chain of a least reason and its ring share only the name where they meet, and it has no more names than the record. Assumes nothing.
use mathlib.Core.Path.{◌≡◌, refl, sym, ap, ◌∙◌}
use mathlib.Core.Bool.{Bool, true, false, not}
use mathlib.Core.Logic.{◌⊎◌, inl, inr, ⊎_elim}
use mathlib.Core.List.{List, [], ◌∷◌, ◌++◌}
use Prim.Native.Nat.{ℕ, ◌+◌, ◌≤◌, ◌<◌}
use native.Mathlib.Omega.{arith}
use lib.ListN.{length, length-append}
use borrow.Author.Tests.{not-true}
use Rattle.lists.specs.Lists.{mem, distinct, ◌among◌, ◌within◌}
use Rattle.lists.proofs.Lists.{by, is-by, clash, and_l, and_r, or-by, mem-head, mem-tail, mem-append, cons-by, nil-no, cons-within, one-within, distinct-length}
use Rattle.record.specs.Record.{Record, names, written, WellFormed}
use Rattle.record.specs.Judgement.{sound}
use Rattle.record.proofs.Records.{right-known, init-known}
use Rattle.reasons.specs.Reasons.{WalkAlong, alone, onward, enabled_by, NeverReason, Reason, must_by, never_by, names_printed, Least}
use Rattle.reasons.proofs.Reasons.{walk-starts, walk-head, walk-snoc, walk-links, kinds-apart, least-apart}
use Rattle.reasons.proofs.Paths.{walk-within}
use Rattle.reasons.proofs.Given.{least-few}

-- the walk up to a name that is not its last
record WalkUntil (link : ℕ → ℕ → Bool) (x y : ℕ) (row : List ℕ) : Type 0 where
  until : List ℕ
  walk : WalkAlong link x y until
  fewer : length until < length row

-- the walk from a name that is not its first
record WalkAfter (link : ℕ → ℕ → Bool) (y z : ℕ) (row : List ℕ) : Type 0 where
  after : List ℕ
  walk : WalkAlong link y z after
  fewer : length after < length row

-- a walk from x whose last is linked to x, of as many names as a row, and only its names
record WalkBack (link : ℕ → ℕ → Bool) (x : ℕ) (row : List ℕ) : Type 0 where
  last : ℕ
  ring : List ℕ
  walk : WalkAlong link x last ring
  closed : link last x ≡ true
  members : ring within row
  many : length ring ≡ length row

-- Walks: parts of one, and a closed one written from another of its names.
module _ {link : ℕ → ℕ → Bool} where
  walk-until : {x z : ℕ} {row : List ℕ} → WalkAlong link x z row → (y : ℕ) → y among row → (y ≡ z → ⊥) → WalkUntil link x y row
  walk-until (alone {x}) y i n = cons-by y x [] i (λ q. absurd (n q)) (nil-no y)
  walk-until (onward {x} {row} l w) y i n =
      cons-by y x row i
      (λ (q : y ≡ x). rw q (record { until = x ∷ []; walk = alone; fewer = omega (arith, walk-links w) }))
      (λ j. let p = walk-until w y j n in record { until = x ∷ p.until; walk = onward l p.walk; fewer = omega (arith, p.fewer) })

  walk-after : {x z : ℕ} {row : List ℕ} → WalkAlong link x z row → (y : ℕ) → y among row → (y ≡ x → ⊥) → WalkAfter link y z row
  walk-after (alone {x}) y i n = cons-by y x [] i (λ q. absurd (n q)) (nil-no y)
  walk-after (onward {x} {y = next} {row} l w) y i n =
      cons-by y x row i
      (λ q. absurd (n q))
      (λ j.
      is-by y next
      (λ (q : y ≡ next). rw q (record { after = row; walk = w; fewer = omega arith }))
      (λ d. let p = walk-after w y j d in record { after = p.after; walk = p.walk; fewer = omega (arith, p.fewer) }))

  walk-alone : {x z : ℕ} {row : List ℕ} → WalkAlong link x z row → length row ≤ 1 → x ≡ z
  walk-alone alone h = refl
  walk-alone (onward l w) h = absurd (omega (arith, walk-links w))

  walk-append : {x y m z : ℕ} {p q : List ℕ} → WalkAlong link x y p → link y m ≡ true → WalkAlong link m z q → WalkAlong link x z (p ++ q)
  walk-append alone e w = onward e w
  walk-append (onward l v) e w = onward l (walk-append v e w)

  -- of a closed walk with the names p up to one, and q from there on: q is written first
  turned : {m u y z : ℕ} {p q : List ℕ} (row : List ℕ) → WalkAlong link m u p → link u y ≡ true → WalkAlong link y z q → link z m ≡ true → p within row
      → q within row → length p + length q ≡ length row → WalkBack link y row
  turned {u} {p} {q} row v l w k i j n = record {
    last = u;
    ring = q ++ p;
    walk = walk-append w k v;
    closed = l;
    members = λ x h. or-by _ _ (sym (mem-append x q p) ∙ h) (j x) (i x);
    many = omega (arith, length-append q p, n);
  }

  -- the names of q before x go over to p
  turn-on : {m u y z : ℕ} {p q : List ℕ} (row : List ℕ) → WalkAlong link m u p → link u y ≡ true → WalkAlong link y z q → link z m ≡ true → p within row
      → q within row → length p + length q ≡ length row → (x : ℕ) → x among q → WalkBack link x row
  turn-on {p} row v l (alone {x = y}) k i j n x h = cons-by x y [] h (λ q. rw q (turned row v l alone k i j n)) (nil-no x)
  turn-on {p} row v l (onward {x = y} {row = rest} e w) k i j n x h =
      cons-by x y rest h
      (λ q. rw q (turned row v l (onward e w) k i j n))
      (λ g.
      turn-on row (walk-snoc v l) e w k
      (λ t a. or-by _ _ (sym (mem-append t p (y ∷ [])) ∙ a) (i t) (one-within y row (j y (mem-head y rest)) t))
      (λ t a. j t (mem-tail t y rest a))
      (omega (arith, length-append p (y ∷ []), n)) x g)

  walk-itself : {x z : ℕ} {row : List ℕ} → WalkAlong link x z row → link z x ≡ true → WalkBack link x row
  walk-itself {z} {row} w k = record { last = z; ring = row; walk = w; closed = k; members = λ t a. a; many = refl }

  -- A closed walk can be written from any of its members.
  walk-turned : {m z : ℕ} {row : List ℕ} → WalkAlong link m z row → link z m ≡ true → (x : ℕ) → x among row → WalkBack link x row
  walk-turned (alone {x = m}) k x i = cons-by x m [] i (λ q. rw q (walk-itself alone k)) (nil-no x)
  walk-turned (onward {x = m} {row = rest} l w) k x i =
      cons-by x m rest i
      (λ q. rw q (walk-itself (onward l w) k))
      (λ j. turn-on (m ∷ rest) alone l w k (one-within m (m ∷ rest) (mem-head m rest)) (λ t a. mem-tail t m rest a) (omega arith) x j)

  -- a walk stays among the names that its links lead from
  walk-known : (names : List ℕ) → ((x y : ℕ) → link x y ≡ true → x among names) → {x z : ℕ} {row : List ℕ} → WalkAlong link x z row → z among names
      → row within names
  walk-known names known (alone {x}) i = one-within x names i
  walk-known names known (onward {x} {y} {row} l w) i = cons-within x row names (known x y l) (walk-known names known w i)

-- Rows without a name twice.
distinct-cons : (x : ℕ) (t : List ℕ) → (x among t → ⊥) → distinct t ≡ true → distinct (x ∷ t) ≡ true
unfolding distinct
distinct-cons x t n d = by (mem x t) (λ i. absurd (n i)) (λ (m : mem x t ≡ false). rw m d)

cons-distinct : (x : ℕ) (t : List ℕ) → distinct (x ∷ t) ≡ true → (mem x t ≡ false) × (distinct t ≡ true)
unfolding distinct
cons-distinct x t d = (not-true (mem x t) (and_l _ _ d), and_r (not (mem x t)) _ d)

distinct-append : (s t : List ℕ) → distinct s ≡ true → distinct t ≡ true → ((x : ℕ) → x among s → x among t → ⊥) → distinct (s ++ t) ≡ true
distinct-append [] t d e f = e
distinct-append (x ∷ s) t d e f =
    let a = cons-distinct x s d in
    distinct-cons x (s ++ t)
    (λ i. or-by _ _ (sym (mem-append x s t) ∙ i) (λ j. clash j a.0) (λ j. f x (mem-head x s) j))
    (distinct-append s t a.1 e (λ y i j. f y (mem-tail y x s i) j))

module _ (R : Record) (e : ℕ) {c r : List ℕ} (l : Least R e (never_by c r)) where
  -- The ring can be written from any of its names, so that no chain from the edit, or from INIT, to one of them is shorter.
  chain-shortest : {s x : ℕ} {d : List ℕ} → (s ≡ 0) ⊎ (s ≡ e) → WalkAlong (enabled_by R) s x d → x among r → length c ≤ length d
  chain-shortest {s} {x} {d} f v i =
      let n = l.given in
      let b = walk-turned n.ringed n.closed x i in
      let k : NeverReason R e d b.ring = record {
        start = s;
        meet = x;
        last = b.last;
        from = f;
        chained = v;
        ringed = b.walk;
        closed = b.closed;
        needed = λ y j. n.needed y (b.members y j);
      } in
      omega (arith, l.fewest (never_by d b.ring) k, walk-links n.chained, walk-links v, b.many)

  -- The chain and the ring share only the name where they meet.
  pub least-meet : (x : ℕ) → x among c → x among r → x ≡ l.given.meet
  least-meet x i j =
      is-by x l.given.meet
      (λ q. q)
      (λ d. let a = walk-until l.given.chained x i d in absurd (omega (arith, chain-shortest l.given.from a.walk j, a.fewer)))

  -- The edit, and INIT, stand in the chain only as its first name, and in the ring only if the chain has no link.
  least-start : (x : ℕ) → (x ≡ 0) ⊎ (x ≡ e) → x among c → x ≡ l.given.start
  least-start x f i =
      is-by x l.given.start
      (λ q. q)
      (λ d. let a = walk-after l.given.chained x i d in absurd (omega (arith, chain-shortest f a.walk (walk-head l.given.ringed), a.fewer)))

  least-alone : (x : ℕ) → (x ≡ 0) ⊎ (x ≡ e) → x among r → l.given.start ≡ l.given.meet
  least-alone x f i = walk-alone l.given.chained (chain-shortest f (alone {x = x}) i)

  module _ (w : WellFormed R) where
    -- put into the ring for the name where they meet, a name that is in neither gives a row without a name twice
    other-few : (x : ℕ) → x among names R → (x among c → ⊥) → (x among r → ⊥) → length (c ++ r) ≤ length (names R)
    other-few x k f g =
        let n = l.given in
        let d = least-apart R e (never_by c r) l in
        let s = walk-starts n.ringed in
        let tail : (y : ℕ) → y among s.0 → y among r = λ y i. rw s.1 (mem-tail y n.meet s.0 i) in
        let a = cons-distinct n.meet s.0 (rw s.1 at d.1) in
        let m = right-known w n.last 0 n.meet n.closed in
        let chain = walk-known (names R) (λ x y k. right-known w y 1 x k) n.chained m in
        let ring = walk-within (names R) (λ x y k. right-known w x 0 y k) n.ringed m in
        let u = distinct-append c (x ∷ s.0) d.0 (distinct-cons x s.0 (λ i. g (tail x i)) a.1)
        (λ y i j. cons-by y x s.0 j (λ q. f (rw q at i)) (λ h. clash (rw (least-meet y i (tail y h)) at h) a.0)) in
        let known : (c ++ (x ∷ s.0)) within names R = λ y i.
        or-by _ _ (sym (mem-append y c (x ∷ s.0)) ∙ i) (chain y) (λ j. cons-by y x s.0 j (λ q. rw q k) (λ h. ring y (tail y h))) in
        omega (arith, distinct-length (c ++ (x ∷ s.0)) (names R) u known, length-append c (x ∷ s.0), length-append c r, ap length s.1)

    -- INIT is notafter nothing: it is in no ring
    ring-written : r within written R
    ring-written = walk-known (written R) (λ x y k. w.left x 0 y k) l.given.ringed (w.left l.given.last 0 l.given.meet l.given.closed)

    init-outside : 0 among r → ⊥
    init-outside i = clash (ring-written 0 i) w.unwritten

    -- a chain from INIT leaves the edit out, and one from the edit INIT
    never-few : sound R ≡ true → e among names R → length (c ++ r) ≤ length (names R)
    never-few h k =
        let n = l.given in
        let stands : (e ≡ 0 → ⊥) = λ z. kinds-apart R w h e (e ∷ []) c r (rw z alone) n in
        ⊎_elim
        (λ (f : n.start ≡ 0).
        other-few e k
        (λ i. stands (least-start e (inr refl) i ∙ f))
        (λ i. init-outside (rw (sym f ∙ least-alone e (inr refl) i) (walk-head n.ringed))))
        (λ (f : n.start ≡ e). other-few 0 (init-known R) (λ i. stands (sym (least-start 0 (inl refl) i ∙ f))) init-outside)
        n.from

-- All that is printed of a least reason has at most as many names as the record, INIT counted.
pub least-printed : (R : Record) → WellFormed R → sound R ≡ true → (e : ℕ) → e among names R → (r : Reason) → Least R e r
    → length (names_printed r) ≤ length (names R)
least-printed R w h e k (must_by c) l = least-few R w e (must_by c) l
least-printed R w h e k (never_by c r) l = never-few R e l w h k
