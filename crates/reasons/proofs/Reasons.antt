-- Reasons are true; a record that is sound has one for each edit that must or can never stand, and of one kind alone; and there is one least. Assumes nothing.
use mathlib.Core.Path.{◌≡◌, refl, sym, ap, ◌∙◌}
use mathlib.Core.Bool.{Bool, true, false, not, and-false}
use mathlib.Core.Logic.{◌⊎◌, inl, inr}
use mathlib.Core.List.{List, [], ◌∷◌, ◌++◌}
use Prim.Native.Nat.{ℕ, suc, ◌≤◌}
use native.Mathlib.Omega.{arith}
use lib.Dec.{eqb}
use lib.ListN.{length, length-append}
use borrow.Author.Tests.{eq-eqb, not-true, ltb-false, le-ltb}
use Rattle.lists.specs.Lists.{mem, index_of, distinct, ◌among◌, ◌within◌}
use Rattle.record.specs.Record.{Record, names, notafter, enables, WellFormed}
use Rattle.record.specs.Sound.{Sound, SoundRecord, Must, Never, Needs, itself, init, enabler, Chain, link, chain, Ring}
use Rattle.record.specs.Schedule.{needs, musts}
use Rattle.record.specs.Judgement.{sound, must, never}
use Rattle.reasons.specs.Reasons.{WalkAlong, alone, onward, MustReason, enabled_by, NeverReason, Reason, must_by, never_by, IsReason, chain_links, links, names_printed, lower, Least}
use Rattle.reasons.specs.Given.{chain_in, ring_in}
use Rattle.lists.proofs.Lists.{by, clash, and_l, and_r, or-no-l, mem-head, mem-tail, cons-by, nil-no, cons-within, one-within, closure-least}
use Rattle.record.proofs.Records.{init-known}
use Rattle.record.proofs.Order.{needs-is, needs-known, ring-is, sound-init}
use Rattle.record.proofs.Judged.{sound-is, must-is, never-is}
use Rattle.reasons.proofs.Paths.{PathIn, walk-path, path-whole}

-- Walks: the first name and the last, a link added at the end, and the number of links.
module _ {link : ℕ → ℕ → Bool} where
  pub walk-starts : {x z : ℕ} {c : List ℕ} → WalkAlong link x z c → (rest : List ℕ) × (c ≡ x ∷ rest)
  walk-starts alone = ([], refl)
  walk-starts (onward {row} e w) = (row, refl)

  pub walk-head : {x z : ℕ} {c : List ℕ} → WalkAlong link x z c → x among c
  walk-head (alone {x}) = mem-head x []
  walk-head (onward {x} {row} e w) = mem-head x row

  pub walk-last : {x z : ℕ} {c : List ℕ} → WalkAlong link x z c → z among c
  walk-last (alone {x}) = mem-head x []
  walk-last (onward {x} {z} {row} e w) = mem-tail z x row (walk-last w)

  pub walk-snoc : {x y : ℕ} {c : List ℕ} → WalkAlong link x y c → {z : ℕ} → link y z ≡ true → WalkAlong link x z (c ++ (z ∷ []))
  walk-snoc alone e = onward e alone
  walk-snoc (onward k w) e = onward k (walk-snoc w e)

  pub walk-links : {x z : ℕ} {c : List ℕ} → WalkAlong link x z c → length c ≡ suc (chain_links c)
  unfolding chain_links
  walk-links alone = refl
  walk-links (onward e w) = refl

-- Reasons are true.
walk-stands : {R : Record} (row : List ℕ) → Sound R row → {x z : ℕ} {c : List ℕ} → WalkAlong (enables R) x z c → z among row → x among row
walk-stands row s alone h = h
walk-stands row s (onward {x} {y} e w) h = s.complete x y e (walk-stands row s w h)

pub must-true : (R : Record) (e : ℕ) (c : List ℕ) → MustReason R e c → Must R e
unfolding Must
must-true R e c w row s = walk-stands row s w (sound-init R row s)

needs-stand : {R : Record} (row : List ℕ) → Sound R row → {e : ℕ} → e among row → {x : ℕ} → Needs R e x → x among row
needs-stand row s i itself = i
needs-stand {R} row s i init = sound-init R row s
needs-stand row s i (enabler {a} {b} e n) = s.complete a b e (needs-stand row s i n)

-- places rise along a walk of notafter inside a sound row
walk-rises : {R : Record} (row : List ℕ) → Sound R row → {x z : ℕ} {c : List ℕ} → WalkAlong (notafter R) x z c → c within row
    → index_of x row ≤ index_of z row
walk-rises row s alone h = omega arith
walk-rises row s (onward {x} {y} {row = rest} e w) h =
    let r = walk-rises row s w (λ u i. h u (mem-tail u x rest i)) in
    omega (arith, s.orders x y e (h x (mem-head x rest)) (h y (mem-tail y x rest (walk-head w))))

pub never-true : (R : Record) (e : ℕ) (c r : List ℕ) → NeverReason R e c r → Never R e
unfolding Never
never-true R e c r n row s =
    by (mem e row)
    (λ i. let h : r within row = λ x j. needs-stand row s i (n.needed x j) in
    absurd (omega (
      arith,
      walk-rises row s n.ringed h,
      s.orders n.last n.meet n.closed (h n.last (walk-last n.ringed)) (h n.meet (walk-head n.ringed)),
    )))
    (λ i. i)

-- No edit of a sound record has reasons of both kinds.
pub kinds-apart : (R : Record) → WellFormed R → sound R ≡ true → (e : ℕ) (c d r : List ℕ) → MustReason R e c → NeverReason R e d r → ⊥
unfolding SoundRecord Must Never
kinds-apart R w h e c d r m n =
    let t = (sound-is R w).0 h in clash (must-true R e c m t.0 t.1) (never-true R e d r n t.0 t.1)

-- Each edit of a sound record that must stand has a reason, and each edit of any that can never stand.
pub must-exists : (R : Record) → WellFormed R → sound R ≡ true → (e : ℕ) → Must R e → (c : List ℕ) × MustReason R e c
unfolding must musts needs
must-exists R w h e m =
    closure-least (enables R) (names R) (0 ∷ []) (λ x. (c : List ℕ) × MustReason R x c)
    (λ a b k p. (a ∷ p.0, onward k p.1))
    (λ x i. cons-by x 0 [] i (λ q. rw q (0 ∷ [], alone)) (nil-no x))
    e ((must-is R w h e).1 m)

-- what an edit needs is reached from it or from 0
record Reached (R : Record) (e x : ℕ) : Type 0 where
  start : ℕ
  row : List ℕ
  from : (start ≡ 0) ⊎ (start ≡ e)
  walk : WalkAlong (enabled_by R) start x row

needs-reached : {R : Record} {e x : ℕ} → Needs R e x → Reached R e x
needs-reached {e} itself = record { start = e; row = e ∷ []; from = inr refl; walk = alone }
needs-reached init = record { start = 0; row = 0 ∷ []; from = inl refl; walk = alone }
needs-reached (enabler {a} {b} k n) =
    let r = needs-reached n in record { start = r.start; row = r.row ++ (a ∷ []); from = r.from; walk = walk-snoc r.walk k }

-- a walk of notafter through members of the set t from x, whose last is notafter z
pub record WalkInto (R : Record) (t : List ℕ) (x z : ℕ) (row : List ℕ) : Type 0 where
  pub last : ℕ
  pub walk : WalkAlong (notafter R) x last row
  pub closed : notafter R last z ≡ true
  pub members : row within t

chain-walk : {R : Record} {t : List ℕ} {x z : ℕ} → Chain R t x z → (row : List ℕ) × WalkInto R t x z row
chain-walk {t} (link {a} i j e) = (a ∷ [], record { last = a; walk = alone; closed = e; members = one-within a t i })
chain-walk {t} (chain {a} i e l) =
    let o = chain-walk l in
    (a ∷ o.0, record { last = o.1.last; walk = onward e o.1.walk; closed = o.1.closed; members = cons-within a o.0 t i o.1.members })

pub never-exists : (R : Record) → WellFormed R → (e : ℕ) → e among names R → Never R e → (c : List ℕ) × ((r : List ℕ) × NeverReason R e c r)
unfolding never Ring
never-exists R w e i n =
    let t = needs R (0 ∷ e ∷ []) in
    let both : (0 ∷ e ∷ []) within names R = cons-within 0 (e ∷ []) (names R) (init-known R) (one-within e (names R) i) in
    let g = (ring-is R t (needs-known R w (0 ∷ e ∷ []) both)).0 ((never-is R w e).1 n) in
    let o = chain-walk g.1 in
    let needed : (x : ℕ) → x among o.0 → Needs R e x = λ x j. (needs-is R w e x).1 (o.1.members x j) in
    let d = needs-reached (needed g.0 (walk-head o.1.walk)) in
    let k : NeverReason R e d.row o.0 = record {
      start = d.start;
      meet = g.0;
      last = o.1.last;
      from = d.from;
      chained = d.walk;
      ringed = o.1.walk;
      closed = o.1.closed;
      needed = needed;
    } in
    (d.row, (o.0, k))

-- The order of rows: by the first names, and after an equal first name by what follows.
pub lower-head : (x y : ℕ) (a b : List ℕ) → lower (x ∷ a) (y ∷ b) ≡ false → y ≤ x
unfolding lower
lower-head x y a b h = ltb-false x y (or-no-l _ _ h)

pub lower-tail : (x : ℕ) (a b : List ℕ) → lower (x ∷ a) (x ∷ b) ≡ lower a b
unfolding lower
lower-tail x a b = let i : x ≤ x = omega arith in rw (le-ltb x x i, eq-eqb x x refl)

-- two rows of one length, neither lower than the other, are equal
pub lower-same : (a b : List ℕ) → length a ≡ length b → lower a b ≡ false → lower b a ≡ false → a ≡ b
lower-same [] [] n h k = refl
lower-same [] (y ∷ b) n h k = absurd (omega arith)
lower-same (x ∷ a) [] n h k = absurd (omega arith)
lower-same (x ∷ a) (y ∷ b) n h k =
    let p : x ≡ y = omega (arith, lower-head x y a b h, lower-head y x b a k) in
    let q = lower-same a b (omega arith) (sym (lower-tail y a b) ∙ (rw p at h)) (sym (lower-tail y b a) ∙ (rw p at k)) in
    rw (p, q)

-- what holds of the chain, and of the ring
abbrev pub EachRow : (List ℕ → Type 0) → Reason → Type 0
EachRow P (must_by c) = P c
EachRow P (never_by c r) = P c × P r

-- paths out of a chain and its ring are a reason too
pub never-path : {R : Record} {e : ℕ} {c r : List ℕ} (n : NeverReason R e c r) (p : PathIn (enabled_by R) n.start n.meet c)
    (q : PathIn (notafter R) n.meet n.last r) → NeverReason R e p.path q.path
never-path n p q = record {
  start = n.start;
  meet = n.meet;
  last = n.last;
  from = n.from;
  chained = p.walk;
  ringed = q.walk;
  closed = n.closed;
  needed = λ x i. n.needed x (q.members x i);
}

-- No name stands twice in the chain of a least reason, or in its ring.
pub least-apart : (R : Record) (e : ℕ) (r : Reason) → Least R e r → EachRow (λ row. distinct row ≡ true) r
least-apart R e (must_by c) l =
    let p = walk-path l.given in
    path-whole p (omega (arith, l.fewest (must_by p.path) p.walk, walk-links l.given, walk-links p.walk))
least-apart R e (never_by c r) l =
    let n = l.given in
    let p = walk-path n.chained in
    let q = walk-path n.ringed in
    let f = l.fewest (never_by p.path q.path) (never-path n p q) in (
      path-whole p (omega (arith, f, walk-links n.chained, walk-links p.walk, q.few)),
      path-whole q (omega (arith, f, walk-links n.chained, walk-links p.walk, p.few)),
    )

module _ {link : ℕ → ℕ → Bool} where
  -- the row of a chain of distinct names and its ring gives both back
  chain-parted : {x z : ℕ} {c : List ℕ} → WalkAlong link x z c → distinct c ≡ true → (p : List ℕ)
      → (chain_in (c ++ (z ∷ p)) ≡ c) × (ring_in (c ++ (z ∷ p)) ≡ z ∷ p)
  unfolding distinct mem chain_in ring_in
  chain-parted (alone {x}) h p = let e : eqb x x ≡ true = eq-eqb x x refl in (rw e refl, rw e refl)
  chain-parted (onward {x} {y} {z} {row} l w) h p =
      let s = walk-starts w in
      let m : mem x (y ∷ s.0) ≡ false = rw s.1 at (not-true (mem x row) (and_l _ _ h)) in
      let n = or-no-l (eqb x y) _ m in
      let r = chain-parted w (and_r (not (mem x row)) _ h) p in
      let q = rw s.1 at r in
      (rw (s.1, n) (ap (λ u. x ∷ u) q.0), rw (s.1, n) q.1)

  -- and has the name where they meet twice
  meet-twice : {x z : ℕ} {c : List ℕ} → WalkAlong link x z c → (p : List ℕ) → distinct (c ++ (z ∷ p)) ≡ false
  unfolding distinct
  meet-twice (alone {x}) p = rw (mem-head x p)
  meet-twice (onward {x} {z} {row} l w) p = rw (meet-twice w p) (and-false (not (mem x (row ++ (z ∷ p)))))

-- the row that is printed has a name more than the reason has links
pub names-links : (R : Record) (e : ℕ) (r : Reason) → IsReason R e r → length (names_printed r) ≡ suc (links r)
names-links R e (must_by c) w = walk-links w
names-links R e (never_by c r) n = omega (arith, walk-links n.chained, length-append c r)

module _ (R : Record) (e : ℕ) where
  least-names : {r s : Reason} → Least R e r → Least R e s → names_printed r ≡ names_printed s
  least-names {r} {s} p q =
      let k : links r ≡ links s = omega (arith, p.fewest s q.given, q.fewest r p.given) in
      lower-same (names_printed r) (names_printed s) (omega (arith, names-links R e r p.given, names-links R e s q.given))
      (q.lowest r p.given k) (p.lowest s q.given (sym k))

  -- the row of a least never reason gives its chain and its ring back
  pub never-parted : {c r : List ℕ} → Least R e (never_by c r) → (chain_in (c ++ r) ≡ c) × (ring_in (c ++ r) ≡ r)
  never-parted {c} {r} p =
      let s = walk-starts p.given.ringed in
      rw s.1 (chain-parted p.given.chained (least-apart R e (never_by c r) p).0 s.0)

  -- of two least reasons of two kinds, the chain of the must one would have a name twice
  kinds-least : {c d r : List ℕ} → Least R e (must_by c) → Least R e (never_by d r) → ⊥
  kinds-least {c} {d} {r} p q =
      let s = walk-starts q.given.ringed in
      let m : c ≡ d ++ r = least-names p q in
      let t : distinct (d ++ r) ≡ false = rw s.1 (meet-twice q.given.chained s.0) in
      clash (rw m at (least-apart R e (must_by c) p)) t

-- There is one least reason.
pub reason-one : (R : Record) (e : ℕ) (r s : Reason) → Least R e r → Least R e s → r ≡ s
reason-one R e (must_by c) (must_by d) p q = ap must_by (least-names R e p q)
reason-one R e (must_by c) (never_by d r) p q = absurd (kinds-least R e p q)
reason-one R e (never_by c r) (must_by d) p q = absurd (kinds-least R e q p)
reason-one R e (never_by c r) (never_by d s) p q =
    let m : c ++ r ≡ d ++ s = least-names R e p q in
    let a = never-parted R e p in
    let b = never-parted R e q in
    let i : c ≡ d = sym a.0 ∙ (ap chain_in m ∙ b.0) in
    let j : r ≡ s = sym a.1 ∙ (ap ring_in m ∙ b.1) in
    rw (i, j) refl

-- In a sound record a reason is the least if it is the least of its kind.
module _ (R : Record) (w : WellFormed R) (h : sound R ≡ true) (e : ℕ) where
  must-kind : (P : Reason → Type 0) {c : List ℕ} → MustReason R e c → ((d : List ℕ) → MustReason R e d → P (must_by d)) → (s : Reason)
      → IsReason R e s → P s
  must-kind P {c} m f (must_by d) k = f d k
  must-kind P {c} m f (never_by d t) n = absurd (kinds-apart R w h e c d t m n)

  never-kind : (P : Reason → Type 0) {c r : List ℕ} → NeverReason R e c r → ((d t : List ℕ) → NeverReason R e d t → P (never_by d t)) → (s : Reason)
      → IsReason R e s → P s
  never-kind P {c} {r} n f (must_by d) m = absurd (kinds-apart R w h e d c r m n)
  never-kind P {c} {r} n f (never_by d t) k = f d t k

  pub must-least : {c : List ℕ} → MustReason R e c → ((d : List ℕ) → MustReason R e d → chain_links c ≤ chain_links d)
      → ((d : List ℕ) → MustReason R e d → chain_links d ≡ chain_links c → lower d c ≡ false) → Least R e (must_by c)
  must-least {c} m f l = record {
    given = m;
    fewest = must-kind (λ s. chain_links c ≤ links s) m f;
    lowest = must-kind (λ s. links s ≡ chain_links c → lower (names_printed s) c ≡ false) m l;
  }

  pub never-least : {c r : List ℕ} → NeverReason R e c r
      → ((d t : List ℕ) → NeverReason R e d t → links (never_by c r) ≤ links (never_by d t))
      → ((d t : List ℕ) → NeverReason R e d t → links (never_by d t) ≡ links (never_by c r) → lower (d ++ t) (c ++ r) ≡ false) → Least R e (never_by c r)
  never-least {c} {r} n f l = record {
    given = n;
    fewest = never-kind (λ s. links (never_by c r) ≤ links s) n f;
    lowest = never-kind (λ s. links s ≡ links (never_by c r) → lower (names_printed s) (c ++ r) ≡ false) n l;
  }
