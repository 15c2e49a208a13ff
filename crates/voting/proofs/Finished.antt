-- Theorems on a finished proposal: its schedule is a sound row of it, every edit of it is settled, and finishing it again changes nothing. Assumes nothing.
use mathlib.Core.Path.{◌≡◌, refl, sym, subst, ◌∙◌}
use mathlib.Core.Bool.{true, false, not, ◌&&◌, ◌||◌, cond}
use mathlib.Core.Logic.{◌⊎◌, inl, inr, ⊎_elim}
use mathlib.Core.List.{List, [], ◌∷◌, append-nil}
use Prim.Native.Nat.{ℕ, ◌<◌, min, max}
use native.Mathlib.Omega.{arith}
use lib.Dec.{eqb, ltb}
use borrow.Author.Tests.{eqb-true, eq-eqb, not-true, ltb-true, ltb-false}
use Rattle.record.specs.declared.Constraint.{Constraint}
use Rattle.lists.specs.Lists.{any, mem, index_of, ◌among◌, Has}
use Rattle.record.specs.Record.{Record, names, written, is, has, notafter, noncommuting, WellFormed, Extends}
use Rattle.record.specs.Sound.{Sound, Must, Never, Ordered, earlier, later, right-never, Serialised, Settled}
use Rattle.record.specs.Schedule.{schedule}
use Rattle.record.specs.Judgement.{sound, settled}
use Rattle.lists.proofs.Lists.{by, clash, is-by, and_l, and_r, and_i, or-by, or_l, or_r, or-no-l, or-no-r, mem-head, mem-tail, cons-by, nil-no}
use Rattle.record.proofs.Records.{pair-by, noncommuting-right, right-written}
use Rattle.record.proofs.Records as records
use Rattle.record.proofs.Order.{sound-init}
use Rattle.record.proofs.Judged.{sound-is, settled_is}
use Rattle.record.proofs.Scheduled.{schedule-sound}
use Rattle.lists.specs.Keyed.{Ascending}
use Rattle.lists.proofs.Union.{ascending-united}
use Rattle.lists.proofs.Logic.{filter-from, filter-into}
use Rattle.record_tables.specs.Table.{constraint_key}
use Rattle.voting.specs.Proposal.{joined_constraints, before, unordered, decisions, orders, finished, Paired}
use Rattle.voting.proofs.Joined.{con, has_in, in-has, has-append, has-with, written-with, extends-with, with_part}

-- two names of a row at one place are one
at_same : (a b : ℕ) (row : List ℕ) → a among row → b among row → index_of a row ≡ index_of b row → a ≡ b
unfolding index_of mem
at_same a b [] i j e = clash i refl
at_same a b (x ∷ row) i j e =
    by (eqb a x)
    (λ p. by (eqb b x) (λ q. eqb-true a x p ∙ sym (eqb-true b x q)) (λ q. absurd (let z = rw (p, q) at e in omega arith)))
    (λ p. by (eqb b x) (λ q. absurd (let z = rw (p, q) at e in omega arith))
    (λ q. at_same a b row (rw p at i) (rw q at j) (let z = rw (p, q) at e in omega arith)))

-- the decisions of a row
abbrev pub Decides : List ℕ → ℕ → ℕ → ℕ → Type 0
Decides row a k b = ((a among row) × (k ≡ 1) × (b ≡ 0)) ⊎ ((mem a row ≡ false) × (k ≡ 0) × (b ≡ a))

decision-by : (row : List ℕ) (x a k b : ℕ) → is a k b (cond (mem x row) (con x 1 0) (before x x)) ≡ true → (a ≡ x) × Decides row a k b
decision-by row x a k b h =
    by (mem x row)
    (λ m. records.constraint-by a k b (con x 1 0) (rw m at h) (λ p q r. (sym p, inl (rw (← p) m, sym q, sym r))))
    (λ m. records.constraint-by a k b (before x x) (rw m at h) (λ p q r. (sym p, inr (rw (← p) m, sym q, sym r ∙ p))))

pub decisions-by : (row l : List ℕ) (a k b : ℕ) → has a k b (decisions row l) ≡ true → (a among l) × Decides row a k b
unfolding decisions has any
decisions-by row [] a k b h = clash h refl
decisions-by row (x ∷ l) a k b h =
    or-by (is a k b (cond (mem x row) (con x 1 0) (before x x))) (has a k b (decisions row l)) h
    (λ e. let r = decision-by row x a k b e in (rw r.0 (mem-head x l), r.1))
    (λ e. let r = decisions-by row l a k b e in (mem-tail a x l r.0, r.1))

required : (row l : List ℕ) (x : ℕ) → x among l → x among row → has x 1 0 (decisions row l) ≡ true
unfolding decisions has any is
required row [] x i m = nil-no x i
required row (y ∷ l) x i m =
    cons-by x y l i
    (λ e. let n : y among row = rw e at m in rw (n, e, eq-eqb y y refl))
    (λ j. or_r (is x 1 0 (cond (mem y row) (con y 1 0) (before y y))) _ (required row l x j m))

aborted : (row l : List ℕ) (x : ℕ) → x among l → mem x row ≡ false → has x 0 x (decisions row l) ≡ true
unfolding decisions has any is
aborted row [] x i m = nil-no x i
aborted row (y ∷ l) x i m =
    cons-by x y l i
    (λ e. let n : mem y row ≡ false = rw e at m in rw (n, e, eq-eqb y y refl))
    (λ j. or_r (is x 0 x (cond (mem y row) (con y 1 0) (before y y))) _ (aborted row l x j m))

-- the unordered pairs of a record
abbrev Unordered : Record → Constraint → Type 0
Unordered R c = (has c.left 2 c.right R.constraints ≡ true) × (notafter R c.left c.right ≡ false) × (notafter R c.right c.left ≡ false)

pub unordered-from : (R : Record) (c : Constraint) → Has c (unordered R) → Unordered R c
unfolding unordered
unordered-from R c h =
    let r = filter-from (λ c. eqb c.rule 2 && not (notafter R c.left c.right || notafter R c.right c.left)) R.constraints c h in
    let n = not-true _ (and_r (eqb c.rule 2) _ r.1) in
    let k : c.rule ≡ 2 = eqb-true c.rule 2 (and_l _ _ r.1) in
    let i = in-has c R.constraints r.0 in
    (subst (λ (m : ℕ). has c.left m c.right R.constraints ≡ true) k i, or-no-l _ _ n, or-no-r (notafter R c.left c.right) _ n)

pub unordered-into : (R : Record) (a b : ℕ) → has a 2 b R.constraints ≡ true → notafter R a b ≡ false → notafter R b a ≡ false → Has (con a 2 b) (unordered R)
unfolding unordered
unordered-into R a b h m n =
    filter-into (λ c. eqb c.rule 2 && not (notafter R c.left c.right || notafter R c.right c.left)) R.constraints (con a 2 b)
    (has_in a 2 b R.constraints h) (rw (m, n))

-- the orders that a row gives
pub record Earlier (known row : List ℕ) (a k b : ℕ) : Type 0 where
  pub rule : k ≡ 0
  pub left : a among row
  pub right : b among row
  pub left-known : a among known
  pub right-known : b among known
  pub earlier : index_of a row < index_of b row

-- what is asked of a pair that is ordered
pub record Pair (known : List ℕ) (c : Constraint) : Type 0 where
  pub lower : c.left < c.right
  pub left : c.left among known
  pub right : c.right among known

order-by : (known row : List ℕ) (c : Constraint) → Pair known c → c.left among row → c.right among row → (a k b : ℕ)
    → is a k b (cond (ltb (index_of c.left row) (index_of c.right row)) (before c.left c.right) (before c.right c.left)) ≡ true → Earlier known row a k b
order-by known row c l i j a k b h =
    by (ltb (index_of c.left row) (index_of c.right row))
    (λ e. let t = ltb-true _ _ e in
    records.constraint-by a k b (before c.left c.right) (rw e at h)
    (λ p q r. record { rule = sym q; left = rw (← p) i; right = rw (← r) j; left-known = rw (← p) l.left; right-known = rw (← r) l.right; earlier = rw (← p, ← r) t }))
    (λ e. let t : index_of c.right row < index_of c.left row = is-by (index_of c.left row) (index_of c.right row)
    (λ s. absurd (let z = at_same c.left c.right row i j s in omega (arith, l.lower)))
    (λ s. omega (arith, s, ltb-false (index_of c.left row) (index_of c.right row) e)) in
    records.constraint-by a k b (before c.right c.left) (rw e at h)
    (λ p q r. record { rule = sym q; left = rw (← p) j; right = rw (← r) i; left-known = rw (← p) l.right; right-known = rw (← r) l.left; earlier = rw (← p, ← r) t }))

pub orders-by : (known row : List ℕ) (l : List Constraint) → ((c : Constraint) → Has c l → Pair known c) → (a k b : ℕ) → has a k b (orders row l) ≡ true → Earlier known row a k b
unfolding orders has any
orders-by known row [] f a k b h = clash h refl
orders-by known row (c ∷ l) f a k b h =
    by (mem c.left row && mem c.right row)
    (λ e. or-by (is a k b (cond (ltb (index_of c.left row) (index_of c.right row)) (before c.left c.right) (before c.right c.left))) (has a k b (orders row l))
    (rw e at h)
    (λ i. order-by known row c (f c (inl refl)) (and_l _ _ e) (and_r (mem c.left row) _ e) a k b i)
    (λ i. orders-by known row l (λ d m. f d (inr m)) a k b i))
    (λ e. orders-by known row l (λ d m. f d (inr m)) a k b (rw e at h))

orders-in : (row : List ℕ) (l : List Constraint) (c : Constraint) → Has c l → c.left among row → c.right among row
    → (has c.left 0 c.right (orders row l) || has c.right 0 c.left (orders row l)) ≡ true
unfolding orders
orders-in row [] c h i j = absurd h
orders-in row (d ∷ l) c (inl e) i j =
    let both : (mem d.left row && mem d.right row) ≡ true = and_i _ _ (rw e at i) (rw e at j) in
    rw both (by (ltb (index_of d.left row) (index_of d.right row))
    (λ t. rw (t, e) (or_l _ _ (records.has-head (before d.left d.right) (orders row l))))
    (λ t. rw (t, e) (or_r (has d.left 0 d.right (before d.right d.left ∷ orders row l)) _ (records.has-head (before d.right d.left) (orders row l)))))
orders-in row (d ∷ l) c (inr h) i j =
    let r = orders-in row l c h i j in
    by (mem d.left row && mem d.right row)
    (λ e. let x = cond (ltb (index_of d.left row) (index_of d.right row)) (before d.left d.right) (before d.right d.left) in
    rw e (or-by (has c.left 0 c.right (orders row l)) _ r
    (λ m. or_l _ _ (records.has-tail c.left 0 c.right x (orders row l) m))
    (λ m. or_r (has c.left 0 c.right (x ∷ orders row l)) _ (records.has-tail c.right 0 c.left x (orders row l) m))))
    (λ e. rw e r)

decides-ends : (known row : List ℕ) (a k b : ℕ) → a among known → Decides row a k b → (b among known) ⊎ ((k ≡ 1) × (b ≡ 0))
decides-ends known row a k b i (inl d) = inr (d.1, d.2)
decides-ends known row a k b i (inr d) = inl (rw d.2 i)

module _ {R : Record} (w : WellFormed R) (p : Paired R) (h : sound R ≡ true) where
  pairs : (c : Constraint) → Has c (unordered R) → Pair (written R) c
  pairs c m =
      let u = (unordered-from R c m).0 in
      record { lower = p.lower c.left c.right u; left = w.left c.left 2 c.right u; right = right-written w c.left 2 c.right u (λ z. omega arith) }

  -- the constraints of the finished proposal
  finished-by {ℓ} : {P : Type ℓ} (a k b : ℕ) → has a k b (finished R).constraints ≡ true
      → (has a k b R.constraints ≡ true → P) → (a among written R → Decides (schedule R []) a k b → P) → (Earlier (written R) (schedule R []) a k b → P) → P
  unfolding finished
  finished-by a k b e f g i =
      or-by (has a k b R.constraints) _ (sym (has-with R _ a k b) ∙ e) f
      (λ q. or-by (has a k b (decisions (schedule R []) (written R))) _ (sym (has-append a k b (decisions (schedule R []) (written R)) (orders (schedule R []) (unordered R))) ∙ q)
      (λ s. let r = decisions-by (schedule R []) (written R) a k b s in g r.0 r.1)
      (λ s. i (orders-by (written R) (schedule R []) (unordered R) pairs a k b s)))

  pub finished-written : written (finished R) ≡ written R
  unfolding finished
  finished-written = written-with R _

  pub finished-extends : Extends R (finished R)
  unfolding finished
  finished-extends = extends-with R _

  finished-decides : (a k b : ℕ) → has a k b (decisions (schedule R []) (written R)) ≡ true → has a k b (finished R).constraints ≡ true
  unfolding finished
  finished-decides a k b e =
      has-with R _ a k b ∙ or_r (has a k b R.constraints) _
      (has-append a k b (decisions (schedule R []) (written R)) (orders (schedule R []) (unordered R)) ∙ or_l _ _ e)

  finished-orders : (a b : ℕ) → has a 0 b (orders (schedule R []) (unordered R)) ≡ true → notafter (finished R) a b ≡ true
  unfolding finished
  finished-orders a b e =
      has-with R _ a 0 b ∙ or_r (has a 0 b R.constraints) _
      (has-append a 0 b (decisions (schedule R []) (written R)) (orders (schedule R []) (unordered R))
      ∙ or_r (has a 0 b (decisions (schedule R []) (written R))) _ e)

  pub finished-well-formed : WellFormed (finished R)
  finished-well-formed = record {
    unwritten = rw finished-written w.unwritten;
    left = λ a k b e. rw finished-written (finished-by a k b e (w.left a k b) (λ i d. i) (λ s. s.left-known));
    right = λ a k b e. rw finished-written (finished-by a k b e (w.right a k b) (decides-ends (written R) (schedule R []) a k b) (λ s. inl s.right-known));
  }

  -- no pair is added that does not commute
  finished-pairs : (a b : ℕ) → has a 2 b (finished R).constraints ≡ true → has a 2 b R.constraints ≡ true
  finished-pairs a b e =
      finished-by a 2 b e (λ q. q)
      (λ i d. ⊎_elim (λ (q : (a among schedule R []) × (2 ≡ 1) × (b ≡ 0)). absurd (let z = q.1 in omega arith)) (λ (q : (mem a (schedule R []) ≡ false) × (2 ≡ 0) × (b ≡ a)). absurd (let z = q.1 in omega arith)) d)
      (λ s. absurd (let z = s.rule in omega arith))

  -- The schedule of the union is a sound row of the finished proposal.
  pub finished-row : Sound (finished R) (schedule R [])
  unfolding names
  finished-row =
      let s = schedule-sound R w h [] in
      record {
        starts = s.starts;
        known = λ x i. rw finished-written (s.known x i);
        apart = s.apart;
        orders = λ a b e i j. finished-by a 0 b e (λ q. s.orders a b q i j)
            (λ k d. ⊎_elim (λ (q : (a among schedule R []) × (0 ≡ 1) × (b ≡ 0)). absurd (let z = q.1 in omega arith)) (λ (q : (mem a (schedule R []) ≡ false) × (0 ≡ 0) × (b ≡ a)). clash i q.0) d)
            (λ q. q.earlier);
        complete = λ a b e j. finished-by a 1 b e (λ q. s.complete a b q j)
            (λ k d. ⊎_elim (λ (q : (a among schedule R []) × (1 ≡ 1) × (b ≡ 0)). q.0) (λ (q : (mem a (schedule R []) ≡ false) × (1 ≡ 0) × (b ≡ a)). absurd (let z = q.1 in omega arith)) d)
            (λ q. absurd (let z = q.rule in omega arith));
      }

  pub finished-sound : sound (finished R) ≡ true
  unfolding Rattle.record.specs.Sound.SoundRecord
  finished-sound = (sound-is (finished R) finished-well-formed).1 (schedule R [], finished-row)

  -- an edit of the schedule must stand, any other can never
  finished-must : (x : ℕ) → x among written R → x among schedule R [] → Must (finished R) x
  unfolding Must
  finished-must x i m r s = s.complete x 0 (finished-decides x 1 0 (required (schedule R []) (written R) x i m)) (sound-init (finished R) r s)

  finished-never : (x : ℕ) → x among written R → mem x (schedule R []) ≡ false → Never (finished R) x
  unfolding Never
  finished-never x i m r s =
      by (mem x r) (λ j. absurd (let l = s.orders x x (finished-decides x 0 x (aborted (schedule R []) (written R) x i m)) j j in omega arith)) (λ j. j)

  -- a pair of the schedule is ordered
  finished-ordered : (a b : ℕ) → has a 2 b R.constraints ≡ true → a among schedule R [] → b among schedule R []
      → (notafter (finished R) a b || notafter (finished R) b a) ≡ true
  finished-ordered a b e i j =
      by (notafter R a b) (λ q. or_l _ _ (finished-extends.constraints a 0 b q))
      (λ q. by (notafter R b a) (λ r. or_r (notafter (finished R) a b) _ (finished-extends.constraints b 0 a r))
      (λ r. or-by (has a 0 b (orders (schedule R []) (unordered R))) _ (orders-in (schedule R []) (unordered R) (con a 2 b) (unordered-into R a b e q r) i j)
      (λ s. or_l _ _ (finished-orders a b s))
      (λ s. or_r (notafter (finished R) a b) _ (finished-orders b a s))))

  partners : (a b : ℕ) → noncommuting R a b ≡ true → a among schedule R [] → b among schedule R [] → Ordered (finished R) a b
  partners a b n i j =
      pair-by a b
      (λ x y. or-by (notafter (finished R) a b) _ (finished-ordered a b (rw (x, y) at n) i j) (λ q. earlier q) (λ q. later q))
      (λ x y. or-by (notafter (finished R) b a) _ (finished-ordered b a (rw (x, y) at n) j i) (λ q. later q) (λ q. earlier q))

  finished-commuting : (a b : ℕ) → noncommuting (finished R) a b ≡ true → noncommuting R a b ≡ true
  finished-commuting a b e = finished-pairs (min a b) (max a b) e

  finished-serialised : (x : ℕ) → x among schedule R [] → Serialised (finished R) x
  unfolding Serialised
  finished-serialised x i b n =
      let k = finished-commuting x b n in
      by (mem b (schedule R [])) (λ j. partners x b k i j) (λ j. right-never (finished-never b (noncommuting-right w x b k) j))

  -- Every edit of the finished proposal is settled in it.
  pub finished-settled : (x : ℕ) → x among written (finished R) → settled (finished R) x ≡ true
  unfolding Settled
  finished-settled x i =
      let k : x among written R = rw finished-written at i in
      (settled_is (finished R) finished-well-formed finished-sound x).1
      (by (mem x (schedule R [])) (λ m. inr (finished-must x k m, finished-serialised x m)) (λ m. inl (finished-never x k m)))

  -- the schedule of the finished proposal has the same edits
  finished-scheduled : (x : ℕ) → x among written R → mem x (schedule (finished R) []) ≡ mem x (schedule R [])
  unfolding Must Never
  finished-scheduled x i =
      let s = schedule-sound (finished R) finished-well-formed finished-sound [] in
      by (mem x (schedule R [])) (λ m. finished-must x i m _ s ∙ sym m) (λ m. finished-never x i m _ s ∙ sym m)

  module _ (a : Ascending constraint_key R.constraints) where
    pub finished-ascending : Ascending constraint_key (finished R).constraints
    unfolding finished joined_constraints
    finished-ascending = ascending-united constraint_key R.constraints _ a

    decided-before : (c : Constraint) → Has c (decisions (schedule (finished R) []) (written R)) → Has c (finished R).constraints
    decided-before c m =
        let i = in-has c _ m in
        let r = decisions-by (schedule (finished R) []) (written R) c.left c.rule c.right i in
        let e = finished-scheduled c.left r.0 in
        ⊎_elim
        (λ (q : (c.left among schedule (finished R) []) × (c.rule ≡ 1) × (c.right ≡ 0)).
        again c c.left 1 0 refl q.1 q.2 (finished-decides c.left 1 0 (required (schedule R []) (written R) c.left r.0 (sym e ∙ q.0))))
        (λ (q : (mem c.left (schedule (finished R) []) ≡ false) × (c.rule ≡ 0) × (c.right ≡ c.left)).
        again c c.left 0 c.left refl q.1 q.2 (finished-decides c.left 0 c.left (aborted (schedule R []) (written R) c.left r.0 (sym e ∙ q.0))))
        r.1
      where
        again : (c : Constraint) (x k b : ℕ) → c.left ≡ x → c.rule ≡ k → c.right ≡ b → has x k b (finished R).constraints ≡ true → Has c (finished R).constraints
        again c x k b p q r h =
            let e : c ≡ con x k b = λ i. record { left = p i; rule = q i; right = r i } in
            subst (λ (d : Constraint). Has d (finished R).constraints) (sym e) (has_in x k b (finished R).constraints h)

    -- nothing is left to order
    orders-none : (row : List ℕ) (l : List Constraint) → ((c : Constraint) → Has c l → (mem c.left row && mem c.right row) ≡ false) → orders row l ≡ []
    unfolding orders
    orders-none row [] f = refl
    orders-none row (c ∷ l) f = rw (f c (inl refl), orders-none row l (λ d m. f d (inr m)))

    finished-none : orders (schedule (finished R) []) (unordered (finished R)) ≡ []
    finished-none = orders-none _ _ (λ c m.
        let u = unordered-from (finished R) c m in
        let e = finished-pairs c.left c.right u.0 in
        let s = schedule (finished R) [] in
        by (mem c.left s && mem c.right s)
        (λ q. clash
        (finished-ordered c.left c.right e
        (sym (finished-scheduled c.left (w.left c.left 2 c.right e)) ∙ and_l _ _ q)
        (sym (finished-scheduled c.right (right-written w c.left 2 c.right e (λ z. omega arith))) ∙ and_r (mem c.left s) _ q))
        (rw (u.1, u.2)))
        (λ q. q))

    -- Finishing it again changes nothing.
    pub finished-again : finished (finished R) ≡ finished R
    unfolding finished
    finished-again =
        rw (finished-none) (with_part (finished R) _ finished-ascending (λ c m. decided-before c (rw (append-nil, finished-written) at m)))
