-- The linked rows of a record's constraints are those of what leads to a member. Assumes nothing.
use mathlib.Core.Path.{◌≡◌, refl, sym, ap, ◌∙◌}
use mathlib.Core.Bool.{true, false, not}
use mathlib.Core.List.{List, [], ◌∷◌}
use Prim.Native.Nat.{ℕ, zero, suc, ◌+◌, ◌*◌, ◌≤◌, ◌<◌, min, max}
use native.Mathlib.Omega.{arith}
use lib.Dec.{eqb}
use lib.ListN.{length, get_or}
use borrow.Author.Tests.{eqb-true, eqb-false, eq-eqb, not-true}
use Rattle.record.specs.declared.Constraint.{Constraint}
use Rattle.lists.specs.Lists.{mem, index_of, ◌among◌, closure}
use Rattle.record.specs.Record.{Record, names, written, has, notafter, noncommuting, WellFormed}
use Rattle.record.specs.Stored.{filler_constraint}
use Rattle.lists.proofs.Lists.{by, clash, and_l, and_r, mem_index, cons-by, nil-no, closure-holds, closure-least, closure-closed, closure-unique}
use Rattle.lists.proofs.Arrays.{get_or-any}
use Rattle.record.proofs.Records.{written-names, not-init, right-written, pair-by}
use Rattle.graph.specs.links.Marks.{name_at, place_in, marks_of}
use Rattle.graph.specs.links.Links.{left_at, with_row, Leads, RowOf}
use Rattle.graph.proofs.links.Marks.{marks-same}
use Rattle.graph.proofs.links.Names.{get_or-place, ascending-distinct, place-known}
use Rattle.graph.proofs.links.Links.{with-row-size, Linking, linking-step, linking-end}
use Rattle.voting.specs.Bundle.{leads, members}
use Rattle.voting.proofs.Bundles.{leads-notafter, leads-enables, leads-rival, leads-by, leads-known}
use Rattle.voting_members.specs.Rows.{rival_key, enabled_key, forward_key, backward_key, leads_in}
use Rattle.graph.specs.indexes.Fit.{Fit}
use Rattle.graph.proofs.indexes.Tables.{names-few}
use Rattle.graph.proofs.indexes.Resolving.{has-at, at_has, left-known, right-known}

abbrev pub name_index : Record → ℕ → ℕ
name_index R x = place_in (names R) x

abbrev pub forward_key_of : Record → Constraint → ℕ
forward_key_of R c = forward_key R (name_index R c.left) c.rule (name_index R c.right)

abbrev pub backward_of : Record → Constraint → ℕ
backward_of R c = backward_key R (name_index R c.left) c.rule (name_index R c.right)

-- two rows to a constraint
unfoldable pub both_of : (Constraint → ℕ) → (Constraint → ℕ) → List Constraint → List ℕ
both_of f g [] = []
both_of f g (c ∷ l) = f c ∷ g c ∷ both_of f g l

module _ (f g : Constraint → ℕ) where
  both-length : (l : List Constraint) → length (both_of f g l) ≡ 2 * length l
  unfolding both_of
  both-length [] = refl
  both-length (c ∷ l) = omega (arith, both-length l)

  both_first : (l : List Constraint) (i : ℕ) (d : Constraint) → i < length l → get_or (both_of f g l) (2 * i) 0 ≡ f (get_or l i d)
  unfolding both_of
  both_first [] i d h = absurd (omega arith)
  both_first (c ∷ l) zero d h = refl
  both_first (c ∷ l) (suc i) d h = let e : 2 * suc i ≡ suc (suc (2 * i)) = omega arith in rw e (both_first l i d (omega arith))

  both-second : (l : List Constraint) (i : ℕ) (d : Constraint) → i < length l → get_or (both_of f g l) (2 * i + 1) 0 ≡ g (get_or l i d)
  unfolding both_of
  both-second [] i d h = absurd (omega arith)
  both-second (c ∷ l) zero d h = refl
  both-second (c ∷ l) (suc i) d h = let e : 2 * suc i + 1 ≡ suc (suc (2 * i + 1)) = omega arith in rw e (both-second l i d (omega arith))

-- their keys and left ends
abbrev pub member_keys_of : Record → List ℕ
member_keys_of R = both_of (forward_key_of R) (backward_of R) R.constraints

abbrev pub member_lefts_of : Record → List ℕ
member_lefts_of R = both_of (λ c. name_index R c.left) (λ c. name_index R c.right) R.constraints

-- a row is one of the two of some constraint
halves-by {ℓ} : {P : Type ℓ} (n : ℕ) → ((k : ℕ) → n ≡ 2 * k → P) → ((k : ℕ) → n ≡ 2 * k + 1 → P) → P
halves-by zero f g = f 0 refl
halves-by (suc n) f g = halves-by n (λ k e. g k (omega arith)) (λ k e. f (suc k) (omega arith))

-- the rows of the constraints below j are linked
abbrev pub Rowing : Record → List ℕ → ℕ → Type 0
Rowing R rows j = Linking (member_keys_of R) (member_lefts_of R) rows (2 * j)

-- the rows of one constraint more
abbrev pub with_both : List ℕ → ℕ → ℕ → ℕ → ℕ → ℕ → List ℕ
with_both rows j a b f g = with_row (with_row rows (2 * j) f a) (2 * j + 1) g b

module _ (R : Record) (rows : List ℕ) (j a b f g : ℕ) (size : length rows ≡ 2432) (h : j < 512) (u : j < length R.constraints)
    (ea : a ≡ name_index R (get_or R.constraints j filler_constraint).left) (eb : b ≡ name_index R (get_or R.constraints j filler_constraint).right)
    (ef : f ≡ forward_key_of R (get_or R.constraints j filler_constraint)) (eg : g ≡ backward_of R (get_or R.constraints j filler_constraint)) (kf : f ≤ 128) (kg : g ≤ 128) where
  pub rowing-step : Rowing R rows j → Rowing R (with_both rows j a b f g) (j + 1)
  rowing-step w =
      let one = linking-step (member_keys_of R) (member_lefts_of R) rows (2 * j) f a size (omega arith) (omega arith)
      (both_first (forward_key_of R) (backward_of R) R.constraints j filler_constraint u ∙ sym ef) (both_first (λ c. name_index R c.left) (λ c. name_index R c.right) R.constraints j filler_constraint u ∙ sym ea) w in
      let two = linking-step (member_keys_of R) (member_lefts_of R) (with_row rows (2 * j) f a) (2 * j + 1) g b (with-row-size rows (2 * j) f a ∙ size) (omega arith) (omega arith)
      (both-second (forward_key_of R) (backward_of R) R.constraints j filler_constraint u ∙ sym eg) (both-second (λ c. name_index R c.left) (λ c. name_index R c.right) R.constraints j filler_constraint u ∙ sym eb) one in
      let e : 2 * (j + 1) ≡ 2 * j + 1 + 1 = omega arith in
      rw e two

-- a name at its index
at-index : (R : Record) (x : ℕ) → x among names R → name_at R (name_index R x) ≡ x
at-index R x i = rw (place-known x (names R) i) (get_or-place x (names R) i)

index-low : (R : Record) (x : ℕ) → x among names R → name_index R x < length (names R)
index-low R x i = rw (place-known x (names R) i) (mem_index x (names R) i)

init-index : (R : Record) → name_index R 0 ≡ 0
unfolding place_in names mem index_of
init-index R = refl

leads-in : (R : Record) (a b : ℕ) → leads R a b ≡ true → eqb b 0 ≡ false → leads_in R a b ≡ true
unfolding leads_in
leads-in R a b h e = rw (h, e)

module _ (R : Record) (f : Fit R) where
  right-not-init : (a k b : ℕ) → has a k b R.constraints ≡ true → (k ≡ 1 → ⊥) → eqb b 0 ≡ false
  right-not-init a k b h n = not-init f.formed b (right-written f.formed a k b h n)

  -- INIT alone has the index 0
  index-init : (x : ℕ) → x among names R → name_index R x ≡ 0 → eqb x 0 ≡ true
  unfolding names
  index-init x i e = eq-eqb x 0 (sym (at-index R x i) ∙ ap (name_at R) e)

  -- a pair is stored with the lower name on the left
  paired-either : (a b : ℕ) → has a 2 b R.constraints ≡ true → (noncommuting R a b ≡ true) × (noncommuting R b a ≡ true)
  paired-either a b h =
      let l = f.paired a b h in
      let p : min a b ≡ a = omega arith in
      let q : max a b ≡ b = omega arith in
      let p' : min b a ≡ a = omega arith in
      let q' : max b a ≡ b = omega arith in
      (rw (p, q) h, rw (p', q') h)

  -- a rule past enables is noncommuting
  pair-rule : (a k b : ℕ) → has a (suc (suc k)) b R.constraints ≡ true → has a 2 b R.constraints ≡ true
  pair-rule a k b h = let r : suc (suc k) ≡ 2 = let z = f.rules a (suc (suc k)) b h in omega arith in rw r at h

  -- what the key of a constraint's row tells
  rival-leads : (a b y : ℕ) → noncommuting R a b ≡ true → a among names R → b among names R → eqb b 0 ≡ false → y < 128
      → rival_key R (name_index R a) (name_index R b) ≡ y → (name_index R b ≡ y) × (leads_in R a b ≡ true)
  unfolding rival_key
  rival-leads a b y h i k n l e =
      let u = rw (at-index R a i, at-index R b k) at e in
      by (notafter R b a) (λ q. absurd (let z = rw q at u in omega arith)) (λ q. (rw q at u, leads-in R a b (leads-rival f.formed a b h q) n))

  forward-leads : (a k b y : ℕ) → has a k b R.constraints ≡ true → y < 128 → forward_key R (name_index R a) k (name_index R b) ≡ y → (name_index R b ≡ y) × (leads_in R a b ≡ true)
  unfolding forward_key enabled_key
  forward-leads a zero b y h l e = (e, leads-in R a b (leads-notafter f.formed a b h) (right-not-init a 0 b h (λ z. omega arith)))
  forward-leads a (suc zero) b y h l e =
      by (eqb (name_index R b) 0)
      (λ q. absurd (let z = rw q at e in omega arith))
      (λ q. let n : eqb b 0 ≡ false = by (eqb b 0) (λ z. absurd (eqb-false (name_index R b) 0 q (ap (name_index R) (eqb-true b 0 z) ∙ init-index R))) (λ z. z) in
      (rw q at e, leads-in R a b (leads-enables f.formed a b h) n))
  forward-leads a (suc (suc k)) b y h l e =
      let p = pair-rule a k b h in
      rival-leads a b y (paired-either a b p).0 (left-known f.formed a 2 b p) (right-known f.formed a 2 b p) (right-not-init a 2 b p (λ z. omega arith)) l e

  backward-leads : (a k b y : ℕ) → has a k b R.constraints ≡ true → y < 128 → backward_key R (name_index R a) k (name_index R b) ≡ y → (name_index R a ≡ y) × (leads_in R b a ≡ true)
  unfolding backward_key
  backward-leads a zero b y h l e = absurd (omega arith)
  backward-leads a (suc zero) b y h l e = absurd (omega arith)
  backward-leads a (suc (suc k)) b y h l e =
      let p = pair-rule a k b h in
      rival-leads b a y (paired-either a b p).1 (right-known f.formed a 2 b p) (left-known f.formed a 2 b p) (not-init f.formed a (f.formed.left a 2 b p)) l e

  module _ (rows : List ℕ) (j : ℕ) (e : j ≡ length R.constraints) (w : Rowing R rows j) where
    forward-left : (i : ℕ) → i < length R.constraints → left_at rows (2 * i) ≡ name_index R (get_or R.constraints i filler_constraint).left
    forward-left i h = w.left (2 * i) (omega arith) ∙ both_first (λ c. name_index R c.left) (λ c. name_index R c.right) R.constraints i filler_constraint h

    backward-left : (i : ℕ) → i < length R.constraints → left_at rows (2 * i + 1) ≡ name_index R (get_or R.constraints i filler_constraint).right
    backward-left i h = w.left (2 * i + 1) (omega arith) ∙ both-second (λ c. name_index R c.left) (λ c. name_index R c.right) R.constraints i filler_constraint h

    record Row (i y : ℕ) : Type 0 where
      pub left : left_at rows i < length (names R)
      pub holds : leads_in R (name_at R (left_at rows i)) (name_at R y) ≡ true

    row_from : (i y a b : ℕ) → a among names R → b among names R → left_at rows i ≡ name_index R a → name_index R b ≡ y → leads_in R a b ≡ true → Row i y
    row_from i y a b ka kb el er h = record {
      left = rw el (index-low R a ka);
      holds = rw (el, at-index R a ka, ← er, at-index R b kb) h;
    }

    -- the two rows of the k-th constraint
    module _ (k y : ℕ) (u : k < length R.constraints) (l : y < 128) where
      abbrev constraint_at : Constraint
      constraint_at = get_or R.constraints k filler_constraint

      stands : has constraint_at.left constraint_at.rule constraint_at.right R.constraints ≡ true
      stands = has-at R.constraints k filler_constraint u

      ends-known : (constraint_at.left among names R) × (constraint_at.right among names R)
      ends-known = (left-known f.formed _ _ _ stands, right-known f.formed _ _ _ stands)

      first-row : get_or (member_keys_of R) (2 * k) 0 ≡ y → Row (2 * k) y
      first-row q =
          let r = forward-leads constraint_at.left constraint_at.rule constraint_at.right y stands l (sym (both_first (forward_key_of R) (backward_of R) R.constraints k filler_constraint u) ∙ q) in
          row_from (2 * k) y constraint_at.left constraint_at.right ends-known.0 ends-known.1 (forward-left k u) r.0 r.1

      second-row : get_or (member_keys_of R) (2 * k + 1) 0 ≡ y → Row (2 * k + 1) y
      second-row q =
          let r = backward-leads constraint_at.left constraint_at.rule constraint_at.right y stands l (sym (both-second (forward_key_of R) (backward_of R) R.constraints k filler_constraint u) ∙ q) in
          row_from (2 * k + 1) y constraint_at.right constraint_at.left ends-known.1 ends-known.0 (backward-left k u) r.0 r.1

    row_at : (i y : ℕ) → i < length (member_keys_of R) → y < length (names R) → get_or (member_keys_of R) i 0 ≡ y → Row i y
    row_at i y h l q =
        let n = both-length (forward_key_of R) (backward_of R) R.constraints in
        let m = names-few R f in
        halves-by i
        (λ k z. rw z (first-row k y (omega arith) (omega arith) (rw z at q)))
        (λ k z. rw z (second-row k y (omega arith) (omega arith) (rw z at q)))

    abbrev Wanted : ℕ → ℕ → Type 0
    Wanted a b = RowOf R 0 (member_keys_of R) rows a b

    -- the row of what leads: a constraint's forward one, or its backward one
    forward-row : (a k b : ℕ) → has a k b R.constraints ≡ true → forward_key R (name_index R a) k (name_index R b) ≡ name_index R b → Wanted a b
    forward-row a k b h q =
        let ka = left-known f.formed a k b h in
        let kb = right-known f.formed a k b h in
        at_has R.constraints filler_constraint a k b h (λ i u x y z. record {
          row = 2 * i;
          low = omega (arith, both-length (forward_key_of R) (backward_of R) R.constraints);
          left-known = ka;
          right-known = kb;
          left = forward-left i u ∙ (ap (name_index R) x ∙ place-known a (names R) ka);
          key = both_first (forward_key_of R) (backward_of R) R.constraints i filler_constraint u ∙ (rw (x, y, z) q ∙ (place-known b (names R) kb ∙ omega arith));
        })

    backward-row : (a k b : ℕ) → has b k a R.constraints ≡ true → backward_key R (name_index R b) k (name_index R a) ≡ name_index R b → Wanted a b
    backward-row a k b h q =
        let ka = right-known f.formed b k a h in
        let kb = left-known f.formed b k a h in
        at_has R.constraints filler_constraint b k a h (λ i u x y z. record {
          row = 2 * i + 1;
          low = omega (arith, both-length (forward_key_of R) (backward_of R) R.constraints);
          left-known = ka;
          right-known = kb;
          left = backward-left i u ∙ (ap (name_index R) z ∙ place-known a (names R) ka);
          key = both-second (forward_key_of R) (backward_of R) R.constraints i filler_constraint u ∙ (rw (x, y, z) q ∙ (place-known b (names R) kb ∙ omega arith));
        })

    enabled-index : (b : ℕ) → b among names R → eqb b 0 ≡ false → enabled_key (name_index R b) ≡ name_index R b
    unfolding enabled_key
    enabled-index b i n = by (eqb (name_index R b) 0) (λ q. clash (index-init b i (eqb-true (name_index R b) 0 q)) n) (λ q. rw q)

    rival-index : (a b : ℕ) → a among names R → b among names R → notafter R b a ≡ false → rival_key R (name_index R a) (name_index R b) ≡ name_index R b
    unfolding rival_key
    rival-index a b i k n = rw (at-index R a i, at-index R b k, n)

    row_of : (a b : ℕ) → leads_in R a b ≡ true → Wanted a b
    unfolding leads_in forward_key backward_key
    row_of a b h =
        let n : eqb b 0 ≡ false = not-true (eqb b 0) (and_r (leads R a b) (not (eqb b 0)) h) in
        leads-by f.formed a b (and_l (leads R a b) (not (eqb b 0)) h)
        (λ z q. forward-row a 0 b q refl)
        (λ z q. forward-row a 1 b q (enabled-index b (right-known f.formed a 1 b q) n))
        (λ z q r. pair-by a b
        (λ u v. let s : has a 2 b R.constraints ≡ true = rw (u, v) at q in forward-row a 2 b s (rival-index a b (left-known f.formed a 2 b s) (right-known f.formed a 2 b s) r))
        (λ u v. let s : has b 2 a R.constraints ≡ true = rw (u, v) at q in backward-row a 2 b s (rival-index a b (right-known f.formed b 2 a s) (left-known f.formed b 2 a s) r)))

    pub rowing-end : Leads (leads_in R) R 0 rows
    rowing-end = record {
      apart = ascending-distinct (names R) f.ascends;
      few = names-few R f;
      keys = member_keys_of R;
      linked = linking-end (member_keys_of R) (member_lefts_of R) rows (2 * j) (omega (arith, both-length (forward_key_of R) (backward_of R) R.constraints)) w;
      known = λ i y h l q. (row_at i y h l (q ∙ omega arith)).left;
      holds = λ i y h l q. (row_at i y h l (q ∙ omega arith)).holds;
      row_of = row_of;
    }

-- The closure over these rows is the bundle's: INIT is no member, so that what leads to it leads no further.
module _ (R : Record) (w : WellFormed R) (e : ℕ) (i : e among written R) where
  pub leads-in-known : (a b : ℕ) → leads_in R a b ≡ true → a among written R
  unfolding leads_in
  leads-in-known a b h = leads-known w a b (and_l (leads R a b) (not (eqb b 0)) h)

  abbrev inner : List ℕ
  inner = closure (leads_in R) (written R) (e ∷ [])

  inner-written : (x : ℕ) → x among inner → x among written R
  inner-written = closure-least (leads_in R) (written R) (e ∷ []) (λ x. x among written R) (λ a b h m. leads-in-known a b h) (λ x h. cons-by x e [] h (λ q. rw q i) (nil-no x))

  pub members-same : (x : ℕ) → mem x inner ≡ mem x (members R e)
  unfolding members leads_in
  members-same =
      closure-unique (leads R) (written R) (e ∷ []) (λ x. mem x inner)
      (λ a b h m. closure-closed (leads_in R) (written R) (e ∷ []) leads-in-known a b (leads-in R a b h (not-init w b (inner-written b m))) m)
      (closure-holds (leads_in R) (written R) (e ∷ []))
      (closure-least (leads_in R) (written R) (e ∷ []) (λ x. x among closure (leads R) (written R) (e ∷ []))
      (λ a b h m. closure-closed (leads R) (written R) (e ∷ []) (leads-known w) a b (and_l (leads R a b) (not (eqb b 0)) h) m)
      (closure-holds (leads R) (written R) (e ∷ [])))

-- one turn of the loop that links the rows: the indexes and keys as the code finds them
module _ (table rows : List ℕ) (l : List Constraint) (j : ℕ) (d : Constraint) (a b f g : ℕ) (R : Record) (q : l ≡ R.constraints) (fit : Fit R)
    (t : (x : ℕ) → get_or table x 0 ≡ name_index R x) (h : j < 512) (u : j < length l)
    (ea : a ≡ get_or table (get_or l j d).left 0) (eb : b ≡ get_or table (get_or l j d).right 0)
    (ef : a < length (names R) → b < length (names R) → f ≡ forward_key R a (get_or l j d).rule b)
    (eg : a < length (names R) → b < length (names R) → g ≡ backward_key R a (get_or l j d).rule b) (kf : f ≤ 128) (kg : g ≤ 128) where
  within : j < length R.constraints
  within = omega (arith, ap length q)

  same : get_or l j d ≡ get_or R.constraints j filler_constraint
  same = ap (λ z. get_or z j d) q ∙ get_or-any R.constraints j d filler_constraint within

  pub rowing-turn : length rows ≡ 2432 → Rowing R rows j → Rowing R (with_both rows j a b f g) (j + 1)
  rowing-turn size =
      let s = has-at R.constraints j filler_constraint within in
      let pa : a ≡ name_index R (get_or R.constraints j filler_constraint).left = ea ∙ (t _ ∙ ap (λ c. name_index R c.left) same) in
      let pb : b ≡ name_index R (get_or R.constraints j filler_constraint).right = eb ∙ (t _ ∙ ap (λ c. name_index R c.right) same) in
      let la : a < length (names R) = rw pa (index-low R _ (left-known fit.formed _ _ _ s)) in
      let lb : b < length (names R) = rw pb (index-low R _ (right-known fit.formed _ _ _ s)) in
      let pf : f ≡ forward_key_of R (get_or R.constraints j filler_constraint) = ef la lb ∙ (λ i. forward_key R (pa i) (same i).rule (pb i)) in
      let pg : g ≡ backward_of R (get_or R.constraints j filler_constraint) = eg la lb ∙ (λ i. backward_key R (pa i) (same i).rule (pb i)) in
      rowing-step R rows j a b f g size h within pa pb pf pg kf kg

-- the marks of the closure from an edit's index are those of the members
module _ (R : Record) (f : Fit R) (e : ℕ) (i : e among written R) (x : ℕ) (q : x ≡ name_index R e) where
  pub start-low : x < length (names R)
  start-low = rw q (index-low R e (written-names R e i))

  pub members-marks : marks_of R (λ y. mem y (closure (leads_in R) (written R) (name_at R x ∷ []))) ≡ marks_of R (λ y. mem y (members R e))
  members-marks =
      let n : name_at R x ≡ e = ap (name_at R) q ∙ at-index R e (written-names R e i) in
      rw n (marks-same R _ _ (names-few R f) (λ y k. members-same R f.formed e i y))

pub none-leading : (R : Record) (a b : ℕ) → leads_in R a b ≡ true → b among [] → a among []
none-leading R a b h k = nil-no b k
