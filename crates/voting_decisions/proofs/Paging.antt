-- Decisions and orders, from the pages of a schedule. Assumes nothing.
use mathlib.Core.Path.{◌≡◌, refl, ap, sym, ◌∙◌}
use mathlib.Core.Bool.{true, false, cond, ◌&&◌}
use mathlib.Core.List.{List, [], ◌∷◌, ◌++◌}
use Rattle.std.specs.Prelude.{Result, flat_map}
use Rattle.refusals.specs.declared.Refusal.{Refusal}
use Prim.Native.Nat.{ℕ, suc, ◌+◌, ◌≤◌, ◌<◌}
use native.Mathlib.Numerals.{add-one}
use native.Mathlib.Omega.{arith}
use borrow.Author.Tests.{eq-eqb, ne_eqb, eqb-false, lt-ltb, le-ltb}
use lib.ListN.{length, take, get_or, length-map}
use Rattle.record.specs.declared.Edit.{Edit}
use Rattle.record.specs.declared.Constraint.{Constraint}
use Rattle.lists.specs.Lists.{mem, index_of, ◌among◌}
use Rattle.record.specs.Record.{Record, names, written, name_of, has, WellFormed}
use Rattle.record.specs.Schedule.{schedule}
use Rattle.record.specs.Judgement.{sound}
use Rattle.lists.proofs.Lists.{by, is-by, le-by, clash, get_or-mapped, mem-other}
use Rattle.record.proofs.Records.{written-names, right-written, not-init}
use Rattle.record.proofs.Scheduled.{schedule-sound}
use Rattle.lists.specs.Keyed.{inserted, united}
use Rattle.record_tables.specs.Table.{constraint_key}
use Rattle.graph.specs.links.Marks.{name_at, place_in}
use Rattle.graph.proofs.links.Marks.{values-at}
use Rattle.graph.proofs.links.Names.{get_or-among, get_or-place, place-known}
use Rattle.voting.specs.Proposal.{joined_constraints, before, unordered, decisions, orders, finished, decision_on}
use Rattle.voting.proofs.Finished.{unordered-from}
use Rattle.record_joining.specs.declared.insertion.Constraints.{Constraints}
use Rattle.record_joining.specs.insertion.Insertion.{table_of}
use Rattle.voting_drafts.proofs.pairs.Unordered.{index-low, index-name}
use Rattle.voting_drafts.proofs.draft.Places.{place_none, place-there}
use Rattle.voting_drafts.specs.ranking.Ranking.{rank_of, rank_order, pair_order}
use Rattle.voting_drafts.proofs.ranking.Joins.{flat-same, united-append, united-one, joins-next}
use Rattle.voting_drafts.proofs.ranking.Ordered.{left-unranked, right-unranked, left-lower, right-lower}
use Rattle.voting_decisions.specs.Decisions.{Paged, decided, decision_row}

-- a name other than INIT stands in the row where its place is not 0
module _ (rest : List ℕ) (x : ℕ) (n : x ≡ 0 → ⊥) {page : ℕ} (e : page ≡ place_in (0 ∷ rest) x) where
  pub not_in : page ≡ 0 → mem x (0 ∷ rest) ≡ false
  not_in z = mem-other 0 x rest n ∙ place_none rest x (λ q. absurd (n q)) (sym e ∙ z)

  pub is-in : (page ≡ 0 → ⊥) → (mem x (0 ∷ rest) ≡ true) × (page ≡ index_of x (0 ∷ rest))
  is-in z =
      let m : mem x (0 ∷ rest) ≡ true = mem-other 0 x rest n ∙ place-there rest x (λ q. z (e ∙ q)) in
      (m, e ∙ place-known x (0 ∷ rest) m)

  -- the decision on it
  pub decision-is : decided x page ≡ cond (mem x (0 ∷ rest)) (record { left = x; rule = 1; right = 0 }) (before x x)
  decision-is =
      is-by page 0 (λ z. let m : mem x (0 ∷ rest) ≡ false = not_in z in rw (eq-eqb page 0 z, m)) (λ z. let m : mem x (0 ∷ rest) ≡ true = (is-in z).0 in rw (ne_eqb page 0 z, m))

-- the order of a pair
order_is : (rest : List ℕ) (c : Constraint) → (c.left ≡ 0 → ⊥) → (c.right ≡ 0 → ⊥) → c.left < c.right → {a b : ℕ} → a ≡ place_in (0 ∷ rest) c.left → b ≡ place_in (0 ∷ rest) c.right
    → rank_order a b c.left c.right ≡ orders (0 ∷ rest) (c ∷ [])
unfolding orders
order_is rest c n m lower {a} {b} e f =
    is-by a 0
    (λ z. let u : mem c.left (0 ∷ rest) ≡ false = not_in rest c.left n e z in left-unranked a b c.left c.right z ∙ rw u)
    (λ z. let u = is-in rest c.left n e z in
    let p : mem c.left (0 ∷ rest) ≡ true = u.0 in
    is-by b 0
    (λ y. let v : mem c.right (0 ∷ rest) ≡ false = not_in rest c.right m f y in right-unranked a b c.left c.right y ∙ rw (p, v))
    (λ y. let v = is-in rest c.right m f y in
    let q : mem c.right (0 ∷ rest) ≡ true = v.0 in
    let s : index_of c.left (0 ∷ rest) ≡ a = sym u.1 in
    let t : index_of c.right (0 ∷ rest) ≡ b = sym v.1 in
    let apart : a ≡ b → ⊥ = λ w. let x : c.left ≡ c.right = sym (get_or-place c.left (0 ∷ rest) p) ∙ ap (λ (i : ℕ). get_or (0 ∷ rest) i 0) (s ∙ w ∙ sym t) ∙ get_or-place c.right (0 ∷ rest) q in omega arith in
    le-by b a
    (λ k. let l : b < a = omega (arith, apart) in right-lower a b c.left c.right z y l k ∙ rw (p, q, s, t, le-ltb a b k))
    (λ k. left-lower a b c.left c.right z y k ∙ rw (p, q, s, t, lt-ltb a b k))))

-- the orders of all pairs are those of each
orders-each : (row : List ℕ) (l : List Constraint) → flat_map (λ c. orders row (c ∷ [])) l ≡ orders row l
unfolding orders
orders-each row [] = refl
orders-each row (c ∷ l) = by (mem c.left row && mem c.right row) (λ e. rw (e, orders-each row l)) (λ e. rw (e, orders-each row l))

-- what is read of a page
module _ (R : Record) (rest index pages : List ℕ) (g : Paged R rest index pages) where
  pub page-at : (i : ℕ) → i < length (names R) → get_or pages i 0 ≡ place_in (0 ∷ rest) (name_at R i)
  page-at i h = ap (λ (l : List ℕ). get_or l i 0) g.paged ∙ values-at R (place_in (0 ∷ rest)) i h

  pub page-named : (x : ℕ) → x among names R → {p : ℕ} → p ≡ get_or pages (get_or index x 0) 0 → p ≡ place_in (0 ∷ rest) x
  page-named x h e = e ∙ page-at (get_or index x 0) (index-low R index g.indexed x h refl) ∙ ap (place_in (0 ∷ rest)) (index-name R index g.indexed x h refl)

  -- the i-th edit, its name and its page
  module _ (edits : List Edit) (e : edits ≡ R.edits) (i : ℕ) (d : Edit) (h : i < length edits) where
    pub decisions-named : (i < length (written R)) × ((get_or edits i d).name ≡ get_or (written R) i 0)
    unfolding written
    decisions-named =
        let q : i < length R.edits = rw e at h in
        let m = length-map R.edits name_of in
        (omega (arith, q), rw e (sym (get_or-mapped name_of R.edits i d 0 q)))

    known : get_or (written R) i 0 among written R
    known = get_or-among (written R) i decisions-named.0

    page-here : get_or pages (i + 1) 0 ≡ place_in (0 ∷ rest) (get_or (written R) i 0)
    unfolding names
    page-here = let l = decisions-named.0 in rw (add-one i) (page-at (suc i) (omega arith))

    -- the decision on it
    pub decision-here : {c : Constraint} → c ≡ decided (get_or edits i d).name (get_or pages (i + 1) 0) → c ≡ decision_on (0 ∷ rest) (get_or (written R) i 0)
    decision-here p =
        let x = get_or (written R) i 0 in
        let z : x ≡ 0 → ⊥ = λ y. clash (rw y at known) g.formed.unwritten in
        p ∙ ap (λ (y : ℕ). decided y (get_or pages (i + 1) 0)) decisions-named.1 ∙ decision-is rest x z page-here

    pub decisions-next : (t : List Constraint) → {c : Constraint} {table : Result Constraints Refusal} → c ≡ decided (get_or edits i d).name (get_or pages (i + 1) 0)
        → table ≡ table_of (inserted constraint_key c (united constraint_key t (flat_map (decision_row (0 ∷ rest)) (take i (written R)))))
        → table ≡ table_of (united constraint_key t (flat_map (decision_row (0 ∷ rest)) (take (i + 1) (written R))))
    decisions-next t {c} p q =
        joins-next (decision_row (0 ∷ rest)) t (written R) i 0 decisions-named.0
        (q ∙ ap table_of (united-one constraint_key _ c ∙ ap (λ (y : Constraint). united constraint_key (united constraint_key t (flat_map (decision_row (0 ∷ rest)) (take i (written R)))) (y ∷ [])) (decision-here p)))

  -- the pairs by the pages of their edits
  pub orders-by-page : ((a b : ℕ) → has a 2 b R.constraints ≡ true → a < b) → flat_map (pair_order (rank_of index pages)) (unordered R) ≡ orders (0 ∷ rest) (unordered R)
  orders-by-page lower =
      flat-same (pair_order (rank_of index pages)) (λ c. orders (0 ∷ rest) (c ∷ [])) (unordered R)
      (λ c m.
      let u = (unordered-from R c m).0 in
      let l : c.left among written R = g.formed.left c.left 2 c.right u in
      let v : c.right among written R = right-written g.formed c.left 2 c.right u (λ z. omega arith) in
      order_is rest c (eqb-false c.left 0 (not-init g.formed c.left l)) (eqb-false c.right 0 (not-init g.formed c.right v)) (lower c.left c.right u)
      (page-named c.left (written-names R c.left l) refl) (page-named c.right (written-names R c.right v) refl))
      ∙ orders-each (0 ∷ rest) (unordered R)

-- the schedule starts with INIT
pub scheduled-rest : (R : Record) → WellFormed R → sound R ≡ true → (rest : List ℕ) × (schedule R [] ≡ 0 ∷ rest)
scheduled-rest R w h = (schedule-sound R w h []).starts

-- both joined
pub finished-is : (R : Record) (rest : List ℕ) → schedule R [] ≡ 0 ∷ rest
    → united constraint_key (united constraint_key R.constraints (decisions (0 ∷ rest) (written R))) (orders (0 ∷ rest) (unordered R)) ≡ (finished R).constraints
unfolding finished joined_constraints
finished-is R rest e =
    sym (united-append constraint_key R.constraints (decisions (0 ∷ rest) (written R)) (orders (0 ∷ rest) (unordered R)))
    ∙ ap (λ (row : List ℕ). united constraint_key R.constraints (decisions row (written R) ++ orders row (unordered R))) (sym e)

-- a decision by its page
pub aborted-is : (x page : ℕ) → page ≡ 0 → {c : Constraint} → c ≡ before x x → c ≡ decided x page
aborted-is x page z e = rw (eq-eqb page 0 z) e

pub required-is : (x page : ℕ) → (page ≡ 0 → ⊥) → record { left = x; rule = 1; right = 0 } ≡ decided x page
required-is x page z = rw (ne_eqb page 0 z)

pub decisions-end : (R : Record) (edits : List Edit) (i : ℕ) → edits ≡ R.edits → length edits ≤ i → length (written R) ≤ i
unfolding written
decisions-end R edits i q h = let m = length-map R.edits name_of in let z : length R.edits ≤ i = rw q at h in omega arith
