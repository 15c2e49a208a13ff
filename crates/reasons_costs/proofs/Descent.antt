-- The lowest step at each index gives the lowest steps at each name. Assumes nothing.
use mathlib.Core.Path.{◌≡◌, sym, ap, ◌∙◌}
use mathlib.Core.Bool.{Bool, true, false}
use mathlib.Core.Logic.{◌⊎◌, inl, inr, ⊎_elim}
use mathlib.Core.List.{List, [], ◌∷◌, ◌++◌, map, append_assoc, map-append}
use Prim.Native.Nat.{ℕ, suc, ◌+◌, ◌≤◌, ◌<◌}
use native.Mathlib.Omega.{arith}
use native.Mathlib.Numerals.{add-one}
use lib.Dec.{eqb}
use lib.ListN.{length, get_or, set, take, length-append, length-map}
use lib.Seq.{take-suc-set, length-take-le}
use borrow.Author.Tests.{eqb-true, eq-eqb}
use Rattle.std.specs.Prelude.{Option, Some, None, MatchOption}
use Rattle.lists.specs.Lists.{index_of, ◌among◌, ascending}
use Rattle.lists.proofs.Lists.{clash, is-by, le-by, and_l, and_r, and_i, mem_index}
use Rattle.record.specs.Record.{Record, names}
use Rattle.record_tables.proofs.lookup.Places.{ascends}
use Rattle.graph.specs.links.Marks.{name_at}
use Rattle.graph.specs.links.Resolved.{Resolved}
use Rattle.graph.proofs.links.Names.{get_or-among, get_or-place, place-get_or}
use Rattle.reasons.specs.Reasons.{WalkAlong, alone}
use Rattle.reasons.specs.Costs.{Best, LowestSteps, last_step, next_step, Ahead}
use Rattle.reasons.specs.Aims.{Aim, to_init, back_to, to_ring, link_of, TailOf}
use Rattle.reasons.proofs.Reasons.{walk-snoc}
use Rattle.reasons.proofs.Costs.{route-head, steps-on, walk-few}
use Rattle.reasons_costs.specs.declared.Relation.{Relation}
use Rattle.reasons_costs.specs.declared.Search.{Search}
use Rattle.reasons_costs.specs.declared.row.LeastRow.{LeastRow}
use Rattle.reasons_costs.specs.Searches.{unreached, relation_of, Searches, cost_at, LeastCosts, Descended}
use Rattle.reasons_costs.specs.Levels.{is_down, LowestOf, NextOf}
use Rattle.reasons_costs.proofs.Links.{link-known, aim-linked, aim-links}
use Rattle.reasons_costs.proofs.Least.{cost-known, cost-at}

-- what follows a goal is nothing, or begins with it
tail-head : (R : Record) (aim : Aim) (x : ℕ) (t : List ℕ) → TailOf R aim x t → (t ≡ []) ⊎ ((rest : List ℕ) × (t ≡ x ∷ rest))
tail-head R to_init x t e = inl e.1
tail-head R (back_to s r) x t e = inl e.1
tail-head R (to_ring s) x t r = inr (route-head r)

-- what a call says of the link from x to y
abbrev pub TellsDown : Relation → List ℕ → List ℕ → ℕ → ℕ → Bool → Type 0
TellsDown relation rows costs x y b = (R : Record) → Resolved R rows → x < length (names R) → y < length (names R) → b ≡ is_down R relation costs x y

-- the lowest of a range
pub lowest-in-range : (test : ℕ → Bool) (n : ℕ) (r : Option ℕ)
    → MatchOption r ((y : ℕ) → 0 ≤ y → y < n → y < n → test y ≡ false)
    (λ y. (0 ≤ y) × (y < n) × (y < n → true ≡ test y) × ((z : ℕ) → 0 ≤ z → z < y → z < n → test z ≡ false))
    → LowestOf test n r
lowest-in-range test n None w = λ y h. w y (omega arith) h h
lowest-in-range test n (Some y) w = (sym (w.2 w.1), λ z h. w.3 z (omega arith) h (omega (arith, w.1)))

-- A row down from x stands at `last`, after so many names.
pub record Descending (R : Record) (aim : Aim) (costs indexes : List ℕ) (count x last : ℕ) : Type 0 where
  pub last-low : last < length (names R)
  pub finite : get_or costs last 0 < unreached
  pub walk : WalkAlong (link_of R aim) (name_at R x) (name_at R last) (map (name_at R) (take count indexes))
  pub far : count + get_or costs last 0 ≡ get_or costs x 0 + 1
  pub on : (rest : List ℕ) → LowestSteps (link_of R aim) (TailOf R aim) (cost_at R costs) (name_at R last) (name_at R last ∷ rest)
      → LowestSteps (link_of R aim) (TailOf R aim) (cost_at R costs) (name_at R x) (map (name_at R) (take count indexes) ++ rest)

take-named : (R : Record) (l : List ℕ) (n v : ℕ) → n < length l → map (name_at R) (take (n + 1) (set l n v)) ≡ map (name_at R) (take n l) ++ (name_at R v ∷ [])
take-named R l n v h = rw (add-one n, take-suc-set l n v h) (map-append (name_at R) (take n l) (v ∷ []))

pub descending-start : {R : Record} {aim : Aim} {costs : List ℕ} {x : ℕ} (indexes : List ℕ) → 0 < length indexes → x < length (names R) → get_or costs x 0 < unreached
    → Descending R aim costs (set indexes 0 x) 1 x x
descending-start {R} {x} indexes l h f =
    let e : map (name_at R) (take 1 (set indexes 0 x)) ≡ name_at R x ∷ [] = take-named R indexes 0 x l in
    record { last-low = h; finite = f; walk = rw e alone; far = omega arith; on = λ rest p. rw e p }

module _ {R : Record} {aim : Aim} {s : Search} {rows costs : List ℕ} (g : Resolved R rows) (a : ascending (names R) ≡ true) (q : Searches R aim s)
    (k : LeastCosts R aim costs) where
  abbrev Down : ℕ → ℕ → Bool
  Down = is_down R (relation_of aim) costs

  cost-index : (i : ℕ) → i < length (names R) → cost_at R costs (name_at R i) ≡ get_or costs i 0
  cost-index = cost-at R g.notafters.apart costs

  -- no row has no names
  cost-some : (x : ℕ) → cost_at R costs x ≡ 0 → ⊥
  cost-some x e =
      let w = k.costing.witness x (omega (arith, e)) in
      omega (arith, ap length (route-head w.1.0).1, w.1.1)

  link-right : (x y : ℕ) → link_of R aim x y ≡ true → y among names R
  link-right x y l = (link-known g (relation_of aim) x y (aim-linked g aim x y l).0).1

  -- a goal that costs as little as its name has the goal's cost
  goal-is : (i : ℕ) → i < length (names R) → get_or costs i 0 < unreached → (t : List ℕ) → TailOf R aim (name_at R i) t → suc (length t) ≡ get_or costs i 0
      → get_or s.goals i 0 ≡ get_or costs i 0
  goal-is i h f t e n =
      let most : get_or s.goals i 0 ≤ suc (length t) = rw (place-get_or (names R) i g.notafters.apart h) at (q.least (name_at R i) t e).1 in
      let u = q.tail i h (omega (arith, most, n, f)) in
      omega (arith, most, n, u.1.1, k.costing.goal (name_at R i) u.0 u.1.0, cost-index i h)

  down-name : (i z : ℕ) → i < length (names R) → link_of R aim (name_at R i) z ≡ true → suc (cost_at R costs z) ≡ cost_at R costs (name_at R i)
      → Down i (index_of z (names R)) ≡ true
  unfolding is_down
  down-name i z h l e =
      let m = link-right (name_at R i) z l in
      let less : get_or costs (index_of z (names R)) 0 + 1 ≡ get_or costs i 0 = omega (arith, e, cost-known R costs z m, cost-index i h) in
      and_i _ _ (eq-eqb _ _ less) (rw (get_or-place z (names R) m) (aim-linked g aim (name_at R i) z l).0)

  module _ (i : ℕ) (h : i < length (names R)) (f : get_or costs i 0 < unreached) where
    module _ (r : ℕ) (l : r < length (names R)) (d : Down i r ≡ true) where
      on-less : suc (get_or costs r 0) ≡ get_or costs i 0
      unfolding is_down
      on-less = omega (arith, eqb-true (get_or costs r 0 + 1) (get_or costs i 0) (and_l _ _ d))

      on-link : link_of R aim (name_at R i) (name_at R r) ≡ true
      unfolding is_down
      on-link = aim-links g aim (name_at R i) (name_at R r) (and_r (eqb (get_or costs r 0 + 1) (get_or costs i 0)) _ d) (k.scoped i h f) (k.scoped r l (omega (arith, on-less, f)))

      module _ (lowest : (z : ℕ) → z < r → Down i z ≡ false) (before : get_or s.goals i 0 ≡ get_or costs i 0 → r ≤ i) where
        on-lowest : (z : ℕ) → link_of R aim (name_at R i) z ≡ true → suc (cost_at R costs z) ≡ cost_at R costs (name_at R i) → name_at R r ≤ z
        on-lowest z u e =
            let m = link-right (name_at R i) z u in
            let j = index_of z (names R) in
            le-by r j
            (λ v. is-by r j
            (λ w. let same : name_at R r ≡ z = ap (name_at R) w ∙ get_or-place z (names R) m in omega (arith, same))
            (λ w. omega (arith, ascends (names R) r j a (omega (arith, v, w)) (mem_index z (names R) m), get_or-place z (names R) m)))
            (λ v. clash (down-name i z h u e) (lowest j v))

        on-ahead : Ahead (TailOf R aim) (cost_at R costs (name_at R i)) (name_at R i) (name_at R r)
        on-ahead t e n =
            let same = goal-is i h f t e (n ∙ cost-index i h) in
            let v : r < i = is-by r i (λ w. absurd (omega (arith, ap (λ j. get_or costs j 0) w, on-less))) (λ w. omega (arith, w, before same)) in
            ⊎_elim
            (λ w. absurd (cost-some (name_at R r) (omega (arith, cost-index r l, on-less, cost-index i h, n, ap length w))))
            (λ w. (name_at R i, (w.0, (w.1, ascends (names R) r i a v h))))
            (tail-head R aim (name_at R i) t e)

        on-steps : {row : List ℕ} → LowestSteps (link_of R aim) (TailOf R aim) (cost_at R costs) (name_at R r) row
            → LowestSteps (link_of R aim) (TailOf R aim) (cost_at R costs) (name_at R i) (name_at R i ∷ row)
        on-steps p = next_step on-link (omega (arith, on-less, cost-index i h, cost-index r l)) on-lowest on-ahead p

    -- the row ends at i
    module _ (stop : (y : ℕ) → y < length (names R) → Down i y ≡ true → (get_or s.goals i 0 ≡ get_or costs i 0) × (i < y)) where
      end-steps : (t : List ℕ) → Best (TailOf R aim (name_at R i)) t → suc (length t) ≡ get_or costs i 0
          → LowestSteps (link_of R aim) (TailOf R aim) (cost_at R costs) (name_at R i) (name_at R i ∷ t)
      end-steps t b n = last_step b (n ∙ sym (cost-index i h)) (λ y u e.
          let m = link-right (name_at R i) y u in
          let v = (stop (index_of y (names R)) (mem_index y (names R) m) (down-name i y h u e)).1 in
          ⊎_elim
          (λ w. absurd (cost-some y (omega (arith, e, n, cost-index i h, ap length w))))
          (λ w. (name_at R i, (w.0, (w.1, omega (arith, ascends (names R) i (index_of y (names R)) a v (mem_index y (names R) m), get_or-place y (names R) m)))))
          (tail-head R aim (name_at R i) t b.given))

      -- it is a goal, which costs as little
      end-goal : get_or s.goals i 0 ≡ get_or costs i 0
      end-goal = steps-on k.costing (name_at R i) (omega (arith, f, cost-index i h))
          (λ t e n. goal-is i h f t e (n ∙ cost-index i h))
          (λ y u e. (stop (index_of y (names R)) (mem_index y (names R) (link-right (name_at R i) y u)) (down-name i y h u e)).0)

      end-best : (t : List ℕ) → Best (TailOf R aim (name_at R i)) t → suc (length t) ≡ get_or costs i 0
      end-best t b =
          let u = q.tail i h (omega (arith, end-goal, f)) in
          omega (arith, end-goal, u.1.1, b.fewest u.0 u.1.0, k.costing.goal (name_at R i) t b.given, cost-index i h)

  module _ {indexes : List ℕ} {count x last : ℕ} (d : Descending R aim costs indexes count x last) (h : x < length (names R)) where
    -- no more names than the record has
    few-names : {m : ℕ} {row : List ℕ} → WalkAlong (link_of R aim) (name_at R x) (name_at R m) row → m < length (names R)
        → length row + get_or costs m 0 ≡ get_or costs x 0 + 1 → length row ≤ length (names R)
    few-names w l n = walk-few k.costing (names R) link-right w (get_or-among (names R) x h) (omega (arith, n, cost-index _ l, cost-index x h))

    walk-length : count ≤ length indexes → length (map (name_at R) (take count indexes)) ≡ count
    walk-length l = length-map (take count indexes) (name_at R) ∙ length-take-le count indexes l

    -- one name more has its place
    descending-room : {r : ℕ} → count ≤ length indexes → r < length (names R) → Down last r ≡ true → count < length (names R)
    descending-room {r} l m e =
        let n : length (map (name_at R) (take count indexes) ++ (name_at R r ∷ [])) ≡ count + 1 =
        length-append (map (name_at R) (take count indexes)) (name_at R r ∷ []) ∙ ap (λ j. j + 1) (walk-length l) in
        omega (
          arith,
          n,
          few-names (walk-snoc d.walk (on-link last d.last-low d.finite r m e)) m
              (omega (arith, n, on-less last d.last-low d.finite r m e, d.far)),
        )

    pub descending-step : {r : ℕ} → count < length indexes → r < length (names R)
        → NextOf (Down last) (length (names R)) (get_or s.goals last 0) (get_or costs last 0) last (Some r)
        → Descending R aim costs (set indexes count r) (count + 1) x r
    descending-step {r} l m n =
        let e = take-named R indexes count r l in
        let less = on-less last d.last-low d.finite r m n.0 in
        record {
          last-low = m;
          finite = omega (arith, less, d.finite);
          walk = rw e (walk-snoc d.walk (on-link last d.last-low d.finite r m n.0));
          far = omega (arith, less, d.far);
          on = λ rest p. rw (e, append_assoc (map (name_at R) (take count indexes)) (name_at R r ∷ []) rest)
              (d.on (name_at R r ∷ rest) (on-steps last d.last-low d.finite r m n.0 n.1.0 n.1.1 p));
        }

  pub descending-end : (row : LeastRow) {x : ℕ} → Descending R aim costs row.indexes row.count x row.last → x < length (names R) → row.count ≤ length row.indexes
      → NextOf (Down row.last) (length (names R)) (get_or s.goals row.last 0) (get_or costs row.last 0) row.last None
      → Descended R aim s.goals costs x row
  descending-end row d h l n =
      let last = row.last in
      record {
        last-low = d.last-low;
        finite = d.finite;
        goal-cost = end-goal last d.last-low d.finite n;
        few = omega (arith, walk-length d h l, few-names d h d.walk d.last-low (omega (arith, walk-length d h l, d.far)));
        walk = d.walk;
        steps = λ t b e. d.on t (end-steps last d.last-low d.finite n t b e);
        at-goal = λ t b. end-best last d.last-low d.finite n t b;
      }

  -- after as many names as there can be, the row ends
  pub descending-full : (row : LeastRow) {x : ℕ} → Descending R aim costs row.indexes row.count x row.last → x < length (names R) → row.count ≤ length row.indexes
      → length (names R) ≤ row.count → Descended R aim s.goals costs x row
  descending-full row d h l m = descending-end row d h l (λ y u e. absurd (omega (arith, descending-room d h l u e)))
