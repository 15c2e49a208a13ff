-- What the searches of specs/Given.antt give: of the rows that have a property the lowest, or the shortest, and none where there is none. Assumes nothing.
use mathlib.Core.Path.{◌≡◌, refl, sym, ap, ◌∙◌}
use mathlib.Core.Bool.{Bool, true, false, cond}
use mathlib.Core.Logic.{◌⊎◌, inl, inr, ⊎_elim}
use mathlib.Core.List.{List, [], ◌∷◌}
use Prim.Native.Nat.{ℕ, zero, suc, ◌<◌}
use native.Mathlib.Omega.{arith}
use lib.ListN.{length}
use Rattle.std.specs.Option.{option_or}
use Rattle.std.specs.Prelude.{Option, Some, None, option_map}
use Rattle.lists.specs.Lists.{◌among◌, ascending}
use Rattle.lists.proofs.Lists.{by, clash, is-by, le-by, mem-head, mem-tail, cons-by, nil-no, ascending-tail, ascending-head}
use Rattle.reasons.specs.Reasons.{lower}
use Rattle.reasons.specs.Costs.{Ending, Route, goal_met, linked_on, Best}
use Rattle.reasons.specs.Given.{lower_of, first_row, Tails, lowest_row, ends_where, shortest}
use Rattle.reasons.proofs.Reasons.{lower-head, lower-tail}
use Rattle.reasons.proofs.Costs.{above-head, route-head}

-- the order of rows is asymmetric, and what is not lower than a row is not lower than a row that this one is not lower than
lower-asym : (a b : List ℕ) → lower b a ≡ true → lower a b ≡ false
unfolding lower
lower-asym a [] h = refl
lower-asym [] (y ∷ b) h = clash h refl
lower-asym (x ∷ a) (y ∷ b) h =
    is-by x y
    (λ e. rw e (lower-tail y a b ∙ lower-asym a b (sym (lower-tail y b a) ∙ (rw e at h))))
    (λ n. le-by x y (λ l. clash h (above-head y x b a (omega arith))) (above-head x y a b))

not-lower-trans : (a b c : List ℕ) → lower a b ≡ false → lower b c ≡ false → lower a c ≡ false
unfolding lower
not-lower-trans a b [] h k = refl
not-lower-trans a [] (z ∷ c) h k = clash refl k
not-lower-trans [] (y ∷ b) (z ∷ c) h k = clash refl h
not-lower-trans (x ∷ a) (y ∷ b) (z ∷ c) h k =
    let i = lower-head x y a b h in
    let j = lower-head y z b c k in
    le-by x z
    (λ l. let p : x ≡ y = omega arith in let q : y ≡ z = omega arith in
    rw (p, q) (lower-tail z a c ∙ not-lower-trans a b c (sym (lower-tail z a b) ∙ (rw (p, q) at h)) (sym (lower-tail z b c) ∙ (rw q at k))))
    (above-head x z a c)

-- the lowest of the rows that have P, or none where no row has it
abbrev pub IsLowest : (List ℕ → Type 0) → Option (List ℕ) → Type 0
IsLowest P None = (row : List ℕ) → P row → ⊥
IsLowest P (Some row) = P row × ((other : List ℕ) → P other → lower other row ≡ false)

pub lowest-same : {P Q : List ℕ → Type 0} → ((row : List ℕ) → P row → Q row) → ((row : List ℕ) → Q row → P row)
    → (o : Option (List ℕ)) → IsLowest P o → IsLowest Q o
lowest-same f g None h = λ row q. h row (g row q)
lowest-same f g (Some row) h = (f row h.0, λ other q. h.1 other (g other q))

pub lowest-of : (P Q : List ℕ → Type 0) (a b : Option (List ℕ)) → IsLowest P a → IsLowest Q b → IsLowest (λ row. P row ⊎ Q row) (lower_of a b)
lowest-of P Q None None h k = λ row q. ⊎_elim (h row) (k row) q
lowest-of P Q None (Some b) h k = (inr k.0, λ row q. ⊎_elim (λ p. absurd (h row p)) (k.1 row) q)
lowest-of P Q (Some a) None h k = (inl h.0, λ row q. ⊎_elim (h.1 row) (λ p. absurd (k row p)) q)
lowest-of P Q (Some a) (Some b) h k =
    by (lower b a)
    (λ e. rw e (inr k.0, λ row q. ⊎_elim (λ p. not-lower-trans row a b (h.1 row p) (lower-asym a b e)) (k.1 row) q))
    (λ e. rw e (inl h.0, λ row q. ⊎_elim (h.1 row) (λ p. not-lower-trans row b a (k.1 row p) e) q))

-- x, and then a row that has P
abbrev Behind : ℕ → (List ℕ → Type 0) → List ℕ → Type 0
Behind x P row = (rest : List ℕ) × ((row ≡ x ∷ rest) × P rest)

lowest-behind : (P : List ℕ → Type 0) (x : ℕ) (o : Option (List ℕ)) → IsLowest P o → IsLowest (Behind x P) (option_map (λ rest. x ∷ rest) o)
lowest-behind P x None h = λ row q. h q.0 q.1.1
lowest-behind P x (Some row) h = ((row, (refl, h.0)), λ other q. rw q.1.0 (lower-tail x q.0 row ∙ h.1 q.0 q.1.1))

-- the lowest of rows that begin with different names has the lowest name
module _ (Q : ℕ → List ℕ → Type 0) (begins : (y : ℕ) (row : List ℕ) → Q y row → (rest : List ℕ) × (row ≡ y ∷ rest)) where
  abbrev OneOf : List ℕ → List ℕ → Type 0
  OneOf known row = (y : ℕ) × ((y among known) × Q y row)

  later-above : {x y : ℕ} {a b : List ℕ} → x < y → Q x a → Q y b → lower b a ≡ false
  later-above {x} {y} {a} {b} l p q = let s = begins x a p in let t = begins y b q in rw (s.1, t.1) (above-head y x t.0 s.0 l)

  lowest-else : (x : ℕ) (known : List ℕ) → ascending (x ∷ known) ≡ true → (o p : Option (List ℕ)) → IsLowest (Q x) o → IsLowest (OneOf known) p
      → IsLowest (OneOf (x ∷ known)) (option_or o p)
  lowest-else x known a None p h k =
      lowest-same (λ row q. (q.0, (mem-tail q.0 x known q.1.0, q.1.1)))
      (λ row q. cons-by q.0 x known q.1.0 (λ e. absurd (h row (rw e at q.1.1))) (λ i. (q.0, (i, q.1.1))))
      p k
  lowest-else x known a (Some row) p h k = (
    (x, (mem-head x known, h.0)),
    λ other q. cons-by q.0 x known q.1.0 (λ e. h.1 other (rw e at q.1.1)) (λ i. later-above (ascending-head x known a q.0 i) h.0 q.1.1),
  )

  lowest-first : (row : ℕ → Option (List ℕ)) → ((y : ℕ) → IsLowest (Q y) (row y)) → (known : List ℕ) → ascending known ≡ true
      → IsLowest (OneOf known) (first_row row known)
  unfolding first_row
  lowest-first row h [] a = λ r q. nil-no q.0 q.1.0
  lowest-first row h (x ∷ known) a =
      lowest-else x known a (row x) (first_row row known) (h x) (lowest-first row h known (ascending-tail x known a))

-- the rows of n names that have P
abbrev pub OfLength : (List ℕ → Type 0) → ℕ → List ℕ → Type 0
OfLength P n row = P row × (length row ≡ n)

-- for each name and each length the lowest of what may follow
abbrev pub TailsAre : Tails → Ending → Type 0
TailsAre tail Tail = (x n : ℕ) → IsLowest (OfLength (Tail x) n) (tail x n)

module _ (link : ℕ → ℕ → Bool) (Tail : Ending) where
  -- what stands after x in a row from x: a tail, or a row from a name that x is linked to
  abbrev LinkedRow : ℕ → ℕ → ℕ → List ℕ → Type 0
  LinkedRow x n y row = (link x y ≡ true) × OfLength (Route link Tail y) n row

  abbrev RestOf : List ℕ → ℕ → ℕ → List ℕ → Type 0
  RestOf known x n rest = OfLength (Tail x) n rest ⊎ ((y : ℕ) × ((y among known) × LinkedRow x n y rest))

  rest-route : (known : List ℕ) (x n : ℕ) (row : List ℕ) → Behind x (RestOf known x n) row → OfLength (Route link Tail x) (suc n) row
  rest-route known x n row (rest, (e, inl t)) = rw e (goal_met t.0, ap suc t.1)
  rest-route known x n row (rest, (e, inr (y, (i, (l, r))))) = rw e (linked_on l r.0, ap suc r.1)

  module _ (known : List ℕ) (leads : (x y : ℕ) → link x y ≡ true → y among known) where
    route-rest : (x n : ℕ) (row : List ℕ) → Route link Tail x row → length row ≡ suc n → Behind x (RestOf known x n) row
    route-rest x n row (goal_met {tail} t) m = (tail, (refl, inl (t, omega arith)))
    route-rest x n row (linked_on {y} {row = rest} l r) m = (rest, (refl, inr (y, (leads x y l, (l, (r, omega arith))))))

    -- The search for the lowest row of n names finds it, so that rows may be the tails of other rows.
    module _ (tail : Tails) (h : TailsAre tail Tail) (a : ascending known ≡ true) where
      pub lowest-row : TailsAre (λ x n. lowest_row link tail known n x) (Route link Tail)
      unfolding lowest_row
      lowest-row x zero = λ row r. let b = route-head r.0 in absurd (let z = rw b.1 at r.1 in omega arith)
      lowest-row x (suc n) =
          lowest-same (rest-route known x n) (λ row r. route-rest x n row r.0 r.1) _
          (lowest-behind (RestOf known x n) x _
          (lowest-of (OfLength (Tail x) n) _ (tail x n) _ (h x n)
          (lowest-first (LinkedRow x n) (λ y row q. route-head q.1.0) (λ y. cond (link x y) (lowest_row link tail known n y) None)
          (λ y. by (link x y)
          (λ e. rw e (lowest-same (λ row q. (e, q)) (λ row q. q.1) _ (lowest-row y n)))
          (λ e. rw e (λ row q. clash q.0 e)))
          known a)))

-- nothing follows where the test holds
pub ends-where : (test : ℕ → Bool) → TailsAre (ends_where test) (λ x tail. (test x ≡ true) × (tail ≡ []))
unfolding ends_where lower
ends-where test x zero =
    by (test x)
    (λ e. rw e (((refl, refl), refl), λ other q. refl))
    (λ e. rw e (λ row q. clash q.0.0 refl))
ends-where test x (suc n) = λ row q. absurd (let z = rw q.0.1 at q.1 in omega arith)

-- the best of all rows that have P; or each of them has more than n names
abbrev pub IsShortest : (List ℕ → Type 0) → ℕ → Option (List ℕ) → Type 0
IsShortest P n None = (row : List ℕ) → P row → n < length row
IsShortest P n (Some row) = Best P row

module _ (P : List ℕ → Type 0) where
  shortest-else : (n : ℕ) (o p : Option (List ℕ)) → IsShortest P n o → IsLowest (OfLength P (suc n)) p → IsShortest P (suc n) (option_or o p)
  shortest-else n (Some row) p h k = h
  shortest-else n None None h k = λ row p. le-by (length row) (suc n) (λ l. absurd (k row (p, omega (arith, h row p)))) (λ l. l)
  shortest-else n None (Some row) h k = record {
    given = k.0.0;
    fewest = λ other p. omega (arith, h other p, k.0.1);
    lowest = λ other p m. k.1 other (p, m ∙ k.0.1);
  }

  -- no row of P is empty
  pub shortest-best : (row : ℕ → Option (List ℕ)) → ((n : ℕ) → IsLowest (OfLength P n) (row n)) → (P [] → ⊥) → (n : ℕ)
      → IsShortest P n (shortest row n)
  unfolding shortest
  shortest-best row h e zero = λ r p. by-length r p
    where
      by-length : (r : List ℕ) → P r → 0 < length r
      by-length [] p = absurd (e p)
      by-length (x ∷ r) p = omega arith
  shortest-best row h e (suc n) = shortest-else n (shortest row n) (row (suc n)) (shortest-best row h e n) (h (suc n))
