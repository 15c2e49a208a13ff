-- The order of a set by marks of what waits: the lowest that is free comes next. Assumes nothing.
use mathlib.Core.Path.{◌≡◌, refl, sym, ap, ◌∙◌, fun_ext}
use mathlib.Core.Bool.{Bool, true, false, not, ◌&&◌, or-true, or-false, and-true, and-false}
use mathlib.Core.List.{List, [], ◌∷◌, ◌++◌, map, map-append}
use mathlib.Core.Option.{none, some}
use Rattle.std.specs.Prelude.{Option, Some, None, MatchOption, IfSome}
use Rattle.graph.specs.declared.links.Lefts.{Lefts}
use Prim.Native.Nat.{ℕ, zero, suc, ◌+◌, ◌-◌, ◌≤◌, ◌<◌}
use native.Mathlib.Omega.{arith}
use lib.Dec.{eqb}
use lib.ListN.{length, get_or, take, set, replicate, length-set}
use lib.Seq.{get_or-set_same, get_or-set_other}
use borrow.Author.Tests.{eq-eqb, ne_eqb, not-false}
use Rattle.lists.specs.Lists.{any, mem, index_of, ◌within◌, distinct, find, grown}
use Rattle.record.specs.Record.{Record, names, notafter}
use Rattle.record.specs.Schedule.{ready, order}
use Rattle.lists.proofs.Lists.{by, clash, is-by, le-by, and_l, and_r, and_i, same_by, mem-append, any-among-by, any-in, no-any, mem_index, grown-some, grown-none}
use Rattle.graph.specs.links.Marks.{name_at, marks_of}
use Rattle.graph.specs.links.Links.{left_at, FirstRow, Walks, NoRow, SomeRow}
use Rattle.graph.specs.links.Reach.{On, Off}
use Rattle.graph.proofs.links.Names.{get_or-among, get_or-place, place-get_or, place_same}
use Rattle.graph.proofs.links.Marks.{marks-size, marks-low, marks-on, on-marks, marks-are, marks-same}
use Rattle.graph.specs.links.Reversed.{Reversed}
use Rattle.graph.proofs.links.Links.{Looking, looking-start, looking-step}
use Rattle.graph.specs.links.Resolved.{Resolved}
use Rattle.judgement_marks.proofs.Standing.{marked-on, marked-off, marked-is}
use Rattle.judgement_marks.specs.declared.row.Row.{Row}
use Rattle.std.proofs.lemmas.List.{take_more_set}
use Rattle.judgement_marks.specs.schedules.Rows.{free, found, RowIs}

-- is an edit free, by the marks of what waits
module _ (R : Record) (test : ℕ → Bool) (rows waits : List ℕ) (g : Resolved R rows) (x : ℕ) (l : x < length (names R))
    (e : waits ≡ marks_of R test) where
  pub free-not : Off waits x → false ≡ free R test (name_at R x)
  unfolding free
  free-not f = rw (marked-off R test waits x e l f)

  pub free-held : SomeRow rows x (On waits) → false ≡ free R test (name_at R x)
  unfolding free
  free-held w =
      let k = g.notafters in
      let r = w k.keys k.linked in
      let a = name_at R (left_at rows r.row) in
      let q : notafter R (name_at R (left_at rows r.row)) (name_at R x) ≡ true = k.holds r.row x r.low l (omega (arith, r.key)) in
      let i = get_or-among (names R) (left_at rows r.row) (k.known r.row x r.low l (omega (arith, r.key))) in
      rw (any-in (λ a. notafter R a (name_at R x) && test a) (names R) a i (and_i _ _ q (marked-on R test waits _ e r.holds)))
      (sym (and-false (test (name_at R x))))

  pub free-yes : On waits x → NoRow rows x (On waits) → true ≡ free R test (name_at R x)
  unfolding free
  free-yes o w =
      let none_before = no-any (λ a. notafter R a (name_at R x) && test a) (names R)
      (λ a i. by (notafter R a (name_at R x))
      (λ q. let r = g.notafters.row_of a (name_at R x) q in
      let f : Off waits (index_of a (names R)) = rw r.left at (w g.notafters.keys g.notafters.linked r.row r.low (omega (arith, r.key, place-get_or (names R) x g.notafters.apart l))) in
      rw (q, by (test a) (λ t. absurd (f (rw e (on-marks R test (index_of a (names R)) (mem_index a (names R) i) (rw (get_or-place a (names R) i) t))))) (λ t. t)))
      (λ q. rw q)) in
      rw (marked-on R test waits x e o, none_before)

-- x is placed: who was held, not by x, is held
module _ (R : Record) (test later : ℕ → Bool) (waits : List ℕ) (x : ℕ) (e : waits ≡ marks_of R test) (q : set waits x 0 ≡ marks_of R later) where
  later-other : (y : ℕ) → y < length (names R) → (y ≡ x → ⊥) → later (name_at R y) ≡ test (name_at R y)
  later-other y l n =
      sym (marked-is R later (set waits x 0) y q l) ∙ ap (λ v. eqb v 1) (get_or-set_other waits x y 0 0 n) ∙ marked-is R test waits y e l

  still-held : (y : ℕ) → y < length (names R) → (y ≡ x → ⊥) → notafter R (name_at R x) (name_at R y) ≡ false → free R test (name_at R y) ≡ false → free R later (name_at R y) ≡ false
  unfolding free
  still-held y l n h f =
      by (later (name_at R y))
      (λ p. let t : test (name_at R y) ≡ true = sym (later-other y l n) ∙ p in
      any-among-by (λ a. notafter R a (name_at R y) && test a) (names R) (not-false _ (rw t at f))
      (λ a i z. let w : later a ≡ test a = rw (get_or-place a (names R) i) at (later-other (index_of a (names R)) (mem_index a (names R) i)
      (λ r. let v : name_at R x ≡ a = ap (name_at R) (sym r) ∙ get_or-place a (names R) i in clash (and_l (notafter R a (name_at R y)) _ z) (rw v at h))) in
      let u : any (λ a. notafter R a (name_at R y) && later a) (names R) ≡ true =
      any-in (λ a. notafter R a (name_at R y) && later a) (names R) a i (and_i _ _ (and_l (notafter R a (name_at R y)) _ z) (w ∙ and_r (notafter R a (name_at R y)) _ z)) in
      rw u (and-false (later (name_at R y)))))
      (λ p. rw p)

  -- so that below x only what comes after x can be free
  pub held_below : (r : ℕ) → r ≤ x → x < length (names R) → ((y : ℕ) → y < x → free R test (name_at R y) ≡ false)
      → ((y : ℕ) → y < length (names R) → notafter R (name_at R x) (name_at R y) ≡ true → y < r → free R later (name_at R y) ≡ false)
      → (y : ℕ) → y < r → free R later (name_at R y) ≡ false
  held_below r h l f k y u =
      by (notafter R (name_at R x) (name_at R y)) (λ z. k y (omega arith) z u) (λ z. still-held y (omega arith) (λ w. omega arith) z (f y (omega arith)))

-- the walk along those that come after x: of the ones that are passed F holds below the best
pub record Freeing (reversed : List ℕ) (F : ℕ → Type 0) (x : ℕ) (w : Lefts) (best : ℕ) : Type 0 where
  pub same : w.rows.now ≡ reversed
  pub under : best ≤ x
  pub along : Looking reversed x (λ i. left_at reversed i < best → F (left_at reversed i)) w.row

module _ {reversed : List ℕ} {F : ℕ → Type 0} {x : ℕ} where
  pub freeing-start : {w : Lefts} → x < 128 → FirstRow reversed x w.row → w.rows.now ≡ reversed → Freeing reversed F x w x
  freeing-start {w} h e same = record {
    same = same;
    under = omega arith;
    along = looking-start reversed x (λ i. left_at reversed i < x → F (left_at reversed i)) w.row (omega arith) e;
  }

  pub freeing_step : {y best best' : ℕ} {w w' : Lefts} → Walks w.rows.now w.row (Some y) w'.rows.now w'.row → best' ≤ best → (y < best' → F y)
      → Freeing reversed F x w best → Freeing reversed F x w' best'
  freeing_step {best} {best'} {w} {w'} d b f o =
      let h = rw o.same at d.1 in
      let f = rw h.1.0 at f in record {
        same = d.0 ∙ o.same;
        under = omega (arith, o.under);
        along = looking-step reversed x (λ i. left_at reversed i < best → F (left_at reversed i)) (λ i. left_at reversed i < best' → F (left_at reversed i)) w.row w'.row h.0 h.2 (λ i p k. p (omega arith)) f o.along;
      }

  pub freeing-end : {w : Lefts} {best : ℕ} → w.row ≡ 0 → Freeing reversed F x w best → (R : Record) (y : ℕ) → Reversed R reversed → distinct (names R) ≡ true → x < length (names R)
      → y < length (names R) → notafter R (name_at R x) (name_at R y) ≡ true → y < best → F y
  freeing-end q o R y g d l k e h =
      let r = g.row_of (name_at R x) (name_at R y) e in
      let z : left_at reversed r.row ≡ y = r.left ∙ place-get_or (names R) y d k in
      rw z at ((o.along g.keys g.linked).passed r.row (omega arith) r.low (omega (arith, r.key, place-get_or (names R) x d l)) (omega arith))

-- the first of a list that passes, by places
module _ (p : ℕ → Bool) where
  first-at : (l : List ℕ) (r : ℕ) → r < length l → p (get_or l r 0) ≡ true → ((y : ℕ) → y < r → p (get_or l y 0) ≡ false) → find p l ≡ some (get_or l r 0)
  unfolding find
  first-at [] r h e f = absurd (omega arith)
  first-at (x ∷ l) zero h e f = rw e
  first-at (x ∷ l) (suc r) h e f = rw (f 0 (omega arith)) (first-at l r (omega arith) e (λ y k. f (suc y) (omega arith)))

  first-nowhere : (l : List ℕ) → ((y : ℕ) → y < length l → p (get_or l y 0) ≡ false) → find p l ≡ none
  unfolding find
  first-nowhere [] f = refl
  first-nowhere (x ∷ l) f = rw (f 0 (omega arith)) (first-nowhere l (λ y k. f (suc y) (omega arith)))

-- what `is_free` says of an edit
abbrev pub TellsFree : List ℕ → List ℕ → ℕ → Bool → Type 0
TellsFree rows waits x b = (R : Record) (test : ℕ → Bool) → Resolved R rows → x < length (names R) → waits ≡ marks_of R test → b ≡ free R test (name_at R x)

module _ (R : Record) (test : ℕ → Bool) (n : ℕ) (q : n ≡ length (names R)) where
  lowest-found : (r : ℕ) → r < n → true ≡ free R test (name_at R r) → ((y : ℕ) → y < r → free R test (name_at R y) ≡ false)
      → find (free R test) (names R) ≡ some (name_at R r)
  lowest-found r h e f = (first-at (free R test) (names R) r (omega arith) (sym e) f)

  lowest-free-none : (r : ℕ) → n ≤ r → ((y : ℕ) → y < r → free R test (name_at R y) ≡ false) → find (free R test) (names R) ≡ none
  lowest-free-none r h f = (first-nowhere (free R test) (names R) (λ y k. f y (omega arith)))

  -- what a search from a place tells below which none is free
  pub lowest-told : (from : ℕ) → from ≤ n → ((y : ℕ) → y < from → free R test (name_at R y) ≡ false) → (r : Option ℕ)
      → MatchOption r ((y : ℕ) → from ≤ y → y < n → y < n → free R test (name_at R y) ≡ false)
      (λ x. (from ≤ x) × (x < n) × (x < n → true ≡ free R test (name_at R x)) × ((y : ℕ) → from ≤ y → y < x → y < n → free R test (name_at R y) ≡ false))
      → (find (free R test) (names R) ≡ found R r) × IfSome r (λ x. (y : ℕ) → y < x → free R test (name_at R y) ≡ false)
  lowest-told from l f None w = (lowest-free-none n (omega arith) (λ y h. le-by from y (λ k. w y k h h) (λ k. f y k)), tt)
  lowest-told from l f (Some x) w =
      let g : (y : ℕ) → y < x → free R test (name_at R y) ≡ false = λ y h. le-by from y (λ k. w.3 y k h (omega (arith, w.1))) (λ k. f y k) in
      (lowest-found x w.1 (w.2 w.1) g, g)

-- the test of what still waits of the set t, of which a row is placed
abbrev pub is_waiting : List ℕ → List ℕ → ℕ → Bool
is_waiting t placed y = mem y t && not (mem y placed)

-- free of what waits is ready and not yet placed
module _ (R : Record) (t placed : List ℕ) (sub : t within names R) where
  any-waiting : (x : ℕ) → any (λ a. notafter R a x && (mem a t && not (mem a placed))) (names R) ≡ any (λ a. notafter R a x && not (mem a placed)) t
  any-waiting x =
      same_by _ _
      (λ h. any-among-by _ (names R) h (λ a i e. let u = and_r (notafter R a x) _ e in any-in _ t a (and_l _ _ u) (and_i (notafter R a x) _ (and_l (notafter R a x) _ e) (and_r (mem a t) _ u))))
      (λ h. any-among-by _ t h (λ a i e. any-in _ (names R) a (sub a i) (and_i (notafter R a x) _ (and_l (notafter R a x) _ e) (and_i _ _ i (and_r (notafter R a x) _ e)))))

  free-ready : (x : ℕ) → free R (is_waiting t placed) x ≡ (not (mem x placed) && ready R t placed x)
  unfolding free ready
  free-ready x = rw (any-waiting x) (turn (mem x t) (not (mem x placed)) (not (any (λ a. notafter R a x && not (mem a placed)) t)))
    where
      turn : (a b c : Bool) → (a && b && c) ≡ (b && (a && c))
      turn true true c = refl
      turn true false c = refl
      turn false true c = refl
      turn false false c = refl

  first-ready : find (free R (is_waiting t placed)) (names R) ≡ find (λ y. not (mem y placed) && ready R t placed y) (names R)
  first-ready = ap (λ p. find p (names R)) (fun_ext free-ready)

-- to clear the mark of one that waits places it
placed-marks : (R : Record) (t placed : List ℕ) (r : ℕ) → distinct (names R) ≡ true → length (names R) ≤ 128 → r < length (names R)
    → set (marks_of R (is_waiting t placed)) r 0 ≡ marks_of R (is_waiting t (placed ++ (name_at R r ∷ [])))
unfolding mem
placed-marks R t placed r d few l =
    marks-are R (is_waiting t (placed ++ (name_at R r ∷ []))) (set (marks_of R (is_waiting t placed)) r 0) few
    (length-set (marks_of R (is_waiting t placed)) r 0 ∙ marks-size R (is_waiting t placed) few)
    (λ y. is-by y r (λ q. rw (q, same) (omega arith)) (λ q. rw (get_or-set_other (marks_of R (is_waiting t placed)) r y 0 0 q) (marks-low R (is_waiting t placed) y)))
    (λ y o. is-by y r (λ q. absurd (let z = rw (q, same) at o in omega arith))
    (λ q. let k = marks-on R (is_waiting t placed) y (rw (get_or-set_other (marks_of R (is_waiting t placed)) r y 0 0 q) at o) in (k.0, rw (later y k.0 q) k.1)))
    (λ y h e. is-by y r
    (λ q. clash (and_r (mem (name_at R r) t) _ (rw q at e)) (rw (mem-append (name_at R r) placed (name_at R r ∷ []), eq-eqb (name_at R r) (name_at R r) refl, or-true (mem (name_at R r) placed))))
    (λ q. rw (get_or-set_other (marks_of R (is_waiting t placed)) r y 0 0 q) (on-marks R (is_waiting t placed) y h (rw (later y h q) at e))))
  where
    same : get_or (set (marks_of R (is_waiting t placed)) r 0) r 0 ≡ 0
    same = get_or-set_same (marks_of R (is_waiting t placed)) r 0 0 (omega (arith, marks-size R (is_waiting t placed) few))

    later : (y : ℕ) → y < length (names R) → (y ≡ r → ⊥) → mem (name_at R y) (placed ++ (name_at R r ∷ [])) ≡ mem (name_at R y) placed
    later y h q =
        rw (mem-append (name_at R y) placed (name_at R r ∷ []), ne_eqb (name_at R y) (name_at R r) (λ e. q (place_same (names R) y r d h l e)))
        (or-false (mem (name_at R y) placed))

-- what the loop keeps: the order is what is still to be grown from the row
pub record Ordering (R : Record) (t indexes waits : List ℕ) (k fuel : ℕ) : Type 0 where
  pub known : (q : ℕ) → q < k → get_or indexes q 0 < length (names R)
  pub marks : waits ≡ marks_of R (is_waiting t (map (name_at R) (take k indexes)))
  pub rest : order R t ≡ grown (ready R t) (names R) fuel (map (name_at R) (take k indexes))

module _ (R : Record) (t : List ℕ) (sub : t within names R) (d : distinct (names R) ≡ true) (few : length (names R) ≤ 128) (n : ℕ) (c : n ≡ length (names R)) where
  pub ordering-start : (s : List ℕ) → s ≡ marks_of R (λ y. mem y t) → Ordering R t (replicate 128 0) s 0 (n - 0)
  unfolding order mem
  ordering-start s e = record {
    known = λ q h. absurd (omega arith);
    marks = e ∙ marks-same R _ _ few (λ x i. sym (and-true (mem x t)));
    rest = let z : length (names R) ≡ n - 0 = omega arith in rw z;
  }

  pub ordering-step : (indexes waits : List ℕ) (k r : ℕ) → k < length indexes → r < n → k < n
      → find (free R (is_waiting t (map (name_at R) (take k indexes)))) (names R) ≡ some (name_at R r)
      → Ordering R t indexes waits k (n - k) → Ordering R t (set indexes k r) (set waits r 0) (k + 1) (n - (k + 1))
  ordering-step indexes waits k r h l u f g =
      let row = map (name_at R) (take k indexes) in
      let e : map (name_at R) (take (k + 1) (set indexes k r)) ≡ map (name_at R) (take k indexes) ++ (name_at R r ∷ []) =
      ap (map (name_at R)) (take_more_set indexes k r h) ∙ map-append (name_at R) (take k indexes) (r ∷ []) in
      let z : n - k ≡ suc (n - (k + 1)) = omega arith in
      record {
        known = λ q w. is-by q k (λ y. rw (y, get_or-set_same indexes k r 0 h) (omega arith)) (λ y. rw (get_or-set_other indexes k q r 0 y) (g.known q (omega (arith, y))));
        marks = rw (e, g.marks) (placed-marks R t row r d few (omega arith));
        rest = rw e (g.rest ∙ ap (λ m. grown (ready R t) (names R) m row) z
            ∙ grown-some (ready R t) (names R) (n - (k + 1)) row (name_at R r) (sym (first-ready R t row sub) ∙ f));
      }

  pub ordering-stop : (placed : Row) (waits : List ℕ) → find (free R (is_waiting t (map (name_at R) (take placed.count placed.indexes)))) (names R) ≡ none
      → Ordering R t placed.indexes waits placed.count (n - placed.count) → RowIs R placed (order R t)
  ordering-stop placed waits f g =
      let row = map (name_at R) (take placed.count placed.indexes) in
      record {
        names-are = sym (g.rest ∙ grown-none (ready R t) (names R) (n - placed.count) row (sym (first-ready R t row sub) ∙ f));
        known = g.known;
      }

  pub ordering-end : (placed : Row) (waits : List ℕ) → n ≤ placed.count → Ordering R t placed.indexes waits placed.count (n - placed.count) → RowIs R placed (order R t)
  unfolding grown
  ordering-end placed waits h g =
      let z : n - placed.count ≡ 0 = omega arith in
      record { names-are = sym (g.rest ∙ ap (λ m. grown (ready R t) (names R) m (map (name_at R) (take placed.count placed.indexes))) z); known = g.known }
