-- The demands of the rules by seats, and the loop over the constraints. Assumes nothing.
use mathlib.Core.Path.{◌≡◌, refl, sym, ap, ◌∙◌}
use mathlib.Core.Bool.{Bool, true, false, not, ◌&&◌, and-false}
use mathlib.Core.List.{List, [], ◌∷◌}
use Prim.Native.Nat.{ℕ, zero, suc, ◌<◌}
use native.Mathlib.Omega.{arith}
use lib.Dec.{eqb, ltb}
use lib.ListN.{length, take, get_or}
use lib.Pointwise.{pointwise}
use lib.Seq.{take_all}
use borrow.Author.Tests.{ltb-true, lt-ltb, eq-eqb, ne_eqb}
use Rattle.record.specs.declared.Constraint.{Constraint}
use Rattle.std.specs.Bool.{MatchBool}
use Rattle.std.specs.List.{AllWithin, HoldsAt}
use Rattle.lists.specs.Lists.{◌among◌, all, mem, index_of, position_of}
use Rattle.record.specs.Record.{Record, names, has}
use Rattle.record.specs.Stored.{filler_constraint}
use Rattle.record.specs.Judgement.{fits, starts_with_init, sound_row}
use Rattle.lists.proofs.Lists.{is-by, same_by, position-none, position_some, position_at}
use Rattle.lists.proofs.Front.{all-broken}
use Rattle.graph.proofs.links.Names.{place-known}
use Rattle.graph.specs.indexes.Fit.{Fit}
use Rattle.graph.specs.indexes.Indexed.{Indexed}
use Rattle.graph.proofs.indexes.Resolving.{has-at, left-known, right-known}
use Rattle.judgement.specs.row_test.Seats.{Seated, known_apart}

module _ (row : List ℕ) (x : ℕ) {a : ℕ} (p : a ≡ position_of x row) where
  absent : a ≡ 0 → mem x row ≡ false
  absent e = position-none x row (sym p ∙ e)

  here : (a ≡ 0 → ⊥) → mem x row ≡ true
  here n = position_some x row (λ e. n (p ∙ e))

module _ (row : List ℕ) (x y a b : ℕ) (p : a ≡ position_of x row) (q : b ≡ position_of y row) where
  pub earlier-absent : a ≡ 0 → true ≡ fits row x 0 y
  unfolding fits
  earlier-absent e = rw (absent row x p e)

  pub earlier-alone : b ≡ 0 → true ≡ fits row x 0 y
  unfolding fits
  earlier-alone e = rw (absent row y q e, and-false (mem x row))

  pub earlier-both : (a ≡ 0 → ⊥) → (b ≡ 0 → ⊥) → ltb a b ≡ fits row x 0 y
  unfolding fits
  earlier-both n m =
      let u = p ∙ position_at x row (here row x p n) in
      let v = q ∙ position_at y row (here row y q m) in
      rw (here row x p n, here row y q m)
      (same_by _ _ (λ h. lt-ltb (index_of x row) (index_of y row) (omega (arith, ltb-true a b h))) (λ h. lt-ltb a b (omega (arith, ltb-true (index_of x row) (index_of y row) h))))

  pub with-absent : b ≡ 0 → true ≡ fits row x 1 y
  unfolding fits
  with-absent e = rw (absent row y q e)

  pub with-right : (b ≡ 0 → ⊥) → not (eqb a 0) ≡ fits row x 1 y
  unfolding fits
  with-right m =
      rw (here row y q m) (is-by a 0 (λ e. rw (eq-eqb a 0 e, absent row x p e)) (λ e. rw (ne_eqb a 0 e, here row x p e)))

pub fits-other : (row : List ℕ) (x k y : ℕ) → (k ≡ 0 → ⊥) → (k ≡ 1 → ⊥) → true ≡ fits row x k y
unfolding fits
fits-other row x zero y n m = absurd (n refl)
fits-other row x (suc zero) y n m = absurd (m refl)
fits-other row x (suc (suc k)) y n m = refl

-- the seat of a known name
pub known-seat : (R : Record) (table row places : List ℕ) → Indexed R table → Seated R row places → (x w i : ℕ) → x among names R → w ≡ x → i ≡ get_or table w 0 → get_or places i 0 ≡ position_of x row
known-seat R table row places t s x w i k p q =
    ap (λ v. get_or places v 0) (q ∙ ap (λ v. get_or table v 0) p ∙ t x ∙ place-known x (names R) k) ∙ s x k

-- what `is_fitting` says of a constraint
abbrev pub TellsFit : List ℕ → List ℕ → Constraint → Bool → Type 0
TellsFit table places c b =
    (R : Record) (row : List ℕ) → Indexed R table → Seated R row places → c.left among names R → c.right among names R → b ≡ fits row c.left c.rule c.right

-- the test of a record's constraints, where each is told of by itself
module _ (R : Record) (f : Fit R) (table row places : List ℕ) (t : Indexed R table) (s : Seated R row places) where
  abbrev fitting : Constraint → Bool
  fitting c = fits row c.left c.rule c.right

  told-fits : (l : List Constraint) → l ≡ R.constraints → (k : ℕ) (d : Constraint) → k < length l → (b : Bool) → TellsFit table places (get_or l k d) b → b ≡ fitting (get_or l k d)
  told-fits l e k d h b is =
      let stands : has (get_or l k d).left (get_or l k d).rule (get_or l k d).right R.constraints ≡ true = rw e (has-at R.constraints k d (omega (arith, ap length e))) in
      is R row t s (left-known f.formed _ _ _ stands) (right-known f.formed _ _ _ stands)

  every : (l : List Constraint) → ((k : ℕ) (d : Constraint) → k < length l → true ≡ fitting (get_or l k d)) → true ≡ all fitting l
  unfolding all
  every [] h = refl
  every (c ∷ l) h = rw (← h 0 c (omega arith)) (every l (λ k d e. h (suc k) d (omega arith)))

  pub fitting-told : (l : List Constraint) → l ≡ R.constraints → (r : Bool)
      → MatchBool r (AllWithin (λ c. TellsFit table places c true) l 0 (length l)) ((k : ℕ) × (k < length l) × HoldsAt (λ c. TellsFit table places c false) l k)
      → r ≡ all fitting R.constraints
  fitting-told l e true w = every l (λ k d h. told-fits l e k d h true (w k d (omega arith) h)) ∙ ap (all fitting) e
  fitting-told l e false w =
      sym (all-broken fitting l (length l) w.0 filler_constraint w.1 (omega arith) (sym (told-fits l e w.0 filler_constraint w.1 false (w.2 filler_constraint)))) ∙ ap (all fitting) (take_all (length l) l (omega arith) ∙ e)

-- the whole test: the library's test of the number at the start of a row
pub init-starts : (row : List ℕ) → pointwise eqb (0 ∷ []) (take 1 row) ≡ starts_with_init row
init-starts [] = refl
init-starts (x ∷ row) = starts x
  where
    starts : (x : ℕ) → (eqb 0 x && true) ≡ eqb x 0
    starts zero = refl
    starts (suc x) = rw (ne_eqb 0 (suc x) (λ h. omega (arith, h)), ne_eqb (suc x) 0 (λ h. omega (arith, h)))

pub start-not : (R : Record) (row : List ℕ) → starts_with_init row ≡ false → false ≡ sound_row R row
unfolding sound_row
start-not R row e = rw e

module _ (R : Record) (row : List ℕ) (e : starts_with_init row ≡ true) where
  pub seats-not : false ≡ known_apart R row → false ≡ sound_row R row
  unfolding sound_row known_apart
  seats-not h = rw e (sym (none (all (λ x. mem x (names R)) row) _ _ (sym h)))
    where
      none : (a b c : Bool) → (a && b) ≡ false → (a && (b && c)) ≡ false
      none true true c h = absurd (let z : ◌≡◌ {A = ℕ} 0 1 = cc in omega arith)
      none true false c h = refl
      none false b c h = refl

  pub seats-then : (b : Bool) → true ≡ known_apart R row → b ≡ all (λ c. fits row c.left c.rule c.right) R.constraints → b ≡ sound_row R row
  unfolding sound_row known_apart
  seats-then b h q = rw (e, q) (sym (both (all (λ x. mem x (names R)) row) _ _ (sym h)))
    where
      both : (a b c : Bool) → (a && b) ≡ true → (a && (b && c)) ≡ c
      both true true c h = refl
      both true false c h = absurd (let z : ◌≡◌ {A = ℕ} 0 1 = cc in omega arith)
      both false b c h = absurd (let z : ◌≡◌ {A = ℕ} 0 1 = cc in omega arith)
