-- The laws that the code of suggestions cites, and that it does not matter which of two concurrent edits is named first. Assumes nothing.
use Prim.Native.Nat.{ℕ, min, max}
use mathlib.Core.Path.{◌≡◌, refl}
use mathlib.Core.Bool.{Bool, true, false, cond, not, ◌&&◌}
use mathlib.Core.List.{[], ◌∷◌}
use native.Mathlib.Omega.{arith}
use lib.Dec.{eqb, ltb}
use Rattle.std.specs.Prelude.{Result, Ok, Err}
use Rattle.lists.proofs.Lists.{by}
use Rattle.refusals.specs.declared.Refusal.{Refusal}
use Rattle.refusals.specs.declared.Refusal.TheVariants.{OutOfRange}
use Rattle.refusals.specs.Numbers.{Gives}
use Rattle.record.specs.declared.Body.{Body}
use Rattle.record.specs.declared.Body.TheVariants.{Insert, Set, Remove}
use Rattle.record.specs.declared.Edit.{Edit}
use Rattle.record.specs.Record.{place_of}
use Rattle.record_rows.specs.row.Row.{Row, name_cell, edit_in_range, edit_of, field_number}
use Rattle.suggestions.specs.Suggest.{concurrent_table, advice_of, advised, rows_of, pair_fault, suggested_rules, suggested}
use Rattle.suggestions.specs.declared.Suggested.{Suggested}
use Rattle.lists.proofs.Tests.{eqb-swapped}
use Rattle.suggestions.specs.declared.Advice.TheVariants.{Nothing, Noncommuting}

-- Concurrent edits suggest the same whichever is named first.
table-swapped : (a b : Body) → concurrent_table a b ≡ concurrent_table b a
unfolding concurrent_table
table-swapped (Insert p) (Insert q) = refl
table-swapped (Insert p) (Set q g w) = refl
table-swapped (Insert p) (Remove q) = refl
table-swapped (Set p f v) (Insert q) = refl
table-swapped (Set p f v) (Set q g w) = eqb-swapped (field_number f) (field_number g)
table-swapped (Set p f v) (Remove q) = refl
table-swapped (Remove p) (Insert q) = refl
table-swapped (Remove p) (Set q g w) = refl
table-swapped (Remove p) (Remove q) = refl

advised-swapped : (a b : Edit) → advised 1 a b ≡ advised 1 b a
unfolding advised advice_of
advised-swapped a b = rw (eqb-swapped a.name b.name, eqb-swapped (place_of a.body) (place_of b.body), table-swapped a.body b.body)

pair-swapped : (x y : ℕ) → rows_of Noncommuting x y ≡ rows_of Noncommuting y x
pair-swapped x y =
    let p : min x y ≡ min y x = omega arith in
    let q : max x y ≡ max y x = omega arith in
    λ i. (p i ∷ 2 ∷ q i ∷ []) ∷ []

rows-swapped : (c : Bool) (x y : ℕ) → rows_of (cond c Noncommuting Nothing) x y ≡ rows_of (cond c Noncommuting Nothing) y x
rows-swapped true x y = pair-swapped x y
rows-swapped false x y = refl

advised-rows-swapped : (a b : Edit) (x y : ℕ) → rows_of (advised 1 a b) x y ≡ rows_of (advised 1 a b) y x
unfolding advised advice_of
advised-rows-swapped a b x y =
    by (not (eqb a.name b.name) && eqb (place_of a.body) (place_of b.body))
    (λ e. rw e (rows-swapped (concurrent_table a.body b.body) x y))
    (λ e. rw e)

both-swapped : (x y : Bool) → (x && (y && true)) ≡ (y && (x && true))
both-swapped true true = refl
both-swapped true false = refl
both-swapped false true = refl
both-swapped false false = refl

pub suggested-swapped : (a b : Row) → suggested a b 1 ≡ suggested b a 1
unfolding suggested suggested_rules
suggested-swapped a b =
    rw (advised-rows-swapped (edit_of a) (edit_of b) (name_cell a) (name_cell b), advised-swapped (edit_of a) (edit_of b), both-swapped (edit_in_range a) (edit_in_range b))

-- the answer by its number and its rows
gives-so : (c : Bool) (x : Suggested) → Gives (cond c 0 2) x (cond c (Ok x) (Err OutOfRange))
gives-so true x = (refl, refl)
gives-so false x = (refl, tt)

pub suggested-gives : (a b : Row) (kind : ℕ) → {r : Result Suggested Refusal} → r ≡ suggested a b kind → Gives (pair_fault a b kind) (suggested_rules a b kind) r
unfolding suggested pair_fault
suggested-gives a b kind e = rw e (gives-so (edit_in_range a && (edit_in_range b && ltb kind 2)) (suggested_rules a b kind))
